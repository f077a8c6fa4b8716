-- Demand 3 for runs over traces, what it says; `TraceAgreement` proves it. First for every well-formed state and
-- every trace: a run is its commands called one after another (`RunIsCalls`), all twelve codes, damaged traces and
-- too few answer bytes included. Then from an accepted fresh start: the answers of a run, or of runs over the pieces
-- of a trace, are flat memory's for reads, writes and mode changes, and global writebacks settle external memory
-- and SRAM (`TraceDemand3`).
use Rattle.std.specs.Prelude.{ℕ, zero, suc, ◌+◌, ◌*◌, ◌-◌, ◌≤◌, ◌<◌, true, false, cond, ◌≡◌, List, [], ◌∷◌, ◌++◌, length, ltb, leb}
use Rattle.model.specs.Bytes.{part, little_bytes}
use Rattle.model.specs.Records.{State}
use Rattle.model.specs.Flat.{Flat, fresh_flat, flat_step, flat_after}
use Rattle.model.specs.Calls.{call, run_from, run_call, fresh_call, command_at, one_command, after, commands}
use Rattle.agreement.specs.Demand.{compared, listed, global, Settled, Agree}
use Rattle.model.specs.declared.Command.{Command}

-- ---- as many turns as there are bytes left are enough, and more change nothing
abbrev pub TurnsSuffice : Type 0
TurnsSuffice =
    (t : List ℕ) (turns i : ℕ) (z : State) (k : ℕ) (o : List ℕ) → length t ≤ i + turns → run_from t turns i z k o ≡ run_from t (length t - i) i z k o

-- ---- the commands that a run carries out: those of the trace in their order, up to its end, to damage, or to where
-- fewer than 10 answer bytes are left
unfoldable pub carried_from : List ℕ → ℕ → ℕ → ℕ → ℕ → List Command
carried_from t room zero i k = []
carried_from t room (suc turns) i k =
    cond (ltb i (length t))
    (cond (command_at t i).ok
    (cond (leb (k * 10 + 10) room) ((command_at t i).found ∷ carried_from t room turns (i + (command_at t i).used) (suc k)) [])
    [])
    []

unfoldable pub carried : List ℕ → ℕ → List Command
carried t room = carried_from t room (length t) 0 0

-- ---- the answers from the k-th on are those of the calls: ten bytes each, number, server, value
pub data AnswersAre (o : List ℕ) : ℕ → List Command → State → Type 0 where
  end : {k : ℕ} {z : State} → AnswersAre o k [] z
  next : {k : ℕ} {c : Command} {cs : List Command} {z : State} →
      part o (k * 10) 10 ≡ (call c z).number ∷ (call c z).server ∷ little_bytes (call c z).value 8 → AnswersAre o (suc k) cs (call c z).next →
      AnswersAre o k (c ∷ cs) z

-- ---- where a run stops: from byte i on, with k answers so far, it carries out the commands cs and stops before byte
-- j with number n.
-- "11, then 12, stop it before that command"; "stop number (0 at the end)"
pub data Carries (t : List ℕ) (room : ℕ) : ℕ → ℕ → List Command → ℕ → ℕ → Type 0 where
  at_end : {i k : ℕ} → length t ≤ i → Carries t room i k [] i 0
  at_damage : {i k : ℕ} → i < length t → (command_at t i).ok ≡ false → Carries t room i k [] i 11
  at_full : {i k : ℕ} → i < length t → (command_at t i).ok ≡ true → room < k * 10 + 10 → Carries t room i k [] i 12
  onward : {i k j n : ℕ} {cs : List Command} → i < length t → (command_at t i).ok ≡ true → k * 10 + 10 ≤ room →
      Carries t room (i + (command_at t i).used) (suc k) cs j n → Carries t room i k ((command_at t i).found ∷ cs) j n

-- ---- a run is its commands called one after another: the state, the count, the answers, the bytes consumed and the
-- stop number
pub record RunIsCalls (trace answers : List ℕ) (z : State) : Type 0 where
  pub next : (run_call trace answers z).next ≡ after (commands (carried trace (length answers))) z
  pub count : (run_call trace answers z).count ≡ length (carried trace (length answers))
  pub answers-are : AnswersAre (run_call trace answers z).answers 0 (carried trace (length answers)) z
  pub stops : Carries trace (length answers) 0 0 (carried trace (length answers)) (run_call trace answers z).consumed (run_call trace answers z).stop

-- ---- the answers from the k-th on agree with flat memory's: for reads, writes and mode changes its number and its
-- value, whatever the server
pub data AnswersAgree (o : List ℕ) : ℕ → List Command → Flat → Type 0 where
  end : {k : ℕ} {f : Flat} → AnswersAgree o k [] f
  next : {k : ℕ} {c : Command} {cs : List Command} {f : Flat} →
      (compared (one_command c) ≡ true → (server : ℕ) × (part o (k * 10) 10 ≡ (flat_step c f).number ∷ server ∷ little_bytes (flat_step c f).value 8)) →
      AnswersAgree o (suc k) cs (flat_step c f).next → AnswersAgree o k (c ∷ cs) f

-- ---- a trace in pieces, each run with answer bytes of its own; all their commands
pub record Piece : Type 0 where
  pub trace : List ℕ
  pub answers : List ℕ

abbrev pub piece_commands : Piece → List Command
piece_commands p = carried p.trace (length p.answers)

unfoldable pub all_commands : List Piece → List Command
all_commands [] = []
all_commands (p ∷ ps) = piece_commands p ++ all_commands ps

-- ---- what agrees of one run: its answers; at each of its places, the calls that it is; and where it ends with a
-- global writeback, external memory and SRAM, and no line is dirty
pub record RunAgrees (p : Piece) (z : State) (f : Flat) : Type 0 where
  pub answers : AnswersAgree (run_call p.trace p.answers z).answers 0 (piece_commands p) f
  pub places : Agree (commands (piece_commands p)) z f
  pub ended : (cs : List Command) (c : Command) → piece_commands p ≡ cs ++ (c ∷ []) → global (one_command c) ≡ true →
      Settled (run_call p.trace p.answers z).next (flat_after (commands (piece_commands p)) f)

pub data RunsAgree : List Piece → State → Flat → Type 0 where
  end : {z : State} {f : Flat} → RunsAgree [] z f
  next : {p : Piece} {ps : List Piece} {z : State} {f : Flat} →
      RunAgrees p z f → RunsAgree ps (run_call p.trace p.answers z).next (flat_after (commands (piece_commands p)) f) →
      RunsAgree (p ∷ ps) z f

abbrev pub TraceDemand3 : Type 0
TraceDemand3 =
    (d m e : List ℕ) → (fresh_call d m e).number ≡ 0 →
    (ps : List Piece) → listed (commands (all_commands ps)) ≡ true → RunsAgree ps (fresh_call d m e).next (fresh_flat (length m) e)
