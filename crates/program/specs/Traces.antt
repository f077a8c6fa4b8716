-- 02, U4, read so: "every call but the view is lent the L1P buffer, runs and MAR changes too": runs over traces on the
-- whole chip, what is stated of them; proofs/Traces shows it. A run on a well-formed chip is its commands called one
-- after another, as calls of the chip (`ChipRunIsCalls`), all codes, damaged traces and too few answer bytes included;
-- one that check 1 or 2 refuses does nothing (`ChipRunRefused`). So demand 3 holds for runs too: Items has the lists in
-- which they stand.
use Rattle.std.specs.Prelude.{ℕ, suc, ◌*◌, true, ◌≡◌, ◌≢◌, List, [], ◌∷◌, ◌++◌, length}
use Rattle.model.specs.Bytes.{part, little_bytes}
use Rattle.model.specs.Flat.{Flat}
use Rattle.model.specs.Calls.{one_command, commands}
use Rattle.model.specs.declared.Command.{Command}
use Rattle.agreement.specs.Demand.{global, Settled}
use Rattle.agreement.specs.Traces.{carried, Carries, AnswersAgree, Piece, piece_commands}
use Rattle.program.specs.Fetches.{Chip, ChipReply}
use Rattle.program.specs.Chip.{chip_lent_due, ChipCall, on_data, chip_called}
use Rattle.program.specs.Lists.{flat_chip, chip_remembered, ChipAgree}
use Rattle.program.specs.Runs.{chip_ran, chip_run_call, chip_after, on_data_all}
use Rattle.program.specs.Stays.{ChipShape}

-- ---- commands as calls of the chip
abbrev pub chip_commands : List Command → List ChipCall
chip_commands cs = on_data_all (commands cs)

abbrev pub command_called : Command → Chip → ChipReply
command_called c x = chip_called (on_data (one_command c)) x

-- ---- the answers from the k-th on are those of the calls: ten bytes each, number, server, value
abbrev pub answer_bytes : ChipReply → List ℕ
answer_bytes r = r.number ∷ r.server ∷ little_bytes r.value 8

pub data ChipAnswersAre (o : List ℕ) : ℕ → List Command → Chip → Type 0 where
  end : {k : ℕ} {x : Chip} → ChipAnswersAre o k [] x
  next : {k : ℕ} {c : Command} {cs : List Command} {x : Chip} →
      part o (k * 10) 10 ≡ answer_bytes (command_called c x) → ChipAnswersAre o (suc k) cs (command_called c x).next →
      ChipAnswersAre o k (c ∷ cs) x

-- ---- a run is its commands called one after another: the chip, the count, the answers, the bytes consumed and the
-- stop number; which commands it carries out and where it stops goes by trace and answer bytes alone
-- (agreement/specs/Traces)
pub record ChipRunIsCalls (trace answers : List ℕ) (x : Chip) : Type 0 where
  pub next : (chip_run_call trace answers x).next ≡ chip_after (chip_commands (carried trace (length answers))) x
  pub count : (chip_run_call trace answers x).count ≡ length (carried trace (length answers))
  pub answers-are : ChipAnswersAre (chip_run_call trace answers x).answers 0 (carried trace (length answers)) x
  pub stops : Carries trace (length answers) 0 0 (carried trace (length answers)) (chip_run_call trace answers x).consumed (chip_run_call trace answers x).stop

abbrev pub ChipRunsAreCalls : Type 0
ChipRunsAreCalls = (t o : List ℕ) (x : Chip) → ChipShape x → chip_lent_due x ≡ 0 → ChipRunIsCalls t o x

-- 01: "A run checks 1 and 2 first; either one stops it with nothing consumed, answered or changed."
abbrev pub ChipRunRefused : Type 0
ChipRunRefused = (t o : List ℕ) (x : Chip) → chip_lent_due x ≢ 0 → chip_run_call t o x ≡ chip_ran x 0 0 (chip_lent_due x) o

-- ---- flat memory after calls of the chip, and the accepted ones behind them
unfoldable pub flat_chip_after : List ChipCall → Flat → Flat
flat_chip_after [] f = f
flat_chip_after (c ∷ cs) f = flat_chip_after cs (flat_chip c f).next

unfoldable pub chip_remembered_all : List ChipCall → Chip → List ChipCall → List ChipCall
chip_remembered_all [] x h = h
chip_remembered_all (c ∷ cs) x h = chip_remembered_all cs (chip_called c x).next (chip_remembered c x h)

abbrev pub piece_calls : Piece → List ChipCall
piece_calls p = chip_commands (piece_commands p)

-- ---- what agrees of one run, behind the accepted calls h: its answers are flat memory's (agreement/specs/Traces); the
-- calls that it is agree at each of their places; and where it ends with a global writeback, external memory and SRAM
-- are flat memory's, and no line is dirty
pub record ChipRunAgrees (h : List ChipCall) (p : Piece) (x : Chip) (f : Flat) : Type 0 where
  pub answers : AnswersAgree (chip_run_call p.trace p.answers x).answers 0 (piece_commands p) f
  pub places : ChipAgree h (piece_calls p) x f
  pub ended : (cs : List Command) (c : Command) → piece_commands p ≡ cs ++ (c ∷ []) → global (one_command c) ≡ true →
      Settled (chip_run_call p.trace p.answers x).next.data_side (flat_chip_after (piece_calls p) f)
