-- What the loop makes of its commands: the chip's run (`chip_run_from`) over a source of commands that is a trace; or
-- given commands, n of them, each with its second number one higher than the one in front of it. On the words of the
-- whole chip it makes steps of the chip, on those of the data side alone steps of that.
use Prim.Native.Nat.{ℕ, zero, suc, ◌+◌, ◌*◌, ◌-◌, ◌≤◌, ◌<◌}
use Rattle.std.specs.Prelude.{Bool, cond, List, ◌∷◌, ◌≡◌, length, drop, set, ltb, leb}
use Rattle.std.proofs.Math.Bool.{true, false}
use Rattle.std.proofs.Math.Path.{refl}
use Rattle.std.proofs.Common.{sym, ◌∙◌, add-one, length-set}
use native.Mathlib.Omega.{arith}
use Rattle.std.proofs.Common.{Option, Some, Result, Ok, Err}
use Rattle.kinds.specs.Numbers.{refusal_number}
use Rattle.kinds.specs.declared.Refusal.{Refusal}
use Rattle.std.specs.Option.{IfSome}
use Rattle.std.proofs.Math.Numerals.{add-two}
use Rattle.std.proofs.Math.Dec.{eqb}
use borrow.Author.Tests.{lt-ltb, le-ltb, eq-eqb, ne_eqb}
use Rattle.model.specs.Records.{State}
use Rattle.model.specs.Trace.{Decoded, decoded, decode, command}
use Rattle.model.specs.Calls.{Reply, step, Run, ran, put_answer, command_at, put_reply}
use Rattle.model.specs.Bytes.{stored, little_bytes}
use Rattle.model.specs.Laws.{bool, length-little_bytes}
use Rattle.memory.specs.Values.{stored-sets}
use Rattle.model.specs.declared.Command.{Command}
use Rattle.program.specs.Fetches.{Chip, ChipReply}
use Rattle.program.specs.Chip.{chip_step}
use Rattle.program.specs.Runs.{ChipRun, chip_ran, put_chip_reply, chip_run_from}
use Rattle.decode.specs.Told.{told}
use Rattle.decode.specs.declared.Decoded.{Decoded as Next}

-- ---- where commands come from
-- given command i
abbrev pub raised : Command → ℕ → Command
raised c i = command c.code c.first (c.second + i) c.value

abbrev pub source_of : ℕ → Command → List ℕ → ℕ → Decoded
source_of n c t i = cond (eqb n 0) (decode (drop i t)) (decoded (raised c i) 1)

unfoldable pub end_of : ℕ → List ℕ → ℕ
end_of n t = cond (eqb n 0) (length t) n

-- the command at a place; one that lies before the end takes a byte at least and ends before it
pub record NextAt (n : ℕ) (c : Command) (t : List ℕ) (at : ℕ) (r : Option Next) : Type 0 where
  pub same : told r ≡ source_of n c t at
  pub within : IfSome r (λ d. at < end_of n t → (1 ≤ d.used) × (at + d.used ≤ end_of n t))

-- why a run stops before a command: 11, then 12
unfoldable pub stop_of : Bool → ℕ → ℕ → ℕ
stop_of ok len k = cond ok (cond (leb (k * 10 + 10) len) 0 12) 11

-- a command d that the run goes on with, behind k answers of which len bytes hold all: its answer has room
pub record Taken (n : ℕ) (c : Command) (t : List ℕ) (at k len : ℕ) (d : Next) : Type 0 where
  pub same : told (Some d) ≡ source_of n c t at
  pub goes : stop_of (source_of n c t at).ok len k ≡ 0
  pub more : 1 ≤ d.used
  pub to : at + d.used ≤ end_of n t
  pub room : k * 10 + 10 ≤ len

-- .. or why it stops there
abbrev pub TakenAt : ℕ → Command → List ℕ → ℕ → ℕ → ℕ → Result Next Refusal → Type 0
TakenAt n c t at k len (Ok d) = Taken n c t at k len d
TakenAt n c t at k len (Err e) = refusal_number e ≡ stop_of (source_of n c t at).ok len k

-- ---- the run over a source of commands, by a machine: what it makes of a command, the state behind that, how its
-- answer is put down, and what a run of it gives
pub record Machine (S A R : Type 0) : Type 0 where
  pub does : Command → S → A
  pub behind : A → S
  pub puts : List ℕ → ℕ → A → List ℕ
  pub gives : S → ℕ → ℕ → ℕ → List ℕ → R

unfoldable pub executes : {S A R : Type 0} → Machine S A R → (ℕ → Decoded) → ℕ → ℕ → ℕ → S → ℕ → List ℕ → R
executes m source end zero i z k o = m.gives z i k 0 o
executes m source end (suc turns) i z k o =
    cond (ltb i end)
    (cond (eqb (stop_of (source i).ok (length o) k) 0)
    (executes m source end turns (i + (source i).used) (m.behind (m.does (source i).found z)) (suc k) (m.puts o k (m.does (source i).found z)))
    (m.gives z i k (stop_of (source i).ok (length o) k) o))
    (m.gives z i k 0 o)

-- the data side alone, and the whole chip
abbrev pub data_machine : Machine State Reply Run
data_machine = record { does = step; behind = λ r. r.next; puts = put_reply; gives = ran }

abbrev pub chip_machine : Machine Chip ChipReply ChipRun
chip_machine = record { does = chip_step; behind = λ r. r.next; puts = put_chip_reply; gives = chip_ran }

-- ---- over a trace it is the chip's run
pub executes-run : (t : List ℕ) (turns i : ℕ) (x : Chip) (k : ℕ) (o : List ℕ) →
    executes chip_machine (command_at t) (length t) turns i x k o ≡ chip_run_from t turns i x k o
unfolding executes chip_run_from stop_of
executes-run t zero i x k o = refl
executes-run t (suc turns) i x k o =
    let r = chip_step (command_at t i).found x in
    bool (ltb i (length t))
    (λ b. bool (command_at t i).ok
    (λ c. bool (leb (k * 10 + 10) (length o))
    (λ d. rw (b, c, d) (executes-run t turns (i + (command_at t i).used) r.next (suc k) (put_chip_reply o k r)))
    (λ d. rw (b, c, d) refl))
    (λ c. rw (b, c) refl))
    (λ b. rw b refl)

pub told-all : (n : ℕ) (c : Command) (t : List ℕ) (x : Chip) (o : List ℕ) (r : ChipRun) →
    r ≡ executes chip_machine (source_of n c t) (end_of n t) (end_of n t) 0 x 0 o → n ≡ 0 → r ≡ chip_run_from t (length t) 0 x 0 o
unfolding end_of
told-all n c t x o r e s =
    let f : r ≡ executes chip_machine (command_at t) (length t) (length t) 0 x 0 o = rw s at e in f ∙ executes-run t (length t) 0 x 0 o

-- ---- how the loop goes on, stops and ends: what is left to do gives the whole
module _ {S A R : Type 0} (m : Machine S A R) (source : ℕ → Decoded) (end at k : ℕ) (z : S) (o : List ℕ) (whole : R) where
  pub turn : at < end → k ≤ at → (d : Next) → told (Some d) ≡ source at → stop_of (source at).ok (length o) k ≡ 0 →
      (x : A) → x ≡ m.does d.command z → executes m source end (end - k) at z k o ≡ whole →
      executes m source end (end - (k + 1)) (at + d.used) (m.behind x) (k + 1) (m.puts o k x) ≡ whole
  unfolding executes
  turn h le d ed es x ex inv =
      let n : end - k ≡ suc (end - (k + 1)) = omega arith in
      let s : eqb (stop_of (source at).ok (length o) k) 0 ≡ true = eq-eqb (stop_of (source at).ok (length o) k) 0 es in
      let inv' = rw (n, lt-ltb at end h, s) at inv in
      rw (ex, add-one) (rw (← ed, add-one) at inv')

  pub stopped : at < end → k ≤ at → (s : ℕ) → s ≡ stop_of (source at).ok (length o) k → 0 < s →
      executes m source end (end - k) at z k o ≡ whole → m.gives z at k s o ≡ whole
  unfolding executes
  stopped h le s es ns inv =
      let n : end - k ≡ suc (end - (k + 1)) = omega arith in
      let t : eqb (stop_of (source at).ok (length o) k) 0 ≡ false
      = ne_eqb (stop_of (source at).ok (length o) k) 0 (λ e. omega arith) in
      rw es (rw (n, lt-ltb at end h, t) at inv)

  pub at-end : (n : ℕ) → end ≤ at → executes m source end n at z k o ≡ whole → m.gives z at k 0 o ≡ whole
  unfolding executes
  at-end zero h inv = inv
  at-end (suc n) h inv = rw (le-ltb at end h) at inv

-- ---- the ten bytes of an answer
pub answer-put : (o : List ℕ) (k n s v : ℕ) → k * 10 + 10 ≤ length o → (o' : List ℕ) →
    o' ≡ stored (set (set o (k * 10) n) (k * 10 + 1) s) (k * 10 + 2) (little_bytes v 8) → o' ≡ put_answer o k n s v
unfolding put_answer
answer-put o k n s v h o' e =
    let b = length-little_bytes v 8 in
    let x : length (set (set o (k * 10) n) (k * 10 + 1) s) ≡ length o = simp length-set refl in
    e ∙ stored-sets (set (set o (k * 10) n) (k * 10 + 1) s) (k * 10 + 2) (little_bytes v 8) (omega arith)
    ∙ rw (add-one, add-two) (sym (stored-sets o (k * 10) (n ∷ s ∷ little_bytes v 8) (long o k n s v h b)))
  where
    long : (o : List ℕ) (k n s v : ℕ) → k * 10 + 10 ≤ length o → length (little_bytes v 8) ≡ 8 → k * 10 + length (n ∷ s ∷ little_bytes v 8) ≤ length o
    long o k n s v h b = omega arith
