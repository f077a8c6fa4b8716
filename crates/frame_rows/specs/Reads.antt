-- The reads of a frame, as the loop of crate run makes them: rows, each of them given commands of one address after
-- another. Rows one behind another are the reads in the frame's order (`reads-join`), and the third byte of an answer
-- is the low byte of what its read gave (`answer-byte`).
use Prim.Native.Nat.{ℕ, zero, suc, ◌+◌, ◌*◌, ◌-◌, ◌%◌, ◌≤◌, ◌<◌}
use Rattle.std.specs.Prelude.{◌≡◌, List, ◌∷◌, length, get_or, ltb}
use Rattle.std.proofs.Math.Path.{refl}
use Rattle.std.proofs.Common.{sym, ap, ◌∙◌, ltb-true, ltb-false}
use native.Mathlib.Omega.{arith}
use Rattle.model.specs.Basics.{each}
use Rattle.model.specs.Bytes.{little_bytes}
use Rattle.model.specs.Records.{State}
use Rattle.model.specs.Trace.{command}
use Rattle.model.specs.Calls.{Reply, step, put_answer, put_reply}
use Rattle.model.specs.Bytewise.{byte_read, calls_to}
use Rattle.model.specs.Laws.{bool, length-little_bytes, stored-before, stored-in}
use Rattle.model.specs.declared.Command.{Command}
use Rattle.agreement.proofs.Good.{Well}
use Rattle.agreement.proofs.Tested.{call_step, call-well}
use Rattle.run.specs.Executed.{raised}
use Rattle.run.specs.Upwards.{up_state, up_answers, up-long}

-- ---- the state behind the first k reads from p on, and the low byte of what read i gives
abbrev pub reads_to : ℕ → ℕ → State → State
reads_to p k z = each (λ i y. (step (byte_read p i) y).next) k z

abbrev pub byte_given : ℕ → State → ℕ → ℕ
byte_given p z i = (step (byte_read p i) (reads_to p i z)).value % 256

pub no_reads : (p : ℕ) (z : State) → z ≡ reads_to p 0 z
unfolding each
no_reads p z = refl

-- ---- reads behind m others
module _ (p m : ℕ) (z : State) where
  behind : (k : ℕ) → p + m + k ≡ p + (m + k)
  behind k = omega arith

  pub reads-join : (k : ℕ) → reads_to (p + m) k (reads_to p m z) ≡ reads_to p (m + k) z
  unfolding each
  reads-join zero = let e : m + 0 ≡ m = omega arith in rw e refl
  reads-join (suc k) =
      let e : m + suc k ≡ suc (m + k) = omega arith in
      rw e (λ i. (step (command 0 1 (behind k i) 0) (reads-join k i)).next)

  pub byte-join : (k : ℕ) → byte_given (p + m) (reads_to p m z) k ≡ byte_given p z (m + k)
  byte-join k = λ i. (step (command 0 1 (behind k i) 0) (reads-join k i)).value % 256

-- ---- the answers of given commands: the third byte of each
module _ (o : List ℕ) (k : ℕ) (x : Reply) (room : k * 10 + 10 ≤ length o) where
  abbrev ten : List ℕ
  ten = x.number ∷ x.server ∷ little_bytes x.value 8

  takes-ten : length ten ≡ 10
  takes-ten = let n = length-little_bytes x.value 8 in omega arith

  third-byte : get_or (put_reply o k x) (k * 10 + 2) 0 ≡ x.value % 256
  unfolding put_answer little_bytes
  third-byte =
      let l = takes-ten in let i : k * 10 + 2 - k * 10 ≡ 2 = omega arith in
      stored-in o ten (k * 10) (k * 10 + 2) (omega arith) (omega arith) (omega arith) ∙ rw i refl

  byte-before : (j : ℕ) → j < k → get_or (put_reply o k x) (j * 10 + 2) 0 ≡ get_or o (j * 10 + 2) 0
  unfolding put_answer
  byte-before j h = let l = takes-ten in stored-before o ten (k * 10) (j * 10 + 2) (omega arith) (omega arith)

pub answer-byte : (c : Command) (n : ℕ) (z : State) (o : List ℕ) → n * 10 ≤ length o → (k : ℕ) → k < n →
    get_or (up_answers c n z o) (k * 10 + 2) 0 ≡ (step (raised c k) (up_state c k z)).value % 256
unfolding up_answers
answer-byte c zero z o room k h = absurd (omega arith)
answer-byte c (suc n) z o room k h =
    let l = up-long c n z o in let x = step (raised c n) (up_state c n z) in
    bool (ltb k n)
    (λ t. let lt = ltb-true k n t in byte-before (up_answers c n z o) n x (omega arith) k lt ∙ answer-byte c n z o (omega arith) k lt)
    (λ f. let ge = ltb-false k n f in let e : k ≡ n = omega arith in rw e (third-byte (up_answers c n z o) n x (omega arith)))

-- ---- reads by steps are reads by calls, where the first finds a well-formed state
pub record Called (p k : ℕ) (z : State) : Type 0 where
  pub same : reads_to p k z ≡ calls_to (byte_read p) k z
  pub well : Well (calls_to (byte_read p) k z)

pub reads-called : (p k : ℕ) (z : State) → Well z → Called p k z
unfolding each
reads-called p zero z q = record { same = refl; well = q }
reads-called p (suc k) z q =
    let r = reads-called p k z q in let c = byte_read p k in let y = calls_to (byte_read p) k z in
    record {
      same = ap (λ (u : State). (step c u).next) r.same ∙ sym (ap (λ (x : Reply). x.next) (call_step c y r.well));
      well = call-well c y r.well;
    }
