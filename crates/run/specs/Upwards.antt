-- Given commands, n of them, where their answers have room: each is the step of the state that those in front of it
-- left, and its answer is put down behind theirs (`all_up`). The loop over them is this (`told-up`).
use Prim.Native.Nat.{ℕ, zero, suc, ◌+◌, ◌*◌, ◌≤◌, ◌<◌}
use Rattle.std.specs.Prelude.{◌≡◌, List, ◌≢◌, length}
use Rattle.std.proofs.Math.Path.{refl}
use Rattle.std.proofs.Common.{◌∙◌, add-one}
use native.Mathlib.Omega.{arith}
use borrow.Author.Tests.{lt-ltb, le-leb, ne_eqb}
use Rattle.model.specs.Basics.{each}
use Rattle.model.specs.Records.{State}
use Rattle.model.specs.Laws.{length-stored}
use Rattle.model.specs.Calls.{step, Run, ran, put_answer, put_reply}
use Rattle.model.specs.declared.Command.{Command}
use Rattle.run.specs.Executed.{raised, source_of, end_of, stop_of, data_machine, executes}

-- the state behind k of them
abbrev pub up_state : Command → ℕ → State → State
up_state c k z = each (λ i y. (step (raised c i) y).next) k z

-- the answers of k of them, put down one behind another
unfoldable pub up_answers : Command → ℕ → State → List ℕ → List ℕ
up_answers c zero z o = o
up_answers c (suc k) z o = put_reply (up_answers c k z o) k (step (raised c k) (up_state c k z))

abbrev pub all_up : Command → ℕ → State → List ℕ → Run
all_up c n z o = ran (up_state c n z) n n 0 (up_answers c n z o)

-- ---- their answers take the room that was there
pub up-long : (c : Command) (k : ℕ) (z : State) (o : List ℕ) → length (up_answers c k z o) ≡ length o
unfolding up_answers put_answer
up-long c zero z o = refl
up-long c (suc k) z o = simp length-stored refl ∙ up-long c k z o

-- ---- from command k on, the loop does the rest
module _ (n : ℕ) (c : Command) (t : List ℕ) (z : State) (o : List ℕ) (some : n ≢ 0) (room : n * 10 ≤ length o) where
  up_one : (k left : ℕ) → k < n →
      executes data_machine (source_of n c t) n (suc left) k (up_state c k z) k (up_answers c k z o)
      ≡ executes data_machine (source_of n c t) n left (suc k) (up_state c (suc k) z) (suc k) (up_answers c (suc k) z o)
  unfolding executes stop_of up_answers each
  up_one k left h =
      let f = ne_eqb n 0 some in let l = up-long c k z o in
      rw (f, lt-ltb k n h, le-leb (k * 10 + 10) (length (up_answers c k z o)) (omega arith), add-one) refl

  up_rest : (left k : ℕ) → left + k ≡ n →
      executes data_machine (source_of n c t) n left k (up_state c k z) k (up_answers c k z o) ≡ all_up c n z o
  unfolding executes
  up_rest zero k h = let e : k ≡ n = omega arith in rw e refl
  up_rest (suc left) k h = up_one k left (omega arith) ∙ up_rest left (suc k) (omega arith)

pub told-up : (n : ℕ) (c : Command) (t : List ℕ) (z : State) (o : List ℕ) (x : Run) →
    x ≡ executes data_machine (source_of n c t) (end_of n t) (end_of n t) 0 z 0 o → 2 ≤ n → n * 10 ≤ length o → x ≡ all_up c n z o
unfolding end_of each up_answers
told-up n c t z o x e h room =
    let some : n ≢ 0 = λ i. omega arith in
    rw (ne_eqb n 0 some) at e ∙ up_rest n c t z o some room n 0 (omega arith)
