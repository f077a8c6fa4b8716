-- The step that a code asks for at one way of L1D, and that it leaves S and the number of L2 sets.
use Rattle.std.specs.Prelude.{ℕ, cond, ◌≡◌, refl, eqb}
use Rattle.model.specs.Records.{State}
use Rattle.model.specs.Ways.{empty_l1d}
use Rattle.model.specs.Access.{writeback_l1d, evict_l1d}
use Rattle.model.specs.Laws.{bool}
use Rattle.tags.specs.Sizes.{same-empty-l1d, same-writeback-l1d, same-evict-l1d}
use Rattle.kinds.specs.Numbers.{l1d_operation_code, l1d_of_code}
use Rattle.sweeps.specs.Fixed.{Fixed}

-- ---- the definition of paper 01 that a code asks for at a way of L1D: 7 writeback-invalidate, 10 what a mode change
-- does, else invalidate
unfoldable pub l1d_operation : ℕ → ℕ → ℕ → State → State
l1d_operation code = cond (eqb code 7) evict_l1d (cond (eqb code 10) writeback_l1d empty_l1d)

-- an operation made of a code is that code's, whatever code it is
pub l1d_operation-of_code : (k : ℕ) → l1d_operation (l1d_operation_code (l1d_of_code k)) ≡ l1d_operation k
unfolding l1d_operation
l1d_operation-of_code k =
    bool (eqb k 7) (λ e. rw e refl) (λ e. bool (eqb k 10) (λ f. rw (e, f) refl) (λ f. rw (e, f) refl))

pub act-fixed : (code s w : ℕ) → Fixed (l1d_operation code s w)
unfolding l1d_operation
act-fixed code s w =
    bool (eqb code 7) (λ e. rw e (same-evict-l1d s w))
    (λ e. bool (eqb code 10) (λ f. rw (e, f) (same-writeback-l1d s w)) (λ f. rw (e, f) (same-empty-l1d s w)))
