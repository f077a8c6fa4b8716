-- What checks 1 and 2 decide on the chip: the call is refused by their number with all as it was, or goes on; and then
-- the data side has passed its own.
use Rattle.std.specs.Prelude.{ℕ, zero, suc, ◌≡◌, refl, length, eqb}
use Rattle.std.proofs.Common.{arith}
use Rattle.std.proofs.Common.{Result, Err}
use Rattle.std.specs.Result.{IsErrAnd}
use Rattle.std.proofs.lemmas.Bool.Decides.{nat_tests}
use Rattle.std.proofs.lemmas.Result.{err_from_is_err_and}
use Rattle.kinds.specs.Numbers.{refusal_some}
use Rattle.kinds.specs.declared.Refusal.{Refusal}
use Rattle.model.specs.Refusals.{lowest_due, unless, lent_due}
use Rattle.program.specs.Fetches.{Chip}
use Rattle.program.specs.Chip.{chip_lent_due}

lower : (j i : ℕ) → lowest_due j i ≡ 0 → j ≡ 0
lower zero i e = refl
lower (suc j) i e = e

upper : (j i : ℕ) → lowest_due j i ≡ 0 → i ≡ 0
upper zero i e = e
upper (suc j) i e = absurd (suc-zero e)
  where
    suc-zero : {n : ℕ} → suc n ≡ 0 → ⊥
    suc-zero e = omega arith

-- where none is due on the chip, none is on the data side
pub data-lent : (x : Chip) → chip_lent_due x ≡ 0 → lent_due x.data_side ≡ 0
unfolding chip_lent_due
data-lent x h = lower (lent_due x.data_side) _ (upper (unless (eqb (length x.bytes) 16384) 1) _ h)

-- ---- what `?` returns where it ends a call: the refusal that it met
pub exit-refusal : {A : Type 0} (r : Result A Refusal) (e : Refusal) → IsErrAnd r (λ y. y ≡ e) → r ≡ Err e
exit-refusal r e h = let p = err_from_is_err_and r h in rw (p.1, p.2) refl

-- for what follows the checks: a refusal has a number, which the tests of the definitions find
pub ruleset checks = (nat_tests, refusal_some, exit-refusal)
