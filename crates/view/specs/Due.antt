-- The number due for a view, as the code comes to it: the tests in their order.
use Rattle.std.specs.Prelude.{ℕ, zero, suc, ◌<◌, ◌&&◌, List, ◌≡◌, length, eqb}
use Rattle.std.proofs.Common.{Result, Err, arith, refl}
use Rattle.std.specs.Result.{IsErrAnd}
use Rattle.std.proofs.lemmas.Result.{err_from_is_err_and}
use Rattle.kinds.specs.Numbers.{refusal_some}
use Rattle.kinds.specs.declared.Refusal.{Refusal}
use Rattle.model.specs.Memories.{legal_l2, legal_external}
use Rattle.model.specs.Records.{sram_of, well_formed}
use Rattle.model.specs.Refusals.{lowest_due, unless, multiple_of, place_ok, lent_l2, lent_external, view_lent_due, view_due}
use Rattle.model.specs.declared.Record.{Record}
use Rattle.l1p_tags.specs.Lines.{lent_length, lent-record}

-- ---- the address
abbrev pub place_due : Record → ℕ → ℕ
place_due r v = lowest_due (unless (multiple_of 64 v) 4) (unless (place_ok (sram_of r) r.extlen 64 v) 5)

-- ---- the data side's number: of the memories and the record, then of the address
pub lent_in_turn : (r : Record) (m e : List ℕ) → view_lent_due r m e ≡
    lowest_due (unless ((legal_l2 (length m) && eqb (length m) r.l2len) && (legal_external (length e) && eqb (length e) r.extlen)) 1)
    (unless (well_formed r) 2)
unfolding view_lent_due lent_l2 lent_external
lent_in_turn r m e = refl

pub view-in_turn : (r : Record) (m e : List ℕ) (v : ℕ) → view_due r m e v ≡ lowest_due (view_lent_due r m e) (place_due r v)
unfolding view_due
view-in_turn r m e v = refl

-- ---- a number that is due comes in front of those behind it
pub due-first : (n k : ℕ) → 0 < n → lowest_due n k ≡ n
due-first zero k h = absurd (omega arith)
due-first (suc n) k h = refl

-- ---- what `?` returns where it ends the call: the refusal that it met
pub exit-refusal : {A : Type 0} (r : Result A Refusal) (e : Refusal) → IsErrAnd r (λ y. y ≡ e) → r ≡ Err e
exit-refusal r e h = let p = err_from_is_err_and r h in rw (p.1, p.2) refl

-- for `view_due`, which lends the words in front to the checks of the data side's record
pub ruleset in_turn = (lent_length, lent-record, view-in_turn, due-first, refusal_some, exit-refusal)
