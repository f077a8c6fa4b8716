-- A view that goes into a buffer of the caller's, as C asks for it: a part of a slice cannot be returned there. What
-- it leaves.
use Rattle.std.specs.Prelude.{ℕ, cond, List, ltb, eqb, length}
use Rattle.std.proofs.lemmas.Bool.Decides.{nat_tests}
use Rattle.kinds.specs.Numbers.{refusal_some}
use Rattle.model.specs.Bytes.{stored}
use Rattle.program.specs.Fetches.{Chip}
use Rattle.program.specs.Chip.{chip_view_due, chip_view}
use Rattle.view.specs.Due.{exit-refusal}
use Rattle.view.specs.Seen.{seen-sram, seen-external}

-- the number, and the bytes of the buffer
pub record Into : Type 0 where
  pub number : ℕ
  pub bytes : List ℕ

abbrev pub seen_as : ℕ → List ℕ → Into
seen_as n o = record { number = n; bytes = o }

-- A buffer o of fewer than 64 bytes is refused with 1; of a longer one the first 64 bytes change, where the view is
-- accepted.
unfoldable pub view_into : ℕ → Chip → List ℕ → Into
view_into a x o =
    cond (ltb (length o) 64) (seen_as 1 o)
    (cond (eqb (chip_view_due a x) 0) (seen_as 0 (stored o 0 (chip_view a x).bytes)) (seen_as (chip_view_due a x) o))

pub ruleset seen_into = (nat_tests, refusal_some, exit-refusal, seen-sram, seen-external)
