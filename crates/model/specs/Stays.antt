-- A record stays well formed, what it says; `Stays` among the proofs shows it. Paper 01 asks for well-formed records
-- (refusal 2); whoever keeps the record of a call and lends the same memories again never meets refusals 1 and 2,
-- whatever the calls: every code, every number, refused ones, views, fresh starts.
use Rattle.std.specs.Prelude.{◌≡◌, List}
use Rattle.model.specs.Records.{State, Shape}
use Rattle.model.specs.Refusals.{lent_due}
use Rattle.model.specs.Calls.{Call, after}

abbrev pub StaysWellFormed : Type 0
StaysWellFormed = (z : State) → Shape z.rec → lent_due z ≡ 0 → (cs : List Call) → lent_due (after cs z) ≡ 0
