-- `record_check::l1d_all` meets its contract: the sets passed so far are in order, and their dirty lines counted.
-- Assumes nothing.
use Rattle.std.specs.Prelude.{ℕ, ◌*◌, ◌≤◌, ◌<◌, true, ◌≡◌, take}
use Rattle.model.specs.Records.{dirty_in}
use Rattle.tags.specs.Words.{record_in}
use Rattle.record_check.specs.Parts.{l1d_ok}
use Rattle.record_check.proofs.l1d_all.Given as goal

abbrev pub invariant-loop-i : goal.invariant-loop-i
invariant-loop-i l = record {
  few : l.n ≤ 2 * l.i;
  counted : l.n ≡ dirty_in (λ v. v.lines) (take l.i (record_in l.tags).l1d);
  in_order : (k : ℕ) → k < l.i → l1d_ok (record_in l.tags) k ≡ true;
}
