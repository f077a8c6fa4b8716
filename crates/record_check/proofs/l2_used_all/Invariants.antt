-- `record_check::l2_used_all` meets its contract: the sets passed so far are in order, and their dirty lines counted.
-- Assumes nothing.
use Rattle.std.specs.Prelude.{ℕ, ◌*◌, ◌≤◌, ◌<◌, true, ◌≡◌, take}
use Rattle.model.specs.Records.{dirty_in}
use Rattle.tags.specs.Words.{record_in}
use Rattle.record_check.specs.Parts.{l2_ok}
use Rattle.record_check.proofs.l2_used_all.Given as goal

abbrev pub invariant-loop-j : goal.invariant-loop-j
invariant-loop-j l = record {
  few : l.n ≤ 4 * l.j;
  counted : l.n ≡ dirty_in (λ v. v.lines) (take l.j (record_in l.tags).l2);
  in_order : (k : ℕ) → k < l.j → l2_ok (record_in l.tags) k ≡ true;
}
