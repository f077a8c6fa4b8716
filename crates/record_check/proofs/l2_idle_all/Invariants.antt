-- `record_check::l2_idle_all` meets its contract: the sets passed so far are in order. Assumes nothing.
use Rattle.std.specs.Prelude.{ℕ, ◌≤◌, ◌<◌, true, ◌≡◌}
use Rattle.tags.specs.Words.{record_in}
use Rattle.record_check.specs.Parts.{l2_ok}
use Rattle.record_check.proofs.l2_idle_all.Given as goal

abbrev pub invariant-loop-j : goal.invariant-loop-j
invariant-loop-j l = (k : ℕ) → l.fn.split.sets ≤ k → k < l.j → l2_ok (record_in l.tags) k ≡ true
