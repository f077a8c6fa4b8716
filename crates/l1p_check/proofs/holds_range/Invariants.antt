-- `l1p_check::holds_range` meets its contract: the sets passed so far hold no such line. Assumes nothing.
use Rattle.std.specs.Prelude.{ℕ, ◌<◌, false, ◌≡◌}
use Rattle.model.specs.Refusals.{in_range}
use Rattle.program.specs.L1p.{l1p_at}
use Rattle.l1p_tags.specs.Lines.{lines_in}
use Rattle.l1p_check.proofs.holds_range.Given as goal

abbrev pub invariant-loop-i : goal.invariant-loop-i
invariant-loop-i l = (s : ℕ) → s < l.i → in_range l.n (l1p_at (lines_in l.words) s) ≡ false
