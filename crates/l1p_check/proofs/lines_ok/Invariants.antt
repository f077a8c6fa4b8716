-- `l1p_check::lines_ok` meets its contract: the lines of the sets passed so far are in order. Assumes nothing.
use Rattle.std.specs.Prelude.{ℕ, ◌<◌, true, ◌≡◌}
use Rattle.tags.specs.Words.{record_in}
use Rattle.program.specs.L1p.{l1p_at, l1p_line_ok}
use Rattle.l1p_tags.specs.Lines.{lines_in}
use Rattle.l1p_check.proofs.lines_ok.Given as goal

abbrev pub invariant-loop-s : goal.invariant-loop-s
invariant-loop-s l = (k : ℕ) → k < l.s → l1p_line_ok (record_in l.words) k (l1p_at (lines_in l.words) k) ≡ true
