-- `mar_check::set_holds` meets its contract: the ways passed so far hold no such line. Assumes nothing.
use Rattle.std.specs.Prelude.{ℕ, ◌<◌, false, ◌≡◌}
use Rattle.tags.specs.Words.{record_in}
use Rattle.model.specs.Refusals.{in_range}
use Rattle.mar_check.proofs.set_holds.Given as goal

abbrev pub invariant-loop-w : goal.invariant-loop-w
invariant-loop-w g l = (w : ℕ) → w < l.w → in_range l.n (g.C.Level.line_at (record_in l.tags) l.s w) ≡ false
