-- `mar_check::cache_holds` meets its contract: the sets passed so far hold no such line. Assumes nothing.
use Rattle.std.specs.Prelude.{ℕ, ◌<◌, false, ◌≡◌}
use Rattle.tags.specs.Words.{record_in}
use Rattle.model.specs.Refusals.{in_range}
use Rattle.mar_check.proofs.cache_holds.Given as goal

abbrev pub invariant-loop-s : goal.invariant-loop-s
invariant-loop-s g l =
    (s : ℕ) → s < l.s → (w : ℕ) → w < g.C.Level.WAYS → in_range l.n (g.C.Level.line_at (record_in l.tags) s w) ≡ false
