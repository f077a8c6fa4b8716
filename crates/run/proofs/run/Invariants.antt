-- `run::run` meets its contract: what is left to do gives the whole (`Kept`). Each command is one step, of the chip for
-- a trace and of the data side for given ones, by what its function ensures; one given access goes by itself, and any
-- other command given alone is the first and the last of its loop, and leaves it.
use Rattle.std.proofs.Common.{◌-◌}
use Rattle.l1p_tags.specs.Lent.{Sized}
use Rattle.run.specs.Turns.{held, Kept}
use Rattle.run.proofs.run.Given as goal

abbrev pub invariant-loop-at : goal.invariant-loop-at
invariant-loop-at l =
    Kept l.times l.given l.trace (held l.fn.words l.fn.l1d l.fn.l2 l.fn.ext) l.fn.answers
    (held l.words l.l1d l.l2 l.ext) l.answers l.at l.count × Sized l.split.sram l.split.sets l.words

abbrev pub decreases-loop-at : goal.decreases-loop-at
decreases-loop-at l = l.end - l.at
