-- `geometry::block_end` meets its contract.
use mathlib.Core.Path.{refl}
use borrow.Author.Tests.{le-leb, lt-leb}
use Rattle.model.specs.Modes.{smaller}
use Rattle.model.specs.Commands.{block_end}
use Rattle.geometry.proofs.block_end.Goals as goal

pub returns-then-end-le4294967296 : goal.returns-then-end-le4294967296
unfolding block_end smaller
returns-then-end-le4294967296 c = rw (le-leb _ _ c.if-end-le4294967296.true) refl

pub returns : goal.returns
unfolding block_end smaller
returns c = rw (lt-leb _ _ c.if-end-le4294967296.false) refl
