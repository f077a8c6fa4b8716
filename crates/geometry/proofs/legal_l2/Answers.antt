-- `geometry::legal_l2` meets its contract: the tests, joined. Assumes nothing.
use mathlib.Core.Path.{refl}
use Rattle.model.specs.Memories.{legal_l2}
use Rattle.geometry.proofs.legal_l2.Goals as goal

pub returns : goal.returns
unfolding legal_l2
returns c = refl
