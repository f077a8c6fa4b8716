-- `geometry::is_mode` meets its contract: the tests, joined. Assumes nothing.
use mathlib.Core.Path.{refl}
use Rattle.model.specs.Memories.{is_mode}
use Rattle.geometry.proofs.is_mode.Goals as goal

pub returns : goal.returns
unfolding is_mode
returns c = refl
