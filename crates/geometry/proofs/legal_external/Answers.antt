-- `geometry::legal_external` meets its contract: the tests, joined. Assumes nothing.
use mathlib.Core.Path.{refl}
use Rattle.model.specs.Memories.{legal_external}
use Rattle.geometry.proofs.legal_external.Goals as goal

pub returns : goal.returns
unfolding legal_external
returns c = refl
