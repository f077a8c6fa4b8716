-- `geometry::is_external` meets its contract: each return is a case of the definition, by the tests on its way and
-- what its callees ensure.
use Rattle.geometry.specs.Geometry.{below-not}
use Rattle.geometry.proofs.is_external.Goals as goal

pub returns : goal.returns
returns c = below-not c.args.a 2147483648
