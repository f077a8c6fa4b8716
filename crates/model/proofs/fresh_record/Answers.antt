-- The return is the definition.
use Rattle.std.proofs.Common.{refl}
use Rattle.model.specs.Records.{fresh_record}
use Rattle.model.proofs.fresh_record.Goals as goal

pub returns : goal.returns
unfolding fresh_record
returns c = refl
