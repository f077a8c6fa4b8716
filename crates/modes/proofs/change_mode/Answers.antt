-- What the calls do in turn are the parts of `change_mode`: L1D and then L2 are written back (`flushed`), the record is
-- renewed, and L2 is zero from the smaller S on.
use Rattle.std.proofs.Common.{arith}
use Rattle.model.specs.Modes.{change_mode, new_mode}
use Rattle.packing.specs.Packed.{renewed}
use Rattle.modes.specs.Changes.{flushed}
use Rattle.modes.proofs.change_mode.Goals as goal

pub returns : goal.returns
unfolding change_mode new_mode renewed
returns c = rw (← flushed _ _ _ c.l1d_all.ensures.ext_after c.l2_all.ensures.ext_after) (grind arith)
