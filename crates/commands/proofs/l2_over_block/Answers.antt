-- The two loops one behind the other (`over-block`); S and the number of sets stay while the L1D lines of the block go.
use Rattle.std.specs.Prelude.{refl}
use Rattle.tags.specs.Sizes.{lent-next}
use Rattle.sweeps.specs.Fixed.{at-l1d, each-touched}
use Rattle.l1d_commands.specs.Steps.{act-fixed}
use Rattle.l2_commands.specs.Steps.{l2_operation-of_code}
use Rattle.commands.specs.Codes.{over_block}
use Rattle.commands.proofs.l2_over_block.Goals as goal

pub l2_block-requires : goal.l2_block-requires
l2_block-requires c =
    lent-next _ _ _ _ _ _ c.requires c.l1d_block.auto.tags c.l1d_block.ensures refl
    (each-touched 64 _ (at-l1d _ (act-fixed _)) c.args.base c.args.count _)

pub returns : goal.returns
unfolding over_block
returns c =
    rw (← c.l1d_first.ensures, ← c.l1d_block.ensures, ← l2_operation-of_code, ← c.from.ensures) c.l2_block.ensures
