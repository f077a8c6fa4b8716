-- The loop keeps its invariant by the laws of sweeps (`begun`, `turned`); its turns are those of `each_touched`.
use Rattle.std.proofs.Common.{◌≡◌, arith}
use Rattle.model.specs.Commands.{each_touched, lines_touched}
use Rattle.sweeps.specs.Fixed.{at-l1d}
use Rattle.sweeps.specs.Loop.{begun, turned}
use Rattle.l1d_commands.specs.Steps.{act-fixed}
use Rattle.l1d_commands.proofs.l1d_block.Goals as goal

pub loop-k-init : goal.loop-k-init
loop-k-init c = begun c.requires

pub loop-k-preserved : goal.loop-k-preserved
loop-k-preserved c =
    let made = c.l1d_touched.ensures in
    turned c.loop-k.invariant (λ i. at-l1d _ (act-fixed _) _) c.l1d_touched.auto.tags
    (rw (← c.line_after-a.ensures) made)

pub returns : goal.returns
unfolding each_touched
returns c =
    let all : c.loop-k.k ≡ lines_touched 64 c.args.base c.args.count = omega arith in
    rw (← all) c.loop-k.invariant.made
