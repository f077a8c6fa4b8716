-- The loop keeps its invariant by the laws of sweeps (`begun`, `turned`).
use Rattle.sweeps.specs.Loop.{begun, turned}
use Rattle.l1d_commands.specs.Steps.{act-fixed}
use Rattle.l1d_commands.proofs.l1d_all.Goals as goal

pub loop-k-init : goal.loop-k-init
loop-k-init c = begun c.requires

pub loop-k-preserved : goal.loop-k-preserved
loop-k-preserved c =
    turned c.loop-k.invariant (λ i. act-fixed _ _ _) c.l1d_operate.auto.tags c.l1d_operate.ensures
