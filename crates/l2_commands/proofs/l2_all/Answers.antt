-- The loop keeps its invariant by the laws of sweeps (`begun`, `turned`), also past a way that needs nothing; its turns
-- are those of `each_l2`.
use Rattle.std.specs.Prelude.{◌≡◌, ◌*◌, refl}
use Rattle.std.proofs.Common.{arith}
use Rattle.model.specs.Commands.{each_l2}
use Rattle.model.specs.Records.{l2_sets_of}
use Rattle.tags.specs.Words.{record_in}
use Rattle.sweeps.specs.Loop.{begun, turned}
use Rattle.l2_commands.specs.Steps.{act-rests, act-fixed}
use Rattle.l2_commands.proofs.l2_all.Goals as goal

pub loop-k-init : goal.loop-k-init
loop-k-init c = begun c.requires.lent

pub loop-k-preserved-then-rests : goal.loop-k-preserved-then-rests
loop-k-preserved-then-rests c =
    turned c.loop-k.invariant (λ i. act-fixed _ _ _) refl
    (act-rests _ _ _ _ _ c.line.ensures c.requires.not_invalidate (c.rests.ensures c.if-rests.true))

pub loop-k-preserved : goal.loop-k-preserved
loop-k-preserved c =
    turned c.loop-k.invariant (λ i. act-fixed _ _ _) c.l2_operate.auto.tags c.l2_operate.ensures

pub returns-clause-ext_after : goal.returns-clause-ext_after
unfolding each_l2
returns-clause-ext_after c =
    let all : c.loop-k.k ≡ l2_sets_of (record_in c.args.tags.now) * 4 = omega arith in
    rw all at c.loop-k.invariant.made
