-- In mode 0 nothing is done; else the loop keeps its invariant by the laws of sweeps (`begun`, `turned`), and its turns
-- are those of `each_touched`.
use Rattle.std.proofs.Common.{◌≡◌, refl, arith, ne_eqb}
use Rattle.model.specs.Commands.{each_touched, lines_touched, unless_mode0}
use Rattle.model.specs.Laws.{mode0-sets}
use Rattle.sweeps.specs.Fixed.{at-l2}
use Rattle.sweeps.specs.Loop.{begun, turned}
use Rattle.l2_commands.specs.Steps.{act-fixed}
use Rattle.l2_commands.proofs.l2_block.Goals as goal

pub returns-then-split-eq0 : goal.returns-then-split-eq0
unfolding unless_mode0
returns-then-split-eq0 c = rw (mode0-sets, ← c.requires.1.1.1, c.if-split-eq0.true) refl

pub loop-k-init : goal.loop-k-init
loop-k-init c = begun c.requires

pub loop-k-preserved : goal.loop-k-preserved
loop-k-preserved c =
    let made = c.l2_touched.ensures in
    turned c.loop-k.invariant (λ i. at-l2 _ (act-fixed _) _) c.l2_touched.auto.tags
    (rw (← c.line_after-a.ensures) made)

pub returns : goal.returns
unfolding each_touched unless_mode0
returns c =
    let all : c.loop-k.k ≡ lines_touched 128 c.args.base c.args.count = omega arith in
    rw (mode0-sets, ← c.requires.1.1.1, ne_eqb _ _ c.if-split-eq0.false) (rw all at c.loop-k.invariant.made)
