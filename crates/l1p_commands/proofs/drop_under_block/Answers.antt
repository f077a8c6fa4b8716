-- In mode 0 nothing is done; else the loop keeps its invariant (`begun`, `turned`), and its turns are those of
-- `drop_under_block`.
use Rattle.std.specs.Prelude.{refl}
use Rattle.std.proofs.Common.{◌≡◌, arith, ne_eqb}
use Rattle.model.specs.Commands.{lines_touched}
use Rattle.model.specs.Ways.{in_l2, l2_way}
use Rattle.model.specs.Laws.{mode0-sets}
use Rattle.program.specs.L1p.{drop_under_block, drop_under_line}
use Rattle.l1p_commands.specs.Dropping.{begun, turned}
use Rattle.l1p_commands.proofs.drop_under_block.Goals as goal

pub returns-then-split-eq0-clause-by_index : goal.returns-then-split-eq0-clause-by_index
unfolding drop_under_block
returns-then-split-eq0-clause-by_index c = λ d m e. rw (mode0-sets, ← c.requires.0, c.if-split-eq0.true) refl

pub loop-k-init : goal.loop-k-init
loop-k-init c = begun

pub loop-k-preserved : goal.loop-k-preserved
loop-k-preserved c =
    turned c.loop-k.invariant
    (rw (← c.line_after.ensures, ← c.loop-k.invariant.rest) (c.drop_under_line.ensures.by_index _ _ _))
    c.drop_under_line.ensures.rest

pub returns-clause-by_index : goal.returns-clause-by_index
unfolding drop_under_block drop_under_line in_l2 l2_way
returns-clause-by_index c =
    let all : c.loop-k.k ≡ lines_touched 128 c.args.base c.args.count = omega arith in
    λ d m e. rw (mode0-sets, ← c.requires.0, ne_eqb _ _ c.if-split-eq0.false) (rw all at c.loop-k.invariant.lines)
