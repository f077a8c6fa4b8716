-- The loop keeps its invariant (`begun`, `turned`), and its turns are those of `invalidate_l1p_block`.
use Rattle.std.proofs.Common.{◌≡◌, arith}
use Rattle.model.specs.Commands.{lines_touched}
use Rattle.program.specs.L1p.{invalidate_l1p_block}
use Rattle.l1p_commands.specs.Dropping.{begun, turned}
use Rattle.l1p_commands.proofs.invalidate_block.Goals as goal

pub loop-k-init : goal.loop-k-init
loop-k-init c = begun

pub loop-k-preserved : goal.loop-k-preserved
loop-k-preserved c =
    turned c.loop-k.invariant (rw (← c.line_after.ensures) c.drop_line.ensures.words_after) c.drop_line.ensures.rest

pub returns-clause-words_after : goal.returns-clause-words_after
unfolding invalidate_l1p_block
returns-clause-words_after c =
    let all : c.loop-k.k ≡ lines_touched 32 c.args.base c.args.count = omega arith in
    rw all at c.loop-k.invariant.lines
