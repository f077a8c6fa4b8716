-- The loop keeps its invariant (`begun`, `turned`), and its turns are those of `drop_inside`.
use Rattle.std.proofs.Common.{◌≡◌, arith}
use Rattle.program.specs.L1p.{drop_inside}
use Rattle.l1p_commands.specs.Dropping.{begun, turned}
use Rattle.l1p_commands.proofs.drop_inside.Goals as goal

pub loop-k-init : goal.loop-k-init
loop-k-init c = begun

pub loop-k-preserved : goal.loop-k-preserved
loop-k-preserved c = turned c.loop-k.invariant c.drop_line.ensures.words_after c.drop_line.ensures.rest

pub returns-clause-words_after : goal.returns-clause-words_after
unfolding drop_inside
returns-clause-words_after c = let all : c.loop-k.k ≡ 4 = omega arith in rw all at c.loop-k.invariant.lines
