-- The loop keeps its invariant (`begun`, `turned`), and its turns are those of `drop_under_all`.
use Rattle.std.proofs.Common.{◌≡◌, ◌*◌, arith}
use Rattle.model.specs.Records.{l2_sets_of}
use Rattle.tags.specs.Words.{record_in}
use Rattle.program.specs.L1p.{drop_under_all, drop_under_way}
use Rattle.l1p_commands.specs.Dropping.{begun, turned}
use Rattle.l1p_commands.proofs.drop_under_all.Goals as goal

pub loop-k-init : goal.loop-k-init
loop-k-init c = begun

pub loop-k-preserved : goal.loop-k-preserved
loop-k-preserved c =
    turned c.loop-k.invariant (rw (← c.loop-k.invariant.rest) (c.drop_under_way.ensures.by_index _ _ _))
    c.drop_under_way.ensures.rest

pub returns-clause-by_index : goal.returns-clause-by_index
unfolding drop_under_all drop_under_way
returns-clause-by_index c =
    let all : c.loop-k.k ≡ l2_sets_of (record_in c.args.words.now) * 4 = omega arith in
    λ d m e. rw all at c.loop-k.invariant.lines
