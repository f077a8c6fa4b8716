-- All sets are passed, so all are fresh.
use Rattle.std.proofs.Common.{ap, ◌∙◌, arith}
use Rattle.tags.specs.Words.{record_in}
use Rattle.packing.specs.Packed.{with_l2, l2_long, alike_all}
use Rattle.packing.proofs.fresh_l2.Goals as goal

pub returns : goal.returns
returns c =
    let r = record_in c.args.tags.now in let m = l2_long c.args.tags.now in
    c.loop-j.invariant ∙ ap (with_l2 r) (alike_all _ r.l2 c.loop-j.j 512 (omega arith) (omega arith))
