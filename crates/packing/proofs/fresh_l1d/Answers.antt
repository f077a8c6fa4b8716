-- All sets are passed, so all are fresh.
use Rattle.std.proofs.Common.{ap, ◌∙◌, arith}
use Rattle.tags.specs.Words.{record_in}
use Rattle.packing.specs.Packed.{with_l1d, l1d_long, alike_all}
use Rattle.packing.proofs.fresh_l1d.Goals as goal

pub returns : goal.returns
returns c =
    let r = record_in c.args.tags.now in let m = l1d_long c.args.tags.now in
    c.loop-i.invariant ∙ ap (with_l1d r) (alike_all _ r.l1d c.loop-i.i 128 (omega arith) (omega arith))
