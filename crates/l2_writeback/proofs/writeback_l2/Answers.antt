-- A valid L2 line takes in its halves and goes out; an invalid one does nothing. Why: the contracts of `take_half` and
-- `take_upper` are the two steps of `take_halves`, which change no size (`same-..`), and that of `write_out_l2` is the
-- last step; what the line is before it, clean or dirty, is what is told.
use Rattle.std.proofs.Common.{arith}
use Rattle.model.specs.Homes.{take_halves, writeback_l2}
use Rattle.model.specs.Reports.{l2_left, bytes_in, writeback_l2_moved}
use Rattle.tags.specs.Words.{state_in}
use Rattle.tags.specs.Sizes.{same-take-half, same-take-halves}
use Rattle.l2_writeback.proofs.writeback_l2.Goals as goal

pub returns-then-not-x : goal.returns-then-not-x
unfolding writeback_l2 l2_left writeback_l2_moved bytes_in
returns-then-not-x c = grind arith

pub take_upper-requires-clause-lent : goal.take_upper-requires-clause-lent
take_upper-requires-clause-lent c =
    let a = c.args in
    let same = same-take-half a.t a.v c.line-x.result.address (state_in a.tags.now a.l1d.now a.l2.now a.ext.now) in
    grind (arith, same, c.take_half.ensures a.ext.now)

pub write_out_l2-n-requires-clause-lent : goal.write_out_l2-n-requires-clause-lent
unfolding take_halves
write_out_l2-n-requires-clause-lent c =
    let a = c.args in
    let same = same-take-halves a.t a.v c.line-x.result.address (state_in a.tags.now a.l1d.now a.l2.now a.ext.now) in
    grind (arith, same, c.take_half.ensures a.ext.now, c.take_upper.ensures a.ext.now)

pub returns : goal.returns
unfolding writeback_l2 take_halves l2_left writeback_l2_moved
returns c =
    let a = c.args in let d = a.l1d.now in let e = a.ext.now in let out = c.write_out_l2-n.ensures in
    grind (arith, c.take_half.ensures e, c.take_upper.ensures e, out.by_index d, out.told.0 d)
