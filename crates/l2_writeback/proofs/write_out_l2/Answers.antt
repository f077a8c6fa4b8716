-- An L2 line goes out if it is valid and dirty, and is clean then; how many bytes went out is told. Why: its marks
-- choose the branch of the definitions; each call's contract is a part of that branch.
use Rattle.std.proofs.Common.{arith}
use Rattle.model.specs.Homes.{write_out_l2}
use Rattle.model.specs.Reports.{bytes_in, write_out_l2_moved}
use Rattle.l2_writeback.proofs.write_out_l2.Goals as goal

pub returns-then-not-x : goal.returns-then-not-x
unfolding write_out_l2 write_out_l2_moved bytes_in
returns-then-not-x c = grind arith

pub returns-then-not-x-2 : goal.returns-then-not-x-2
unfolding write_out_l2 write_out_l2_moved bytes_in
returns-then-not-x-2 c = grind arith

pub returns : goal.returns
unfolding write_out_l2 write_out_l2_moved bytes_in
returns c = grind arith
