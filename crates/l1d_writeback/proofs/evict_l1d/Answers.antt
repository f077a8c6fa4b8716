-- A line leaves L1D: written back if it goes home, the way emptied, and what left it told. Why: the marks of the line
-- choose the branch of each definition, and each call's contract is a part of that branch.
use Rattle.std.proofs.Common.{append-nil, arith}
use Rattle.model.specs.Ways.{empty_l1d}
use Rattle.model.specs.Access.{writeback_l1d, evict_l1d}
use Rattle.model.specs.Reports.{left_by, l1d_left, bytes_in, writeback_l1d_moved, evict_l1d_moved}
use Rattle.l1d_writeback.proofs.evict_l1d.Goals as goal

pub returns-then-goes_home : goal.returns-then-goes_home
unfolding evict_l1d writeback_l1d empty_l1d l1d_left left_by evict_l1d_moved writeback_l1d_moved
returns-then-goes_home c = grind (arith, append-nil)

pub returns-then-x : goal.returns-then-x
unfolding evict_l1d writeback_l1d empty_l1d l1d_left left_by evict_l1d_moved writeback_l1d_moved bytes_in
returns-then-x c = grind arith

pub returns : goal.returns
unfolding evict_l1d writeback_l1d empty_l1d l1d_left left_by evict_l1d_moved writeback_l1d_moved bytes_in
returns c = grind arith
