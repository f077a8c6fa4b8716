-- The half goes into its L2 line if it is dirty, and its way of L1D is emptied. Why: L1D holds the half in the way that
-- the definition finds, whose mark chooses its branch; each call's contract is a part of that branch.
use Rattle.std.proofs.Common.{arith}
use Rattle.model.specs.Ways.{in_l1d, l1d_way, empty_l1d}
use Rattle.model.specs.Homes.{take_half, put_l2}
use Rattle.l2_writeback.proofs.take_found.Goals as goal

pub returns-then-x : goal.returns-then-x
unfolding take_half in_l1d l1d_way empty_l1d put_l2
returns-then-x c = grind arith

pub returns : goal.returns
unfolding take_half in_l1d l1d_way empty_l1d
returns c = grind arith
