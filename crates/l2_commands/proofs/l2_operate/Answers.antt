-- Each arm is the case of `l2_operation` at its operation's code.
use Rattle.std.proofs.Common.{rules}
use Rattle.l2_commands.specs.Steps.{l2_operation}
use Rattle.l2_commands.proofs.l2_operate.Goals as goal

pub returns-in-Writeback : goal.returns-in-Writeback
unfolding l2_operation
returns-in-Writeback c = search rules

pub returns-in-WritebackInvalidate : goal.returns-in-WritebackInvalidate
unfolding l2_operation
returns-in-WritebackInvalidate c = search rules

pub returns-in-Invalidate : goal.returns-in-Invalidate
unfolding l2_operation
returns-in-Invalidate c = rw c.in-Invalidate.is (c.drop_l2.ensures _ _ _)

pub returns-in-WriteOut : goal.returns-in-WriteOut
unfolding l2_operation
returns-in-WriteOut c = rw c.in-WriteOut.is (c.write_out_l2.ensures.by_index _)

pub returns-in-WriteOutInvalidate : goal.returns-in-WriteOutInvalidate
unfolding l2_operation
returns-in-WriteOutInvalidate c = rw c.in-WriteOutInvalidate.is (c.clear_l2.ensures _)
