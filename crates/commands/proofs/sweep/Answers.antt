-- Each arm is the case of `command_state` at its codes.
use Rattle.std.proofs.Common.{arith}
use Rattle.std.proofs.lemmas.Bool.Decides.{nat_tests}
use Rattle.model.specs.Calls.{command_state}
use Rattle.model.specs.Commands.{l2_writeback_all, l2_writeback_invalidate_all, l2_writeback_block, l2_writeback_invalidate_block, l2_invalidate_block, l1d_writeback_invalidate_block, l1d_invalidate_block, l1d_invalidate_all}
use Rattle.l1d_commands.specs.Steps.{l1d_operation}
use Rattle.l2_commands.specs.Steps.{l2_operation}
use Rattle.commands.specs.Codes.{over_all, over_block, l1d_code}
use Rattle.commands.proofs.sweep.Goals as goal

pub returns-in-0-to-3 : goal.returns-in-0-to-3
unfolding command_state over_all l2_writeback_all l2_writeback_invalidate_all
returns-in-0-to-3 c = grind (arith, nat_tests)

pub returns-in-4-to-6 : goal.returns-in-4-to-6
unfolding command_state over_block l1d_code l1d_operation l2_operation
    l2_writeback_block l2_writeback_invalidate_block l2_invalidate_block
    l1d_writeback_invalidate_block l1d_invalidate_block
returns-in-4-to-6 c = grind (arith, nat_tests)

pub returns-in-7 : goal.returns-in-7
unfolding command_state l1d_operation l1d_writeback_invalidate_block l1d_invalidate_block
returns-in-7 c = grind (arith, nat_tests)

pub returns-in_default : goal.returns-in_default
unfolding command_state l1d_operation l1d_invalidate_all
returns-in_default c = grind (arith, nat_tests)
