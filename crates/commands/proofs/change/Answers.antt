-- Each arm is the case of `command_state` at its code; that no number is due says that a mode is a byte, a bit 0 or 1,
-- and no code above 12.
use Rattle.std.proofs.Common.{[], arith}
use Rattle.std.proofs.lemmas.Bool.Decides.{nat_tests}
use Rattle.model.specs.Memories.{is_mode}
use Rattle.model.specs.Refusals.{mode_due, mar_due}
use Rattle.model.specs.Calls.{command_state, command_due}
use Rattle.commands.proofs.change.Goals as goal

pub overflow_cast-c : goal.overflow_cast-c
unfolding command_due mode_due is_mode
overflow_cast-c c = let due = c.requires.le_code.1 [] [] [] in grind (arith, nat_tests)

pub change_mar-requires : goal.change_mar-requires
unfolding command_due mar_due
change_mar-requires c = let due = c.requires.le_code.1 [] [] [] in (grind (arith, nat_tests), c.requires.lent.0)

pub returns-in-10 : goal.returns-in-10
unfolding command_state
returns-in-10 c = rw c.in-10.is c.change_mode.ensures

pub returns-in-11 : goal.returns-in-11
unfolding command_state
returns-in-11 c = rw c.in-11.is (c.change_mar.ensures _ _ _)

pub returns-in_default : goal.returns-in_default
unfolding command_state command_due
returns-in_default c =
    let due = c.requires.le_code.1 [] [] [] in
    let done = c.change_freeze.ensures c.args.l1d.now c.args.l2.now c.args.ext.now in
    grind (arith, nat_tests)
