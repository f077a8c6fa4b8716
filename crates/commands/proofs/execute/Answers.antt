-- Refused by the number due, or carried out.
use Rattle.std.proofs.lemmas.Result.{err_from_is_err_and}
use Rattle.commands.specs.Codes.{refused-step, accepted-step}
use Rattle.commands.proofs.execute.Goals as goal

pub returns-in_err-command_due-clause-ext_after : goal.returns-in_err-command_due-clause-ext_after
returns-in_err-command_due-clause-ext_after c =
    let p = err_from_is_err_and c.from_residual.result c.from_residual.ensures.1 in
    rw (p.1, p.2) (refused-step _ _ _ (c.in_err-command_due.ensures _ _ _))

pub returns-clause-ext_after : goal.returns-clause-ext_after
returns-clause-ext_after c =
    accepted-step _ _ _ c.requires.le_code (c.in_ok-command_due.ensures _ _ _) c.carry_out.ensures
