-- A read or a write, whole: what is due is the definition's (`due-is`). Where something is, the call is refused
-- (`step-refused`); where nothing is, its size is one of the four, and it is accepted (`step-accepted`).
use Rattle.std.proofs.Common.{◌≡◌, sym, ◌∙◌}
use Rattle.std.proofs.lemmas.Result.{err_from_is_err_and}
use Rattle.model.specs.Refusals.{access_due}
use Rattle.model.specs.Calls.{command_due}
use Rattle.tags.specs.Words.{state_in}
use Rattle.access.specs.Serving.{size_of, due-is, step-refused, step-accepted}
use Rattle.access.proofs.access.Goals as goal
use Rattle.access.proofs.access.Goals.{After-access_due}

due : (c : After-access_due) →
    let a = c.args in
    access_due a.split.sram c.extlen_of.result a.c.first a.c.second c.checked_value.result
    ≡ command_due a.c (state_in a.tags.now a.l1d.now a.l2.now a.ext.now)
due c =
    let a = c.args in let k = c.requires in let e = c.extlen_of in let v = c.checked_value in
    due-is a.c (state_in a.tags.now a.l1d.now a.l2.now a.ext.now) k.code_bound a.split.sram e.result v.result
    k.lent.1.1.0 e.ensures v.ensures

pub returns-in_err-access_due-clause-ext_after : goal.returns-in_err-access_due-clause-ext_after
returns-in_err-access_due-clause-ext_after c =
    let a = c.args in let e = c.in_err-access_due in
    let k = (goal.at.returns-in_err-access_due-clause-ext_after c).After-access_due in
    let p = err_from_is_err_and c.from_residual.result c.from_residual.ensures.1 in
    rw (p.1, p.2)
    (step-refused a.c (state_in a.tags.now a.l1d.now a.l2.now a.ext.now) c.requires.code_bound e.field-0.0
    (e.ensures ∙ due k))

pub accepted-requires-clause-c_bound : goal.accepted-requires-clause-c_bound
accepted-requires-clause-c_bound c =
    let a = c.args in let e = c.extlen_of in let v = c.checked_value in
    let d = sym c.in_ok-access_due.ensures in
    (c.requires.code_bound, size_of a.split.sram e.result a.c.first a.c.second v.result d)

pub returns-clause-ext_after : goal.returns-clause-ext_after
returns-clause-ext_after c =
    let a = c.args in let k = (goal.at.returns-clause-ext_after c).After-access_due in
    let z = state_in a.tags.now a.l1d.now a.l2.now a.ext.now in
    c.accepted.ensures ∙ step-accepted a.c z c.requires.code_bound (c.in_ok-access_due.ensures ∙ due k)
