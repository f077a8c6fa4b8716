-- A fetch, whole: what is due is the definition's, since the data side's words stand for the record of all
-- (`lent-record`). Where something is, the fetch is refused (`step-refused`); where nothing is, checks 1 and 2 give the
-- lengths (`l1p-long`, `whole-line`), and it is accepted (`step-accepted`).
use Rattle.std.proofs.lemmas.Result.{err_from_is_err_and}
use Rattle.std.proofs.Common.{sym, ◌∙◌}
use Rattle.l1p_tags.specs.Lines.{chip_in, lent-record}
use Rattle.fetches.specs.Told.{l1p-long, whole-line, step-refused, step-accepted}
use Rattle.fetches.proofs.fetch.Goals as goal

pub returns-in_err-q-clause-l1p_after : goal.returns-in_err-q-clause-l1p_after
returns-in_err-q-clause-l1p_after c =
    let a = c.args in let k = chip_in a.words.now a.l1d.now a.l2.now a.ext.now a.l1p.now in let e = c.in_err-q in
    let p = err_from_is_err_and c.from_residual.result c.from_residual.ensures.1 in
    rw (p.1, p.2) (step-refused a.a k e.field-0.0 (rw (lent-record a.words.now) at e.ensures.due))

pub accepted-requires-clause-l1p_len : goal.accepted-requires-clause-l1p_len
accepted-requires-clause-l1p_len c =
    let a = c.args in l1p-long a.words.now a.l1d.now a.l2.now a.ext.now a.l1p.now c.requires.l1p_value

pub accepted-requires-clause-whole : goal.accepted-requires-clause-whole
accepted-requires-clause-whole c =
    let a = c.args in
    whole-line a.words.now a.l1d.now a.l2.now a.ext.now a.l1p.now c.requires.l1p_value a.a
    (sym (rw (lent-record a.words.now) at c.in_ok-q.ensures.due))

pub returns-clause-l1p_after : goal.returns-clause-l1p_after
returns-clause-l1p_after c =
    let a = c.args in let k = chip_in a.words.now a.l1d.now a.l2.now a.ext.now a.l1p.now in
    c.accepted.ensures ∙ step-accepted a.a k (rw (lent-record a.words.now) at c.in_ok-q.ensures.due)
