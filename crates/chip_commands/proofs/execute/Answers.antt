-- Refused by the data side's number, or by L1P's; else L1P's lines are dropped by the record as it was, and then the
-- data side's command is carried out on the words in front. Where these are all words that are lent, there is no L1P.
use Rattle.std.specs.Prelude.{refl}
use Rattle.std.proofs.Common.{sym, ◌∙◌, length-take-le, rules}
use Rattle.std.proofs.lemmas.Result.{err_from_is_err_and}
use Rattle.commands.specs.Codes.{refused-step, accepted-step}
use Rattle.l1p_tags.specs.Lines.{lent-record, back-record, back-lines}
use Rattle.l1p_tags.specs.Lent.{sized_same, front-lent}
use Rattle.chip_commands.specs.Steps.{due-data, refused-chip, accepted-chip}
use Rattle.chip_commands.proofs.execute.Goals as goal

pub returns-in_err-command_due-clause-data : goal.returns-in_err-command_due-clause-data
returns-in_err-command_due-clause-data c =
    let p = err_from_is_err_and c.from_residual.result c.from_residual.ensures.1 in
    let due = rw lent-record at (c.in_err-command_due.ensures c.args.l1d.now c.args.l2.now c.args.ext.now) in
    λ _. rw (p.1, p.2) (refused-step _ _ _ due)

pub returns-in_err-command_due-clause-chip : goal.returns-in_err-command_due-clause-chip
returns-in_err-command_due-clause-chip c =
    let r = err_from_is_err_and c.from_residual.result c.from_residual.ensures.1 in
    let due = rw lent-record at (c.in_err-command_due.ensures c.args.l1d.now c.args.l2.now c.args.ext.now) in
    λ _ p. rw (r.1, r.2) (refused-chip _ _ _ (due-data _ _ _ due))

pub returns-in_err-on_l1p-clause-chip : goal.returns-in_err-on_l1p-clause-chip
returns-in_err-on_l1p-clause-chip c =
    let r = err_from_is_err_and c.from_residual-in_err-on_l1p.result c.from_residual-in_err-on_l1p.ensures.1 in
    let none = rw lent-record at (c.in_ok-command_due.ensures c.args.l1d.now c.args.l2.now c.args.ext.now) in
    λ l p. rw (r.1, r.2, c.in_err-on_l1p.ensures.refused)
    (refused-chip _ _ _ (c.in_err-on_l1p.ensures.due l _ _ _ p (sym none)))

pub slice_bounds-carry_out-end-2 : goal.slice_bounds-carry_out-end-2
slice_bounds-carry_out-end-2 c =
    let front = length-take-le 5253 c.on_l1p.new.words (rw c.on_l1p.auto.words c.requires.le_code.1) in sym front

pub carry_out-requires-clause-le_code : goal.carry_out-requires-clause-le_code
carry_out-requires-clause-le_code c = (
  c.requires.le_code.0,
  λ d m e. let none = rw lent-record at (c.in_ok-command_due.ensures d m e) in
      rw (lent-record, c.in_ok-on_l1p.ensures.rest) (sym none),
)

pub carry_out-requires-clause-lent : goal.carry_out-requires-clause-lent
carry_out-requires-clause-lent c =
    front-lent _ _ _ (rw c.on_l1p.auto.words c.requires.le_code.1)
    (sized_same _ _ _ _ c.in_ok-on_l1p.ensures.rest c.requires.sized)

pub returns : goal.returns
returns c =
    let l1p = c.in_ok-on_l1p.ensures in
    let none = rw lent-record at (c.in_ok-command_due.ensures c.args.l1d.now c.args.l2.now c.args.ext.now) in
    let done = rw (lent-record, l1p.rest) at c.carry_out.ensures in
    let front = length-take-le 5253 c.on_l1p.new.words (rw c.on_l1p.auto.words c.requires.le_code.1) in
    let long = c.carry_out.auto.tags ∙ front in record {
      «data» = λ _. rw (back-record _ _ long) (accepted-step _ _ _ c.requires.le_code.0 none done);
      chip = λ l p. let number = l1p.due l _ _ _ p (sym none) in
          rw (back-record _ _ long, back-lines _ _ long)
          (accepted-chip _ _ _ _ c.requires.le_code.0 none number (l1p.dropped l refl _ _ _) done);
      refused = search rules;
    }
