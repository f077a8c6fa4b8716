-- `geometry::left_by` meets its contract: the three cases of `left_by`.
use Rattle.model.specs.Reports.{left_by}
use borrow.Author.Tests.{not-true, not-false}
use mathlib.Core.Path.{refl}
use Rattle.geometry.proofs.left_by.Goals as goal

pub returns-then-not-x : goal.returns-then-not-x
unfolding left_by
returns-then-not-x c = let x = c.args.x in rw (not-true x.valid c.if-not-x.true) refl

pub returns-then-x : goal.returns-then-x
unfolding left_by
returns-then-x c =
    let x = c.args.x in rw (not-false x.valid c.if-not-x.false, c.if-x.true) refl

pub returns : goal.returns
unfolding left_by
returns c =
    let x = c.args.x in rw (not-false x.valid c.if-not-x.false, c.if-x.false) refl
