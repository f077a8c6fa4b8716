-- Each return is a case of `used4-cases`.
use Rattle.std.proofs.Common.{eq-eqb, ne_eqb}
use Rattle.model.specs.Laws.{used4-cases}
use Rattle.model.proofs.Order4.touch.Goals as goal

pub returns-then-self-way-clause-value : goal.returns-then-self-way-clause-value
returns-then-self-way-clause-value c = simp (used4-cases, eq-eqb _ _ c.if-self-way.true)

pub returns-then-self-way-2-clause-value : goal.returns-then-self-way-2-clause-value
returns-then-self-way-2-clause-value c = simp (used4-cases, ne_eqb _ _ c.if-self-way.false, eq-eqb _ _ c.if-self-way-2.true)

pub returns-then-self-way-3-clause-value : goal.returns-then-self-way-3-clause-value
returns-then-self-way-3-clause-value c =
    simp (used4-cases, ne_eqb _ _ c.if-self-way.false, ne_eqb _ _ c.if-self-way-2.false, eq-eqb _ _ c.if-self-way-3.true)

pub returns-clause-value : goal.returns-clause-value
returns-clause-value c =
    simp (used4-cases, ne_eqb _ _ c.if-self-way.false, ne_eqb _ _ c.if-self-way-2.false, ne_eqb _ _ c.if-self-way-3.false)
