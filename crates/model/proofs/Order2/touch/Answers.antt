-- Each return is a case of `used2-cases`; what stays a permutation is found by itself.
use Rattle.std.proofs.Common.{eq-eqb, ne_eqb}
use Rattle.model.specs.Laws.{used2-cases}
use Rattle.model.proofs.Order2.touch.Goals as goal

pub returns-then-self-way-clause-value : goal.returns-then-self-way-clause-value
returns-then-self-way-clause-value c = simp (used2-cases, eq-eqb _ _ c.if-self-way.true)

pub returns-else-self-way-clause-value : goal.returns-else-self-way-clause-value
returns-else-self-way-clause-value c = simp (used2-cases, ne_eqb _ _ c.if-self-way.false)
