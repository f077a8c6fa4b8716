-- `numbers::number_at` meets its contract: the loop reads groups as `Reading` says, and each return is one of its ends.
use Rattle.numbers.specs.Groups.{Reading}
use Rattle.numbers.proofs.number_at.Given as goal

abbrev pub invariant-loop-i : goal.invariant-loop-i
invariant-loop-i l = Reading l.trace l.at l.full l.top l.value l.weight l.i
