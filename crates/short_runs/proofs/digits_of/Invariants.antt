-- `short_runs::digits_of` meets its contract: each turn puts one digit in its place.
use Rattle.short_runs.specs.Digits.{Filling}
use Rattle.short_runs.proofs.digits_of.Given as goal

abbrev pub invariant-loop-i : goal.invariant-loop-i
invariant-loop-i l = Filling l.fn.place.length l.fn.place.value l.digits l.weight l.rest l.i
