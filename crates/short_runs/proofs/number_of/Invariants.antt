-- `short_runs::number_of` meets its contract: each turn passes one digit.
use Rattle.short_runs.specs.Digits.{Counting}
use Rattle.short_runs.proofs.number_of.Given as goal

abbrev pub invariant-loop-digit : goal.invariant-loop-digit
invariant-loop-digit l = Counting l.digits l.shorter l.same l.value l.digit-index
