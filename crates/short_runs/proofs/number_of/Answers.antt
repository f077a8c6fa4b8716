-- `short_runs::number_of` meets its contract: each turn passes one digit, and at the end none is left.
use Rattle.std.proofs.Common.{arith}
use Rattle.std.proofs.lemmas.Bool.Decides.{nat_tests}
use Rattle.short_runs.specs.Digits.{number_told, counting_starts, counting_on, counting_ends}
use Rattle.short_runs.proofs.number_of.Goals as goal

pub loop-digit-init : goal.loop-digit-init
loop-digit-init c = counting_starts c.args.digits.now

pub loop-digit-preserved : goal.loop-digit-preserved
loop-digit-preserved c = counting_on c.loop-digit.invariant c.loop-digit-test.true (omega arith)

pub returns : goal.returns
returns c =
    let e = counting_ends c.loop-digit.invariant c.loop-digit-test.false in
    grind (arith, nat_tests, number_told)
