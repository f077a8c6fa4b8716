-- The way that holds the half is emptied, or there is none.
use Rattle.std.proofs.Common.{rules, arith}
use Rattle.model.specs.Ways.{empty_l1d}
use Rattle.sweeps.specs.At.{l1d-none, l1d-way}
use Rattle.l2_commands.proofs.drop_half.Goals as goal

pub returns-in-Some : goal.returns-in-Some
unfolding empty_l1d
returns-in-Some c = λ d m e. grind (arith, l1d-way)

pub returns-in_default : goal.returns-in_default
returns-in_default c = λ d m e. search (rules, l1d-none)
