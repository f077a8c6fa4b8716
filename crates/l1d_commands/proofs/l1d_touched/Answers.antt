-- The way that holds the line, or none.
use Rattle.std.proofs.Common.{rules, arith}
use Rattle.sweeps.specs.At.{l1d-none, l1d-way}
use Rattle.l1d_commands.proofs.l1d_touched.Goals as goal

pub returns-in-Some : goal.returns-in-Some
returns-in-Some c = grind (arith, l1d-way)

pub returns-in_default : goal.returns-in_default
returns-in_default c = search (rules, l1d-none)
