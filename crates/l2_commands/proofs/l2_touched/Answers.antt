-- The way that holds the line, or none.
use Rattle.std.proofs.Common.{rules}
use Rattle.sweeps.specs.At.{l2-none, l2-way}
use Rattle.l2_commands.proofs.l2_touched.Goals as goal

pub returns-in-Some : goal.returns-in-Some
returns-in-Some c =
    let held = c.in-Some.ensures in
    l2-way _ _ _ _ _ _ _ c.requires.sets_nonzero c.requires.lent.1.1.1 c.set_of-t.ensures.0 c.line_of.ensures held.found
    held.within _ c.l2_operate.ensures

pub returns-in_default : goal.returns-in_default
returns-in_default c = search (rules, l2-none)
