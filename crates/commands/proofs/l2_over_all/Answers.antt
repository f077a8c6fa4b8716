-- The two loops one behind the other (`over-all`).
use Rattle.l2_commands.specs.Steps.{l2_operation-of_code}
use Rattle.commands.specs.Codes.{over-all}
use Rattle.commands.proofs.l2_over_all.Goals as goal

pub returns : goal.returns
returns c =
    let two = rw (c.from.ensures, l2_operation-of_code) at c.l2_all.ensures.ext_after in
    over-all _ c.requires.le_code.0 c.requires.le_code.1 _ _ _ c.l1d_all.ensures.ext_after two
