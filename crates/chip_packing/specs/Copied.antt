-- What a search needs where lines are taken one by one out of the words and put into them.
use Rattle.std.proofs.lemmas.Grind.{common_steps}
use Rattle.packing.specs.Packed.{front_next, front_all}
use Rattle.l1p_tags.specs.Lines.{length-lines}

pub ruleset taken = (common_steps, length-lines)

pub ruleset put = (front_next, front_all, length-lines, common_steps)
