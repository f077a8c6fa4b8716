-- `run::split_of` meets its contract: L and the mode stand in the words in front.
use Rattle.l1p_tags.specs.Lines.{lent-record}
use Rattle.run.proofs.split_of.Goals as goal

pub returns : goal.returns
returns c = rw (← lent-record c.args.words.now) c.split_of.ensures
