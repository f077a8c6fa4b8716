-- `load::Words::put` meets its contract: with the word that is next the ring holds one word more.
use Rattle.load.specs.Ring.{ring-on}
use Rattle.load.proofs.Words.put.Goals as goal

pub returns : goal.returns
returns c = λ seed k r e. ring-on r c.args.self.now.inside e c.place_after-self.ensures
