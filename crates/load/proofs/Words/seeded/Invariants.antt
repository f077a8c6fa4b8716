-- `load::Words::seeded` meets its contract: each turn puts one word behind the others, up to the 55th.
use Rattle.load.specs.Ring.{Ring}
use Rattle.load.proofs.Words.seeded.Given as goal

abbrev pub invariant-loop : goal.invariant-loop
invariant-loop l = Ring l.seed l.counter l.words.ring l.words.at
