-- `load::Words::seeded` meets its contract: each turn puts one word behind the others, up to the 55th.
use Rattle.std.proofs.Common.{refl, ◌∙◌, arith}
use Rattle.traces.specs.Load.{next_word, words}
use Rattle.load.specs.Ring.{ring-empty, seeded-next}
use Rattle.load.proofs.Words.seeded.Goals as goal

pub loop-init : goal.loop-init
unfolding next_word words
loop-init c = c.put.ensures c.args.seed 0 (ring-empty c.args.seed 0 _ refl) refl

pub loop-preserved : goal.loop-preserved
loop-preserved c =
    let e = seeded-next c.loop.invariant c.loop.words.inside (omega arith) (omega arith) in
    c.put-in-loop.ensures c.args.seed c.loop.counter c.loop.invariant (c.sum.ensures ∙ rw c.back.ensures e)
