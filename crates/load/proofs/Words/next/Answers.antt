-- `load::Words::next` meets its contract: the two words lie where the ring has those 24 and 55 places back.
use Rattle.std.proofs.Common.{◌≡◌, ◌+◌, ◌∙◌, arith, add_assoc}
use Rattle.traces.specs.Load.{next_word, words}
use Rattle.load.specs.Ring.{summed-next, word-made}
use Rattle.load.proofs.Words.next.Goals as goal

pub returns : goal.returns
returns c = λ seed made r.
    let e : c.sum-word.result ≡ next_word seed (words seed (55 + made)) =
    c.sum-word.ensures ∙ rw (c.back.ensures, c.back-2.ensures) (summed-next r (omega arith)) in
    (e ∙ word-made seed made, rw add_assoc at (c.put.ensures seed (55 + made) r e))
