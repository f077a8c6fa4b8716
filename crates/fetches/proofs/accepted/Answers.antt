-- A fetch that nothing refuses goes past the caches or hits by the tests that the code made, and so does the
-- definition.
use Rattle.std.proofs.Common.{◌≡◌, false, refl, arith}
use Rattle.model.specs.Access.{cacheable}
use Rattle.program.specs.L1p.{in_l1p}
use Rattle.program.specs.Fetches.{fetch_done}
use Rattle.tags.specs.Words.{record_in}
use Rattle.l1p_tags.specs.Lines.{chip_in}
use Rattle.fetches.proofs.accepted.Goals as goal

pub returns-then-not-q : goal.returns-then-not-q
unfolding fetch_done
returns-then-not-q c =
    let a = c.args in let k = chip_in a.words.now a.l1d.now a.l2.now a.ext.now a.l1p.now in
    let o : cacheable (record_in a.words.now) a.a ≡ false = grind arith in
    let e = c.past.ensures k refl o c.requires.whole in grind arith

pub returns-then-holds_at : goal.returns-then-holds_at
unfolding fetch_done in_l1p
returns-then-holds_at c =
    let a = c.args in let k = chip_in a.words.now a.l1d.now a.l2.now a.ext.now a.l1p.now in
    let e = c.hit.ensures a.a k c.set_of-s.ensures.0 refl in grind arith
