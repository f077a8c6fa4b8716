-- The data side's words are lent as a part, whose record is that of all words, and come back in front of L1P's, which
-- are as they were; then the line comes (`miss-told`).
use Rattle.std.proofs.Common.{◌∙◌}
use Rattle.l1p_tags.specs.Lines.{lent_length}
use Rattle.fetches.specs.Told.{miss-told}
use Rattle.fetches.proofs.miss.Goals as goal

pub returns : goal.returns
returns c =
    let a = c.args in let ws = a.words.now in let g = c.behind-x in let f = c.fill in
    miss-told a.a a.s ws g.new.tags f.new.words a.l1d.now a.l2.now a.ext.now g.new.l2 g.new.ext a.l1p.now f.new.l1p
    g.result f.result (g.auto.tags ∙ lent_length ws c.requires.s_bound.1) c.requires.s_bound.0.1 g.ensures
    f.ensures.value f.ensures.words_after f.ensures.rest f.ensures.l1p_after
