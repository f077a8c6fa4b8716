-- L2 serves as for a data read, and the bytes and their count are those of the home behind it (`behind-told`).
use Rattle.std.proofs.Common.{refl, sym, ◌∙◌}
use Rattle.tags.specs.Words.{state_in}
use Rattle.access.specs.Serving.{still-found}
use Rattle.fetches.specs.Told.{behind-told}
use Rattle.fetches.proofs.behind.Goals as goal

pub returns : goal.returns
returns c =
    let a = c.args in let k = c.requires in let f = c.fetch_l2-h in let h = f.result in let b = c.home_bytes-bytes in
    let z = state_in a.tags.now a.l1d.now a.l2.now a.ext.now in
    let y = state_in f.new.tags a.l1d.now f.new.l2 f.new.ext in
    let e = f.ensures.ext_after in let n = still-found h a.a y z e f.ensures.serves.0 in
    behind-told a.a z y h c.home_moved-n.result b.result k.a_value.0 k.a_value.1 f.ensures.serves f.ensures.told e n.1
    (c.home_moved-n.ensures.0 y refl n.1)
    (b.ensures y refl refl (k.lent.1.1.0 ∙ sym n.0.0) (k.lent.1.1.1 ∙ sym n.0.1) n.1)
