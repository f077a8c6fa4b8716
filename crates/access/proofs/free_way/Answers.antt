-- A way of L1D is made free, or none is chosen: a line that leaves moves no size (`same-evict-l1d`).
use Rattle.std.proofs.Common.{refl}
use Rattle.model.specs.Access.{evict_l1d}
use Rattle.tags.specs.Words.{state_in}
use Rattle.tags.specs.Sizes.{lent-next, same-evict-l1d}
use Rattle.access.proofs.free_way.Goals as goal

pub returns-clause-lent : goal.returns-clause-lent
returns-clause-lent c =
    let a = c.args in let g = c.evict_l1d-g in let w = c.victim-w.result in
    let z = state_in a.tags.now a.l1d.now a.l2.now a.ext.now in
    lent-next a.split.sram a.split.sets a.tags.now g.new.tags (state_in g.new.tags a.l1d.now g.new.l2 g.new.ext)
    (evict_l1d a.i w z) c.requires.lent g.auto.tags g.ensures.ext_after refl (same-evict-l1d a.i w z)
