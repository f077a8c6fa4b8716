-- A hit: a write changes the way, a read gives its bytes, and both use it.
use Rattle.std.proofs.Common.{ne_eqb, refl}
use Rattle.tags.specs.Words.{record_in}
use Rattle.model.specs.Access.{read_hit}
use Rattle.access.proofs.hit.Goals as goal

pub returns : goal.returns
unfolding read_hit
returns c =
    let a = c.args in let d = ne_eqb a.c.code 1 c.if-c-eq1.false in let i = c.requires.i_value.0 in
    λ m e q. rw (d, c.way_value.ensures (record_in a.tags.now) m e, c.use_hit-2.ensures a.l1d.now m e, i, q) refl
