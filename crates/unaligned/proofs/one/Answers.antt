-- `unaligned::one` meets its contract: the run of one given command is its step. Its bounds: the lent memories hold
-- bytes after it (specs/Single).
use Rattle.std.proofs.Common.{refl, rules}
use Rattle.unaligned.specs.Single.{small}
use Rattle.unaligned.proofs.one.Goals as goal

pub returns-clause-small : goal.returns-clause-small
returns-clause-small c =
    let a = c.args in let t = c.type_inv in
    rw (c.unwrap_or.ensures, c.plain.ensures)
    (small a.code a.address a.value _ _ c.run-q.result.last (c.run-q.ensures.one refl (search rules) c.requires.tags_len) t.l1d t.l2 t.ext)
