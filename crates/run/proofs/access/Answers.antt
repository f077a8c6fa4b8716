-- `run::access` meets its contract: the access on the words in front, behind which L1P's stay as they were.
use Rattle.std.proofs.Common.{◌∙◌, length-take-le}
use Rattle.run.specs.Front.{access-carried, access-sized}
use Rattle.l1p_tags.specs.Lent.{front-lent}
use Rattle.run.proofs.access.Goals as goal

pub access-requires-clause-lent : goal.access-requires-clause-lent
access-requires-clause-lent c =
    front-lent c.args.split.sram c.args.split.sets c.args.words.now c.requires.code_bound.1 c.requires.sized

pub returns-clause-carried : goal.returns-clause-carried
returns-clause-carried c =
    access-carried _ _ _ _ _ _ _ _ _ _ c.requires.code_bound.0
    (c.access.auto.tags ∙ length-take-le 5253 _ c.requires.code_bound.1) c.access.ensures.ext_after
    c.access.ensures.refused

pub returns-clause-sized : goal.returns-clause-sized
returns-clause-sized c =
    let a = c.args in let o = c.access in
    access-sized a.c a.words.now o.new.tags a.l1d.now a.l2.now a.ext.now o.new.l1d o.new.l2 o.new.ext o.result
    c.requires.code_bound.0 (o.auto.tags ∙ length-take-le 5253 _ c.requires.code_bound.1)
    o.ensures.ext_after a.split.sram a.split.sets c.requires.sized
