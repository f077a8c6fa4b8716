-- The loop keeps its invariant (`begun`, `turned`); behind its last turn all sets are empty (`emptied-all`).
use Rattle.std.proofs.Common.{◌≡◌, ◌∙◌, arith}
use Rattle.l1p_tags.specs.Lines.{length-lines}
use Rattle.l1p_commands.specs.Dropping.{begun, turned, emptied-all}
use Rattle.l1p_commands.proofs.invalidate_all.Goals as goal

pub loop-s-init : goal.loop-s-init
loop-s-init c = begun

pub loop-s-preserved : goal.loop-s-preserved
loop-s-preserved c =
    turned c.loop-s.invariant (rw (← c.empty_line.ensures) c.put.ensures.words_after) c.put.ensures.rest

pub returns-clause-words_after : goal.returns-clause-words_after
returns-clause-words_after c =
    let all : c.loop-s.s ≡ 512 = omega arith in
    (rw all at c.loop-s.invariant.lines) ∙ emptied-all _ (length-lines c.args.words.now)
