-- `run::run` meets its contract: what is left to do gives the whole (`Kept`). Each command is one step, of the chip for
-- a trace and of the data side for given ones, by what its function ensures; one given access goes by itself, and any
-- other command given alone is the first and the last of its loop, and leaves it.
use Rattle.std.proofs.Common.{arith, rules}
use Rattle.kinds.specs.Numbers.{refusal_some}
use Rattle.run.specs.Turns.{not_alone, kept-turn, kept-stops, kept-ends}
use Rattle.run.proofs.run.Goals as goal

pub returns-in-Err : goal.returns-in-Err
returns-in-Err c =
    let d = kept-stops c.loop-at.invariant.0 {x = c.nothing.result} (omega arith) c.in-Err.ensures
    (refusal_some c.in-Err.refusal) c.loop-at.auto.answers in
    search rules

pub loop-at-preserved-then-c-ge2 : goal.loop-at-preserved-then-c-ge2
loop-at-preserved-then-c-ge2 c =
    let kept =
    kept-turn c.loop-at.invariant.0 (omega arith) c.in-Ok.ensures c.if-times-eq1.false c.loop-at.auto.words
    c.command-n.ensures c.put_answer.ensures in
    (kept, search rules)

pub loop-at-preserved : goal.loop-at-preserved
loop-at-preserved c =
    let kept =
    kept-turn c.loop-at.invariant.0 (omega arith) c.in-Ok.ensures (not_alone c.if-times-given.false c.in-Ok.ensures (omega arith))
    c.loop-at.auto.words
    c.access-a.ensures.carried c.put_answer-in-loop-at.ensures in
    (kept, c.access-a.ensures.sized)

pub returns : goal.returns
returns c =
    let d = kept-ends c.loop-at.invariant.0 {x = c.nothing-2.result} (omega arith) in
    search rules
