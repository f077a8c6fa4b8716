-- `memory::load_bytes` meets its contract: each turn puts a byte under the value so far (specs/Values `load-next`), and
-- eight bytes fit (`load-fits`).
use Rattle.std.proofs.Common.{arith}
use Rattle.memory.specs.Values.{load-next, load-below, load-small, load-fits, load-zero}
use Rattle.memory.proofs.load_bytes.Goals as goal

pub loop-i-init : goal.loop-i-init
loop-i-init g c = (load-zero _ _, omega arith)

pub overflow_mul-value : goal.overflow_mul-value
overflow_mul-value g c = let r = load-fits c.loop-i.i c.loop-i.value (omega arith) c.loop-i.invariant.1 in omega arith

pub overflow_add-value-in-loop-i : goal.overflow_add-value-in-loop-i
overflow_add-value-in-loop-i g c = let r = load-fits c.loop-i.i c.loop-i.value (omega arith) c.loop-i.invariant.1 in omega arith

pub loop-i-preserved : goal.loop-i-preserved
loop-i-preserved g c = (load-next c.args.m.now c.args.a g.row.N c.loop-i.i c.loop-i.value c.requires.inside (omega arith) c.loop-i.invariant.0, load-below _ _ _ c.loop-i.invariant.1 (omega arith))

pub returns-clause-small : goal.returns-clause-small
returns-clause-small g c = load-small g.row.N c.loop-i.i c.loop-i.value (omega arith) c.loop-i.invariant.1
