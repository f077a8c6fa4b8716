-- `memory::store_bytes` meets its contract: each turn puts the next byte behind those that stand (specs/Values
-- `store-next`), and what is left of the value loses it (`rest-next`).
use Rattle.std.proofs.Common.{arith}
use Rattle.memory.specs.Values.{store-next, rest-next, store-zero}
use Rattle.memory.proofs.store_bytes.Goals as goal

pub loop-i-init : goal.loop-i-init
loop-i-init g c = (store-zero _ _ _, omega arith)

pub loop-i-preserved : goal.loop-i-preserved
loop-i-preserved g c =
    let l = c.loop-i in let v = c.args.v in (
      rw (l.invariant.0, l.invariant.1) (store-next c.args.m.now c.args.a g.row.N l.i v c.requires (omega arith)),
      rw l.invariant.1 (rest-next v l.i),
    )
