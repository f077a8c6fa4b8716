-- `unaligned::up` meets its contract (specs/Upwards).
use Rattle.std.proofs.Common.{rules, arith, ◌≡◌}
use Rattle.tags.specs.Words.{state_in}
use Rattle.unaligned.specs.Upwards.{rest_next, turned, ended}
use Rattle.unaligned.proofs.up.Goals as goal

pub loop-k-preserved : goal.loop-k-preserved
loop-k-preserved c =
    let l = c.loop-k in let v = l.invariant in let o = c.one-x in
    record {
      few = v.few;
      bytes_long = search rules;
      reads = omega arith;
      writes = omega arith;
      rests = rw v.rests (rest_next c.args.value l.k);
      so = rw c.farther-server.ensures (turned _ _ _ _ l.k _ _ _ l.bytes v.so (omega arith) o.result (rw v.rests at o.ensures.ext_after));
    }

pub returns : goal.returns
returns c =
    let l = c.loop-k in let v = l.invariant in let e : l.k ≡ c.args.size = omega arith in
    rw c.load.ensures (ended _ _ (state_in l.tags l.l1d l.l2 l.ext) c.args.size _ _ _ l.bytes (rw e at v.so) (omega arith))
