-- `load::write_accesses` meets its contract: each turn puts one access behind the point.
use Rattle.std.proofs.Common.{◌+◌, sym, arith, length-append}
use Rattle.traces.specs.Writing.{trace_bytes}
use Rattle.traces.specs.Load.{accesses_from}
use Rattle.model.specs.Laws.{stored-none, length-stored}
use Rattle.trace_writer.specs.Encoding.{stored_more}
use Rattle.load.specs.Passes.{bytes_next, bytes_within}
use Rattle.load.proofs.write_accesses.Goals as goal

pub loop-init : goal.loop-init
unfolding trace_bytes accesses_from
loop-init c = record { held = c.seeded-words.ensures; reached = omega arith; put = sym (stored-none c.args.out.now 0) }

pub put_access-point-requires : goal.put_access-point-requires
put_access-point-requires c =
    let n = c.next.ensures c.args.seed c.loop.counter c.loop.invariant.held in
    let w = bytes_within c.args.seed c.args.extlen (c.loop.counter + 1) c.args.count (omega arith) in
    grind (arith, bytes_next, length-append)

pub loop-preserved : goal.loop-preserved
loop-preserved c =
    let n = c.next.ensures c.args.seed c.loop.counter c.loop.invariant.held in
    let w = bytes_within c.args.seed c.args.extlen (c.loop.counter + 1) c.args.count (omega arith) in
    record {
      held = n.1;
      reached = grind (arith, bytes_next, length-append);
      put = grind (arith, bytes_next, length-append, stored_more, length-stored);
    }
