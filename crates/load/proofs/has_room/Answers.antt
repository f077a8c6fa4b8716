-- `load::has_room` meets its contract: each turn takes the bytes of one access from the room that is left.
use Rattle.std.proofs.Common.{◌+◌, arith, length-append}
use Rattle.std.proofs.lemmas.Bool.Decides.{nat_tests}
use Rattle.traces.specs.Writing.{trace_bytes}
use Rattle.traces.specs.Load.{accesses_from}
use Rattle.load.specs.Passes.{bytes_next, bytes_within}
use Rattle.load.proofs.has_room.Goals as goal

pub loop-init : goal.loop-init
unfolding trace_bytes accesses_from
loop-init c = record { held = c.seeded-words.ensures; spent = λ e l. omega arith }

pub returns-then-left-bytes : goal.returns-then-left-bytes
returns-then-left-bytes c = λ e l.
    let n = c.next.ensures c.args.seed c.loop.counter c.loop.invariant.held in
    let b = c.bytes_of-bytes.ensures e l in
    let s = c.loop.invariant.spent e l in
    let w = bytes_within c.args.seed e (c.loop.counter + 1) c.args.count (omega arith) in
    grind (arith, bytes_next, length-append, nat_tests)

pub loop-preserved : goal.loop-preserved
loop-preserved c = record {
  held = (c.next.ensures c.args.seed c.loop.counter c.loop.invariant.held).1;
  spent = λ e l.
      let n = c.next.ensures c.args.seed c.loop.counter c.loop.invariant.held in
      let b = c.bytes_of-bytes.ensures e l in
      let s = c.loop.invariant.spent e l in
      grind (arith, bytes_next, length-append);
}
