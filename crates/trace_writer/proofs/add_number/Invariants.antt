-- `trace_writer::add_number` meets its contract: each turn puts one group behind the others.
use Rattle.trace_writer.specs.Encoding.{Grouping}
use Rattle.trace_writer.proofs.add_number.Given as goal

abbrev pub invariant-loop-rest : goal.invariant-loop-rest
invariant-loop-rest l = Grouping l.initial.bytes l.n l.number l.bytes l.end l.rest

abbrev pub decreases-loop-rest : goal.decreases-loop-rest
decreases-loop-rest l = l.rest
