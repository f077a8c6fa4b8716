-- The words stand for the record with the sets passed so far put.
use Rattle.std.proofs.Common.{◌≡◌}
use Rattle.tags.specs.Words.{record_in}
use Rattle.packing.specs.Packed.{with_l2, front}
use Rattle.packing.proofs.put_l2.Given as goal

abbrev pub invariant-loop-j : goal.invariant-loop-j
invariant-loop-j l = record_in l.tags ≡ with_l2 (record_in l.initial.tags) (front l.vs (record_in l.initial.tags).l2 l.j)
