-- The words stand for the record with the sets passed so far put.
use Rattle.std.proofs.Common.{◌≡◌}
use Rattle.tags.specs.Words.{record_in}
use Rattle.packing.specs.Packed.{with_l1d, front}
use Rattle.packing.proofs.put_l1d.Given as goal

abbrev pub invariant-loop-i : goal.invariant-loop-i
invariant-loop-i l = record_in l.tags ≡ with_l1d (record_in l.initial.tags) (front l.vs (record_in l.initial.tags).l1d l.i)
