-- The words stand for the record with the sets passed so far fresh.
use Rattle.std.proofs.Common.{◌≡◌, ◌++◌, drop, replicate}
use Rattle.model.specs.Records.{fresh_l1d_set}
use Rattle.tags.specs.Words.{record_in}
use Rattle.packing.specs.Packed.{with_l1d}
use Rattle.packing.proofs.fresh_l1d.Given as goal

abbrev pub invariant-loop-i : goal.invariant-loop-i
invariant-loop-i l = record_in l.tags ≡ with_l1d (record_in l.initial.tags) (replicate l.i fresh_l1d_set ++ drop l.i (record_in l.initial.tags).l1d)
