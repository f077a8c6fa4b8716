-- The words stand for the record with the sets passed so far fresh.
use Rattle.std.proofs.Common.{◌≡◌, ◌++◌, drop, replicate}
use Rattle.model.specs.Records.{fresh_l2_set}
use Rattle.tags.specs.Words.{record_in}
use Rattle.packing.specs.Packed.{with_l2}
use Rattle.packing.proofs.fresh_l2.Given as goal

abbrev pub invariant-loop-j : goal.invariant-loop-j
invariant-loop-j l = record_in l.tags ≡ with_l2 (record_in l.initial.tags) (replicate l.j fresh_l2_set ++ drop l.j (record_in l.initial.tags).l2)
