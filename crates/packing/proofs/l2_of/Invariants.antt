-- The sets passed so far are in the array.
use Rattle.std.proofs.Common.{◌≡◌, length, take}
use Rattle.tags.specs.Words.{record_in}
use Rattle.packing.proofs.l2_of.Given as goal

abbrev pub invariant-loop-j : goal.invariant-loop-j
invariant-loop-j l = (length l.vs ≡ 512) × (take l.j l.vs ≡ take l.j (record_in l.tags).l2)
