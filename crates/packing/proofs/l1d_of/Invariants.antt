-- The sets passed so far are in the array.
use Rattle.std.proofs.Common.{◌≡◌, length, take}
use Rattle.tags.specs.Words.{record_in}
use Rattle.packing.proofs.l1d_of.Given as goal

abbrev pub invariant-loop-i : goal.invariant-loop-i
invariant-loop-i l = (length l.vs ≡ 128) × (take l.i l.vs ≡ take l.i (record_in l.tags).l1d)
