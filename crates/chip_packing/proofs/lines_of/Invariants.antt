-- The lines of the sets passed so far are in the array.
use Rattle.std.proofs.Common.{◌≡◌, length, take}
use Rattle.l1p_tags.specs.Lines.{lines_in}
use Rattle.chip_packing.proofs.lines_of.Given as goal

abbrev pub invariant-loop-i : goal.invariant-loop-i
invariant-loop-i l = (length l.xs ≡ 512) × (take l.i l.xs ≡ take l.i (lines_in l.words))
