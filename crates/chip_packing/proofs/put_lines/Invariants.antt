-- The lines of the sets passed so far are in the words, the data side's record is as it was.
use Rattle.std.proofs.Common.{◌≡◌}
use Rattle.tags.specs.Words.{record_in}
use Rattle.packing.specs.Packed.{front}
use Rattle.l1p_tags.specs.Lines.{lines_in}
use Rattle.chip_packing.proofs.put_lines.Given as goal

abbrev pub invariant-loop-s : goal.invariant-loop-s
invariant-loop-s l = (lines_in l.words ≡ front l.xs (lines_in l.initial.words) l.s) × (record_in l.words ≡ record_in l.initial.words)
