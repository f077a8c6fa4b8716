-- The front of the words stands for the data side's record then (`back-record`), and stays as it is where the lines
-- are put.
use Rattle.std.proofs.Common.{◌∙◌}
use Rattle.l1p_tags.specs.Lines.{lent_length, back-record}
use Rattle.chip_packing.proofs.pack.Goals as goal

pub returns : goal.returns
returns c =
    let l = c.put_lines.ensures in
    (l.rest ∙ back-record c.args.words.now _ (c.pack.auto.tags ∙ lent_length _ c.requires) ∙ c.pack.ensures, l.words_after)
