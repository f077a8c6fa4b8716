-- `memory::move_part` meets its contract: bytes that lie in both memories take the place of as many (specs/Copied
-- `moved`), any others are not moved.
use Rattle.std.proofs.Common.{sym, ◌∙◌}
use Rattle.memory.specs.Copied.{both-inside, move-short, move-full, moved}
use Rattle.memory.proofs.move_part.Goals as goal

pub returns-then-not-fits : goal.returns-then-not-fits
returns-then-not-fits c = move-short _ _ _ _ _ (sym c.fits.ensures ∙ c.if-not-fits.true)

pub returns-then-not-fits-2 : goal.returns-then-not-fits-2
returns-then-not-fits-2 c =
    move-full _ _ _ _ _ (sym c.fits.ensures ∙ c.if-not-fits.false) (sym c.fits-2.ensures ∙ c.if-not-fits-2.true)

pub returns : goal.returns
returns c =
    moved _ _ _ _ _
    (both-inside _ _ _ _ _ (sym c.fits.ensures ∙ c.if-not-fits.false) (sym c.fits-2.ensures ∙ c.if-not-fits-2.false))
    c.copy.new.dst c.copy.ensures
