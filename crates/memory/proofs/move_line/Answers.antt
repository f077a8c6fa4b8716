-- `memory::move_line` meets its contract: the three ways through it are the three laws of specs/Copied, each with how
-- many bytes went.
use Rattle.std.proofs.Common.{sym, ◌∙◌, arith}
use Rattle.memory.specs.Copied.{both-inside, move-short, move-full, moved, told-short, told-full, told_in}
use Rattle.memory.proofs.move_line.Goals as goal

pub returns-then-not-fits : goal.returns-then-not-fits
returns-then-not-fits g c =
    let o = sym c.fits.ensures ∙ c.if-not-fits.true in
    record { dst_after = move-short _ _ _ _ _ o; told = (told-short _ _ _ _ g.row.N o, omega arith) }

pub returns-then-not-fits-2 : goal.returns-then-not-fits-2
returns-then-not-fits-2 g c =
    let h = sym c.fits.ensures ∙ c.if-not-fits.false in let o = sym c.fits-2.ensures ∙ c.if-not-fits-2.true in
    record { dst_after = move-full _ _ _ _ _ h o; told = (told-full _ _ _ _ g.row.N h o, omega arith) }

pub returns : goal.returns
returns g c =
    let h = both-inside c.args.dst.now c.args.src.now c.args.a c.args.b g.row.N (sym c.fits.ensures ∙ c.if-not-fits.false) (sym c.fits-2.ensures ∙ c.if-not-fits-2.false) in
    record {
      dst_after = moved _ _ _ _ _ h c.copy_from_slice.new.self c.copy_from_slice.ensures.after;
      told = (told_in _ _ _ _ _ h, omega arith);
    }
