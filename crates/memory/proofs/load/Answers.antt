-- `memory::load` meets its contract: 0 where the bytes do not lie in the memory, else by the size.
use Rattle.std.proofs.Common.{sym, ◌∙◌, ◌+◌, length, leb-true}
use Rattle.memory.specs.Values.{load-none, size-eight}
use Rattle.memory.proofs.load.Goals as goal

pub returns-then-not-fits : goal.returns-then-not-fits
returns-then-not-fits c = load-none _ _ _ (sym c.fits.ensures ∙ c.if-not-fits.true)

-- the size is none of 1, 2, 4, so that it is 8
pub load_bytes-requires-2-clause-inside : goal.load_bytes-requires-2-clause-inside
load_bytes-requires-2-clause-inside c =
    let e = size-eight _ c.requires c.if-n-eq4.false c.if-n-eq1.false c.if-n-eq2.false in
    let h = leb-true (c.args.a + c.args.n) (length c.args.m.now) (sym c.fits.ensures ∙ c.if-not-fits.false) in
    rw e at h

pub returns : goal.returns
returns c = rw (size-eight _ c.requires c.if-n-eq4.false c.if-n-eq1.false c.if-n-eq2.false) c.load_bytes-2.ensures.low_first
