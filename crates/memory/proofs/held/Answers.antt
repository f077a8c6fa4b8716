-- `memory::held` meets its contract: the bytes are all there, or a part of the memory has none of them (specs/Copied).
use Rattle.memory.specs.Copied.{held_all, held_none}
use native.Mathlib.Omega.{arith}
use Rattle.memory.proofs.held.Goals as goal

pub returns-then-fits : goal.returns-then-fits
returns-then-fits c = (held_all _ _ _ _ c.fits.ensures c.if-fits.true, omega arith)

pub returns : goal.returns
returns c = (held_none _ _ _ _ c.fits.ensures c.if-fits.false, omega arith)
