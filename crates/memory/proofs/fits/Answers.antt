-- `memory::fits` meets its contract: the test without a sum that could wrap is the test with it.
use Rattle.memory.specs.Copied.{leb-short, leb-shift}
use Rattle.memory.proofs.fits.Goals as goal

pub returns-then-len-n : goal.returns-then-len-n
returns-then-len-n c = leb-short c.args.a c.args.n c.args.len c.if-len-n.true

pub returns : goal.returns
returns c = leb-shift c.args.a c.args.n c.args.len c.if-len-n.false
