-- An access past the caches: its bytes of external memory, read or written, and their count. As many are held as can
-- be stored (`held_taken`).
use Rattle.std.proofs.Common.{arith}
use Rattle.model.specs.Homes.{memory_part, put_memory}
use Rattle.model.specs.Reports.{memory_moved, put_memory_moved, bytes_in}
use Rattle.access.specs.Serving.{held_taken}
use Rattle.access.proofs.uncached.Goals as goal

pub returns-then-c-eq1 : goal.returns-then-c-eq1
unfolding put_memory put_memory_moved bytes_in
returns-then-c-eq1 c = λ z q. grind (arith, held_taken)

pub returns : goal.returns
unfolding memory_part memory_moved bytes_in
returns c = λ z q. grind arith
