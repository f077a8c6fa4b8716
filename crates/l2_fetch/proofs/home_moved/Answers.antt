-- How many bytes of the home are external memory's: none where the home is L2 or SRAM, else what is held there. Why: as
-- for `fill_l1d`.
use Rattle.std.proofs.Common.{arith}
use Rattle.model.specs.Reports.{bytes_in, memory_moved, put_memory_moved, home_moved, write_home_moved}
use Rattle.l2_fetch.specs.Fetching.{taken-part}
use Rattle.l2_fetch.proofs.home_moved.Goals as goal

pub returns-then-is_some : goal.returns-then-is_some
unfolding home_moved write_home_moved bytes_in
returns-then-is_some c = grind arith

pub returns-then-is_external : goal.returns-then-is_external
unfolding home_moved memory_moved write_home_moved put_memory_moved bytes_in
returns-then-is_external c = grind (arith, taken-part)

pub returns : goal.returns
unfolding home_moved memory_moved write_home_moved put_memory_moved bytes_in
returns c = grind arith
