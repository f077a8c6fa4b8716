-- A way of L1D gets the line of an address, clean, from its home, and how many bytes came from external memory is
-- told. Why: what was found and the test of the code say which level is the home, and so which branch of each
-- definition is taken; as many bytes lie at a place of external memory as could be stored there (`taken-part`).
use Rattle.std.proofs.Common.{arith}
use Rattle.model.specs.Homes.{memory_part}
use Rattle.model.specs.Access.{home_part, fill_l1d}
use Rattle.model.specs.Reports.{bytes_in, memory_moved, put_memory_moved, home_moved, write_home_moved}
use Rattle.l2_fetch.specs.Fetching.{taken-part}
use Rattle.l2_fetch.proofs.fill_l1d.Goals as goal

pub returns-in-Some : goal.returns-in-Some
unfolding fill_l1d home_part home_moved write_home_moved bytes_in
returns-in-Some c = grind arith

pub returns-then-is_external : goal.returns-then-is_external
unfolding fill_l1d home_part memory_part home_moved memory_moved write_home_moved put_memory_moved bytes_in
returns-then-is_external c = grind (arith, taken-part)

pub returns : goal.returns
unfolding fill_l1d home_part memory_part home_moved memory_moved write_home_moved put_memory_moved bytes_in
returns c = grind arith
