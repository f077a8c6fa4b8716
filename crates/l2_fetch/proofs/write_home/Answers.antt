-- The bytes of a write miss go to the home, and how many of them to external memory is told. Why: as for `fill_l1d`.
use Rattle.std.proofs.Common.{arith}
use Rattle.model.specs.Homes.{put_memory, put_l2}
use Rattle.model.specs.Access.{write_home}
use Rattle.model.specs.Reports.{bytes_in, memory_moved, put_memory_moved, home_moved, write_home_moved}
use Rattle.l2_fetch.specs.Fetching.{taken-part}
use Rattle.l2_fetch.proofs.write_home.Goals as goal

pub returns-in-Some : goal.returns-in-Some
unfolding write_home put_l2 home_moved write_home_moved bytes_in
returns-in-Some c = grind arith

pub returns-then-is_external : goal.returns-then-is_external
unfolding write_home put_memory home_moved memory_moved write_home_moved put_memory_moved bytes_in
returns-then-is_external c = grind (arith, taken-part)

pub returns : goal.returns
unfolding write_home put_memory home_moved memory_moved write_home_moved put_memory_moved bytes_in
returns c = grind arith
