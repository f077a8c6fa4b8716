-- The 64 bytes of a line go to its home, and how many of them to external memory is told. Why: the tests of the code
-- say which level is the home (`home-..`), and so which branch of the definitions is taken; each call's contract is a
-- part of that branch.
use Rattle.std.proofs.Common.{arith}
use Rattle.model.specs.Ways.{in_l2, l2_way}
use Rattle.model.specs.Homes.{put_memory, put_l2, put_home}
use Rattle.model.specs.Reports.{bytes_in, put_memory_moved, put_home_moved}
use Rattle.tags.specs.Home.{home-sram, home-external, home-l2}
use Rattle.l1d_writeback.proofs.put_home.Goals as goal

pub returns-then-not-is_external : goal.returns-then-not-is_external
unfolding put_home put_memory put_home_moved put_memory_moved bytes_in
returns-then-not-is_external c = grind (arith, home-sram)

pub returns-then-split-eq0 : goal.returns-then-split-eq0
unfolding put_home put_memory put_home_moved put_memory_moved bytes_in
returns-then-split-eq0 c = grind (arith, home-external)

pub returns-in_default : goal.returns-in_default
unfolding put_home in_l2 l2_way put_home_moved bytes_in
returns-in_default c = grind (arith, home-l2)

pub returns : goal.returns
unfolding put_home in_l2 l2_way put_l2 put_home_moved bytes_in
returns c = grind (arith, home-l2)
