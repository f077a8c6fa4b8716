-- L2 finds the line of an address or fetches it; the way, the server and the report are told. Why: the tests of the
-- code say which level is the home (`home-..`) and whether L2 has the line, and so which branch of each definition is
-- taken; of a line that is brought, what is read and stored is what its fetch reads and what left for it stores.
use Rattle.std.proofs.Common.{arith}
use Rattle.model.specs.Ways.{in_l2, l2_way, use_l2}
use Rattle.model.specs.Homes.{l2_way_for, fetch_l2, home_server}
use Rattle.model.specs.Reports.{fetch_left, bytes_in, fetch_l2_moved}
use Rattle.tags.specs.Home.{home-sram, home-external, home-l2}
use Rattle.l2_fetch.specs.Fetching.{read-brought, written-brought}
use Rattle.l2_fetch.proofs.fetch_l2.Goals as goal

pub returns-then-not-is_external : goal.returns-then-not-is_external
unfolding home_server fetch_l2 fetch_left fetch_l2_moved bytes_in
returns-then-not-is_external c = grind (arith, home-sram)

pub returns-then-split-eq0 : goal.returns-then-split-eq0
unfolding home_server fetch_l2 fetch_left fetch_l2_moved bytes_in
returns-then-split-eq0 c = grind (arith, home-external)

pub returns-in-Some : goal.returns-in-Some
unfolding home_server l2_way_for in_l2 l2_way fetch_l2 use_l2 fetch_left fetch_l2_moved bytes_in
returns-in-Some c = grind (arith, home-l2)

pub returns : goal.returns
unfolding home_server l2_way_for in_l2 l2_way fetch_l2 fetch_left fetch_l2_moved
returns c = grind (arith, home-l2, read-brought, written-brought)
