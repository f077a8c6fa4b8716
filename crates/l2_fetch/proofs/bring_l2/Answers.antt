-- A line comes into an L2 way: what is there leaves, 128 bytes are fetched, the way gets the line clean and is used.
-- Why: each call's contract is one step of `bring_l2`, in its order; that the line there leaves changes no size
-- (`same-evict-l2`), so that the place of the way's bytes stays.
use Rattle.std.proofs.Common.{arith}
use Rattle.tags.specs.Words.{state_in}
use Rattle.model.specs.Ways.{use_l2}
use Rattle.model.specs.Homes.{fill_l2}
use Rattle.tags.specs.Sizes.{same-evict-l2}
use Rattle.l2_fetch.proofs.bring_l2.Goals as goal

pub returns-clause-ext_after : goal.returns-clause-ext_after
unfolding fill_l2 use_l2
returns-clause-ext_after c =
    let a = c.args in grind (arith, same-evict-l2 a.t a.v (state_in a.tags.now a.l1d.now a.l2.now a.ext.now))
