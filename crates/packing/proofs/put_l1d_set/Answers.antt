-- All lines and the order of the set are put, which is the set.
use Rattle.std.proofs.Common.{rules}
use Rattle.packing.specs.Packed.{l1d_set_put}
use Rattle.packing.proofs.put_l1d_set.Goals as goal

pub returns : goal.returns
returns c =
    l1d_set_put _ _ _ _ _ _ c.requires.0 (search rules) c.store.ensures c.store-2.ensures c.put_l1d_order.ensures
