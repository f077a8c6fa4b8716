-- All lines and the order of the set are put, which is the set.
use Rattle.std.proofs.Common.{rules}
use Rattle.packing.specs.Packed.{l2_set_put}
use Rattle.packing.proofs.put_l2_set.Goals as goal

pub returns : goal.returns
returns c =
    l2_set_put _ _ _ _ _ _ _ _ c.requires.0 (search rules) c.store.ensures c.store-2.ensures c.store-3.ensures c.store-4.ensures c.put_l2_order.ensures
