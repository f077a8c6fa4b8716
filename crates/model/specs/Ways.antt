-- Paper 01, "CPU reads and writes": the ways of a set: found, chosen, used, emptied. Here and in what follows s and w
-- are a set and a way of L1D, t and v of L2.
use Rattle.std.specs.Prelude.{ℕ, zero, suc, ◌%◌, Bool, cond, ltb}
use Rattle.model.specs.Lines.{l1d_kind, l1d_set_of, l2_ways, holds, empty_line, l1d_line, l2_line, l1d_get, l2_get, l1d_use, l2_use}
use Rattle.model.specs.Records.{State, with_record, l2_set_of, l1d_set_at, l2_set_at, with_l1d_set, with_l2_set, with_l1d_line, with_l2_line}
use Rattle.model.specs.declared.Line.{Line}
use Rattle.model.specs.declared.L1dSet.{L1dSet}
use Rattle.model.specs.declared.L2Set.{L2Set}

-- ---- the way of a set that holds line b
-- the first of the ways k, k + 1, .., k + n - 1 that holds line b; k + n where none does
unfoldable pub way_holding : (ℕ → Line) → ℕ → ℕ → ℕ → ℕ
way_holding g zero k b = k
way_holding g (suc n) k b = cond (holds (g k) b) k (way_holding g n (suc k) b)

-- 2 and 4: none does
unfoldable pub l1d_find : L1dSet → ℕ → ℕ
l1d_find v b = way_holding (l1d_get v) l1d_kind.ways 0 b

unfoldable pub l2_find : L2Set → ℕ → ℕ
l2_find v b = way_holding (l2_get v) l2_ways 0 b

-- ---- "the way is the lowest invalid one, else the last in order": of the ways k, k + 1, .., k + n - 1
unfoldable pub lowest_invalid : (ℕ → Line) → ℕ → ℕ → ℕ → ℕ
lowest_invalid g zero k last = last
lowest_invalid g (suc n) k last = cond (g k).valid (lowest_invalid g n (suc k) last) k

-- Of a permutation the remainder is the last way itself (`l1d-victim`, `l2-victim` in Laws); it makes the way one of
-- the set for every record.
unfoldable pub l1d_victim : L1dSet → ℕ
l1d_victim v = lowest_invalid (l1d_get v) l1d_kind.ways 0 (v.order.second % l1d_kind.ways)

unfoldable pub l2_victim : L2Set → ℕ
l2_victim v = lowest_invalid (l2_get v) l2_ways 0 (v.order.fourth % l2_ways)

-- ---- where the line of address a is held: the way of L1D, 2 where none holds it; the way of L2, 4 where none does
unfoldable pub l1d_way : State → ℕ → ℕ
l1d_way z a = l1d_find (l1d_set_at z.rec (l1d_set_of a)) (l1d_line a)

unfoldable pub l2_way : State → ℕ → ℕ
l2_way z a = l2_find (l2_set_at z.rec (l2_set_of z.rec a)) (l2_line a)

unfoldable pub in_l1d : State → ℕ → Bool
in_l1d z a = ltb (l1d_way z a) l1d_kind.ways

unfoldable pub in_l2 : State → ℕ → Bool
in_l2 z a = ltb (l2_way z a) l2_ways

-- ---- ways used
unfoldable pub use_l1d : ℕ → ℕ → State → State
use_l1d s w z = with_record z (with_l1d_set z.rec s (l1d_use (l1d_set_at z.rec s) w))

unfoldable pub use_l2 : ℕ → ℕ → State → State
use_l2 t v z = with_record z (with_l2_set z.rec t (l2_use (l2_set_at z.rec t) v))

-- ---- ways emptied: "Invalidation changes no order."
unfoldable pub empty_l1d : ℕ → ℕ → State → State
empty_l1d s w z = with_record z (with_l1d_line z.rec s w empty_line)

unfoldable pub empty_l2 : ℕ → ℕ → State → State
empty_l2 t v z = with_record z (with_l2_line z.rec t v empty_line)
