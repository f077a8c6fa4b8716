-- Paper 01, "Modes and MAR", and the freeze of 02, U11.
use Rattle.std.specs.Prelude.{ℕ, cond, length, leb, eqb}
use Rattle.model.specs.Bytes.{zero_from}
use Rattle.model.specs.Memories.{sram_length}
use Rattle.model.specs.Lines.{each_way, l1d_kind}
use Rattle.model.specs.Records.{State, with_record, with_l2, with_l1d_sets, with_l2_sets, with_mode, with_mars, with_frozen, with_counts, sram_of, l2_kind_by, fresh_l1d_sets, fresh_l2_sets}
use Rattle.model.specs.Access.{writeback_l1d}
use Rattle.model.specs.Homes.{write_out_l2}

unfoldable pub smaller : ℕ → ℕ → ℕ
smaller a b = cond (leb a b) a b

-- "An accepted mode change, even to the same mode, writes back all dirty lines of L1D, then of L2,": set by set and
-- way by way
unfoldable pub flush_l1d : State → State
flush_l1d z = each_way l1d_kind writeback_l1d z

unfoldable pub flush_l2 : State → State
flush_l2 z = each_way (l2_kind_by z.rec) write_out_l2 z

-- ".. makes every line invalid and every order fresh, and sets zero every L2 byte from the smaller of old and new S
-- on." 02, U5: no line is dirty then, which both counts say.
unfoldable pub new_mode : ℕ → State → State
new_mode m z =
    with_l2 (with_record z (with_counts (with_mode (with_l2_sets (with_l1d_sets z.rec fresh_l1d_sets) fresh_l2_sets) m) 0 0))
    (zero_from (smaller (sram_of z.rec) (sram_length z.rec.l2len m)) z.l2 (length z.l2))

-- the whole change. 02, U11: "a mode change keeps the freeze."
unfoldable pub change_mode : ℕ → State → State
change_mode m z = new_mode m (flush_l2 (flush_l1d z))

-- "A MAR bit may be set at any time.", n: 128 or 129, b: 0 or 1
unfoldable pub change_mar : ℕ → ℕ → State → State
change_mar n b z =
    with_record z (with_mars z.rec (cond (eqb n 128) (eqb b 1) z.rec.mar128) (cond (eqb n 129) (eqb b 1) z.rec.mar129))

-- 02, U11: "A call, in the trace code 12, takes one number: 1 freezes, 0 thaws; the record keeps it."
unfoldable pub change_freeze : ℕ → State → State
change_freeze b z = with_record z (with_frozen z.rec (eqb b 1))
