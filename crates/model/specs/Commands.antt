-- Paper 01, "Cache commands (001, Table 29)", as 02, U10 changes the L2 commands. The L1D commands stand first: the L2
-- commands begin with what these do.
use Rattle.std.specs.Prelude.{ℕ, ◌+◌, ◌*◌, ◌-◌, ◌/◌, cond, eqb}
use Rattle.model.specs.Basics.{each}
use Rattle.model.specs.Lines.{each_way, l1d_kind, l1d_set_of, l2_line_length, upper_half}
use Rattle.model.specs.Records.{State, l2_kind_by, l2_set_of, mode0, l2_line_at}
use Rattle.model.specs.Ways.{l1d_way, l2_way, in_l1d, in_l2, empty_l1d, empty_l2}
use Rattle.model.specs.Access.{evict_l1d}
use Rattle.model.specs.Homes.{writeback_l2, evict_l2}
use Rattle.model.specs.Modes.{smaller}

-- "A block is a base address and a count of 4-byte words. .. what passes FFFFFFFFh is cut off.": the address after
-- its last byte
unfoldable pub block_end : ℕ → ℕ → ℕ
block_end b c = smaller (b + c * 4) 0x100000000

-- "It touches each line with a byte in it; count 0 touches none;": how many lines of n bytes, from the line of the
-- base address on.
-- That these are the lines with a byte in them, and no others: `touched-lines` (Laws).
unfoldable pub lines_touched : ℕ → ℕ → ℕ → ℕ
lines_touched n b c = cond (eqb c 0) 0 ((block_end b c - 1) / n - b / n + 1)

-- f at the address of each touched line of n bytes, upwards
unfoldable pub each_touched : ℕ → (ℕ → State → State) → ℕ → ℕ → State → State
each_touched n f b c z = each (λ k. f ((b / n + k) * n)) (lines_touched n b c) z

-- f at each L2 way in use; and at the way that holds the line of a, if one does
unfoldable pub each_l2 : (ℕ → ℕ → State → State) → State → State
each_l2 f z = each_way (l2_kind_by z.rec) f z

unfoldable pub at_l2 : (ℕ → ℕ → State → State) → ℕ → State → State
at_l2 f a z = cond (in_l2 z a) (f (l2_set_of z.rec a) (l2_way z a) z) z

unfoldable pub at_l1d : (ℕ → ℕ → State → State) → ℕ → State → State
at_l1d f a z = cond (in_l1d z a) (f (l1d_set_of a) (l1d_way z a) z) z

-- ---- L1D commands
-- "L1D block writeback-invalidate sends dirty touched lines home and makes touched lines invalid."
unfoldable pub l1d_writeback_invalidate_block : ℕ → ℕ → State → State
l1d_writeback_invalidate_block b c z = each_touched l1d_kind.line_length (at_l1d evict_l1d) b c z

-- "L1D invalidate, block or all, drops them unwritten."
unfoldable pub l1d_invalidate_block : ℕ → ℕ → State → State
l1d_invalidate_block b c z = each_touched l1d_kind.line_length (at_l1d empty_l1d) b c z

unfoldable pub l1d_invalidate_all : State → State
l1d_invalidate_all z = each_way l1d_kind empty_l1d z

-- ---- L2 commands
-- 01: "L2 commands do nothing in mode 0 and never reach L1D lines of SRAM." is struck by 02, U10: each begins with
-- L1D, "in every mode and for SRAM too". What it does to lines of L2 comes behind that, in a mode other than 0.
unfoldable pub unless_mode0 : (State → State) → State → State
unless_mode0 f z = cond (mode0 z.rec) z (f z)

-- 02, U10: the global ones "now send every dirty L1D line home first and empty L1D,": set by set and way by way
unfoldable pub evict_all_l1d : State → State
evict_all_l1d z = each_way l1d_kind evict_l1d z

-- "Writeback: for each L2 line (touched, or all) the dirty L1D halves are written into it, both halves become invalid
-- in L1D, and a dirty line goes out, staying valid and clean." (`writeback_l2`) "Writeback-invalidate: the same, then
-- the line is invalid." (`evict_l2`)
unfoldable pub l2_writeback_all : State → State
l2_writeback_all z = unless_mode0 (each_l2 writeback_l2) (evict_all_l1d z)

unfoldable pub l2_writeback_invalidate_all : State → State
l2_writeback_invalidate_all z = unless_mode0 (each_l2 evict_l2) (evict_all_l1d z)

-- 02, U10: "Besides the halves, the two L2 block writebacks first send each touched L1D line home if dirty and make it
-- invalid,": what L1D block writeback-invalidate does
unfoldable pub l2_writeback_block : ℕ → ℕ → State → State
l2_writeback_block b c z = unless_mode0 (each_touched l2_line_length (at_l2 writeback_l2) b c) (l1d_writeback_invalidate_block b c z)

unfoldable pub l2_writeback_invalidate_block : ℕ → ℕ → State → State
l2_writeback_invalidate_block b c z = unless_mode0 (each_touched l2_line_length (at_l2 evict_l2) b c) (l1d_writeback_invalidate_block b c z)

-- "Block invalidate: line and halves become invalid, nothing is written."
unfoldable pub drop_l2 : ℕ → ℕ → State → State
drop_l2 t v z =
    empty_l2 t v (at_l1d empty_l1d (upper_half (l2_line_at z.rec t v).address) (at_l1d empty_l1d (l2_line_at z.rec t v).address z))

-- 02, U10: "and L2 block invalidate drops each touched L1D line, likewise in every mode and for SRAM."
unfoldable pub l2_invalidate_block : ℕ → ℕ → State → State
l2_invalidate_block b c z = unless_mode0 (each_touched l2_line_length (at_l2 drop_l2) b c) (l1d_invalidate_block b c z)
