-- Paper 01, "CPU reads and writes", third and fourth paragraph: the home of a line, what L2 does for a fetch or a
-- write miss, what leaves L2 for it, and who serves.
use Rattle.std.specs.Prelude.{ℕ, ◌-◌, ◌+◌, Bool, true, false, not, cond, List, ltb}
use Rattle.model.specs.Bytes.{part, stored}
use Rattle.model.specs.Memories.{external_base}
use Rattle.model.specs.Lines.{offset_in, l1d_kind, l1d_set_of, l1d_data, l2_line_length, line_of, l2_line, upper_half}
use Rattle.model.specs.Records.{State, with_record, with_l2, with_external, mode0, l2_kind_by, l2_set_of, l2_data, l2_set_at, l1d_line_at, l2_line_at, with_l2_line}
use Rattle.model.specs.Ways.{l2_victim, l1d_way, l2_way, in_l1d, in_l2, use_l2, empty_l1d, empty_l2}
use Rattle.model.specs.declared.Record.{Record}

-- ---- "The home is SRAM for SRAM. For external memory it is L2 cache, or external memory itself in mode 0."
unfoldable pub home_is_l2 : Record → ℕ → Bool
home_is_l2 r a = cond (ltb a external_base) false (not (mode0 r))

-- bytes of SRAM and of external memory, by address
unfoldable pub memory_part : ℕ → ℕ → State → List ℕ
memory_part a n z = cond (ltb a external_base) (part z.l2 a n) (part z.ext (a - external_base) n)

-- "On writeback a line goes out into the part of the lent memory that begins at its home."
unfoldable pub put_memory : ℕ → List ℕ → State → State
put_memory a bs z =
    cond (ltb a external_base) (with_l2 z (stored z.l2 a bs)) (with_external z (stored z.ext (a - external_base) bs))

-- ---- "A write then makes the L2 line dirty. A writeback into L2 makes the line dirty and uses nothing.": bytes go
-- into the L2 line in set t, way v, at address a
unfoldable pub put_l2 : ℕ → ℕ → ℕ → List ℕ → State → State
put_l2 t v a bs z =
    with_l2 (with_record z (with_l2_line z.rec t v (line_of (l2_line_at z.rec t v).address true)))
    (stored z.l2 (l2_data z.rec t v + offset_in (l2_kind_by z.rec) a) bs)

-- an L1D line's bytes go to its home (an external line that L2 ought to hold and does not cannot be in a well-formed
-- record)
unfoldable pub put_home : ℕ → List ℕ → State → State
put_home a bs z = cond (home_is_l2 z.rec a) (cond (in_l2 z a) (put_l2 (l2_set_of z.rec a) (l2_way z a) a bs z) z) (put_memory a bs z)

-- ---- "A fetch or write miss that finds its L2 line uses that way. If it doesn't, the L2 way is chosen likewise;":
-- the way that has the line of a, or is chosen for it
unfoldable pub l2_way_for : State → ℕ → ℕ
l2_way_for z a = cond (in_l2 z a) (l2_way z a) (l2_victim (l2_set_at z.rec (l2_set_of z.rec a)))

-- ---- "the line leaving it first takes in the dirty halves that L1D holds, both halves become invalid in L1D,": the
-- half at b; both halves of the line at b
unfoldable pub take_half : ℕ → ℕ → ℕ → State → State
take_half t v b z =
    cond (in_l1d z b)
    (empty_l1d (l1d_set_of b) (l1d_way z b)
    (cond (l1d_line_at z.rec (l1d_set_of b) (l1d_way z b)).dirty (put_l2 t v b (part z.l1d (l1d_data (l1d_set_of b) (l1d_way z b)) l1d_kind.line_length) z) z))
    z

unfoldable pub take_halves : ℕ → ℕ → ℕ → State → State
take_halves t v b z = take_half t v (upper_half b) (take_half t v b z)

-- ".. and it is written out if dirty;", "An L2 line's home is external memory."
unfoldable pub write_out_l2 : ℕ → ℕ → State → State
write_out_l2 t v z =
    cond (l2_line_at z.rec t v).valid
    (cond (l2_line_at z.rec t v).dirty
    (with_external (with_record z (with_l2_line z.rec t v (line_of (l2_line_at z.rec t v).address false)))
    (stored z.ext ((l2_line_at z.rec t v).address - external_base) (part z.l2 (l2_data z.rec t v) l2_line_length)))
    z)
    z

-- all of this for a valid line, which stays; and then the way is emptied
unfoldable pub writeback_l2 : ℕ → ℕ → State → State
writeback_l2 t v z = cond (l2_line_at z.rec t v).valid (write_out_l2 t v (take_halves t v (l2_line_at z.rec t v).address z)) z

unfoldable pub evict_l2 : ℕ → ℕ → State → State
evict_l2 t v z = empty_l2 t v (writeback_l2 t v z)

-- ---- "then 128 bytes are fetched, clean, and used."
unfoldable pub fill_l2 : ℕ → ℕ → ℕ → State → State
fill_l2 t v b z =
    with_l2 (with_record z (with_l2_line z.rec t v (line_of b false)))
    (stored z.l2 (l2_data z.rec t v) (part z.ext (b - external_base) l2_line_length))

abbrev pub bring_l2 : ℕ → ℕ → ℕ → State → State
bring_l2 t v b z = use_l2 t v (fill_l2 t v b (evict_l2 t v z))

unfoldable pub fetch_l2 : ℕ → State → State
fetch_l2 a z =
    cond (home_is_l2 z.rec a)
    (cond (in_l2 z a) (use_l2 (l2_set_of z.rec a) (l2_way_for z a) z) (bring_l2 (l2_set_of z.rec a) (l2_way_for z a) (l2_line a) z))
    z

-- ---- "The server number is 1 for L1D, 2 SRAM, 3 L2 cache, 4 external (also when L2 had to fetch)": of what lies
-- behind L1D
unfoldable pub home_server : ℕ → State → ℕ
home_server a z = cond (ltb a external_base) 2 (cond (home_is_l2 z.rec a) (cond (in_l2 z a) 3 4) 4)
