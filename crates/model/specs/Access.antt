-- Paper 01, "CPU reads and writes", first and second paragraph: what an accepted access does, sentence by sentence, as
-- 02, U11 changes what a frozen L1D does.
-- Homes has the third: what the home is, and what L2 does.
-- "1, 2, 4 or 8 bytes, .. the address a multiple of the size": refusals 3 and 4. "little-endian": Calls, where bytes
-- become values.
use Rattle.std.specs.Prelude.{ℕ, ◌+◌, Bool, true, false, cond, List, [], ltb}
use Rattle.model.specs.Bytes.{part, stored}
use Rattle.model.specs.Memories.{external_base}
use Rattle.model.specs.Lines.{offset_in, l1d_kind, l1d_set_of, l1d_data, line_of, l1d_line}
use Rattle.model.specs.Records.{State, with_record, with_l1d, l2_kind_by, l2_set_of, l2_data, mar_bit, l1d_set_at, l1d_line_at, with_l1d_line}
use Rattle.model.specs.Ways.{l1d_victim, l1d_way, in_l1d, use_l1d, empty_l1d}
use Rattle.model.specs.Homes.{home_is_l2, memory_part, put_memory, put_l2, put_home, l2_way_for, fetch_l2, home_server}
use Rattle.model.specs.declared.Record.{Record}

-- what an accepted access gives: its server, the bytes that were read (none for a write), and the state after it
pub record Access : Type 0 where
  pub server : ℕ
  pub bytes : List ℕ
  pub next : State

abbrev pub access : ℕ → List ℕ → State → Access
access k bs z = record { server = k; bytes = bs; next = z }

-- ---- "External memory with MAR bit 0 is reached directly, touching no line."
unfoldable pub cacheable : Record → ℕ → Bool
cacheable r a = cond (ltb a external_base) true (mar_bit r a)

-- ---- "Otherwise, read hit in L1D: its bytes, the way used." 02, U11: "Frozen, hits are served as before but change
-- no order,"
-- the way w of set s that was hit
unfoldable pub use_hit : ℕ → ℕ → State → State
use_hit s w z = cond z.rec.frozen z (use_l1d s w z)

-- the n bytes at address a of the L1D line in way w
abbrev pub l1d_bytes : ℕ → ℕ → ℕ → State → List ℕ
l1d_bytes w a n z = part z.l1d (l1d_data (l1d_set_of a) w + offset_in l1d_kind a) n

unfoldable pub read_hit : ℕ → ℕ → State → Access
read_hit n a z = access 1 (l1d_bytes (l1d_way z a) a n z) (use_hit (l1d_set_of a) (l1d_way z a) z)

-- ---- "Read miss: the way is the lowest invalid one, else the last in order; a dirty line there is written back to
-- its home and the way emptied;"
unfoldable pub writeback_l1d : ℕ → ℕ → State → State
writeback_l1d s w z =
    cond (l1d_line_at z.rec s w).valid
    (cond (l1d_line_at z.rec s w).dirty (put_home (l1d_line_at z.rec s w).address (part z.l1d (l1d_data s w) l1d_kind.line_length) z) z) z

unfoldable pub evict_l1d : ℕ → ℕ → State → State
evict_l1d s w z = empty_l1d s w (writeback_l1d s w z)

-- "then the line is fetched from its home, the way filled clean and used."
-- v: the way of L2 that has the line of address a, where L2 is the home. The n bytes at b, which lie in a's line; and
-- the whole L1D line
unfoldable pub home_part : ℕ → ℕ → ℕ → ℕ → State → List ℕ
home_part v a b n z =
    cond (home_is_l2 z.rec a) (part z.l2 (l2_data z.rec (l2_set_of z.rec a) v + offset_in (l2_kind_by z.rec) b) n)
    (memory_part b n z)

abbrev pub home_line : ℕ → ℕ → State → List ℕ
home_line v a z = home_part v a (l1d_line a) l1d_kind.line_length z

unfoldable pub fill_l1d : ℕ → ℕ → ℕ → State → State
fill_l1d w v a z =
    with_l1d (with_record z (with_l1d_line z.rec (l1d_set_of a) w (line_of (l1d_line a) false)))
    (stored z.l1d (l1d_data (l1d_set_of a) w) (home_line v a z))

-- The way w is chosen first and stays chosen. Its parts, last first: the bytes of the filled way (server k); the line
-- fetched into the emptied way; the whole.
unfoldable pub read_filled : ℕ → ℕ → ℕ → ℕ → State → Access
read_filled w k n a z = access k (l1d_bytes w a n z) (use_l1d (l1d_set_of a) w z)

unfoldable pub read_emptied : ℕ → ℕ → ℕ → State → Access
read_emptied w n a z = read_filled w (home_server a z) n a (fill_l1d w (l2_way_for z a) a (fetch_l2 a z))

unfoldable pub read_thawed : ℕ → ℕ → State → Access
read_thawed n a z = read_emptied (l1d_victim (l1d_set_at z.rec (l1d_set_of a))) n a (evict_l1d (l1d_set_of a) (l1d_victim (l1d_set_at z.rec (l1d_set_of a))) z)

-- 02, U11: "and a read miss takes just its bytes from the home and fills nothing. L2 isn't frozen.": L2 finds or
-- fetches the line as for a fill
unfoldable pub read_frozen : ℕ → ℕ → State → Access
read_frozen n a z = access (home_server a z) (home_part (l2_way_for z a) a a n (fetch_l2 a z)) (fetch_l2 a z)

unfoldable pub read_miss : ℕ → ℕ → State → Access
read_miss n a z = cond z.rec.frozen (read_frozen n a z) (read_thawed n a z)

-- a read of n bytes at a
unfoldable pub read_access : ℕ → ℕ → State → Access
read_access n a z = cond (cacheable z.rec a) (cond (in_l1d z a) (read_hit n a z) (read_miss n a z)) (access 4 (memory_part a n z) z)

-- ---- "Write hit: bytes changed, line dirty, way used." (no order changes where L1D is frozen: 02, U11)
-- the bytes bs go into the L1D line that holds address a in way w
unfoldable pub put_l1d : ℕ → ℕ → List ℕ → State → State
put_l1d w a bs z =
    with_l1d (with_record z (with_l1d_line z.rec (l1d_set_of a) w (line_of (l1d_line_at z.rec (l1d_set_of a) w).address true)))
    (stored z.l1d (l1d_data (l1d_set_of a) w + offset_in l1d_kind a) bs)

unfoldable pub write_hit : ℕ → List ℕ → State → Access
write_hit a bs z = access 1 [] (use_hit (l1d_set_of a) (l1d_way z a) (put_l1d (l1d_way z a) a bs z))

-- ---- "Write miss: L1D is neither filled nor used, the bytes go to the home (an L2 line that leaves for them still
-- takes its halves out of L1D, as below)." 02, U11: "Write misses .. are as they were".
-- v: the way of L2 that has the line, where L2 is the home
unfoldable pub write_home : ℕ → ℕ → List ℕ → State → State
write_home v a bs z = cond (home_is_l2 z.rec a) (put_l2 (l2_set_of z.rec a) v a bs z) (put_memory a bs z)

unfoldable pub write_miss : ℕ → List ℕ → State → Access
write_miss a bs z = access (home_server a z) [] (write_home (l2_way_for z a) a bs (fetch_l2 a z))

-- a write of the bytes bs at a
unfoldable pub write_access : ℕ → List ℕ → State → Access
write_access a bs z = cond (cacheable z.rec a) (cond (in_l1d z a) (write_hit a bs z) (write_miss a bs z)) (access 4 [] (put_memory a bs z))
