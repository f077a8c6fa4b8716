-- 02, U2, "Which line was put out.": what an access reports beside its number, server and value. First the line that
-- left a chosen way. Then the bytes that an access read from external memory and stored into it: the steps of Homes and
-- Access once more, each with the stretches of external memory that it reached. That they are 01's steps, that external
-- memory changes by these stretches alone and that what was read stands there: `Accounts`, at the end, shown by
-- agreement/proofs/Reports.
use Rattle.std.specs.Prelude.{ℕ, ◌+◌, ◌-◌, cond, ◌≡◌, List, [], ◌∷◌, ◌++◌, length, ltb, leb}
use Rattle.model.specs.Bytes.{part, stored}
use Rattle.model.specs.Memories.{external_base}
use Rattle.model.specs.Lines.{l1d_kind, l1d_set_of, l1d_data, l1d_line, l2_line_length, l2_line}
use Rattle.model.specs.Records.{State, l2_set_of, l2_data, l1d_set_at, l1d_line_at, l2_line_at}
use Rattle.model.specs.Ways.{l1d_victim, in_l1d, in_l2, use_l1d, use_l2, empty_l1d, empty_l2}
use Rattle.model.specs.Homes.{home_is_l2, put_memory, put_home, put_l2, l2_way_for, take_halves, write_out_l2, fill_l2}
use Rattle.model.specs.Access.{cacheable, read_hit, evict_l1d, fill_l1d, read_access, write_hit, write_access}
use Rattle.model.specs.declared.Line.{Line}
use Rattle.model.specs.declared.Left.{Left}
use Rattle.model.specs.declared.Left.TheVariants.{NoWay, Empty, Clean, Dirty}

-- ---- an answer that is an enum has a definition: the number of each case, and its address
abbrev pub left_kind : Left → ℕ
left_kind NoWay = 0
left_kind Empty = 1
left_kind (Clean a) = 2
left_kind (Dirty a) = 3

abbrev pub left_address : Left → ℕ
left_address NoWay = 0
left_address Empty = 0
left_address (Clean a) = a
left_address (Dirty a) = a

-- ---- "The choice of a way must tell whether it was empty or which line address left it dirty or clean"
unfoldable pub left_by : Line → Left
left_by x = cond x.valid (cond x.dirty (Dirty x.address) (Clean x.address)) Empty

-- way w of L1D set s, as it stands when it is chosen
unfoldable pub l1d_left : ℕ → ℕ → State → Left
l1d_left s w z = left_by (l1d_line_at z.rec s w)

-- "(an L2 line once it has taken in its halves)": way v of L2 set t
unfoldable pub l2_left : ℕ → ℕ → State → Left
l2_left t v z =
    cond (l2_line_at z.rec t v).valid (left_by (l2_line_at (take_halves t v (l2_line_at z.rec t v).address z).rec t v))
    Empty

-- L2 chooses a way where it is the home of a and does not have its line
unfoldable pub fetch_left : ℕ → State → Left
fetch_left a z =
    cond (home_is_l2 z.rec a) (cond (in_l2 z a) NoWay (l2_left (l2_set_of z.rec a) (l2_way_for z a) z)) NoWay

-- ---- "An access also reports the bytes it read from and wrote to external memory."
-- a stretch of external memory: where it begins, and its bytes
pub record Stretch : Type 0 where
  pub at : ℕ
  pub bytes : List ℕ

abbrev pub stretch : ℕ → List ℕ → Stretch
stretch a bs = record { at = a; bytes = bs }

-- the state after a step, and what it read from external memory and stored into it
pub record Moved : Type 0 where
  pub next : State
  pub read : List Stretch
  pub written : List Stretch

-- a step that does not reach external memory; one that read a stretch; one that stored one; one after another
abbrev pub still : State → Moved
still z = record { next = z; read = []; written = [] }

abbrev pub reading : Stretch → State → Moved
reading x z = record { next = z; read = x ∷ []; written = [] }

abbrev pub writing : Stretch → State → Moved
writing x z = record { next = z; read = []; written = x ∷ [] }

abbrev pub and_then : Moved → (State → Moved) → Moved
and_then m f =
    record {
      next = (f m.next).next;
      read = m.read ++ (f m.next).read;
      written = m.written ++ (f m.next).written;
    }

-- the bytes that go into a memory at a: all of bs, and none where they do not all lie in it (`stored`)
unfoldable pub taken : List ℕ → ℕ → List ℕ → List ℕ
taken m a bs = cond (leb (a + length bs) (length m)) bs []

-- ---- the steps of Homes and Access that reach external memory
-- bytes of SRAM and of external memory (`memory_part`, `put_memory`)
unfoldable pub memory_moved : ℕ → ℕ → State → Moved
memory_moved a n z =
    cond (ltb a external_base) (still z) (reading (stretch (a - external_base) (part z.ext (a - external_base) n)) z)

unfoldable pub put_memory_moved : ℕ → List ℕ → State → Moved
put_memory_moved a bs z =
    cond (ltb a external_base) (still (put_memory a bs z))
    (writing (stretch (a - external_base) (taken z.ext (a - external_base) bs)) (put_memory a bs z))

-- an L2 line goes out (`write_out_l2`); 128 bytes are fetched (`fill_l2`)
unfoldable pub write_out_l2_moved : ℕ → ℕ → State → Moved
write_out_l2_moved t v z =
    cond (l2_line_at z.rec t v).valid
    (cond (l2_line_at z.rec t v).dirty
    (writing
    (stretch ((l2_line_at z.rec t v).address - external_base)
    (taken z.ext ((l2_line_at z.rec t v).address - external_base) (part z.l2 (l2_data z.rec t v) l2_line_length)))
    (write_out_l2 t v z))
    (still z))
    (still z)

unfoldable pub fill_l2_moved : ℕ → ℕ → ℕ → State → Moved
fill_l2_moved t v b z =
    reading (stretch (b - external_base) (part z.ext (b - external_base) l2_line_length)) (fill_l2 t v b z)

-- ---- the steps that are made of these, as Homes and Access make them
unfoldable pub put_home_moved : ℕ → List ℕ → State → Moved
put_home_moved a bs z = cond (home_is_l2 z.rec a) (still (put_home a bs z)) (put_memory_moved a bs z)

unfoldable pub writeback_l1d_moved : ℕ → ℕ → State → Moved
writeback_l1d_moved s w z =
    cond (l1d_line_at z.rec s w).valid
    (cond (l1d_line_at z.rec s w).dirty
    (put_home_moved (l1d_line_at z.rec s w).address (part z.l1d (l1d_data s w) l1d_kind.line_length) z) (still z))
    (still z)

unfoldable pub evict_l1d_moved : ℕ → ℕ → State → Moved
evict_l1d_moved s w z = and_then (writeback_l1d_moved s w z) (λ y. still (empty_l1d s w y))

unfoldable pub writeback_l2_moved : ℕ → ℕ → State → Moved
writeback_l2_moved t v z =
    cond (l2_line_at z.rec t v).valid (write_out_l2_moved t v (take_halves t v (l2_line_at z.rec t v).address z)) (still z)

unfoldable pub evict_l2_moved : ℕ → ℕ → State → Moved
evict_l2_moved t v z = and_then (writeback_l2_moved t v z) (λ y. still (empty_l2 t v y))

unfoldable pub bring_l2_moved : ℕ → ℕ → ℕ → State → Moved
bring_l2_moved t v b z = and_then (and_then (evict_l2_moved t v z) (fill_l2_moved t v b)) (λ y. still (use_l2 t v y))

unfoldable pub fetch_l2_moved : ℕ → State → Moved
fetch_l2_moved a z =
    cond (home_is_l2 z.rec a)
    (cond (in_l2 z a) (still (use_l2 (l2_set_of z.rec a) (l2_way_for z a) z))
    (bring_l2_moved (l2_set_of z.rec a) (l2_way_for z a) (l2_line a) z))
    (still z)

-- the n bytes at b, which lie in a's line, out of the home (`home_part`), and an L1D way filled from it
unfoldable pub home_moved : ℕ → ℕ → ℕ → State → Moved
home_moved a b n z = cond (home_is_l2 z.rec a) (still z) (memory_moved b n z)

unfoldable pub fill_l1d_moved : ℕ → ℕ → ℕ → State → Moved
fill_l1d_moved w v a z = and_then (home_moved a (l1d_line a) l1d_kind.line_length z) (λ y. still (fill_l1d w v a y))

unfoldable pub write_home_moved : ℕ → ℕ → List ℕ → State → Moved
write_home_moved v a bs z =
    cond (home_is_l2 z.rec a) (still (put_l2 (l2_set_of z.rec a) v a bs z)) (put_memory_moved a bs z)

-- ---- reads and writes, whole
-- into way w of L1D, which was emptied
unfoldable pub read_emptied_moved : ℕ → ℕ → State → Moved
read_emptied_moved w a z =
    and_then (and_then (fetch_l2_moved a z) (fill_l1d_moved w (l2_way_for z a) a)) (λ y. still (use_l1d (l1d_set_of a) w y))

unfoldable pub read_thawed_moved : ℕ → State → Moved
read_thawed_moved a z =
    and_then (evict_l1d_moved (l1d_set_of a) (l1d_victim (l1d_set_at z.rec (l1d_set_of a))) z)
    (read_emptied_moved (l1d_victim (l1d_set_at z.rec (l1d_set_of a))) a)

unfoldable pub read_frozen_moved : ℕ → ℕ → State → Moved
read_frozen_moved n a z = and_then (fetch_l2_moved a z) (home_moved a a n)

unfoldable pub read_miss_moved : ℕ → ℕ → State → Moved
read_miss_moved n a z = cond z.rec.frozen (read_frozen_moved n a z) (read_thawed_moved a z)

unfoldable pub read_moved : ℕ → ℕ → State → Moved
read_moved n a z =
    cond (cacheable z.rec a) (cond (in_l1d z a) (still (read_hit n a z).next) (read_miss_moved n a z)) (memory_moved a n z)

unfoldable pub write_miss_moved : ℕ → List ℕ → State → Moved
write_miss_moved a bs z = and_then (fetch_l2_moved a z) (write_home_moved (l2_way_for z a) a bs)

unfoldable pub write_moved : ℕ → List ℕ → State → Moved
write_moved a bs z =
    cond (cacheable z.rec a) (cond (in_l1d z a) (still (write_hit a bs z).next) (write_miss_moved a bs z))
    (put_memory_moved a bs z)

-- ---- what is reported: what left the ways that were chosen, and how many bytes
pub record Report : Type 0 where
  pub l1d_left : Left
  pub l2_left : Left
  pub read : ℕ
  pub written : ℕ

-- how many bytes there are in stretches
unfoldable pub bytes_in : List Stretch → ℕ
bytes_in [] = 0
bytes_in (x ∷ xs) = length x.bytes + bytes_in xs

abbrev pub report : Left → Left → Moved → Report
report k l m = record { l1d_left = k; l2_left = l; read = bytes_in m.read; written = bytes_in m.written }

-- nothing is reported of a hit, of a refused call, and of one that is neither a read nor a write
abbrev pub no_report : Report
no_report = record { l1d_left = NoWay; l2_left = NoWay; read = 0; written = 0 }

-- A thawed read miss chooses a way of L1D. It, a frozen one and a write miss may have L2 choose one.
unfoldable pub read_miss_report : ℕ → ℕ → State → Report
read_miss_report n a z =
    cond z.rec.frozen (report NoWay (fetch_left a z) (read_miss_moved n a z))
    (report (l1d_left (l1d_set_of a) (l1d_victim (l1d_set_at z.rec (l1d_set_of a))) z)
    (fetch_left a (evict_l1d (l1d_set_of a) (l1d_victim (l1d_set_at z.rec (l1d_set_of a))) z)) (read_miss_moved n a z))

unfoldable pub write_miss_report : ℕ → List ℕ → State → Report
write_miss_report a bs z = report NoWay (fetch_left a z) (write_miss_moved a bs z)

unfoldable pub read_report : ℕ → ℕ → State → Report
read_report n a z =
    cond (cacheable z.rec a) (cond (in_l1d z a) no_report (read_miss_report n a z))
    (report NoWay NoWay (memory_moved a n z))

unfoldable pub write_report : ℕ → List ℕ → State → Report
write_report a bs z =
    cond (cacheable z.rec a) (cond (in_l1d z a) no_report (write_miss_report a bs z))
    (report NoWay NoWay (put_memory_moved a bs z))

-- ---- "These counts equal the bytes moved in 01's steps": without what it moved, an access is 01's; external memory
-- changes by the stretches that were stored, one after another, and by nothing else; what was read stands there; and
-- the counts are the bytes of these stretches
unfoldable pub stored_all : List Stretch → List ℕ → List ℕ
stored_all [] e = e
stored_all (x ∷ xs) e = stored_all xs (stored e x.at x.bytes)

pub data Stand (e : List ℕ) : List Stretch → Type 0 where
  none : Stand e []
  more : {x : Stretch} {xs : List Stretch} → part e x.at (length x.bytes) ≡ x.bytes → Stand e xs →
      Stand e (x ∷ xs)

pub record Accounts (z : State) (m : Moved) (z' : State) (q : Report) : Type 0 where
  pub next : m.next ≡ z'
  pub stored : z'.ext ≡ stored_all m.written z.ext
  pub stand : Stand z'.ext m.read
  pub read : q.read ≡ bytes_in m.read
  pub written : q.written ≡ bytes_in m.written

abbrev pub ReadAccounts : Type 0
ReadAccounts = (n a : ℕ) (z : State) → Accounts z (read_moved n a z) (read_access n a z).next (read_report n a z)

abbrev pub WriteAccounts : Type 0
WriteAccounts =
    (a : ℕ) (bs : List ℕ) (z : State) → Accounts z (write_moved a bs z) (write_access a bs z).next (write_report a bs z)
