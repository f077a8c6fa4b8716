-- What an access reports (02, U2), in two runs at once: which lines left their ways, and how many bytes were read from
-- external memory and stored into it, are the same in both (`read-report`, `write-report`). Nothing is asked of the
-- states but one record and equal lengths (`SameButStored`), and of written bytes but equal lengths.
-- Why: which step is taken and which line leaves goes by the record; how many bytes a part has, and how many go into a
-- memory, goes by lengths; and each step leaves one record and equal lengths, whatever the bytes.
use Prim.Native.Nat.{ℕ, ◌+◌, ◌-◌}
use mathlib.Core.Bool.{true, false, cond}
use mathlib.Core.Path.{◌≡◌, refl, sym, ap, ◌∙◌}
use mathlib.Core.List.{List, []}
use native.Mathlib.Omega.{arith}
use lib.ListN.{length}
use lib.Dec.{ltb, leb}
use borrow.Author.Tests.{leb-true}
use Rattle.model.specs.Bytes.{part, stored}
use Rattle.model.specs.Memories.{external_base}
use Rattle.model.specs.Lines.{l1d_set_of, l1d_data, empty_line, line_of, l1d_line, l2_line, upper_half, l1d_use, l2_use}
use Rattle.model.specs.Records.{State, state, with_record, with_l2, with_external, l2_set_of, l2_data, l1d_set_at, l2_set_at, l1d_line_at, l2_line_at, with_l1d_set, with_l2_set, with_l1d_line, with_l2_line}
use Rattle.model.specs.Ways.{l1d_victim, l1d_way, l2_way, in_l1d, in_l2, use_l1d, use_l2, empty_l1d, empty_l2}
use Rattle.model.specs.Homes.{home_is_l2, put_memory, put_l2, put_home, l2_way_for, take_half, take_halves, write_out_l2, fill_l2}
use Rattle.model.specs.Access.{cacheable, fill_l1d, evict_l1d}
use Rattle.model.specs.Fetches.{fetch_report}
use Rattle.model.specs.Reports.{left_by, l1d_left, l2_left, fetch_left, stretch, Moved, still, reading, writing, and_then, taken, memory_moved, put_memory_moved, write_out_l2_moved, fill_l2_moved, put_home_moved, writeback_l1d_moved, evict_l1d_moved, writeback_l2_moved, evict_l2_moved, bring_l2_moved, fetch_l2_moved, home_moved, fill_l1d_moved, write_home_moved, read_emptied_moved, read_thawed_moved, read_frozen_moved, read_miss_moved, write_miss_moved, Report, report, no_report, bytes_in, read_miss_report, write_miss_report, read_report, write_report}
use Rattle.model.specs.Laws.{bool, length_part, length-stored, cond_both}
use Rattle.model.specs.declared.Left.{Left}
use Rattle.model.specs.declared.Left.TheVariants.{NoWay, Empty}
use Rattle.model.specs.declared.Record.{Record}
use Rattle.agreement.proofs.Reports.{part-outside, bytes-both, evict_l1d-next}
use Rattle.two_runs.specs.TwoRuns.{SameButStored}
use Rattle.two_runs.proofs.Pair.{twin, one-record}

-- ---- how long a part is, and how many bytes go into a memory
length-parts : (m m' : List ℕ) (a n : ℕ) → length m ≡ length m' → length (part m a n) ≡ length (part m' a n)
length-parts m m' a n l =
    bool (leb (a + n) (length m))
    (λ t. let h = leb-true (a + n) (length m) t in length_part m a n h ∙ sym (length_part m' a n (omega arith)))
    (λ t. let t' : leb (a + n) (length m') ≡ false = rw (← l) t in
    rw (part-outside m a n t, part-outside m' a n t') refl)

length_taken : (m m' : List ℕ) (a : ℕ) (bs bs' : List ℕ) → length m ≡ length m' → length bs ≡ length bs' →
    length (taken m a bs) ≡ length (taken m' a bs')
unfolding taken
length_taken m m' a bs bs' l k =
    rw (← l, ← k)
    (cond_both (λ (x y : List ℕ). length x ≡ length y) (leb (a + length bs) (length m)) bs [] bs' [] (λ _. k)
    (λ _. refl))

-- ---- 01's steps leave one record and equal lengths. A step makes its record from the record, and a memory keeps its
-- length whatever is stored
module _ {z z' : State} (q : SameButStored z z') where
  step_same : (g : Record → Record) {d m e d' m' e' : List ℕ} → length d ≡ length d' → length m ≡ length m' →
      length e ≡ length e' →
      SameButStored (state (g z.rec) d m e) (state (g z'.rec) d' m' e')
  step_same g i j k = record { rec = ap g q.rec; l1d = i; l2 = j; ext = k }

  record_same : (g : Record → Record) → SameButStored (with_record z (g z.rec)) (with_record z' (g z'.rec))
  record_same g = step_same g q.l1d q.l2 q.ext

  use_l1d-same : (s w : ℕ) → SameButStored (use_l1d s w z) (use_l1d s w z')
  unfolding use_l1d
  use_l1d-same s w = record_same (λ r. with_l1d_set r s (l1d_use (l1d_set_at r s) w))

  use_l2-same : (t v : ℕ) → SameButStored (use_l2 t v z) (use_l2 t v z')
  unfolding use_l2
  use_l2-same t v = record_same (λ r. with_l2_set r t (l2_use (l2_set_at r t) v))

  empty_l1d-same : (s w : ℕ) → SameButStored (empty_l1d s w z) (empty_l1d s w z')
  unfolding empty_l1d
  empty_l1d-same s w = record_same (λ r. with_l1d_line r s w empty_line)

  empty_l2-same : (t v : ℕ) → SameButStored (empty_l2 t v z) (empty_l2 t v z')
  unfolding empty_l2
  empty_l2-same t v = record_same (λ r. with_l2_line r t v empty_line)

  put_l2-same : (t v a : ℕ) (bs bs' : List ℕ) → SameButStored (put_l2 t v a bs z) (put_l2 t v a bs' z')
  unfolding put_l2
  put_l2-same t v a bs bs' =
      step_same (λ r. with_l2_line r t v (line_of (l2_line_at r t v).address true)) q.l1d (simp length-stored q.l2)
      q.ext

  fill_l2-same : (t v b : ℕ) → SameButStored (fill_l2 t v b z) (fill_l2 t v b z')
  unfolding fill_l2
  fill_l2-same t v b = step_same (λ r. with_l2_line r t v (line_of b false)) q.l1d (simp length-stored q.l2) q.ext

  fill_l1d-same : (w v a : ℕ) → SameButStored (fill_l1d w v a z) (fill_l1d w v a z')
  unfolding fill_l1d
  fill_l1d-same w v a =
      step_same (λ r. with_l1d_line r (l1d_set_of a) w (line_of (l1d_line a) false)) (simp length-stored q.l1d) q.l2
      q.ext

  put_memory-same : (a : ℕ) (bs bs' : List ℕ) → SameButStored (put_memory a bs z) (put_memory a bs' z')
  unfolding put_memory
  put_memory-same a bs bs' =
      let i = a - external_base in
      cond_both SameButStored (ltb a external_base) (with_l2 z (stored z.l2 a bs))
      (with_external z (stored z.ext i bs))
      (with_l2 z' (stored z'.l2 a bs')) (with_external z' (stored z'.ext i bs'))
      (λ _. step_same (λ r. r) q.l1d (simp length-stored q.l2) q.ext)
      (λ _. step_same (λ r. r) q.l1d q.l2 (simp length-stored q.ext))

-- where the record is tested, the second run may be taken to have the first one's record itself
by-record {ℓ} : {A : Type ℓ} (R : A → A → Type 0) (f f' : State → A) →
    ((z : State) (d m e : List ℕ) → SameButStored z (twin z d m e) → R (f z) (f' (twin z d m e))) →
    (z z' : State) → SameButStored z z' → R (f z) (f' z')
by-record R f f' h z z' q = one-record SameButStored R f f' z (h z) z' q.rec q

take_half-same : (t v b : ℕ) (z z' : State) → SameButStored z z' → SameButStored (take_half t v b z) (take_half t v b z')
unfolding take_half in_l1d l1d_way
take_half-same t v b =
    by-record SameButStored (take_half t v b) (take_half t v b)
    (λ z d m e q.
    let z' = twin z d m e in let s = l1d_set_of b in let w = l1d_way z b in let x = l1d_line_at z.rec s w in
    let bs = part z.l1d (l1d_data s w) 64 in let bs' = part d (l1d_data s w) 64 in
    let y = put_l2 t v b bs z in let y' = put_l2 t v b bs' z' in
    cond_both SameButStored (in_l1d z b) (empty_l1d s w (cond x.dirty y z)) z (empty_l1d s w (cond x.dirty y' z')) z'
    (λ _. empty_l1d-same (cond_both SameButStored x.dirty y z y' z' (λ _. put_l2-same q t v b bs bs') (λ _. q)) s w)
    (λ _. q))

take_halves-same : (t v b : ℕ) (z z' : State) → SameButStored z z' →
    SameButStored (take_halves t v b z) (take_halves t v b z')
unfolding take_halves
take_halves-same t v b z z' q =
    take_half-same t v (upper_half b) (take_half t v b z) (take_half t v b z') (take_half-same t v b z z' q)

write_out-same : (t v : ℕ) (z z' : State) → SameButStored z z' → SameButStored (write_out_l2 t v z) (write_out_l2 t v z')
unfolding write_out_l2
write_out-same t v =
    by-record SameButStored (write_out_l2 t v) (write_out_l2 t v)
    (λ z d m e q.
    let z' = twin z d m e in let x = l2_line_at z.rec t v in let i = x.address - external_base in
    let j = l2_data z.rec t v in
    let r = with_l2_line z.rec t v (line_of x.address false) in
    let y = with_external (with_record z r) (stored z.ext i (part z.l2 j 128)) in
    let y' = with_external (with_record z' r) (stored e i (part m j 128)) in
    cond_both SameButStored x.valid (cond x.dirty y z) z (cond x.dirty y' z') z'
    (λ _. cond_both SameButStored x.dirty y z y' z'
    (λ _. step_same q (λ _. r) q.l1d q.l2 (simp length-stored q.ext)) (λ _. q))
    (λ _. q))

-- ---- the steps with what they moved: as many bytes in both runs
record Alike (m m' : Moved) : Type 0 where
  next : SameButStored m.next m'.next
  read : bytes_in m.read ≡ bytes_in m'.read
  written : bytes_in m.written ≡ bytes_in m'.written

abbrev AlikeFrom : (State → Moved) → (State → Moved) → Type 0
AlikeFrom f f' = (z z' : State) → SameButStored z z' → Alike (f z) (f' z')

module _ {z z' : State} (q : SameButStored z z') where
  still_alike : Alike (still z) (still z')
  still_alike = record { next = q; read = refl; written = refl }

  reading-alike : {a : ℕ} {bs bs' : List ℕ} → length bs ≡ length bs' →
      Alike (reading (stretch a bs) z) (reading (stretch a bs') z')
  unfolding bytes_in
  reading-alike l = record { next = q; read = ap (λ (n : ℕ). n + 0) l; written = refl }

  writing-alike : {a : ℕ} {bs bs' : List ℕ} → length bs ≡ length bs' →
      Alike (writing (stretch a bs) z) (writing (stretch a bs') z')
  unfolding bytes_in
  writing-alike l = record { next = q; read = refl; written = ap (λ (n : ℕ). n + 0) l }

then-alike : {m m' : Moved} {f f' : State → Moved} → Alike m m' → AlikeFrom f f' → Alike (and_then m f) (and_then m' f')
then-alike {m} {m'} {f} {f'} p h =
    let c = h m.next m'.next p.next in
    let i = bytes-both m.read (f m.next).read in let i' = bytes-both m'.read (f' m'.next).read in
    let j = bytes-both m.written (f m.next).written in
    let j' = bytes-both m'.written (f' m'.next).written in
    let k = p.read in let k' = c.read in let l = p.written in let l' = c.written in
    record { next = c.next; read = omega arith; written = omega arith }

-- ---- bytes of SRAM and of external memory
memory-alike : (a n : ℕ) → AlikeFrom (memory_moved a n) (memory_moved a n)
unfolding memory_moved
memory-alike a n z z' q =
    let i = a - external_base in
    cond_both Alike (ltb a external_base) (still z) (reading (stretch i (part z.ext i n)) z) (still z')
    (reading (stretch i (part z'.ext i n)) z') (λ _. still_alike q)
    (λ _. reading-alike q (length-parts z.ext z'.ext i n q.ext))

put-alike : (a : ℕ) (bs bs' : List ℕ) → length bs ≡ length bs' → AlikeFrom (put_memory_moved a bs) (put_memory_moved a bs')
unfolding put_memory_moved
put-alike a bs bs' l z z' q =
    let i = a - external_base in let y = put_memory a bs z in let y' = put_memory a bs' z' in
    let p = put_memory-same q a bs bs' in
    cond_both Alike (ltb a external_base) (still y) (writing (stretch i (taken z.ext i bs)) y) (still y')
    (writing (stretch i (taken z'.ext i bs')) y') (λ _. still_alike p)
    (λ _. writing-alike p (length_taken z.ext z'.ext i bs bs' q.ext l))

-- ---- lines that leave, and the line that L2 gets
writeback_l1d-alike : (s w : ℕ) → AlikeFrom (writeback_l1d_moved s w) (writeback_l1d_moved s w)
unfolding writeback_l1d_moved put_home_moved put_home in_l2 l2_way
writeback_l1d-alike s w =
    by-record Alike (writeback_l1d_moved s w) (writeback_l1d_moved s w)
    (λ z d m e q.
    let z' = twin z d m e in let x = l1d_line_at z.rec s w in let a = x.address in let t = l2_set_of z.rec a in
    let v = l2_way z a in
    let bs = part z.l1d (l1d_data s w) 64 in let bs' = part d (l1d_data s w) 64 in
    let l = length-parts z.l1d d (l1d_data s w) 64 q.l1d in
    let y = put_home_moved a bs z in let y' = put_home_moved a bs' z' in
    cond_both Alike x.valid (cond x.dirty y (still z)) (still z) (cond x.dirty y' (still z')) (still z')
    (λ _. cond_both Alike x.dirty y (still z) y' (still z')
    (λ _. cond_both Alike (home_is_l2 z.rec a) (still (put_home a bs z)) (put_memory_moved a bs z)
    (still (put_home a bs' z')) (put_memory_moved a bs' z')
    (λ h. still_alike (rw h
    (cond_both SameButStored (in_l2 z a) (put_l2 t v a bs z) z (put_l2 t v a bs' z') z' (λ _. put_l2-same q t v a bs bs')
    (λ _. q))))
    (λ _. put-alike a bs bs' l z z' q))
    (λ _. still_alike q))
    (λ _. still_alike q))

evict_l1d-alike : (s w : ℕ) → AlikeFrom (evict_l1d_moved s w) (evict_l1d_moved s w)
unfolding evict_l1d_moved
evict_l1d-alike s w z z' q = then-alike (writeback_l1d-alike s w z z' q) (λ y y' p. still_alike (empty_l1d-same p s w))

write_out-alike : (t v : ℕ) → AlikeFrom (write_out_l2_moved t v) (write_out_l2_moved t v)
unfolding write_out_l2_moved
write_out-alike t v =
    by-record Alike (write_out_l2_moved t v) (write_out_l2_moved t v)
    (λ z d m e q.
    let z' = twin z d m e in let x = l2_line_at z.rec t v in let i = x.address - external_base in
    let j = l2_data z.rec t v in
    let bs = part z.l2 j 128 in let bs' = part m j 128 in
    let y = writing (stretch i (taken z.ext i bs)) (write_out_l2 t v z) in
    let y' = writing (stretch i (taken e i bs')) (write_out_l2 t v z') in
    cond_both Alike x.valid (cond x.dirty y (still z)) (still z) (cond x.dirty y' (still z')) (still z')
    (λ _. cond_both Alike x.dirty y (still z) y' (still z')
    (λ _. writing-alike (write_out-same t v z z' q)
    (length_taken z.ext e i bs bs' q.ext (length-parts z.l2 m j 128 q.l2)))
    (λ _. still_alike q))
    (λ _. still_alike q))

writeback_l2-alike : (t v : ℕ) → AlikeFrom (writeback_l2_moved t v) (writeback_l2_moved t v)
unfolding writeback_l2_moved
writeback_l2-alike t v =
    by-record Alike (writeback_l2_moved t v) (writeback_l2_moved t v)
    (λ z d m e q.
    let z' = twin z d m e in let x = l2_line_at z.rec t v in
    let y = take_halves t v x.address z in let y' = take_halves t v x.address z' in
    cond_both Alike x.valid (write_out_l2_moved t v y) (still z) (write_out_l2_moved t v y') (still z')
    (λ _. write_out-alike t v y y' (take_halves-same t v x.address z z' q)) (λ _. still_alike q))

fill_l2-alike : (t v b : ℕ) → AlikeFrom (fill_l2_moved t v b) (fill_l2_moved t v b)
unfolding fill_l2_moved
fill_l2-alike t v b z z' q =
    reading-alike (fill_l2-same q t v b) (length-parts z.ext z'.ext (b - external_base) 128 q.ext)

bring_l2-alike : (t v b : ℕ) → AlikeFrom (bring_l2_moved t v b) (bring_l2_moved t v b)
unfolding bring_l2_moved evict_l2_moved
bring_l2-alike t v b z z' q =
    then-alike
    (then-alike (then-alike (writeback_l2-alike t v z z' q) (λ y y' p. still_alike (empty_l2-same p t v)))
    (fill_l2-alike t v b))
    (λ y y' p. still_alike (use_l2-same p t v))

fetch-alike : (a : ℕ) → AlikeFrom (fetch_l2_moved a) (fetch_l2_moved a)
unfolding fetch_l2_moved in_l2 l2_way l2_way_for
fetch-alike a =
    by-record Alike (fetch_l2_moved a) (fetch_l2_moved a)
    (λ z d m e q.
    let z' = twin z d m e in let t = l2_set_of z.rec a in let v = l2_way_for z a in let b = l2_line a in
    cond_both Alike (home_is_l2 z.rec a) (cond (in_l2 z a) (still (use_l2 t v z)) (bring_l2_moved t v b z)) (still z)
    (cond (in_l2 z a) (still (use_l2 t v z')) (bring_l2_moved t v b z')) (still z')
    (λ _. cond_both Alike (in_l2 z a) (still (use_l2 t v z)) (bring_l2_moved t v b z) (still (use_l2 t v z'))
    (bring_l2_moved t v b z')
    (λ _. still_alike (use_l2-same q t v)) (λ _. bring_l2-alike t v b z z' q))
    (λ _. still_alike q))

-- ---- out of the home and into it
home-alike : (a b n : ℕ) → AlikeFrom (home_moved a b n) (home_moved a b n)
unfolding home_moved
home-alike a b n =
    by-record Alike (home_moved a b n) (home_moved a b n)
    (λ z d m e q. let z' = twin z d m e in
    cond_both Alike (home_is_l2 z.rec a) (still z) (memory_moved b n z) (still z') (memory_moved b n z')
    (λ _. still_alike q)
    (λ _. memory-alike b n z z' q))

write_home-alike : (v a : ℕ) (bs bs' : List ℕ) → length bs ≡ length bs' →
    AlikeFrom (write_home_moved v a bs) (write_home_moved v a bs')
unfolding write_home_moved
write_home-alike v a bs bs' l =
    by-record Alike (write_home_moved v a bs) (write_home_moved v a bs')
    (λ z d m e q. let z' = twin z d m e in let t = l2_set_of z.rec a in
    cond_both Alike (home_is_l2 z.rec a) (still (put_l2 t v a bs z)) (put_memory_moved a bs z)
    (still (put_l2 t v a bs' z')) (put_memory_moved a bs' z')
    (λ _. still_alike (put_l2-same q t v a bs bs')) (λ _. put-alike a bs bs' l z z' q))

-- ---- misses
read_emptied-alike : (w a : ℕ) → AlikeFrom (read_emptied_moved w a) (read_emptied_moved w a)
unfolding read_emptied_moved fill_l1d_moved in_l2 l2_way l2_way_for
read_emptied-alike w a =
    by-record Alike (read_emptied_moved w a) (read_emptied_moved w a)
    (λ z d m e q. let v = l2_way_for z a in
    then-alike
    (then-alike (fetch-alike a z (twin z d m e) q)
    (λ y y' p. then-alike (home-alike a (l1d_line a) 64 y y' p) (λ x x' o. still_alike (fill_l1d-same o w v a))))
    (λ y y' p. still_alike (use_l1d-same p (l1d_set_of a) w)))

read_frozen-alike : (n a : ℕ) → AlikeFrom (read_frozen_moved n a) (read_frozen_moved n a)
unfolding read_frozen_moved
read_frozen-alike n a z z' q = then-alike (fetch-alike a z z' q) (home-alike a a n)

read_miss-alike : (n a : ℕ) → AlikeFrom (read_miss_moved n a) (read_miss_moved n a)
unfolding read_miss_moved read_thawed_moved
read_miss-alike n a =
    by-record Alike (read_miss_moved n a) (read_miss_moved n a)
    (λ z d m e q. let z' = twin z d m e in let s = l1d_set_of a in let w = l1d_victim (l1d_set_at z.rec s) in
    cond_both Alike z.rec.frozen (read_frozen_moved n a z) (read_thawed_moved a z) (read_frozen_moved n a z')
    (read_thawed_moved a z')
    (λ _. read_frozen-alike n a z z' q)
    (λ _. then-alike (evict_l1d-alike s w z z' q) (read_emptied-alike w a)))

write_miss-alike : (a : ℕ) (bs bs' : List ℕ) → length bs ≡ length bs' →
    AlikeFrom (write_miss_moved a bs) (write_miss_moved a bs')
unfolding write_miss_moved in_l2 l2_way l2_way_for
write_miss-alike a bs bs' l =
    by-record Alike (write_miss_moved a bs) (write_miss_moved a bs')
    (λ z d m e q. then-alike (fetch-alike a z (twin z d m e) q) (write_home-alike (l2_way_for z a) a bs bs' l))

-- ---- the lines that left
l2-left : (t v : ℕ) (z z' : State) → SameButStored z z' → l2_left t v z ≡ l2_left t v z'
unfolding l2_left
l2-left t v =
    by-record (λ (x y : Left). x ≡ y) (l2_left t v) (l2_left t v)
    (λ z d m e q. let x = l2_line_at z.rec t v in
    ap (λ (r : Record). cond x.valid (left_by (l2_line_at r t v)) Empty)
    (take_halves-same t v x.address z (twin z d m e) q).rec)

fetch-left : (a : ℕ) (z z' : State) → SameButStored z z' → fetch_left a z ≡ fetch_left a z'
unfolding fetch_left in_l2 l2_way l2_way_for
fetch-left a =
    by-record (λ (x y : Left). x ≡ y) (fetch_left a) (fetch_left a)
    (λ z d m e q. ap (λ (l : Left). cond (home_is_l2 z.rec a) (cond (in_l2 z a) NoWay l) NoWay)
    (l2-left (l2_set_of z.rec a) (l2_way_for z a) z (twin z d m e) q))

-- ---- what is reported
reports : {k k' l l' : Left} {m m' : Moved} → k ≡ k' → l ≡ l' → Alike m m' → report k l m ≡ report k' l' m'
reports p q h = λ i. record { l1d_left = p i; l2_left = q i; read = h.read i; written = h.written i }

read_miss-report : (n a : ℕ) (z z' : State) → SameButStored z z' → read_miss_report n a z ≡ read_miss_report n a z'
unfolding read_miss_report l1d_left
read_miss-report n a =
    by-record (λ (x y : Report). x ≡ y) (read_miss_report n a) (read_miss_report n a)
    (λ z d m e q.
    let z' = twin z d m e in let s = l1d_set_of a in let w = l1d_victim (l1d_set_at z.rec s) in
    let y = evict_l1d s w z in let y' = evict_l1d s w z' in let c = read_miss-alike n a z z' q in
    let p : SameButStored y y' = rw (← (evict_l1d-next s w z), ← (evict_l1d-next s w z'))
    (evict_l1d-alike s w z z' q).next in
    let k = left_by (l1d_line_at z.rec s w) in let i = read_miss_moved n a z in let i' = read_miss_moved n a z' in
    cond_both (λ (x x' : Report). x ≡ x') z.rec.frozen (report NoWay (fetch_left a z) i) (report k (fetch_left a y) i)
    (report NoWay (fetch_left a z') i') (report k (fetch_left a y') i')
    (λ _. reports refl (fetch-left a z z' q) c) (λ _. reports refl (fetch-left a y y' p) c))

pub read-report : (n a : ℕ) (z z' : State) → SameButStored z z' → read_report n a z ≡ read_report n a z'
unfolding read_report in_l1d l1d_way
read-report n a =
    by-record (λ (x y : Report). x ≡ y) (read_report n a) (read_report n a)
    (λ z d m e q. let z' = twin z d m e in
    let p = read_miss-report n a z z' q in
    let p' = reports {k = NoWay} {l = NoWay} refl refl (memory-alike a n z z' q) in
    λ i. cond (cacheable z.rec a) (cond (in_l1d z a) no_report (p i)) (p' i))

pub fetch-report : (a : ℕ) (z z' : State) → SameButStored z z' → fetch_report a z ≡ fetch_report a z'
unfolding fetch_report
fetch-report a =
    by-record (λ (x y : Report). x ≡ y) (fetch_report a) (fetch_report a)
    (λ z d m e q. let z' = twin z d m e in
    let p = reports {k = NoWay} refl (fetch-left a z z' q) (read_frozen-alike 32 a z z' q) in
    let p' = reports {k = NoWay} {l = NoWay} refl refl (memory-alike a 32 z z' q) in
    λ i. cond (cacheable z.rec a) (p i) (p' i))

pub write-report : (a : ℕ) (bs bs' : List ℕ) → length bs ≡ length bs' → (z z' : State) → SameButStored z z' →
    write_report a bs z ≡ write_report a bs' z'
unfolding write_report write_miss_report in_l1d l1d_way
write-report a bs bs' l =
    by-record (λ (x y : Report). x ≡ y) (write_report a bs) (write_report a bs')
    (λ z d m e q. let z' = twin z d m e in
    let p = reports {k = NoWay} refl (fetch-left a z z' q) (write_miss-alike a bs bs' l z z' q) in
    let p' = reports {k = NoWay} {l = NoWay} refl refl (put-alike a bs bs' l z z' q) in
    λ i. cond (cacheable z.rec a) (cond (in_l1d z a) no_report (p i)) (p' i))
