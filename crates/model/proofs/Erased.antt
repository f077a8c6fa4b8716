-- 02, U2. Without the stretches that it moved, each step of Reports is 01's step: the cases of both are the same. And
-- how many bytes a step that is made of others has read and stored: as many as these have.
use Rattle.std.specs.Prelude.{ℕ, ◌+◌, ◌≡◌, refl, List, [], ◌∷◌, ◌++◌, length, ltb}
use Rattle.std.proofs.Common.{sym, ap, ◌∙◌, add-zero, zero-add, add_assoc}
use Rattle.model.specs.Memories.{external_base}
use Rattle.model.specs.Laws.{cond-elim, cond_both}
use Rattle.model.specs.Lines.{l1d_set_of, l1d_line, l2_line}
use Rattle.model.specs.Records.{State, l1d_set_at, l1d_line_at, l2_line_at}
use Rattle.model.specs.Ways.{l1d_victim, in_l2, use_l2, empty_l1d, empty_l2}
use Rattle.model.specs.Homes.{home_is_l2, put_memory, put_home, l2_way_for, write_out_l2, writeback_l2, evict_l2, fill_l2, bring_l2, fetch_l2}
use Rattle.model.specs.Access.{writeback_l1d, evict_l1d}
use Rattle.model.specs.Reports.{Stretch, Moved, still, bytes_in, memory_moved, put_memory_moved, put_home_moved, writeback_l1d_moved, evict_l1d_moved, write_out_l2_moved, writeback_l2_moved, evict_l2_moved, fill_l2_moved, bring_l2_moved, fetch_l2_moved, home_moved, fill_l1d_moved, write_home_moved, read_emptied_moved, read_thawed_moved, read_frozen_moved, write_miss_moved}

-- a step with its stretches, and 01's
abbrev pub Erases : Moved → State → Type 0
Erases m z = m.next ≡ z

pub put_memory-next : (a : ℕ) (bs : List ℕ) (z : State) → Erases (put_memory_moved a bs z) (put_memory a bs z)
unfolding put_memory_moved
put_memory-next a bs z = cond-elim (λ (m : Moved). Erases m (put_memory a bs z)) (ltb a external_base) _ _ (λ _. refl) (λ _. refl)

pub put_home-next : (a : ℕ) (bs : List ℕ) (z : State) → Erases (put_home_moved a bs z) (put_home a bs z)
unfolding put_home_moved put_home
put_home-next a bs z =
    cond_both Erases (home_is_l2 z.rec a) _ _ _ _ (λ h. rw h refl) (λ _. put_memory-next a bs z)

pub writeback_l1d-next : (s w : ℕ) (z : State) → Erases (writeback_l1d_moved s w z) (writeback_l1d s w z)
unfolding writeback_l1d_moved writeback_l1d
writeback_l1d-next s w z =
    cond_both Erases (l1d_line_at z.rec s w).valid _ _ _ _
    (λ _. cond_both Erases (l1d_line_at z.rec s w).dirty _ _ _ _ (λ _. put_home-next _ _ z) (λ _. refl)) (λ _. refl)

pub evict_l1d-next : (s w : ℕ) (z : State) → Erases (evict_l1d_moved s w z) (evict_l1d s w z)
unfolding evict_l1d_moved evict_l1d
evict_l1d-next s w z = ap (empty_l1d s w) (writeback_l1d-next s w z)

pub write_out_l2-next : (t v : ℕ) (z : State) → Erases (write_out_l2_moved t v z) (write_out_l2 t v z)
unfolding write_out_l2_moved write_out_l2
write_out_l2-next t v z =
    cond_both Erases (l2_line_at z.rec t v).valid _ _ _ _
    (λ h. cond_both Erases (l2_line_at z.rec t v).dirty _ _ _ _ (λ d. rw (h, d) refl) (λ _. refl)) (λ _. refl)

pub writeback_l2-next : (t v : ℕ) (z : State) → Erases (writeback_l2_moved t v z) (writeback_l2 t v z)
unfolding writeback_l2_moved writeback_l2
writeback_l2-next t v z =
    cond_both Erases (l2_line_at z.rec t v).valid _ _ _ _ (λ _. write_out_l2-next t v _) (λ _. refl)

pub evict_l2-next : (t v : ℕ) (z : State) → Erases (evict_l2_moved t v z) (evict_l2 t v z)
unfolding evict_l2_moved evict_l2
evict_l2-next t v z = ap (empty_l2 t v) (writeback_l2-next t v z)

pub bring_l2-next : (t v b : ℕ) (z : State) → Erases (bring_l2_moved t v b z) (bring_l2 t v b z)
unfolding bring_l2_moved fill_l2_moved
bring_l2-next t v b z = ap (λ (y : State). use_l2 t v (fill_l2 t v b y)) (evict_l2-next t v z)

pub fetch_l2-next : (a : ℕ) (z : State) → Erases (fetch_l2_moved a z) (fetch_l2 a z)
unfolding fetch_l2_moved fetch_l2
fetch_l2-next a z =
    cond_both Erases (home_is_l2 z.rec a) _ _ _ _
    (λ _. cond_both Erases (in_l2 z a) _ _ _ _ (λ _. refl) (λ _. bring_l2-next _ _ (l2_line a) z)) (λ _. refl)

-- ---- how many bytes steps have read and stored
pub bytes-append : (xs ys : List Stretch) → bytes_in (xs ++ ys) ≡ bytes_in xs + bytes_in ys
unfolding bytes_in
bytes-append [] ys = sym (zero-add _)
bytes-append (x ∷ xs) ys = let e = bytes-append xs ys in rw e (sym (add_assoc (length x.bytes) (bytes_in xs) (bytes_in ys)))

-- to write back into L1D's home reads nothing; to read out of a home stores nothing; to write there reads nothing
abbrev Unread : Moved → Type 0
Unread m = bytes_in m.read ≡ 0

abbrev Unwritten : Moved → Type 0
Unwritten m = bytes_in m.written ≡ 0

put_memory-unread : (a : ℕ) (bs : List ℕ) (z : State) → Unread (put_memory_moved a bs z)
unfolding put_memory_moved bytes_in
put_memory-unread a bs z = cond-elim Unread (ltb a external_base) _ _ (λ _. refl) (λ _. refl)

pub evict_l1d-unread : (s w : ℕ) (z : State) → Unread (evict_l1d_moved s w z)
unfolding evict_l1d_moved writeback_l1d_moved put_home_moved bytes_in
evict_l1d-unread s w z =
    bytes-append (writeback_l1d_moved s w z).read []
    ∙ ap (λ (n : ℕ). n + 0)
    (cond-elim Unread (l1d_line_at z.rec s w).valid _ (still z)
    (λ _. cond-elim Unread (l1d_line_at z.rec s w).dirty _ (still z)
    (λ _. cond-elim Unread (home_is_l2 z.rec (l1d_line_at z.rec s w).address) _ _ (λ _. refl) (λ _. put_memory-unread _ _ z)) (λ _. refl))
    (λ _. refl))

pub home-unwritten : (a b n : ℕ) (z : State) → Unwritten (home_moved a b n z)
unfolding home_moved memory_moved bytes_in
home-unwritten a b n z =
    cond-elim Unwritten (home_is_l2 z.rec a) (still z) _ (λ _. refl)
    (λ _. cond-elim Unwritten (ltb b external_base) (still z) _ (λ _. refl) (λ _. refl))

pub write_home-unread : (v a : ℕ) (bs : List ℕ) (z : State) → Unread (write_home_moved v a bs z)
unfolding write_home_moved bytes_in
write_home-unread v a bs z =
    cond-elim Unread (home_is_l2 z.rec a) _ (put_memory_moved a bs z) (λ _. refl) (λ _. put_memory-unread a bs z)

-- the parts of each kind of miss, in the order of its steps
pub write-miss-read : (a : ℕ) (bs : List ℕ) (z : State) → bytes_in (write_miss_moved a bs z).read ≡ bytes_in (fetch_l2_moved a z).read
unfolding write_miss_moved
write-miss-read a bs z =
    let f = fetch_l2_moved a z in let g = write_home_moved (l2_way_for z a) a bs f.next in
    bytes-append f.read g.read ∙ ap (λ (n : ℕ). bytes_in f.read + n) (write_home-unread (l2_way_for z a) a bs f.next) ∙ add-zero _

pub write-miss-written : (a : ℕ) (bs : List ℕ) (z : State) →
    bytes_in (write_miss_moved a bs z).written ≡ bytes_in (fetch_l2_moved a z).written + bytes_in (write_home_moved (l2_way_for z a) a bs (fetch_l2 a z)).written
unfolding write_miss_moved
write-miss-written a bs z =
    let f = fetch_l2_moved a z in
    bytes-append f.written (write_home_moved (l2_way_for z a) a bs f.next).written
    ∙ ap (λ (y : State). bytes_in f.written + bytes_in (write_home_moved (l2_way_for z a) a bs y).written) (fetch_l2-next a z)

pub frozen-read : (n a : ℕ) (z : State) →
    bytes_in (read_frozen_moved n a z).read ≡ bytes_in (fetch_l2_moved a z).read + bytes_in (home_moved a a n (fetch_l2 a z)).read
unfolding read_frozen_moved
frozen-read n a z =
    let f = fetch_l2_moved a z in
    bytes-append f.read (home_moved a a n f.next).read
    ∙ ap (λ (y : State). bytes_in f.read + bytes_in (home_moved a a n y).read) (fetch_l2-next a z)

pub frozen-written : (n a : ℕ) (z : State) → bytes_in (read_frozen_moved n a z).written ≡ bytes_in (fetch_l2_moved a z).written
unfolding read_frozen_moved
frozen-written n a z =
    let f = fetch_l2_moved a z in let g = home_moved a a n f.next in
    bytes-append f.written g.written ∙ ap (λ (k : ℕ). bytes_in f.written + k) (home-unwritten a a n f.next) ∙ add-zero _

-- a way of L1D that was emptied is filled: the line comes into L2, and out of the home
pub emptied-read : (w a : ℕ) (z : State) →
    bytes_in (read_emptied_moved w a z).read ≡ bytes_in (fetch_l2_moved a z).read + bytes_in (home_moved a (l1d_line a) 64 (fetch_l2 a z)).read
unfolding read_emptied_moved fill_l1d_moved bytes_in
emptied-read w a z =
    let f = fetch_l2_moved a z in let g = home_moved a (l1d_line a) 64 f.next in
    bytes-append (f.read ++ (g.read ++ [])) [] ∙ add-zero _ ∙ bytes-append f.read (g.read ++ [])
    ∙ ap (λ (k : ℕ). bytes_in f.read + k) (bytes-append g.read [] ∙ add-zero _)
    ∙ ap (λ (y : State). bytes_in f.read + bytes_in (home_moved a (l1d_line a) 64 y).read) (fetch_l2-next a z)

pub emptied-written : (w a : ℕ) (z : State) → bytes_in (read_emptied_moved w a z).written ≡ bytes_in (fetch_l2_moved a z).written
unfolding read_emptied_moved fill_l1d_moved bytes_in
emptied-written w a z =
    let f = fetch_l2_moved a z in let g = home_moved a (l1d_line a) 64 f.next in
    bytes-append (f.written ++ (g.written ++ [])) [] ∙ add-zero _ ∙ bytes-append f.written (g.written ++ [])
    ∙ ap (λ (k : ℕ). bytes_in f.written + k) (bytes-append g.written [] ∙ add-zero _ ∙ home-unwritten a (l1d_line a) 64 f.next) ∙ add-zero _

abbrev victim : ℕ → State → ℕ
victim a z = l1d_victim (l1d_set_at z.rec (l1d_set_of a))

pub thawed-read : (a : ℕ) (z : State) →
    bytes_in (read_thawed_moved a z).read ≡ bytes_in (read_emptied_moved (victim a z) a (evict_l1d (l1d_set_of a) (victim a z) z)).read
unfolding read_thawed_moved
thawed-read a z =
    let f = evict_l1d_moved (l1d_set_of a) (victim a z) z in
    bytes-append f.read (read_emptied_moved (victim a z) a f.next).read
    ∙ ap (λ (n : ℕ). n + bytes_in (read_emptied_moved (victim a z) a f.next).read) (evict_l1d-unread (l1d_set_of a) (victim a z) z) ∙ zero-add _
    ∙ ap (λ (y : State). bytes_in (read_emptied_moved (victim a z) a y).read) (evict_l1d-next (l1d_set_of a) (victim a z) z)

pub thawed-written : (a : ℕ) (z : State) →
    bytes_in (read_thawed_moved a z).written
    ≡ bytes_in (evict_l1d_moved (l1d_set_of a) (victim a z) z).written + bytes_in (read_emptied_moved (victim a z) a (evict_l1d (l1d_set_of a) (victim a z) z)).written
unfolding read_thawed_moved
thawed-written a z =
    let f = evict_l1d_moved (l1d_set_of a) (victim a z) z in
    bytes-append f.written (read_emptied_moved (victim a z) a f.next).written
    ∙ ap (λ (y : State). bytes_in f.written + bytes_in (read_emptied_moved (victim a z) a y).written) (evict_l1d-next (l1d_set_of a) (victim a z) z)
