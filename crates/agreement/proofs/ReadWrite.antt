-- Reads and writes, whole. Shown: an accepted read leaves the state good and every byte that it read is right; an
-- accepted write of the bytes bs at a takes a state that is good by F to one that is good by F', where F' is F with
-- bs written at a.
-- Why: a read reads the L1D way that holds the line, found or just filled, or memory that no line holds. A write goes
-- to one place, the highest that holds the line, which becomes dirty: so every place below that is behind now has a
-- dirty line above it, and no other place holds the address.
use Prim.Native.Nat.{ℕ, suc, ◌+◌, ◌%◌, ◌≤◌, ◌<◌}
use mathlib.Core.Bool.{true, false, cond}
use mathlib.Core.Path.{◌≡◌, refl, sym, ap, ◌∙◌, subst}
use mathlib.Core.Logic.{◌≢◌}
use mathlib.Core.List.{List, []}
use native.Mathlib.Omega.{arith}
use lib.ListN.{length, get_or}
use lib.Dec.{ltb}
use borrow.Author.Tests.{ltb-true, ltb-false, le-ltb, ne_eqb}
use Rattle.model.specs.Bytes.{stored}
use Rattle.model.specs.Memories.{external_base}
use Rattle.model.specs.Lines.{l1d_set_of, l1d_data, l1d_line, l2_line, line_of, l2_sets, l2_set_in}
use Rattle.model.specs.Records.{State, with_l2, with_external, mode0, l2_sets_of, l2_set_of, l2_data, mar_bit, l1d_set_at, l1d_line_at, l2_line_at, with_l1d_line, with_l2_line}
use Rattle.model.specs.Ways.{l1d_victim, l1d_way, in_l1d, use_l1d}
use Rattle.model.specs.Access.{cacheable, put_l1d, evict_l1d, fill_l1d, Access, access, l1d_bytes, use_hit, read_hit, read_filled, read_emptied, read_thawed, read_frozen, read_miss, read_access, write_hit, write_home, write_miss, write_access}
use Rattle.model.specs.Homes.{home_is_l2, memory_part, put_memory, put_l2, l2_way_for, fetch_l2, home_server}
use Rattle.model.specs.Laws.{bool, false-true, cond-elim, mode0-sets, length-stored, length_part, part_at}
use Rattle.model.specs.declared.Line.{Line}
use Rattle.model.specs.declared.Record.{Record}
use Rattle.agreement.proofs.Level.{Valid, Free, Replaced}
use Rattle.agreement.proofs.Invariant.{Allowed, carry, Layout, InL2Line, Invariant, invariant-same, l1d-written, l2-written, memory-written}
use Rattle.agreement.proofs.Memory.{low_stored, high_stored, Fits, low-length, high-length, read_length, read_at, Wrote, wrote-memory, Written, written_held, written-old, written_both, written-slot}
use Rattle.agreement.proofs.Good.{layout_of, l1d_level, l2_level, memory_of, Good, Kept, kept_refl, kept_trans, Hit, l1d-hit, l1d-miss, l1d-bounds, l2-bounds, l1d-victim-bound, l1d-fits, l2-fits, l1d-rest, l2-rest, lists-tidy, l1d-replaced, l1d-tidy, l2-replaced, l2-tidy, use_l1d-good, use_l1d-kept}
use Rattle.agreement.proofs.Evict.{put_memory-state, memory-free, memory-keeps-l2, l2-keeps-memory, evict_l1d-good}
use Rattle.agreement.proofs.Fetch.{AccessFits, cacheable-yes, cacheable-no, l1d-may-hold, l1d-uncacheable, l2-uncacheable, fetch_l2-good, home_part-good, fill_l1d-good}

home-l2-yes : (r : Record) (a : ℕ) → external_base ≤ a → l2_sets_of r ≢ 0 → home_is_l2 r a ≡ true
unfolding home_is_l2
home-l2-yes r a h n = rw (le-ltb a external_base h, mode0-sets r, ne_eqb (l2_sets_of r) 0 n) refl

pub home_same : (z z' : State) (a : ℕ) → z'.rec.mode ≡ z.rec.mode → home_is_l2 z'.rec a ≡ home_is_l2 z.rec a
unfolding home_is_l2 mode0
home_same z z' a e = rw e refl

-- the same slot by the mode that was and by the mode that is
pub hit_same : (z z' : State) (a v : ℕ) → z'.rec.mode ≡ z.rec.mode →
    Hit (l2_level z') 4 (l2_set_of z.rec a) v (l2_line a) → Hit (l2_level z') 4 (l2_set_of z'.rec a) v (l2_line a)
hit_same z z' a v e h = subst (λ (m : ℕ). Hit (l2_level z') 4 (l2_set_in (l2_sets m) a) v (l2_line a)) (sym e) h

-- ---- reads
pub record ReadGood (z : State) (F : Allowed) (a n : ℕ) (r : Access) : Type 0 where
  pub good : Good r.next F
  pub kept : Kept z r.next
  pub long : length r.bytes ≡ n
  pub right : (j : ℕ) → j < n → F.right (a + j) (get_or r.bytes j 0)

-- the bytes of a line that L1D holds in way w, then the way used
held-read : (z : State) (F : Allowed) → Good z F → (w k a n : ℕ) → a % 64 + n ≤ 64 → Hit (l1d_level z) 2 (l1d_set_of a) w (l1d_line a) →
    ReadGood z F a n (access k (l1d_bytes w a n z) (use_l1d (l1d_set_of a) w z))
held-read z F q w k a n h p =
    let s = l1d_set_of a in let e = p.address in
    let f = l1d-fits z q.tidy s w (omega arith) p.way in
    record {
      good = use_l1d-good z s w F q p.way;
      kept = use_l1d-kept z s w;
      long = length_part z.l1d (l1d_data s w + a % 64) n (omega arith);
      right = λ j hj.
          let i : (l1d_line_at z.rec s w).address + (a % 64 + j) ≡ a + j = omega arith in
          let i' : l1d_data s w + a % 64 + j ≡ l1d_data s w + (a % 64 + j) = omega arith in
          carry F (part_at z.l1d (l1d_data s w + a % 64) n j (omega arith) hj)
          (rw i' (rw i at (q.inv.l1d_right s w p.valid (a % 64 + j) (omega arith))));
    }

-- a hit: the same bytes where L1D is frozen, and no order changes
hit-read : (z : State) (F : Allowed) → Good z F → (a n : ℕ) → a % 64 + n ≤ 64 → in_l1d z a ≡ true → ReadGood z F a n (read_hit n a z)
unfolding read_hit use_hit
hit-read z F q a n h y =
    let s = l1d_set_of a in let w = l1d_way z a in let bs = l1d_bytes w a n z in
    let r = held-read z F q w 1 a n h (l1d-hit z a y) in
    cond-elim (λ (x : State). ReadGood z F a n (access 1 bs x)) z.rec.frozen z (use_l1d s w z)
    (λ _. record { good = q; kept = kept_refl z; long = r.long; right = r.right }) (λ _. r)

module _ (z : State) (F : Allowed) (q : Good z F) (a n : ℕ) (f : AccessFits (layout_of z.rec) a (suc n)) (c : external_base ≤ a → mar_bit z.rec a ≡ true)
    (row : a % 64 + suc n ≤ 64) where
  line-fits : AccessFits (layout_of z.rec) (l1d_line a) 64
  line-fits = let p = l1d-may-hold z F q a n f c 0 (omega arith) in record { low = p.low; high = p.high }

  read-miss : Free 64 (l1d_level z) a → (w : ℕ) → w < 2 → ReadGood z F a (suc n) (read_emptied w (suc n) a (evict_l1d (l1d_set_of a) w z))
  unfolding read_emptied read_filled
  read-miss fr w hw =
      let s = l1d_set_of a in
      let b = l1d_line a in
      let z₁ = evict_l1d s w z in
      let g = evict_l1d-good z F q s w (omega arith) hw in
      let z₂ = fetch_l2 a z₁ in
      let v = l2_way_for z₁ a in
      let h = fetch_l2-good z₁ F g.left.good a n (rw g.left.kept.layout f) (λ k. ap (λ (x : Layout). x.mar a) g.left.kept.layout ∙ c k)
      in
      let kept₂ : Kept z z₂ = kept_trans z z₁ z₂ g.left.kept h.kept in
      let room : Valid (l1d_level z₂) s w → ⊥ = λ k. let e = h.fewer s w k in false-true (sym (ap (λ (r : Line). r.valid) (e ∙ g.gone)) ∙ k) in
      let none : Free 64 (l1d_level z₂) a =
      λ s' w' k e. let x = h.fewer s' w' k in let y = g.left.fewer s' w' (rw x at k) in
      fr s' w' (rw y at (rw x at k)) (rw y at (rw x at e)) in
      let has : home_is_l2 z₂.rec a ≡ true → Hit (l2_level z₂) 4 (l2_set_of z₂.rec a) v (l2_line a) =
      λ d. hit_same z₁ z₂ a v h.kept.mode (h.has (sym (home_same z₁ z₂ a h.kept.mode) ∙ d)) in
      let held : external_base ≤ b → l2_sets_of z₂.rec ≢ 0 → InL2Line (l2_level z₂) b =
      λ k m. let i = has (home-l2-yes z₂.rec a (omega arith) m) in (l2_set_of z₂.rec a, v, i.valid, i.address ∙ omega arith) in
      let ld = home_part-good z₂ F h.good v a b 64 (omega arith) (omega arith) (rw kept₂.layout line-fits) none has in
      let k = fill_l1d-good z₂ F h.good w v a room (rw kept₂.layout (l1d-may-hold z F q a n f c w hw)) none ld held in
      let z₃ = fill_l1d w v a z₂ in
      let r = held-read z₃ F k.good w (home_server a z₁) a (suc n) row (record { way = hw; valid = rw k.here refl; address = rw k.here refl })
      in
      record {
        good = r.good;
        kept = kept_trans z z₃ (use_l1d s w z₃) (kept_trans z z₂ z₃ kept₂ k.kept) r.kept;
        long = r.long;
        right = r.right;
      }

  -- frozen: L2 acts as for a fill, the bytes come from the home, and L1D has what it had or less
  read-frozen : Free 64 (l1d_level z) a → ReadGood z F a (suc n) (read_frozen (suc n) a z)
  unfolding read_frozen
  read-frozen fr =
      let z₁ = fetch_l2 a z in let v = l2_way_for z a in let h = fetch_l2-good z F q a n f c in
      let none : Free 64 (l1d_level z₁) a = λ s w k e. let x = h.fewer s w k in fr s w (rw x at k) (rw x at e) in
      let has : home_is_l2 z₁.rec a ≡ true → Hit (l2_level z₁) 4 (l2_set_of z₁.rec a) v (l2_line a) =
      λ d. hit_same z z₁ a v h.kept.mode (h.has (sym (home_same z z₁ a h.kept.mode) ∙ d)) in
      let r = home_part-good z₁ F h.good v a a (suc n) refl row (rw h.kept.layout f) none has in
      record { good = h.good; kept = h.kept; long = r.long; right = r.right }

  cacheable-read : ReadGood z F a (suc n) (cond (in_l1d z a) (read_hit (suc n) a z) (read_miss (suc n) a z))
  unfolding read_miss read_thawed
  cacheable-read =
      cond-elim (ReadGood z F a (suc n)) (in_l1d z a) (read_hit (suc n) a z) (read_miss (suc n) a z)
      (hit-read z F q a (suc n) row)
      (λ y. let fr = l1d-miss z F q a y in let set = l1d_set_at z.rec (l1d_set_of a) in
      cond-elim (ReadGood z F a (suc n)) z.rec.frozen (read_frozen (suc n) a z) (read_thawed (suc n) a z)
      (λ _. read-frozen fr) (λ _. read-miss fr (l1d_victim set) (l1d-victim-bound set)))

pub read-good : (z : State) (F : Allowed) → Good z F → (a n : ℕ) → AccessFits (layout_of z.rec) a (suc n) → a % 64 + suc n ≤ 64 →
    ReadGood z F a (suc n) (read_access (suc n) a z)
unfolding read_access memory_part
read-good z F q a n f h =
    cond-elim (ReadGood z F a (suc n)) (cacheable z.rec a) (cond (in_l1d z a) (read_hit (suc n) a z) (read_miss (suc n) a z))
    (access 4 (memory_part a (suc n) z) z)
    (λ t. cacheable-read z F q a n f (cacheable-yes z.rec a t) h)
    (λ t. let c = cacheable-no z.rec a t in let c₀ = c.0 in
    let m = q.tidy.sizes.l2_length in let e = q.tidy.sizes.ext_length in let mx = q.tidy.sizes.l2_most in
    let fits : Fits z.l2 z.ext a (suc n) = record { low = λ k. absurd (omega arith); high = λ k. let g = f.high k in omega arith } in
    record {
      good = q;
      kept = kept_refl z;
      long = read_length z.l2 z.ext a (suc n) fits;
      right = λ j k.
          carry F (read_at z.l2 z.ext a (suc n) fits (omega arith) j k)
          (q.inv.memory_right (a + j)
          (record { low = λ y. absurd (omega arith); high = λ y. let g = f.high c₀ in omega arith })
          (λ s w v _ e. l1d-uncacheable z F q a c.0 c.1 s w v (e ∙ omega arith))
          (λ s w v _ e. l2-uncacheable z F q a c.0 c.1 s w v (e ∙ omega arith)));
    })

-- ---- writes
-- a state that followed, good by F
pub record Step (z : State) (F : Allowed) (z' : State) : Type 0 where
  pub good : Good z' F
  pub kept : Kept z z'

-- no line of either cache has one of the n bytes at a
abbrev pub Uncached : State → ℕ → ℕ → Type 0
Uncached z a n = (b : ℕ) → a ≤ b → b < a + n → Free 64 (l1d_level z) b × Free 128 (l2_level z) b

-- bytes within one L1D line, which neither cache holds
row-uncached : (z : State) (a n : ℕ) → a % 64 + n ≤ 64 → Free 64 (l1d_level z) a → Free 128 (l2_level z) a → Uncached z a n
row-uncached z a n h f₁ f₂ b l u = (λ s w k e. f₁ s w k (e ∙ omega arith), λ t v k e. f₂ t v k (e ∙ omega arith))

-- what lies in no stretch lies in front of it or behind it
outside : (a n b : ℕ) → ((a ≤ b) × (b < a + n) → ⊥) → a ≤ b → a + n ≤ b
outside a n b h l = bool (ltb b (a + n)) (λ t. absurd (h (l, ltb-true b (a + n) t))) (λ t. ltb-false b (a + n) t)

-- past both caches: however many bytes, where no line has one of them
module _ (z : State) (F F' : Allowed) (q : Good z F) (a : ℕ) (bs : List ℕ) (wr : Written F F' a bs) where
  pub put_memory-good : AccessFits (layout_of z.rec) a (length bs) → Uncached z a (length bs) → Step z F' (put_memory a bs z)
  put_memory-good f free =
      let m = q.tidy.sizes.l2_length in let e = q.tidy.sizes.ext_length in let x = q.tidy.sizes.l2_most in
      let r : Fits z.l2 z.ext a (length bs)
      = record { low = λ k. let g = f.low k in omega arith; high = λ k. let g = f.high k in omega arith } in
      let z' = with_external (with_l2 z (low_stored z.l2 a bs)) (high_stored z.ext a bs) in
      let wm : Wrote (memory_of z) (memory_of z') a bs = wrote-memory z.l2 z.ext bs a r (omega arith) in
      let i₁ : Invariant (layout_of z.rec) (l1d_level z) (l2_level z) (memory_of z') F' =
      memory-written (layout_of z.rec) (l1d_level z) (l2_level z) (memory_of z) F q.inv (λ b. (a ≤ b) × (b < a + length bs)) (memory_of z') F' wr.grows
      (λ b w. (free b w.0 w.1).0) (λ b w. (free b w.0 w.1).1)
      (λ b n. wr.puts.outside b (outside a (length bs) b n))
      (λ b _ y. written_both F.right F'.right a bs wr.puts (memory_of z) (memory_of z') wm b y)
      (λ b _ y. written_both F.held F'.held a bs (written_held F F' a bs wr) (memory_of z) (memory_of z') wm b y)
      (λ b n. wm.outside b (outside a (length bs) b n)) in
      rw (put_memory-state a bs z) (record {
        good = record {
          tidy = lists-tidy z q.tidy z.l1d (low_stored z.l2 a bs) (high_stored z.ext a bs) refl (low-length z.l2 bs a) (high-length z.ext bs a);
          inv = invariant-same (layout_of z.rec) (l1d_level z) (l2_level z) (memory_of z') F' i₁ (l1d_level z') (l2_level z') (memory_of z')
              (λ _ _. refl) (λ _ _ _ _ _. refl) (λ _ _. refl)
              (λ t v k₂ i hi. memory-keeps-l2 z F q a bs f.low (l2_data z.rec t v + i) (omega arith))
              (λ _ _. refl);
        };
        kept = record { mode = refl; layout = refl; l2len = refl };
      })

module _ (z : State) (F F' : Allowed) (q : Good z F) (a : ℕ) (bs : List ℕ) (wr : Written F F' a bs) (h : a % 64 + length bs ≤ 64) where
  -- into the L2 line that holds a
  put_l2-good : (t v : ℕ) → Valid (l2_level z) t v → (l2_line_at z.rec t v).address ≡ l2_line a → Free 64 (l1d_level z) a → Step z F' (put_l2 t v a bs z)
  unfolding put_l2 with_l2_line mar_bit
  put_l2-good t v k e fr =
      let bb = l2-bounds z F q t v k in let ht = bb.0 in let hv = bb.1 in
      let o = a % 128 in
      let m' = stored z.l2 (l2_data z.rec t v + o) bs in
      let l = line_of (l2_line_at z.rec t v).address true in
      let ho : o + length bs ≤ 128 = omega arith in
      let f₂ = l2-fits z q.tidy t v ht hv in
      let fo : l2_data z.rec t v + o + length bs ≤ length z.l2 = omega arith in
      let z' = put_l2 t v a bs z in
      let u : Replaced 128 (l2_level z) (l2_level z') t v l =
      l2-replaced z q.tidy t v l z.l1d m' z.ext ht hv (l2-rest z q.tidy F q t v o bs ht hv ho) in
      let i₁ : Invariant (layout_of z.rec) (l1d_level z) (l2_level z') (memory_of z) F' =
      l2-written (layout_of z.rec) (l1d_level z) (l2_level z) (memory_of z) F q.inv (l2_level z') t v a F' wr.grows k e fr u
      (written-old F.right F'.right a bs wr.puts h)
      (λ i hi y. written-slot F.right F'.right a bs wr.puts z.l2 (l2_data z.rec t v) 128 (l2_line_at z.rec t v).address o (omega arith) ho f₂ i hi y)
      (λ i hi y. written-slot F.held F'.held a bs (written_held F F' a bs wr) z.l2 (l2_data z.rec t v) 128 (l2_line_at z.rec t v).address o
      (omega arith) ho f₂ i hi y) in
      record {
        good = record {
          tidy = l2-tidy z q.tidy t v l z.l1d m' z.ext ht hv (λ x. false-true (sym x)) refl (length-stored z.l2 bs (l2_data z.rec t v + o)) refl;
          inv = invariant-same (layout_of z.rec) (l1d_level z) (l2_level z') (memory_of z) F' i₁ (l1d_level z') (l2_level z') (memory_of z')
              (λ _ _. refl) (λ _ _ _ _ _. refl) (λ _ _. refl) (λ _ _ _ _ _. refl)
              (λ b l'. l2-keeps-memory z F q (l2_data z.rec t v + o) bs (omega arith) fo b l');
        };
        kept = record { mode = refl; layout = refl; l2len = refl };
      }

  -- into the L1D line that holds a
  put_l1d-good : (w : ℕ) → Valid (l1d_level z) (l1d_set_of a) w → (l1d_line_at z.rec (l1d_set_of a) w).address ≡ l1d_line a → Step z F' (put_l1d w a bs z)
  unfolding put_l1d with_l1d_line mar_bit
  put_l1d-good w k e =
      let s = l1d_set_of a in
      let hs : s < 128 = omega arith in
      let hw = (l1d-bounds z F q s w k).1 in
      let o = a % 64 in
      let d' = stored z.l1d (l1d_data s w + o) bs in
      let l = line_of (l1d_line_at z.rec s w).address true in
      let f₁ = l1d-fits z q.tidy s w hs hw in
      let z' = put_l1d w a bs z in
      let u : Replaced 64 (l1d_level z) (l1d_level z') s w l =
      l1d-replaced z q.tidy s w l d' z.l2 z.ext hs hw (l1d-rest z q.tidy F q s w o bs hs hw h) in
      record {
        good = record {
          tidy = l1d-tidy z q.tidy s w l d' z.l2 z.ext hs hw (λ x. false-true (sym x)) (length-stored z.l1d bs (l1d_data s w + o)) refl refl;
          inv = l1d-written (layout_of z.rec) (l1d_level z) (l2_level z) (memory_of z) F q.inv (l1d_level z') s w a F' wr.grows k e u
              (written-old F.right F'.right a bs wr.puts h)
              (λ i hi y. written-slot F.right F'.right a bs wr.puts z.l1d (l1d_data s w) 64 (l1d_line_at z.rec s w).address o (omega arith) h f₁ i hi y);
        };
        kept = record { mode = refl; layout = refl; l2len = refl };
      }

module _ (z : State) (F F' : Allowed) (q : Good z F) (a n : ℕ) (bs : List ℕ) (ln : length bs ≡ suc n) (wr : Written F F' a bs) (row : a % 64 + suc n ≤ 64)
    (f : AccessFits (layout_of z.rec) a (suc n)) where
  abbrev After : Access → Type 0
  After r = Step z F' r.next

  row-bytes : a % 64 + length bs ≤ 64
  row-bytes = let l = ln in omega arith

  bytes_fit : AccessFits (layout_of z.rec) a (length bs)
  bytes_fit = rw ln f

  write-hit : in_l1d z a ≡ true → After (write_hit a bs z)
  unfolding write_hit use_hit
  write-hit y =
      let s = l1d_set_of a in let w = l1d_way z a in let z₁ = put_l1d w a bs z in
      let h = l1d-hit z a y in
      let p = put_l1d-good z F F' q a bs wr row-bytes w h.valid h.address in
      cond-elim (Step z F') z₁.rec.frozen z₁ (use_l1d s w z₁) (λ _. p)
      (λ _. record { good = use_l1d-good z₁ s w F' p.good h.way; kept = kept_trans z z₁ (use_l1d s w z₁) p.kept (use_l1d-kept z₁ s w) })

  write-miss : cacheable z.rec a ≡ true → in_l1d z a ≡ false → After (write_miss a bs z)
  unfolding write_miss write_home
  write-miss t y =
      let g = fetch_l2-good z F q a n f (cacheable-yes z.rec a t) in
      let z₁ = fetch_l2 a z in let v = l2_way_for z a in
      let fr : Free 64 (l1d_level z₁) a = λ s' w' k e. let x = g.fewer s' w' k in l1d-miss z F q a y s' w' (rw x at k) (rw x at e) in
      let done : (x : State) → Step z₁ F' x → Step z F' x = λ x p. record { good = p.good; kept = kept_trans z z₁ x g.kept p.kept } in
      cond-elim (Step z F') (home_is_l2 z₁.rec a) (put_l2 (l2_set_of z₁.rec a) v a bs z₁) (put_memory a bs z₁)
      (λ d. let h = hit_same z z₁ a v g.kept.mode (g.has (sym (home_same z z₁ a g.kept.mode) ∙ d)) in
      done (put_l2 (l2_set_of z₁.rec a) v a bs z₁)
      (put_l2-good z₁ F F' g.good a bs wr row-bytes (l2_set_of z₁.rec a) v h.valid h.address fr))
      (λ d. done (put_memory a bs z₁)
      (put_memory-good z₁ F F' g.good a bs wr (rw g.kept.layout bytes_fit)
      (row-uncached z₁ a (length bs) row-bytes fr (memory-free z₁ F g.good a d))))

  pub write-good : Step z F' (write_access a bs z).next
  unfolding write_access
  write-good =
      cond-elim After (cacheable z.rec a) (cond (in_l1d z a) (write_hit a bs z) (write_miss a bs z)) (access 4 [] (put_memory a bs z))
      (λ t. cond-elim After (in_l1d z a) (write_hit a bs z) (write_miss a bs z) write-hit (write-miss t))
      (λ t. let c = cacheable-no z.rec a t in
      put_memory-good z F F' q a bs wr bytes_fit
      (row-uncached z a (length bs) row-bytes (l1d-uncacheable z F q a c.0 c.1) (l2-uncacheable z F q a c.0 c.1)))
