-- An L1D line leaves: it goes home if it is dirty, and its way becomes empty; likewise the two halves of an L2 line.
-- Shown: the state stays good, L1D only has fewer lines, L2 has the same lines, and an L2 line of which L1D held
-- nothing gets no dirtier.
-- Why: the bytes that go out are right (L1D is never behind), and they go to the next place for that address: to SRAM
-- or external memory where L2 does not hold the line, else to the L2 line, which becomes dirty. That L2 has it
-- follows from inclusion.
use Prim.Native.Nat.{ℕ, ◌+◌, ◌*◌, ◌-◌, ◌/◌, ◌%◌, ◌≤◌, ◌<◌}
use mathlib.Core.Bool.{true, false, cond}
use mathlib.Core.Path.{◌≡◌, refl, sym, ap, ◌∙◌}
use mathlib.Core.Logic.{◌≢◌}
use mathlib.Core.List.{List}
use native.Mathlib.Omega.{arith}
use lib.ListN.{length, get_or}
use lib.Dec.{ltb, eqb}
use borrow.Author.Tests.{ltb-true, ltb-false, eqb-true, eqb-false}
use Rattle.model.specs.Bytes.{stored, part}
use Rattle.model.specs.Memories.{external_base}
use Rattle.model.specs.Lines.{l1d_set_of, l1d_data, l1d_line, l2_line, upper_half, empty_line, line_of}
use Rattle.model.specs.Records.{State, with_l2, with_external, sram_of, l2_set_of, l2_data, mar_bit, l1d_line_at, l2_line_at, with_l1d_line, with_l2_line}
use Rattle.model.specs.Ways.{l1d_way, l2_way, in_l1d, in_l2, empty_l1d}
use Rattle.model.specs.Access.{writeback_l1d, evict_l1d}
use Rattle.model.specs.Homes.{home_is_l2, put_memory, put_l2, put_home, take_half, take_halves}
use Rattle.model.specs.Laws.{bool, false-true, cond-elim, length-stored, length_part, part_at}
use Rattle.model.specs.declared.Line.{Line}
use Rattle.agreement.proofs.Level.{Valid, Free, Replaced, same-slot, emptied-line, kept-valid, kept-address}
use Rattle.agreement.proofs.Invariant.{Allowed, Inside, Invariant, invariant-same, l1d-dropped, l1d-into-memory, l1d-into-l2}
use Rattle.agreement.proofs.Memory.{memory_byte, memory-low, memory-high, low_stored, high_stored, Fits, low-length, high-length, stored-elsewhere, Wrote, wrote-memory, half_in, half_out}
use Rattle.agreement.proofs.Good.{layout_of, l1d_level, l2_level, memory_of, Tidy, Good, Kept, kept_refl, kept_trans, l1d-hit, l2-hit, l1d-miss, l2-miss, l2-bounds, home-memory, home-l2, l1d-fits, l2-fits, l2-rest, l1d-replaced, l1d-tidy, l2-replaced, l2-tidy}

-- bytes put into SRAM or external memory, both lists said at once
pub put_memory-state : (a : ℕ) (bs : List ℕ) (z : State) →
    put_memory a bs z ≡ with_external (with_l2 z (low_stored z.l2 a bs)) (high_stored z.ext a bs)
unfolding put_memory low_stored high_stored
put_memory-state a bs z = bool (ltb a external_base) (λ t. rw t refl) (λ t. rw t refl)

module _ (z : State) (F : Allowed) (q : Good z F) where
  -- L2 holds no line whose home is SRAM or external memory itself
  pub memory-free : (b : ℕ) → home_is_l2 z.rec b ≡ false → Free 128 (l2_level z) b
  memory-free b e t v k j =
      let p = q.inv.l2_sound.place t v k in
      home-memory z.rec b e (λ h. let lo = p.low in absurd (omega arith)) (λ h n. let li = p.set_used in absurd (omega arith))

  -- SRAM and the L2 cache share one list: bytes put into SRAM or external memory change no L2 slot,
  pub memory-keeps-l2 : (a : ℕ) (bs : List ℕ) → (a < external_base → a + length bs ≤ sram_of z.rec) → (j : ℕ) → sram_of z.rec ≤ j →
      get_or (low_stored z.l2 a bs) j 0 ≡ get_or z.l2 j 0
  unfolding low_stored
  memory-keeps-l2 a bs h j k =
      let n = q.tidy.sizes.l2_length in
      bool (ltb a external_base)
      (λ t. let l = h (ltb-true a external_base t) in rw t (stored-elsewhere z.l2 bs a (omega arith) j (λ _. omega arith)))
      (λ t. rw t refl)

  -- and bytes put into an L2 slot change neither SRAM nor external memory
  pub l2-keeps-memory : (p : ℕ) (bs : List ℕ) → sram_of z.rec ≤ p → p + length bs ≤ length z.l2 → (a : ℕ) → Inside (layout_of z.rec) a →
      memory_byte (stored z.l2 p bs) z.ext a ≡ memory_byte z.l2 z.ext a
  l2-keeps-memory p bs h f a l =
      bool (ltb a external_base)
      (λ t. let b = ltb-true a external_base t in let c = l.low b in
      memory-low (stored z.l2 p bs) z.ext a b ∙ stored-elsewhere z.l2 bs p f a (λ g. absurd (omega arith))
      ∙ sym (memory-low z.l2 z.ext a b))
      (λ t. let b = ltb-false a external_base t in
      memory-high (stored z.l2 p bs) z.ext a b ∙ sym (memory-high z.l2 z.ext a b))

-- ---- what is known after L1D lines left
-- L1D holds nothing of the L2 line in slot t, v
abbrev pub Clear : State → ℕ → ℕ → Type 0
Clear z t v = (s w : ℕ) → Valid (l1d_level z) s w → (l1d_line_at z.rec s w).address / 128 * 128 ≢ (l2_line_at z.rec t v).address

pub record LinesLeft (z z' : State) (F : Allowed) : Type 0 where
  pub good : Good z' F
  pub kept : Kept z z'
  pub fewer : (s w : ℕ) → Valid (l1d_level z') s w → l1d_line_at z'.rec s w ≡ l1d_line_at z.rec s w
  pub valid : (t v : ℕ) → (l2_line_at z'.rec t v).valid ≡ (l2_line_at z.rec t v).valid
  pub address : (t v : ℕ) → (l2_line_at z'.rec t v).address ≡ (l2_line_at z.rec t v).address
  -- an L2 line of which L1D holds nothing gets no dirtier
  pub unsoiled : (t v : ℕ) → Clear z t v → (l2_line_at z'.rec t v).dirty ≡ (l2_line_at z.rec t v).dirty

pub record L1dEvicted (z : State) (F : Allowed) (s w : ℕ) (z' : State) : Type 0 where
  pub left : LinesLeft z z' F
  pub gone : l1d_line_at z'.rec s w ≡ empty_line

module _ (z : State) (F : Allowed) (q : Good z F) (s w : ℕ) (hs : s < 128) (hw : w < 2) where
  -- ---- nothing to write
  evicted-clean : (Valid (l1d_level z) s w → (l1d_line_at z.rec s w).dirty ≡ false) → L1dEvicted z F s w (empty_l1d s w z)
  unfolding empty_l1d with_l1d_line mar_bit
  evicted-clean c =
      let u = l1d-replaced z q.tidy s w empty_line z.l1d z.l2 z.ext hs hw (λ _ _ _ _ _ _. refl) in
      record {
        left = record {
          good = record {
            tidy = l1d-tidy z q.tidy s w empty_line z.l1d z.l2 z.ext hs hw (λ _. refl) refl refl refl;
            inv = l1d-dropped (layout_of z.rec) (l1d_level z) (l2_level z) (memory_of z) F q.inv (l1d_level (empty_l1d s w z)) s w u c;
          };
          kept = record { mode = refl; layout = refl; l2len = refl };
          fewer = λ s' w' k. emptied-line 64 (l1d_level z) (l1d_level (empty_l1d s w z)) s w u s' w' k;
          valid = λ t v. refl;
          address = λ t v. refl;
          unsoiled = λ t v _. refl;
        };
        gone = u.here;
      }

  -- its bytes
  abbrev bs : List ℕ
  bs = part z.l1d (l1d_data s w) 64

  bs-length : length (part z.l1d (l1d_data s w) 64) ≡ 64
  bs-length = length_part z.l1d (l1d_data s w) 64 (l1d-fits z q.tidy s w hs hw)

  -- ---- into SRAM or external memory
  abbrev b : ℕ
  b = (l1d_line_at z.rec s w).address

  bs-fit : Valid (l1d_level z) s w → Fits z.l2 z.ext b (length bs)
  bs-fit k =
      let p = q.inv.l1d_sound.place s w k in let n = bs-length in let m = q.tidy.sizes.l2_length in let e = q.tidy.sizes.ext_length in
      record { low = λ h. let g = p.low h in omega arith; high = λ h. let g = p.high h in omega arith }

  evicted-memory : Valid (l1d_level z) s w → home_is_l2 z.rec b ≡ false →
      L1dEvicted z F s w (empty_l1d s w (with_external (with_l2 z (low_stored z.l2 b bs)) (high_stored z.ext b bs)))
  unfolding empty_l1d with_l1d_line mar_bit
  evicted-memory k e =
      let m' = low_stored z.l2 b bs in let e' = high_stored z.ext b bs in
      let z' = empty_l1d s w (with_external (with_l2 z m') e') in
      let u : Replaced 64 (l1d_level z) (l1d_level z') s w empty_line
      = l1d-replaced z q.tidy s w empty_line z.l1d m' e' hs hw (λ _ _ _ _ _ _. refl) in
      let n = bs-length in
      let p = q.inv.l1d_sound.place s w k in let aligned = p.aligned in
      let l2 = q.tidy.sizes.l2_length in let mx = q.tidy.sizes.l2_most in
      let wr : Wrote (memory_byte z.l2 z.ext) (memory_byte m' e') b bs = wrote-memory z.l2 z.ext bs b (bs-fit k) (omega arith) in
      let i₁ : Invariant (layout_of z.rec) (l1d_level z') (l2_level z) (memory_of z') F =
      l1d-into-memory (layout_of z.rec) (l1d_level z) (l2_level z) (memory_of z) F q.inv (l1d_level z') s w u k (memory_of z')
      (memory-free z F q b e)
      (λ i h. let j : b + i - b ≡ i = omega arith in
      wr.inside (b + i) (omega arith) (omega arith) ∙ rw j (part_at z.l1d (l1d_data s w) 64 i (l1d-fits z q.tidy s w hs hw) h))
      (λ a l o. wr.outside a (λ g. omega arith)) in
      record {
        left = record {
          good = record {
            tidy = l1d-tidy z q.tidy s w empty_line z.l1d m' e' hs hw (λ _. refl) refl (low-length z.l2 bs b) (high-length z.ext bs b);
            inv = invariant-same (layout_of z.rec) (l1d_level z') (l2_level z) (memory_of z') F i₁ (l1d_level z') (l2_level z') (memory_of z')
                (λ _ _. refl) (λ _ _ _ _ _. refl) (λ _ _. refl)
                (λ t v k₂ i h. memory-keeps-l2 z F q b bs (λ g. let c = p.low g in omega arith) (l2_data z.rec t v + i) (omega arith))
                (λ _ _. refl);
          };
          kept = record { mode = refl; layout = refl; l2len = refl };
          fewer = λ s' w' k'. emptied-line 64 (l1d_level z) (l1d_level z') s w u s' w' k';
          valid = λ t v. refl;
          address = λ t v. refl;
          unsoiled = λ t v _. refl;
        };
        gone = u.here;
      }

  -- ---- into the L2 line in slot t, v, which holds it; a: the line's address
  evicted-l2 : Valid (l1d_level z) s w → (a : ℕ) → (l1d_line_at z.rec s w).address ≡ a →
      (t v : ℕ) → Valid (l2_level z) t v → (l2_line_at z.rec t v).address ≡ l2_line a → L1dEvicted z F s w (empty_l1d s w (put_l2 t v a bs z))
  unfolding empty_l1d put_l2 with_l1d_line with_l2_line mar_bit
  evicted-l2 k a e t v k₂ e₂ =
      let p = q.inv.l1d_sound.place s w k in let al = p.aligned in
      let aligned : a % 64 ≡ 0 = rw e at al in
      let n = bs-length in
      let ht = (l2-bounds z F q t v k₂).0 in let hv = (l2-bounds z F q t v k₂).1 in
      let o = a % 128 in
      let m' = stored z.l2 (l2_data z.rec t v + o) bs in
      let l = line_of (l2_line_at z.rec t v).address true in
      let ho : o + length bs ≤ 128 = omega arith in
      let f₁ = l1d-fits z q.tidy s w hs hw in
      let f₂ = l2-fits z q.tidy t v ht hv in
      let fo : l2_data z.rec t v + o + length bs ≤ length z.l2 = omega arith in
      let ml : length m' ≡ length z.l2 = length-stored z.l2 bs (l2_data z.rec t v + o) in
      let z₁ = put_l2 t v a bs z in
      let z' = empty_l1d s w z₁ in
      let q₁ : Tidy z₁ = l2-tidy z q.tidy t v l z.l1d m' z.ext ht hv (λ x. false-true (sym x)) refl ml refl in
      let u₁ : Replaced 64 (l1d_level z) (l1d_level z') s w empty_line
      = l1d-replaced z₁ q₁ s w empty_line z.l1d m' z.ext hs hw (λ _ _ _ _ _ _. refl) in
      let u₂ : Replaced 128 (l2_level z) (l2_level z') t v l =
      l2-replaced z q.tidy t v l z.l1d m' z.ext ht hv (l2-rest z q.tidy F q t v o bs ht hv ho) in
      let i₁ : Invariant (layout_of z.rec) (l1d_level z') (l2_level z') (memory_of z) F =
      l1d-into-l2 (layout_of z.rec) (l1d_level z) (l2_level z) (memory_of z) F q.inv (l1d_level z') s w u₁ k (l2_level z') t v k₂ (rw e e₂) u₂
      (λ i hi h. half_in z.l2 z.l1d (l2_data z.rec t v) (l1d_data s w) a (l2_line_at z.rec t v).address f₂ f₁ aligned e₂ i hi (h ∙ e))
      (λ i hi h. half_out z.l2 z.l1d (l2_data z.rec t v) (l1d_data s w) a (l2_line_at z.rec t v).address f₂ f₁ aligned e₂ i hi
      (λ g. h (g ∙ sym e)))
      in
      record {
        left = record {
          good = record {
            tidy = l1d-tidy z₁ q₁ s w empty_line z.l1d m' z.ext hs hw (λ _. refl) refl refl refl;
            inv = invariant-same (layout_of z.rec) (l1d_level z') (l2_level z') (memory_of z) F i₁ (l1d_level z') (l2_level z') (memory_of z')
                (λ _ _. refl) (λ _ _ _ _ _. refl) (λ _ _. refl) (λ _ _ _ _ _. refl)
                (λ b l. l2-keeps-memory z F q (l2_data z.rec t v + o) bs (omega arith) fo b l);
          };
          kept = record { mode = refl; layout = refl; l2len = refl };
          fewer = λ s' w' k'. emptied-line 64 (l1d_level z) (l1d_level z') s w u₁ s' w' k';
          valid = kept-valid 128 (l2_level z) (l2_level z') t v true k₂ u₂;
          address = kept-address 128 (l2_level z) (l2_level z') t v true k₂ u₂;
          unsoiled = λ t' v' f. same-slot t v t' v'
              (λ c. let x : l2_line_at z.rec t' v' ≡ l2_line_at z.rec t v = rw (c.0, c.1) refl in
              absurd (f s w k (ap (λ (i : ℕ). l2_line i) e ∙ sym e₂ ∙ sym (ap (λ (r : Line). r.address) x))))
              (λ c. ap (λ (r : Line). r.dirty) (u₂.others t' v' c));
        };
        gone = u₁.here;
      }

  -- ---- it leaves, dirty or clean
  pub evict_l1d-good : L1dEvicted z F s w (evict_l1d s w z)
  unfolding evict_l1d writeback_l1d put_home
  evict_l1d-good =
      let P : State → Type 0 = λ (y : State). L1dEvicted z F s w (empty_l1d s w y) in
      let t = l2_set_of z.rec b in let v = l2_way z b in
      cond-elim P (l1d_line_at z.rec s w).valid (cond (l1d_line_at z.rec s w).dirty (put_home b bs z) z) z
      (λ k. cond-elim P (l1d_line_at z.rec s w).dirty (put_home b bs z) z
      (λ d. cond-elim P (home_is_l2 z.rec b) (cond (in_l2 z b) (put_l2 t v b bs z) z) (put_memory b bs z)
      (λ e. let c = home-l2 z.rec b e in
      cond-elim P (in_l2 z b) (put_l2 t v b bs z) z
      (λ y. let h = l2-hit z b y in evicted-l2 k b refl t v h.valid h.address)
      (λ y. let i = q.inv.inclusion s w k c.0 c.1 in absurd (l2-miss z F q b y i.0 i.1 i.2 i.3)))
      (λ e. rw (put_memory-state b bs z) (evicted-memory k e)))
      (λ d. evicted-clean (λ _. d)))
      (λ k. evicted-clean (λ k'. false-true (sym k ∙ k')))

-- ---- more than one line leaves
pub left-refl : (z : State) (F : Allowed) → Good z F → LinesLeft z z F
left-refl z F q =
    record { good = q; kept = kept_refl z; fewer = λ s w k. refl; valid = λ t v. refl; address = λ t v. refl; unsoiled = λ t v _. refl }

pub left-clear : (z z' : State) (F : Allowed) → LinesLeft z z' F → (t v : ℕ) → Clear z t v → Clear z' t v
left-clear z z' F l t v f s w k e = let x = l.fewer s w k in f s w (rw x at k) (rw (x, l.address t v) at e)

pub left-trans : (z z' z'' : State) (F : Allowed) → LinesLeft z z' F → LinesLeft z' z'' F → LinesLeft z z'' F
left-trans z z' z'' F a b =
    record {
      good = b.good;
      kept = kept_trans z z' z'' a.kept b.kept;
      fewer = λ s w k. let e = b.fewer s w k in e ∙ a.fewer s w (rw e at k);
      valid = λ t v. b.valid t v ∙ a.valid t v;
      address = λ t v. b.address t v ∙ a.address t v;
      unsoiled = λ t v f. b.unsoiled t v (left-clear z z' F a t v f) ∙ a.unsoiled t v f;
    }

pub left-free : (z z' : State) (F : Allowed) → LinesLeft z z' F → (n a : ℕ) → Free n (l1d_level z) a → Free n (l1d_level z') a
left-free z z' F l n a f s w k e = let x = l.fewer s w k in f s w (rw x at k) (rw x at e)

-- a line that was found left: nobody holds it now
pub evicted-free : (z : State) (F : Allowed) → Good z F → (s w a : ℕ) (z' : State) → Valid (l1d_level z) s w →
    (l1d_line_at z.rec s w).address ≡ l1d_line a →
    ((s' w' : ℕ) → Valid (l1d_level z') s' w' → l1d_line_at z'.rec s' w' ≡ l1d_line_at z.rec s' w') → l1d_line_at z'.rec s w ≡ empty_line →
    Free 64 (l1d_level z') a
evicted-free z F q s w a z' k e fewer gone s' w' k' e' =
    let x = fewer s' w' k' in
    let o = q.inv.l1d_sound.once s w s' w' k (rw x at k') (e ∙ sym (rw x at e')) in
    let y : l1d_line_at z'.rec s' w' ≡ empty_line = rw (o.0, o.1) gone in
    false-true (sym (ap (λ (r : Line). r.valid) y) ∙ k')

-- ---- the half of the L2 line in slot t, v at address b, if L1D holds it, goes into that L2 line
pub record HalfTaken (z : State) (F : Allowed) (b : ℕ) (z' : State) : Type 0 where
  pub left : LinesLeft z z' F
  pub free : Free 64 (l1d_level z') b

pub half-left : (z : State) (F : Allowed) → Good z F → (b : ℕ) → in_l1d z b ≡ true → (z' : State) → L1dEvicted z F (l1d_set_of b) (l1d_way z b) z' →
    HalfTaken z F b z'
half-left z F q b y z' g =
    let h = l1d-hit z b y in
    record { left = g.left; free = evicted-free z F q (l1d_set_of b) (l1d_way z b) b z' h.valid h.address g.left.fewer g.gone }

pub take_half-good : (z : State) (F : Allowed) → Good z F → (t v b : ℕ) → b % 64 ≡ 0 → Valid (l2_level z) t v →
    (l2_line_at z.rec t v).address ≡ l2_line b →
    HalfTaken z F b (take_half t v b z)
unfolding take_half
take_half-good z F q t v b al k₂ e₂ =
    let s = l1d_set_of b in let w = l1d_way z b in
    let bs = part z.l1d (l1d_data s w) 64 in
    let z' = empty_l1d s w (cond (l1d_line_at z.rec s w).dirty (put_l2 t v b bs z) z) in
    cond-elim (HalfTaken z F b) (in_l1d z b) z' z
    (λ y. let h = l1d-hit z b y in let e = h.address in
    half-left z F q b y z'
    (cond-elim (λ (x : State). L1dEvicted z F s w (empty_l1d s w x)) (l1d_line_at z.rec s w).dirty (put_l2 t v b bs z) z
    (λ d. evicted-l2 z F q s w (omega arith) h.way h.valid b (omega arith) t v k₂ e₂)
    (λ d. evicted-clean z F q s w (omega arith) h.way (λ _. d))))
    (λ y. record { left = left-refl z F q; free = l1d-miss z F q b y })

-- both halves of the L2 line at b: L1D holds nothing of it afterwards
pub record HalvesTaken (z : State) (F : Allowed) (b : ℕ) (z' : State) : Type 0 where
  pub left : LinesLeft z z' F
  pub none : (s w : ℕ) → Valid (l1d_level z') s w → (l1d_line_at z'.rec s w).address / 128 * 128 ≢ b

-- nobody holds either half
pub halves-none : (z : State) (F : Allowed) → Good z F → (b : ℕ) → b % 128 ≡ 0 → Free 64 (l1d_level z) b → Free 64 (l1d_level z) (upper_half b) →
    (s w : ℕ) → Valid (l1d_level z) s w → (l1d_line_at z.rec s w).address / 128 * 128 ≢ b
halves-none z F q b al lower upper s w k e =
    let a = (q.inv.l1d_sound.place s w k).aligned in
    let f₁ = lower s w k in
    let f₂ = upper s w k in
    bool (eqb (l1d_line_at z.rec s w).address b)
    (λ t. let t' = eqb-true (l1d_line_at z.rec s w).address b t in f₁ (omega arith))
    (λ t. let t' = eqb-false (l1d_line_at z.rec s w).address b t in f₂ (omega arith))

pub take_halves-good : (z : State) (F : Allowed) → Good z F → (t v b : ℕ) → Valid (l2_level z) t v → (l2_line_at z.rec t v).address ≡ b →
    HalvesTaken z F b (take_halves t v b z)
unfolding take_halves
take_halves-good z F q t v b k e =
    let al = (q.inv.l2_sound.place t v k).aligned in
    let al' : b % 128 ≡ 0 = rw e at al in
    let z₁ = take_half t v b z in
    let z' = take_half t v (upper_half b) z₁ in
    let h₁ = take_half-good z F q t v b (omega arith) k (e ∙ omega arith) in
    let h₂ = take_half-good z₁ F h₁.left.good t v (upper_half b) (omega arith) (h₁.left.valid t v ∙ k) (h₁.left.address t v ∙ e ∙ omega arith)
    in
    record {
      left = left-trans z z₁ z' F h₁.left h₂.left;
      none = halves-none z' F h₂.left.good b al' (left-free z₁ z' F h₂.left 64 b h₁.free) h₂.free;
    }
