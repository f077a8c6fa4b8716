-- A change of the mode, a change of a MAR bit, the freeze, and the fresh start. Shown: each leaves (or makes) a good
-- state.
-- Why: with every set fresh no line holds anything, so only the memories count (`fresh-good`). Before a mode change
-- nothing is valid in L1D and nothing dirty in L2, so the memories are right; SRAM keeps its bytes below the smaller
-- of old and new S and is zero from there on, as flat memory's. A MAR bit becomes 0 only where no line of its 16 MiB
-- is held, so that every line held keeps its bit.
use Prim.Native.Nat.{ℕ, zero, suc, ◌+◌, ◌-◌, ◌/◌, ◌≤◌, ◌<◌}
use mathlib.Core.Bool.{true, false}
use mathlib.Core.Path.{◌≡◌, refl, sym, ap, ◌∙◌}
use mathlib.Core.Logic.{◌⊎◌, ⊎_elim}
use mathlib.Core.List.{List, ◌++◌}
use native.Mathlib.Omega.{arith}
use native.Mathlib.Nat.{add-sub_of_le}
use lib.ListN.{length, get_or, take, replicate, length-append, length-replicate, get_or-replicate, get_or-eq_default, get_or-append}
use lib.Seq.{get_or-take, get_or-append-add, length-take-le}
use lib.Dec.{ltb, leb, eqb}
use borrow.Author.Tests.{ltb-true, ltb-false, leb-true, leb-false, eq-eqb, eqb-true, eqb-false}
use Rattle.model.specs.Basics.{any_of}
use Rattle.model.specs.Bytes.{zero_from}
use Rattle.model.specs.Memories.{external_base, cache_size, is_mode, sram_length}
use Rattle.model.specs.Lines.{empty_line, Permutation2, Permutation4}
use Rattle.model.specs.Records.{State, sram_of, covers, mar_bit, no_l2_set, l1d_line_at, l2_line_at, dirty_lines, dirty_in, fresh_l1d_set, fresh_l2_set}
use Rattle.model.specs.Modes.{smaller, new_mode, change_mar, change_freeze}
use Rattle.model.specs.Refusals.{in_range, holds_range}
use Rattle.model.specs.Laws.{bool, false-true}
use Rattle.model.specs.declared.Line.{Line}
use Rattle.model.specs.declared.L1dSet.{L1dSet}
use Rattle.model.specs.declared.L2Set.{L2Set}
use Rattle.model.specs.declared.Record.{Record}
use Rattle.agreement.proofs.Level.{Valid, NoDirty}
use Rattle.agreement.proofs.Invariant.{Allowed, carry, Inside}
use Rattle.agreement.proofs.Tables.{l1d_store, l2_store, fresh-line, fresh-table, count-fresh, none_found}
use Rattle.agreement.proofs.Memory.{memory-low, memory-high}
use Rattle.agreement.proofs.Good.{layout_of, l1d_level, l2_level, memory_of, Sizes, sizes-new, Good}

-- ---- bytes set zero from k on
module _ (k : ℕ) (m : List ℕ) (n : ℕ) (hk : k ≤ length m) (hn : k ≤ n) where
  front : length (take k m) ≡ k
  front = length-take-le k m hk

  pub zero-length : length (zero_from k m n) ≡ n
  unfolding zero_from
  zero-length = let f = front in let r = length-replicate {A = ℕ} (n - k) 0 in length-append (take k m) (replicate (n - k) 0) ∙ omega arith

  pub zero-below : (i : ℕ) → i < k → get_or (zero_from k m n) i 0 ≡ get_or m i 0
  unfolding zero_from
  zero-below i h = let f = front in get_or-append (take k m) (replicate (n - k) 0) 0 i (omega arith) ∙ get_or-take k m i 0 h

  pub zero-above : (i : ℕ) → k ≤ i → get_or (zero_from k m n) i 0 ≡ 0
  unfolding zero_from
  zero-above i h =
      let f = front in
      let h' : length (take k m) ≤ i = omega arith in
      ap (λ (j : ℕ). get_or (take k m ++ replicate (n - k) 0) j 0) (sym (add-sub_of_le h'))
      ∙ get_or-append-add (take k m) (replicate (n - k) 0) (i - length (take k m)) 0
      ∙ zeros (n - k) (i - length (take k m))
    where
      zeros : (n j : ℕ) → ◌≡◌ {A = ℕ} (get_or (replicate n 0) j 0) 0
      zeros n j =
          bool (ltb j n) (λ t. get_or-replicate n j 0 0 (ltb-true j n t))
          (λ t. let t' = ltb-false j n t in let l = length-replicate {A = ℕ} n 0 in get_or-eq_default (replicate n 0) 0 {n = j} (omega arith))

pub smaller-bound : (a b : ℕ) → (smaller a b ≤ a) × (smaller a b ≤ b)
unfolding smaller
smaller-bound a b =
    bool (leb a b)
    (λ t. let h = leb-true a b t in rw t (omega arith, h))
    (λ t. let h = leb-false a b t in rw t (omega arith, omega arith))

-- ---- a fresh set holds nothing, and its order is a permutation
pub l1d-fresh : (w : ℕ) → get_or fresh_l1d_set.lines w empty_line ≡ empty_line
l1d-fresh zero = refl
l1d-fresh (suc zero) = refl
l1d-fresh (suc (suc w)) = refl

pub l2-fresh : (w : ℕ) → get_or fresh_l2_set.lines w empty_line ≡ empty_line
l2-fresh zero = refl
l2-fresh (suc zero) = refl
l2-fresh (suc (suc zero)) = refl
l2-fresh (suc (suc (suc zero))) = refl
l2-fresh (suc (suc (suc (suc w)))) = refl

l1d-fresh-order : Permutation2 fresh_l1d_set.order
l1d-fresh-order = record { below1 = omega arith; below2 = omega arith; apart = λ e. absurd (omega arith) }

l2-fresh-order : Permutation4 fresh_l2_set.order
l2-fresh-order =
    record {
      below1 = omega arith;
      below2 = omega arith;
      below3 = omega arith;
      below4 = omega arith;
      apart12 = λ e. absurd (omega arith);
      apart13 = λ e. absurd (omega arith);
      apart14 = λ e. absurd (omega arith);
      apart23 = λ e. absurd (omega arith);
      apart24 = λ e. absurd (omega arith);
      apart34 = λ e. absurd (omega arith);
    }

-- ---- with fresh sets every way is empty, and nothing is valid
pub fresh-l1d-empty : (r : Record) → r.l1d ≡ replicate 128 fresh_l1d_set → (s w : ℕ) → l1d_line_at r s w ≡ empty_line
fresh-l1d-empty r e s w = rw e (fresh-line l1d_store fresh_l1d_set 128 l1d-fresh s w)

pub fresh-l2-empty : (r : Record) → r.l2 ≡ replicate 512 fresh_l2_set → (t v : ℕ) → l2_line_at r t v ≡ empty_line
fresh-l2-empty r e t v = rw e (fresh-line l2_store fresh_l2_set 512 l2-fresh t v)

pub fresh-l1d-none : (r : Record) → r.l1d ≡ replicate 128 fresh_l1d_set → (s w : ℕ) → (l1d_line_at r s w).valid ≡ false
fresh-l1d-none r e s w = ap (λ (l : Line). l.valid) (fresh-l1d-empty r e s w)

pub fresh-l2-none : (r : Record) → r.l2 ≡ replicate 512 fresh_l2_set → (t v : ℕ) → (l2_line_at r t v).valid ≡ false
fresh-l2-none r e t v = ap (λ (l : Line). l.valid) (fresh-l2-empty r e t v)

-- ---- of a fresh set no line is dirty
clean₁ : dirty_lines fresh_l1d_set.lines ≡ 0
unfolding dirty_lines
clean₁ = refl

clean₂ : dirty_lines fresh_l2_set.lines ≡ 0
unfolding dirty_lines
clean₂ = refl

-- ---- a state with fresh sets, none of whose lines counts as dirty, is good where the memories are right
pub fresh-good : (z : State) (F : Allowed) → z.rec.l1d ≡ replicate 128 fresh_l1d_set → z.rec.l2 ≡ replicate 512 fresh_l2_set →
    z.rec.dirty_l1d ≡ 0 → z.rec.dirty_l2 ≡ 0 → Sizes z.rec.l2len z.rec.extlen z.rec.mode z.l1d z.l2 z.ext →
    ((a : ℕ) → Inside (layout_of z.rec) a → F.right a (memory_of z a)) → Good z F
fresh-good z F e₁ e₂ c₁ c₂ sizes h =
    let v₁ = fresh-l1d-none z.rec e₁ in
    let v₂ = fresh-l2-none z.rec e₂ in
    record {
      tidy = record {
        sizes = sizes;
        l1d = rw e₁ (fresh-table l1d_store fresh_l1d_set 128 l1d-fresh refl refl l1d-fresh-order);
        l2 = rw e₂ (fresh-table l2_store fresh_l2_set 512 l2-fresh refl refl l2-fresh-order);
        idle = λ t k _. rw e₂ (get_or-replicate 512 t fresh_l2_set no_l2_set k);
        l1d_count = c₁ ∙ sym (ap (dirty_in (λ (v : L1dSet). v.lines)) e₁ ∙ count-fresh (λ (v : L1dSet). v.lines) fresh_l1d_set clean₁ 128);
        l2_count = c₂ ∙ sym (ap (dirty_in (λ (v : L2Set). v.lines)) e₂ ∙ count-fresh (λ (v : L2Set). v.lines) fresh_l2_set clean₂ 512);
      };
      inv = record {
        l1d_sound = record { once = λ s w s' w' k. false-true (sym (v₁ s w) ∙ k); place = λ s w k. false-true (sym (v₁ s w) ∙ k) };
        l2_sound = record { once = λ s w s' w' k. false-true (sym (v₂ s w) ∙ k); place = λ s w k. false-true (sym (v₂ s w) ∙ k) };
        inclusion = λ s w k. false-true (sym (v₁ s w) ∙ k);
        l1d_right = λ s w k. false-true (sym (v₁ s w) ∙ k);
        l2_right = λ s w k. false-true (sym (v₂ s w) ∙ k);
        memory_right = λ a l _ _. h a l;
        behind = record {
          l2_held = λ s w k. false-true (sym (v₂ s w) ∙ k);
          memory_held = λ a l. F.right_held a (memory_of z a) (h a l);
          l2_alike = λ s w k. false-true (sym (v₂ s w) ∙ k);
        };
      };
    }

-- ---- a mode change, once everything has gone out: F' is F with SRAM kept below the smaller S and zero from there on
module _ (z : State) (F F' : Allowed) (q : Good z F) (m : ℕ) (ok : is_mode m ≡ true) (hm : cache_size m ≤ z.rec.l2len)
    (l1d_none : (s w : ℕ) → Valid (l1d_level z) s w → ⊥) (l2_clean : (t v : ℕ) → Valid (l2_level z) t v → (l2_line_at z.rec t v).dirty ≡ false)
    (below : (a : ℕ) → a < external_base → a < smaller (sram_of z.rec) (sram_length z.rec.l2len m) → (c : ℕ) → F.right a c → F'.right a c)
    (zeros : (a : ℕ) → a < external_base → smaller (sram_of z.rec) (sram_length z.rec.l2len m) ≤ a → F'.right a 0)
    (above : (a : ℕ) → external_base ≤ a → (c : ℕ) → F.right a c → F'.right a c) where
  pub new_mode-good : Good (new_mode m z) F'
  unfolding new_mode
  new_mode-good =
      let h = q.tidy.sizes in
      let l = z.rec.l2len in
      let k = smaller (sram_of z.rec) (sram_length l m) in
      let kb = smaller-bound (sram_of z.rec) (sram_length l m) in
      let k₀ = kb.0 in let k₁ = kb.1 in
      let n = h.l2_length in let cm = h.cache_most in
      let l' = zero_from k z.l2 (length z.l2) in
      let hk : k ≤ length z.l2 = omega arith in
      let c₁ : (a : ℕ) → NoDirty 64 (l1d_level z) a = λ a s w i _ _. l1d_none s w i in
      let c₂ : (a : ℕ) → NoDirty 128 (l2_level z) a = λ a t v i d _. false-true (sym (l2_clean t v i) ∙ d) in
      fresh-good (new_mode m z) F' refl refl refl refl
      (sizes-new h m ok hm z.l1d l' z.ext refl (zero-length k z.l2 (length z.l2) hk hk) refl)
      (λ a i. bool (ltb a external_base)
      (λ t. let b = ltb-true a external_base t in
      bool (ltb a k)
      (λ y. let y' = ltb-true a k y in
      carry F' (memory-low l' z.ext a b ∙ zero-below k z.l2 (length z.l2) hk hk a y' ∙ sym (memory-low z.l2 z.ext a b))
      (below a b y' (memory_of z a) (q.inv.memory_right a (record { low = λ _. omega arith; high = λ g. absurd (omega arith) }) (c₁ a) (c₂ a))))
      (λ y. let y' = ltb-false a k y in carry F' (memory-low l' z.ext a b ∙ zero-above k z.l2 (length z.l2) hk hk a y') (zeros a b y')))
      (λ t. let b = ltb-false a external_base t in
      carry F' (memory-high l' z.ext a b ∙ sym (memory-high z.l2 z.ext a b))
      (above a b (memory_of z a) (q.inv.memory_right a (record { low = λ g. absurd (omega arith); high = i.high }) (c₁ a) (c₂ a)))))

-- ---- a MAR change
module _ (n : ℕ) (r : Record) (h : holds_range n r ≡ false) where
  l1d-range : any_of (λ (v : L1dSet). any_of (in_range n) v.lines) r.l1d ≡ false
  unfolding holds_range
  l1d-range = bool (any_of (λ (v : L1dSet). any_of (in_range n) v.lines) r.l1d) (λ t. false-true (sym (rw t at h))) (λ t. t)

  l2-range : any_of (λ (v : L2Set). any_of (in_range n) v.lines) r.l2 ≡ false
  unfolding holds_range
  l2-range = rw l1d-range at h

  l1d-none : (s w : ℕ) → in_range n (l1d_line_at r s w) ≡ false
  unfolding in_range
  l1d-none = none_found l1d_store r.l1d (in_range n) refl l1d-range

  l2-none : (s w : ℕ) → in_range n (l2_line_at r s w) ≡ false
  unfolding in_range
  l2-none = none_found l2_store r.l2 (in_range n) refl l2-range

outside-range : (n : ℕ) (l : Line) → in_range n l ≡ false → l.valid ≡ true → covers n l.address ≡ false
unfolding in_range
outside-range n l h v = rw v at h

covered-by-129 : (a : ℕ) → external_base ≤ a → a < external_base + 33554432 → covers 128 a ≡ false → covers 129 a ≡ true
unfolding covers
covered-by-129 a lo hi t = let k = eqb-false (a / 16777216) 128 t in eq-eqb (a / 16777216) 129 (omega arith)

-- every line that is held keeps its bit
module _ (z : State) (F : Allowed) (q : Good z F) (n b : ℕ) (allowed : (b ≡ 1) ⊎ (holds_range n z.rec ≡ false)) where
  keeps-bit : (l : Line) → l.valid ≡ true → external_base ≤ l.address → l.address < external_base + 33554432 →
      (holds_range n z.rec ≡ false → in_range n l ≡ false) → mar_bit z.rec l.address ≡ true → mar_bit (change_mar n b z).rec l.address ≡ true
  unfolding change_mar mar_bit
  keeps-bit l v lo hi none e =
      let set-to-1 : (k : ℕ) → covers k l.address ≡ true → eqb n k ≡ true → eqb b 1 ≡ true =
      λ k y i. ⊎_elim (λ c. rw c refl) (λ c. false-true (sym (rw (eqb-true n k i) at (outside-range n l (none c) v)) ∙ y)) allowed in
      bool (covers 128 l.address)
      (λ t. rw t (bool (eqb n 128) (λ y. rw y (set-to-1 128 t y)) (λ y. rw y (rw t at e))))
      (λ t. rw t (bool (eqb n 129) (λ y. rw y (set-to-1 129 (covered-by-129 l.address lo hi t) y)) (λ y. rw y (rw t at e))))

  pub change_mar-good : Good (change_mar n b z) F
  unfolding change_mar
  change_mar-good =
      let h = q.tidy in let v = q.inv in let mx = h.sizes.ext_most in
      record {
        tidy = record { sizes = h.sizes; l1d = h.l1d; l2 = h.l2; idle = h.idle; l1d_count = h.l1d_count; l2_count = h.l2_count };
        inv = record {
          l1d_sound = record {
            once = v.l1d_sound.once;
            place = λ s w k. let p = v.l1d_sound.place s w k in
                record {
                  aligned = p.aligned;
                  own_set = p.own_set;
                  way = p.way;
                  low = p.low;
                  high = p.high;
                  mar_set = λ g. let hh = p.high g in
                      keeps-bit (l1d_line_at z.rec s w) k g (omega arith) (λ c. l1d-none n z.rec c s w) (p.mar_set g);
                };
          };
          l2_sound = record {
            once = v.l2_sound.once;
            place = λ s w k. let p = v.l2_sound.place s w k in let hh = p.high in
                record {
                  aligned = p.aligned;
                  own_set = p.own_set;
                  set_used = p.set_used;
                  way = p.way;
                  low = p.low;
                  high = p.high;
                  mar_set = keeps-bit (l2_line_at z.rec s w) k p.low (omega arith) (λ c. l2-none n z.rec c s w) p.mar_set;
                };
          };
          inclusion = v.inclusion;
          l1d_right = v.l1d_right;
          l2_right = v.l2_right;
          memory_right = λ a l. v.memory_right a (record { low = l.low; high = l.high });
          behind = record {
            l2_held = v.behind.l2_held;
            memory_held = λ a l. v.behind.memory_held a (record { low = l.low; high = l.high });
            l2_alike = v.behind.l2_alike;
          };
        };
      }

-- ---- the freeze: lines, sizes and MAR bits are what they were
pub change_freeze-good : (z : State) (F : Allowed) → Good z F → (b : ℕ) → Good (change_freeze b z) F
unfolding change_freeze mar_bit
change_freeze-good z F q b =
    let h = q.tidy in
    record { tidy = record { sizes = h.sizes; l1d = h.l1d; l2 = h.l2; idle = h.idle; l1d_count = h.l1d_count; l2_count = h.l2_count }; inv = q.inv }
