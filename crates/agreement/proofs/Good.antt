-- The chip's state as the invariant sees it: L1D and L2 as levels, SRAM and external memory as one memory, what a
-- mode and the MAR bits fix as a layout.
-- `Good z F` says that the state is well formed and that every byte a program can see is right by F; `Well z` is the
-- same with any byte allowed.
-- Shown: a search of a set finds the line or nobody holds it (one lemma on `way_holding` for both caches); a chosen
-- way is one of the set; slots do not overlap; and one line or one order of the record replaced keeps lengths, orders,
-- empty ways and right counts (from `Tables`, for both caches).
use Prim.Native.Nat.{ℕ, zero, suc, ◌+◌, ◌*◌, ◌/◌, ◌%◌, ◌≤◌, ◌<◌}
use mathlib.Core.Bool.{true, false, cond}
use mathlib.Core.Path.{◌≡◌, refl, sym, ap, ◌∙◌}
use mathlib.Core.Logic.{◌≢◌, ◌⊎◌, inl, inr, ⊎_elim}
use mathlib.Core.List.{List}
use native.Mathlib.Omega.{arith}
use native.Mathlib.Nat.{mul-le-mul_right, suc-mul}
use lib.ListN.{length, get_or}
use lib.Seq.{get_or-set_other}
use lib.Dec.{ltb, eqb}
use borrow.Author.Tests.{ltb-true, ltb-false, eqb-true, eqb-false, eq-eqb}
use Rattle.model.specs.Bytes.{stored}
use Rattle.model.specs.Memories.{external_base, cache_size, is_mode}
use Rattle.model.specs.Lines.{l1d_set_of, l1d_data, l2_slot, l2_data_in, l1d_line, l2_line, empty_line, holds, l1d_get, l2_get, l2_put, l1d_use, l2_use}
use Rattle.model.specs.Records.{State, with_record, with_l1d, with_l2, with_external, sram_of, l2_sets_of, mode0, l2_set_of, l2_data, mar_bit, no_l2_set, l1d_set_at, l2_set_at, l1d_line_at, l2_line_at, dirty_in_l1d, dirty_in_l2, l1d_lines, l2_lines, counted, with_l1d_line, with_l2_line, fresh_l2_set}
use Rattle.model.specs.Ways.{way_holding, lowest_invalid, l1d_find, l2_find, l1d_victim, l2_victim, l1d_way, l2_way, in_l1d, in_l2, use_l1d, use_l2}
use Rattle.model.specs.Homes.{home_is_l2}
use Rattle.model.specs.Laws.{bool, false-true, both_true, cond-elim, used2-permutation, used4-permutation, mode0-sets}
use Rattle.model.specs.declared.Line.{Line}
use Rattle.model.specs.declared.L1dSet.{L1dSet}
use Rattle.model.specs.declared.L2Set.{L2Set}
use Rattle.model.specs.declared.Record.{Record}
use Rattle.agreement.proofs.Level.{Level, Valid, Other, Free, Replaced}
use Rattle.agreement.proofs.Invariant.{Allowed, seen_only, Layout, Invariant, invariant-same}
use Rattle.agreement.proofs.Tables.{l1d_store, l2_store, level_of, Table, table-line, replaced-line, table-used, line-used, count-line, count-used}
use Rattle.agreement.proofs.Memory.{memory_byte, other-slot}

-- ---- the state as the invariant sees it
abbrev pub layout_of : Record → Layout
layout_of r = record { sram = sram_of r; ext = r.extlen; sets = l2_sets_of r; mar = mar_bit r }

abbrev pub l1d_level : State → Level
l1d_level z = level_of l1d_store z.rec.l1d l1d_data z.l1d

abbrev pub l2_level : State → Level
l2_level z = level_of l2_store z.rec.l2 (l2_data z.rec) z.l2

abbrev pub memory_of : State → ℕ → ℕ
memory_of z a = memory_byte z.l2 z.ext a

-- ---- legal lengths and mode, of L, E, the mode and the three lent memories
pub record Sizes (l e mode : ℕ) (l1d l2 ext : List ℕ) : Type 0 where
  pub l1d_length : length l1d ≡ 16384
  pub l2_length : length l2 ≡ l
  pub ext_length : length ext ≡ e
  pub l2_least : 32768 ≤ l
  pub l2_most : l ≤ 262144
  pub l2_whole : l % 32768 ≡ 0
  pub ext_least : 128 ≤ e
  pub ext_most : e ≤ 33554432
  pub ext_whole : e % 128 ≡ 0
  pub legal_mode : is_mode mode ≡ true
  pub cache_most : cache_size mode ≤ l

-- what a well-formed state has beside the invariant; sets not in use are fresh, the counts right
pub record Tidy (z : State) : Type 0 where
  pub sizes : Sizes z.rec.l2len z.rec.extlen z.rec.mode z.l1d z.l2 z.ext
  pub l1d : Table l1d_store z.rec.l1d
  pub l2 : Table l2_store z.rec.l2
  pub idle : (t : ℕ) → t < 512 → l2_sets_of z.rec ≤ t → l2_set_at z.rec t ≡ fresh_l2_set
  pub l1d_count : z.rec.dirty_l1d ≡ dirty_in_l1d z.rec
  pub l2_count : z.rec.dirty_l2 ≡ dirty_in_l2 z.rec

pub record Good (z : State) (F : Allowed) : Type 0 where
  pub tidy : Tidy z
  pub inv : Invariant (layout_of z.rec) (l1d_level z) (l2_level z) (memory_of z) F

-- any byte may stand anywhere: then only the record and the lengths count, as refusals 1 and 2 test them
abbrev pub Anything : Allowed
Anything = seen_only (λ _ _. ◌≡◌ {A = ℕ} 0 0)

abbrev pub Well : State → Type 0
Well z = Good z Anything

pub good-well : (z : State) (F : Allowed) → Good z F → Well z
good-well z F q =
    record {
      tidy = q.tidy;
      inv = record {
        l1d_sound = q.inv.l1d_sound;
        l2_sound = q.inv.l2_sound;
        inclusion = q.inv.inclusion;
        l1d_right = λ _ _ _ _ _. refl;
        l2_right = λ _ _ _ _ _ _. refl;
        memory_right = λ _ _ _ _. refl;
        behind = record { l2_held = λ _ _ _ _ _. refl; memory_held = λ _ _. refl; l2_alike = λ _ _ _ _ _ _. refl };
      };
    }

-- ---- what no call but a change of the mode or of a MAR bit changes
pub record Kept (z z' : State) : Type 0 where
  pub mode : z'.rec.mode ≡ z.rec.mode
  pub layout : layout_of z'.rec ≡ layout_of z.rec
  pub l2len : z'.rec.l2len ≡ z.rec.l2len

pub kept_refl : (z : State) → Kept z z
kept_refl z = record { mode = refl; layout = refl; l2len = refl }

pub kept_trans : (z z' z'' : State) → Kept z z' → Kept z' z'' → Kept z z''
kept_trans z z' z'' a b = record { mode = b.mode ∙ a.mode; layout = b.layout ∙ a.layout; l2len = b.l2len ∙ a.l2len }

-- the cache size is a whole number of 32 Kbytes, in every mode
pub cache-whole : (m : ℕ) → cache_size m % 32768 ≡ 0
unfolding cache_size
cache-whole m =
    cond-elim (λ (c : ℕ). c % 32768 ≡ 0) (eqb m 1) 32768 (cond (eqb m 2) 65536 (cond (eqb m 3) 131072 (cond (eqb m 7) 262144 0))) (λ _. refl)
    (λ _. cond-elim (λ (c : ℕ). c % 32768 ≡ 0) (eqb m 2) 65536 (cond (eqb m 3) 131072 (cond (eqb m 7) 262144 0)) (λ _. refl)
    (λ _. cond-elim (λ (c : ℕ). c % 32768 ≡ 0) (eqb m 3) 131072 (cond (eqb m 7) 262144 0) (λ _. refl)
    (λ _. cond-elim (λ (c : ℕ). c % 32768 ≡ 0) (eqb m 7) 262144 0 (λ _. refl) (λ _. refl))))

-- ---- a search among any number of ways
module _ (l : Line) (a : ℕ) where
  pub holds-yes : l.valid ≡ true → l.address ≡ a → holds l a ≡ true
  unfolding holds
  holds-yes v e = rw v (eq-eqb l.address a e)

  pub holds-tells : holds l a ≡ true → (l.valid ≡ true) × (l.address ≡ a)
  unfolding holds
  holds-tells h = let p = both_true l.valid (eqb l.address a) h in (p.0, eqb-true l.address a p.1)

-- the way that is found holds the line; where none is found, none holds it
pub way-found : (g : ℕ → Line) (n k b : ℕ) → way_holding g n k b < k + n →
    ((g (way_holding g n k b)).valid ≡ true) × ((g (way_holding g n k b)).address ≡ b)
unfolding way_holding
way-found g zero k b = λ h. absurd (omega arith)
way-found g (suc n) k b =
    cond-elim (λ (w : ℕ). w < k + suc n → ((g w).valid ≡ true) × ((g w).address ≡ b)) (holds (g k) b) k (way_holding g n (suc k) b)
    (λ t _. holds-tells (g k) b t)
    (λ _ h. way-found g n (suc k) b (omega arith))

pub way-missing : (g : ℕ → Line) (n k b : ℕ) → k + n ≤ way_holding g n k b → (w : ℕ) → k ≤ w → w < k + n → (g w).valid ≡ true → (g w).address ≢ b
unfolding way_holding
way-missing g zero k b = λ h w l u. absurd (omega arith)
way-missing g (suc n) k b =
    cond-elim (λ (f : ℕ). k + suc n ≤ f → (w : ℕ) → k ≤ w → w < k + suc n → (g w).valid ≡ true → (g w).address ≢ b) (holds (g k) b) k
    (way_holding g n (suc k) b)
    (λ _ h. absurd (omega arith))
    (λ t h w l u v a. bool (eqb w k)
    (λ i. let j = eqb-true w k i in false-true (sym t ∙ holds-yes (g k) b (rw j at v) (rw j at a)))
    (λ i. let j = eqb-false w k i in way-missing g n (suc k) b (omega arith) w (omega arith) (omega arith) v a))

-- slot s, w of a level, of so many ways, holds line b
pub record Hit (x : Level) (ways s w b : ℕ) : Type 0 where
  pub way : w < ways
  pub valid : Valid x s w
  pub address : (x.line s w).address ≡ b

module _ (z : State) (a : ℕ) where
  pub l1d-hit : in_l1d z a ≡ true → Hit (l1d_level z) 2 (l1d_set_of a) (l1d_way z a) (l1d_line a)
  unfolding in_l1d l1d_way l1d_find
  l1d-hit t =
      let g : ℕ → Line = l1d_get (l1d_set_at z.rec (l1d_set_of a)) in
      let h = ltb-true (way_holding g 2 0 (l1d_line a)) 2 t in
      let p = way-found g 2 0 (l1d_line a) (omega arith) in
      record { way = h; valid = p.0; address = p.1 }

  pub l2-hit : in_l2 z a ≡ true → Hit (l2_level z) 4 (l2_set_of z.rec a) (l2_way z a) (l2_line a)
  unfolding in_l2 l2_way l2_find
  l2-hit t =
      let g : ℕ → Line = l2_get (l2_set_at z.rec (l2_set_of z.rec a)) in
      let h = ltb-true (way_holding g 4 0 (l2_line a)) 4 t in
      let p = way-found g 4 0 (l2_line a) (omega arith) in
      record { way = h; valid = p.0; address = p.1 }

module _ (z : State) (F : Allowed) (q : Good z F) where
  pub l1d-bounds : (s w : ℕ) → Valid (l1d_level z) s w → (s < 128) × (w < 2)
  l1d-bounds s w k = let p = q.inv.l1d_sound.place s w k in let h = p.own_set in let i = p.way in (omega arith, i)

  pub l2-bounds : (t v : ℕ) → Valid (l2_level z) t v → (t < l2_sets_of z.rec) × (v < 4)
  l2-bounds t v k = let p = q.inv.l2_sound.place t v k in (p.set_used, p.way)

  pub l1d-miss : (a : ℕ) → in_l1d z a ≡ false → Free 64 (l1d_level z) a
  unfolding in_l1d l1d_way l1d_find
  l1d-miss a t s w k e =
      let g : ℕ → Line = l1d_get (l1d_set_at z.rec (l1d_set_of a)) in
      let h = ltb-false (way_holding g 2 0 (l1d_line a)) 2 t in
      let p = q.inv.l1d_sound.place s w k in let i = p.own_set in let j = p.way in
      let c : s ≡ l1d_set_of a = omega arith in
      way-missing g 2 0 (l1d_line a) (omega arith) w (omega arith) (omega arith) (rw c at k) (rw c at e)

  pub l2-miss : (a : ℕ) → in_l2 z a ≡ false → Free 128 (l2_level z) a
  unfolding in_l2 l2_way l2_find
  l2-miss a t s w k e =
      let g : ℕ → Line = l2_get (l2_set_at z.rec (l2_set_of z.rec a)) in
      let h = ltb-false (way_holding g 4 0 (l2_line a)) 4 t in
      let p = q.inv.l2_sound.place s w k in let j = p.way in
      let d : (l2_line_at z.rec s w).address / 128 ≡ a / 128 = omega arith in
      let c : s ≡ l2_set_of z.rec a = p.own_set ∙ ap (λ (i : ℕ). i % l2_sets_of z.rec) d in
      way-missing g 4 0 (l2_line a) (omega arith) w (omega arith) (omega arith) (rw c at k) (rw c at e)

-- the way that is chosen is one of the set
pub lowest-bound : (g : ℕ → Line) (n k last : ℕ) → last < k + n → lowest_invalid g n k last < k + n
unfolding lowest_invalid
lowest-bound g zero k last h = h
lowest-bound g (suc n) k last h =
    cond-elim (λ (w : ℕ). w < k + suc n) (g k).valid (lowest_invalid g n (suc k) last) k
    (λ _. let r = lowest-bound g n (suc k) last (omega arith) in omega arith) (λ _. omega arith)

pub l1d-victim-bound : (v : L1dSet) → l1d_victim v < 2
unfolding l1d_victim
l1d-victim-bound v = lowest-bound (l1d_get v) 2 0 (v.order.second % 2) (omega arith)

pub l2-victim-bound : (v : L2Set) → l2_victim v < 4
unfolding l2_victim
l2-victim-bound v = lowest-bound (l2_get v) 4 0 (v.order.fourth % 4) (omega arith)

-- ---- where the home is
pub home-memory {ℓ} : {A : Type ℓ} (r : Record) (b : ℕ) → home_is_l2 r b ≡ false → (b < external_base → A) → (external_base ≤ b → l2_sets_of r ≡ 0 → A) → A
unfolding home_is_l2
home-memory r b e f g =
    bool (ltb b external_base) (λ t. f (ltb-true b external_base t))
    (λ t. bool (mode0 r) (λ u. g (ltb-false b external_base t) (eqb-true (l2_sets_of r) 0 (sym (mode0-sets r) ∙ u)))
    (λ u. false-true (sym (rw (t, u) at e))))

pub home-l2 : (r : Record) (b : ℕ) → home_is_l2 r b ≡ true → (external_base ≤ b) × (l2_sets_of r ≢ 0)
unfolding home_is_l2
home-l2 r b e =
    bool (ltb b external_base) (λ t. false-true (rw t at e))
    (λ t. bool (mode0 r) (λ u. false-true (rw (t, u) at e))
    (λ u. (ltb-false b external_base t, eqb-false (l2_sets_of r) 0 (sym (mode0-sets r) ∙ u))))

-- ---- slots: ways of n sets. The product `w * n` is no linear term, so the way is taken by cases first
four-ways {ℓ} : (P : ℕ → Type ℓ) → P 0 → P 1 → P 2 → P 3 → (w : ℕ) → w < 4 → P w
four-ways P a b c d zero h = a
four-ways P a b c d (suc zero) h = b
four-ways P a b c d (suc (suc zero)) h = c
four-ways P a b c d (suc (suc (suc zero))) h = d
four-ways P a b c d (suc (suc (suc (suc w)))) h = absurd (omega arith)

pub slot-bound : (n s w : ℕ) → w < 4 → s < n → l2_slot n s w < 4 * n
unfolding l2_slot
slot-bound n s w hw hs = four-ways (λ (k : ℕ). k * n + s < 4 * n) (omega arith) (omega arith) (omega arith) (omega arith) w hw

-- two slots are at different places among all slots, a line's length apart, so that their bytes do not overlap
ways-apart : (n s w s' w' : ℕ) → s < n → w < w' → w * n + s + 1 ≤ w' * n + s'
ways-apart n s w s' w' hs h = let a = mul-le-mul_right n h in let b = suc-mul w n in omega arith

slots_apart : (n s w s' w' : ℕ) → s < n → s' < n → Other s w s' w' → (w * n + s + 1 ≤ w' * n + s') ⊎ (w' * n + s' + 1 ≤ w * n + s)
slots_apart n s w s' w' hs hs' o =
    bool (ltb w w') (λ t. inl (ways-apart n s w s' w' hs (ltb-true w w' t)))
    (λ t. bool (ltb w' w) (λ t'. inr (ways-apart n s' w' s w hs' (ltb-true w' w t')))
    (λ t'. let h = ltb-false w w' t in let h' = ltb-false w' w t' in
    let e : w' ≡ w = omega arith in
    bool (ltb s s') (λ y. let g = ltb-true s s' y in inl (rw e (omega arith)))
    (λ y. bool (ltb s' s) (λ y'. let g = ltb-true s' s y' in inr (rw e (omega arith)))
    (λ y'. let g = ltb-false s s' y in let g' = ltb-false s' s y' in absurd (o (omega arith, e))))))

pub l1d-apart : (s w s' w' : ℕ) → s < 128 → s' < 128 → Other s w s' w' → (l1d_data s w + 64 ≤ l1d_data s' w') ⊎ (l1d_data s' w' + 64 ≤ l1d_data s w)
l1d-apart s w s' w' hs hs' o = ⊎_elim (λ h. inl (omega arith)) (λ h. inr (omega arith)) (slots_apart 128 s w s' w' hs hs' o)

pub l2-apart : (p n s w s' w' : ℕ) → s < n → s' < n → Other s w s' w' →
    (l2_data_in p n s w + 128 ≤ l2_data_in p n s' w') ⊎ (l2_data_in p n s' w' + 128 ≤ l2_data_in p n s w)
unfolding l2_slot
l2-apart p n s w s' w' hs hs' o = ⊎_elim (λ h. inl (omega arith)) (λ h. inr (omega arith)) (slots_apart n s w s' w' hs hs' o)

module _ (z : State) (h : Tidy z) where
  -- an L1D slot lies in the L1D data; an L2 slot lies in L2 memory, behind SRAM
  pub l1d-fits : (s w : ℕ) → s < 128 → w < 2 → l1d_data s w + 64 ≤ length z.l1d
  l1d-fits s w hs hw = let n = h.sizes.l1d_length in omega arith

  pub l2-fits : (t v : ℕ) → t < l2_sets_of z.rec → v < 4 → l2_data z.rec t v + 128 ≤ length z.l2
  l2-fits t v ht hv =
      let n = h.sizes.l2_length in
      let b = slot-bound (l2_sets_of z.rec) t v hv ht in
      let c = h.sizes.cache_most in
      let c' = cache-whole z.rec.mode in
      omega arith

  -- bytes put into one slot leave the other valid slots as they were
  pub l1d-rest : (F : Allowed) → Good z F → (s w o : ℕ) (bs : List ℕ) → s < 128 → w < 2 → o + length bs ≤ 64 →
      (s' w' : ℕ) → Other s w s' w' → Valid (l1d_level z) s' w' → (i : ℕ) → i < 64 →
      get_or (stored z.l1d (l1d_data s w + o) bs) (l1d_data s' w' + i) 0 ≡ get_or z.l1d (l1d_data s' w' + i) 0
  l1d-rest F q s w o bs hs hw ho s' w' n k =
      other-slot 64 z.l1d bs (l1d_data s w) (l1d_data s' w') o (l1d-fits s w hs hw) (l1d-apart s w s' w' hs (l1d-bounds z F q s' w' k).0 n) ho

  pub l2-rest : (F : Allowed) → Good z F → (t v o : ℕ) (bs : List ℕ) → t < l2_sets_of z.rec → v < 4 → o + length bs ≤ 128 →
      (t' v' : ℕ) → Other t v t' v' → Valid (l2_level z) t' v' → (i : ℕ) → i < 128 →
      get_or (stored z.l2 (l2_data z.rec t v + o) bs) (l2_data z.rec t' v' + i) 0 ≡ get_or z.l2 (l2_data z.rec t' v' + i) 0
  l2-rest F q t v o bs ht hv ho t' v' n k =
      let b = l2-bounds z F q t' v' k in
      other-slot 128 z.l2 bs (l2_data z.rec t v) (l2_data z.rec t' v') o (l2-fits t v ht hv)
      (l2-apart (sram_of z.rec) (l2_sets_of z.rec) t v t' v' ht b.0 n) ho

-- ---- another record, and other bytes in all memories that the invariant sees
abbrev pub with_lists : State → Record → List ℕ → List ℕ → List ℕ → State
with_lists z r d m e = with_external (with_l2 (with_l1d (with_record z r) d) m) e

-- ---- the lists change, keeping their lengths; and the mode
pub sizes-new : {l e n : ℕ} {d m x : List ℕ} → Sizes l e n d m x → (n' : ℕ) → is_mode n' ≡ true → cache_size n' ≤ l →
    (d' m' x' : List ℕ) → length d' ≡ length d → length m' ≡ length m → length x' ≡ length x → Sizes l e n' d' m' x'
sizes-new h n' ok c d' m' x' p q r =
    record {
      l1d_length = p ∙ h.l1d_length;
      l2_length = q ∙ h.l2_length;
      ext_length = r ∙ h.ext_length;
      l2_least = h.l2_least;
      l2_most = h.l2_most;
      l2_whole = h.l2_whole;
      ext_least = h.ext_least;
      ext_most = h.ext_most;
      ext_whole = h.ext_whole;
      legal_mode = ok;
      cache_most = c;
    }

sizes-with : {l e n : ℕ} {d m x : List ℕ} → Sizes l e n d m x → (d' m' x' : List ℕ) → length d' ≡ length d → length m' ≡ length m →
    length x' ≡ length x →
    Sizes l e n d' m' x'
sizes-with {l} {e} {n} h d' m' x' p q r = sizes-new h n h.legal_mode h.cache_most d' m' x' p q r

pub lists-tidy : (z : State) → Tidy z → (d m e : List ℕ) → length d ≡ length z.l1d → length m ≡ length z.l2 → length e ≡ length z.ext →
    Tidy (with_lists z z.rec d m e)
lists-tidy z h d m e a b c =
    record { sizes = sizes-with h.sizes d m e a b c; l1d = h.l1d; l2 = h.l2; idle = h.idle; l1d_count = h.l1d_count; l2_count = h.l2_count }

-- ---- one line of the record replaced, and the lists with their lengths kept
module _ (z : State) (h : Tidy z) (s w : ℕ) (l : Line) (d m e : List ℕ) where
  pub l1d-replaced : s < 128 → w < 2 →
      ((s' w' : ℕ) → Other s w s' w' → Valid (l1d_level z) s' w' → (i : ℕ) → i < 64 → get_or d (l1d_data s' w' + i) 0 ≡ get_or z.l1d (l1d_data s' w' + i) 0)
      →
      Replaced 64 (l1d_level z) (l1d_level (with_lists z (with_l1d_line z.rec s w l) d m e)) s w l
  unfolding with_l1d_line
  l1d-replaced hs hw r = replaced-line l1d_store z.rec.l1d s w l h.l1d.shaped hs hw 64 l1d_data z.l1d d r

  pub l1d-tidy : s < 128 → w < 2 → (l.valid ≡ false → l ≡ empty_line) → length d ≡ length z.l1d → length m ≡ length z.l2 → length e ≡ length z.ext →
      Tidy (with_lists z (with_l1d_line z.rec s w l) d m e)
  unfolding with_l1d_line
  l1d-tidy hs hw v a b c =
      record {
        sizes = sizes-with h.sizes d m e a b c;
        l1d = table-line l1d_store z.rec.l1d s w l h.l1d v;
        l2 = h.l2;
        idle = h.idle;
        l1d_count = ap (counted l1d_lines (l1d_line_at z.rec s w).dirty l.dirty) h.l1d_count ∙ count-line l1d_store z.rec.l1d s w l h.l1d.shaped hs hw;
        l2_count = h.l2_count;
      }

  pub l2-replaced : s < l2_sets_of z.rec → w < 4 →
      ((s' w' : ℕ) → Other s w s' w' → Valid (l2_level z) s' w' → (i : ℕ) → i < 128 →
      get_or m (l2_data z.rec s' w' + i) 0 ≡ get_or z.l2 (l2_data z.rec s' w' + i) 0) →
      Replaced 128 (l2_level z) (l2_level (with_lists z (with_l2_line z.rec s w l) d m e)) s w l
  unfolding with_l2_line
  l2-replaced hs hw r =
      let c = h.sizes.cache_most in let c' = h.sizes.l2_most in
      replaced-line l2_store z.rec.l2 s w l h.l2.shaped (omega arith) hw 128 (l2_data z.rec) z.l2 m r

  pub l2-tidy : s < l2_sets_of z.rec → w < 4 → (l.valid ≡ false → l ≡ empty_line) → length d ≡ length z.l1d → length m ≡ length z.l2 →
      length e ≡ length z.ext →
      Tidy (with_lists z (with_l2_line z.rec s w l) d m e)
  unfolding with_l2_line
  l2-tidy hs hw v a b c =
      let n = h.sizes.cache_most in let n' = h.sizes.l2_most in
      record {
        sizes = sizes-with h.sizes d m e a b c;
        l1d = h.l1d;
        l2 = table-line l2_store z.rec.l2 s w l h.l2 v;
        idle = λ t k g. get_or-set_other z.rec.l2 s t (l2_put (l2_set_at z.rec s) w l) no_l2_set (omega arith) ∙ h.idle t k g;
        l1d_count = h.l1d_count;
        l2_count = ap (counted l2_lines (l2_line_at z.rec s w).dirty l.dirty) h.l2_count ∙ count-line l2_store z.rec.l2 s w l h.l2.shaped (omega arith) hw;
      }

-- ---- a way is used: the lines stay, the order stays a permutation
module _ (z : State) (s w : ℕ) where
  pub l1d-used-line : (s' w' : ℕ) → l1d_line_at (use_l1d s w z).rec s' w' ≡ l1d_line_at z.rec s' w'
  unfolding use_l1d l1d_use
  l1d-used-line = line-used l1d_store z.rec.l1d s (l1d_use (l1d_set_at z.rec s) w) refl

  pub l2-used-line : (s' w' : ℕ) → l2_line_at (use_l2 s w z).rec s' w' ≡ l2_line_at z.rec s' w'
  unfolding use_l2 l2_use
  l2-used-line = line-used l2_store z.rec.l2 s (l2_use (l2_set_at z.rec s) w) refl

  pub use_l1d-kept : Kept z (use_l1d s w z)
  unfolding use_l1d mar_bit
  use_l1d-kept = record { mode = refl; layout = refl; l2len = refl }

  pub use_l2-kept : Kept z (use_l2 s w z)
  unfolding use_l2 mar_bit
  use_l2-kept = record { mode = refl; layout = refl; l2len = refl }

  pub use_l1d-good : (F : Allowed) → Good z F → w < 2 → Good (use_l1d s w z) F
  unfolding use_l1d l1d_use mar_bit
  use_l1d-good F q hw =
      let h = q.tidy in
      record {
        tidy = record {
          sizes = h.sizes;
          l1d = table-used l1d_store z.rec.l1d s (l1d_use (l1d_set_at z.rec s) w) refl h.l1d
              (λ k. used2-permutation (l1d_set_at z.rec s).order w hw (h.l1d.ordered s k));
          l2 = h.l2;
          idle = h.idle;
          l1d_count = h.l1d_count ∙ sym (count-used l1d_store z.rec.l1d s (l1d_use (l1d_set_at z.rec s) w) refl);
          l2_count = h.l2_count;
        };
        inv = invariant-same (layout_of z.rec) (l1d_level z) (l2_level z) (memory_of z) F q.inv (l1d_level (use_l1d s w z)) (l2_level z) (memory_of z)
            l1d-used-line (λ _ _ _ _ _. refl) (λ _ _. refl) (λ _ _ _ _ _. refl) (λ _ _. refl);
      }

  pub use_l2-good : (F : Allowed) → Good z F → s < l2_sets_of z.rec → w < 4 → Good (use_l2 s w z) F
  unfolding use_l2 l2_use mar_bit
  use_l2-good F q hs hw =
      let h = q.tidy in
      record {
        tidy = record {
          sizes = h.sizes;
          l1d = h.l1d;
          l2 = table-used l2_store z.rec.l2 s (l2_use (l2_set_at z.rec s) w) refl h.l2
              (λ k. used4-permutation (l2_set_at z.rec s).order w hw (h.l2.ordered s k));
          idle = λ t k g. get_or-set_other z.rec.l2 s t (l2_use (l2_set_at z.rec s) w) no_l2_set (omega arith) ∙ h.idle t k g;
          l1d_count = h.l1d_count;
          l2_count = h.l2_count ∙ sym (count-used l2_store z.rec.l2 s (l2_use (l2_set_at z.rec s) w) refl);
        };
        inv = invariant-same (layout_of z.rec) (l1d_level z) (l2_level z) (memory_of z) F q.inv (l1d_level z) (l2_level (use_l2 s w z)) (memory_of z)
            (λ _ _. refl) (λ _ _ _ _ _. refl) l2-used-line (λ _ _ _ _ _. refl) (λ _ _. refl);
      }
