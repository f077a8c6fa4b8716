-- The Boolean test of checks 1 and 2 (`lent_due`) and the invariant of a well-formed state (`Well`) say the same:
-- `due-well` and `well-due`. The arrays' lengths, which the record's types give and no test asks for, are a
-- hypothesis (`Shape`). So a call's state is never refused by the next call: `call-well`, `call_shape`.
-- Why: each test of the record is one of the fields of `Well`, line by line and set by set; what both caches need is
-- shown once over a table of sets.
use Prim.Native.Nat.{ℕ, zero, suc, ◌+◌, ◌/◌, ◌%◌, ◌≤◌, ◌<◌}
use mathlib.Core.Bool.{Bool, true, false, not, cond, ◌&&◌}
use mathlib.Core.Path.{◌≡◌, refl, sym, ap, ◌∙◌}
use mathlib.Core.Logic.{◌≢◌}
use mathlib.Core.List.{List, [], ◌∷◌}
use native.Mathlib.Omega.{arith}
use lib.ListN.{length, get_or}
use lib.Seq.{ext_get_or}
use lib.Dec.{ltb, leb, eqb}
use borrow.Author.Tests.{ltb-true, ltb-false, leb-true, le-leb, eqb-true, eqb-false, eq-eqb, ne_eqb, lt-ltb, le-ltb}
use Rattle.model.specs.Basics.{any_of, all_indexed}
use Rattle.model.specs.Memories.{external_base, legal_l2, legal_external, cache_size, is_mode}
use Rattle.model.specs.Lines.{l1d_set_of, l1d_data, l2_line, empty_line, holds, Permutation2, Permutation4}
use Rattle.model.specs.Records.{State, Shape, sram_of, l2_sets_of, mode0, l2_set_of, l2_data, mar_bit, no_l1d_set, no_l2_set, l1d_set_at, l2_set_at, l1d_line_at, l2_line_at, legal_sizes, permuted2, permuted4, empty_way, inside_l2_line, l1d_place, l2_place, l1d_line_ok, l2_line_ok, none_twice, fresh_unless_used, l1d_set_ok, l2_set_ok, dirty_in_l1d, dirty_in_l2, counts_ok, well_formed, fresh_l2_set, covered_by_l2, own_l1d_set, l1d_region, own_l2_set, in_sram, l2_region, in_cacheable, in_use}
use Rattle.model.specs.Refusals.{unless, lent_l1d, lent_l2, lent_external, lent_due}
use Rattle.model.specs.Calls.{Reply, refused, step, call}
use Rattle.model.specs.Laws.{bool, false-true, both_true, cond-elim, mode0-sets, lowest_due-none, unless-none}
use Rattle.model.specs.declared.Line.{Line}
use Rattle.model.specs.declared.Order2.{Order2}
use Rattle.model.specs.declared.Order4.{Order4}
use Rattle.model.specs.declared.L2Set.{L2Set}
use Rattle.model.specs.declared.Record.{Record}
use Rattle.model.specs.declared.Command.{Command}
use Rattle.agreement.proofs.Level.{Valid, Sound}
use Rattle.agreement.proofs.Invariant.{L1dPlaced, L2Placed, InL2Line}
use Rattle.agreement.proofs.Tables.{Store, l1d_store, l2_store, set_in, line_in, level_of, Shaped, Table, slot_cases, any_none}
use Rattle.agreement.proofs.Good.{layout_of, l1d_level, l2_level, Sizes, Well, holds-yes, holds-tells}
use Rattle.agreement.proofs.Changes.{l2-fresh}
use Rattle.agreement.proofs.Drops.{well}
use Rattle.agreement.proofs.Steps.{step-well}

-- ---- several tests, joined by `both`: each of them holds, by its place; and from all of them
abbrev every : Bool → List Bool → Bool
every b [] = b
every b (c ∷ cs) = b && every c cs

abbrev Every : Bool → List Bool → Type 0
Every b [] = b ≡ true
Every b (c ∷ cs) = (b ≡ true) × Every c cs

tells : (b : Bool) (cs : List Bool) → every b cs ≡ true → (i : ℕ) → get_or (b ∷ cs) i true ≡ true
tells b [] h zero = h
tells b [] h (suc i) = refl
tells b (c ∷ cs) h zero = (both_true b (every c cs) h).0
tells b (c ∷ cs) h (suc i) = tells c cs (both_true b (every c cs) h).1 i

makes : (b : Bool) (cs : List Bool) → Every b cs → every b cs ≡ true
makes b [] h = h
makes b (c ∷ cs) h = rw h.0 (makes c cs h.1)

-- a test that holds, and those behind it
infixr 3 ◌and◌
◌and◌ : {A B : Type 0} → A → B → A × B
a and b = (a, b)

not-tells : (b : Bool) → not b ≡ true → b ≡ false
not-tells true h = false-true h
not-tells false h = refl

not-makes : (b : Bool) → b ≡ false → not b ≡ true
not-makes b e = rw e refl

differ-tells : (a b : ℕ) → not (eqb a b) ≡ true → a ≢ b
differ-tells a b h = eqb-false a b (not-tells (eqb a b) h)

differ-makes : (a b : ℕ) → a ≢ b → not (eqb a b) ≡ true
differ-makes a b n = not-makes (eqb a b) (ne_eqb a b n)

-- ---- tests over lists, element by element
all_from {ℓ} : {A : Type ℓ} (f : ℕ → A → Bool) (d : A) (xs : List A) (i : ℕ) → all_indexed f i xs ≡ true → (j : ℕ) → j < length xs →
    f (i + j) (get_or xs j d) ≡ true
unfolding all_indexed
all_from f d [] i h j k = absurd (omega arith)
all_from f d (x ∷ xs) i h zero k = let e : i + 0 ≡ i = omega arith in rw e (both_true (f i x) (all_indexed f (suc i) xs) h).0
all_from f d (x ∷ xs) i h (suc j) k =
    let e : i + suc j ≡ suc i + j = omega arith in
    rw e (all_from f d xs (suc i) (both_true (f i x) (all_indexed f (suc i) xs) h).1 j (omega arith))

pub all-tells {ℓ} : {A : Type ℓ} (f : ℕ → A → Bool) (d : A) (xs : List A) → all_indexed f 0 xs ≡ true → (j : ℕ) → j < length xs → f j (get_or xs j d) ≡ true
all-tells f d xs h j k = let e : 0 + j ≡ j = omega arith in rw e at (all_from f d xs 0 h j k)

pub all_build {ℓ} : {A : Type ℓ} (f : ℕ → A → Bool) (d : A) (xs : List A) (i : ℕ) → ((j : ℕ) → j < length xs → f (i + j) (get_or xs j d) ≡ true) →
    all_indexed f i xs ≡ true
unfolding all_indexed
all_build f d [] i h = refl
all_build f d (x ∷ xs) i h =
    let e : i + 0 ≡ i = omega arith in
    makes (f i x) (all_indexed f (suc i) xs ∷ [])
    ((rw e at (h 0 (omega arith))) and all_build f d xs (suc i) (λ j k. let e' : suc i + j ≡ i + suc j = omega arith in rw e'
    (h (suc j) (omega arith))))

all-makes {ℓ} : {A : Type ℓ} (f : ℕ → A → Bool) (d : A) (xs : List A) → ((j : ℕ) → j < length xs → f j (get_or xs j d) ≡ true) →
    all_indexed f 0 xs ≡ true
all-makes f d xs h = all_build f d xs 0 (λ j k. let e : 0 + j ≡ j = omega arith in rw e (h j k))

any_tells {ℓ} : {A : Type ℓ} (p : A → Bool) (d : A) (xs : List A) → any_of p xs ≡ true → (j : ℕ) × (p (get_or xs j d) ≡ true)
unfolding any_of
any_tells p d [] h = false-true h
any_tells p d (x ∷ xs) h = bool (p x) (λ t. (zero, t)) (λ t. let r = any_tells p d xs (rw t at h) in (suc r.0, r.1))

any-makes {ℓ} : {A : Type ℓ} (p : A → Bool) (d : A) → p d ≡ false → (xs : List A) (j : ℕ) → p (get_or xs j d) ≡ true → any_of p xs ≡ true
unfolding any_of
any-makes p d n [] j h = false-true (sym n ∙ h)
any-makes p d n (x ∷ xs) zero h = rw h refl
any-makes p d n (x ∷ xs) (suc j) h = bool (p x) (λ t. rw t refl) (λ t. rw t (any-makes p d n xs j h))

-- ---- "no line twice", within one set
abbrev OnceIn : List Line → Type 0
OnceIn xs =
    (j k : ℕ) → (get_or xs j empty_line).valid ≡ true → (get_or xs k empty_line).valid ≡ true → (get_or xs j empty_line).address ≡ (get_or xs k empty_line).address →
    k ≡ j

twice-no : (x : Line) (xs : List Line) → none_twice (x ∷ xs) ≡ true → (k : ℕ) → x.valid ≡ true → (get_or xs k empty_line).valid ≡ true →
    (get_or xs k empty_line).address ≢ x.address
unfolding none_twice holds
twice-no x xs h k v v' e =
    let p = tells (not (x.valid && any_of (λ y. holds y x.address) xs)) (none_twice xs ∷ []) h in
    let n = not-tells (x.valid && any_of (λ y. holds y x.address) xs) (p 0) in
    let n' : any_of (λ y. holds y x.address) xs ≡ false = rw v at n in
    false-true (sym (any_none (λ y. holds y x.address) empty_line refl xs n' k) ∙ holds-yes (get_or xs k empty_line) x.address v' e)

once-tells : (xs : List Line) → none_twice xs ≡ true → OnceIn xs
unfolding none_twice
once-tells [] h j k v v' e = false-true v
once-tells (x ∷ xs) h zero zero v v' e = refl
once-tells (x ∷ xs) h zero (suc k) v v' e = absurd (twice-no x xs h k v v' (sym e))
once-tells (x ∷ xs) h (suc j) zero v v' e = absurd (twice-no x xs h j v' v e)
once-tells (x ∷ xs) h (suc j) (suc k) v v' e =
    let p = tells (not (x.valid && any_of (λ y. holds y x.address) xs)) (none_twice xs ∷ []) h in
    ap suc (once-tells xs (p 1) j k v v' e)

once-makes : (xs : List Line) → OnceIn xs → none_twice xs ≡ true
unfolding none_twice
once-makes [] h = refl
once-makes (x ∷ xs) h =
    makes (not (x.valid && any_of (λ y. holds y x.address) xs)) (none_twice xs ∷ [])
    (not-makes (x.valid && any_of (λ y. holds y x.address) xs)
    (bool x.valid
    (λ v. rw v (bool (any_of (λ y. holds y x.address) xs)
    (λ t. let r = any_tells (λ y. holds y x.address) empty_line xs t in
    let p = holds-tells (get_or xs r.0 empty_line) x.address r.1 in
    let e : suc r.0 ≡ 0 = h 0 (suc r.0) v p.0 (sym p.1) in absurd (omega arith))
    (λ t. t)))
    (λ v. rw v refl))
    and once-makes xs (λ j k v v' e. let c : suc k ≡ suc j = h (suc j) (suc k) v v' e in omega arith))

-- ---- an empty way
empty-tells : (l : Line) → l.valid ≡ false → empty_way l ≡ true → l ≡ empty_line
unfolding empty_way
empty-tells l v h =
    let p = tells (not l.dirty) (eqb l.address 0 ∷ []) h in
    let d = not-tells l.dirty (p 0) in let a = eqb-true l.address 0 (p 1) in
    λ i. record { valid = v i; dirty = d i; address = a i }

empty-makes : empty_way empty_line ≡ true
unfolding empty_way
empty-makes = refl

-- ---- orders
order2-tells : (o : Order2) → permuted2 o ≡ true → Permutation2 o
unfolding permuted2
order2-tells o h =
    let p = tells (ltb o.first 2) (ltb o.second 2 ∷ not (eqb o.first o.second) ∷ []) h in
    record { below1 = ltb-true o.first 2 (p 0); below2 = ltb-true o.second 2 (p 1); apart = differ-tells o.first o.second (p 2) }

order2-makes : (o : Order2) → Permutation2 o → permuted2 o ≡ true
unfolding permuted2
order2-makes o p =
    makes (ltb o.first 2) (ltb o.second 2 ∷ not (eqb o.first o.second) ∷ [])
    (lt-ltb o.first 2 p.below1 and lt-ltb o.second 2 p.below2 and differ-makes o.first o.second p.apart)

abbrev order4_tests : Order4 → List Bool
order4_tests o =
    ltb o.second 4 ∷ ltb o.third 4 ∷ ltb o.fourth 4 ∷ not (eqb o.first o.second) ∷ not (eqb o.first o.third) ∷
    not (eqb o.first o.fourth) ∷ not (eqb o.second o.third) ∷ not (eqb o.second o.fourth) ∷ not (eqb o.third o.fourth) ∷ []

order4-tells : (o : Order4) → permuted4 o ≡ true → Permutation4 o
unfolding permuted4
order4-tells o h =
    let p = tells (ltb o.first 4) (order4_tests o) h in
    record {
      below1 = ltb-true o.first 4 (p 0);
      below2 = ltb-true o.second 4 (p 1);
      below3 = ltb-true o.third 4 (p 2);
      below4 = ltb-true o.fourth 4 (p 3);
      apart12 = differ-tells o.first o.second (p 4);
      apart13 = differ-tells o.first o.third (p 5);
      apart14 = differ-tells o.first o.fourth (p 6);
      apart23 = differ-tells o.second o.third (p 7);
      apart24 = differ-tells o.second o.fourth (p 8);
      apart34 = differ-tells o.third o.fourth (p 9);
    }

order4-makes : (o : Order4) → Permutation4 o → permuted4 o ≡ true
unfolding permuted4
order4-makes o p =
    makes (ltb o.first 4) (order4_tests o)
    (lt-ltb o.first 4 p.below1
    and lt-ltb o.second 4 p.below2
    and lt-ltb o.third 4 p.below3
    and lt-ltb o.fourth 4 p.below4
    and differ-makes o.first o.second p.apart12
    and differ-makes o.first o.third p.apart13
    and differ-makes o.first o.fourth p.apart14
    and differ-makes o.second o.third p.apart23
    and differ-makes o.second o.fourth p.apart24
    and differ-makes o.third o.fourth p.apart34)

fresh-order-tells : (r : Record) (t : ℕ) (o : Order4) → l2_sets_of r ≤ t → fresh_unless_used r t o ≡ true → o ≡ fresh_l2_set.order
unfolding fresh_unless_used
fresh-order-tells r t o k h =
    let p = tells (eqb o.first 3) (eqb o.second 2 ∷ eqb o.third 1 ∷ eqb o.fourth 0 ∷ []) (rw (le-ltb t (l2_sets_of r) k) at h) in
    let e₀ = eqb-true o.first 3 (p 0) in let e₁ = eqb-true o.second 2 (p 1) in
    let e₂ = eqb-true o.third 1 (p 2) in let e₃ = eqb-true o.fourth 0 (p 3) in
    λ i. record { first = e₀ i; second = e₁ i; third = e₂ i; fourth = e₃ i }

fresh-order-makes : (r : Record) (t : ℕ) (o : Order4) → (l2_sets_of r ≤ t → o ≡ fresh_l2_set.order) → fresh_unless_used r t o ≡ true
unfolding fresh_unless_used
fresh-order-makes r t o f = bool (ltb t (l2_sets_of r)) (λ y. rw y refl) (λ y. let e = f (ltb-false t (l2_sets_of r) y) in rw (y, e) refl)

-- ---- a line's place in L1D
module _ (r : Record) (s w a : ℕ) (hw : w < 2) (h : l1d_place r s a ≡ true) where
  l1d-tests : (i : ℕ) → get_or (own_l1d_set s a ∷ l1d_region r a ∷ covered_by_l2 r a ∷ []) i true ≡ true
  unfolding l1d_place
  l1d-tests = tells (own_l1d_set s a) (l1d_region r a ∷ covered_by_l2 r a ∷ []) h

  own-tests : (eqb (a % 64) 0 ≡ true) × (eqb s (l1d_set_of a) ≡ true)
  unfolding own_l1d_set
  own-tests = both_true (eqb (a % 64) 0) (eqb s (l1d_set_of a)) (l1d-tests 0)

  low-test : a < external_base → leb (a + 64) (sram_of r) ≡ true
  unfolding l1d_region in_sram
  low-test k = rw (lt-ltb a external_base k) at (l1d-tests 1)

  high-tests : external_base ≤ a → (leb (a + 64) (external_base + r.extlen) ≡ true) × (mar_bit r a ≡ true)
  unfolding l1d_region in_cacheable
  high-tests k = both_true (leb (a + 64) (external_base + r.extlen)) (mar_bit r a) (rw (le-ltb a external_base k) at (l1d-tests 1))

  inside-test : external_base ≤ a → inside_l2_line r a ≡ true
  unfolding covered_by_l2
  inside-test k = rw (le-ltb a external_base k) at (l1d-tests 2)

  l1d-place-tells : L1dPlaced (layout_of r) s w a
  l1d-place-tells =
      record {
        aligned = eqb-true (a % 64) 0 own-tests.0;
        own_set = eqb-true s (l1d_set_of a) own-tests.1;
        way = hw;
        low = λ k. leb-true (a + 64) (sram_of r) (low-test k);
        high = λ k. leb-true (a + 64) (external_base + r.extlen) (high-tests k).0;
        mar_set = λ k. (high-tests k).1;
      }

l1d-place-makes : (r : Record) (s w a : ℕ) → L1dPlaced (layout_of r) s w a → (external_base ≤ a → inside_l2_line r a ≡ true) → l1d_place r s a ≡ true
unfolding l1d_place own_l1d_set l1d_region in_sram in_cacheable covered_by_l2
l1d-place-makes r s w a p hd =
    rw (eq-eqb (a % 64) 0 p.aligned, eq-eqb s (l1d_set_of a) p.own_set)
    (bool (ltb a external_base)
    (λ t. rw (t, le-leb (a + 64) (sram_of r) (p.low (ltb-true a external_base t))) refl)
    (λ t. let k = ltb-false a external_base t in rw (t, le-leb (a + 64) (external_base + r.extlen) (p.high k), p.mar_set k, hd k) refl))

-- ---- in L2
l2-place-tells : (r : Record) (t v a : ℕ) → v < 4 → l2_place r t a ≡ true → L2Placed (layout_of r) t v a
unfolding l2_place own_l2_set l2_region in_cacheable
l2-place-tells r t v a hv h =
    let p = tells (own_l2_set r t a) (in_use r t ∷ l2_region r a ∷ []) h in
    let own = both_true (eqb (a % 128) 0) (eqb t (l2_set_of r a)) (p 0) in
    let q = tells (leb external_base a) (leb (a + 128) (external_base + r.extlen) ∷ mar_bit r a ∷ []) (p 2) in
    record {
      aligned = eqb-true (a % 128) 0 own.0;
      own_set = eqb-true t (l2_set_of r a) own.1;
      set_used = ltb-true t (l2_sets_of r) (p 1);
      way = hv;
      low = leb-true external_base a (q 0);
      high = leb-true (a + 128) (external_base + r.extlen) (q 1);
      mar_set = q 2;
    }

l2-place-makes : (r : Record) (t v a : ℕ) → L2Placed (layout_of r) t v a → l2_place r t a ≡ true
unfolding l2_place own_l2_set l2_region in_cacheable
l2-place-makes r t v a p =
    rw (
      eq-eqb (a % 128) 0 p.aligned,
      eq-eqb t (l2_set_of r a) p.own_set,
      lt-ltb t (l2_sets_of r) p.set_used,
      le-leb external_base a p.low,
      le-leb (a + 128) (external_base + r.extlen) p.high,
      p.mar_set,
    ) refl

-- ---- inside a valid L2 line
inside-tells : (z : State) (a : ℕ) → l2_sets_of z.rec ≢ 0 → inside_l2_line z.rec a ≡ true → InL2Line (l2_level z) a
unfolding inside_l2_line
inside-tells z a n h =
    bool (mode0 z.rec)
    (λ t. absurd (n (eqb-true (l2_sets_of z.rec) 0 (sym (mode0-sets z.rec) ∙ t))))
    (λ t. let r = any_tells (λ y. holds y (l2_line a)) empty_line (l2_set_at z.rec (l2_set_of z.rec a)).lines (rw t at h) in
    let p = holds-tells (l2_line_at z.rec (l2_set_of z.rec a) r.0) (l2_line a) r.1 in
    (l2_set_of z.rec a, r.0, p.0, p.1))

inside-makes : (z : State) → Well z → (a : ℕ) → (l2_sets_of z.rec ≢ 0 → InL2Line (l2_level z) a) → inside_l2_line z.rec a ≡ true
unfolding inside_l2_line holds
inside-makes z h a f =
    bool (mode0 z.rec) (λ t. rw t refl)
    (λ t. let i = f (eqb-false (l2_sets_of z.rec) 0 (sym (mode0-sets z.rec) ∙ t)) in
    let p = h.inv.l2_sound.place i.0 i.1 i.2 in
    let e = i.3 in
    let d : (l2_line_at z.rec i.0 i.1).address / 128 ≡ a / 128 = omega arith in
    let c : i.0 ≡ l2_set_of z.rec a = p.own_set ∙ ap (λ (x : ℕ). x % l2_sets_of z.rec) d in
    rw t (any-makes (λ y. holds y (l2_line a)) empty_line refl (l2_set_at z.rec (l2_set_of z.rec a)).lines i.1
    (holds-yes (l2_line_at z.rec (l2_set_of z.rec a) i.1) (l2_line a) (rw c at i.2) (rw c at i.3))))

-- ---- a table of sets, said once for both caches: `place s a` tests the address of a valid line of set s
abbrev line_test : (ℕ → ℕ → Bool) → ℕ → ℕ → Line → Bool
line_test place s = λ _ x. cond x.valid (place s x.address) (empty_way x)

module _ (k : Store) (xs : List k.OneSet) (shape : Shaped k xs) (place : ℕ → ℕ → Bool)
    (lines : (s : ℕ) → s < k.sets → all_indexed (line_test place s) 0 (k.lines (set_in k xs s)) ≡ true)
    (twice : (s : ℕ) → s < k.sets → none_twice (k.lines (set_in k xs s)) ≡ true) where
  line-test : (s w : ℕ) → s < k.sets → w < k.ways → line_test place s w (line_in k xs s w) ≡ true
  line-test s w hs hw = let n = shape.ways s hs in all-tells (line_test place s) empty_line (k.lines (set_in k xs s)) (lines s hs) w (omega arith)

  table-placed : (s w : ℕ) → (line_in k xs s w).valid ≡ true → (s < k.sets) × (w < k.ways) × (place s (line_in k xs s w).address ≡ true)
  table-placed s w i =
      slot_cases k xs shape s w (λ hs hw. (hs, hw, (rw i at (line-test s w hs hw)))) (λ e. false-true (sym (ap (λ (x : Line). x.valid) e) ∙ i))

  table_empty : (s w : ℕ) → (line_in k xs s w).valid ≡ false → line_in k xs s w ≡ empty_line
  table_empty s w n = slot_cases k xs shape s w (λ hs hw. empty-tells (line_in k xs s w) n (rw n at (line-test s w hs hw))) (λ e. e)

  table-sound : (P : ℕ → ℕ → ℕ → Type 0) → ((s w a : ℕ) → w < k.ways → place s a ≡ true → P s w a) →
      ((s w s' w' a : ℕ) → P s w a → P s' w' a → s' ≡ s) → (at : ℕ → ℕ → ℕ) (m : List ℕ) → Sound P (level_of k xs at m)
  table-sound P f own at m =
      let pl : (s w : ℕ) → (line_in k xs s w).valid ≡ true → P s w (line_in k xs s w).address =
      λ s w i. let p = table-placed s w i in f s w (line_in k xs s w).address p.1 p.2 in
      record {
        once = λ s w s' w' i i' e.
            let c : s' ≡ s = own s w s' w' (line_in k xs s w).address (pl s w i) (rw e (pl s' w' i')) in
            (c, once-tells (k.lines (set_in k xs s)) (twice s (table-placed s w i).0) w w' i (rw c at i') (rw c at e));
        place = pl;
      }

module _ (k : Store) (xs : List k.OneSet) (h : Table k xs) (place : ℕ → ℕ → Bool)
    (placed : (s w : ℕ) → (line_in k xs s w).valid ≡ true → place s (line_in k xs s w).address ≡ true) where
  table-lines : (s : ℕ) → all_indexed (line_test place s) 0 (k.lines (set_in k xs s)) ≡ true
  table-lines s =
      all-makes (line_test place s) empty_line (k.lines (set_in k xs s))
      (λ w _. bool (line_in k xs s w).valid (λ i. rw i (placed s w i)) (λ i. let e = h.empty s w i in rw e empty-makes))

-- ---- the lengths, of each cache's table
l1d-shaped : (r : Record) → Shape r → Shaped l1d_store r.l1d
l1d-shaped r h = record { sets = h.l1d_sets; ways = h.l1d_ways }

l2-shaped : (r : Record) → Shape r → Shaped l2_store r.l2
l2-shaped r h = record { sets = h.l2_sets; ways = h.l2_ways }

-- ---- lengths and mode
sizes-tell : (z : State) → lent_l1d z.l1d ≡ true → lent_l2 z.rec z.l2 ≡ true → lent_external z.rec z.ext ≡ true →
    legal_sizes z.rec ≡ true →
    Sizes z.rec.l2len z.rec.extlen z.rec.mode z.l1d z.l2 z.ext
unfolding lent_l1d lent_l2 lent_external legal_sizes legal_l2 legal_external
sizes-tell z a b c h =
    let r = z.rec in
    let p = tells (legal_l2 r.l2len) (legal_external r.extlen ∷ is_mode r.mode ∷ leb (cache_size r.mode) r.l2len ∷ []) h in
    let p₂ = tells (eqb (r.l2len % 32768) 0) (leb 32768 r.l2len ∷ leb r.l2len 262144 ∷ []) (p 0) in
    let pₑ = tells (eqb (r.extlen % 128) 0) (leb 128 r.extlen ∷ leb r.extlen 33554432 ∷ []) (p 1) in
    record {
      l1d_length = eqb-true (length z.l1d) 16384 a;
      l2_length = eqb-true (length z.l2) r.l2len (tells (legal_l2 (length z.l2)) (eqb (length z.l2) r.l2len ∷ []) b 1);
      ext_length = eqb-true (length z.ext) r.extlen (tells (legal_external (length z.ext)) (eqb (length z.ext) r.extlen ∷ []) c 1);
      l2_least = leb-true 32768 r.l2len (p₂ 1);
      l2_most = leb-true r.l2len 262144 (p₂ 2);
      l2_whole = eqb-true (r.l2len % 32768) 0 (p₂ 0);
      ext_least = leb-true 128 r.extlen (pₑ 1);
      ext_most = leb-true r.extlen 33554432 (pₑ 2);
      ext_whole = eqb-true (r.extlen % 128) 0 (pₑ 0);
      legal_mode = p 2;
      cache_most = leb-true (cache_size r.mode) r.l2len (p 3);
    }

module _ (l : ℕ) where
  pub legal_l2-makes : 32768 ≤ l → l ≤ 262144 → l % 32768 ≡ 0 → legal_l2 l ≡ true
  unfolding legal_l2
  legal_l2-makes a b c =
      makes (eqb (l % 32768) 0) (leb 32768 l ∷ leb l 262144 ∷ []) (eq-eqb (l % 32768) 0 c and le-leb 32768 l a and le-leb l 262144 b)

  pub legal_l2-tells : legal_l2 l ≡ true → (32768 ≤ l) × (l ≤ 262144) × (l % 32768 ≡ 0)
  unfolding legal_l2
  legal_l2-tells h =
      let p = tells (eqb (l % 32768) 0) (leb 32768 l ∷ leb l 262144 ∷ []) h in
      (leb-true 32768 l (p 1), leb-true l 262144 (p 2), eqb-true (l % 32768) 0 (p 0))

  pub legal_external-makes : 128 ≤ l → l ≤ 33554432 → l % 128 ≡ 0 → legal_external l ≡ true
  unfolding legal_external
  legal_external-makes a b c =
      makes (eqb (l % 128) 0) (leb 128 l ∷ leb l 33554432 ∷ []) (eq-eqb (l % 128) 0 c and le-leb 128 l a and le-leb l 33554432 b)

  pub legal_external-tells : legal_external l ≡ true → (128 ≤ l) × (l ≤ 33554432) × (l % 128 ≡ 0)
  unfolding legal_external
  legal_external-tells h =
      let p = tells (eqb (l % 128) 0) (leb 128 l ∷ leb l 33554432 ∷ []) h in
      (leb-true 128 l (p 1), leb-true l 33554432 (p 2), eqb-true (l % 128) 0 (p 0))

module _ (z : State) (h : Sizes z.rec.l2len z.rec.extlen z.rec.mode z.l1d z.l2 z.ext) where
  sizes-lent : (lent_l1d z.l1d && (lent_l2 z.rec z.l2 && lent_external z.rec z.ext)) ≡ true
  unfolding lent_l1d lent_l2 lent_external
  sizes-lent =
      let l = z.rec.l2len in let e = z.rec.extlen in
      let n = h.l2_length in let x = h.ext_length in
      let a = h.l2_least in let b = h.l2_most in let c = h.l2_whole in let d = h.ext_least in let f = h.ext_most in let g = h.ext_whole in
      makes (eqb (length z.l1d) 16384)
      ((legal_l2 (length z.l2) && eqb (length z.l2) l) ∷ (legal_external (length z.ext) && eqb (length z.ext) e) ∷ [])
      (eq-eqb (length z.l1d) 16384 h.l1d_length
      and makes (legal_l2 (length z.l2)) (eqb (length z.l2) l ∷ [])
      (legal_l2-makes (length z.l2) (omega arith) (omega arith) (rw n c) and eq-eqb (length z.l2) l n)
      and makes (legal_external (length z.ext)) (eqb (length z.ext) e ∷ [])
      (legal_external-makes (length z.ext) (omega arith) (omega arith) (rw x g) and eq-eqb (length z.ext) e x))

  sizes-legal : legal_sizes z.rec ≡ true
  unfolding legal_sizes
  sizes-legal =
      let r = z.rec in
      makes (legal_l2 r.l2len) (legal_external r.extlen ∷ is_mode r.mode ∷ leb (cache_size r.mode) r.l2len ∷ [])
      (legal_l2-makes r.l2len h.l2_least h.l2_most h.l2_whole
      and legal_external-makes r.extlen h.ext_least h.ext_most h.ext_whole
      and h.legal_mode
      and le-leb (cache_size r.mode) r.l2len h.cache_most)

-- ---- from the test to the invariant
module _ (z : State) (l1d_shape : Shaped l1d_store z.rec.l1d) (l2_shape : Shaped l2_store z.rec.l2) (sizes : Sizes z.rec.l2len z.rec.extlen z.rec.mode z.l1d z.l2 z.ext)
    (l1d : all_indexed (l1d_set_ok z.rec) 0 z.rec.l1d ≡ true) (l2 : all_indexed (l2_set_ok z.rec) 0 z.rec.l2 ≡ true)
    (counts : counts_ok z.rec ≡ true) where
  l1d-set-tests : (s : ℕ) → s < 128 → (i : ℕ) →
      get_or
      (all_indexed (line_test (l1d_place z.rec) s) 0 (l1d_set_at z.rec s).lines ∷ none_twice (l1d_set_at z.rec s).lines ∷ permuted2
      (l1d_set_at z.rec s).order ∷ [])
      i true ≡ true
  unfolding l1d_set_ok l1d_line_ok
  l1d-set-tests s hs =
      let v = l1d_set_at z.rec s in let n = l1d_shape.sets in
      tells (all_indexed (line_test (l1d_place z.rec) s) 0 v.lines) (none_twice v.lines ∷ permuted2 v.order ∷ [])
      (all-tells (l1d_set_ok z.rec) no_l1d_set z.rec.l1d l1d s (omega arith))

  l2-set-tests : (t : ℕ) → t < 512 → (i : ℕ) →
      get_or (all_indexed (line_test (l2_place z.rec) t) 0 (l2_set_at z.rec t).lines ∷ none_twice (l2_set_at z.rec t).lines ∷
      permuted4 (l2_set_at z.rec t).order ∷ fresh_unless_used z.rec t (l2_set_at z.rec t).order ∷ []) i true ≡ true
  unfolding l2_set_ok l2_line_ok
  l2-set-tests t ht =
      let v = l2_set_at z.rec t in let n = l2_shape.sets in
      tells (all_indexed (line_test (l2_place z.rec) t) 0 v.lines)
      (none_twice v.lines ∷ permuted4 v.order ∷ fresh_unless_used z.rec t v.order ∷ [])
      (all-tells (l2_set_ok z.rec) no_l2_set z.rec.l2 l2 t (omega arith))

  l1d-placed : (s w : ℕ) → Valid (l1d_level z) s w → (s < 128) × (w < 2) × (l1d_place z.rec s (l1d_line_at z.rec s w).address ≡ true)
  l1d-placed = table-placed l1d_store z.rec.l1d l1d_shape (l1d_place z.rec) (λ s hs. l1d-set-tests s hs 0) (λ s hs. l1d-set-tests s hs 1)

  l1d-sound : Sound (L1dPlaced (layout_of z.rec)) (l1d_level z)
  l1d-sound =
      table-sound l1d_store z.rec.l1d l1d_shape (l1d_place z.rec) (λ s hs. l1d-set-tests s hs 0) (λ s hs. l1d-set-tests s hs 1)
      (L1dPlaced (layout_of z.rec)) (λ s w a hw h. l1d-place-tells z.rec s w a hw h) (λ s w s' w' a p p'. p'.own_set ∙ sym p.own_set) l1d_data
      z.l1d

  l2-sound : Sound (L2Placed (layout_of z.rec)) (l2_level z)
  l2-sound =
      table-sound l2_store z.rec.l2 l2_shape (l2_place z.rec) (λ t ht. l2-set-tests t ht 0) (λ t ht. l2-set-tests t ht 1)
      (L2Placed (layout_of z.rec)) (λ t v a hv h. l2-place-tells z.rec t v a hv h) (λ t v t' v' a p p'. p'.own_set ∙ sym p.own_set)
      (l2_data z.rec) z.l2

  l2-empty : (t v : ℕ) → (l2_line_at z.rec t v).valid ≡ false → l2_line_at z.rec t v ≡ empty_line
  l2-empty = table_empty l2_store z.rec.l2 l2_shape (l2_place z.rec) (λ t ht. l2-set-tests t ht 0) (λ t ht. l2-set-tests t ht 1)

  idle : (t : ℕ) → t < 512 → l2_sets_of z.rec ≤ t → l2_set_at z.rec t ≡ fresh_l2_set
  idle t ht c =
      let n = l2_shape.ways t ht in
      let o = fresh-order-tells z.rec t (l2_set_at z.rec t).order c (l2-set-tests t ht 3) in
      let none : (v : ℕ) → (l2_line_at z.rec t v).valid ≡ false =
      λ v. bool (l2_line_at z.rec t v).valid (λ i. let p = l2-sound.place t v i in let li = p.set_used in absurd (omega arith)) (λ i. i) in
      let ls : (l2_set_at z.rec t).lines ≡ fresh_l2_set.lines =
      ext_get_or empty_line (l2_set_at z.rec t).lines fresh_l2_set.lines n (λ v kv. l2-empty t v (none v) ∙ sym (l2-fresh v)) in
      λ i. record { lines = ls i; order = o i }

  counts-tell : (z.rec.dirty_l1d ≡ dirty_in_l1d z.rec) × (z.rec.dirty_l2 ≡ dirty_in_l2 z.rec)
  unfolding counts_ok
  counts-tell =
      let p = tells (eqb z.rec.dirty_l1d (dirty_in_l1d z.rec)) (eqb z.rec.dirty_l2 (dirty_in_l2 z.rec) ∷ []) counts in
      (eqb-true z.rec.dirty_l1d (dirty_in_l1d z.rec) (p 0), eqb-true z.rec.dirty_l2 (dirty_in_l2 z.rec) (p 1))

  tests-well : Well z
  tests-well =
      well z
      (record {
        sizes = sizes;
        l1d = record {
          shaped = l1d_shape;
          ordered = λ s hs. order2-tells (l1d_set_at z.rec s).order (l1d-set-tests s hs 2);
          empty = table_empty l1d_store z.rec.l1d l1d_shape (l1d_place z.rec) (λ s hs. l1d-set-tests s hs 0) (λ s hs. l1d-set-tests s hs 1);
        };
        l2 = record { shaped = l2_shape; ordered = λ t ht. order4-tells (l2_set_at z.rec t).order (l2-set-tests t ht 2); empty = l2-empty };
        idle = idle;
        l1d_count = counts-tell.0;
        l2_count = counts-tell.1;
      })
      l1d-sound l2-sound
      (λ s w i b n. let p = l1d-placed s w i in let a = (l1d_line_at z.rec s w).address in
      inside-tells z a n (inside-test z.rec s w a p.1 p.2 b))

-- ---- checks 1 and 2 find nothing: the state is well formed
pub due-well : (z : State) → Shape z.rec → lent_due z ≡ 0 → Well z
unfolding lent_due well_formed
due-well z shape h =
    let p = lowest_due-none (lent_l1d z.l1d && (lent_l2 z.rec z.l2 && lent_external z.rec z.ext)) 0 (unless (well_formed z.rec) 2) h in
    let a = tells (lent_l1d z.l1d) (lent_l2 z.rec z.l2 ∷ lent_external z.rec z.ext ∷ []) p.0 in
    let b = tells (legal_sizes z.rec) (all_indexed (l1d_set_ok z.rec) 0 z.rec.l1d ∷ all_indexed (l2_set_ok z.rec) 0 z.rec.l2 ∷ counts_ok z.rec ∷ [])
    (unless-none (well_formed z.rec) 1 p.1) in
    tests-well z (l1d-shaped z.rec shape) (l2-shaped z.rec shape) (sizes-tell z (a 0) (a 1) (a 2) (b 0)) (b 1) (b 2) (b 3)

-- ---- and the other way: a well-formed state passes checks 1 and 2
module _ (z : State) (h : Well z) where
  l1d-passes : all_indexed (l1d_set_ok z.rec) 0 z.rec.l1d ≡ true
  unfolding l1d_set_ok l1d_line_ok
  l1d-passes =
      all-makes (l1d_set_ok z.rec) no_l1d_set z.rec.l1d
      (λ s k. let n = h.tidy.l1d.shaped.sets in let v = l1d_set_at z.rec s in
      makes (all_indexed (line_test (l1d_place z.rec) s) 0 v.lines) (none_twice v.lines ∷ permuted2 v.order ∷ [])
      (table-lines l1d_store z.rec.l1d h.tidy.l1d (l1d_place z.rec)
      (λ s' w i. let a = (l1d_line_at z.rec s' w).address in
      l1d-place-makes z.rec s' w a (h.inv.l1d_sound.place s' w i) (λ b. inside-makes z h a (λ n. h.inv.inclusion s' w i b n))) s
      and once-makes v.lines (λ w w' i i' e. (h.inv.l1d_sound.once s w s w' i i' e).1)
      and order2-makes v.order (h.tidy.l1d.ordered s (omega arith))))

  l2-passes : all_indexed (l2_set_ok z.rec) 0 z.rec.l2 ≡ true
  unfolding l2_set_ok l2_line_ok
  l2-passes =
      all-makes (l2_set_ok z.rec) no_l2_set z.rec.l2
      (λ t k. let n = h.tidy.l2.shaped.sets in let v = l2_set_at z.rec t in
      makes (all_indexed (line_test (l2_place z.rec) t) 0 v.lines)
      (none_twice v.lines ∷ permuted4 v.order ∷ fresh_unless_used z.rec t v.order ∷ [])
      (table-lines l2_store z.rec.l2 h.tidy.l2 (l2_place z.rec)
      (λ t' w i. l2-place-makes z.rec t' w (l2_line_at z.rec t' w).address (h.inv.l2_sound.place t' w i)) t
      and once-makes v.lines (λ w w' i i' e. (h.inv.l2_sound.once t w t w' i i' e).1)
      and order4-makes v.order (h.tidy.l2.ordered t (omega arith))
      and fresh-order-makes z.rec t v.order (λ c. ap (λ (y : L2Set). y.order) (h.tidy.idle t (omega arith) c))))

  counts-pass : counts_ok z.rec ≡ true
  unfolding counts_ok
  counts-pass =
      makes (eqb z.rec.dirty_l1d (dirty_in_l1d z.rec)) (eqb z.rec.dirty_l2 (dirty_in_l2 z.rec) ∷ [])
      (eq-eqb z.rec.dirty_l1d (dirty_in_l1d z.rec) h.tidy.l1d_count and eq-eqb z.rec.dirty_l2 (dirty_in_l2 z.rec) h.tidy.l2_count)

  pub well-formed : well_formed z.rec ≡ true
  unfolding well_formed
  well-formed =
      makes (legal_sizes z.rec) (all_indexed (l1d_set_ok z.rec) 0 z.rec.l1d ∷ all_indexed (l2_set_ok z.rec) 0 z.rec.l2 ∷ counts_ok z.rec ∷ [])
      (sizes-legal z h.tidy.sizes and l1d-passes and l2-passes and counts-pass)

  pub well-due : lent_due z ≡ 0
  unfolding lent_due
  well-due = rw (sizes-lent z h.tidy.sizes, well-formed) refl

  pub well-shape : Shape z.rec
  well-shape =
      let a = h.tidy.l1d.shaped in let b = h.tidy.l2.shaped in
      record { l1d_sets = a.sets; l1d_ways = a.ways; l2_sets = b.sets; l2_ways = b.ways }

-- ---- so checks 1 and 2 never come due along a list of calls
pub call_step : (c : Command) (z : State) → Well z → call c z ≡ step c z
unfolding call
call_step c z h = rw (well-due z h) refl

pub call-well : (c : Command) (z : State) → Well z → Well (call c z).next
call-well c z h = let e = call_step c z h in rw e (step-well c z h)

-- a call keeps the lengths of the record's arrays, whatever the record
pub call_shape : (c : Command) (z : State) → Shape z.rec → Shape (call c z).next.rec
unfolding call
call_shape c z s =
    cond-elim (λ (r : Reply). Shape r.next.rec) (eqb (lent_due z) 0) (step c z) (refused (lent_due z) z)
    (λ t. well-shape (step c z).next (step-well c z (due-well z s (eqb-true (lent_due z) 0 t)))) (λ _. s)
