-- The record by value and the words that stand for it: an array that is filled with what the words give, and words
-- that are stored set by set.
use Rattle.std.specs.Prelude.{ℕ, suc, ◌+◌, ◌*◌, ◌/◌, ◌%◌, ◌≤◌, ◌<◌, Bool, true, false, cond, List, [], ◌∷◌, ◌++◌, ◌≡◌, length, get_or, set, take, drop, replicate, eqb}
use Rattle.std.proofs.Common.{append-nil, sym, ap, ◌∙◌, arith, add-one, length-set, drop_of_length-le, set-set, drop-cons, take-suc, take_all, length-take-le, lt-ltb}
use Rattle.std.proofs.Math.Path.{refl}
use Rattle.std.proofs.lemmas.List.{set_at, length-replicate, replicate_more}
use Rattle.std.proofs.lemmas.Grind.{common_steps}
use Rattle.std.proofs.Math.Seq.{append_snoc}
use Rattle.model.specs.Lines.{l1d_put, l2_put, l1d_get, l2_get, empty_line}
use Rattle.model.specs.Records.{l1d_set_at, l2_set_at, l1d_line_at, l2_line_at, with_l1d_set, with_l2_set, with_counts, fresh_l1d_set, fresh_l2_set}
use Rattle.model.specs.declared.Line.{Line}
use Rattle.model.specs.declared.Order2.{Order2}
use Rattle.model.specs.declared.Order4.{Order4}
use Rattle.model.specs.declared.L1dSet.{L1dSet}
use Rattle.model.specs.declared.L2Set.{L2Set}
use Rattle.model.specs.declared.Record.{Record}
use Rattle.lists.specs.Few.{two, four}
use Rattle.tags.specs.Levels.{l1d_stored, l2_stored}
use Rattle.tags.specs.Words.{record_words, word, order2_in, order4_in, l1d_in, l2_in, mode_in, record_in, l1d-at, l2-at, same-sets, shaped, count-l1d, count-l2}
use Rattle.lists.specs.Listed.{length-listed}

-- ---- out of the words: a set as the code reads it
pub l1d_read : (ws : List ℕ) (i : ℕ) (x y : Line) (o : Order2) → i < 128 → x ≡ l1d_line_at (record_in ws) i 0 →
    y ≡ l1d_line_at (record_in ws) i 1 →
    o ≡ order2_in (word ws (i * 5 + 9)) → record { lines = x ∷ y ∷ []; order = o } ≡ l1d_set_at (record_in ws) i
unfolding l1d_in
l1d_read ws i x y o h ex ey eo = rw (ex, ey, eo, l1d-at ws i h) refl

pub l2_read : (ws : List ℕ) (j : ℕ) (w x y z : Line) (o : Order4) → j < 512 → w ≡ l2_line_at (record_in ws) j 0 →
    x ≡ l2_line_at (record_in ws) j 1 →
    y ≡ l2_line_at (record_in ws) j 2 → z ≡ l2_line_at (record_in ws) j 3 → o ≡ order4_in (word ws (j * 9 + 653)) →
    record { lines = w ∷ x ∷ y ∷ z ∷ []; order = o } ≡ l2_set_at (record_in ws) j
unfolding l2_in
l2_read ws j w x y z o h ew ex ey ez eo = rw (ew, ex, ey, ez, eo, l2-at ws j h) refl

-- ---- into the words: the record with another head, other sets of a cache
abbrev pub bit_of : Bool → ℕ
bit_of b = cond b 1 0

unfoldable pub with_sizes : Record → ℕ → ℕ → Record
with_sizes r l e = record { l2len = l; extlen = e; mode = r.mode; mar128 = r.mar128; mar129 = r.mar129; frozen = r.frozen; dirty_l1d = r.dirty_l1d; dirty_l2 = r.dirty_l2; l1d = r.l1d; l2 = r.l2 }

unfoldable pub with_modes : Record → ℕ → Bool → Bool → Bool → Record
with_modes r m a b f = record { l2len = r.l2len; extlen = r.extlen; mode = m; mar128 = a; mar129 = b; frozen = f; dirty_l1d = r.dirty_l1d; dirty_l2 = r.dirty_l2; l1d = r.l1d; l2 = r.l2 }

unfoldable pub with_l1d : Record → List L1dSet → Record
with_l1d r vs = record { l2len = r.l2len; extlen = r.extlen; mode = r.mode; mar128 = r.mar128; mar129 = r.mar129; frozen = r.frozen; dirty_l1d = r.dirty_l1d; dirty_l2 = r.dirty_l2; l1d = vs; l2 = r.l2 }

unfoldable pub with_l2 : Record → List L2Set → Record
with_l2 r vs = record { l2len = r.l2len; extlen = r.extlen; mode = r.mode; mar128 = r.mar128; mar129 = r.mar129; frozen = r.frozen; dirty_l1d = r.dirty_l1d; dirty_l2 = r.dirty_l2; l1d = r.l1d; l2 = vs }

-- and with another order of a set
unfoldable pub l1d_ordered : Record → ℕ → Order2 → Record
l1d_ordered r i o = with_l1d_set r i (record { lines = (l1d_set_at r i).lines; order = o })

unfoldable pub l2_ordered : Record → ℕ → Order4 → Record
l2_ordered r j o = with_l2_set r j (record { lines = (l2_set_at r j).lines; order = o })

-- ---- the head
bit_is : (a : Bool) → eqb (bit_of a % 2) 1 ≡ a
bit_is true = refl
bit_is false = refl

bit-less : (a : Bool) → bit_of a < 2
bit-less true = omega arith
bit-less false = omega arith

-- the third word from its four bytes, and each of them out of it again
abbrev head_of : ℕ → Bool → Bool → Bool → ℕ
head_of m a b f = m + bit_of a * 256 + bit_of b * 65536 + bit_of f * 16777216

head-is : (m : ℕ) (a b f : Bool) → m < 256 → (
    (mode_in (head_of m a b f) ≡ m) × ((eqb (head_of m a b f / 256 % 2) 1 ≡ a) × (
    (eqb (head_of m a b f / 65536 % 2) 1 ≡ b) × (eqb (head_of m a b f / 16777216 % 2) 1 ≡ f))))
unfolding mode_in
head-is m a b f h =
    let x = bit-less a in let y = bit-less b in let z = bit-less f in
    let p : head_of m a b f % 256 ≡ m = omega arith in
    let q : head_of m a b f / 256 ≡ bit_of a + bit_of b * 256 + bit_of f * 65536 = omega arith in
    let r : head_of m a b f / 65536 ≡ bit_of b + bit_of f * 256 = omega arith in
    let s : head_of m a b f / 16777216 ≡ bit_of f = omega arith in
    let q₁ : (bit_of a + bit_of b * 256 + bit_of f * 65536) % 256 ≡ bit_of a = omega arith in
    let r₁ : (bit_of b + bit_of f * 256) % 256 ≡ bit_of b = omega arith in
    let s₁ : bit_of f % 256 ≡ bit_of f = omega arith in
    let q₂ : (bit_of a + bit_of b * 256 + bit_of f * 65536) % 2 ≡ bit_of a % 2 = omega arith in
    let r₂ : (bit_of b + bit_of f * 256) % 2 ≡ bit_of b % 2 = omega arith in (
      rw (q, r, s, q₁, r₁, s₁, lt-ltb (bit_of a) 2 x, lt-ltb (bit_of b) 2 y, lt-ltb (bit_of f) 2 z) p,
      (rw (q, q₂) (bit_is a), (rw (r, r₂) (bit_is b), rw s (bit_is f))),
    )

pub sizes_put : (ws : List ℕ) (l e : ℕ) → length ws ≡ record_words →
    record_in (set (set ws 0 l) 1 e) ≡ with_sizes (record_in ws) l e
unfolding with_sizes record_in
sizes_put ws l e n =
    let z = same-sets ws (set (set ws 0 l) 1 e) (λ q k. grind (arith, common_steps)) in
    grind (arith, common_steps, z.0, z.1)

pub modes_put : (ws : List ℕ) (m : ℕ) (a b f : Bool) (x y k : ℕ) → length ws ≡ record_words → m < 256 → x ≡ bit_of a →
    y ≡ bit_of b → k ≡ bit_of f →
    record_in (set ws 2 (m + x * 256 + y * 65536 + k * 16777216)) ≡ with_modes (record_in ws) m a b f
unfolding with_modes record_in
modes_put ws m a b f x y k n h ex ey ek =
    let z = same-sets ws (set ws 2 (head_of m a b f)) (λ q k. grind (arith, common_steps)) in
    let e = head-is m a b f h in
    rw (ex, ey, ek) (grind (arith, common_steps, z.0, z.1, e.0, e.1.0, e.1.1.0, e.1.1.1))

pub counts_put : (ws : List ℕ) (m n : ℕ) → length ws ≡ record_words →
    record_in (set (set ws 3 m) 4 n) ≡ with_counts (record_in ws) m n
counts_put ws m n l =
    let e = count-l1d ws m l in
    count-l2 (set ws 3 m) n (simp length-set l) ∙ (λ t. with_counts (e t) (e t).dirty_l1d n)

-- ---- a set, line by line and then its order. Of a set that was put, another change makes one set that is put.
pub l1d_long : (ws : List ℕ) → length (record_in ws).l1d ≡ 128
unfolding record_in
l1d_long ws = length-listed (l1d_in ws) 0 128

pub l2_long : (ws : List ℕ) → length (record_in ws).l2 ≡ 512
unfolding record_in
l2_long ws = length-listed (l2_in ws) 0 512

set-two {ℓ} : {A : Type ℓ} (x y : A) (l : List A) → length l ≡ 2 → set (set l 0 x) 1 y ≡ x ∷ y ∷ []
set-two x y [] e = absurd (omega arith)
set-two x y (a ∷ []) e = absurd (omega arith)
set-two x y (a ∷ b ∷ []) e = refl
set-two x y (a ∷ b ∷ c ∷ l) e = absurd (omega arith)

set-four {ℓ} : {A : Type ℓ} (w x y z : A) (l : List A) → length l ≡ 4 → set (set (set (set l 0 w) 1 x) 2 y) 3 z ≡ w ∷ x ∷ y ∷ z ∷ []
set-four w x y z [] e = absurd (omega arith)
set-four w x y z (a ∷ []) e = absurd (omega arith)
set-four w x y z (a ∷ b ∷ []) e = absurd (omega arith)
set-four w x y z (a ∷ b ∷ c ∷ []) e = absurd (omega arith)
set-four w x y z (a ∷ b ∷ c ∷ d ∷ []) e = refl
set-four w x y z (a ∷ b ∷ c ∷ d ∷ g ∷ l) e = absurd (omega arith)

pub l1d_set_put : (ws : List ℕ) (i : ℕ) (v : L1dSet) (r1 r2 r3 : Record) → i < 128 → length v.lines ≡ 2 →
    r1 ≡ l1d_stored (record_in ws) i 0 (l1d_get v 0) → r2 ≡ l1d_stored r1 i 1 (l1d_get v 1) →
    r3 ≡ l1d_ordered r2 i v.order →
    r3 ≡ with_l1d_set (record_in ws) i v
unfolding l1d_ordered l1d_put
l1d_set_put ws i v r1 r2 r3 h n e1 e2 e3 =
    let k = l1d_long ws in let s = set-two (l1d_get v 0) (l1d_get v 1) _ ((shaped ws).l1d_ways i h)
    ∙ sym (two empty_line v.lines n) in
    rw (e3, e2, e1) (grind (arith, common_steps, set-set))

-- of a set that was put, another line makes one set that is put
again : (r q : Record) (j w : ℕ) (u : L2Set) (x : Line) → j < length r.l2 → q ≡ with_l2_set r j u →
    l2_stored q j w x ≡ with_l2_set r j (l2_put u w x)
again r q j w u x h e = rw e (grind (arith, common_steps, set-set))

reordered : (r q : Record) (j : ℕ) (u : L2Set) (o : Order4) → j < length r.l2 → q ≡ with_l2_set r j u →
    l2_ordered q j o ≡ with_l2_set r j (record { lines = u.lines; order = o })
unfolding l2_ordered
reordered r q j u o h e = rw e (grind (arith, common_steps, set-set))

pub l2_set_put : (ws : List ℕ) (j : ℕ) (v : L2Set) (r1 r2 r3 r4 r5 : Record) → j < 512 → length v.lines ≡ 4 →
    r1 ≡ l2_stored (record_in ws) j 0 (l2_get v 0) → r2 ≡ l2_stored r1 j 1 (l2_get v 1) →
    r3 ≡ l2_stored r2 j 2 (l2_get v 2) →
    r4 ≡ l2_stored r3 j 3 (l2_get v 3) → r5 ≡ l2_ordered r4 j v.order → r5 ≡ with_l2_set (record_in ws) j v
unfolding l2_put
l2_set_put ws j v r1 r2 r3 r4 r5 h n e1 e2 e3 e4 e5 =
    let m = l2_long ws in let k : j < length (record_in ws).l2 = omega arith in
    let p = e4 ∙ again _ r3 j 3 _ _ k (e3 ∙ again _ r2 j 2 _ _ k (e2 ∙ again _ r1 j 1 _ _ k e1)) in
    let s = set-four (l2_get v 0) (l2_get v 1) (l2_get v 2) (l2_get v 3) _ ((shaped ws).l2_ways j h)
    ∙ sym (four empty_line v.lines n) in
    e5 ∙ reordered _ r4 j _ _ k p ∙ (λ t. with_l2_set (record_in ws) j (record { lines = s t; order = v.order }))

-- ---- all sets of a cache: after i of them, the first i are the new ones
abbrev pub front {ℓ} : {A : Type ℓ} → List A → List A → ℕ → List A
front xs ys i = take i xs ++ drop i ys

pub front_next {ℓ} : {A : Type ℓ} (d : A) (xs ys : List A) (i : ℕ) → i < length xs → i < length ys →
    set (front xs ys i) i (get_or xs i d) ≡ front xs ys (i + 1)
front_next d xs ys i h g =
    ap (λ r. set (take i xs ++ r) i (get_or xs i d)) (drop-cons ys i d g)
    ∙ set_at (take i xs) (get_or ys i d) (drop (suc i) ys) (get_or xs i d) i (length-take-le i xs (omega arith))
    ∙ sym (append_snoc (take i xs) (get_or xs i d) (drop (suc i) ys))
    ∙ rw (add-one, take-suc xs i d h) refl

pub front_all {ℓ} : {A : Type ℓ} (xs ys : List A) (i : ℕ) → length xs ≤ i → length ys ≤ i → front xs ys i ≡ xs
front_all xs ys i h g = rw (take_all i xs h, drop_of_length-le ys g, append-nil) refl

-- the same where all new ones are alike
pub alike_next : {A : Type 0} (x : A) (ys : List A) (i : ℕ) → i < length ys →
    set (replicate i x ++ drop i ys) i x ≡ replicate (i + 1) x ++ drop (i + 1) ys
alike_next x ys i h =
    let e : suc i ≡ i + 1 = omega arith in
    ap (λ r. set (replicate i x ++ r) i x) (drop-cons ys i x h)
    ∙ set_at (replicate i x) (get_or ys i x) (drop (suc i) ys) x i (length-replicate i x)
    ∙ sym (append_snoc (replicate i x) x (drop (suc i) ys))
    ∙ (λ t. replicate_more i x t ++ drop (e t) ys)

pub alike_all : {A : Type 0} (x : A) (ys : List A) (i n : ℕ) → i ≡ n → length ys ≤ i →
    replicate i x ++ drop i ys ≡ replicate n x
alike_all x ys i n e h = rw (drop_of_length-le ys h, append-nil) (ap (λ k. replicate k x) e)

pub ruleset sets = (front_next, alike_next, front_all, l1d_long, l2_long, common_steps)

-- ---- everything fresh but L and E
unfoldable pub renewed : Record → ℕ → Bool → Bool → Bool → Record
renewed r m a b f =
    record {
      l2len = r.l2len;
      extlen = r.extlen;
      mode = m;
      mar128 = a;
      mar129 = b;
      frozen = f;
      dirty_l1d = 0;
      dirty_l2 = 0;
      l1d = replicate 128 fresh_l1d_set;
      l2 = replicate 512 fresh_l2_set;
    }
