-- Values of several bytes: a value of 2 n bytes is made of two values of n bytes, loaded or stored one behind the
-- other. Each law is stated once over the two widths; the code uses it at 1, 2 and 4.
use Rattle.std.specs.Prelude.{ℕ, zero, suc, ◌+◌, ◌-◌, ◌*◌, ◌^◌, ◌/◌, ◌%◌, ◌≤◌, ◌<◌, Bool, true, false, not, ◌≡◌, refl, List, [], ◌∷◌, ◌++◌, ◌≢◌, length, take, drop, set, get_or, leb, eqb}
use Rattle.std.proofs.Common.{sym, ap, ◌∙◌, append_assoc, arith, mul_assoc, length-append, add-one, drop-cons, take-add, drop-drop, leb-true, leb-false, eqb-true, ne_eqb}
use Rattle.std.proofs.Math.Nat.{div-div-eq-div-mul, pow-succ'}
use Rattle.std.proofs.lemmas.List.Edits.{sets, sets-eq}
use Rattle.std.proofs.lemmas.Bool.{not-false, eqb-false}
use Rattle.model.specs.Bytes.{part, stored, splice, little, little_bytes}
use Rattle.model.specs.Refusals.{size_ok}
use Rattle.model.specs.Laws.{bool, part-inside, stored-none, stored-inside, stored-outside, length_part, length-stored, length-little_bytes}

-- 256 to the n-th
abbrev pub power : ℕ → ℕ
power zero = 1
power (suc n) = 256 * power n

power-is : (n : ℕ) → power n ≡ 256 ^ n
power-is zero = refl
power-is (suc n) = ap (λ (q : ℕ). 256 * q) (power-is n) ∙ sym (pow-succ' 256 n)

-- ---- loading
little-append : (xs ys : List ℕ) → little (xs ++ ys) ≡ little xs + power (length xs) * little ys
unfolding little
little-append [] ys = omega arith
little-append (x ∷ xs) ys =
    let r = little-append xs ys in let q = mul_assoc 256 (power (length xs)) (little ys) in omega arith

part-append : (m : List ℕ) (a j k : ℕ) → a + (j + k) ≤ length m → part m a (j + k) ≡ part m a j ++ part m (a + j) k
part-append m a j k h =
    let e₁ : a + j ≤ length m = omega arith in let e₂ : a + j + k ≤ length m = omega arith in
    rw (part-inside m a (j + k) h, part-inside m a j e₁, part-inside m (a + j) k e₂, take-add, drop-drop) refl

pub load_one : (m : List ℕ) (a : ℕ) → a + 1 ≤ length m → little (part m a 1) ≡ get_or m a 0
unfolding little
load_one m a h =
    let g : a < length m = omega arith in
    rw (part-inside m a 1 h, drop-cons m a 0 g) (omega arith)

pub load-both : (m : List ℕ) (a j k : ℕ) → a + (j + k) ≤ length m →
    little (part m a (j + k)) ≡ little (part m a j) + power j * little (part m (a + j) k)
load-both m a j k h =
    let e₁ : a + j ≤ length m = omega arith in
    let n = length_part m a j e₁ in
    ap little (part-append m a j k h) ∙ rw (little-append (part m a j) (part m (a + j) k), n) refl

-- i bytes from the high one down, and one more
pub load-next : (m : List ℕ) (a n i v : ℕ) → a + n ≤ length m → i < n → v ≡ little (part m (a + (n - i)) i) →
    v * 256 + get_or m (a + (n - 1 - i)) 0 ≡ little (part m (a + (n - (i + 1))) (i + 1))
load-next m a n i v h k e =
    let p = a + (n - (i + 1)) in
    let here : a + (n - 1 - i) ≡ p = omega arith in let next : p + 1 ≡ a + (n - i) = omega arith in
    let both : little (part m p (1 + i)) ≡ little (part m p 1) + power 1 * little (part m (p + 1) i) = load-both m p 1 i (omega arith) in
    let one : little (part m p 1) ≡ get_or m p 0 = load_one m p (omega arith) in
    let rest : little (part m (p + 1) i) ≡ v = ap (λ (q : ℕ). little (part m q i)) next ∙ sym e in
    let more : little (part m p (i + 1)) ≡ little (part m p (1 + i)) = (let c : i + 1 ≡ 1 + i = omega arith in ap (λ (q : ℕ). little (part m p q)) c) in
    let byte : get_or m (a + (n - 1 - i)) 0 ≡ get_or m p 0 = ap (λ (q : ℕ). get_or m q 0) here in
    omega arith

pub load-below : (i v b : ℕ) → v < power i → b < 256 → v * 256 + b < power (i + 1)
load-below i v b h k = rw add-one (omega arith)

-- all n bytes
pub load-small : (n i v : ℕ) → i ≡ n → v < power i → v < 256 ^ n
load-small n i v e h = rw (e, power-is n) at h

-- eight bytes fit
pub load-fits : (i v : ℕ) → i < 8 → v < power i → v * 256 + 255 < 18446744073709551616
load-fits zero v h k = omega arith
load-fits (suc zero) v h k = omega arith
load-fits (suc (suc zero)) v h k = omega arith
load-fits (suc (suc (suc zero))) v h k = omega arith
load-fits (suc (suc (suc (suc zero)))) v h k = omega arith
load-fits (suc (suc (suc (suc (suc zero))))) v h k = omega arith
load-fits (suc (suc (suc (suc (suc (suc zero)))))) v h k = omega arith
load-fits (suc (suc (suc (suc (suc (suc (suc zero))))))) v h k = omega arith
load-fits (suc (suc (suc (suc (suc (suc (suc (suc i)))))))) v h k = absurd (omega arith)

-- ---- storing
pub stored-sets : (m : List ℕ) (a : ℕ) (bs : List ℕ) → a + length bs ≤ length m → stored m a bs ≡ sets m a bs
unfolding splice
stored-sets m a bs h = stored-inside m a bs h ∙ sym (sets-eq bs m a h ∙ append_assoc (take a m) bs (drop (a + length bs) m))

sets-append : (l : List ℕ) (a : ℕ) (xs ys : List ℕ) → sets (sets l a xs) (a + length xs) ys ≡ sets l a (xs ++ ys)
sets-append l a [] ys = let e : a + length {A = ℕ} [] ≡ a = omega arith in rw e refl
sets-append l a (x ∷ xs) ys = let e : a + suc (length xs) ≡ suc a + length xs = omega arith in rw e (sets-append (set l a x) (suc a) xs ys)

-- bytes stored one behind the other
stored-append : (m : List ℕ) (a : ℕ) (xs ys : List ℕ) → a + (length xs + length ys) ≤ length m →
    stored (stored m a xs) (a + length xs) ys ≡ stored m a (xs ++ ys)
stored-append m a xs ys h =
    let l = length-stored m xs a in let n : length (xs ++ ys) ≡ length xs + length ys = length-append xs ys in
    stored-sets (stored m a xs) (a + length xs) ys (omega arith)
    ∙ ap (λ (r : List ℕ). sets r (a + length xs) ys) (stored-sets m a xs (omega arith))
    ∙ sets-append m a xs ys
    ∙ sym (stored-sets m a (xs ++ ys) (omega arith))

bytes-append : (v j k : ℕ) → little_bytes v (j + k) ≡ little_bytes v j ++ little_bytes (v / power j) k
unfolding little_bytes
bytes-append v zero k = let e : v / 1 ≡ v = omega arith in let f : zero + k ≡ k = omega arith in rw (e, f) refl
bytes-append v (suc j) k =
    let e : suc j + k ≡ suc (j + k) = omega arith in
    rw (e, bytes-append (v / 256) j k, div-div-eq-div-mul v 256 (power j)) refl

pub store-one : (m : List ℕ) (a v : ℕ) → a + 1 ≤ length m → set m a (v % 256) ≡ stored m a (little_bytes v 1)
unfolding little_bytes
store-one m a v h = sym (stored-sets m a (v % 256 ∷ []) h)

pub store_both : (m : List ℕ) (a v j k : ℕ) → a + (j + k) ≤ length m →
    stored (stored m a (little_bytes v j)) (a + j) (little_bytes (v / power j) k) ≡ stored m a (little_bytes v (j + k))
store_both m a v j k h =
    let n = length-little_bytes v j in let n' = length-little_bytes (v / power j) k in
    (rw n at (stored-append m a (little_bytes v j) (little_bytes (v / power j) k) (omega arith))) ∙ ap (stored m a) (sym (bytes-append v j k))

-- i bytes from the low one up, and one more
pub store-next : (m : List ℕ) (a n i v : ℕ) → a + n ≤ length m → i < n →
    set (stored m a (little_bytes v i)) (a + i) (v / power i % 256) ≡ stored m a (little_bytes v (i + 1))
store-next m a n i v h k =
    let l = length-stored m (little_bytes v i) a in
    store-one (stored m a (little_bytes v i)) (a + i) (v / power i) (omega arith) ∙ store_both m a v i 1 (omega arith)

pub rest-next : (v i : ℕ) → v / power i / 256 ≡ v / power (i + 1)
rest-next v i =
    let e : power i * 256 ≡ power (i + 1) = rw add-one (omega arith) in
    div-div-eq-div-mul v (power i) 256 ∙ ap (λ (q : ℕ). v / q) e

-- ---- the widths
-- where the bytes do not lie in the memory
-- ---- what the tests on the way of a load and of a store leave: all bytes lie in the memory, or not all; the size is 8
pub fits-inside : (m : List ℕ) (a n : ℕ) (b : Bool) → b ≡ leb (a + n) (length m) → not b ≡ false → a + n ≤ length m
fits-inside m a n b e h = leb-true (a + n) (length m) (sym e ∙ not-false b h)

pub load-none : (m : List ℕ) (a n : ℕ) → leb (a + n) (length m) ≡ false → 0 ≡ little (part m a n)
unfolding part little
load-none m a n e = rw e refl

pub store-none : (m : List ℕ) (a v n : ℕ) → leb (a + n) (length m) ≡ false → m ≡ stored m a (little_bytes v n)
store-none m a v n e =
    let h = leb-false (a + n) (length m) e in let k = length-little_bytes v n in
    sym (stored-outside m a (little_bytes v n) (omega arith))

-- a size that is none of 1, 2, 4 is 8
pub size-eight : (n : ℕ) → size_ok n ≡ true → n ≢ 4 → n ≢ 1 → n ≢ 2 → n ≡ 8
unfolding size_ok
size-eight n h n4 n1 n2 = eqb-true n 8 (rw (ne_eqb n 1 n1, ne_eqb n 2 n2, ne_eqb n 4 n4) at h)

pub size_small : (n : ℕ) → size_ok n ≡ true → n ≤ 8
size_small n h =
    bool (eqb n 4) (λ e. let p = eqb-true n 4 e in omega arith)
    (λ e₄. bool (eqb n 1) (λ e. let p = eqb-true n 1 e in omega arith)
    (λ e₁. bool (eqb n 2) (λ e. let p = eqb-true n 2 e in omega arith)
    (λ e₂. let p = size-eight n h (eqb-false n 4 e₄) (eqb-false n 1 e₁) (eqb-false n 2 e₂) in omega arith)))

-- no byte yet
pub load-zero : (m : List ℕ) (a : ℕ) → 0 ≡ little (part m a 0)
unfolding part little
load-zero m a = bool (leb (a + 0) (length m)) (λ e. rw e refl) (λ e. rw e refl)

pub store-zero : (m : List ℕ) (a v : ℕ) → m ≡ stored m a (little_bytes v 0)
unfolding little_bytes
store-zero m a v = sym (stored-none m a)
