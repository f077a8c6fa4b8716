-- Bytes copied into a lent part: they are `stored` in the memory. A loop has replaced the first bytes (`copied`), the
-- part that was lent comes back between what stood before and after it, and that is `splice`.
use Rattle.std.specs.Prelude.{ℕ, suc, ◌+◌, ◌-◌, ◌≤◌, ◌<◌, Bool, cond, ◌≡◌, List, [], ◌++◌, set, get_or, replicate}
use Rattle.std.proofs.Math.Bool.{true, false}
use Rattle.std.proofs.Math.Path.{refl, sym, ap}
use Rattle.std.proofs.Common.{◌∙◌, append-nil, add-one, length-drop, drop_of_length-le, take_all, drop-drop, drop-cons, take-suc, length-take-le, leb-true, leb-false, le-leb}
use Rattle.std.proofs.lemmas.List.{set_at}
use Rattle.std.proofs.Math.Seq.{append_snoc}
use native.Mathlib.Omega.{arith}
use Rattle.std.proofs.Math.ListN.{length, take, drop}
use Rattle.std.proofs.Math.Dec.{leb}
use Rattle.std.proofs.lemmas.Bool.{lt-leb}
use Rattle.model.specs.Bytes.{part, stored, splice, zero_from}
use Rattle.model.specs.Reports.{taken}
use Rattle.model.specs.Laws.{stored-none, part-inside, stored-inside, stored-outside, length_part}

-- d with its first n bytes replaced by those of s
unfoldable pub copied : List ℕ → List ℕ → ℕ → List ℕ
copied d s n = take n s ++ drop n d

pub copied-zero : (d s : List ℕ) → d ≡ copied d s 0
unfolding copied
copied-zero d s = refl

pub copied_next : (d s : List ℕ) (j : ℕ) → j < length d → j < length s → set (copied d s j) j (get_or s j 0) ≡ copied d s (j + 1)
unfolding copied
copied_next d s j hd hs =
    ap (λ (r : List ℕ). set (take j s ++ r) j (get_or s j 0)) (drop-cons d j 0 hd)
    ∙ set_at (take j s) (get_or d j 0) (drop (suc j) d) (get_or s j 0) j (length-take-le j s (omega arith))
    ∙ sym (append_snoc (take j s) (get_or s j 0) (drop (suc j) d))
    ∙ rw (add-one, take-suc s j 0 hs)

-- a slice that was replaced by one of its length is that one
pub copied_all : (d s : List ℕ) → length d ≡ length s → copied d s (length s) ≡ s
unfolding copied
copied_all d s e =
    let h : length d ≤ length s = omega arith in let all : length s ≤ length s = omega arith in
    rw (drop_of_length-le d h, append-nil) (take_all (length s) s all)

cond_same : (b : Bool) → ◌≡◌ {A = List ℕ} [] (cond b [] [])
cond_same true = refl
cond_same false = refl

-- ---- a line of n bytes moved from l at b into m at a: the three ways through the code
-- past both tests, the line lies in both memories
pub record Inside (m l : List ℕ) (a b n : ℕ) : Type 0 where
  pub from : b + n ≤ length l
  pub to : a + n ≤ length m

module _ (m l : List ℕ) (a b n : ℕ) where
  pub both-inside : leb (b + n) (length l) ≡ true → leb (a + n) (length m) ≡ true → Inside m l a b n
  both-inside e f = record { from = leb-true (b + n) (length l) e; to = leb-true (a + n) (length m) f }

  pub move-short : leb (b + n) (length l) ≡ false → m ≡ stored m a (part l b n)
  unfolding part
  move-short e = rw e (sym (stored-none m a))

  pub move-full : leb (b + n) (length l) ≡ true → leb (a + n) (length m) ≡ false → m ≡ stored m a (part l b n)
  move-full e f =
      let k = length_part l b n (leb-true (b + n) (length l) e) in
      let h = leb-false (a + n) (length m) f in
      sym (stored-outside m a (part l b n) (omega arith))

  -- how many bytes went there: none, or all
  pub told-short : leb (b + n) (length l) ≡ false → 0 ≡ length (taken m a (part l b n))
  unfolding part taken
  told-short e = rw e (ap length (cond_same (leb (a + length {A = ℕ} []) (length m))))

  pub told-full : leb (b + n) (length l) ≡ true → leb (a + n) (length m) ≡ false → 0 ≡ length (taken m a (part l b n))
  unfolding taken
  told-full e f =
      let k = length_part l b n (leb-true (b + n) (length l) e) in
      let o : leb (a + length (part l b n)) (length m) ≡ false = rw k f in rw o refl

  pub told_in : Inside m l a b n → n ≡ length (taken m a (part l b n))
  unfolding taken
  told_in i =
      let k = length_part l b n i.from in
      let o : leb (a + length (part l b n)) (length m) ≡ true = rw k (le-leb (a + n) (length m) i.to) in rw o (sym k)

  -- m[a..a + n] takes l[b..b + n]
  pub moved : Inside m l a b n → (t : List ℕ) → t ≡ take (b + n - b) (drop b l) →
      take a m ++ (t ++ drop (a + n - a) (drop a m)) ≡ stored m a (part l b n)
  unfolding splice
  moved i t g =
      let k = i.from in
      let h = i.to in
      let b' : b + n - b ≡ n = omega arith in
      let a' : a + n - a ≡ n = omega arith in
      let t' : t ≡ part l b n = g ∙ ap (λ (j : ℕ). take j (drop b l)) b' ∙ sym (part-inside l b n k) in
      let len = length_part l b n k in
      let p : splice m a (part l b n) ≡ take a m ++ (part l b n ++ drop n (drop a m)) = rw (len, drop-drop) refl in
      rw (t', a') (sym (stored-inside m a (part l b n) (omega arith) ∙ p))

-- a memory whole, and one that others take the place of whole
pub part-whole : (m : List ℕ) → part m 0 (length m) ≡ m
part-whole m =
    let h : 0 + length m ≤ length m = omega arith in let all : length m ≤ length m = omega arith in
    part-inside m 0 (length m) h ∙ take_all (length m) m all

pub stored-whole : (m bs : List ℕ) → length bs ≡ length m → stored m 0 bs ≡ bs
unfolding splice
stored-whole m bs e =
    let h : 0 + length bs ≤ length m = omega arith in let all : length m ≤ 0 + length bs = omega arith in
    stored-inside m 0 bs h ∙ rw (drop_of_length-le m all, append-nil) refl

-- ---- a sum that may pass the largest number, tested without it
pub leb-shift : (a n k : ℕ) → n ≤ k → leb a (k - n) ≡ leb (a + n) k
leb-shift a n k h = go (leb a (k - n)) refl
  where
    go : (b : Bool) → leb a (k - n) ≡ b → b ≡ leb (a + n) k
    go true e = let f = leb-true a (k - n) e in sym (le-leb (a + n) k (omega arith))
    go false e = let f = leb-false a (k - n) e in sym (lt-leb (a + n) k (omega arith))

pub leb-short : (a n k : ℕ) → k < n → false ≡ leb (a + n) k
leb-short a n k h = sym (lt-leb (a + n) k (omega arith))

-- ---- zeros from k on
-- nothing from k on
pub cleared-past : (m : List ℕ) (k : ℕ) → length m ≤ k → m ≡ zero_from k m (length m)
unfolding zero_from
cleared-past m k h = let e : length m - k ≡ 0 = omega arith in rw (e, append-nil) (sym (take_all k m h))

-- the part from k on was filled
pub cleared-part : (m : List ℕ) (k : ℕ) (t : List ℕ) → t ≡ replicate (length (take (length m - k) (drop k m))) 0 →
    take k m ++ (t ++ drop (length m - k) (drop k m)) ≡ zero_from k m (length m)
unfolding zero_from
cleared-part m k t e =
    let rest : length (drop k m) ≤ length m - k = simp length-drop (omega arith) in
    let n : length (take (length m - k) (drop k m)) ≡ length m - k = ap length (take_all (length m - k) (drop k m) rest) ∙ length-drop k m in
    rw (drop_of_length-le (drop k m) rest, append-nil, e, n) refl

-- ---- bytes that are there, or not
pub held_all : (m : List ℕ) (a n : ℕ) (b : Bool) → b ≡ leb (a + n) (length m) → b ≡ true → n ≡ length (part m a n)
held_all m a n b e t = sym (length_part m a n (leb-true (a + n) (length m) (sym e ∙ t)))

pub held_none : (m : List ℕ) (a n : ℕ) (b : Bool) → b ≡ leb (a + n) (length m) → b ≡ false → 0 ≡ length (part m a n)
unfolding part
held_none m a n b e f = let o : leb (a + n) (length m) ≡ false = sym e ∙ f in rw o refl
