-- Bytes of two runs side by side. A relation P (`Pairing`) says which two bytes may stand for an address in the two
-- runs; an `Area` is a stretch of two memories whose bytes stand for addresses one after another. SRAM, external memory
-- and every line of a cache are areas, so that what follows serves all of them.
-- Shown: a part taken out of an area, and bytes put into one, stand for what they stood for; bytes put elsewhere leave
-- an area as it was. Why: in both runs the same bytes go from the same place to the same place.
use Prim.Native.Nat.{ℕ, ◌+◌, ◌-◌, ◌≤◌, ◌<◌}
use mathlib.Core.Path.{◌≡◌, refl, sym, ◌∙◌, subst₃}
use mathlib.Core.Logic.{◌⊎◌, ⊎_elim}
use mathlib.Core.List.{List, []}
use native.Mathlib.Omega.{arith}
use lib.ListN.{length, get_or}
use Rattle.model.specs.Bytes.{stored, part}
use Rattle.model.specs.Laws.{length_part, part_at}
use Rattle.agreement.proofs.Memory.{stored_at, stored-elsewhere, inside-or-not}

-- bytes c and d may stand for address a, c in the first run and d in the second
abbrev pub Pairing : Type 1
Pairing = ℕ → ℕ → ℕ → Type 0

pub moved : (P : Pairing) {a a' c c' d d' : ℕ} → a' ≡ a → c' ≡ c → d' ≡ d → P a' c' d' → P a c d
moved P p q r w = subst₃ P p q r w

-- two lists of n bytes, the k-th of each standing for a + k
pub record Twins (P : Pairing) (a n : ℕ) (bs bs' : List ℕ) : Type 0 where
  pub long : length bs ≡ n
  pub long' : length bs' ≡ n
  pub byte : (k : ℕ) → k < n → P (a + k) (get_or bs k 0) (get_or bs' k 0)

pub no-twins : (P : Pairing) (a : ℕ) → Twins P a 0 [] []
no-twins P a = record { long = refl; long' = refl; byte = λ k h. absurd (omega arith) }

-- the n bytes from p on, in m and in m', stand for b, b + 1, ..
pub record Area (P : Pairing) (b p n : ℕ) (m m' : List ℕ) : Type 0 where
  pub byte : (i : ℕ) → i < n → P (b + i) (get_or m (p + i) 0) (get_or m' (p + i) 0)

-- k bytes from i on, the first of which stands for a, o bytes into the area
pub area-part : {P : Pairing} {b p n : ℕ} {m m' : List ℕ} → Area P b p n m m' → length m' ≡ length m → p + n ≤ length m →
    (o : ℕ) {k a i : ℕ} → o + k ≤ n → b + o ≡ a → p + o ≡ i → Twins P a k (part m i k) (part m' i k)
area-part {P} {b} {p} {n} {m} {m'} h same fits o {k} {a} {i} f e₁ e₂ =
    let l = length_part m i k (omega arith) in let l' = length_part m' i k (omega arith) in
    record {
      long = l;
      long' = l';
      byte = λ j hj.
          let c : b + (o + j) ≡ a + j = omega arith in
          let j' : p + (o + j) ≡ i + j = omega arith in
          moved P c (rw j' (sym (part_at m i k j (omega arith) (omega arith)))) (rw j' (sym (part_at m' i k j (omega arith) (omega arith))))
          (h.byte (o + j) (omega arith));
    }

-- k bytes put into the area, the first of them for address a; `old` are the area's other bytes
area-put : {P : Pairing} {b p n a k i : ℕ} (m m' : List ℕ) {bs bs' : List ℕ} → length m' ≡ length m → p + n ≤ length m → Twins P a k bs bs' →
    (o : ℕ) → o + k ≤ n → b + o ≡ a → p + o ≡ i →
    (old : (j : ℕ) → j < n → (o ≤ j → o + k ≤ j) → P (b + j) (get_or m (p + j) 0) (get_or m' (p + j) 0)) → Area P b p n (stored m i bs) (stored m' i bs')
area-put {P} {b} {p} {n} {a} {k} {i} m m' {bs} {bs'} same fits t o f e₁ e₂ old =
    let l = t.long in let l' = t.long' in
    record {
      byte = λ j hj.
          inside-or-not o j k
          (λ g g'. let c : a + (j - o) ≡ b + j = omega arith in
          let x : p + j - i ≡ j - o = omega arith in
          moved P c (sym (stored_at m bs i (omega arith) (p + j) (omega arith) (omega arith) ∙ rw x refl))
          (sym (stored_at m' bs' i (omega arith) (p + j) (omega arith) (omega arith) ∙ rw x refl)) (t.byte (j - o) (omega arith)))
          (λ g. moved P refl (sym (stored-elsewhere m bs i (omega arith) (p + j) (λ y. let y' = g (omega arith) in omega arith)))
          (sym (stored-elsewhere m' bs' i (omega arith) (p + j) (λ y. let y' = g (omega arith) in omega arith))) (old j hj g));
    }

pub area-stored : {P : Pairing} {b p n a k i : ℕ} {m m' bs bs' : List ℕ} → Area P b p n m m' → length m' ≡ length m → p + n ≤ length m → Twins P a k bs bs' →
    (o : ℕ) → o + k ≤ n → b + o ≡ a → p + o ≡ i → Area P b p n (stored m i bs) (stored m' i bs')
area-stored {m} {m'} h same fits t o f e₁ e₂ = area-put m m' same fits t o f e₁ e₂ (λ j hj _. h.byte j hj)

-- the whole area filled
pub area-filled : {P : Pairing} {b p n : ℕ} (m m' : List ℕ) {bs bs' : List ℕ} → length m' ≡ length m → p + n ≤ length m → Twins P b n bs bs' →
    Area P b p n (stored m p bs) (stored m' p bs')
area-filled m m' same fits t =
    area-put m m' same fits t 0 (omega arith) (omega arith) (omega arith) (λ j hj g. let g' = g (omega arith) in absurd (omega arith))

-- bytes put elsewhere
pub area-elsewhere : {P : Pairing} {b p n a k i : ℕ} {m m' bs bs' : List ℕ} → Area P b p n m m' → length m' ≡ length m → Twins P a k bs bs' →
    i + k ≤ length m → (i + k ≤ p) ⊎ (p + n ≤ i) → Area P b p n (stored m i bs) (stored m' i bs')
area-elsewhere {P} {b} {p} {n} {a} {k} {i} {m} {m'} {bs} {bs'} h same t f apart =
    let l = t.long in let l' = t.long' in
    record {
      byte = λ j hj.
          let g : i ≤ p + j → i + k ≤ p + j = λ y. ⊎_elim (λ c. omega arith) (λ c. absurd (omega arith)) apart in
          moved P refl (sym (stored-elsewhere m bs i (omega arith) (p + j) (λ y. let y' = g y in omega arith)))
          (sym (stored-elsewhere m' bs' i (omega arith) (p + j) (λ y. let y' = g y in omega arith))) (h.byte j hj);
    }
