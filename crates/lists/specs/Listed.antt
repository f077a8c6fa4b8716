-- The list of n values of a function from k on: its length, its elements, two functions that agree, one value replaced.
-- By induction on n.
use Prim.Native.Nat.{ℕ, zero, suc, ◌+◌, ◌≤◌, ◌<◌}
use Rattle.std.specs.Prelude.{List, [], ◌∷◌, ◌≢◌, ◌≡◌, length, get_or}
use Rattle.std.proofs.Math.Path.{refl, sym, ap}
use Rattle.std.proofs.Common.{◌∙◌}
use native.Mathlib.Omega.{arith}
use Rattle.std.proofs.Math.ListN.{set}

unfoldable pub listed {ℓ} : {A : Type ℓ} → (ℕ → A) → ℕ → ℕ → List A
listed f k zero = []
listed f k (suc n) = f k ∷ listed f (suc k) n

module _ {ℓ} {A : Type ℓ} where
  pub listed-get : (f : ℕ → A) (k n i : ℕ) (d : A) → i < n → get_or (listed f k n) i d ≡ f (k + i)
  unfolding listed
  listed-get f k zero i d h = absurd (omega arith)
  listed-get f k (suc n) zero d h = ap f (omega arith)
  listed-get f k (suc n) (suc i) d h = let g : i < n = omega arith in let e : suc k + i ≡ k + suc i = omega arith in listed-get f (suc k) n i d g ∙ ap f e

  pub listed_same : (f g : ℕ → A) (k n : ℕ) → ((j : ℕ) → k ≤ j → f j ≡ g j) → listed f k n ≡ listed g k n
  unfolding listed
  listed_same f g k zero h = refl
  listed_same f g k (suc n) h =
      let a = h k (omega arith) in let b = listed_same f g (suc k) n (λ j l. h j (omega arith)) in λ i. a i ∷ b i

  -- only the elements that are there count
  pub listed-few : (f g : ℕ → A) (k n : ℕ) → ((j : ℕ) → j < k + n → f j ≡ g j) → listed f k n ≡ listed g k n
  unfolding listed
  listed-few f g k zero h = refl
  listed-few f g k (suc n) h =
      let a = h k (omega arith) in let b = listed-few f g (suc k) n (λ j l. h j (omega arith)) in λ i. a i ∷ b i

  pub listed-set : (f g : ℕ → A) (k n i : ℕ) → i < n → ((j : ℕ) → j ≢ k + i → g j ≡ f j) → listed g k n ≡ set (listed f k n) i (g (k + i))
  unfolding listed
  listed-set f g k zero i l h = absurd (omega arith)
  listed-set f g k (suc n) zero l h =
      let e : k ≡ k + 0 = omega arith in
      let b = listed_same g f (suc k) n (λ j m. h j (λ q. absurd (omega arith))) in λ i. g (e i) ∷ b i
  listed-set f g k (suc n) (suc i) l h =
      let e : suc k + i ≡ k + suc i = omega arith in
      let b = listed-set f g (suc k) n i (omega arith) (λ j m. h j (λ q. m (q ∙ sym e))) in
      let a = h k (λ q. absurd (omega arith)) in
      (λ t. a t ∷ b t) ∙ ap (λ (x : A). f k ∷ set (listed f (suc k) n) i x) (ap g e)

pub length-listed {ℓ} : {A : Type ℓ} (f : ℕ → A) (k n : ℕ) → length (listed f k n) ≡ n
unfolding listed
length-listed f k zero = refl
length-listed f k (suc n) = ap suc (length-listed f (suc k) n)
