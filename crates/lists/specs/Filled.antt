-- An array of n elements that a loop fills with the values of a function, from the front: what the loop keeps after i
-- of them, and that it is the list of these values in the end.
use Rattle.std.specs.Prelude.{ℕ, ◌+◌, ◌≤◌, ◌<◌, Bool, true, false, List, ◌≡◌, refl, length, get_or, set, replicate, eqb}
use Rattle.std.proofs.Common.{sym, ap, ◌∙◌, arith, length-set, get_or-set_same, get_or-set_other, ext_get_or, eqb-true}
use Rattle.std.proofs.lemmas.List.{length-replicate}
use Rattle.std.proofs.lemmas.Bool.{eqb-false}
use Rattle.lists.specs.Listed.{listed, listed-get, length-listed}

-- by cases on a test
bool {ℓ} : {A : Type ℓ} (b : Bool) → (b ≡ true → A) → (b ≡ false → A) → A
bool true f g = f refl
bool false f g = g refl

module _ {ℓ} {A : Type ℓ} (f : ℕ → A) (d : A) (n : ℕ) where
  abbrev pub Filling : List A → ℕ → Type ℓ
  Filling xs i = (i ≤ n) × ((length xs ≡ n) × ((k : ℕ) → k < i → get_or xs k d ≡ f k))

  pub filling-first : (x : A) → Filling (replicate n x) 0
  filling-first x = (omega arith, (length-replicate n x, λ k h. absurd (omega arith)))

  pub filling-next : (xs : List A) (i : ℕ) (v : A) → Filling xs i → i < n → v ≡ f i → Filling (set xs i v) (i + 1)
  filling-next xs i v h l e = (
    omega arith,
    (
      simp length-set h.1.0,
      λ k m. bool (eqb k i)
          (λ t. let z = eqb-true k i t in ap (λ (j : ℕ). get_or (set xs i v) j d) z ∙ get_or-set_same xs i v d (omega (arith, h.1.0)) ∙ e ∙ ap f (sym z))
          (λ t. let z = eqb-false k i t in let y : k < i = omega arith in get_or-set_other xs i k v d z ∙ h.1.1 k y),
    ),
  )

  pub filling-last : (xs : List A) (i : ℕ) → Filling xs i → n ≤ i → xs ≡ listed f 0 n
  filling-last xs i h l =
      ext_get_or d xs (listed f 0 n) (h.1.0 ∙ sym (length-listed f 0 n))
      (λ k m. let y : k < i = omega (arith, h.1.0) in let z : k < n = omega (arith, h.1.0) in let u : k ≡ 0 + k = omega arith in
      h.1.1 k y ∙ ap f u ∙ sym (listed-get f 0 n k d z))
