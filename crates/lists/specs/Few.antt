-- A list of two and of four elements, written out: by cases on the list.
use Rattle.std.specs.Prelude.{List, [], ◌∷◌, ◌≡◌, refl, length, get_or}
use Rattle.std.proofs.Common.{arith}

pub two {ℓ} : {A : Type ℓ} (d : A) (xs : List A) → length xs ≡ 2 → xs ≡ get_or xs 0 d ∷ get_or xs 1 d ∷ []
two d [] e = absurd (omega arith)
two d (x ∷ []) e = absurd (omega arith)
two d (x ∷ y ∷ []) e = refl
two d (x ∷ y ∷ z ∷ zs) e = absurd (omega arith)

pub four {ℓ} : {A : Type ℓ} (d : A) (xs : List A) → length xs ≡ 4 → xs ≡ get_or xs 0 d ∷ get_or xs 1 d ∷ get_or xs 2 d ∷ get_or xs 3 d ∷ []
four d [] e = absurd (omega arith)
four d (w ∷ []) e = absurd (omega arith)
four d (w ∷ x ∷ []) e = absurd (omega arith)
four d (w ∷ x ∷ y ∷ []) e = absurd (omega arith)
four d (w ∷ x ∷ y ∷ z ∷ []) e = refl
four d (w ∷ x ∷ y ∷ z ∷ u ∷ us) e = absurd (omega arith)
