-- An element of a list that is replaced, where there is one: what is found in its place is the new one, or the default.
use Rattle.std.specs.Prelude.{ℕ, zero, suc, List, [], ◌∷◌, get_or, set}

pub set-either {ℓ m} : {A : Type ℓ} (P : A → Type m) (xs : List A) (i : ℕ) (v d : A) → P v → P d → P (get_or (set xs i v) i d)
set-either P [] i v d p q = q
set-either P (x ∷ xs) zero v d p q = p
set-either P (x ∷ xs) (suc i) v d p q = set-either P xs i v d p q
