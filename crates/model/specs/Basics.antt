-- What the definitions repeat and test by. No sentence of paper 01 stands here; `cond`, `&&` and `||` are the
-- library's.
use Rattle.std.specs.Prelude.{ℕ, zero, suc, Bool, true, false, ◌&&◌, ◌||◌, List, [], ◌∷◌}

-- f 0, then f 1, and so on up to f (n - 1): what a loop that goes up makes
unfoldable pub each {ℓ} : {A : Type ℓ} → (ℕ → A → A) → ℕ → A → A
each f zero z = z
each f (suc k) z = f k (each f k z)

-- does an element of the list pass
unfoldable pub any_of {ℓ} : {A : Type ℓ} → (A → Bool) → List A → Bool
any_of p [] = false
any_of p (x ∷ xs) = p x || any_of p xs

-- do all of them pass, each with its index, counted from i
unfoldable pub all_indexed {ℓ} : {A : Type ℓ} → (ℕ → A → Bool) → ℕ → List A → Bool
all_indexed f i [] = true
all_indexed f i (x ∷ xs) = f i x && all_indexed f (suc i) xs
