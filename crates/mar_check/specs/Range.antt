-- The lines of a MAR bit's range, way by way and set by set: what the loops over them find is what the model's
-- definition finds in the record.
use Rattle.std.specs.Prelude.{ℕ, ◌<◌, Bool, true, false, List, ◌≡◌, refl, length, get_or}
use Rattle.std.specs.Bool.{MatchBool}
use Rattle.std.proofs.Common.{sym, arith}
use Rattle.std.proofs.lemmas.List.Recursion.{or_at, or_from_places}
use Rattle.model.specs.Basics.{any_of}
use Rattle.model.specs.Lines.{empty_line}
use Rattle.model.specs.declared.Line.{Line}

-- ---- b says whether a way, of so many, passes the test p; whether a way of a set does
abbrev pub TellsOfWays : Bool → ℕ → (ℕ → Bool) → Type 0
TellsOfWays b ways p = MatchBool b ((w : ℕ) × (w < ways) × (p w ≡ true)) ((w : ℕ) → w < ways → p w ≡ false)

abbrev pub TellsOfSets : Bool → ℕ → ℕ → (ℕ → ℕ → Bool) → Type 0
TellsOfSets b sets ways p =
    MatchBool b ((s : ℕ) × (s < sets) × (w : ℕ) × (w < ways) × (p s w ≡ true)) ((s : ℕ) → s < sets → (w : ℕ) → w < ways → p s w ≡ false)

-- ---- a cache by its list of sets
module _ {A : Type 0} (lines : A → List Line) (xs : List A) (d : A) (p : Line → Bool) (m n : ℕ) (sets : length xs ≡ m)
    (ways : (s : ℕ) → s < m → length (lines (get_or xs s d)) ≡ n) where
  pub any_held : (b : Bool) → TellsOfSets b m n (λ s w. p (get_or (lines (get_or xs s d)) w empty_line)) → b ≡ any_of (λ v. any_of p (lines v)) xs
  unfolding any_of
  any_held true h =
      sym (or_at (any_of (λ v. any_of p (lines v))) (λ v. any_of p (lines v)) refl (λ _ _. refl) xs h.0 d (omega arith)
      (or_at (any_of p) p refl (λ _ _. refl) (lines (get_or xs h.0 d)) h.2 empty_line (omega (arith, ways h.0 h.1, h.3)) h.4))
  any_held false h =
      sym (or_from_places (any_of (λ v. any_of p (lines v))) (λ v. any_of p (lines v)) refl (λ _ _. refl) xs d
      (λ s k. or_from_places (any_of p) p refl (λ _ _. refl) (lines (get_or xs s d)) empty_line (λ w l. h s (omega arith) w (omega (arith, ways s (omega arith))))))
