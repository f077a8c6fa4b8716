-- What the code asks of a record part by part: of one set of each cache, and of sets one after another, with the count
-- that the record has of their dirty lines.
use Rattle.std.specs.Prelude.{ℕ, ◌≤◌, ◌≡◌, Bool, true, not, ◌&&◌, ◌||◌, List, take, drop, eqb}
use Rattle.model.specs.Basics.{all_indexed}
use Rattle.model.specs.Records.{dirty_lines, dirty_in, l1d_set_at, l2_set_at, l1d_set_ok, l2_set_ok}
use Rattle.model.specs.declared.Line.{Line}
use Rattle.model.specs.declared.Record.{Record}

-- ---- one set: whether it is in order, and how many of its lines are dirty
abbrev pub l1d_ok : Record → ℕ → Bool
l1d_ok r s = l1d_set_ok r s (l1d_set_at r s)

abbrev pub l2_ok : Record → ℕ → Bool
l2_ok r t = l2_set_ok r t (l2_set_at r t)

abbrev pub l1d_dirty : Record → ℕ → ℕ
l1d_dirty r s = dirty_lines (l1d_set_at r s).lines

abbrev pub l2_dirty : Record → ℕ → ℕ
l2_dirty r t = dirty_lines (l2_set_at r t).lines

-- a set is in order, and of its d dirty lines, of which there are at most so many, n were counted
abbrev pub Counted : Bool → ℕ → ℕ → ℕ → Type 0
Counted ok d most n = (ok ≡ true) × (n ≡ d) × (n ≤ most)

-- the addresses of the four ways of a set, 0 of an empty one: none twice
unfoldable pub once_in : ℕ → ℕ → ℕ → ℕ → Bool
once_in a b c d =
    not (not (eqb a 0) && (eqb b a || (eqb c a || eqb d a))) && (not (not (eqb b 0) && (eqb c b || eqb d b)) && not (not (eqb c 0) && eqb d c))

-- ---- the first n sets of a cache, and the count that the record has of its dirty lines; the sets of L2 behind them
unfoldable pub front_ok : {A : Type 0} → (ℕ → A → Bool) → (A → List Line) → List A → ℕ → ℕ → Bool
front_ok f g xs count n = all_indexed f 0 (take n xs) && eqb count (dirty_in g (take n xs))

abbrev pub l1d_front_ok : Record → ℕ → Bool
l1d_front_ok r n = front_ok (l1d_set_ok r) (λ v. v.lines) r.l1d r.dirty_l1d n

abbrev pub l2_front_ok : Record → ℕ → Bool
l2_front_ok r n = front_ok (l2_set_ok r) (λ v. v.lines) r.l2 r.dirty_l2 n

unfoldable pub l2_rest_ok : Record → ℕ → Bool
l2_rest_ok r n = all_indexed (l2_set_ok r) n (drop n r.l2)
