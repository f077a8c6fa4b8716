-- Sets one after another: what a loop over them finds is what the definitions say of the lists of sets.
use Rattle.std.specs.Prelude.{ℕ, zero, suc, ◌+◌, ◌-◌, ◌≤◌, ◌<◌, Bool, true, false, ◌&&◌, List, [], ◌∷◌, ◌≡◌, refl, length, get_or, take, drop, eqb}
use Rattle.std.proofs.Common.{sym, ap, ◌∙◌, arith, add-one, length-take, length-drop, get_or-take, get_or-drop}
use Rattle.std.proofs.Math.Bool.{and_assoc}
use Rattle.model.specs.Basics.{all_indexed}
use Rattle.model.specs.Records.{dirty_lines, dirty_in, no_l1d_set, no_l2_set, l1d_set_ok, l2_set_ok}
use Rattle.model.specs.Laws.{both_true}
use Rattle.model.specs.declared.Line.{Line}
use Rattle.model.specs.declared.L1dSet.{L1dSet}
use Rattle.model.specs.declared.L2Set.{L2Set}
use Rattle.model.specs.declared.Record.{Record}
use Rattle.tags.specs.Words.{word, record_in, shaped}
use Rattle.record_check.specs.Parts.{l1d_ok, l2_ok, l1d_dirty, l2_dirty, front_ok, l1d_front_ok, l2_front_ok, l2_rest_ok}

-- ---- tests of the elements, each with its index
module _ {A : Type 0} (f : ℕ → A → Bool) where
  pub all_parts : (k m : ℕ) (xs : List A) → all_indexed f k xs ≡ (all_indexed f k (take m xs) && all_indexed f (k + m) (drop m xs))
  unfolding all_indexed
  all_parts k zero xs = ap (λ (j : ℕ). all_indexed f j xs) (omega arith)
  all_parts k (suc m) [] = refl
  all_parts k (suc m) (x ∷ xs) =
      let z = all_parts (suc k) m xs in let e : suc k + m ≡ k + suc m = omega arith in rw (z, e) (sym (and_assoc (f k x) _ _))

module _ {A : Type 0} (f : ℕ → A → Bool) (d : A) where
  pub all_ok : (k : ℕ) (xs : List A) → ((i : ℕ) → i < length xs → f (k + i) (get_or xs i d) ≡ true) → all_indexed f k xs ≡ true
  unfolding all_indexed
  all_ok k [] h = refl
  all_ok k (x ∷ xs) h =
      let e : f k x ≡ true = ap (λ (j : ℕ). f j x) (omega arith) ∙ h 0 (omega arith) in
      rw (e, all_ok (suc k) xs (λ i l. ap (λ (j : ℕ). f j (get_or xs i d)) (omega arith) ∙ h (suc i) (omega arith))) refl

  pub all_off : (k : ℕ) (xs : List A) (i : ℕ) → i < length xs → f (k + i) (get_or xs i d) ≡ false → all_indexed f k xs ≡ false
  unfolding all_indexed
  all_off k [] i l e = absurd (omega arith)
  all_off k (x ∷ xs) zero l e = let z : f k x ≡ false = ap (λ (j : ℕ). f j x) (omega arith) ∙ e in rw z refl
  all_off k (x ∷ xs) (suc i) l e =
      let z = all_off (suc k) xs i (omega arith) (ap (λ (j : ℕ). f j (get_or xs i d)) (omega arith) ∙ e) in rw z (grind arith)

  module _ (xs : List A) (n : ℕ) (few : n ≤ length xs) where
    short : length (take n xs) ≡ n
    short = simp length-take (omega arith)

    pub front_all : ((i : ℕ) → i < n → f i (get_or xs i d) ≡ true) → all_indexed f 0 (take n xs) ≡ true
    front_all h = all_ok 0 (take n xs) (λ i l. let m : i < n = omega (arith, short) in let z : 0 + i ≡ i = omega arith in rw (z, get_or-take n xs i d m) (h i m))

    pub front_off : (i : ℕ) → i < n → f i (get_or xs i d) ≡ false → all_indexed f 0 (take n xs) ≡ false
    front_off i m e = all_off 0 (take n xs) i (omega (arith, short)) (let z : 0 + i ≡ i = omega arith in rw (z, get_or-take n xs i d m) e)

    behind : length (drop n xs) + n ≡ length xs
    behind = simp length-drop (omega arith)

    pub rest_all : ((i : ℕ) → n ≤ i → i < length xs → f i (get_or xs i d) ≡ true) → all_indexed f n (drop n xs) ≡ true
    rest_all h = all_ok n (drop n xs) (λ i l. rw (get_or-drop n xs i d) (h (n + i) (omega arith) (omega (arith, behind))))

    pub rest_off : (i : ℕ) → n ≤ i → i < length xs → f i (get_or xs i d) ≡ false → all_indexed f n (drop n xs) ≡ false
    rest_off i l m e =
        let z : i ≡ n + (i - n) = omega arith in
        all_off n (drop n xs) (i - n) (omega (arith, behind)) (rw (get_or-drop n xs (i - n) d, sym z) e)

-- ---- how many lines are dirty
module _ {A : Type 0} (g : A → List Line) where
  pub dirty_more : (d : A) (xs : List A) (i : ℕ) → i < length xs → dirty_in g (take (i + 1) xs) ≡ dirty_in g (take i xs) + dirty_lines (g (get_or xs i d))
  unfolding dirty_in
  dirty_more d [] i l = absurd (omega arith)
  dirty_more d (x ∷ xs) zero l = omega arith
  dirty_more d (x ∷ xs) (suc i) l = let z = rw (add-one i) at (dirty_more d xs i (omega arith)) in rw (add-one (suc i)) (omega arith)

  pub dirty_parts : (m : ℕ) (xs : List A) → dirty_in g xs ≡ dirty_in g (take m xs) + dirty_in g (drop m xs)
  unfolding dirty_in
  dirty_parts zero xs = omega arith
  dirty_parts (suc m) [] = refl
  dirty_parts (suc m) (x ∷ xs) = let z = dirty_parts m xs in omega arith

  -- where no element that passes a test has a dirty line, none is dirty behind the first m
  pub dirty_none : (f : ℕ → A → Bool) (k : ℕ) (xs : List A) → ((i : ℕ) (x : A) → k ≤ i → f i x ≡ true → dirty_lines (g x) ≡ 0) → all_indexed f k xs ≡ true → dirty_in g xs ≡ 0
  unfolding dirty_in all_indexed
  dirty_none f k [] h e = refl
  dirty_none f k (x ∷ xs) h e =
      let p = both_true (f k x) (all_indexed f (suc k) xs) e in
      let z = dirty_none f (suc k) xs (λ i y l. h i y (omega arith)) p.1 in let y = h k x (omega arith) p.0 in omega arith

-- ---- the sets of the record that words stand for: a set that is not in order, one more that is counted, the end
module _ {A : Type 0} (f : ℕ → A → Bool) (g : A → List Line) (d : A) (xs : List A) (count n : ℕ) (few : n ≤ length xs) where
  front_stops : (i : ℕ) → i < n → f i (get_or xs i d) ≡ false → false ≡ front_ok f g xs count n
  unfolding front_ok
  front_stops i l e = rw (front_off f d xs n few i l e) refl

  front_ends : ((i : ℕ) → i < n → f i (get_or xs i d) ≡ true) → (m : ℕ) → m ≡ dirty_in g (take n xs) → eqb count m ≡ front_ok f g xs count n
  unfolding front_ok
  front_ends h m e = rw (front_all f d xs n few h, e) refl

pub no_sets : {A : Type 0} (g : A → List Line) → dirty_in g [] ≡ 0
unfolding dirty_in
no_sets g = refl

module _ (ws : List ℕ) where
  abbrev r : Record
  r = record_in ws

  -- the lines of a set of L1D, of L2
  abbrev lines : L1dSet → List Line
  lines v = v.lines

  abbrev lines_2 : L2Set → List Line
  lines_2 v = v.lines

  pub l1d_stops : (i : ℕ) → i < 128 → l1d_ok r i ≡ false → false ≡ l1d_front_ok r 128
  l1d_stops i l e = front_stops (l1d_set_ok r) lines no_l1d_set r.l1d r.dirty_l1d 128 (omega (arith, (shaped ws).l1d_sets)) i l e

  pub l1d_more : (i : ℕ) → i < 128 → dirty_in lines (take (i + 1) r.l1d) ≡ dirty_in lines (take i r.l1d) + l1d_dirty r i
  l1d_more i l = dirty_more lines no_l1d_set r.l1d i (omega (arith, (shaped ws).l1d_sets))

  pub l1d_ends : ((i : ℕ) → i < 128 → l1d_ok r i ≡ true) → (n : ℕ) → n ≡ dirty_in lines (take 128 r.l1d) → eqb (word ws 3) n ≡ l1d_front_ok r 128
  unfolding record_in
  l1d_ends h n e = front_ends (l1d_set_ok r) lines no_l1d_set r.l1d r.dirty_l1d 128 (omega (arith, (shaped ws).l1d_sets)) h n e

  module _ (sets : ℕ) (few : sets ≤ 512) where
    pub l2_stops : (j : ℕ) → j < sets → l2_ok r j ≡ false → false ≡ l2_front_ok r sets
    l2_stops j l e = front_stops (l2_set_ok r) lines_2 no_l2_set r.l2 r.dirty_l2 sets (omega (arith, (shaped ws).l2_sets)) j l e

    pub l2_ends : ((j : ℕ) → j < sets → l2_ok r j ≡ true) → (n : ℕ) → n ≡ dirty_in lines_2 (take sets r.l2) → eqb (word ws 4) n ≡ l2_front_ok r sets
    unfolding record_in
    l2_ends h n e = front_ends (l2_set_ok r) lines_2 no_l2_set r.l2 r.dirty_l2 sets (omega (arith, (shaped ws).l2_sets)) h n e

    pub idle_stops : (j : ℕ) → sets ≤ j → j < 512 → l2_ok r j ≡ false → false ≡ l2_rest_ok r sets
    unfolding l2_rest_ok
    idle_stops j l n e = let h = (shaped ws).l2_sets in sym (rest_off (l2_set_ok r) no_l2_set r.l2 sets (omega arith) j l (omega arith) e)

    pub idle_ends : ((j : ℕ) → sets ≤ j → j < 512 → l2_ok r j ≡ true) → true ≡ l2_rest_ok r sets
    unfolding l2_rest_ok
    idle_ends h = let g = (shaped ws).l2_sets in sym (rest_all (l2_set_ok r) no_l2_set r.l2 sets (omega arith) (λ j l n. h j l (omega arith)))

  pub l2_more : (j : ℕ) → j < 512 → dirty_in lines_2 (take (j + 1) r.l2) ≡ dirty_in lines_2 (take j r.l2) + l2_dirty r j
  l2_more j l = dirty_more lines_2 no_l2_set r.l2 j (omega (arith, (shaped ws).l2_sets))

pub ruleset loop_laws = (no_sets, l1d_stops, l1d_more, l1d_ends, l2_stops, l2_more, l2_ends, idle_stops, idle_ends)
