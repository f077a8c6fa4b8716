-- The sets of a cache as the record holds them, a list of sets, said ONCE for L1D and L2 (and a cache to come): a
-- `Store` names the type of one set, its lines and how a line of it is replaced. Shown: what is read after one line, or
-- one set's order, was replaced; that a table of sets keeps its lengths, its orders and its empty ways, how its dirty
-- lines count; and that such a change is `Replaced` of the level that the table and its bytes make. Why it holds: `set`
-- on a list changes one element (`set_cases`), once for the list of sets and once for the lines of a set.
use Prim.Native.Nat.{ℕ, zero, suc, ◌+◌, ◌*◌, ◌≤◌, ◌<◌}
use mathlib.Core.Bool.{Bool, true, false, cond}
use mathlib.Core.Path.{◌≡◌, refl, sym, ap, ◌∙◌, subst}
use mathlib.Core.Logic.{◌⊎◌, inl, inr, ⊎_elim, ◌≢◌}
use mathlib.Core.List.{List, [], ◌∷◌}
use native.Mathlib.Omega.{arith}
use native.Mathlib.Nat.{suc-mul}
use lib.ListN.{get_or, set, length, replicate, length-set, length-replicate, get_or-replicate, get_or-eq_default}
use lib.Seq.{get_or-set_same, get_or-set_other}
use lib.Dec.{ltb, eqb}
use borrow.Author.Tests.{ltb-true, ltb-false, eqb-true, eqb-false}
use Rattle.model.specs.Basics.{any_of}
use Rattle.model.specs.Lines.{empty_line, Permutation2, Permutation4, l1d_put, l2_put}
use Rattle.model.specs.Records.{no_l1d_set, no_l2_set, dirty_lines, dirty_in, counted}
use Rattle.model.specs.Laws.{bool, false-true, counted_same, counted-less, counted-more}
use Rattle.model.specs.declared.Line.{Line}
use Rattle.model.specs.declared.L1dSet.{L1dSet}
use Rattle.model.specs.declared.L2Set.{L2Set}
use Rattle.agreement.proofs.Level.{Level, Valid, Other, Replaced}

-- ---- how the record holds a cache: one set of it, what stands for a set past the end, a set's lines, a line
-- replaced, when its order is a permutation
pub record Store : Type 1 where
  pub OneSet : Type 0
  pub none : OneSet
  pub lines : OneSet → List Line
  pub put : OneSet → ℕ → Line → OneSet
  pub Ordered : OneSet → Type 0
  pub sets : ℕ
  pub ways : ℕ
  pub none-lines : lines none ≡ []
  pub put-lines : (v : OneSet) (w : ℕ) (x : Line) → lines (put v w x) ≡ set (lines v) w x
  pub put-ordered : (v : OneSet) (w : ℕ) (x : Line) → Ordered v → Ordered (put v w x)

pub l1d-put-lines : (v : L1dSet) (w : ℕ) (x : Line) → (l1d_put v w x).lines ≡ set v.lines w x
unfolding l1d_put
l1d-put-lines v w x = refl

pub l1d-put-ordered : (v : L1dSet) (w : ℕ) (x : Line) → Permutation2 v.order → Permutation2 (l1d_put v w x).order
unfolding l1d_put
l1d-put-ordered v w x p = p

pub l2-put-lines : (v : L2Set) (w : ℕ) (x : Line) → (l2_put v w x).lines ≡ set v.lines w x
unfolding l2_put
l2-put-lines v w x = refl

pub l2-put-ordered : (v : L2Set) (w : ℕ) (x : Line) → Permutation4 v.order → Permutation4 (l2_put v w x).order
unfolding l2_put
l2-put-ordered v w x p = p

abbrev pub l1d_store : Store
l1d_store =
    record {
      OneSet = L1dSet;
      none = no_l1d_set;
      lines = λ v. v.lines;
      put = l1d_put;
      Ordered = λ v. Permutation2 v.order;
      sets = 128;
      ways = 2;
      none-lines = refl;
      put-lines = l1d-put-lines;
      put-ordered = l1d-put-ordered;
    }

abbrev pub l2_store : Store
l2_store =
    record {
      OneSet = L2Set;
      none = no_l2_set;
      lines = λ v. v.lines;
      put = l2_put;
      Ordered = λ v. Permutation4 v.order;
      sets = 512;
      ways = 4;
      none-lines = refl;
      put-lines = l2-put-lines;
      put-ordered = l2-put-ordered;
    }

-- ---- a set, a line, the table with one line replaced; the level that a table makes, with slot s, w's bytes from
-- `place s w` on in m
abbrev pub set_in : (k : Store) → List k.OneSet → ℕ → k.OneSet
set_in k xs s = get_or xs s k.none

abbrev pub line_in : (k : Store) → List k.OneSet → ℕ → ℕ → Line
line_in k xs s w = get_or (k.lines (set_in k xs s)) w empty_line

abbrev pub with_line : (k : Store) → List k.OneSet → ℕ → ℕ → Line → List k.OneSet
with_line k xs s w x = set xs s (k.put (set_in k xs s) w x)

abbrev pub level_of : (k : Store) → List k.OneSet → (ℕ → ℕ → ℕ) → List ℕ → Level
level_of k xs place m = record { line = λ s w. line_in k xs s w; byte = λ s w i. get_or m (place s w + i) 0 }

-- ---- the lengths, which the arrays' types give; and the rest of a table that is well formed whatever its lines hold
pub record Shaped (k : Store) (xs : List k.OneSet) : Type 0 where
  pub sets : length xs ≡ k.sets
  pub ways : (s : ℕ) → s < k.sets → length (k.lines (set_in k xs s)) ≡ k.ways

pub record Table (k : Store) (xs : List k.OneSet) : Type 0 where
  pub shaped : Shaped k xs
  pub ordered : (s : ℕ) → s < k.sets → k.Ordered (set_in k xs s)
  pub empty : (s w : ℕ) → (line_in k xs s w).valid ≡ false → line_in k xs s w ≡ empty_line

-- ---- what the tests over lists tell, element by element
pub any_none {ℓ} : {A : Type ℓ} (p : A → Bool) (d : A) → p d ≡ false → (xs : List A) → any_of p xs ≡ false → (i : ℕ) → p (get_or xs i d) ≡ false
unfolding any_of
any_none p d e [] h i = e
any_none p d e (x ∷ xs) h zero = bool (p x) (λ t. false-true (sym (rw t at h))) (λ t. t)
any_none p d e (x ∷ xs) h (suc i) = bool (p x) (λ t. false-true (sym (rw t at h))) (λ t. any_none p d e xs (rw t at h) i)

-- an element after a store is what was stored, at that index, or what it was
pub set_cases {ℓ} : {A : Type ℓ} (l : List A) (i j : ℕ) (a d : A) → ((j ≡ i) × (get_or (set l i a) j d ≡ a)) ⊎ (get_or (set l i a) j d ≡ get_or l j d)
set_cases [] i j a d = inr refl
set_cases (x ∷ xs) zero zero a d = inl (refl, refl)
set_cases (x ∷ xs) zero (suc j) a d = inr refl
set_cases (x ∷ xs) (suc i) zero a d = inr refl
set_cases (x ∷ xs) (suc i) (suc j) a d = ⊎_elim (λ p. inl (ap suc p.0, p.1)) inr (set_cases xs i j a d)

module _ (k : Store) (xs : List k.OneSet) where
  -- ---- one line replaced
  module _ (s w : ℕ) (x : Line) where
    abbrev new : k.OneSet
    new = k.put (set_in k xs s) w x

    -- what is read of the lines of set s afterwards
    new_line : (w' : ℕ) → get_or (k.lines new) w' empty_line ≡ get_or (set (k.lines (set_in k xs s)) w x) w' empty_line
    new_line w' = ap (λ (l : List Line). get_or l w' empty_line) (k.put-lines (set_in k xs s) w x)

    pub line_same : s < length xs → w < length (k.lines (set_in k xs s)) → line_in k (with_line k xs s w x) s w ≡ x
    line_same h j =
        ap (λ (v : k.OneSet). get_or (k.lines v) w empty_line) (get_or-set_same xs s new k.none h)
        ∙ new_line w ∙ get_or-set_same (k.lines (set_in k xs s)) w x empty_line j

    pub line-other-set : (s' w' : ℕ) → s' ≢ s → line_in k (with_line k xs s w x) s' w' ≡ line_in k xs s' w'
    line-other-set s' w' n = ap (λ (v : k.OneSet). get_or (k.lines v) w' empty_line) (get_or-set_other xs s s' new k.none n)

    pub line-other-way : (s' w' : ℕ) → w' ≢ w → line_in k (with_line k xs s w x) s' w' ≡ line_in k xs s' w'
    line-other-way s' w' n =
        ⊎_elim
        (λ p. ap (λ (v : k.OneSet). get_or (k.lines v) w' empty_line) p.1
        ∙ new_line w'
        ∙ get_or-set_other (k.lines (set_in k xs s)) w w' x empty_line n
        ∙ ap (λ (i : ℕ). line_in k xs i w') (sym p.0))
        (λ p. ap (λ (v : k.OneSet). get_or (k.lines v) w' empty_line) p)
        (set_cases xs s s' new k.none)

    -- a line afterwards is the new one or what it was; no lengths are needed
    pub line-cases : (s' w' : ℕ) → (line_in k (with_line k xs s w x) s' w' ≡ x) ⊎ (line_in k (with_line k xs s w x) s' w' ≡ line_in k xs s' w')
    line-cases s' w' =
        ⊎_elim
        (λ p. let e = ap (λ (v : k.OneSet). get_or (k.lines v) w' empty_line) p.1 ∙ new_line w' in
        ⊎_elim (λ q. inl (e ∙ q.1)) (λ q. inr (e ∙ q ∙ ap (λ (i : ℕ). line_in k xs i w') (sym p.0)))
        (set_cases (k.lines (set_in k xs s)) w w' x empty_line))
        (λ p. inr (ap (λ (v : k.OneSet). get_or (k.lines v) w' empty_line) p))
        (set_cases xs s s' new k.none)

    pub shaped-line : Shaped k xs → Shaped k (with_line k xs s w x)
    shaped-line h =
        record {
          sets = length-set xs s new ∙ h.sets;
          ways = λ s' i.
              ⊎_elim
              (λ p. ap (λ (v : k.OneSet). length (k.lines v)) p.1
              ∙ ap length (k.put-lines (set_in k xs s) w x)
              ∙ length-set (k.lines (set_in k xs s)) w x
              ∙ ap (λ (j : ℕ). length (k.lines (set_in k xs j))) (sym p.0))
              (λ p. ap (λ (v : k.OneSet). length (k.lines v)) p)
              (set_cases xs s s' new k.none)
              ∙ h.ways s' i;
        }

    pub table-line : Table k xs → (x.valid ≡ false → x ≡ empty_line) → Table k (with_line k xs s w x)
    table-line h v =
        record {
          shaped = shaped-line h.shaped;
          ordered = λ s' i.
              ⊎_elim
              (λ p. let e = p.0 in
              subst (λ (y : k.OneSet). k.Ordered y) (sym p.1) (k.put-ordered (set_in k xs s) w x (h.ordered s (rw e at i))))
              (λ p. subst (λ (y : k.OneSet). k.Ordered y) (sym p) (h.ordered s' i))
              (set_cases xs s s' new k.none);
          empty = λ s' w' i.
              ⊎_elim (λ p. p ∙ v (sym (ap (λ (r : Line). r.valid) p) ∙ i)) (λ p. p ∙ h.empty s' w' (sym (ap (λ (r : Line). r.valid) p) ∙ i))
              (line-cases s' w');
        }

    -- the level with that line replaced, its other slots' bytes being as they were
    pub replaced-line : Shaped k xs → s < k.sets → w < k.ways → (n : ℕ) (place : ℕ → ℕ → ℕ) (m m' : List ℕ) →
        ((s' w' : ℕ) → Other s w s' w' → Valid (level_of k xs place m) s' w' → (i : ℕ) → i < n → get_or m' (place s' w' + i) 0 ≡ get_or m (place s' w' + i) 0)
        →
        Replaced n (level_of k xs place m) (level_of k (with_line k xs s w x) place m') s w x
    replaced-line h hs hw n place m m' r =
        record {
          here = let a = h.sets in let b = h.ways s hs in line_same (omega arith) (omega arith);
          others = λ s' w' o.
              bool (eqb s' s)
              (λ t. line-other-way s' w' (λ j. o (eqb-true s' s t, j)))
              (λ t. line-other-set s' w' (eqb-false s' s t));
          bytes = r;
        }

  -- ---- a set replaced by one with the same lines
  module _ (s : ℕ) (v : k.OneSet) (same : k.lines v ≡ k.lines (set_in k xs s)) where
    lines-used {ℓ} : {A : Type ℓ} (f : List Line → A) (s' : ℕ) → f (k.lines (set_in k (set xs s v) s')) ≡ f (k.lines (set_in k xs s'))
    lines-used f s' =
        ⊎_elim
        (λ p. ap (λ (y : k.OneSet). f (k.lines y)) p.1 ∙ ap f same ∙ ap (λ (i : ℕ). f (k.lines (set_in k xs i))) (sym p.0))
        (λ p. ap (λ (y : k.OneSet). f (k.lines y)) p)
        (set_cases xs s s' v k.none)

    pub line-used : (s' w' : ℕ) → line_in k (set xs s v) s' w' ≡ line_in k xs s' w'
    line-used s' w' = lines-used (λ (l : List Line). get_or l w' empty_line) s'

    pub table-used : Table k xs → (s < k.sets → k.Ordered v) → Table k (set xs s v)
    table-used h o =
        record {
          shaped = record { sets = length-set xs s v ∙ h.shaped.sets; ways = λ s' i. lines-used length s' ∙ h.shaped.ways s' i };
          ordered = λ s' i.
              ⊎_elim
              (λ p. let e = p.0 in subst (λ (y : k.OneSet). k.Ordered y) (sym p.1) (o (rw e at i)))
              (λ p. subst (λ (y : k.OneSet). k.Ordered y) (sym p) (h.ordered s' i))
              (set_cases xs s s' v k.none);
          empty = λ s' w' i. let e = line-used s' w' in e ∙ h.empty s' w' (sym (ap (λ (r : Line). r.valid) e) ∙ i);
        }

  -- ---- a slot is one of those there are, or holds nothing
  none-line : (w : ℕ) → get_or (k.lines k.none) w empty_line ≡ empty_line
  none-line w = ap (λ (l : List Line). get_or l w empty_line) k.none-lines

  pub slot_cases {ℓ} : {A : Type ℓ} → Shaped k xs → (s w : ℕ) → (s < k.sets → w < k.ways → A) → (line_in k xs s w ≡ empty_line → A) → A
  slot_cases h s w f g =
      bool (ltb s k.sets)
      (λ t. let i = ltb-true s k.sets t in let n = h.ways s i in
      bool (ltb w k.ways) (λ u. f i (ltb-true w k.ways u))
      (λ u. let j = ltb-false w k.ways u in g (get_or-eq_default (k.lines (set_in k xs s)) empty_line {n = w} (omega arith))))
      (λ t. let i = ltb-false s k.sets t in let n = h.sets in
      g (ap (λ (v : k.OneSet). get_or (k.lines v) w empty_line) (get_or-eq_default xs k.none {n = s} (omega arith)) ∙ none-line w))

  -- ---- a test that finds no line of the table finds none in any slot
  pub none_found : (p : Line → Bool) → p empty_line ≡ false → any_of (λ (v : k.OneSet). any_of p (k.lines v)) xs ≡ false → (s w : ℕ) →
      p (line_in k xs s w) ≡ false
  unfolding any_of
  none_found p e h s w =
      any_none p empty_line e (k.lines (set_in k xs s))
      (any_none (λ (v : k.OneSet). any_of p (k.lines v)) k.none (ap (λ (l : List Line). any_of p l) k.none-lines) xs h s) w

-- ---- how many lines are dirty (02, U5)
abbrev bit : Bool → ℕ
bit b = cond b 1 0

bit-most : (b : Bool) → bit b ≤ 1
bit-most true = omega arith
bit-most false = omega arith

-- of a list of lines: one is replaced; no more than there are
lines-set : (l : List Line) (w : ℕ) (x : Line) → w < length l → dirty_lines (set l w x) + bit (get_or l w empty_line).dirty ≡ dirty_lines l + bit x.dirty
unfolding dirty_lines
lines-set [] w x h = absurd (omega arith)
lines-set (y ∷ l) zero x h = omega arith
lines-set (y ∷ l) (suc w) x h = let r = lines-set l w x (omega arith) in omega arith

lines-most : (l : List Line) → dirty_lines l ≤ length l
unfolding dirty_lines
lines-most [] = omega arith
lines-most (x ∷ l) = let r = lines-most l in let b = bit-most x.dirty in omega arith

-- of a list of sets: one is replaced, by a set with the same lines or another; no more than m in each
module _ {A : Type 0} (f : A → List Line) (d : A) where
  sets-set : (xs : List A) (s : ℕ) (v : A) → s < length xs → dirty_in f (set xs s v) + dirty_lines (f (get_or xs s d)) ≡ dirty_in f xs + dirty_lines (f v)
  unfolding dirty_in
  sets-set [] s v h = absurd (omega arith)
  sets-set (x ∷ xs) zero v h = omega arith
  sets-set (x ∷ xs) (suc s) v h = let r = sets-set xs s v (omega arith) in omega arith

  sets-used : (xs : List A) (s : ℕ) (v : A) → f v ≡ f (get_or xs s d) → dirty_in f (set xs s v) ≡ dirty_in f xs
  unfolding dirty_in
  sets-used [] s v e = refl
  sets-used (x ∷ xs) zero v e = ap (λ (l : List Line). dirty_lines l + dirty_in f xs) e
  sets-used (x ∷ xs) (suc s) v e = ap (λ (n : ℕ). dirty_lines (f x) + n) (sets-used xs s v e)

  sets-most : (m : ℕ) (xs : List A) → ((s : ℕ) → s < length xs → length (f (get_or xs s d)) ≤ m) → dirty_in f xs ≤ length xs * m
  unfolding dirty_in
  sets-most m [] h = omega arith
  sets-most m (x ∷ xs) h =
      let a = h 0 (omega arith) in let b = lines-most (f x) in let r = sets-most m xs (λ s k. h (suc s) (omega arith)) in
      let e = suc-mul (length xs) m in omega arith

-- a right count that moves stays right, where no right one passes `most`: neither bound of `counted` is met
moved-right : (most n n' : ℕ) (d e : Bool) → n' + bit d ≡ n + bit e → n' ≤ most → counted most d e n ≡ n'
moved-right most n n' true true c m = counted_same most n true true refl ∙ omega arith
moved-right most n n' true false c m = counted-less most n true false refl refl ∙ omega arith
moved-right most n n' false true c m = counted-more most n false true refl refl (omega arith) ∙ omega arith
moved-right most n n' false false c m = counted_same most n false false refl ∙ omega arith

-- the count of a table where one line is replaced
module _ (k : Store) (xs : List k.OneSet) where
  pub count_most : Shaped k xs → dirty_in k.lines xs ≤ k.sets * k.ways
  count_most h =
      let n = h.sets in
      let r = sets-most k.lines k.none k.ways xs (λ s i. let e = h.ways s (omega arith) in omega arith) in
      subst (λ (j : ℕ). dirty_in k.lines xs ≤ j * k.ways) n r

  pub count-used : (s : ℕ) (v : k.OneSet) → k.lines v ≡ k.lines (set_in k xs s) → dirty_in k.lines (set xs s v) ≡ dirty_in k.lines xs
  count-used s v e = sets-used k.lines k.none xs s v e

module _ (k : Store) (xs : List k.OneSet) (s w : ℕ) (x : Line) (h : Shaped k xs) (hs : s < k.sets) (hw : w < k.ways) where
  replaced-count : dirty_in k.lines (with_line k xs s w x) + bit (line_in k xs s w).dirty ≡ dirty_in k.lines xs + bit x.dirty
  replaced-count =
      let n = h.sets in let m = h.ways s hs in
      let a = sets-set k.lines k.none xs s (k.put (set_in k xs s) w x) (omega arith) in
      let b = lines-set (k.lines (set_in k xs s)) w x (omega arith) in
      let e = ap dirty_lines (k.put-lines (set_in k xs s) w x) in omega arith

  pub count-line : counted (k.sets * k.ways) (line_in k xs s w).dirty x.dirty (dirty_in k.lines xs) ≡ dirty_in k.lines (with_line k xs s w x)
  count-line =
      moved-right (k.sets * k.ways) (dirty_in k.lines xs) (dirty_in k.lines (with_line k xs s w x)) (line_in k xs s w).dirty x.dirty replaced-count
      (count_most k (with_line k xs s w x) (shaped-line k xs s w x h))

pub count-fresh : {A : Type 0} (f : A → List Line) (v : A) → dirty_lines (f v) ≡ 0 → (n : ℕ) → dirty_in f (replicate n v) ≡ 0
unfolding dirty_in
count-fresh f v e zero = refl
count-fresh f v e (suc n) = let r = count-fresh f v e n in omega arith

-- ---- a table of equal sets, all of whose lines are empty
module _ (k : Store) (v : k.OneSet) (n : ℕ) (all : (w : ℕ) → get_or (k.lines v) w empty_line ≡ empty_line) where
  pub fresh-line : (s w : ℕ) → line_in k (replicate n v) s w ≡ empty_line
  fresh-line s w =
      bool (ltb s n)
      (λ t. ap (λ (y : k.OneSet). get_or (k.lines y) w empty_line) (get_or-replicate n s v k.none (ltb-true s n t)) ∙ all w)
      (λ t. let h = ltb-false s n t in let l = length-replicate n v in
      ap (λ (y : k.OneSet). get_or (k.lines y) w empty_line) (get_or-eq_default (replicate n v) k.none {n = s} (omega arith))
      ∙ ap (λ (l : List Line). get_or l w empty_line) k.none-lines)

  pub fresh-table : n ≡ k.sets → length (k.lines v) ≡ k.ways → k.Ordered v → Table k (replicate n v)
  fresh-table e l o =
      record {
        shaped = record {
          sets = length-replicate n v ∙ e;
          ways = λ s i. ap (λ (y : k.OneSet). length (k.lines y)) (get_or-replicate n s v k.none (rw e i)) ∙ l;
        };
        ordered = λ s i. subst (λ (y : k.OneSet). k.Ordered y) (sym (get_or-replicate n s v k.none (rw e i))) o;
        empty = λ s w _. fresh-line s w;
      }
