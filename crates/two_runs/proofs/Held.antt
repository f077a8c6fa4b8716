-- The lines of one cache in two runs that have the same lines: each valid line stands where it may, and its bytes are
-- an area for its address (`Held`). Shown once for L1D and L2 (and a cache to come): what is left of it when lines
-- leave or change only in order or dirtiness, and when one slot is filled or written.
-- Why: a slot is the one that was changed or another (`replaces`), and slots do not overlap. Which line a slot holds
-- after a change comes from the list alone: no length of the record's arrays is asked for.
use Prim.Native.Nat.{ℕ, zero, suc, ◌<◌}
use mathlib.Core.Bool.{true}
use mathlib.Core.Path.{◌≡◌, refl, sym, ap, ◌∙◌}
use mathlib.Core.Logic.{◌⊎◌, inl, inr, ⊎_elim}
use mathlib.Core.List.{List, [], ◌∷◌}
use native.Mathlib.Omega.{arith}
use lib.ListN.{length, get_or, set, replicate, length-set, get_or-eq_default}
use lib.Seq.{get_or-set_same}
use lib.Dec.{eqb, ltb}
use borrow.Author.Tests.{eqb-true, eqb-false, ltb-true, ltb-false}
use Rattle.model.specs.Lines.{empty_line}
use Rattle.model.specs.Laws.{bool, false-true}
use Rattle.model.specs.declared.Line.{Line}
use Rattle.agreement.proofs.Level.{Same, Other, same-slot}
use Rattle.agreement.proofs.Tables.{Store, set_in, line_in, with_line, line-other-set, line-other-way}
use Rattle.two_runs.proofs.Areas.{Pairing, Area}

-- ---- which line a slot holds after one was replaced
-- an element after a store at its index: what was stored, or the default of a list too short for it
pub set_here {ℓ} : {A : Type ℓ} (l : List A) (i : ℕ) (a d : A) → (get_or (set l i a) i d ≡ a) ⊎ (get_or (set l i a) i d ≡ d)
set_here [] i a d = inr refl
set_here (x ∷ xs) zero a d = inl refl
set_here (x ∷ xs) (suc i) a d = set_here xs i a d

-- an element of a list that is all default
pub all-default {ℓ} : {A : Type ℓ} (n i : ℕ) (d : A) → get_or (replicate n d) i d ≡ d
all-default zero i d = refl
all-default (suc n) zero d = refl
all-default (suc n) (suc i) d = all-default n i d

-- a line that is valid afterwards is the new one in its slot, or an old one in another
abbrev pub Replaces : (ℕ → ℕ → Line) → (ℕ → ℕ → Line) → ℕ → ℕ → Line → Type 0
Replaces line line' s w x =
    (s' w' : ℕ) → (line' s' w').valid ≡ true → (Same s w s' w' × (line' s' w' ≡ x)) ⊎ (Other s w s' w' × (line' s' w' ≡ line s' w'))

module _ (k : Store) (xs : List k.OneSet) (s w : ℕ) (x : Line) where
  line-here : (line_in k (with_line k xs s w x) s w ≡ x) ⊎ (line_in k (with_line k xs s w x) s w ≡ empty_line)
  line-here =
      let v = k.put (set_in k xs s) w x in
      ⊎_elim
      (λ e. let e' : line_in k (with_line k xs s w x) s w ≡ get_or (set (k.lines (set_in k xs s)) w x) w empty_line
      = ap (λ (y : k.OneSet). get_or (k.lines y) w empty_line) e ∙ ap (λ (l : List Line). get_or l w empty_line) (k.put-lines (set_in k xs s) w x) in
      ⊎_elim (λ g. inl (e' ∙ g)) (λ g. inr (e' ∙ g)) (set_here (k.lines (set_in k xs s)) w x empty_line))
      (λ e. inr (ap (λ (y : k.OneSet). get_or (k.lines y) w empty_line) e ∙ ap (λ (l : List Line). get_or l w empty_line) k.none-lines))
      (set_here xs s v k.none)

  pub replaces : Replaces (line_in k xs) (line_in k (with_line k xs s w x)) s w x
  replaces s' w' t =
      same-slot s w s' w'
      (λ e. let e₀ = e.0 in let e₁ = e.1 in inl (
        e,
        rw (e₀, e₁)
            (⊎_elim (λ g. g) (λ g. false-true (sym (ap (λ (l : Line). l.valid) g) ∙ (rw (e₀, e₁) at t))) line-here),
      ))
      (λ o. inr (
        o,
        bool (eqb s' s)
            (λ e. line-other-way k xs s w x s' w' (λ j. o (eqb-true s' s e, j)))
            (λ e. line-other-set k xs s w x s' w' (eqb-false s' s e)),
      ))

-- ---- the arrays have this slot: one that holds a line, or would hold a line put there
pub record Exists (k : Store) (xs : List k.OneSet) (s w : ℕ) : Type 0 where
  pub set : s < length xs
  pub way : w < length (k.lines (set_in k xs s))

pub valid-exists : (k : Store) (xs : List k.OneSet) (s w : ℕ) → (line_in k xs s w).valid ≡ true → Exists k xs s w
valid-exists k xs s w v =
    bool (ltb s (length xs))
    (λ t. bool (ltb w (length (k.lines (set_in k xs s))))
    (λ u. record { set = ltb-true s (length xs) t; way = ltb-true w (length (k.lines (set_in k xs s))) u })
    (λ u. let e = get_or-eq_default (k.lines (set_in k xs s)) empty_line {n = w} (ltb-false w (length (k.lines (set_in k xs s))) u) in
    false-true (sym (ap (λ (l : Line). l.valid) e) ∙ v)))
    (λ t. let e = ap (λ (y : k.OneSet). get_or (k.lines y) w empty_line) (get_or-eq_default xs k.none {n = s} (ltb-false s (length xs) t))
    ∙ ap (λ (l : List Line). get_or l w empty_line) k.none-lines in
    false-true (sym (ap (λ (l : Line). l.valid) e) ∙ v))

module _ (k : Store) (xs : List k.OneSet) (s w : ℕ) where
  -- it was there before set s was replaced by one with as many lines
  exists-before : (v : k.OneSet) → length (k.lines v) ≡ length (k.lines (set_in k xs s)) → Exists k (set xs s v) s w → Exists k xs s w
  exists-before v l h =
      let h₀ = h.set in let e = length-set xs s v in
      let h₁ : s < length xs = omega arith in
      record { set = h₁; way = rw (get_or-set_same xs s v k.none h₁, l) at h.way }

  pub exists-used : (v : k.OneSet) → k.lines v ≡ k.lines (set_in k xs s) → Exists k (set xs s v) s w → Exists k xs s w
  exists-used v l = exists-before v (ap length l)

  pub exists-put : (x : Line) → Exists k (with_line k xs s w x) s w → Exists k xs s w
  exists-put x =
      exists-before (k.put (set_in k xs s) w x) (ap length (k.put-lines (set_in k xs s) w x) ∙ length-set (k.lines (set_in k xs s)) w x)

-- ---- the lines held: `ok s w b` says where the line at b may stand, `at s w` where its n bytes begin
pub record Held (P : Pairing) (ok : ℕ → ℕ → ℕ → Type 0) (n : ℕ) (line : ℕ → ℕ → Line) (at : ℕ → ℕ → ℕ) (m m' : List ℕ) : Type 0 where
  pub placed : (s w : ℕ) → (line s w).valid ≡ true → ok s w (line s w).address
  pub bytes : (s w : ℕ) → (line s w).valid ≡ true → Area P (line s w).address (at s w) n m m'

module _ {P : Pairing} {ok : ℕ → ℕ → ℕ → Type 0} {n : ℕ} {line : ℕ → ℕ → Line} {at : ℕ → ℕ → ℕ} {m m' : List ℕ} (q : Held P ok n line at m m') where
  -- each valid line was there before, at its address
  pub held-lines : (line' : ℕ → ℕ → Line) →
      ((s w : ℕ) → (line' s w).valid ≡ true → ((line s w).valid ≡ true) × ((line' s w).address ≡ (line s w).address)) → Held P ok n line' at m m'
  held-lines line' h =
      record {
        placed = λ s w v. let g = h s w v in rw g.1 (q.placed s w g.0);
        bytes = λ s w v. let g = h s w v in rw g.1 (q.bytes s w g.0);
      }

  was : (l l' : Line) → l' ≡ l → l'.valid ≡ true → (l.valid ≡ true) × (l'.address ≡ l.address)
  was l l' e v = (sym (ap (λ (x : Line). x.valid) e) ∙ v, ap (λ (x : Line). x.address) e)

  pub held_same : (line' : ℕ → ℕ → Line) → ((s w : ℕ) → line' s w ≡ line s w) → Held P ok n line' at m m'
  held_same line' h = held-lines line' (λ s w v. was (line s w) (line' s w) (h s w) v)

  pub held-emptied : (line' : ℕ → ℕ → Line) (s w : ℕ) → Replaces line line' s w empty_line → Held P ok n line' at m m'
  held-emptied line' s w h =
      held-lines line'
      (λ s' w' v. ⊎_elim (λ g. false-true (sym (ap (λ (l : Line). l.valid) g.1) ∙ v)) (λ g. was (line s' w') (line' s' w') g.1 v) (h s' w' v))

  -- one slot gets line x and its bytes; the other lines keep theirs
  pub held-put : (line' : ℕ → ℕ → Line) (s w : ℕ) (x : Line) → Replaces line line' s w x → (d d' : List ℕ) →
      ((line' s w).valid ≡ true → ok s w x.address) → ((line' s w).valid ≡ true → Area P x.address (at s w) n d d') →
      ((s' w' : ℕ) → Other s w s' w' → (line s' w').valid ≡ true → Area P (line s' w').address (at s' w') n d d') →
      Held P ok n line' at d d'
  held-put line' s w x h d d' o a r =
      record {
        placed = λ s' w' v.
            ⊎_elim (λ g. let e₀ = g.0.0 in let e₁ = g.0.1 in rw (g.1, e₀, e₁) (o (rw (e₀, e₁) at v)))
            (λ g. let e = g.1 in rw e (q.placed s' w' (rw e at v))) (h s' w' v);
        bytes = λ s' w' v.
            ⊎_elim (λ g. let e₀ = g.0.0 in let e₁ = g.0.1 in rw (g.1, e₀, e₁) (a (rw (e₀, e₁) at v)))
            (λ g. let e = g.1 in rw e (r s' w' g.0 (rw e at v))) (h s' w' v);
      }

-- nothing is held
pub held_none : {P : Pairing} {ok : ℕ → ℕ → ℕ → Type 0} {n : ℕ} {line : ℕ → ℕ → Line} {at : ℕ → ℕ → ℕ} {m m' : List ℕ} →
    ((s w : ℕ) → line s w ≡ empty_line) → Held P ok n line at m m'
held_none h =
    record {
      placed = λ s w v. false-true (sym (ap (λ (l : Line). l.valid) (h s w)) ∙ v);
      bytes = λ s w v. false-true (sym (ap (λ (l : Line). l.valid) (h s w)) ∙ v);
    }
