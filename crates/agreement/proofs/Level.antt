-- One cache level as two functions, of any line length and any number of sets and ways: which line each slot (a set
-- and a way) holds, and the slot's bytes. It shows what a step that replaces one slot's line keeps: a sound level
-- stays sound, and an address that no dirty line holds after it was held by none before it, the slot itself apart.
-- Each lemma holds because a slot is either the replaced one or as it was (`same-slot`).
-- L1D and L2 are both such levels; nothing here speaks of lists.
use Prim.Native.Nat.{ℕ, ◌*◌, ◌/◌, ◌<◌}
use mathlib.Core.Bool.{Bool, true}
use mathlib.Core.Path.{◌≡◌, refl, sym, ap, ◌∙◌}
use mathlib.Core.Logic.{◌≢◌}
use lib.Dec.{eqb}
use borrow.Author.Tests.{eqb-true, eqb-false}
use Rattle.model.specs.Lines.{empty_line, line_of}
use Rattle.model.specs.Laws.{bool, false-true}
use Rattle.model.specs.declared.Line.{Line}

-- line and bytes by set and way: `line s w`, `byte s w i`
pub record Level : Type 0 where
  pub line : ℕ → ℕ → Line
  pub byte : ℕ → ℕ → ℕ → ℕ

-- the slot in set s, way w holds a line; the same slot; another one
abbrev pub Valid : Level → ℕ → ℕ → Type 0
Valid x s w = (x.line s w).valid ≡ true

abbrev pub Same : ℕ → ℕ → ℕ → ℕ → Type 0
Same s w s' w' = (s' ≡ s) × (w' ≡ w)

abbrev pub Other : ℕ → ℕ → ℕ → ℕ → Type 0
Other s w s' w' = Same s w s' w' → ⊥

-- no dirty line holds address a; no line at all does (n: the line's length)
abbrev pub NoDirty : ℕ → Level → ℕ → Type 0
NoDirty n x a = (s w : ℕ) → Valid x s w → (x.line s w).dirty ≡ true → (x.line s w).address ≢ a / n * n

abbrev pub Free : ℕ → Level → ℕ → Type 0
Free n x a = (s w : ℕ) → Valid x s w → (x.line s w).address ≢ a / n * n

-- no line stands in two slots, and each valid line stands where P lets it stand
pub record Sound (P : ℕ → ℕ → ℕ → Type 0) (x : Level) : Type 0 where
  pub once : (s w s' w' : ℕ) → Valid x s w → Valid x s' w' → (x.line s w).address ≡ (x.line s' w').address → Same s w s' w'
  pub place : (s w : ℕ) → Valid x s w → P s w (x.line s w).address

-- slot s, w becomes l; every other slot stays, with its bytes
pub record Replaced (n : ℕ) (x x' : Level) (s w : ℕ) (l : Line) : Type 0 where
  pub here : x'.line s w ≡ l
  pub others : (s' w' : ℕ) → Other s w s' w' → x'.line s' w' ≡ x.line s' w'
  pub bytes : (s' w' : ℕ) → Other s w s' w' → Valid x s' w' → (i : ℕ) → i < n → x'.byte s' w' i ≡ x.byte s' w' i

-- a slot is this one or another
pub same-slot {ℓ} : {A : Type ℓ} (s w s' w' : ℕ) → (Same s w s' w' → A) → (Other s w s' w' → A) → A
same-slot s w s' w' f g =
    bool (eqb s' s)
    (λ e. bool (eqb w' w) (λ k. f (eqb-true s' s e, eqb-true w' w k)) (λ k. g (λ y. eqb-false w' w k y.1)))
    (λ e. g (λ y. eqb-false s' s e y.0))

module _ (n : ℕ) (x x' : Level) (s w : ℕ) (l : Line) (u : Replaced n x x' s w l) where
  -- the line of the slot, wherever it is named
  pub replaced-at : (s' w' : ℕ) → Same s w s' w' → x'.line s' w' ≡ l
  replaced-at s' w' e = rw (e.0, e.1) u.here

  -- a sound level stays sound, if the new line may stand there and stands nowhere else
  pub replaced-sound : (P : ℕ → ℕ → ℕ → Type 0) → Sound P x → (l.valid ≡ true → P s w l.address) →
      (l.valid ≡ true → (s' w' : ℕ) → Other s w s' w' → Valid x s' w' → (x.line s' w').address ≢ l.address) → Sound P x'
  replaced-sound P q p o =
      record {
        once = λ s₁ w₁ s₂ w₂ v₁ v₂ e.
            same-slot s w s₁ w₁
            (λ k₁. same-slot s w s₂ w₂
            (λ k₂. (k₂.0 ∙ sym k₁.0, k₂.1 ∙ sym k₁.1))
            (λ k₂. let t₁ = replaced-at s₁ w₁ k₁ in let t₂ = u.others s₂ w₂ k₂ in absurd
            (o (rw t₁ at v₁) s₂ w₂ k₂ (rw t₂ at v₂) (sym (rw (t₁, t₂) at e)))))
            (λ k₁. let t₁ = u.others s₁ w₁ k₁ in same-slot s w s₂ w₂
            (λ k₂. let t₂ = replaced-at s₂ w₂ k₂ in absurd (o (rw t₂ at v₂) s₁ w₁ k₁ (rw t₁ at v₁) (rw (t₁, t₂) at e)))
            (λ k₂. let t₂ = u.others s₂ w₂ k₂ in q.once s₁ w₁ s₂ w₂ (rw t₁ at v₁) (rw t₂ at v₂) (rw (t₁, t₂) at e)));
        place = λ s' w' v.
            same-slot s w s' w'
            (λ k. let t = replaced-at s' w' k in rw (t, k.0, k.1) (p (rw t at v)))
            (λ k. let t = u.others s' w' k in rw t (q.place s' w' (rw t at v)));
      }

  -- what no dirty line holds after it, none held before, if the slot's old line did not
  pub replaced-nodirty : (a : ℕ) → (Valid x s w → (x.line s w).dirty ≡ true → (x.line s w).address ≢ a / n * n) → NoDirty n x' a → NoDirty n x a
  replaced-nodirty a h c s' w' v d e =
      same-slot s w s' w'
      (λ k. h (rw (k.0, k.1) at v) (rw (k.0, k.1) at d) (rw (k.0, k.1) at e))
      (λ k. let t = u.others s' w' k in c s' w' (rw t v) (rw t d) (rw t e))

-- the slot becomes empty: what is valid after it was valid before, elsewhere, with its bytes
module _ (n : ℕ) (x x' : Level) (s w : ℕ) (u : Replaced n x x' s w empty_line) where
  pub emptied-other : (s' w' : ℕ) → Valid x' s' w' → Other s w s' w'
  emptied-other s' w' v k = false-true (sym (ap (λ (l : Line). l.valid) (replaced-at n x x' s w empty_line u s' w' k)) ∙ v)

  pub emptied-line : (s' w' : ℕ) → Valid x' s' w' → x'.line s' w' ≡ x.line s' w'
  emptied-line s' w' v = u.others s' w' (emptied-other s' w' v)

  pub emptied-was : (s' w' : ℕ) → Valid x' s' w' → Valid x s' w'
  emptied-was s' w' v = rw (emptied-line s' w' v) at v

  pub emptied-sound : (P : ℕ → ℕ → ℕ → Type 0) → Sound P x → Sound P x'
  emptied-sound P q = replaced-sound n x x' s w empty_line u P q (λ v. false-true v) (λ v. false-true v)

-- the slot's line stays, clean or dirty now
module _ (n : ℕ) (x x' : Level) (s w : ℕ) (d : Bool) (k : Valid x s w) (u : Replaced n x x' s w (line_of (x.line s w).address d)) where
  pub kept_at : (s' w' : ℕ) → Same s w s' w' → x'.line s' w' ≡ line_of (x.line s w).address d
  kept_at s' w' e = replaced-at n x x' s w (line_of (x.line s w).address d) u s' w' e

  pub kept-sound : (P : ℕ → ℕ → ℕ → Type 0) → Sound P x → Sound P x'
  kept-sound P q =
      replaced-sound n x x' s w (line_of (x.line s w).address d) u P q (λ _. q.place s w k)
      (λ _ s' w' o k' e. o (q.once s w s' w' k k' (sym e)))

  slot : (s' w' : ℕ) → Same s w s' w' → x.line s' w' ≡ x.line s w
  slot s' w' z = rw (z.0, z.1) refl

  -- every slot is valid or not as it was, and has the address it had
  pub kept-valid : (s' w' : ℕ) → (x'.line s' w').valid ≡ (x.line s' w').valid
  kept-valid s' w' =
      same-slot s w s' w'
      (λ z. let e = kept_at s' w' z in rw (e, slot s' w' z) (sym k))
      (λ z. ap (λ (l : Line). l.valid) (u.others s' w' z))

  pub kept-address : (s' w' : ℕ) → (x'.line s' w').address ≡ (x.line s' w').address
  kept-address s' w' =
      same-slot s w s' w'
      (λ z. let e = kept_at s' w' z in rw e (ap (λ (l : Line). l.address) (sym (slot s' w' z))))
      (λ z. ap (λ (l : Line). l.address) (u.others s' w' z))

  -- a line is held after it where it was held before
  pub kept-is : (s' w' : ℕ) → Valid x s' w' → Valid x' s' w' × ((x'.line s' w').address ≡ (x.line s' w').address)
  kept-is s' w' v = (kept-valid s' w' ∙ v, kept-address s' w')

  -- and the other way round
  pub kept-was : (s' w' : ℕ) → Valid x' s' w' → Valid x s' w' × ((x'.line s' w').address ≡ (x.line s' w').address)
  kept-was s' w' v = (sym (kept-valid s' w') ∙ v, kept-address s' w')
