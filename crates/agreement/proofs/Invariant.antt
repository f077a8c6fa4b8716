-- What holds between L1D, L2, the memory behind them and flat memory (`Invariant`), and that each small step of a
-- cache keeps it.
-- Why it holds: it says of each PLACE whether its bytes are right. L1D's always are; an L2 byte is unless a dirty L1D
-- line holds its address; a byte of SRAM or of external memory is unless a dirty line of either level holds it. So a
-- step need only be looked at where it moves or drops bytes.
-- A step is given by what it does to lines and bytes, slot by slot (`Replaced`); nothing here speaks of lists, sets
-- of the record or modes.
-- "Right" is a parameter F: with `c ≡ f a` the lemmas give agreement with flat memory f, with a trivial F that the
-- record stays well formed. What dirty lines hide is part of it too (`Behind`), for lists in which lines are dropped.
use Prim.Native.Nat.{ℕ, ◌+◌, ◌*◌, ◌/◌, ◌%◌, ◌≤◌, ◌<◌}
use mathlib.Core.Bool.{Bool, true, false}
use mathlib.Core.Path.{◌≡◌, refl, sym, ap, ◌∙◌}
use mathlib.Core.Logic.{◌≢◌}
use native.Mathlib.Omega.{arith}
use lib.Dec.{eqb}
use borrow.Author.Tests.{eqb-true, eqb-false}
use Rattle.model.specs.Memories.{external_base}
use Rattle.model.specs.Lines.{empty_line, line_of}
use Rattle.model.specs.Laws.{bool, false-true}
use Rattle.model.specs.declared.Line.{Line}
use Rattle.agreement.proofs.Behind.{carry_held, l2-inside, behind-memory, behind-slot}
pub use Rattle.agreement.proofs.Behind.{Allowed, seen_only, carry, Grows, grows-refl, Layout, Inside, L1dPlaced, L2Placed, InL2Line, Behind}
use Rattle.agreement.proofs.Level.{Level, Valid, NoDirty, Free, Sound, Replaced, same-slot, replaced-at, replaced-sound, replaced-nodirty, emptied-other, emptied-line, emptied-was, emptied-sound, kept_at, kept-sound, kept-is, kept-was}

-- the invariant: x is L1D, y is L2, mem the memory behind both, by address
pub record Invariant (g : Layout) (x y : Level) (mem : ℕ → ℕ) (F : Allowed) : Type 0 where
  pub l1d_sound : Sound (L1dPlaced g) x
  pub l2_sound : Sound (L2Placed g) y
  pub inclusion : (s w : ℕ) → Valid x s w → external_base ≤ (x.line s w).address → g.sets ≢ 0 → InL2Line y (x.line s w).address
  pub l1d_right : (s w : ℕ) → Valid x s w → (i : ℕ) → i < 64 → F.right ((x.line s w).address + i) (x.byte s w i)
  pub l2_right : (s w : ℕ) → Valid y s w → (i : ℕ) → i < 128 → NoDirty 64 x ((y.line s w).address + i) → F.right ((y.line s w).address + i) (y.byte s w i)
  pub memory_right : (a : ℕ) → Inside g a → NoDirty 64 x a → NoDirty 128 y a → F.right a (mem a)
  pub behind : Behind g y mem F

-- an address in the 128-byte line at b
line-at-128 : (b i : ℕ) → b % 128 ≡ 0 → i < 128 → (b + i) / 128 * 128 ≡ b
line-at-128 b i e h = omega arith

-- the L2 line t, v stays: what L2 holds it holds after it
module _ (y y' : Level) (t v : ℕ) (d : Bool) (k : Valid y t v) (u : Replaced 128 y y' t v (line_of (y.line t v).address d)) where
  kept_in : (b : ℕ) → InL2Line y b → InL2Line y' b
  kept_in b p = let z = kept-is 128 y y' t v d k u p.0 p.1 p.2 in (p.0, p.1, z.0, z.1 ∙ p.3)

-- ---- L1D slot s, w becomes empty
module _ (g : Layout) (x y : Level) (mem : ℕ → ℕ) (F : Allowed) (q : Invariant g x y mem F) (x' : Level) (s w : ℕ) (u : Replaced 64 x x' s w empty_line) where
  emptied-right : (s' w' : ℕ) → Valid x' s' w' → (i : ℕ) → i < 64 → F.right ((x'.line s' w').address + i) (x'.byte s' w' i)
  emptied-right s' w' v i h =
      let e = emptied-line 64 x x' s w u s' w' v in let v₀ = emptied-was 64 x x' s w u s' w' v in
      carry F (u.bytes s' w' (emptied-other 64 x x' s w u s' w' v) v₀ i h) (rw e (q.l1d_right s' w' v₀ i h))

  pub emptied-inclusion : (s' w' : ℕ) → Valid x' s' w' → external_base ≤ (x'.line s' w').address → g.sets ≢ 0 → InL2Line y (x'.line s' w').address
  emptied-inclusion s' w' v h n =
      let e = emptied-line 64 x x' s w u s' w' v in rw e (q.inclusion s' w' (emptied-was 64 x x' s w u s' w' v) (rw e at h) n)

  -- (1) it was not dirty: nothing else changes
  pub l1d-dropped : (Valid x s w → (x.line s w).dirty ≡ false) → Invariant g x' y mem F
  l1d-dropped c =
      record {
        l1d_sound = emptied-sound 64 x x' s w u (L1dPlaced g) q.l1d_sound;
        l2_sound = q.l2_sound;
        inclusion = emptied-inclusion;
        l1d_right = emptied-right;
        l2_right = λ t v k i h m. q.l2_right t v k i h (replaced-nodirty 64 x x' s w empty_line u ((y.line t v).address + i) (λ k' d _. false-true (sym (c k') ∙ d)) m);
        memory_right = λ a l m m'. q.memory_right a l (replaced-nodirty 64 x x' s w empty_line u a (λ k d _. false-true (sym (c k) ∙ d)) m) m';
        behind = q.behind;
      }

  -- (2) its bytes went into the memory that lies behind both levels, at a line that L2 does not hold
  module _ (k : Valid x s w) (mem' : ℕ → ℕ)
      (none : (t v : ℕ) → Valid y t v → (y.line t v).address ≢ (x.line s w).address / 128 * 128)
      (inn : (i : ℕ) → i < 64 → mem' ((x.line s w).address + i) ≡ x.byte s w i)
      (out : (a : ℕ) → Inside g a → a / 64 * 64 ≢ (x.line s w).address → mem' a ≡ mem a) where
    pub l1d-into-memory : Invariant g x' y mem' F
    l1d-into-memory =
        let aligned = (q.l1d_sound.place s w k).aligned in
        record {
          l1d_sound = emptied-sound 64 x x' s w u (L1dPlaced g) q.l1d_sound;
          l2_sound = q.l2_sound;
          inclusion = emptied-inclusion;
          l1d_right = emptied-right;
          l2_right = λ t v k' i h m.
              let al₂ = (q.l2_sound.place t v k').aligned in
              let n = none t v k' in
              q.l2_right t v k' i h (replaced-nodirty 64 x x' s w empty_line u ((y.line t v).address + i) (λ _ _ e. n (omega arith)) m);
          memory_right = λ a l m m'.
              bool (eqb (a / 64 * 64) (x.line s w).address)
              (λ e. let e' = eqb-true (a / 64 * 64) (x.line s w).address e in
              let j : (x.line s w).address + a % 64 ≡ a = omega arith in
              carry F (rw j at (inn (a % 64) (omega arith))) (rw j at (q.l1d_right s w k (a % 64) (omega arith))))
              (λ e. let n = eqb-false (a / 64 * 64) (x.line s w).address e in
              carry F (out a l n) (q.memory_right a l (replaced-nodirty 64 x x' s w empty_line u a (λ _ _ e'. n (sym e')) m) m'));
          behind = behind-memory g y y mem mem' F F q.behind (grows-refl F)
              (λ a l. bool (eqb (a / 64 * 64) (x.line s w).address)
              (λ e. let e' = eqb-true (a / 64 * 64) (x.line s w).address e in
              let j : (x.line s w).address + a % 64 ≡ a = omega arith in
              carry_held F (rw j at (inn (a % 64) (omega arith)))
              (rw j at (F.right_held ((x.line s w).address + a % 64) (x.byte s w (a % 64)) (q.l1d_right s w k (a % 64) (omega arith)))))
              (λ e. carry_held F (out a l (eqb-false (a / 64 * 64) (x.line s w).address e)) (q.behind.memory_held a l)))
              (λ t v k' i h.
              let p = q.l2_sound.place t v k' in let al₂ = p.aligned in let n = none t v k' in
              out ((y.line t v).address + i) (l2-inside g t v (y.line t v).address i p h) (λ e. n (omega arith)));
        }

  -- (3) its bytes went into the L2 line that holds it, which is dirty now
  module _ (k : Valid x s w) (y' : Level) (t v : ℕ) (k₂ : Valid y t v) (e₂ : (y.line t v).address ≡ (x.line s w).address / 128 * 128)
      (u₂ : Replaced 128 y y' t v (line_of (y.line t v).address true))
      (inn : (i : ℕ) → i < 128 → ((y.line t v).address + i) / 64 * 64 ≡ (x.line s w).address → y'.byte t v i ≡ x.byte s w (i % 64))
      (out : (i : ℕ) → i < 128 → ((y.line t v).address + i) / 64 * 64 ≢ (x.line s w).address → y'.byte t v i ≡ y.byte t v i) where
    pub l1d-into-l2 : Invariant g x' y' mem F
    l1d-into-l2 =
        let aligned = (q.l1d_sound.place s w k).aligned in
        let al₂ = (q.l2_sound.place t v k₂).aligned in
        record {
          l1d_sound = emptied-sound 64 x x' s w u (L1dPlaced g) q.l1d_sound;
          l2_sound = kept-sound 128 y y' t v true k₂ u₂ (L2Placed g) q.l2_sound;
          inclusion = λ s' w' k' h n. kept_in y y' t v true k₂ u₂ (x'.line s' w').address (emptied-inclusion s' w' k' h n);
          l1d_right = emptied-right;
          l2_right = taken-right;
          memory_right = λ a l m m'.
              q.memory_right a l
              (replaced-nodirty 64 x x' s w empty_line u a
              (λ _ _ e. m' t v (rw u₂.here refl) (rw u₂.here refl) (rw u₂.here (e₂ ∙ omega arith))) m)
              (replaced-nodirty 128 y y' t v (line_of (y.line t v).address true) u₂ a
              (λ _ _ e. m' t v (rw u₂.here refl) (rw u₂.here refl) (rw u₂.here e)) m');
          behind = behind-slot g y y' mem mem F F q.behind (grows-refl F) q.behind.memory_held t v (line_of (y.line t v).address true) u₂
              (λ _. taken-held) (λ _ d. false-true (sym d)) (λ _ _ _ _ _ _. refl);
        }
      where
        here : (i : ℕ) → i < 128 → NoDirty 64 x' ((y.line t v).address + i) → F.right ((y.line t v).address + i) (y'.byte t v i)
        here i h m =
            let aligned = (q.l1d_sound.place s w k).aligned in
            let al₂ = (q.l2_sound.place t v k₂).aligned in
            bool (eqb (((y.line t v).address + i) / 64 * 64) (x.line s w).address)
            (λ e. let e' = eqb-true (((y.line t v).address + i) / 64 * 64) (x.line s w).address e in
            let j : (x.line s w).address + i % 64 ≡ (y.line t v).address + i = omega arith in
            carry F (inn i h e') (rw j at (q.l1d_right s w k (i % 64) (omega arith))))
            (λ e. let n = eqb-false (((y.line t v).address + i) / 64 * 64) (x.line s w).address e in
            carry F (out i h n)
            (q.l2_right t v k₂ i h (replaced-nodirty 64 x x' s w empty_line u ((y.line t v).address + i) (λ _ _ e'. n (sym e')) m)))

        taken-held : (i : ℕ) → i < 128 → F.held ((y.line t v).address + i) (y'.byte t v i)
        taken-held i h =
            let aligned = (q.l1d_sound.place s w k).aligned in
            let al₂ = (q.l2_sound.place t v k₂).aligned in
            bool (eqb (((y.line t v).address + i) / 64 * 64) (x.line s w).address)
            (λ e. let e' = eqb-true (((y.line t v).address + i) / 64 * 64) (x.line s w).address e in
            let j : (x.line s w).address + i % 64 ≡ (y.line t v).address + i = omega arith in
            carry_held F (inn i h e')
            (rw j at (F.right_held ((x.line s w).address + i % 64) (x.byte s w (i % 64)) (q.l1d_right s w k (i % 64) (omega arith)))))
            (λ e. carry_held F (out i h (eqb-false (((y.line t v).address + i) / 64 * 64) (x.line s w).address e)) (q.behind.l2_held t v k₂ i h))

        taken-right : (t' v' : ℕ) → Valid y' t' v' → (i : ℕ) → i < 128 → NoDirty 64 x' ((y'.line t' v').address + i) →
            F.right ((y'.line t' v').address + i) (y'.byte t' v' i)
        taken-right t' v' k' i h m =
            same-slot t v t' v'
            (λ z. let e = replaced-at 128 y y' t v (line_of (y.line t v).address true) u₂ t' v' z in rw (e, z.0, z.1) (here i h (rw e at m)))
            (λ z. let e = u₂.others t' v' z in
            let k₀ : Valid y t' v' = rw e at k' in
            let m₀ : NoDirty 64 x' ((y.line t' v').address + i) = rw e at m in
            let al₀ = (q.l2_sound.place t' v' k₀).aligned in
            carry F (u₂.bytes t' v' z k₀ i h)
            (rw e (q.l2_right t' v' k₀ i h (replaced-nodirty 64 x x' s w empty_line u ((y.line t' v').address + i)
            (λ _ _ e'. z (q.l2_sound.once t v t' v' k₂ k₀ (e₂ ∙ omega arith))) m₀))))

-- ---- (4) a line comes into an empty L1D slot, clean
module _ (g : Layout) (x y : Level) (mem : ℕ → ℕ) (F : Allowed) (q : Invariant g x y mem F) (x' : Level) (s w b : ℕ) (u : Replaced 64 x x' s w (line_of b false))
    (room : Valid x s w → ⊥) (p : L1dPlaced g s w b) (none : (s' w' : ℕ) → Valid x s' w' → (x.line s' w').address ≢ b)
    (inn : (i : ℕ) → i < 64 → F.right (b + i) (x'.byte s w i)) (held : external_base ≤ b → g.sets ≢ 0 → InL2Line y b) where
  pub l1d-filled : Invariant g x' y mem F
  l1d-filled =
      record {
        l1d_sound = replaced-sound 64 x x' s w (line_of b false) u (L1dPlaced g) q.l1d_sound (λ _. p) (λ _ s' w' _ k. none s' w' k);
        l2_sound = q.l2_sound;
        inclusion = λ s' w' k h n.
            same-slot s w s' w'
            (λ z. let e = replaced-at 64 x x' s w (line_of b false) u s' w' z in rw e (held (rw e at h) n))
            (λ z. let e = u.others s' w' z in rw e (q.inclusion s' w' (rw e at k) (rw e at h) n));
        l1d_right = λ s' w' k i h.
            same-slot s w s' w'
            (λ z. let e = replaced-at 64 x x' s w (line_of b false) u s' w' z in rw (e, z.0, z.1) (inn i h))
            (λ z. let e = u.others s' w' z in carry F (u.bytes s' w' z (rw e at k) i h) (rw e (q.l1d_right s' w' (rw e at k) i h)));
        l2_right = λ t v k i h m. q.l2_right t v k i h (replaced-nodirty 64 x x' s w (line_of b false) u ((y.line t v).address + i) (λ k' _ _. room k') m);
        memory_right = λ a l m m'. q.memory_right a l (replaced-nodirty 64 x x' s w (line_of b false) u a (λ k' _ _. room k') m) m';
        behind = q.behind;
      }

-- ---- (5) the L1D line that holds address a is written: flat memory changes inside that line alone, and the line's
-- bytes change likewise
module _ (g : Layout) (x y : Level) (mem : ℕ → ℕ) (F : Allowed) (q : Invariant g x y mem F) (x' : Level) (s w a : ℕ) (F' : Allowed) (gr : Grows F F') (k : Valid x s w)
    (e₁ : (x.line s w).address ≡ a / 64 * 64) (u : Replaced 64 x x' s w (line_of (x.line s w).address true))
    (old : (b : ℕ) → b / 64 * 64 ≢ a / 64 * 64 → (c : ℕ) → F.right b c → F'.right b c)
    (step : (i : ℕ) → i < 64 → F.right ((x.line s w).address + i) (x.byte s w i) → F'.right ((x.line s w).address + i) (x'.byte s w i)) where
  -- an address that no dirty line holds now is elsewhere, and none held it
  elsewhere : (b : ℕ) → NoDirty 64 x' b → b / 64 * 64 ≢ a / 64 * 64
  elsewhere b m e = m s w (rw u.here refl) (rw u.here refl) (rw u.here (e₁ ∙ sym e))

  nodirty-before : (b : ℕ) → NoDirty 64 x' b → NoDirty 64 x b
  nodirty-before b m = replaced-nodirty 64 x x' s w (line_of (x.line s w).address true) u b (λ _ _ e. elsewhere b m (sym e ∙ e₁)) m

  pub l1d-written : Invariant g x' y mem F'
  l1d-written =
      record {
        l1d_sound = kept-sound 64 x x' s w true k u (L1dPlaced g) q.l1d_sound;
        l2_sound = q.l2_sound;
        inclusion = λ s' w' k' h n. let z = kept-was 64 x x' s w true k u s' w' k' in rw z.1 (q.inclusion s' w' z.0 (rw z.1 at h) n);
        l1d_right = λ s' w' k' i h.
            same-slot s w s' w'
            (λ z. let e = kept_at 64 x x' s w true k u s' w' z in rw (e, z.0, z.1) (step i h (q.l1d_right s w k i h)))
            (λ z. let e = u.others s' w' z in
            let k₀ : Valid x s' w' = rw e at k' in
            let aligned = (q.l1d_sound.place s' w' k₀).aligned in
            carry F' (u.bytes s' w' z k₀ i h)
            (rw e (old ((x.line s' w').address + i) (λ j. z (q.l1d_sound.once s w s' w' k k₀ (e₁ ∙ omega arith))) (x.byte s' w' i)
            (q.l1d_right s' w' k₀ i h))));
        l2_right = λ t v k' i h m.
            old ((y.line t v).address + i) (elsewhere ((y.line t v).address + i) m) (y.byte t v i)
            (q.l2_right t v k' i h (nodirty-before ((y.line t v).address + i) m));
        memory_right = λ b l m m'. old b (elsewhere b m) (mem b) (q.memory_right b l (nodirty-before b m) m');
        behind = behind-memory g y y mem mem F F' q.behind gr (λ b l. gr.held b (mem b) (q.behind.memory_held b l)) (λ _ _ _ _ _. refl);
      }

-- ---- (6) an L2 line goes out, and stays, clean; L1D holds none of it dirty
module _ (g : Layout) (x y : Level) (mem : ℕ → ℕ) (F : Allowed) (q : Invariant g x y mem F) (y' : Level) (t v : ℕ) (mem' : ℕ → ℕ) (k : Valid y t v)
    (u : Replaced 128 y y' t v (line_of (y.line t v).address false)) (same : (i : ℕ) → i < 128 → y'.byte t v i ≡ y.byte t v i)
    (calm : (i : ℕ) → i < 128 → NoDirty 64 x ((y.line t v).address + i))
    (inn : (i : ℕ) → i < 128 → mem' ((y.line t v).address + i) ≡ y.byte t v i)
    (out : (a : ℕ) → Inside g a → a / 128 * 128 ≢ (y.line t v).address → mem' a ≡ mem a) where
  cleaned-right : (t' v' : ℕ) → Valid y' t' v' → (i : ℕ) → i < 128 → NoDirty 64 x ((y'.line t' v').address + i) →
      F.right ((y'.line t' v').address + i) (y'.byte t' v' i)
  cleaned-right t' v' k' i h m =
      same-slot t v t' v'
      (λ z. let e = kept_at 128 y y' t v false k u t' v' z in rw (e, z.0, z.1) (carry F (same i h) (q.l2_right t v k i h (calm i h))))
      (λ z. let e = u.others t' v' z in carry F (u.bytes t' v' z (rw e at k') i h) (rw e (q.l2_right t' v' (rw e at k') i h (rw e at m))))

  pub l2-cleaned : Invariant g x y' mem' F
  l2-cleaned =
      record {
        l1d_sound = q.l1d_sound;
        l2_sound = kept-sound 128 y y' t v false k u (L2Placed g) q.l2_sound;
        inclusion = λ s w k' h n. kept_in y y' t v false k u (x.line s w).address (q.inclusion s w k' h n);
        l1d_right = q.l1d_right;
        l2_right = cleaned-right;
        memory_right = λ a l m m'.
            bool (eqb (a / 128 * 128) (y.line t v).address)
            (λ e. let e' = eqb-true (a / 128 * 128) (y.line t v).address e in
            let j : (y.line t v).address + a % 128 ≡ a = omega arith in
            carry F (rw j at (inn (a % 128) (omega arith))) (rw j at (q.l2_right t v k (a % 128) (omega arith) (calm (a % 128) (omega arith)))))
            (λ e. let n = eqb-false (a / 128 * 128) (y.line t v).address e in
            carry F (out a l n)
            (q.memory_right a l m (replaced-nodirty 128 y y' t v (line_of (y.line t v).address false) u a (λ _ _ e'. n (sym e')) m')));
        behind = behind-slot g y y' mem mem' F F q.behind (grows-refl F)
            (λ a l. bool (eqb (a / 128 * 128) (y.line t v).address)
            (λ e. let e' = eqb-true (a / 128 * 128) (y.line t v).address e in
            let j : (y.line t v).address + a % 128 ≡ a = omega arith in
            carry_held F (rw j at (inn (a % 128) (omega arith))) (rw j at (q.behind.l2_held t v k (a % 128) (omega arith))))
            (λ e. carry_held F (out a l (eqb-false (a / 128 * 128) (y.line t v).address e)) (q.behind.memory_held a l)))
            t v (line_of (y.line t v).address false) u
            (λ _ i h. carry_held F (same i h) (q.behind.l2_held t v k i h))
            (λ _ _ i h. same i h ∙ sym (inn i h))
            (λ t' v' o k' i h.
            let p = q.l2_sound.place t' v' k' in
            out ((y.line t' v').address + i) (l2-inside g t' v' (y.line t' v').address i p h)
            (λ e. o (q.l2_sound.once t v t' v' k k' (sym e ∙ line-at-128 (y.line t' v').address i p.aligned h))));
      }

-- ---- (7) a clean L2 line, of which L1D holds nothing, becomes empty
module _ (g : Layout) (x y : Level) (mem : ℕ → ℕ) (F : Allowed) (q : Invariant g x y mem F) (y' : Level) (t v : ℕ) (u : Replaced 128 y y' t v empty_line)
    (clean : Valid y t v → (y.line t v).dirty ≡ false)
    (none : Valid y t v → (s w : ℕ) → Valid x s w → (x.line s w).address / 128 * 128 ≢ (y.line t v).address) where
  pub l2-dropped : Invariant g x y' mem F
  l2-dropped =
      record {
        l1d_sound = q.l1d_sound;
        l2_sound = emptied-sound 128 y y' t v u (L2Placed g) q.l2_sound;
        inclusion = λ s w k h n.
            let p = q.inclusion s w k h n in
            same-slot t v p.0 p.1
            (λ z. let l : y.line p.0 p.1 ≡ y.line t v = rw (z.0, z.1) refl in
            absurd (none (sym (ap (λ (r : Line). r.valid) l) ∙ p.2) s w k (sym p.3 ∙ ap (λ (r : Line). r.address) l)))
            (λ z. let e = u.others p.0 p.1 z in (p.0, p.1, rw e p.2, rw e p.3));
        l1d_right = q.l1d_right;
        l2_right = λ t' v' k i h m.
            let e = emptied-line 128 y y' t v u t' v' k in let k₀ = emptied-was 128 y y' t v u t' v' k in
            carry F (u.bytes t' v' (emptied-other 128 y y' t v u t' v' k) k₀ i h) (rw e (q.l2_right t' v' k₀ i h (rw e at m)));
        memory_right = λ a l m m'. q.memory_right a l m (replaced-nodirty 128 y y' t v empty_line u a (λ k d _. false-true (sym (clean k) ∙ d)) m');
        behind = behind-slot g y y' mem mem F F q.behind (grows-refl F) q.behind.memory_held t v empty_line u
            (λ n. false-true n) (λ n. false-true n) (λ _ _ _ _ _ _. refl);
      }

-- ---- (8) a line comes into an empty L2 slot from the memory behind, clean
module _ (g : Layout) (x y : Level) (mem : ℕ → ℕ) (F : Allowed) (q : Invariant g x y mem F) (y' : Level) (t v b : ℕ) (u : Replaced 128 y y' t v (line_of b false))
    (room : Valid y t v → ⊥) (p : L2Placed g t v b) (none : (t' v' : ℕ) → Valid y t' v' → (y.line t' v').address ≢ b)
    (inn : (i : ℕ) → i < 128 → y'.byte t v i ≡ mem (b + i)) where
  pub l2-filled : Invariant g x y' mem F
  l2-filled =
      record {
        l1d_sound = q.l1d_sound;
        l2_sound = replaced-sound 128 y y' t v (line_of b false) u (L2Placed g) q.l2_sound (λ _. p) (λ _ t' v' _ k. none t' v' k);
        inclusion = λ s w k h n.
            let r = q.inclusion s w k h n in
            same-slot t v r.0 r.1
            (λ z. let l : y.line r.0 r.1 ≡ y.line t v = rw (z.0, z.1) refl in absurd (room (sym (ap (λ (r : Line). r.valid) l) ∙ r.2)))
            (λ z. let e = u.others r.0 r.1 z in (r.0, r.1, rw e r.2, rw e r.3));
        l1d_right = q.l1d_right;
        l2_right = λ t' v' k i h m.
            same-slot t v t' v'
            (λ z. let e = replaced-at 128 y y' t v (line_of b false) u t' v' z in rw (e, z.0, z.1)
            (carry F (inn i h) (fetched-right i h (rw e at m))))
            (λ z. let e = u.others t' v' z in carry F (u.bytes t' v' z (rw e at k) i h) (rw e (q.l2_right t' v' (rw e at k) i h (rw e at m))));
        memory_right = λ a l m m'. q.memory_right a l m (replaced-nodirty 128 y y' t v (line_of b false) u a (λ k _ _. absurd (room k)) m');
        behind = behind-slot g y y' mem mem F F q.behind (grows-refl F) q.behind.memory_held t v (line_of b false) u
            (λ _ i h. carry_held F (inn i h) (q.behind.memory_held (b + i) (l2-inside g t v b i p h)))
            (λ _ _ i h. inn i h) (λ _ _ _ _ _ _. refl);
      }
    where
      fetched-right : (i : ℕ) → i < 128 → NoDirty 64 x (b + i) → F.right (b + i) (mem (b + i))
      fetched-right i h m =
          let aligned = p.aligned in let lo = p.low in let hi = p.high in
          q.memory_right (b + i) (record { low = λ k. absurd (omega arith); high = λ k. omega arith }) m
          (λ t' v' k _ e. none t' v' k (e ∙ line-at-128 b i aligned h))

-- ---- (9) the L2 line that holds address a is written, where L1D does not hold a
module _ (g : Layout) (x y : Level) (mem : ℕ → ℕ) (F : Allowed) (q : Invariant g x y mem F) (y' : Level) (t v a : ℕ) (F' : Allowed) (gr : Grows F F') (k : Valid y t v)
    (e₂ : (y.line t v).address ≡ a / 128 * 128) (free : Free 64 x a) (u : Replaced 128 y y' t v (line_of (y.line t v).address true))
    (old : (b : ℕ) → b / 64 * 64 ≢ a / 64 * 64 → (c : ℕ) → F.right b c → F'.right b c)
    (step : (i : ℕ) → i < 128 → F.right ((y.line t v).address + i) (y.byte t v i) → F'.right ((y.line t v).address + i) (y'.byte t v i))
    (step_held : (i : ℕ) → i < 128 → F.held ((y.line t v).address + i) (y.byte t v i) → F'.held ((y.line t v).address + i) (y'.byte t v i)) where
  pub l2-written : Invariant g x y' mem F'
  l2-written =
      record {
        l1d_sound = q.l1d_sound;
        l2_sound = kept-sound 128 y y' t v true k u (L2Placed g) q.l2_sound;
        inclusion = λ s w k' h n. kept_in y y' t v true k u (x.line s w).address (q.inclusion s w k' h n);
        l1d_right = λ s w k' i h.
            let aligned = (q.l1d_sound.place s w k').aligned in
            old ((x.line s w).address + i) (λ j. free s w k' (omega arith)) (x.byte s w i) (q.l1d_right s w k' i h);
        l2_right = λ t' v' k' i h m.
            same-slot t v t' v'
            (λ z. let e = kept_at 128 y y' t v true k u t' v' z in rw (e, z.0, z.1) (step i h (q.l2_right t v k i h (rw e at m))))
            (λ z. let e = u.others t' v' z in
            let k₀ : Valid y t' v' = rw e at k' in
            let aligned = (q.l2_sound.place t' v' k₀).aligned in
            carry F' (u.bytes t' v' z k₀ i h)
            (rw e (old ((y.line t' v').address + i) (λ j. z (q.l2_sound.once t v t' v' k k₀ (e₂ ∙ omega arith))) (y.byte t' v' i)
            (q.l2_right t' v' k₀ i h (rw e at m)))));
        memory_right = λ b l m m'.
            let f : b / 128 * 128 ≢ a / 128 * 128 = λ e. m' t v (rw u.here refl) (rw u.here refl) (rw u.here (e₂ ∙ sym e)) in
            old b (λ j. f (omega arith)) (mem b)
            (q.memory_right b l m (replaced-nodirty 128 y y' t v (line_of (y.line t v).address true) u b (λ _ _ e. f (sym e ∙ e₂)) m'));
        behind = behind-slot g y y' mem mem F F' q.behind gr (λ b l. gr.held b (mem b) (q.behind.memory_held b l)) t v
            (line_of (y.line t v).address true) u (λ _ i h. step_held i h (q.behind.l2_held t v k i h)) (λ _ d. false-true (sym d))
            (λ _ _ _ _ _ _. refl);
      }

-- ---- (10) the memory behind is written, at addresses (W) that neither level holds
module _ (g : Layout) (x y : Level) (mem : ℕ → ℕ) (F : Allowed) (q : Invariant g x y mem F) (W : ℕ → Type 0) (mem' : ℕ → ℕ) (F' : Allowed) (gr : Grows F F')
    (free1 : (b : ℕ) → W b → Free 64 x b) (free2 : (b : ℕ) → W b → Free 128 y b)
    (old : (b : ℕ) → (W b → ⊥) → (c : ℕ) → F.right b c → F'.right b c)
    (step : (b : ℕ) → Inside g b → F.right b (mem b) → F'.right b (mem' b)) (step_held : (b : ℕ) → Inside g b → F.held b (mem b) → F'.held b (mem' b))
    (same : (b : ℕ) → (W b → ⊥) → mem' b ≡ mem b) where
  pub memory-written : Invariant g x y mem' F'
  memory-written =
      record {
        l1d_sound = q.l1d_sound;
        l2_sound = q.l2_sound;
        inclusion = q.inclusion;
        l1d_right = λ s w k i h.
            let aligned = (q.l1d_sound.place s w k).aligned in
            old ((x.line s w).address + i) (λ j. free1 ((x.line s w).address + i) j s w k (omega arith)) (x.byte s w i) (q.l1d_right s w k i h);
        l2_right = λ t v k i h m.
            let aligned = (q.l2_sound.place t v k).aligned in
            old ((y.line t v).address + i) (λ j. free2 ((y.line t v).address + i) j t v k (omega arith)) (y.byte t v i) (q.l2_right t v k i h m);
        memory_right = λ b l m m'. step b l (q.memory_right b l m m');
        behind = behind-memory g y y mem mem' F F' q.behind gr (λ b l. step_held b l (q.behind.memory_held b l))
            (λ t v k i h. let aligned = (q.l2_sound.place t v k).aligned in
            same ((y.line t v).address + i) (λ j. free2 ((y.line t v).address + i) j t v k (omega arith)));
      }

-- ---- the same lines, the same bytes where they count: the invariant carries over
module _ (g : Layout) (x y : Level) (mem : ℕ → ℕ) (F : Allowed) (q : Invariant g x y mem F) (x' y' : Level) (mem' : ℕ → ℕ)
    (l₁ : (s w : ℕ) → x'.line s w ≡ x.line s w) (b₁ : (s w : ℕ) → Valid x s w → (i : ℕ) → i < 64 → x'.byte s w i ≡ x.byte s w i)
    (l₂ : (s w : ℕ) → y'.line s w ≡ y.line s w) (b₂ : (s w : ℕ) → Valid y s w → (i : ℕ) → i < 128 → y'.byte s w i ≡ y.byte s w i)
    (bm : (a : ℕ) → Inside g a → mem' a ≡ mem a) where
  same-sound : (P : ℕ → ℕ → ℕ → Type 0) (u v : Level) → ((s w : ℕ) → v.line s w ≡ u.line s w) → Sound P u → Sound P v
  same-sound P u v l p =
      record {
        once = λ s w s' w' k k' e. p.once s w s' w' (rw (l s w) at k) (rw (l s' w') at k') (rw (l s w, l s' w') at e);
        place = λ s w k. rw (l s w) (p.place s w (rw (l s w) at k));
      }

  same-calm : (n : ℕ) (u v : Level) → ((s w : ℕ) → v.line s w ≡ u.line s w) → (a : ℕ) → NoDirty n v a → NoDirty n u a
  same-calm n u v l a m s w k d e = m s w (rw (l s w) k) (rw (l s w) d) (rw (l s w) e)

  pub invariant-same : Invariant g x' y' mem' F
  invariant-same =
      record {
        l1d_sound = same-sound (L1dPlaced g) x x' l₁ q.l1d_sound;
        l2_sound = same-sound (L2Placed g) y y' l₂ q.l2_sound;
        inclusion = λ s w k h n.
            let e = l₁ s w in
            let p = q.inclusion s w (rw e at k) (rw e at h) n in
            rw e (p.0, p.1, rw (l₂ p.0 p.1) p.2, rw (l₂ p.0 p.1) p.3);
        l1d_right = λ s w k i h. let e = l₁ s w in let k₀ : Valid x s w = rw e at k in carry F (b₁ s w k₀ i h) (rw e (q.l1d_right s w k₀ i h));
        l2_right = λ s w k i h m.
            let e = l₂ s w in let k₀ : Valid y s w = rw e at k in
            carry F (b₂ s w k₀ i h) (rw e (q.l2_right s w k₀ i h (same-calm 64 x x' l₁ ((y.line s w).address + i) (rw e at m))));
        memory_right = λ a l m m'. carry F (bm a l) (q.memory_right a l (same-calm 64 x x' l₁ a m) (same-calm 128 y y' l₂ a m'));
        behind = record {
          l2_held = λ t v k i h. let e = l₂ t v in let k₀ : Valid y t v = rw e at k in carry_held F (b₂ t v k₀ i h) (rw e (q.behind.l2_held t v k₀ i h));
          memory_held = λ a l. carry_held F (bm a l) (q.behind.memory_held a l);
          l2_alike = λ t v k d i h.
              let e = l₂ t v in let k₀ : Valid y t v = rw e at k in let b = b₂ t v k₀ i h in
              let p = q.l2_sound.place t v k₀ in
              let o = bm ((y.line t v).address + i) (l2-inside g t v (y.line t v).address i p h) in
              rw (b, e, o) (q.behind.l2_alike t v k₀ (rw e at d) i h);
        };
      }
