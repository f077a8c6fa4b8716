-- The commands that invalidate and write nothing: L1D lines and L2 lines are dropped. Shown: a well-formed record
-- stays well formed, no byte of the three memories changes, and each line that is still valid is the one that was
-- there (`Dropped`). What is seen afterwards is crate dropped_lines' business.
-- Why: a slot that becomes empty keeps every other line where it was; and an L2 line is dropped only after both its
-- halves were, so that no external L1D line loses the L2 line around it.
use Prim.Native.Nat.{ℕ, ◌+◌, ◌*◌, ◌/◌, ◌%◌, ◌≤◌, ◌<◌}
use mathlib.Core.Path.{◌≡◌, refl, sym, ap, ◌∙◌}
use mathlib.Core.Logic.{◌≢◌}
use mathlib.Core.List.{List}
use native.Mathlib.Omega.{arith}
use lib.ListN.{get_or}
use Rattle.model.specs.Memories.{external_base}
use Rattle.model.specs.Lines.{l1d_set_of, empty_line, upper_half}
use Rattle.model.specs.Records.{State, mode0, l2_sets_of, l2_set_of, mar_bit, no_l2_set, l1d_line_at, l2_line_at, with_l1d_line, with_l2_line}
use Rattle.model.specs.Ways.{l1d_way, l2_way, in_l1d, in_l2, empty_l1d, empty_l2}
use Rattle.model.specs.Commands.{lines_touched, each_touched, at_l1d, at_l2, unless_mode0, drop_l2, l2_invalidate_block, l1d_invalidate_block, l1d_invalidate_all}
use Rattle.model.specs.Laws.{cond-elim}
use Rattle.model.specs.declared.Line.{Line}
use Rattle.model.specs.declared.L2Set.{L2Set}
use Rattle.agreement.proofs.Level.{Valid, Free, Replaced, Sound, same-slot, emptied-line, emptied-sound}
use Rattle.agreement.proofs.Invariant.{L1dPlaced, L2Placed, InL2Line, emptied-inclusion}
use Rattle.agreement.proofs.Good.{layout_of, l1d_level, l2_level, memory_of, Tidy, Anything, Well, l1d-hit, l2-hit, l1d-miss, l2-bounds, l1d-replaced, l1d-tidy, l2-replaced, l2-tidy}
use Rattle.agreement.proofs.Evict.{Clear, evicted-free, halves-none}
use Rattle.agreement.proofs.ReadWrite.{Step}
use Rattle.agreement.proofs.Sweeps.{each-by, step-refl, step-trans}

-- a well-formed state from its parts
pub well : (z : State) → Tidy z → Sound (L1dPlaced (layout_of z.rec)) (l1d_level z) → Sound (L2Placed (layout_of z.rec)) (l2_level z) →
    ((s w : ℕ) → Valid (l1d_level z) s w → external_base ≤ (l1d_line_at z.rec s w).address → l2_sets_of z.rec ≢ 0 → InL2Line (l2_level z) (l1d_line_at z.rec s w).address)
    →
    Well z
well z t a b i =
    record {
      tidy = t;
      inv =
          record {
            l1d_sound = a;
            l2_sound = b;
            inclusion = i;
            l1d_right = λ _ _ _ _ _. refl;
            l2_right = λ _ _ _ _ _ _. refl;
            memory_right = λ _ _ _ _. refl;
            behind = record { l2_held = λ _ _ _ _ _. refl; memory_held = λ _ _. refl; l2_alike = λ _ _ _ _ _ _. refl };
          };
    }

-- ---- lines are dropped: the state stays well formed, no byte changes, and a line that is still valid is the one that
-- was there
pub record Dropped (z z' : State) : Type 0 where
  pub step : Step z Anything z'
  pub l1d_bytes : z'.l1d ≡ z.l1d
  pub l2_bytes : z'.l2 ≡ z.l2
  pub ext_bytes : z'.ext ≡ z.ext
  pub l1d_fewer : (s w : ℕ) → Valid (l1d_level z') s w → l1d_line_at z'.rec s w ≡ l1d_line_at z.rec s w
  pub l2_fewer : (t v : ℕ) → Valid (l2_level z') t v → l2_line_at z'.rec t v ≡ l2_line_at z.rec t v

pub dropped-refl : (z : State) → Well z → Dropped z z
dropped-refl z h =
    record {
      step = step-refl z Anything h;
      l1d_bytes = refl;
      l2_bytes = refl;
      ext_bytes = refl;
      l1d_fewer = λ _ _ _. refl;
      l2_fewer = λ _ _ _. refl;
    }

pub dropped-trans : (z x y : State) → Dropped z x → Dropped x y → Dropped z y
dropped-trans z x y a b =
    record {
      step = step-trans z x y Anything a.step b.step;
      l1d_bytes = b.l1d_bytes ∙ a.l1d_bytes;
      l2_bytes = b.l2_bytes ∙ a.l2_bytes;
      ext_bytes = b.ext_bytes ∙ a.ext_bytes;
      l1d_fewer = λ s w k. let e = b.l1d_fewer s w k in e ∙ a.l1d_fewer s w (rw e at k);
      l2_fewer = λ t v k. let e = b.l2_fewer t v k in e ∙ a.l2_fewer t v (rw e at k);
    }

-- ---- one L1D line
record L1dDropped (z : State) (s w : ℕ) (z' : State) : Type 0 where
  dropped : Dropped z z'
  l2_same : z'.rec.l2 ≡ z.rec.l2
  gone : l1d_line_at z'.rec s w ≡ empty_line

empty_l1d-dropped : (z : State) → Well z → (s w : ℕ) → s < 128 → w < 2 → L1dDropped z s w (empty_l1d s w z)
unfolding empty_l1d with_l1d_line mar_bit
empty_l1d-dropped z h s w hs hw =
    let z' = empty_l1d s w z in
    let u : Replaced 64 (l1d_level z) (l1d_level z') s w empty_line = l1d-replaced z h.tidy s w empty_line z.l1d z.l2 z.ext hs hw (λ _ _ _ _ _ _. refl) in
    record {
      dropped = record {
        step = record {
          good = well z' (l1d-tidy z h.tidy s w empty_line z.l1d z.l2 z.ext hs hw (λ _. refl) refl refl refl)
              (emptied-sound 64 (l1d_level z) (l1d_level z') s w u (L1dPlaced (layout_of z.rec)) h.inv.l1d_sound) h.inv.l2_sound
              (emptied-inclusion (layout_of z.rec) (l1d_level z) (l2_level z) (memory_of z) Anything h.inv (l1d_level z') s w u);
          kept = record { mode = refl; layout = refl; l2len = refl };
        };
        l1d_bytes = refl;
        l2_bytes = refl;
        ext_bytes = refl;
        l1d_fewer = λ s' w' k. emptied-line 64 (l1d_level z) (l1d_level z') s w u s' w' k;
        l2_fewer = λ _ _ _. refl;
      };
      l2_same = refl;
      gone = u.here;
    }

-- the line of b, if L1D holds it: nobody holds it afterwards
record HalfDropped (z : State) (b : ℕ) (z' : State) : Type 0 where
  dropped : Dropped z z'
  l2_same : z'.rec.l2 ≡ z.rec.l2
  free : Free 64 (l1d_level z') b

half-dropped : (z : State) → Well z → (b : ℕ) → HalfDropped z b (at_l1d empty_l1d b z)
unfolding at_l1d
half-dropped z h b =
    let s = l1d_set_of b in let w = l1d_way z b in
    cond-elim (HalfDropped z b) (in_l1d z b) (empty_l1d s w z) z
    (λ y. let p = l1d-hit z b y in let g = empty_l1d-dropped z h s w (omega arith) p.way in
    record {
      dropped = g.dropped;
      l2_same = g.l2_same;
      free = evicted-free z Anything h s w b (empty_l1d s w z) p.valid p.address g.dropped.l1d_fewer g.gone;
    })
    (λ y. record { dropped = dropped-refl z h; l2_same = refl; free = l1d-miss z Anything h b y })

-- ---- an L2 line of which L1D holds nothing is dropped
empty_l2-dropped : (z : State) → Well z → (t v : ℕ) → t < l2_sets_of z.rec → v < 4 → Clear z t v → Dropped z (empty_l2 t v z)
unfolding empty_l2 with_l2_line mar_bit
empty_l2-dropped z h t v ht hv c =
    let z' = empty_l2 t v z in
    let u : Replaced 128 (l2_level z) (l2_level z') t v empty_line
    = l2-replaced z h.tidy t v empty_line z.l1d z.l2 z.ext ht hv (λ _ _ _ _ _ _. refl) in
    record {
      step = record {
        good = well z' (l2-tidy z h.tidy t v empty_line z.l1d z.l2 z.ext ht hv (λ _. refl) refl refl refl)
            h.inv.l1d_sound
            (emptied-sound 128 (l2_level z) (l2_level z') t v u (L2Placed (layout_of z.rec)) h.inv.l2_sound)
            (λ s w k b n.
            let p = h.inv.inclusion s w k b n in
            same-slot t v p.0 p.1
            (λ y. let l : l2_line_at z.rec p.0 p.1 ≡ l2_line_at z.rec t v = rw (y.0, y.1) refl in
            absurd (c s w k (sym p.3 ∙ ap (λ (r : Line). r.address) l)))
            (λ y. let e = u.others p.0 p.1 y in (p.0, p.1, rw e p.2, rw e p.3)));
        kept = record { mode = refl; layout = refl; l2len = refl };
      };
      l1d_bytes = refl;
      l2_bytes = refl;
      ext_bytes = refl;
      l1d_fewer = λ _ _ _. refl;
      l2_fewer = λ t' v' k. emptied-line 128 (l2_level z) (l2_level z') t v u t' v' k;
    }

pub drop_l2-dropped : (z : State) → Well z → (t v : ℕ) → Valid (l2_level z) t v → t < l2_sets_of z.rec → v < 4 → Dropped z (drop_l2 t v z)
unfolding drop_l2
drop_l2-dropped z h t v k ht hv =
    let b = (l2_line_at z.rec t v).address in
    let z₁ = at_l1d empty_l1d b z in
    let z₂ = at_l1d empty_l1d (upper_half b) z₁ in
    let g = half-dropped z h b in
    let g' = half-dropped z₁ g.dropped.step.good (upper_half b) in
    let d = dropped-trans z z₁ z₂ g.dropped g'.dropped in
    let al = (h.inv.l2_sound.place t v k).aligned in
    let same : l2_line_at z₂.rec t v ≡ l2_line_at z.rec t v =
    ap (λ (l : List L2Set). get_or (get_or l t no_l2_set).lines v empty_line) (g'.l2_same ∙ g.l2_same) in
    let lower : Free 64 (l1d_level z₂) b = λ s' w' i e. let x = g'.dropped.l1d_fewer s' w' i in g.free s' w' (rw x at i) (rw x at e) in
    let none = halves-none z₂ Anything d.step.good b al lower g'.free in
    dropped-trans z z₂ (empty_l2 t v z₂) d
    (empty_l2-dropped z₂ d.step.good t v (rw d.step.kept.mode ht) hv (λ s' w' i e. none s' w' i (e ∙ ap (λ (r : Line). r.address) same)))

-- ---- one line of a block, if L1D holds it, or L2
pub at_l1d-dropped : (z : State) → Well z → (b : ℕ) → Dropped z (at_l1d empty_l1d b z)
at_l1d-dropped z h b = (half-dropped z h b).dropped

pub at_l2-dropped : (z : State) → Well z → (b : ℕ) → Dropped z (at_l2 drop_l2 b z)
unfolding at_l2
at_l2-dropped z h b =
    let t = l2_set_of z.rec b in let v = l2_way z b in
    cond-elim (Dropped z) (in_l2 z b) (drop_l2 t v z) z
    (λ y. let p = l2-hit z b y in drop_l2-dropped z h t v p.valid (l2-bounds z Anything h t v p.valid).0 p.way)
    (λ _. dropped-refl z h)

-- ---- the commands
touched-dropped : (z : State) → Well z → (n : ℕ) (f : ℕ → State → State) → ((a : ℕ) (x : State) → Well x → Dropped x (f a x)) → (b c : ℕ) →
    Dropped z (each_touched n f b c z)
unfolding each_touched
touched-dropped z h n f g b c =
    each-by (λ _ x. Dropped z x) (λ k. f ((b / n + k) * n)) (lines_touched n b c) z (dropped-refl z h)
    (λ k _ x d. dropped-trans z x (f ((b / n + k) * n) x) d (g ((b / n + k) * n) x d.step.good))

module _ (z : State) (h : Well z) where
  pub l1d_invalidate_all-dropped : Dropped z (l1d_invalidate_all z)
  unfolding l1d_invalidate_all
  l1d_invalidate_all-dropped =
      each-by (λ _ x. Dropped z x) (λ k. empty_l1d (k / 2) (k % 2)) 256 z (dropped-refl z h)
      (λ k hk x d. dropped-trans z x (empty_l1d (k / 2) (k % 2) x) d
      (empty_l1d-dropped x d.step.good (k / 2) (k % 2) (omega arith) (omega arith)).dropped)

  pub l1d_invalidate_block-dropped : (b c : ℕ) → Dropped z (l1d_invalidate_block b c z)
  unfolding l1d_invalidate_block
  l1d_invalidate_block-dropped b c = touched-dropped z h 64 (at_l1d empty_l1d) (λ a x g. at_l1d-dropped x g a) b c

  -- the touched lines of L1D first
  pub l2_invalidate_block-dropped : (b c : ℕ) → Dropped z (l2_invalidate_block b c z)
  unfolding l2_invalidate_block unless_mode0
  l2_invalidate_block-dropped b c =
      let y = l1d_invalidate_block b c z in let d = l1d_invalidate_block-dropped b c in let g = d.step.good in
      cond-elim (Dropped z) (mode0 y.rec) y (each_touched 128 (at_l2 drop_l2) b c y) (λ _. d)
      (λ _. dropped-trans z y (each_touched 128 (at_l2 drop_l2) b c y) d (touched-dropped y g 128 (at_l2 drop_l2) (λ a x g'. at_l2-dropped x g' a) b c))
