-- The cache commands that write back, over all lines or over a block, and the flush before a mode change. Shown: each
-- leaves the state good; after a global writeback, and after the flush, L1D holds nothing and no L2 line is dirty
-- (`AllOut`).
-- Why: each is a loop of steps that keep the state good. L1D is emptied first, way by way, and nothing fills it again;
-- so no line of L1D can make an L2 line dirty that has gone out. Slots are counted k = set * ways + way, so that
-- "before k" is one linear test.
use Prim.Native.Nat.{ℕ, zero, suc, ◌+◌, ◌*◌, ◌/◌, ◌%◌, ◌≤◌, ◌<◌}
use mathlib.Core.Bool.{false}
use mathlib.Core.Path.{◌≡◌, refl, sym, ap, ◌∙◌}
use native.Mathlib.Omega.{arith}
use lib.Dec.{eqb}
use borrow.Author.Tests.{eqb-true, eqb-false}
use Rattle.model.specs.Basics.{each}
use Rattle.model.specs.Lines.{l1d_set_of, l2_sets}
use Rattle.model.specs.Records.{State, l2_sets_of, mode0, l2_set_of, l1d_line_at, l2_line_at}
use Rattle.model.specs.Ways.{l1d_way, l2_way, in_l1d, in_l2}
use Rattle.model.specs.Access.{evict_l1d}
use Rattle.model.specs.Homes.{write_out_l2, writeback_l2, evict_l2}
use Rattle.model.specs.Modes.{flush_l2}
use Rattle.model.specs.Commands.{block_end, lines_touched, each_touched, each_l2, at_l2, at_l1d, unless_mode0, evict_all_l1d, l2_writeback_all, l2_writeback_invalidate_all, l2_writeback_block, l2_writeback_invalidate_block, l1d_writeback_invalidate_block}
use Rattle.model.proofs.Emptied.{evicted-all}
use Rattle.model.specs.Laws.{bool, false-true, cond-elim, no-ways, touched-lines}
use Rattle.model.specs.declared.Line.{Line}
use Rattle.model.specs.declared.Record.{Record}
use Rattle.agreement.proofs.Level.{Valid, Other, Free, same-slot}
use Rattle.agreement.proofs.Invariant.{Allowed}
use Rattle.agreement.proofs.Good.{l1d_level, l2_level, Good, kept_refl, kept_trans, l1d-hit, l2-hit, l1d-miss, l1d-bounds, l2-bounds}
use Rattle.agreement.proofs.Evict.{evict_l1d-good, left-refl, left-free, HalfTaken, half-left}
use Rattle.agreement.proofs.Writeback.{write_out_l2-good, Swept, writeback_l2-good, evict_l2-good}
use Rattle.agreement.proofs.ReadWrite.{Step}
use Rattle.agreement.proofs.Flushes.{swept_l1d}

-- ---- a loop over 0 .. n - 1: what holds at first, and is carried from k to k + 1, holds at n
pub each-by {ℓ} : {A : Type ℓ} (P : ℕ → A → Type 0) (f : ℕ → A → A) (n : ℕ) (z : A) → P 0 z →
    ((k : ℕ) → k < n → (x : A) → P k x → P (suc k) (f k x)) →
    P n (each f n z)
unfolding each
each-by P f zero z p h = p
each-by P f (suc n) z p h = h n (omega arith) (each f n z) (each-by P f n z p (λ k l. h k (omega arith)))

pub step-refl : (z : State) (F : Allowed) → Good z F → Step z F z
step-refl z F q = record { good = q; kept = kept_refl z }

pub step-trans : (z x y : State) (F : Allowed) → Step z F x → Step x F y → Step z F y
step-trans z x y F a b = record { good = b.good; kept = kept_trans z x y a.kept b.kept }

-- a step on one L2 slot that sweeps it
abbrev pub Sweeps : Allowed → (ℕ → ℕ → State → State) → Type 0
Sweeps F f = (x : State) → Good x F → (t v : ℕ) → t < l2_sets_of x.rec → v < 4 → Swept x F t v (f t v x)

-- ---- blocks: a step that is good at every line is good over a block
module _ (z : State) (F : Allowed) (q : Good z F) where
  pub touched-good : (n : ℕ) (f : ℕ → State → State) → ((a : ℕ) (x : State) → Good x F → Step x F (f a x)) → (b c : ℕ) →
      Step z F (each_touched n f b c z)
  unfolding each_touched
  touched-good n f h b c =
      each-by (λ _ x. Step z F x) (λ k. f ((b / n + k) * n)) (lines_touched n b c) z (step-refl z F q)
      (λ k _ x w. step-trans z x (f ((b / n + k) * n) x) F w (h ((b / n + k) * n) x w.good))

  pub at_l1d-good : (f : ℕ → ℕ → State → State) → ((s w : ℕ) → s < 128 → w < 2 → Step z F (f s w z)) → (a : ℕ) → Step z F (at_l1d f a z)
  unfolding at_l1d
  at_l1d-good f h a =
      cond-elim (Step z F) (in_l1d z a) (f (l1d_set_of a) (l1d_way z a) z) z
      (λ y. h (l1d_set_of a) (l1d_way z a) (omega arith) (l1d-hit z a y).way) (λ _. step-refl z F q)

  pub at_l2-good : (f : ℕ → ℕ → State → State) → ((t v : ℕ) → Valid (l2_level z) t v → t < l2_sets_of z.rec → v < 4 → Step z F (f t v z)) → (a : ℕ) →
      Step z F (at_l2 f a z)
  unfolding at_l2
  at_l2-good f h a =
      let t = l2_set_of z.rec a in let v = l2_way z a in
      cond-elim (Step z F) (in_l2 z a) (f t v z) z
      (λ y. let p = l2-hit z a y in h t v p.valid (l2-bounds z F q t v p.valid).0 p.way) (λ _. step-refl z F q)

  pub unless-good : (f : State → State) → Step z F (f z) → Step z F (unless_mode0 f z)
  unfolding unless_mode0
  unless-good f s = cond-elim (Step z F) (mode0 z.rec) z (f z) (λ _. step-refl z F q) (λ _. s)

pub evict_l1d-step : (z : State) (F : Allowed) → Good z F → (s w : ℕ) → s < 128 → w < 2 → Step z F (evict_l1d s w z)
evict_l1d-step z F q s w hs hw = let l = (evict_l1d-good z F q s w hs hw).left in record { good = l.good; kept = l.kept }

pub swept_step : (z : State) (F : Allowed) (t v : ℕ) (z' : State) → Swept z F t v z' → Step z F z'
swept_step z F t v z' s = record { good = s.good; kept = s.kept }

-- ---- everything goes out: nothing is left in L1D, nothing dirty in L2
pub record L1dEmptied (z : State) (F : Allowed) (x : State) : Type 0 where
  pub step : Step z F x
  pub l1d_none : (s w : ℕ) → Valid (l1d_level x) s w → ⊥

pub swept_l1d-good : (z : State) (F : Allowed) → Good z F → L1dEmptied z F (swept_l1d z)
unfolding evict_all_l1d
swept_l1d-good z F q =
    let x = swept_l1d z in
    let u : Step z F x =
    each-by (λ _ y. Step z F y) (λ k. evict_l1d (k / 2) (k % 2)) 256 z (step-refl z F q)
    (λ k hk y w. let m = evict_l1d-step y F w.good (k / 2) (k % 2) (omega arith) (omega arith) in
    step-trans z y (evict_l1d (k / 2) (k % 2) y) F w m) in
    record {
      step = u;
      l1d_none = λ s w i. let b = l1d-bounds x F u.good s w i in
          false-true (sym (evicted-all z s w b.0 b.1) ∙ i);
    }

-- ---- one L2 slot cleaned, L1D holding nothing: L1D still holds nothing, and no other slot gets dirty
record Cleaned (x : State) (F : Allowed) (t v : ℕ) (x' : State) : Type 0 where
  step : Step x F x'
  l1d_none : (s w : ℕ) → Valid (l1d_level x') s w → ⊥
  clean : Valid (l2_level x') t v → (l2_line_at x'.rec t v).dirty ≡ false
  others : (t' v' : ℕ) → Other t v t' v' → (Valid (l2_level x) t' v' → (l2_line_at x.rec t' v').dirty ≡ false) →
      Valid (l2_level x') t' v' → (l2_line_at x'.rec t' v').dirty ≡ false

abbrev L1dNone : State → Type 0
L1dNone x = (s w : ℕ) → Valid (l1d_level x) s w → ⊥

abbrev Cleans : Allowed → (ℕ → ℕ → State → State) → Type 0
Cleans F f = (x : State) → Good x F → L1dNone x → (t v : ℕ) → t < l2_sets_of x.rec → v < 4 → Cleaned x F t v (f t v x)

valid_same : (r r' : Record) → r'.l1d ≡ r.l1d → (s w : ℕ) → (l1d_line_at r' s w).valid ≡ (l1d_line_at r s w).valid
valid_same r r' e s w = rw e refl

-- a slot that is written out, and one that is swept
write_out-cleans : (F : Allowed) → Cleans F write_out_l2
write_out-cleans F x q none t v ht hv =
    let o = write_out_l2-good x F q t v ht hv (λ _ s w i. absurd (none s w i)) in
    let x' = write_out_l2 t v x in
    record {
      step = record { good = o.good; kept = o.kept };
      l1d_none = λ s w i. none s w (sym (valid_same x.rec x'.rec o.lines s w) ∙ i);
      clean = o.clean;
      others = λ t' v' e h i. let y = o.others t' v' e in ap (λ (r : Line). r.dirty) y ∙ h (rw y at i);
    }

sweeps-clean : (F : Allowed) (f : ℕ → ℕ → State → State) → Sweeps F f → Cleans F f
sweeps-clean F f h x q none t v ht hv =
    let o = h x q t v ht hv in
    record {
      step = record { good = o.good; kept = o.kept };
      l1d_none = λ s w i. let y = o.fewer s w i in none s w (rw y at i);
      clean = λ i. (o.done i).0;
      others = λ t' v' e h' i. o.unsoiled t' v' e (λ s w k _. absurd (none s w k)) ∙ h' (sym (o.valid t' v' e) ∙ i);
    }

-- ---- all slots of L2, one after another: those before slot k are clean
record L2CleanTo (z : State) (F : Allowed) (k : ℕ) (x : State) : Type 0 where
  step : Step z F x
  l1d_none : L1dNone x
  clean : (t v : ℕ) → v < 4 → t * 4 + v < k → Valid (l2_level x) t v → (l2_line_at x.rec t v).dirty ≡ false

l2-clean-next : (z : State) (F : Allowed) (k : ℕ) (x x' : State) → L2CleanTo z F k x → Cleaned x F (k / 4) (k % 4) x' → L2CleanTo z F (suc k) x'
l2-clean-next z F k x x' u o =
    record {
      step = step-trans z x x' F u.step o.step;
      l1d_none = o.l1d_none;
      clean = λ t v hv h. same-slot (k / 4) (k % 4) t v
          (λ e. let g = o.clean in rw (e.0, e.1) g)
          (λ e. o.others t v e
          (bool (eqb (t * 4 + v) k)
          (λ y. let y' = eqb-true (t * 4 + v) k y in absurd (e (omega arith, omega arith)))
          (λ y. let y' = eqb-false (t * 4 + v) k y in u.clean t v hv (omega arith))));
    }

-- L1D holds nothing, and no L2 line is dirty
pub record AllOut (z : State) (F : Allowed) (x : State) : Type 0 where
  pub step : Step z F x
  pub l1d_none : (s w : ℕ) → Valid (l1d_level x) s w → ⊥
  pub l2_clean : (t v : ℕ) → Valid (l2_level x) t v → (l2_line_at x.rec t v).dirty ≡ false

all-clean : (F : Allowed) (f : ℕ → ℕ → State → State) → Cleans F f → (z : State) → Good z F → L1dNone z → AllOut z F (each_l2 f z)
unfolding each_l2
all-clean F f h z q none =
    let n = l2_sets_of z.rec * 4 in
    let x = each (λ k. f (k / 4) (k % 4)) n z in
    let u : L2CleanTo z F n x =
    each-by (λ k y. L2CleanTo z F k y) (λ k. f (k / 4) (k % 4)) n z
    (record { step = step-refl z F q; l1d_none = none; clean = λ t v hv h. absurd (omega arith) })
    (λ k hk y u.
    let l : k / 4 < l2_sets_of z.rec = omega arith in
    l2-clean-next z F k y (f (k / 4) (k % 4) y) u
    (h y u.step.good u.l1d_none (k / 4) (k % 4) (rw u.step.kept.mode l) (omega arith))) in
    let m : l2_sets_of x.rec ≡ l2_sets_of z.rec = ap (λ (y : ℕ). l2_sets y) u.step.kept.mode in
    record {
      step = u.step;
      l1d_none = u.l1d_none;
      l2_clean = λ t v i. let b = l2-bounds x F u.step.good t v i in let b₀ = b.0 in let b₁ = b.1 in u.clean t v b₁ (omega arith) i;
    }

-- all of L1D, then all of L2
all-out : (F : Allowed) (f : ℕ → ℕ → State → State) → Cleans F f → (z : State) → Good z F → AllOut z F (each_l2 f (swept_l1d z))
all-out F f h z q =
    let a = swept_l1d-good z F q in
    let b = all-clean F f h (swept_l1d z) a.step.good a.l1d_none in
    record { step = step-trans z (swept_l1d z) (each_l2 f (swept_l1d z)) F a.step b.step; l1d_none = b.l1d_none; l2_clean = b.l2_clean }

-- ---- the flush of a mode change
pub flush-good : (z : State) (F : Allowed) → Good z F → AllOut z F (flush_l2 (swept_l1d z))
unfolding flush_l2 each_l2
flush-good z F q = all-out F write_out_l2 (write_out-cleans F) z q

-- ---- the commands
module _ (F : Allowed) where
  pub writeback_l2-sweeps : Sweeps F writeback_l2
  writeback_l2-sweeps x g t v ht hv = writeback_l2-good x F g t v ht hv

  pub evict_l2-sweeps : Sweeps F evict_l2
  evict_l2-sweeps x g t v ht hv = (evict_l2-good x F g t v ht hv).swept

module _ (z : State) (F : Allowed) (q : Good z F) where
  -- L1D first; in mode 0 there are no L2 ways to go through
  over-all : (f : ℕ → ℕ → State → State) → Sweeps F f → AllOut z F (unless_mode0 (each_l2 f) (evict_all_l1d z))
  unfolding evict_all_l1d
  over-all f h = rw (no-ways f (swept_l1d z)) (all-out F f (sweeps-clean F f h) z q)

  pub l2_writeback_all-good : AllOut z F (l2_writeback_all z)
  unfolding l2_writeback_all
  l2_writeback_all-good = over-all writeback_l2 (writeback_l2-sweeps F)

  pub l2_writeback_invalidate_all-good : AllOut z F (l2_writeback_invalidate_all z)
  unfolding l2_writeback_invalidate_all
  l2_writeback_invalidate_all-good = over-all evict_l2 (evict_l2-sweeps F)

  pub l1d_writeback_invalidate_block-good : (b c : ℕ) → Step z F (l1d_writeback_invalidate_block b c z)
  unfolding l1d_writeback_invalidate_block
  l1d_writeback_invalidate_block-good b c =
      touched-good z F q 64 (at_l1d evict_l1d) (λ a x g. at_l1d-good x F g evict_l1d (λ s w hs hw. evict_l1d-step x F g s w hs hw) a) b c

-- behind it L1D holds no line that the block touches: each is gone after its turn, and no turn brings one in
pub l1d-block-gone : (z : State) (F : Allowed) → Good z F → (b c a : ℕ) → b < 0x100000000 → b ≤ a → a < block_end b c →
    Free 64 (l1d_level (l1d_writeback_invalidate_block b c z)) a
unfolding l1d_writeback_invalidate_block each_touched at_l1d
l1d-block-gone z F q b c a low from to =
    let f : ℕ → State → State = λ k. at_l1d evict_l1d ((b / 64 + k) * 64) in
    let gone : (l : ℕ) (x : State) → Good x F → HalfTaken x F l (at_l1d evict_l1d l x) =
    λ l x g. cond-elim (HalfTaken x F l) (in_l1d x l) (evict_l1d (l1d_set_of l) (l1d_way x l) x) x
    (λ y. half-left x F g l y (evict_l1d (l1d_set_of l) (l1d_way x l) x) (evict_l1d-good x F g (l1d_set_of l) (l1d_way x l) (omega arith) (l1d-hit x l y).way))
    (λ y. record { left = left-refl x F g; free = l1d-miss x F g l y }) in
    let u = each-by (λ k x. Good x F × ((j : ℕ) → j < k → Free 64 (l1d_level x) ((b / 64 + j) * 64))) f (lines_touched 64 b c) z
    (q, λ j h. absurd (omega arith))
    (λ k _ x p. let l = (b / 64 + k) * 64 in let o = gone l x p.0 in (
      o.left.good,
      λ j h. bool (eqb j k)
          (λ e. let e' = eqb-true j k e in rw e' o.free)
          (λ e. let e' = eqb-false j k e in left-free x (f k x) F o.left 64 ((b / 64 + j) * 64) (p.1 j (omega arith))),
    )) in
    let t = (touched-lines 64 b c (a / 64) (omega arith) low).1 (a, from, to, refl) in
    let e = t.2 in
    λ s w k i. u.1 t.0 t.1 s w k (i ∙ omega arith)

pub l2-block : (z : State) (F : Allowed) → Good z F → (f : ℕ → ℕ → State → State) → Sweeps F f → (b c : ℕ) →
    Step z F (unless_mode0 (each_touched 128 (at_l2 f) b c) z)
l2-block z F q f h b c =
    unless-good z F q (each_touched 128 (at_l2 f) b c)
    (touched-good z F q 128 (at_l2 f) (λ a x g. at_l2-good x F g f (λ t v _ ht hv. swept_step x F t v (f t v x) (h x g t v ht hv)) a) b c)

module _ (z : State) (F : Allowed) (q : Good z F) where
  -- the touched lines of L1D first
  over-block : (f : ℕ → ℕ → State → State) → Sweeps F f → (b c : ℕ) →
      Step z F (unless_mode0 (each_touched 128 (at_l2 f) b c) (l1d_writeback_invalidate_block b c z))
  over-block f h b c =
      let y = l1d_writeback_invalidate_block b c z in let s = l1d_writeback_invalidate_block-good z F q b c in
      step-trans z y (unless_mode0 (each_touched 128 (at_l2 f) b c) y) F s (l2-block y F s.good f h b c)

  pub l2_writeback_block-good : (b c : ℕ) → Step z F (l2_writeback_block b c z)
  unfolding l2_writeback_block
  l2_writeback_block-good b c = over-block writeback_l2 (writeback_l2-sweeps F) b c

  pub l2_writeback_invalidate_block-good : (b c : ℕ) → Step z F (l2_writeback_invalidate_block b c z)
  unfolding l2_writeback_invalidate_block
  l2_writeback_invalidate_block-good b c = over-block evict_l2 (evict_l2-sweeps F) b c
