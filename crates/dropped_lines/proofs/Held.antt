-- What is seen at each address, and what may come to be seen there (`Seen g h`): every byte that a program can see as
-- things are is g's; every byte of a valid line and of the memories, hidden ones too, is one of h's; a clean L2 line
-- has the bytes of the memory behind it. Shown: what two kinds of events do to it. (1) Where no dirty line holds an
-- address, h may be cut down to the byte in memory (`settled`): nothing is hidden there, so every place holds g's
-- byte. (2) After lines were dropped (`Dropped`) the state is good again, by what is seen now (`dropped-good`), which
-- is what was seen before wherever no dirty line was dropped (`not-dropped`). Why: no byte changed and no line is
-- new, so each place that shows now held its byte before. Two places that show at one address agree: an L1D line and
-- what is behind it because the L1D line was clean before too, an L2 line and memory because the L2 line is clean.
use Prim.Native.Nat.{ℕ, ◌+◌, ◌*◌, ◌/◌, ◌%◌, ◌<◌}
use mathlib.Core.Bool.{Bool, true, false, not, cond, ◌&&◌, ◌||◌, and-false}
use mathlib.Core.Path.{◌≡◌, refl, sym, ap, ◌∙◌}
use mathlib.Core.List.{List, [], ◌∷◌}
use native.Mathlib.Omega.{arith}
use lib.ListN.{get_or}
use lib.Dec.{eqb}
use borrow.Author.Tests.{eq-eqb}
use Rattle.model.specs.Basics.{any_of}
use Rattle.model.specs.Lines.{l1d_set_of, l1d_data}
use Rattle.model.specs.Records.{State, l2_sets_of, l2_set_of, l1d_line_at, l2_line_at}
use Rattle.model.specs.Ways.{l1d_way, l2_way, in_l1d, in_l2}
use Rattle.model.specs.Homes.{memory_part}
use Rattle.dropped_lines.specs.Dropped.{memory_at}
use Rattle.dropped_lines.specs.Stronger.{dirty_in_l1d, dirty_in_l2, in_dirty_line}
use Rattle.model.specs.Laws.{bool, false-true, both_true}
use Rattle.agreement.proofs.Level.{Level, Valid, NoDirty}
use Rattle.agreement.proofs.Invariant.{Allowed, carry, Layout, Inside, InL2Line}
use Rattle.agreement.proofs.Memory.{Fits, read_at}
use Rattle.agreement.proofs.Good.{layout_of, l1d_level, l2_level, memory_of, Good, Tidy, Anything, l1d-hit, l2-hit, l1d-miss, l2-miss}
use Rattle.agreement.proofs.Drops.{Dropped}

-- ---- one of some values
abbrev pub In : ℕ → List ℕ → Type 0
In x xs = any_of (eqb x) xs ≡ true

pub in_head : (x y : ℕ) (xs : List ℕ) → x ≡ y → In x (y ∷ xs)
unfolding any_of
in_head x y xs e = rw (eq-eqb x y e) refl

pub in_tail : (x y : ℕ) (xs : List ℕ) → In x xs → In x (y ∷ xs)
unfolding any_of
in_tail x y xs h = bool (eqb x y) (λ t. rw t refl) (λ t. rw t h)

-- ---- what is right, and what is held
abbrev pub Seen : (ℕ → ℕ) → (ℕ → List ℕ) → Allowed
Seen g h =
    record {
      right = λ a c. (c ≡ g a) × In c (h a);
      held = λ a c. In c (h a);
      alike = λ c d. ◌≡◌ {A = ℕ} c d;
      right_held = λ _ _ p. p.1;
      copied = λ _. refl;
    }

-- ---- a dirty line of a level, of n bytes, has a
abbrev pub DirtyAt : ℕ → Level → ℕ → Type 0
DirtyAt n x a = (s : ℕ) × (w : ℕ) × Valid x s w × ((x.line s w).dirty ≡ true) × ((x.line s w).address ≡ a / n * n)

pub l1d-dirty : (z : State) (a : ℕ) → dirty_in_l1d z a ≡ true → DirtyAt 64 (l1d_level z) a
unfolding dirty_in_l1d
l1d-dirty z a t =
    let s = l1d_set_of a in let w = l1d_way z a in
    let p = both_true (in_l1d z a) (l1d_line_at z.rec s w).dirty t in let h = l1d-hit z a p.0 in
    (s, w, h.valid, p.1, h.address)

pub l2-dirty : (z : State) (a : ℕ) → dirty_in_l2 z a ≡ true → DirtyAt 128 (l2_level z) a
unfolding dirty_in_l2
l2-dirty z a t =
    let s = l2_set_of z.rec a in let w = l2_way z a in
    let p = both_true (in_l2 z a) (l2_line_at z.rec s w).dirty t in let h = l2-hit z a p.0 in
    (s, w, h.valid, p.1, h.address)

-- none has: the test says so
none-at : (n : ℕ) (x : Level) (a : ℕ) (b : Bool) → (b ≡ true → DirtyAt n x a) → NoDirty n x a → b ≡ false
none-at n x a b f m = bool b (λ t. let d = f t in absurd (m d.0 d.1 d.2 d.3 d.4)) (λ t. t)

pub no-dirty : (z : State) (a : ℕ) → NoDirty 64 (l1d_level z) a → NoDirty 128 (l2_level z) a → in_dirty_line z a ≡ false
unfolding in_dirty_line
no-dirty z a n₁ n₂ =
    rw (none-at 64 (l1d_level z) a (dirty_in_l1d z a) (l1d-dirty z a) n₁, none-at 128 (l2_level z) a (dirty_in_l2 z a) (l2-dirty z a) n₂) refl

-- with nothing valid nothing is dirty
pub none-dirty : (z : State) → ((s w : ℕ) → (l1d_line_at z.rec s w).valid ≡ false) → ((t v : ℕ) → (l2_line_at z.rec t v).valid ≡ false) → (a : ℕ) →
    in_dirty_line z a ≡ false
none-dirty z n₁ n₂ a = no-dirty z a (λ s w k _ _. false-true (sym (n₁ s w) ∙ k)) (λ t v k _ _. false-true (sym (n₂ t v) ∙ k))

-- the test says that none has: so it is, in a good state
module _ (z : State) (F : Allowed) (q : Good z F) (a : ℕ) where
  pub l1d-clean : dirty_in_l1d z a ≡ false → NoDirty 64 (l1d_level z) a
  unfolding dirty_in_l1d
  l1d-clean t s w k d e =
      bool (in_l1d z a)
      (λ y. let p = l1d-hit z a y in
      let o = q.inv.l1d_sound.once (l1d_set_of a) (l1d_way z a) s w p.valid k (p.address ∙ sym e) in
      let d' = rw (o.0, o.1) at d in false-true (sym (rw (y, d') at t)))
      (λ y. l1d-miss z F q a y s w k e)

  pub l2-clean : dirty_in_l2 z a ≡ false → NoDirty 128 (l2_level z) a
  unfolding dirty_in_l2
  l2-clean t s w k d e =
      bool (in_l2 z a)
      (λ y. let p = l2-hit z a y in
      let o = q.inv.l2_sound.once (l2_set_of z.rec a) (l2_way z a) s w p.valid k (p.address ∙ sym e) in
      let d' = rw (o.0, o.1) at d in false-true (sym (rw (y, d') at t)))
      (λ y. l2-miss z F q a y s w k e)

-- a dirty line with a that is still there is no line that was lost: of one level, p and p' being the test before and
-- after
pub still-dirty : (n : ℕ) (x x' : Level) (a : ℕ) (p p' : Bool) → (p ≡ true → DirtyAt n x a) → (p' ≡ false → NoDirty n x' a) →
    (p ≡ true → DirtyAt n x a → DirtyAt n x' a) → (p && not p') ≡ false
still-dirty n x x' a p p' f g k =
    bool p' (λ t. rw t (and-false p))
    (λ t. rw t (bool p (λ u. let d = k u (f u) in absurd (g t d.0 d.1 d.2 d.3 d.4)) (λ u. rw u refl)))

pub neither : (a b : Bool) → (a || b) ≡ false → (a ≡ false) × (b ≡ false)
neither true b h = false-true (sym h)
neither false b h = (refl, h)

-- the byte in memory, as the statement has it
pub memory-at : (z : State) → Tidy z → (a : ℕ) → Inside (layout_of z.rec) a → memory_at z a ≡ memory_of z a
unfolding memory_at memory_part
memory-at z h a i =
    let m = h.sizes.l2_length in let e = h.sizes.ext_length in let mx = h.sizes.l2_most in
    let fits : Fits z.l2 z.ext a 1 = record { low = λ k. let l = i.low k in omega arith; high = λ k. let l = i.high k in omega arith } in
    let j : a + 0 ≡ a = omega arith in
    rw j at (read_at z.l2 z.ext a 1 fits (omega arith) 0 (omega arith))

-- ---- (1) h cut down
module _ (z : State) (g : ℕ → ℕ) (h h' : ℕ → List ℕ) (q : Good z (Seen g h)) (more : (a c : ℕ) → in_dirty_line z a ≡ true → In c (h a) → In c (h' a)) where
  abbrev cut : ℕ → List ℕ
  cut a = cond (in_dirty_line z a) (h' a) (memory_at z a ∷ [])

  cut_in : (a c : ℕ) → Inside (layout_of z.rec) a → In c (h a) → (NoDirty 64 (l1d_level z) a → NoDirty 128 (l2_level z) a → c ≡ g a) → In c (cut a)
  unfolding in_dirty_line
  cut_in a c i p e =
      bool (in_dirty_line z a) (λ t. rw t (more a c t p))
      (λ t. let n₁ = l1d-clean z (Seen g h) q a (bool (dirty_in_l1d z a) (λ d. false-true (sym (rw d at t))) (λ d. d)) in
      let n₂ = l2-clean z (Seen g h) q a (bool (dirty_in_l2 z a) (λ d. bool (dirty_in_l1d z a) (λ d'. false-true (sym (rw d' at t))) (λ d'. false-true (sym (rw (d', d) at t)))) (λ d. d)) in
      rw t (in_head c (memory_at z a) [] (e n₁ n₂ ∙ sym (q.inv.memory_right a i n₁ n₂).0 ∙ sym (memory-at z q.tidy a i))))

  l1d-inside : (s w : ℕ) → Valid (l1d_level z) s w → (i : ℕ) → i < 64 → Inside (layout_of z.rec) ((l1d_line_at z.rec s w).address + i)
  l1d-inside s w k i hi =
      let p = q.inv.l1d_sound.place s w k in let al = p.aligned in
      record { low = λ y. let l = p.low (omega arith) in omega arith; high = λ y. let l = p.high (omega arith) in omega arith }

  l2-inside : (t v : ℕ) → Valid (l2_level z) t v → (i : ℕ) → i < 128 → Inside (layout_of z.rec) ((l2_line_at z.rec t v).address + i)
  l2-inside t v k i hi =
      let p = q.inv.l2_sound.place t v k in let lo = p.low in let hh = p.high in
      record { low = λ y. absurd (omega arith); high = λ y. omega arith }

  pub settled : Good z (Seen g cut)
  settled =
      let v = q.inv in
      record {
        tidy = q.tidy;
        inv = record {
          l1d_sound = v.l1d_sound;
          l2_sound = v.l2_sound;
          inclusion = v.inclusion;
          l1d_right = λ s w k i hi.
              let r = v.l1d_right s w k i hi in
              (r.0, cut_in ((l1d_line_at z.rec s w).address + i) ((l1d_level z).byte s w i) (l1d-inside s w k i hi) r.1 (λ _ _. r.0));
          l2_right = λ t v' k i hi m.
              let r = v.l2_right t v' k i hi m in
              (r.0, cut_in ((l2_line_at z.rec t v').address + i) ((l2_level z).byte t v' i) (l2-inside t v' k i hi) r.1 (λ _ _. r.0));
          memory_right = λ a i m m'. let r = v.memory_right a i m m' in (r.0, cut_in a (memory_of z a) i r.1 (λ _ _. r.0));
          behind = record {
            l2_held = λ t v' k i hi.
                cut_in ((l2_line_at z.rec t v').address + i) ((l2_level z).byte t v' i) (l2-inside t v' k i hi) (v.behind.l2_held t v' k i hi)
                (λ m _. (v.l2_right t v' k i hi m).0);
            memory_held = λ a i. cut_in a (memory_of z a) i (v.behind.memory_held a i) (λ m m'. (v.memory_right a i m m').0);
            l2_alike = v.behind.l2_alike;
          };
        };
      }

-- ---- what is seen at a: L1D's byte where L1D holds it, else L2's where L2 does, else memory's
unfoldable pub seen : State → ℕ → ℕ
seen z a =
    cond (in_l1d z a) ((l1d_level z).byte (l1d_set_of a) (l1d_way z a) (a % 64))
    (cond (in_l2 z a) ((l2_level z).byte (l2_set_of z.rec a) (l2_way z a) (a % 128)) (memory_of z a))

module _ (z : State) (F : Allowed) (q : Good z F) where
  seen-l1d : (s w : ℕ) → Valid (l1d_level z) s w → (i : ℕ) → i < 64 → (l1d_level z).byte s w i ≡ seen z ((l1d_line_at z.rec s w).address + i)
  unfolding seen
  seen-l1d s w k i hi =
      let a = (l1d_line_at z.rec s w).address + i in
      let al = (q.inv.l1d_sound.place s w k).aligned in
      bool (in_l1d z a)
      (λ y. let p = l1d-hit z a y in
      let o = q.inv.l1d_sound.once (l1d_set_of a) (l1d_way z a) s w p.valid k (p.address ∙ omega arith) in
      let j : a % 64 ≡ i = omega arith in
      rw (y, j, ← o.0, ← o.1) refl)
      (λ y. absurd (l1d-miss z F q a y s w k (omega arith)))

  seen-l2 : (t v : ℕ) → Valid (l2_level z) t v → (i : ℕ) → i < 128 → in_l1d z ((l2_line_at z.rec t v).address + i) ≡ false →
      (l2_level z).byte t v i ≡ seen z ((l2_line_at z.rec t v).address + i)
  unfolding seen
  seen-l2 t v k i hi n =
      let a = (l2_line_at z.rec t v).address + i in
      let al = (q.inv.l2_sound.place t v k).aligned in
      bool (in_l2 z a)
      (λ y. let p = l2-hit z a y in
      let o = q.inv.l2_sound.once (l2_set_of z.rec a) (l2_way z a) t v p.valid k (p.address ∙ omega arith) in
      let j : a % 128 ≡ i = omega arith in
      rw (n, y, j, ← o.0, ← o.1) refl)
      (λ y. absurd (l2-miss z F q a y t v k (omega arith)))

-- ---- (2) lines were dropped
module _ (z z' : State) (g : ℕ → ℕ) (h : ℕ → List ℕ) (q : Good z (Seen g h)) (d : Dropped z z') where
  -- the same bytes
  same-l1d : (s w i : ℕ) → (l1d_level z').byte s w i ≡ (l1d_level z).byte s w i
  same-l1d s w i = ap (λ (l : List ℕ). get_or l (l1d_data s w + i) 0) d.l1d_bytes

  same-l2 : (t v i : ℕ) → (l2_level z').byte t v i ≡ (l2_level z).byte t v i
  same-l2 t v i = rw (d.l2_bytes, d.step.kept.mode, d.step.kept.l2len) refl

  same_memory : (a : ℕ) → memory_of z' a ≡ memory_of z a
  same_memory a = rw (d.l2_bytes, d.ext_bytes) refl

  -- a byte of L1D is what was seen; a byte behind it was held
  l1d-was : (s w : ℕ) → Valid (l1d_level z') s w → (i : ℕ) → i < 64 → (Seen g h).right ((l1d_line_at z'.rec s w).address + i) ((l1d_level z').byte s w i)
  l1d-was s w k i hi = let e = d.l1d_fewer s w k in carry (Seen g h) (same-l1d s w i) (rw e (q.inv.l1d_right s w (rw e at k) i hi))

  l2-was : (t v : ℕ) → Valid (l2_level z') t v → (i : ℕ) → i < 128 → In ((l2_level z').byte t v i) (h ((l2_line_at z'.rec t v).address + i))
  l2-was t v k i hi = let e = d.l2_fewer t v k in let b = same-l2 t v i in rw (b, e) (q.inv.behind.l2_held t v (rw e at k) i hi)

  -- ---- where L1D still holds a
  module _ (a : ℕ) (y : in_l1d z' a ≡ true) where
    abbrev s : ℕ
    s = l1d_set_of a

    abbrev w : ℕ
    w = l1d_way z' a

    held-seen : seen z' a ≡ g a
    unfolding seen
    held-seen =
        let p = l1d-hit z' a y in
        let pa = p.address in
        let j : (l1d_line_at z'.rec s w).address + a % 64 ≡ a = omega arith in
        rw y (rw j at (l1d-was s w p.valid (a % 64) (omega arith)).0)

    -- no dirty L1D line held it before, if none does now
    held-l1d-clean : NoDirty 64 (l1d_level z') a → NoDirty 64 (l1d_level z) a
    held-l1d-clean m s' w' k i e =
        let p = l1d-hit z' a y in
        let x = d.l1d_fewer s w p.valid in
        let pv = p.valid in let pa = p.address in
        let o = q.inv.l1d_sound.once s w s' w' (rw x at pv) k ((rw x at pa) ∙ sym e) in
        m s w pv (rw x (rw (o.0, o.1) at i)) pa

  -- ---- where L2 still holds a: no dirty L2 line held it before, if none does now
  still-l2-clean : (a b : ℕ) → b / 128 * 128 ≡ a / 128 * 128 → InL2Line (l2_level z') b → NoDirty 128 (l2_level z') a → NoDirty 128 (l2_level z) a
  still-l2-clean a b j p m t v k i e =
      let x = d.l2_fewer p.0 p.1 p.2 in
      let pv = p.2 in let pa = p.3 in
      let o = q.inv.l2_sound.once t v p.0 p.1 k (rw x at pv) (e ∙ sym (rw (x, j) at pa)) in
      m p.0 p.1 pv (rw x (rw (o.0, o.1) i)) (pa ∙ j)

  -- L1D's line lies inside an L2 line, if L2 holds any of it
  held-l2-clean : (a : ℕ) → in_l1d z' a ≡ true → NoDirty 128 (l2_level z') a → NoDirty 128 (l2_level z) a
  held-l2-clean a y m t v k i e =
      let s = l1d_set_of a in let w = l1d_way z' a in
      let p = l1d-hit z' a y in let pa = p.address in
      let pl = q.inv.l2_sound.place t v k in let lo = pl.low in let u = pl.set_used in
      let se : l2_sets_of z'.rec ≡ l2_sets_of z.rec = ap (λ (x : Layout). x.sets) d.step.kept.layout in
      still-l2-clean a (l1d_line_at z'.rec s w).address (omega arith)
      (d.step.good.inv.inclusion s w p.valid (omega arith) (λ n. absurd (omega arith))) m t v k i e

  -- ---- the state is good by what is seen now
  memory-seen : (a : ℕ) → Inside (layout_of z.rec) a → NoDirty 64 (l1d_level z') a → NoDirty 128 (l2_level z') a → memory_of z' a ≡ seen z' a
  unfolding seen
  memory-seen a i m m' =
      bool (in_l1d z' a)
      (λ y. same_memory a ∙ (q.inv.memory_right a i (held-l1d-clean a y m) (held-l2-clean a y m')).0 ∙ sym (held-seen a y))
      (λ n. bool (in_l2 z' a)
      (λ y. let t = l2_set_of z'.rec a in let v = l2_way z' a in
      let p = l2-hit z' a y in let pa = p.address in
      let x = d.l2_fewer t v p.valid in
      let j : (l2_line_at z'.rec t v).address + a % 128 ≡ a = omega arith in
      let clean : (l2_line_at z'.rec t v).dirty ≡ false =
      bool (l2_line_at z'.rec t v).dirty (λ t'. absurd (m' t v p.valid t' pa)) (λ t'. t') in
      let al : (l2_level z).byte t v (a % 128) ≡ memory_of z ((l2_line_at z.rec t v).address + a % 128) =
      q.inv.behind.l2_alike t v (rw x at p.valid) (rw x at clean) (a % 128) (omega arith) in
      same_memory a ∙ sym (rw j at (rw (← x) at al)) ∙ sym (same-l2 t v (a % 128)) ∙ (rw (n, y) refl))
      (λ y. rw (n, y) refl))

  l2-seen : (t v : ℕ) → Valid (l2_level z') t v → (i : ℕ) → i < 128 → NoDirty 64 (l1d_level z') ((l2_line_at z'.rec t v).address + i) →
      (l2_level z').byte t v i ≡ seen z' ((l2_line_at z'.rec t v).address + i)
  l2-seen t v k i hi m =
      let a = (l2_line_at z'.rec t v).address + i in
      bool (in_l1d z' a)
      (λ y. let e = d.l2_fewer t v k in
      let c : NoDirty 64 (l1d_level z) a = held-l1d-clean a y m in
      let r : (l2_level z).byte t v i ≡ g a = rw e (q.inv.l2_right t v (rw e at k) i hi (rw e at c)).0 in
      same-l2 t v i ∙ r ∙ sym (held-seen a y))
      (λ n. seen-l2 z' Anything d.step.good t v k i hi n)

  pub dropped-good : Good z' (Seen (seen z') h)
  dropped-good =
      let v = d.step.good.inv in
      let inside : (a : ℕ) → Inside (layout_of z'.rec) a → Inside (layout_of z.rec) a = λ a i. rw d.step.kept.layout at i in
      let memory-was : (a : ℕ) → Inside (layout_of z'.rec) a → In (memory_of z' a) (h a) =
      λ a i. rw (same_memory a) (q.inv.behind.memory_held a (inside a i)) in
      record {
        tidy = d.step.good.tidy;
        inv = record {
          l1d_sound = v.l1d_sound;
          l2_sound = v.l2_sound;
          inclusion = v.inclusion;
          l1d_right = λ s w k i hi. (seen-l1d z' Anything d.step.good s w k i hi, (l1d-was s w k i hi).1);
          l2_right = λ t v' k i hi m. (l2-seen t v' k i hi m, l2-was t v' k i hi);
          memory_right = λ a i m m'. (memory-seen a (inside a i) m m', memory-was a i);
          behind = record {
            l2_held = l2-was;
            memory_held = memory-was;
            l2_alike = λ t v' k c i hi.
                let e = d.l2_fewer t v' k in
                let al = q.inv.behind.l2_alike t v' (rw e at k) (rw e at c) i hi in
                same-l2 t v' i ∙ (rw (← e) at al) ∙ sym (same_memory ((l2_line_at z'.rec t v').address + i));
          };
        };
      }

  -- ---- and it is what was seen, where each dirty line that held a is still there
  pub not-dropped : (a : ℕ) → Inside (layout_of z.rec) a → (dirty_in_l1d z' a ≡ false → dirty_in_l1d z a ≡ false) →
      (dirty_in_l2 z' a ≡ false → dirty_in_l2 z a ≡ false) → seen z' a ≡ g a
  unfolding seen dirty_in_l1d dirty_in_l2
  not-dropped a i c₁ c₂ =
      bool (in_l1d z' a) (λ y. held-seen a y)
      (λ n. let m = l1d-clean z (Seen g h) q a (c₁ (rw n refl)) in
      bool (in_l2 z' a)
      (λ y. let t = l2_set_of z'.rec a in let v = l2_way z' a in
      let p = l2-hit z' a y in let pa = p.address in
      let x = d.l2_fewer t v p.valid in
      let j : (l2_line_at z.rec t v).address + a % 128 ≡ a = rw (← x) (omega arith) in
      let r : (l2_level z).byte t v (a % 128) ≡ g a = rw j at (q.inv.l2_right t v (rw x at p.valid) (a % 128) (omega arith) (rw j m)).0 in
      rw (n, y) (same-l2 t v (a % 128) ∙ r))
      (λ y. rw (n, y) (same_memory a ∙ (q.inv.memory_right a i m (l2-clean z (Seen g h) q a (c₂ (rw y refl)))).0)))
