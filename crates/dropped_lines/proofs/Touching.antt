-- An invalidating command drops no line but those that its block touches (`loses-touched`): where the block touches no
-- line with address a, 128 bytes for L2's command and 64 for L1D's, each line with a is still there behind it.
-- Why: the command goes from touched line to touched line, and what it does at one of them empties the slots of that
-- line alone, in L2 with both its halves in L1D.
use Prim.Native.Nat.{ℕ, ◌+◌, ◌*◌, ◌-◌, ◌/◌, ◌≤◌, ◌<◌}
use mathlib.Core.Bool.{Bool, false, not, cond, ◌&&◌, ◌||◌}
use mathlib.Core.Path.{◌≡◌, refl, sym, ◌∙◌}
use mathlib.Core.Logic.{◌≢◌}
use native.Mathlib.Omega.{arith}
use lib.Dec.{eqb}
use borrow.Author.Tests.{le-leb, lt-ltb, ne_eqb}
use Rattle.model.specs.Lines.{l1d_set_of, l1d_line, l2_line, upper_half, empty_line}
use Rattle.model.specs.Records.{State, mode0, l2_set_of, l1d_line_at, l2_line_at, with_l1d_line, with_l2_line}
use Rattle.model.specs.Ways.{l1d_way, l2_way, in_l1d, in_l2, empty_l1d, empty_l2}
use Rattle.model.specs.Commands.{block_end, lines_touched, each_touched, at_l1d, at_l2, unless_mode0, drop_l2, l2_invalidate_block, l1d_invalidate_block}
use Rattle.model.specs.Refusals.{block_due}
use Rattle.model.specs.Trace.{command}
use Rattle.model.specs.Calls.{Reply, refused, carried_out, command_due, command_state, accepted, step, Call, one_command, fresh_start, look, read_unaligned, write_unaligned, transfer_in, transfer_out, fetch_behind, called}
use Rattle.model.specs.Laws.{bool, false-true, cond-elim}
use Rattle.model.specs.declared.Command.{Command}
use Rattle.agreement.proofs.Level.{Valid, same-slot}
use Rattle.agreement.proofs.Good.{l1d_level, l2_level, Anything, Well, l1d-hit, l2-hit, l2-bounds, l1d-replaced, l2-replaced}
use Rattle.agreement.proofs.Sweeps.{each-by}
use Rattle.agreement.proofs.Drops.{Dropped, dropped-refl, dropped-trans, at_l1d-dropped, at_l2-dropped, l1d_invalidate_block-dropped, l2_invalidate_block-dropped}
use Rattle.agreement.proofs.Steps.{codes}
use Rattle.agreement.proofs.Tested.{call_step}
use Rattle.dropped_lines.specs.Dropped.{drop_code, drop_touches, touches_line}
use Rattle.dropped_lines.specs.Stronger.{dirty_in_l1d, dirty_in_l2, loses}
use Rattle.dropped_lines.proofs.Held.{l1d-dirty, l2-dirty, l1d-clean, l2-clean, still-dirty}

-- ---- each line with address a is still there
record Spares (a : ℕ) (z z' : State) : Type 0 where
  l1d : (s w : ℕ) → Valid (l1d_level z) s w → (l1d_line_at z.rec s w).address ≡ l1d_line a → l1d_line_at z'.rec s w ≡ l1d_line_at z.rec s w
  l2 : (t v : ℕ) → Valid (l2_level z) t v → (l2_line_at z.rec t v).address ≡ l2_line a → l2_line_at z'.rec t v ≡ l2_line_at z.rec t v

spares-refl : (a : ℕ) (z : State) → Spares a z z
spares-refl a z = record { l1d = λ _ _ _ _. refl; l2 = λ _ _ _ _. refl }

spares-trans : (a : ℕ) (x y z : State) → Spares a x y → Spares a y z → Spares a x z
spares-trans a x y z p q =
    record {
      l1d = λ s w k e. let i = p.l1d s w k e in q.l1d s w (rw i k) (rw i e) ∙ i;
      l2 = λ t v k e. let i = p.l2 t v k e in q.l2 t v (rw i k) (rw i e) ∙ i;
    }

-- so a dirty one is still dirty
spares-dirty : (a : ℕ) (z z' : State) → Well z' → Spares a z z' →
    ((dirty_in_l1d z a && not (dirty_in_l1d z' a)) || (dirty_in_l2 z a && not (dirty_in_l2 z' a))) ≡ false
spares-dirty a z z' w p =
    let e₁ = still-dirty 64 (l1d_level z) (l1d_level z') a (dirty_in_l1d z a) (dirty_in_l1d z' a) (l1d-dirty z a) (l1d-clean z' Anything w a)
    (λ _ d. let j = p.l1d d.0 d.1 d.2 d.4 in (d.0, d.1, rw j d.2, rw j d.3, rw j d.4)) in
    let e₂ = still-dirty 128 (l2_level z) (l2_level z') a (dirty_in_l2 z a) (dirty_in_l2 z' a) (l2-dirty z a) (l2-clean z' Anything w a)
    (λ _ d. let j = p.l2 d.0 d.1 d.2 d.4 in (d.0, d.1, rw j d.2, rw j d.3, rw j d.4)) in
    rw (e₁, e₂) refl

-- ---- one line, of another address
spared-l1d : (a b : ℕ) (z : State) → Well z → l1d_line b ≢ l1d_line a → Spares a z (at_l1d empty_l1d b z)
unfolding at_l1d empty_l1d with_l1d_line
spared-l1d a b z q n =
    let s = l1d_set_of b in let w = l1d_way z b in
    cond-elim (Spares a z) (in_l1d z b) (empty_l1d s w z) z
    (λ y. let h = l1d-hit z b y in
    let u = l1d-replaced z q.tidy s w empty_line z.l1d z.l2 z.ext (omega arith) h.way (λ _ _ _ _ _ _. refl) in
    record {
      l1d = λ s' w' k e. same-slot s w s' w'
          (λ o. let e' : (l1d_line_at z.rec s w).address ≡ l1d_line a = rw (o.0, o.1) at e in absurd (n (sym h.address ∙ e')))
          (λ o. u.others s' w' o);
      l2 = λ _ _ _ _. refl;
    })
    (λ _. spares-refl a z)

spared-l2 : (a b : ℕ) (z : State) → Well z → l2_line b ≢ l2_line a → Spares a z (at_l2 drop_l2 b z)
unfolding at_l2 drop_l2 empty_l2 with_l2_line
spared-l2 a b z q n =
    let t = l2_set_of z.rec b in let v = l2_way z b in
    cond-elim (Spares a z) (in_l2 z b) (drop_l2 t v z) z
    (λ y. let h = l2-hit z b y in
    let c = (l2_line_at z.rec t v).address in
    let z₁ = at_l1d empty_l1d c z in let z₂ = at_l1d empty_l1d (upper_half c) z₁ in
    let d₁ = at_l1d-dropped z q c in
    let d₂ = dropped-trans z z₁ z₂ d₁ (at_l1d-dropped z₁ d₁.step.good (upper_half c)) in
    let e = h.address in
    let p = spares-trans a z z₁ z₂ (spared-l1d a c z q (λ i. n (omega arith)))
    (spared-l1d a (upper_half c) z₁ d₁.step.good (λ i. n (omega arith))) in
    let ht = (l2-bounds z Anything q t v h.valid).0 in
    let u = l2-replaced z₂ d₂.step.good.tidy t v empty_line z₂.l1d z₂.l2 z₂.ext (rw d₂.step.kept.mode ht) h.way (λ _ _ _ _ _ _. refl) in
    spares-trans a z z₂ (empty_l2 t v z₂) p
    (record {
      l1d = λ _ _ _ _. refl;
      l2 = λ t' v' k i. same-slot t v t' v'
          (λ o. let k' : Valid (l2_level z₂) t v = rw (o.0, o.1) at k in
          let i' : (l2_line_at z₂.rec t v).address ≡ l2_line a = rw (o.0, o.1) at i in
          absurd (n (sym e ∙ (rw (d₂.l2_fewer t v k') at i'))))
          (λ o. u.others t' v' o);
    }))
    (λ _. spares-refl a z)

-- ---- a block that touches no line of n bytes with address a
away : (n : ℕ) (c : Command) (a : ℕ) → touches_line n c a ≡ false → (k : ℕ) → k < lines_touched n c.first c.second → c.first / n + k ≢ a / n
away n c a y k h e =
    let l : c.first / n ≤ a / n = omega arith in
    let u : a / n < c.first / n + lines_touched n c.first c.second = omega arith in
    false-true (sym (rw (le-leb (c.first / n) (a / n) l, lt-ltb (a / n) (c.first / n + lines_touched n c.first c.second) u) at y))

-- nor then one of half the length: where a line of 64 bytes is touched, so is the one of 128 that it lies in
outside-half : (c : Command) (a : ℕ) → touches_line 128 c a ≡ false → (k : ℕ) → k < lines_touched 64 c.first c.second →
    l1d_line ((c.first / 64 + k) * 64) ≢ l1d_line a
unfolding lines_touched
outside-half c a y k h e =
    bool (eqb c.second 0)
    (λ t. let h₀ : k < 0 = rw t at h in absurd (omega arith))
    (λ t. let n = block_end c.first c.second in
    let h₁ : k < (n - 1) / 64 - c.first / 64 + 1 = rw t at h in
    let l : c.first / 128 ≤ a / 128 = omega arith in
    let u : a / 128 < c.first / 128 + ((n - 1) / 128 - c.first / 128 + 1) = omega arith in
    false-true
    (sym (rw (t, le-leb (c.first / 128) (a / 128) l, lt-ltb (a / 128) (c.first / 128 + ((n - 1) / 128 - c.first / 128 + 1)) u) at y)))

block-spared : (a n : ℕ) (f : ℕ → State → State) → ((b : ℕ) (x : State) → Well x → Dropped x (f b x)) →
    (z : State) → Well z → (b c : ℕ) → ((k : ℕ) → k < lines_touched n b c → (x : State) → Well x → Spares a x (f ((b / n + k) * n) x)) →
    Spares a z (each_touched n f b c z)
unfolding each_touched
block-spared a n f drop z q b c spare =
    (each-by (λ _ x. Dropped z x × Spares a z x) (λ k. f ((b / n + k) * n)) (lines_touched n b c) z (dropped-refl z q, spares-refl a z)
    (λ k h x p. let l = (b / n + k) * n in let g = p.0.step.good in
    (dropped-trans z x (f l x) p.0 (drop l x g), spares-trans a z x (f l x) p.1 (spare k h x g)))
    ).1

-- ---- the commands
module _ (z : State) (q : Well z) (a m b v : ℕ) where
  abbrev Lost : State → Bool
  Lost z' = (dirty_in_l1d z a && not (dirty_in_l1d z' a)) || (dirty_in_l2 z a && not (dirty_in_l2 z' a))

  abbrev Touched : ℕ → Type 0
  Touched k =
      drop_touches (one_command (command k m b v)) (step (command k m b v) z) a ≡ false → loses (one_command (command k m b v)) z (step (command k m b v) z) a ≡ false

  -- refused, it drops nothing
  unless-lost : (z' : State) → Well z' → (y : Bool) → (y ≡ false → Spares a z z') →
      (eqb (cond (eqb (block_due m b) 0) (carried_out z') (refused (block_due m b) z)).number 0 && y) ≡ false →
      Lost (cond (eqb (block_due m b) 0) (carried_out z') (refused (block_due m b) z)).next ≡ false
  unless-lost z' w y h =
      let d = block_due m b in
      cond-elim (λ (r : Reply). (eqb r.number 0 && y) ≡ false → Lost r.next ≡ false) (eqb d 0) (carried_out z') (refused d z)
      (λ _ e. spares-dirty a z z' w (h e)) (λ _ _. spares-dirty a z z q (spares-refl a z))

  -- the L1D lines that the block touches lie in L2 lines that it touches
  touched-6 : Touched 6
  unfolding step command_due accepted command_state drop_touches loses l2_invalidate_block l1d_invalidate_block unless_mode0
  touched-6 =
      unless-lost (l2_invalidate_block m b z) (l2_invalidate_block-dropped z q m b).step.good (touches_line 128 (command 6 m b v) a)
      (λ y. let z₁ = l1d_invalidate_block m b z in let g = (l1d_invalidate_block-dropped z q m b).step.good in
      let p : Spares a z z₁ = block-spared a 64 (at_l1d empty_l1d) (λ b' x g'. at_l1d-dropped x g' b') z q m b
      (λ k h x g'. spared-l1d a ((m / 64 + k) * 64) x g' (outside-half (command 6 m b v) a y k h)) in
      cond-elim (Spares a z) (mode0 z₁.rec) z₁ (each_touched 128 (at_l2 drop_l2) m b z₁) (λ _. p)
      (λ _. spares-trans a z z₁ (each_touched 128 (at_l2 drop_l2) m b z₁) p
      (block-spared a 128 (at_l2 drop_l2) (λ b' x g'. at_l2-dropped x g' b') z₁ g m b
      (λ k h x g'. let n = away 128 (command 6 m b v) a y k h in spared-l2 a ((m / 128 + k) * 128) x g' (λ e. n (omega arith))))))

  touched-8 : Touched 8
  unfolding step command_due accepted command_state drop_touches loses l1d_invalidate_block
  touched-8 =
      unless-lost (l1d_invalidate_block m b z) (l1d_invalidate_block-dropped z q m b).step.good (touches_line 64 (command 8 m b v) a)
      (λ y. block-spared a 64 (at_l1d empty_l1d) (λ b' x g. at_l1d-dropped x g b') z q m b
      (λ k h x g. let n = away 64 (command 8 m b v) a y k h in spared-l1d a ((m / 64 + k) * 64) x g (λ e. n (omega arith))))

  touched-9 : Touched 9
  unfolding step command_due accepted drop_touches
  touched-9 y = false-true (sym y)

  touched_none : (k : ℕ) → drop_code k ≡ false → Touched k
  unfolding loses
  touched_none k e _ = rw e refl

pub loses-touched : (c : Call) (z : State) → Well z → (a : ℕ) → drop_touches c (called c z) a ≡ false → loses c z (called c z) a ≡ false
unfolding loses
loses-touched fresh_start z q a = λ _. refl
loses-touched (look b) z q a = λ _. refl
loses-touched (read_unaligned n b) z q a = λ _. refl
loses-touched (write_unaligned n b v) z q a = λ _. refl
loses-touched (transfer_in b bs) z q a = λ _. refl
loses-touched (transfer_out b o) z q a = λ _. refl
loses-touched (fetch_behind b) z q a = λ _. refl
loses-touched (one_command c) z q a =
    let m = c.first in let b = c.second in let v = c.value in
    let none : (k : ℕ) → drop_code k ≡ false → Touched z q a m b v k = touched_none z q a m b v in
    let s = call_step c z q in
    rw s (codes (λ (k : ℕ). Touched z q a m b v k)
    (none 0 refl) (none 1 refl) (none 2 refl) (none 3 refl) (none 4 refl) (none 5 refl) (touched-6 z q a m b v) (none 7 refl) (touched-8 z q a m b v)
    (touched-9 z q a m b v) (none 10 refl) (none 11 refl) (none 12 refl)
    (λ k h. none k (rw (ne_eqb k 6 (omega arith), ne_eqb k 8 (omega arith), ne_eqb k 9 (omega arith)) refl))
    c.code)
