-- A writeback that reached an address leaves no dirty line with it (`sent-clean`): where a step of an accepted command
-- sent the line out to memory, as Reached tells it, neither cache has it dirty behind the command. The same of a
-- transfer (`in-sent-clean`, `out-sent-clean`).
-- Why: the step itself leaves the line clean or gone, and takes its halves out of L1D (crate agreement: `Swept`,
-- `L1dEvicted`); behind a global writeback no line is dirty at all. No later step of the same command makes it dirty
-- again: an L2 line becomes dirty through a half in L1D, and L1D holds none of this one; a line that is fetched comes
-- clean; and a write miss that put a line out writes into another line. A transfer sends what L1D block
-- writeback-invalidate does, and its bytes go past the caches.
use Prim.Native.Nat.{ℕ, zero, suc, ◌+◌, ◌-◌, ◌/◌, ◌%◌, ◌≤◌, ◌<◌}
use mathlib.Core.Bool.{Bool, true, false, not, cond, ◌&&◌, ◌||◌}
use mathlib.Core.Path.{◌≡◌, refl, sym, ap, ◌∙◌, subst}
use mathlib.Core.Logic.{◌≢◌}
use mathlib.Core.List.{List}
use native.Mathlib.Omega.{arith}
use lib.ListN.{length}
use lib.Dec.{ltb, leb, eqb}
use borrow.Author.Tests.{ltb-true, ltb-false, leb-true, le-ltb, eqb-true, eqb-false, ne_eqb}
use Rattle.model.specs.Basics.{each}
use Rattle.model.specs.Bytes.{little_bytes}
use Rattle.model.specs.Memories.{external_base}
use Rattle.model.specs.Lines.{l1d_set_of, l1d_line, l2_line, line_of}
use Rattle.model.specs.Records.{State, mode0, sram_of, l2_sets_of, l2_set_of, mar_bit, l1d_set_at, l1d_line_at, l2_line_at, with_l1d_line, with_l2_line}
use Rattle.model.specs.Ways.{l1d_way, l2_way, in_l1d, in_l2, use_l1d, use_l2}
use Rattle.model.specs.Homes.{home_is_l2, put_l2, l2_way_for, take_halves, writeback_l2, evict_l2, fill_l2, fetch_l2}
use Rattle.model.specs.Access.{Access, cacheable, evict_l1d, fill_l1d, read_filled, read_emptied, read_thawed, read_frozen, read_miss, read_access, write_home, write_miss, write_access}
use Rattle.model.specs.Commands.{lines_touched, each_touched, at_l1d, at_l2, unless_mode0, l2_writeback_all, l2_writeback_invalidate_all, l2_writeback_block, l2_writeback_invalidate_block, l1d_writeback_invalidate_block}
use Rattle.model.specs.Refusals.{access_due, block_due}
use Rattle.model.specs.Transfers.{sent_home, transferred_in, transferred_out}
use Rattle.model.specs.Trace.{command}
use Rattle.model.specs.Calls.{Reply, refused, carried_out, command_due, read_done, write_done, command_state, accepted, step, transfer_due_in, handed_back, transfer_in_step, transfer_out_step, fetch_due_in, no_fetch, fetch_behind_done, fetch_behind_step}
use Rattle.model.specs.Laws.{bool, false-true, both_true, cond-elim, mode0-sets, cond_both}
use Rattle.model.specs.declared.Line.{Line}
use Rattle.model.specs.declared.Record.{Record}
use Rattle.model.specs.declared.Command.{Command}
use Rattle.agreement.proofs.Level.{Valid, NoDirty, Free, same-slot, kept-was}
use Rattle.agreement.proofs.Invariant.{Allowed, grows-refl, Layout}
use Rattle.agreement.proofs.Memory.{Written}
use Rattle.agreement.proofs.Good.{layout_of, l1d_level, l2_level, Good, Tidy, Anything, Well, Kept, l1d-hit, l2-hit, l2-miss, l2-bounds, l1d-victim-bound, home-l2, with_lists, l1d-replaced, l2-replaced, l1d-used-line, l2-used-line}
use Rattle.agreement.proofs.Evict.{Clear, put_memory-state, memory-free, evict_l1d-good, left-free, evicted-free}
use Rattle.agreement.proofs.Writeback.{Swept, evict_l2-good}
use Rattle.model.specs.Fetches.{fetch_access}
use Rattle.agreement.proofs.Fetches.{fetch-fits}
use Rattle.agreement.proofs.Fetch.{AccessFits, cacheable-yes, fetch_l2-good}
use Rattle.agreement.proofs.ReadWrite.{Step}
use Rattle.agreement.proofs.Sweeps.{Sweeps, AllOut, each-by, step-refl, step-trans, at_l1d-good, at_l2-good, evict_l1d-step, swept_step, writeback_l2-sweeps, evict_l2-sweeps, l2-block, l2_writeback_all-good, l2_writeback_invalidate_all-good, l1d_writeback_invalidate_block-good}
use Rattle.agreement.proofs.Due.{accepted-fits, accepted-read, accepted-write}
use Rattle.agreement.proofs.Steps.{codes}
use Rattle.dropped_lines.specs.Reached.{within, out_of_l2, l1d_sends, l2_sends, fetch_sends, thawed_sends, miss_sends, read_sends, program_sends, write_sends, Going, go_on, one_sends, touched_send, touched_l1d_send, over_block_send, line_of_block, chosen, sends, transfer_sends}
use Rattle.dropped_lines.specs.Stronger.{dirty_in_l1d, dirty_in_l2, in_dirty_line}
use Rattle.dropped_lines.proofs.Held.{no-dirty}

pub either {ℓ} : {A : Type ℓ} (a b : Bool) → (a || b) ≡ true → (a ≡ true → A) → (b ≡ true → A) → A
either true b e f g = f refl
either false b e f g = g e

not-no : (b : Bool) → not b ≡ true → b ≡ false
not-no true h = false-true h
not-no false h = refl

within-tells : (b n a : ℕ) → within b n a ≡ true → (b ≤ a) × (a < b + n)
within-tells b n a h = let p = both_true (leb b a) (ltb a (b + n)) h in (leb-true b a p.0, ltb-true a (b + n) p.1)

-- ---- (1) a line of L1D goes to SRAM or to external memory itself
record L1dSent (z : State) (a s w : ℕ) : Type 0 where
  valid : Valid (l1d_level z) s w
  address : (l1d_line_at z.rec s w).address ≡ l1d_line a
  home : home_is_l2 z.rec a ≡ false

home_of : (r : Record) (a b : ℕ) → b ≡ l1d_line a → home_is_l2 r b ≡ false → home_is_l2 r a ≡ false
unfolding home_is_l2
home_of r a b e h =
    bool (ltb a external_base) (λ t. rw t refl)
    (λ t. let t' = ltb-false a external_base t in
    let l : external_base ≤ b = omega arith in
    rw t (rw (le-ltb b external_base l) at h))

home_same : (z z' : State) (a : ℕ) → Kept z z' → home_is_l2 z'.rec a ≡ home_is_l2 z.rec a
unfolding home_is_l2 mode0
home_same z z' a k = rw k.mode refl

l1d-sent : (z : State) (F : Allowed) → Good z F → (a s w : ℕ) → l1d_sends a s w z ≡ true → L1dSent z a s w
unfolding l1d_sends
l1d-sent z F q a s w h =
    let l = l1d_line_at z.rec s w in let b = l.address in
    bool l.valid
    (λ v. bool l.dirty
    (λ d. bool (home_is_l2 z.rec b)
    (λ m. false-true (rw (v, d, m) at h))
    (λ m. let i = within-tells b 64 a (rw (v, d, m) at h) in let i₀ = i.0 in let i₁ = i.1 in
    let al = (q.inv.l1d_sound.place s w v).aligned in
    let e : b ≡ l1d_line a = omega arith in
    record { valid = v; address = e; home = home_of z.rec a b e m }))
    (λ d. false-true (rw (v, d) at h)))
    (λ v. false-true (rw v at h))

-- L1D's line of it is clean or gone, and L2 never holds it
memory-clean : (z z' : State) (F : Allowed) → Good z' F → Kept z z' → (a : ℕ) → home_is_l2 z.rec a ≡ false → NoDirty 64 (l1d_level z') a →
    in_dirty_line z' a ≡ false
memory-clean z z' F q k a h n = no-dirty z' a n (λ t v i _ e. memory-free z' F q a (home_same z z' a k ∙ h) t v i e)

-- ---- (2) a line of L2 goes to external memory: if L2 still holds it, it is clean and L1D holds nothing of it
abbrev OutOfL2 : State → ℕ → Type 0
OutOfL2 z a =
    (t v : ℕ) → Valid (l2_level z) t v → (l2_line_at z.rec t v).address ≡ l2_line a → ((l2_line_at z.rec t v).dirty ≡ false) × Clear z t v

record L2Sent (z : State) (a t v : ℕ) : Type 0 where
  valid : Valid (l2_level z) t v
  address : (l2_line_at z.rec t v).address ≡ l2_line a
  external : external_base ≤ a

l2-sent : (z : State) (F : Allowed) → Good z F → (a t v : ℕ) → l2_sends a t v z ≡ true → L2Sent z a t v
unfolding l2_sends
l2-sent z F q a t v h =
    let l = l2_line_at z.rec t v in let b = l.address in
    bool l.valid
    (λ k. bool (l2_line_at (take_halves t v b z).rec t v).dirty
    (λ d. let i = within-tells b out_of_l2 a (rw (k, d) at h) in let i₀ = i.0 in let i₁ = i.1 in
    let pl = q.inv.l2_sound.place t v k in let al = pl.aligned in let lo = pl.low in
    record { valid = k; address = omega arith; external = omega arith })
    (λ d. false-true (rw (k, d) at h)))
    (λ k. false-true (rw k at h))

-- then no dirty line has it: a line of L1D would lie inside the L2 line
out-clean : (z : State) (F : Allowed) → Good z F → (a : ℕ) → external_base ≤ a → l2_sets_of z.rec ≢ 0 → OutOfL2 z a → in_dirty_line z a ≡ false
out-clean z F q a x ns o =
    no-dirty z a
    (λ s w k _ e. let p = q.inv.inclusion s w k (omega arith) ns in
    let p₃ = p.3 in
    (o p.0 p.1 p.2 (omega arith)).1 s w k (sym p.3))
    (λ t v k d e. false-true (sym (o t v k e).0 ∙ d))

-- the step on slot t, v that sends it; a step on any slot behind that
sent-out : (z z' : State) (F : Allowed) → Good z F → (a t v : ℕ) → L2Sent z a t v → Swept z F t v z' → OutOfL2 z' a
sent-out z z' F q a t v p s t' v' k e =
    same-slot t v t' v'
    (λ y. let g = s.done in let g' : Valid (l2_level z') t v = rw (y.0, y.1) at k in rw (y.0, y.1) (g g'))
    (λ y. absurd (y (q.inv.l2_sound.once t v t' v' p.valid (sym (s.valid t' v' y) ∙ k) (p.address ∙ sym (sym (s.address t' v' y) ∙ e)))))

out_stays : (z z' : State) (F : Allowed) (a t v : ℕ) → OutOfL2 z a → Swept z F t v z' → OutOfL2 z' a
out_stays z z' F a t v o s t' v' k e =
    same-slot t v t' v'
    (λ y. let g = s.done in let g' : Valid (l2_level z') t v = rw (y.0, y.1) at k in rw (y.0, y.1) (g g'))
    (λ y. let d = o t' v' (sym (s.valid t' v' y) ∙ k) (sym (s.address t' v' y) ∙ e) in
    (s.unsoiled t' v' y d.1 ∙ d.0, λ s' w' i i'. let x = s.fewer s' w' i in d.1 s' w' (rw x at i) (rw (x, s.address t' v' y) at i')))

-- ---- commands: steps one after another, P once one of them has sent it
module _ (z : State) (F : Allowed) (q : Good z F) (f : ℕ → State → State) (sent : ℕ → State → Bool) (P : State → Type 0) (n : ℕ)
    (fine : (k : ℕ) → k < n → (x : State) → Step z F x → Step x F (f k x))
    (comes : (k : ℕ) → k < n → (x : State) → Step z F x → sent k x ≡ true → P (f k x))
    (stays : (k : ℕ) → k < n → (x : State) → Step z F x → P x → P (f k x)) where
  steps : (m : ℕ) → m ≤ n → Step z F (each f m z)
  unfolding each
  steps zero h = step-refl z F q
  steps (suc m) h = let w = steps m (omega arith) in step-trans z (each f m z) (f m (each f m z)) F w (fine m (omega arith) (each f m z) w)

  -- how far they have come
  abbrev gone : ℕ → Going
  gone m = each (go_on f sent) m (record { reached = z; sent = false })

  gone-to : (m : ℕ) → (gone m).reached ≡ each f m z
  unfolding each go_on
  gone-to zero = refl
  gone-to (suc m) = ap (f m) (gone-to m)

  loop-sent : (m : ℕ) → m ≤ n → one_sends f sent m z ≡ true → P (each f m z)
  unfolding one_sends each go_on
  loop-sent zero h y = false-true y
  loop-sent (suc m) h y =
      let x = each f m z in let w = steps m (omega arith) in
      either (gone m).sent (sent m (gone m).reached) y
      (λ t. stays m (omega arith) x w (loop-sent m (omega arith) t)) (λ t. comes m (omega arith) x w (rw (gone-to m) at t))

sets-kept : (z z' : State) → Kept z z' → l2_sets_of z'.rec ≡ l2_sets_of z.rec
sets-kept z z' k = ap (λ (x : Layout). x.sets) k.layout

-- the L2 lines of a block
module _ (z : State) (F : Allowed) (q : Good z F) (f : ℕ → ℕ → State → State) (sw : Sweeps F f) (a : ℕ) where
  abbrev Out : State → Type 0
  Out x = (external_base ≤ a) × OutOfL2 x a

  comes-out : (x : State) → Good x F → (t v : ℕ) → l2_sends a t v x ≡ true → Swept x F t v (f t v x) → Out (f t v x)
  comes-out x g t v y s = let p = l2-sent x F g a t v y in (p.external, sent-out x (f t v x) F g a t v p s)

  stays_out : (x : State) (t v : ℕ) → Out x → Swept x F t v (f t v x) → Out (f t v x)
  stays_out x t v o s = (o.0, out_stays x (f t v x) F a t v o.1 s)

  out-there : (z' : State) → Step z F z' → mode0 z.rec ≡ false → Out z' → in_dirty_line z' a ≡ false
  out-there z' w n o =
      let e = eqb-false (l2_sets_of z.rec) 0 (sym (mode0-sets z.rec) ∙ n) in
      out-clean z' F w.good a o.0 (λ y. e (sym (sets-kept z z' w.kept) ∙ y)) o.1

  -- the line of b, if L2 holds it
  at-line : (P : State → Type 0) (b : ℕ) (x : State) → Good x F → (in_l2 x b ≡ false → P x) →
      (in_l2 x b ≡ true → Swept x F (l2_set_of x.rec b) (l2_way x b) (f (l2_set_of x.rec b) (l2_way x b) x) → P (f (l2_set_of x.rec b) (l2_way x b) x)) →
      P (at_l2 f b x)
  unfolding at_l2
  at-line P b x g none held =
      let t = l2_set_of x.rec b in let v = l2_way x b in
      cond-elim P (in_l2 x b) (f t v x) x
      (λ y. let h = l2-hit x b y in held y (sw x g t v (l2-bounds x F g t v h.valid).0 h.way))
      none

  block_out : (b c : ℕ) → Step z F (unless_mode0 (each_touched 128 (at_l2 f) b c) z) → touched_send f a b c z ≡ true →
      in_dirty_line (unless_mode0 (each_touched 128 (at_l2 f) b c) z) a ≡ false
  unfolding touched_send unless_mode0 each_touched
  block_out b c w' y =
      let n = lines_touched 128 b c in
      let g : ℕ → State → State = λ k. at_l2 f (line_of_block 128 b k) in
      let sent : ℕ → State → Bool =
      λ k x. in_l2 x (line_of_block 128 b k) && l2_sends a (l2_set_of x.rec (line_of_block 128 b k)) (l2_way x (line_of_block 128 b k)) x in
      let p = both_true (not (mode0 z.rec)) (one_sends g sent n z) y in
      let no = not-no (mode0 z.rec) p.0 in
      rw no (out-there (each g n z) (rw no at w') no
      (loop-sent z F q g sent Out n
      (λ k h x w. at_l2-good x F w.good f (λ t v _ ht hv. swept_step x F t v (f t v x) (sw x w.good t v ht hv)) (line_of_block 128 b k))
      (λ k h x w t. let l = line_of_block 128 b k in
      let i = both_true (in_l2 x l) (l2_sends a (l2_set_of x.rec l) (l2_way x l) x) t in
      at-line Out l x w.good (λ o. false-true (sym o ∙ i.0)) (λ _ s. comes-out x w.good (l2_set_of x.rec l) (l2_way x l) i.1 s))
      (λ k h x w o. let l = line_of_block 128 b k in
      at-line Out l x w.good (λ _. o) (λ _ s. stays_out x (l2_set_of x.rec l) (l2_way x l) o s))
      n (omega arith) p.1))

-- the L1D lines of a block
module _ (z : State) (F : Allowed) (q : Good z F) (a : ℕ) where
  l1d-step : (b : ℕ) (x : State) → Good x F → Step x F (at_l1d evict_l1d b x)
  l1d-step b x g = at_l1d-good x F g evict_l1d (λ s w hs hw. evict_l1d-step x F g s w hs hw) b

  abbrev Gone : State → Type 0
  Gone x = Free 64 (l1d_level x) a × (home_is_l2 x.rec a ≡ false)

  l1d-comes : (b : ℕ) (x : State) → Good x F → in_l1d x b ≡ true → l1d_sends a (l1d_set_of b) (l1d_way x b) x ≡ true → Gone (at_l1d evict_l1d b x)
  unfolding at_l1d
  l1d-comes b x g y t =
      let s = l1d_set_of b in let w = l1d_way x b in
      let p = l1d-sent x F g a s w t in
      let e = evict_l1d-good x F g s w (omega arith) (l1d-hit x b y).way in
      rw y (evicted-free x F g s w a (evict_l1d s w x) p.valid p.address e.left.fewer e.gone, home_same x (evict_l1d s w x) a e.left.kept ∙ p.home)

  l1d-stays : (b : ℕ) (x : State) → Good x F → Gone x → Gone (at_l1d evict_l1d b x)
  unfolding at_l1d
  l1d-stays b x g o =
      let s = l1d_set_of b in let w = l1d_way x b in
      cond-elim Gone (in_l1d x b) (evict_l1d s w x) x
      (λ y. let l = (evict_l1d-good x F g s w (omega arith) (l1d-hit x b y).way).left in
      (left-free x (evict_l1d s w x) F l 64 a o.0, home_same x (evict_l1d s w x) a l.kept ∙ o.1))
      (λ _. o)

  l1d-block-gone : (b c : ℕ) → touched_l1d_send a b c z ≡ true → Gone (l1d_writeback_invalidate_block b c z)
  unfolding touched_l1d_send l1d_writeback_invalidate_block each_touched
  l1d-block-gone b c y =
      let n = lines_touched 64 b c in
      let g : ℕ → State → State = λ k. at_l1d evict_l1d (line_of_block 64 b k) in
      let sent : ℕ → State → Bool = λ k x. in_l1d x (line_of_block 64 b k) && l1d_sends a (l1d_set_of (line_of_block 64 b k)) (l1d_way x (line_of_block 64 b k)) x in
      loop-sent z F q g sent Gone n
      (λ k h x w. l1d-step (line_of_block 64 b k) x w.good)
      (λ k h x w t. let l = line_of_block 64 b k in
      let i = both_true (in_l1d x l) (l1d_sends a (l1d_set_of l) (l1d_way x l) x) t in
      l1d-comes l x w.good i.0 i.1)
      (λ k h x w o. l1d-stays (line_of_block 64 b k) x w.good o)
      n (omega arith) y

-- the L2 lines of a block, behind that: L1D gets no line, and L2 never holds this one
gone-stays : (z : State) (F : Allowed) (q : Good z F) (f : ℕ → ℕ → State → State) → Sweeps F f → (a : ℕ) → Gone z F q a z → (b c : ℕ) →
    Free 64 (l1d_level (unless_mode0 (each_touched 128 (at_l2 f) b c) z)) a
unfolding unless_mode0 each_touched
gone-stays z F q f sw a o b c =
    let n = lines_touched 128 b c in
    let g : ℕ → State → State = λ k. at_l2 f (line_of_block 128 b k) in
    let P : State → Type 0 = λ x. Free 64 (l1d_level x) a in
    cond-elim P (mode0 z.rec) z (each g n z) (λ _. o.0)
    (λ _. (each-by (λ _ x. Step z F x × P x) g n z (step-refl z F q, o.0)
    (λ k _ x p. let l = line_of_block 128 b k in let w = p.0 in (
      step-trans z x (g k x) F w (at_l2-good x F w.good f (λ t v _ ht hv. swept_step x F t v (f t v x) (sw x w.good t v ht hv)) l),
      at-line z F q f sw a P l x w.good (λ _. p.1) (λ _ s s' w' i e. let y = s.fewer s' w' i in p.1 s' w' (rw y at i) (rw y at e)),
    ))
    ).1)

-- ---- accesses at b: the line that leaves L2 for the line of b
module _ (z : State) (F : Allowed) (q : Good z F) (a b : ℕ) where
  abbrev t : ℕ
  t = l2_set_of z.rec b

  abbrev v : ℕ
  v = l2_way_for z b

  brought-free : L2Sent z a t v → l2_line b ≢ l2_line a → Free 128 (l2_level (use_l2 t v (fill_l2 t v (l2_line b) (evict_l2 t v z)))) a
  unfolding fill_l2
  brought-free s ne t' v' k e =
      let ht = (l2-bounds z F q t v s.valid).0 in let hv = (l2-bounds z F q t v s.valid).1 in
      let g = evict_l2-good z F q t v ht hv in
      let z₁ = evict_l2 t v z in
      let l = line_of (l2_line b) false in
      let x = l2-used-line (fill_l2 t v (l2_line b) z₁) t v t' v' in
      let u = l2-replaced z₁ g.swept.good.tidy t v l z₁.l1d z₁.l2 z₁.ext (rw g.swept.kept.mode ht) hv (λ _ _ _ _ _ _. refl) in
      same-slot t v t' v'
      (λ y. let i : l2_line_at (fill_l2 t v (l2_line b) z₁).rec t' v' ≡ l = rw (y.0, y.1) u.here in
      ne (sym (ap (λ (r : Line). r.address) (x ∙ i)) ∙ e))
      (λ y. let i = x ∙ u.others t' v' y in
      y (q.inv.l2_sound.once t v t' v' s.valid (sym (g.swept.valid t' v' y) ∙ (rw i at k))
      (s.address ∙ sym (sym (g.swept.address t' v' y) ∙ (rw i at e)))))

  record Left (z' : State) : Type 0 where
    free : Free 128 (l2_level z') a
    external : external_base ≤ a
    sets : l2_sets_of z.rec ≢ 0
    home : home_is_l2 z.rec b ≡ true

  fetch-sent : fetch_sends a b z ≡ true → Left (fetch_l2 b z)
  unfolding fetch_sends fetch_l2
  fetch-sent y =
      let p₁ = both_true (home_is_l2 z.rec b) (not (in_l2 z b) && l2_sends a t v z) y in
      let p₂ = both_true (not (in_l2 z b)) (l2_sends a t v z) p₁.1 in
      let no = not-no (in_l2 z b) p₂.0 in
      let s = l2-sent z F q a t v p₂.1 in
      rw (p₁.0, no) (record {
        free = brought-free s (λ e. l2-miss z F q b no t v s.valid (s.address ∙ sym e));
        external = s.external;
        sets = (home-l2 z.rec b p₁.0).1;
        home = p₁.0;
      })

  -- what is done after that changes no address of an L2 line
  left-clean : (z₁ z' : State) → Left z₁ → Good z' F → Kept z z' →
      ((t' v' : ℕ) → Valid (l2_level z') t' v' → Valid (l2_level z₁) t' v' × ((l2_line_at z'.rec t' v').address ≡ (l2_line_at z₁.rec t' v').address)) →
      in_dirty_line z' a ≡ false
  left-clean z₁ z' l g k same =
      out-clean z' F g a l.external (λ e. l.sets (sym (sets-kept z z' k) ∙ e))
      (λ t' v' i e. let x = same t' v' i in absurd (l.free t' v' x.0 (sym x.1 ∙ e)))

-- a read miss: the L1D line that leaves goes home, or the L2 line that leaves goes out
module _ (z : State) (F : Allowed) (q : Good z F) (a b n : ℕ) (f : AccessFits (layout_of z.rec) b (suc n)) (c : external_base ≤ b → mar_bit z.rec b ≡ true) where
  abbrev s : ℕ
  s = l1d_set_of b

  abbrev w : ℕ
  w = chosen b z

  abbrev z₁ : State
  z₁ = evict_l1d s w z

  abbrev z₂ : State
  z₂ = fetch_l2 b z₁

  abbrev z₃ : State
  z₃ = fill_l1d w (l2_way_for z₁ b) b z₂

  read-missed : Good (use_l1d s w z₃) F → Kept z (use_l1d s w z₃) → (l1d_sends a s w z || fetch_sends a b z₁) ≡ true → in_dirty_line (use_l1d s w z₃) a ≡ false
  unfolding use_l1d fill_l1d with_l1d_line
  read-missed g k y =
      let hw = l1d-victim-bound (l1d_set_at z.rec s) in
      let e = evict_l1d-good z F q s w (omega arith) hw in
      let h = fetch_l2-good z₁ F e.left.good b n (rw e.left.kept.layout f) (λ i. ap (λ (x : Layout). x.mar b) e.left.kept.layout ∙ c i) in
      either (l1d_sends a s w z) (fetch_sends a b z₁) y
      (λ t. let p = l1d-sent z F q a s w t in
      let gone = evicted-free z F q s w a z₁ p.valid p.address e.left.fewer e.gone in
      let u = l1d-replaced z₂ h.good.tidy s w (line_of (l1d_line b) false) z₂.l1d z₂.l2 z₂.ext (omega arith) hw (λ _ _ _ _ _ _. refl) in
      memory-clean z (use_l1d s w z₃) F g k a p.home
      (λ s' w' i d i'. let x = l1d-used-line z₃ s w s' w' in
      same-slot s w s' w'
      (λ o. let j : l1d_line_at z₃.rec s' w' ≡ line_of (l1d_line b) false = rw (o.0, o.1) u.here in
      false-true (sym (ap (λ (r : Line). r.dirty) (x ∙ j)) ∙ d))
      (λ o. let j = x ∙ u.others s' w' o in let j' = h.fewer s' w' (rw j at i) in
      gone s' w' (rw j' at (rw j at i)) (rw j' at (rw j at i')))))
      (λ t. left-clean z₁ F e.left.good a b z₂ (use_l1d s w z₃) (fetch-sent z₁ F e.left.good a b t) g
      (record { mode = k.mode ∙ sym e.left.kept.mode; layout = k.layout ∙ sym e.left.kept.layout; l2len = k.l2len ∙ sym e.left.kept.l2len })
      (λ t' v' i. (i, refl)))

  -- frozen: only the L2 line that leaves goes out
  fetched-clean : fetch_sends a b z ≡ true → in_dirty_line (fetch_l2 b z) a ≡ false
  fetched-clean y =
      let h = fetch_l2-good z F q b n f c in
      left-clean z F q a b (fetch_l2 b z) (fetch_l2 b z) (fetch-sent z F q a b y) h.good h.kept (λ _ _ i. (i, refl))

  missed-clean : (k : ℕ) → Good (read_miss k b z).next F → Kept z (read_miss k b z).next → miss_sends a b z ≡ true → in_dirty_line (read_miss k b z).next a ≡ false
  unfolding read_miss read_frozen read_thawed read_emptied read_filled miss_sends thawed_sends
  missed-clean k =
      cond_both (λ (x : Access) (y : Bool). Good x.next F → Kept z x.next → y ≡ true → in_dirty_line x.next a ≡ false) z.rec.frozen
      (read_frozen k b z) (read_thawed k b z) (fetch_sends a b z) (thawed_sends a b z) (λ _ _ _ y. fetched-clean y) (λ _. read-missed)

-- a write miss: what is written goes into a line that L2 holds then, and changes no address
put-lines : (x : State) → Tidy x → (t v b : ℕ) (bs : List ℕ) → t < l2_sets_of x.rec → v < 4 → Valid (l2_level x) t v →
    (t' v' : ℕ) → Valid (l2_level (put_l2 t v b bs x)) t' v' → Valid (l2_level x) t' v' × ((l2_line_at (put_l2 t v b bs x).rec t' v').address ≡ (l2_line_at x.rec t' v').address)
unfolding put_l2
put-lines x h t v b bs ht hv k =
    let l = line_of (l2_line_at x.rec t v).address true in
    let u = l2-replaced x h t v l x.l1d x.l2 x.ext ht hv (λ _ _ _ _ _ _. refl) in
    kept-was 128 (l2_level x) (l2_level (with_lists x (with_l2_line x.rec t v l) x.l1d x.l2 x.ext)) t v true k u

module _ (z : State) (q : Well z) (a b n : ℕ) (f : AccessFits (layout_of z.rec) b (suc n)) (c : external_base ≤ b → mar_bit z.rec b ≡ true)
    (bs : List ℕ) where
  abbrev y₁ : State
  y₁ = fetch_l2 b z

  miss-puts : home_is_l2 y₁.rec b ≡ true → (write_miss b bs z).next ≡ put_l2 (l2_set_of y₁.rec b) (l2_way_for z b) b bs y₁
  unfolding write_miss write_home
  miss-puts d = rw d refl

  write-missed : Step z Anything (write_miss b bs z).next → fetch_sends a b z ≡ true → in_dirty_line (write_miss b bs z).next a ≡ false
  write-missed w y =
      let h = fetch_l2-good z Anything q b n f c in
      let l = fetch-sent z Anything q a b y in
      let e : l2_set_of y₁.rec b ≡ l2_set_of z.rec b = ap (λ (x : ℕ). b / 128 % x) (sets-kept z y₁ h.kept) in
      let i = h.has l.home in
      let k : Valid (l2_level y₁) (l2_set_of y₁.rec b) (l2_way_for z b) = rw e i.valid in
      let p = miss-puts (home_same z y₁ b h.kept ∙ l.home) in
      let w' : Step z Anything (put_l2 (l2_set_of y₁.rec b) (l2_way_for z b) b bs y₁) = subst (Step z Anything) p w in
      rw p (left-clean z Anything q a b y₁ (put_l2 (l2_set_of y₁.rec b) (l2_way_for z b) b bs y₁) l w'.good w'.kept
      (put-lines y₁ h.good.tidy (l2_set_of y₁.rec b) (l2_way_for z b) b bs (l2-bounds y₁ Anything h.good (l2_set_of y₁.rec b) (l2_way_for z b) k).0 i.way k))

-- ---- a fetch (02, U4)
pub fetch-sent-clean : (z : State) → Well z → (a b : ℕ) → (fetch_behind_step b z).number ≡ 0 → program_sends a b z ≡ true → in_dirty_line (fetch_behind_step b z).next a ≡ false
unfolding fetch_behind_step fetch_behind_done fetch_access read_frozen program_sends
fetch-sent-clean z q a b e y =
    let d = fetch_due_in z b in let p = both_true (cacheable z.rec b) (fetch_sends a b z) y in
    cond-elim (λ (r : Reply). r.number ≡ 0 → in_dirty_line r.next a ≡ false) (eqb d 0) (fetch_behind_done b z) (no_fetch d z)
    (λ t _. rw p.0 (fetched-clean z Anything q a b 31 (fetch-fits z b (eqb-true d 0 t)) (cacheable-yes z.rec b p.0) p.1))
    (λ t k. absurd (eqb-false d 0 t k)) e

-- ---- L1D block writeback-invalidate; transfers
module _ (z : State) (q : Well z) (a : ℕ) where
  l1d-block-clean : (b c : ℕ) → touched_l1d_send a b c z ≡ true → in_dirty_line (l1d_writeback_invalidate_block b c z) a ≡ false
  l1d-block-clean b c y =
      let z' = l1d_writeback_invalidate_block b c z in
      let o = l1d-block-gone z Anything q a b c y in
      let w = l1d_writeback_invalidate_block-good z Anything q b c in
      memory-clean z z' Anything w.good w.kept a (sym (home_same z z' a w.kept) ∙ o.1) (λ s w' k _ e. o.0 s w' k e)

  home-clean : (b n : ℕ) → transfer_sends b n z a ≡ true → in_dirty_line (sent_home b n z) a ≡ false
  unfolding transfer_sends sent_home
  home-clean b n y =
      let p = both_true (ltb b external_base) (touched_l1d_send a b (n / 4) z) y in
      rw p.0 (l1d-block-clean b (n / 4) p.1)

  pub out-sent-clean : (b : ℕ) (o : List ℕ) → (transfer_out_step b o z).number ≡ 0 → transfer_sends b (length o) z a ≡ true →
      in_dirty_line (transfer_out_step b o z).next a ≡ false
  unfolding transfer_out_step
  out-sent-clean b o e y =
      let n = length o in let d = transfer_due_in z n b in
      cond-elim (λ (r : Reply). r.number ≡ 0 → in_dirty_line r.next a ≡ false) (eqb d 0) (handed_back 0 (transferred_out b n z) (sent_home b n z)) (handed_back d o z)
      (λ _ _. home-clean b n y) (λ t k. absurd (eqb-false d 0 t k)) e

  pub in-sent-clean : (b : ℕ) (bs : List ℕ) → (transfer_in_step b bs z).number ≡ 0 → transfer_sends b (length bs) z a ≡ true →
      in_dirty_line (transfer_in_step b bs z).next a ≡ false
  unfolding transfer_in_step transferred_in in_dirty_line dirty_in_l1d dirty_in_l2 in_l1d in_l2 l1d_way l2_way
  in-sent-clean b bs e y =
      let n = length bs in let d = transfer_due_in z n b in let x = sent_home b n z in
      cond-elim (λ (r : Reply). r.number ≡ 0 → in_dirty_line r.next a ≡ false) (eqb d 0) (carried_out (transferred_in b bs z)) (refused d z)
      (λ _ _. rw (put_memory-state b bs x) (home-clean b n y)) (λ t k. absurd (eqb-false d 0 t k)) e

-- ---- a command by its code
module _ (z : State) (q : Well z) (a m b v : ℕ) where
  abbrev Clean : ℕ → Type 0
  Clean k = (step (command k m b v) z).number ≡ 0 → sends (command k m b v) z a ≡ true → in_dirty_line (step (command k m b v) z).next a ≡ false

  clean-0 : Clean 0
  unfolding step command_due accepted read_done sends read_sends read_access
  clean-0 =
      let d = access_due (sram_of z.rec) z.rec.extlen m b 0 in
      cond-elim (λ (y : Reply). y.number ≡ 0 → read_sends a b z ≡ true → in_dirty_line y.next a ≡ false) (eqb d 0) (read_done m b z) (refused d z)
      (λ t _ y. let d₀ = eqb-true d 0 t in
      let r = accepted-read z Anything q m b d₀ in
      let p₁ = both_true (cacheable z.rec b) (not (in_l1d z b) && miss_sends a b z) y in
      let p₂ = both_true (not (in_l1d z b)) (miss_sends a b z) p₁.1 in
      let no = not-no (in_l1d z b) p₂.0 in
      let g = r.good in let k = r.kept in
      rw (p₁.0, no) (missed-clean z Anything q a b (m - 1) (accepted-fits z Anything q m b 0 d₀) (cacheable-yes z.rec b p₁.0) m
      (rw (p₁.0, no) at g) (rw (p₁.0, no) at k) p₂.1))
      (λ t e. absurd (eqb-false d 0 t e))

  clean-1 : Clean 1
  unfolding step command_due accepted write_done sends write_sends write_access
  clean-1 =
      let d = access_due (sram_of z.rec) z.rec.extlen m b v in
      cond-elim (λ (y : Reply). y.number ≡ 0 → write_sends a b z ≡ true → in_dirty_line y.next a ≡ false) (eqb d 0) (write_done m b v z) (refused d z)
      (λ t _ y. let d₀ = eqb-true d 0 t in
      let w = accepted-write z Anything q m b Anything v anything-written d₀ in
      let p₁ = both_true (cacheable z.rec b) (not (in_l1d z b) && fetch_sends a b z) y in
      let p₂ = both_true (not (in_l1d z b)) (fetch_sends a b z) p₁.1 in
      let no = not-no (in_l1d z b) p₂.0 in
      rw (p₁.0, no) (write-missed z q a b (m - 1) (accepted-fits z Anything q m b v d₀) (cacheable-yes z.rec b p₁.0) (little_bytes v m)
      (rw (p₁.0, no) at w) p₂.1))
      (λ t e. absurd (eqb-false d 0 t e))
    where
      anything-written : Written Anything Anything b (little_bytes v m)
      anything-written = record { puts = record { inside = λ _ _ _. refl; outside = λ _ _ _ _. refl }; grows = grows-refl Anything }

  -- not refused, a block command does what it does
  block-clean : (z' : State) (y : Bool) → (y ≡ true → in_dirty_line z' a ≡ false) →
      (cond (eqb (block_due m b) 0) (carried_out z') (refused (block_due m b) z)).number ≡ 0 → y ≡ true →
      in_dirty_line (cond (eqb (block_due m b) 0) (carried_out z') (refused (block_due m b) z)).next a ≡ false
  block-clean z' y h =
      let d = block_due m b in
      cond-elim (λ (r : Reply). r.number ≡ 0 → y ≡ true → in_dirty_line r.next a ≡ false) (eqb d 0) (carried_out z') (refused d z)
      (λ _ _ t. h t) (λ t e. absurd (eqb-false d 0 t e))

  -- after a global writeback no line is dirty at all
  nothing-dirty : (z' : State) → AllOut z Anything z' → in_dirty_line z' a ≡ false
  nothing-dirty z' u = no-dirty z' a (λ s w i _ _. absurd (u.l1d_none s w i)) (λ t v' i d _. false-true (sym (u.l2_clean t v' i) ∙ d))

  clean-2 : Clean 2
  unfolding step command_due accepted command_state
  clean-2 _ _ = nothing-dirty (l2_writeback_all z) (l2_writeback_all-good z Anything q)

  clean-3 : Clean 3
  unfolding step command_due accepted command_state
  clean-3 _ _ = nothing-dirty (l2_writeback_invalidate_all z) (l2_writeback_invalidate_all-good z Anything q)

  -- a block: sent by L1D first, or by L2 then
  over-block : (f : ℕ → ℕ → State → State) → Sweeps Anything f → over_block_send f a m b z ≡ true →
      in_dirty_line (unless_mode0 (each_touched 128 (at_l2 f) m b) (l1d_writeback_invalidate_block m b z)) a ≡ false
  unfolding over_block_send
  over-block f sw y =
      let z₁ = l1d_writeback_invalidate_block m b z in let w = l1d_writeback_invalidate_block-good z Anything q m b in
      let z' = unless_mode0 (each_touched 128 (at_l2 f) m b) z₁ in
      let w' = l2-block z₁ Anything w.good f sw m b in
      either (touched_l1d_send a m b z) (touched_send f a m b z₁) y
      (λ t. let o = l1d-block-gone z Anything q a m b t in
      let free = gone-stays z₁ Anything w.good f sw a o m b in
      memory-clean z₁ z' Anything w'.good w'.kept a o.1 (λ s w₂ k _ e. free s w₂ k e))
      (λ t. block_out z₁ Anything w.good f sw a m b w' t)

  clean-4 : Clean 4
  unfolding step command_due accepted command_state sends l2_writeback_block
  clean-4 = block-clean (l2_writeback_block m b z) (over_block_send writeback_l2 a m b z) (over-block writeback_l2 (writeback_l2-sweeps Anything))

  clean-5 : Clean 5
  unfolding step command_due accepted command_state sends l2_writeback_invalidate_block
  clean-5 = block-clean (l2_writeback_invalidate_block m b z) (over_block_send evict_l2 a m b z) (over-block evict_l2 (evict_l2-sweeps Anything))

  clean-7 : Clean 7
  unfolding step command_due accepted command_state sends
  clean-7 = block-clean (l1d_writeback_invalidate_block m b z) (touched_l1d_send a m b z) (l1d-block-clean z q a m b)

  clean-other : (k : ℕ) → sends (command k m b v) z a ≡ false → Clean k
  clean-other k e _ y = false-true (sym e ∙ y)

  sends_none : (k : ℕ) → 13 ≤ k → sends (command k m b v) z a ≡ false
  unfolding sends
  sends_none k h =
      rw (
        ne_eqb k 0 (omega arith),
        ne_eqb k 1 (omega arith),
        ne_eqb k 2 (omega arith),
        ne_eqb k 3 (omega arith),
        ne_eqb k 4 (omega arith),
        ne_eqb k 5 (omega arith),
        ne_eqb k 7 (omega arith),
      ) refl

pub sent-clean : (c : Command) (z : State) → Well z → (a : ℕ) → (step c z).number ≡ 0 → sends c z a ≡ true → in_dirty_line (step c z).next a ≡ false
unfolding sends
sent-clean c z q a =
    let m = c.first in let b = c.second in let v = c.value in
    let none : (k : ℕ) → sends (command k m b v) z a ≡ false → (step (command k m b v) z).number ≡ 0 → sends (command k m b v) z a ≡ true →
    in_dirty_line (step (command k m b v) z).next a ≡ false = clean-other z q a m b v in
    codes (λ (k : ℕ). (step (command k m b v) z).number ≡ 0 → sends (command k m b v) z a ≡ true → in_dirty_line (step (command k m b v) z).next a ≡ false)
    (clean-0 z q a m b v) (clean-1 z q a m b v) (clean-2 z q a m b v) (clean-3 z q a m b v) (clean-4 z q a m b v) (clean-5 z q a m b v)
    (none 6 refl) (clean-7 z q a m b v) (none 8 refl) (none 9 refl) (none 10 refl) (none 11 refl) (none 12 refl)
    (λ k h. none k (sends_none z q a m b v k h))
    c.code
