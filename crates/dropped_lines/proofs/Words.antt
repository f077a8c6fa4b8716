-- U13 in the request's own words holds (`dropped-lines`). Shown of one call: where the values that may show by the
-- stronger form are among those that a byte held since a writeback last reached it, and nothing was lost outside a line
-- that was dropped (`Covers`), that is so again behind it; and the three sentences of the stronger form are then those
-- of the request.
-- Why: a writeback that reached a byte leaves no dirty line with it (`sent-clean`), so that the stronger form too has
-- its memory's byte alone; where no dirty line is left otherwise, the byte in memory is one that it held. A dirty line
-- that was lost is a valid line that was dropped, and one that the command's block touches (`loses-touched`).
use Prim.Native.Nat.{ℕ, zero, suc, ◌*◌, ◌/◌}
use mathlib.Core.Bool.{Bool, true, false, not, cond, ◌&&◌, ◌||◌}
use mathlib.Core.Path.{◌≡◌, refl, sym, ap, ◌∙◌, subst}
use mathlib.Core.Logic.{⊎_elim}
use mathlib.Core.List.{List, [], ◌∷◌}
use lib.ListN.{length}
use lib.Dec.{eqb}
use borrow.Author.Tests.{eqb-true, eqb-false}
use Rattle.model.specs.Basics.{each, any_of}
use Rattle.model.specs.Memories.{legal_l2, legal_external}
use Rattle.model.specs.Lines.{l1d_set_of}
use Rattle.model.specs.Records.{State, l2_set_of, l1d_line_at, l2_line_at, fresh_state}
use Rattle.model.specs.Ways.{l1d_way, l2_way, in_l1d, in_l2}
use Rattle.model.specs.Modes.{new_mode, change_mode}
use Rattle.model.specs.Flat.{Flat, fresh_flat, flat_step, flat_called}
use Rattle.model.specs.Refusals.{mode_due}
use Rattle.model.specs.Trace.{command}
use Rattle.model.specs.Calls.{Reply, refused, carried_out, command_due, command_state, accepted, step, call, transfer_in_step, transfer_out_step, fetch_behind_step, Call, one_command, fresh_start, look, read_unaligned, write_unaligned, transfer_in, transfer_out, fetch_behind, called}
use Rattle.model.specs.Bytewise.{byte_read, byte_write, calls_to}
use Rattle.model.specs.Laws.{bool, false-true, both_true, cond-elim}
use Rattle.model.specs.declared.Command.{Command}
use Rattle.agreement.proofs.Level.{Level, Valid, Sound}
use Rattle.agreement.proofs.Invariant.{Inside, L1dPlaced, L2Placed}
use Rattle.agreement.proofs.Good.{layout_of, l1d_level, l2_level, memory_of, Anything, Well, good-well, l1d-hit, l2-hit}
use Rattle.agreement.proofs.Drops.{Dropped}
use Rattle.agreement.proofs.Steps.{dropped-6, dropped-8, dropped-9}
use Rattle.agreement.proofs.Changes.{fresh-l1d-none, fresh-l2-none}
use Rattle.agreement.proofs.Tested.{call_step}
use Rattle.agreement.proofs.Unaligned.{Either, read-unaligned-either, write-unaligned-either}
use Rattle.agreement.proofs.Fetches.{fetch-step}
use Rattle.agreement.proofs.Transfers.{transfer-in-step, transfer-out-step}
use Rattle.agreement.proofs.Agreement.{fresh-accepted}
use Rattle.dropped_lines.specs.Reached.{sends, transfer_sends, program_sends}
use Rattle.dropped_lines.specs.Dropped.{listed_call, listed, byte_at, memory_at, writes, new_byte, changes_mode, sends_out, reached, drop_code, drops_line, drop_touches, History, at_first, held_after, history_one, history_bytes, history_after, HoldsAt, one_of, last_or_held, may_change, Holds, DroppedLines, end, next}
use Rattle.dropped_lines.specs.Stronger.{dirty_in_l1d, dirty_in_l2, in_dirty_line, loses, shows_after, lost_after, changes}
use Rattle.dropped_lines.proofs.Held.{In, Seen, neither, DirtyAt, l1d-dirty, l2-dirty, l1d-clean, l2-clean, none-dirty, still-dirty}
use Rattle.dropped_lines.proofs.ByteAt.{byte-right}
use Rattle.dropped_lines.proofs.Dropping.{Follows, After, grown, inside-same, call-after, reads-inside, holds_at, fresh-follows}
use Rattle.dropped_lines.proofs.Sent.{either, in-sent-clean, out-sent-clean, fetch-sent-clean, sent-clean}
use Rattle.dropped_lines.proofs.Touching.{loses-touched}

-- ---- the stronger form's values and losses are within the request's
pub record Covers (z : State) (h : ℕ → List ℕ) (lost : ℕ → Bool) (y : History) : Type 0 where
  pub held : (a x : ℕ) → Inside (layout_of z.rec) a → In x (h a) → In x (y.held a)
  pub lost-in : (a : ℕ) → y.dropped a ≡ false → lost a ≡ false

-- ---- a mode change leaves nothing valid, so nothing dirty
mode-0 : (k m b v : ℕ) (z : State) → k ≡ 10 → (step (command k m b v) z).number ≡ 0 → (a : ℕ) → in_dirty_line (step (command k m b v) z).next a ≡ false
unfolding step command_due accepted command_state change_mode new_mode
mode-0 k m b v z e =
    let d = mode_due z.rec.l2len m in
    rw e (cond-elim (λ (r : Reply). r.number ≡ 0 → (a : ℕ) → in_dirty_line r.next a ≡ false) (eqb d 0) (carried_out (change_mode m z)) (refused d z)
    (λ _ _ a. none-dirty (change_mode m z) (fresh-l1d-none (change_mode m z).rec refl) (fresh-l2-none (change_mode m z).rec refl) a)
    (λ t n. absurd (eqb-false d 0 t n)))

-- ---- a writeback that reached a: no dirty line has it
number_step : (c : Command) (z : State) → Well z → eqb (call c z).number 0 ≡ true → (step c z).number ≡ 0
number_step c z q t = sym (ap (λ (r : Reply). r.number) (call_step c z q)) ∙ eqb-true (call c z).number 0 t

sent-tells : (r : Reply) (s : Bool) → ((eqb r.number 0 && s) || false) ≡ true → (r.number ≡ 0) × (s ≡ true)
sent-tells r s y =
    either (eqb r.number 0 && s) false y
    (λ t. let p = both_true (eqb r.number 0) s t in (eqb-true r.number 0 p.0, p.1)) (λ t. false-true t)

reached-clean : (c : Call) (z : State) → Well z → (a : ℕ) → reached c z (called c z) a ≡ true → in_dirty_line (called c z).next a ≡ false
unfolding reached changes_mode
reached-clean fresh_start z q a y = false-true y
reached-clean (look b) z q a y = false-true y
reached-clean (read_unaligned n b) z q a y = false-true y
reached-clean (write_unaligned n b v) z q a y = false-true y
reached-clean (transfer_in b bs) z q a y =
    let s = transfer-in-step b bs z q in let p = sent-tells (transfer_in_step b bs z) (transfer_sends b (length bs) z a) (rw s at y) in
    rw s (in-sent-clean z q a b bs p.0 p.1)
reached-clean (transfer_out b o) z q a y =
    let s = transfer-out-step b o z q in let p = sent-tells (transfer_out_step b o z) (transfer_sends b (length o) z a) (rw s at y) in
    rw s (out-sent-clean z q a b o p.0 p.1)
reached-clean (fetch_behind b) z q a y =
    let s = fetch-step b z q in let p = sent-tells (fetch_behind_step b z) (program_sends a b z) (rw s at y) in
    rw s (fetch-sent-clean z q a b p.0 p.1)
reached-clean (one_command c) z q a y =
    let s = call_step c z q in let n = eqb (call c z).number 0 in
    let e : in_dirty_line (step c z).next a ≡ false =
    either (n && sends c z a) (n && eqb c.code 10) y
    (λ t. let p = both_true n (sends c z a) t in sent-clean c z q a (number_step c z q p.0) p.1)
    (λ t. let p = both_true n (eqb c.code 10) t in
    mode-0 c.code c.first c.second c.value z (eqb-true c.code 10 p.1) (number_step c z q p.0) a) in
    rw s e

-- ---- the values that may show
in_one : (x b : ℕ) → In x (b ∷ []) → x ≡ b
unfolding any_of
in_one x b p = bool (eqb x b) (λ t. eqb-true x b t) (λ t. false-true (rw t at p))

cons-in : (x b : ℕ) (bs ds : List ℕ) → (In x bs → In x ds) → In x (b ∷ bs) → In x (b ∷ ds)
unfolding any_of
cons-in x b bs ds k p = bool (eqb x b) (λ t. rw t refl) (λ t. rw t (k (rw t at p)))

not-reached : (c : Call) (z : State) (r : Reply) (a : ℕ) → reached c z r a ≡ false → changes_mode c r ≡ false
unfolding reached
not-reached c z r a t = (neither (sends_out c z r a) (changes_mode c r) t).1

held-covers : (c : Call) (z : State) → Well z → (f f' : Flat) (h : ℕ → List ℕ) (lost : ℕ → Bool) (g : ℕ → ℕ) → After c z (called c z) f f' h lost g →
    (y : History) → Covers z h lost y → (a x : ℕ) → Inside (layout_of (called c z).next.rec) a → In x (shows_after c (called c z) h a) →
    In x (held_after c z (called c z) y.held a)
unfolding shows_after held_after grown
held-covers c z q f f' h lost g r y v a x i p =
    let c' = called c z in let z' = c'.next in
    bool (reached c z c' a)
    (λ t. rw t (rw (reached-clean c z q a t) at p))
    (λ t. let n = not-reached c z c' a t in
    let e = r.sizes n in
    let was : In x (h a) → In x (y.held a) = v.held a x (inside-same z z' a e.0 e.1 i) in
    let j : In x (grown c c' h a) = bool (in_dirty_line z' a) (λ d. rw d at p) (λ d. let o = in_one x (memory_at z' a) (rw d at p) in rw o (r.in_memory n a i)) in
    rw t (bool (writes c c' a) (λ u. rw u (cons-in x (new_byte c a) (h a) (y.held a) was (rw u at j))) (λ u. rw u (was (rw u at j)))))

-- ---- a dirty line that was lost is a line that was dropped
drop-dropped : (c : Command) (z : State) → Well z → drop_code c.code ≡ true → Dropped z (step c z).next
drop-dropped c z q t =
    let a = c.first in let b = c.second in let v = c.value in
    let by : (k : ℕ) → c.code ≡ k → Dropped z (step (command k a b v) z).next → Dropped z (step c z).next =
    λ k e d. subst (λ (i : ℕ). Dropped z (step (command i a b v) z).next) (sym e) d in
    either (eqb c.code 6) (eqb c.code 8 || eqb c.code 9) t (λ u. by 6 (eqb-true c.code 6 u) (dropped-6 z q a b v))
    (λ t'. either (eqb c.code 8) (eqb c.code 9) t' (λ u. by 8 (eqb-true c.code 8 u) (dropped-8 z q a b v))
    (λ u. by 9 (eqb-true c.code 9 u) (dropped-9 z q a b v)))

-- a line with a that is still there is as dirty as it was: of one level, whose lines became fewer
same_line : (n : ℕ) (P : ℕ → ℕ → ℕ → Type 0) (x x' : Level) → Sound P x → ((s w : ℕ) → Valid x' s w → x'.line s w ≡ x.line s w) →
    (a s w : ℕ) → Valid x' s w → (x'.line s w).address ≡ a / n * n → DirtyAt n x a → DirtyAt n x' a
same_line n P x x' q fewer a s w k e d =
    let j = fewer s w k in
    let o = q.once d.0 d.1 s w d.2 (rw j at k) (d.4 ∙ sym (rw j at e)) in
    let i : (x.line d.0 d.1).dirty ≡ true = d.3 in
    (s, w, k, rw (j, o.0, o.1) i, e)

module _ (z z' : State) (q : Well z) (d : Dropped z z') (a : ℕ) where
  -- it is held, and so it is still held
  still-held : (p p' : Bool) → p ≡ true → (p && not p') ≡ false → p' ≡ true
  still-held p true h e = refl
  still-held p false h e = false-true (sym (rw h at e))

  still-l1d : (in_l1d z a && not (in_l1d z' a)) ≡ false → (dirty_in_l1d z a && not (dirty_in_l1d z' a)) ≡ false
  unfolding dirty_in_l1d
  still-l1d e =
      still-dirty 64 (l1d_level z) (l1d_level z') a (dirty_in_l1d z a) (dirty_in_l1d z' a) (l1d-dirty z a) (l1d-clean z' Anything d.step.good a)
      (λ t. let i = (both_true (in_l1d z a) (l1d_line_at z.rec (l1d_set_of a) (l1d_way z a)).dirty t).0 in
      let h = l1d-hit z' a (still-held (in_l1d z a) (in_l1d z' a) i e) in
      same_line 64 (L1dPlaced (layout_of z.rec)) (l1d_level z) (l1d_level z') q.inv.l1d_sound d.l1d_fewer a (l1d_set_of a) (l1d_way z' a) h.valid h.address)

  still-l2 : (in_l2 z a && not (in_l2 z' a)) ≡ false → (dirty_in_l2 z a && not (dirty_in_l2 z' a)) ≡ false
  unfolding dirty_in_l2
  still-l2 e =
      still-dirty 128 (l2_level z) (l2_level z') a (dirty_in_l2 z a) (dirty_in_l2 z' a) (l2-dirty z a) (l2-clean z' Anything d.step.good a)
      (λ t. let i = (both_true (in_l2 z a) (l2_line_at z.rec (l2_set_of z.rec a) (l2_way z a)).dirty t).0 in
      let h = l2-hit z' a (still-held (in_l2 z a) (in_l2 z' a) i e) in
      same_line 128 (L2Placed (layout_of z.rec)) (l2_level z) (l2_level z') q.inv.l2_sound d.l2_fewer a (l2_set_of z'.rec a) (l2_way z' a) h.valid
      h.address)

  still_both : ((in_l1d z a && not (in_l1d z' a)) || (in_l2 z a && not (in_l2 z' a))) ≡ false →
      ((dirty_in_l1d z a && not (dirty_in_l1d z' a)) || (dirty_in_l2 z a && not (dirty_in_l2 z' a))) ≡ false
  still_both e =
      let n = neither (in_l1d z a && not (in_l1d z' a)) (in_l2 z a && not (in_l2 z' a)) e in rw (still-l1d n.0, still-l2 n.1) refl

loses-dropped : (c : Call) (z : State) → Well z → (a : ℕ) → drops_line c z (called c z) a ≡ false → loses c z (called c z) a ≡ false
unfolding drops_line loses
loses-dropped fresh_start z q a y = refl
loses-dropped (look b) z q a y = refl
loses-dropped (read_unaligned n b) z q a y = refl
loses-dropped (write_unaligned n b v) z q a y = refl
loses-dropped (transfer_in b bs) z q a y = refl
loses-dropped (transfer_out b o) z q a y = refl
loses-dropped (fetch_behind b) z q a y = refl
loses-dropped (one_command c) z q a y =
    let s = call_step c z q in let z' = (call c z).next in
    bool (drop_code c.code)
    (λ t. let d : Dropped z z' = rw s (drop-dropped c z q t) in
    rw t (still_both z z' q d a (rw t at y)))
    (λ t. rw t refl)

-- ---- one call, a non-aligned access apart
call-covers : (c : Call) (z : State) (f f' : Flat) (h : ℕ → List ℕ) (lost : ℕ → Bool) (g : ℕ → ℕ) → Well z → After c z (called c z) f f' h lost g →
    (y : History) → Covers z h lost y →
    Covers (called c z).next (shows_after c (called c z) h) (lost_after c z (called c z) lost) (history_one c z (called c z) y)
unfolding lost_after
call-covers c z f f' h lost g q r y v =
    record {
      held = λ a x i p. held-covers c z q f f' h lost g r y v a x i p;
      lost-in = λ a t.
          let n = neither (y.dropped a) (drops_line c z (called c z) a) t in
          let l = v.lost-in a n.0 in let l' = loses-dropped c z q a n.1 in
          bool (writes c (called c z) a) (λ u. rw u refl) (λ u. rw (u, l, l') refl);
    }

may-change : (c : Call) (z : State) → Well z → (a : ℕ) → may_change c (called c z) a ≡ false → changes c z (called c z) a ≡ false
unfolding may_change changes
may-change c z q a t =
    let r = called c z in
    bool (writes c r a) (λ w. false-true (sym (rw w at t)))
    (λ w. bool (drop_touches c r a) (λ d. false-true (sym (rw (w, d) at t)))
    (λ d. let l = loses-touched c z q a d in
    bool (changes_mode c r) (λ m. false-true (sym (rw (w, d, m) at t))) (λ m. rw (w, l, m) refl)))

words-at : (c : Call) (z : State) (f : Flat) (h : ℕ → List ℕ) (lost : ℕ → Bool) (y : History) → Well z → Covers z h lost y →
    HoldsAt c z f (λ a b. one_of (h a) b) lost (changes c z (called c z)) → HoldsAt c z f (last_or_held y) y.dropped (may_change c (called c z))
words-at c z f h lost y q v p =
    record {
      bytes = p.bytes;
      bytes_unaligned = p.bytes_unaligned;
      sentence1 = λ a t. let i = v.held a (byte_at z a) (reads-inside c z q a t) (p.sentence1 a t) in
          rw i (or-true (one_of (y.last a) (byte_at z a)));
      sentence2 = λ a t n. p.sentence2 a t (v.lost-in a n);
      sentence3 = λ a t. p.sentence3 a (may-change c z q a t);
    }
  where
    or-true : (b : Bool) → (b || true) ≡ true
    or-true true = refl
    or-true false = refl

-- ---- along a list
pub record Stands (z : State) (f : Flat) (y : History) : Type 0 where
  pub h : ℕ → List ℕ
  pub lost : ℕ → Bool
  pub g : ℕ → ℕ
  pub follows : Follows z f h lost g
  pub covers : Covers z h lost y

stands_one : (c : Call) (z : State) (f : Flat) (y : History) → listed_call c ≡ true → Stands z f y →
    Stands (called c z).next (flat_called c f).next (history_one c z (called c z) y)
stands_one c z f y l p =
    let h = p.h in let lost = p.lost in let g = p.g in
    let r = call-after c z f h lost g l p.follows in
    record {
      h = shows_after c (called c z) h;
      lost = lost_after c z (called c z) lost;
      g = r.g';
      follows = r.follows;
      covers = call-covers c z f (flat_called c f).next h lost g (good-well z (Seen g h) p.follows.good) r y p.covers;
    }

-- ---- a non-aligned access: behind its bytes, one after another, the history stands, with what a flat memory has that
-- wrote them one by one
stands-bytes : (k : ℕ → Command) (n : ℕ) (z : State) (f : Flat) (y : History) → Stands z f y →
    (f' : Flat) × Stands (calls_to k n z) f' (history_bytes k n z y)
unfolding each history_bytes
stands-bytes k zero z f y p = (f, p)
stands-bytes k (suc n) z f y p =
    let r = stands-bytes k n z f y p in
    ((flat_step (k n) r.0).next, stands_one (one_command (k n)) (calls_to k n z) r.0 (history_bytes k n z y) refl r.1)

-- no byte of it drops a line
dropped-before : (k : ℕ → Command) (n : ℕ) (z : State) (y : History) (a : ℕ) → (history_bytes k n z y).dropped a ≡ false → y.dropped a ≡ false
unfolding history_bytes
dropped-before k zero z y a e = e
dropped-before k (suc n) z y a e =
    dropped-before k n z y a
    (neither ((history_bytes k n z y).dropped a) (drops_line (one_command (k n)) (calls_to k n z) (call (k n) (calls_to k n z)) a) e).0

-- what is seen is one thing, so that it agrees with the flat memory that wrote them at once
stands-with : (z : State) (f f' : Flat) (y : History) (h : ℕ → List ℕ) (lost : ℕ → Bool) (g : ℕ → ℕ) → Stands z f y → Follows z f' h lost g →
    ((a : ℕ) → y.dropped a ≡ false → lost a ≡ false) → Stands z f' y
stands-with z f f' y h lost g p q l =
    record {
      h = p.h;
      lost = lost;
      g = p.g;
      follows = record {
        good = p.follows.good;
        sizes = q.sizes;
        agrees = λ a i t.
            sym (byte-right z (Seen p.g p.h) p.follows.good a i).0 ∙ (byte-right z (Seen g h) q.good a i).0 ∙ q.agrees a i t;
      };
      covers = record { held = p.covers.held; lost-in = l };
    }

-- accepted or refused
stands-either : (k : ℕ → Command) (n : ℕ) (z : State) (r : Reply) (f : Flat) (y : History) → Stands z f y → Either k n z r →
    (f' : Flat) × Stands r.next f' (cond (eqb r.number 0) (history_bytes k n z y) y)
    × ((a : ℕ) → (cond (eqb r.number 0) (history_bytes k n z y) y).dropped a ≡ false → y.dropped a ≡ false)
stands-either k n z r f y p o =
    ⊎_elim
    (λ e. let t = stands-bytes k n z f y p in let e₀ = e.0 in let e₁ = e.1 in
    rw (e₀, e₁) (t.0, t.1, dropped-before k n z y))
    (λ e. let e₀ = e.0 in let e₁ = e.1 in rw (e₀, e₁) (f, p, λ _ d. d))
    o

not-lost : (c : Call) (z : State) (r : Reply) (lost : ℕ → Bool) (a : ℕ) → loses c z r a ≡ false → lost a ≡ false → lost_after c z r lost a ≡ false
unfolding lost_after
not-lost c z r lost a l e = bool (writes c r a) (λ t. rw t refl) (λ t. rw (t, e, l) refl)

pub stands_after : (c : Call) (z : State) (f : Flat) (y : History) → listed_call c ≡ true → Stands z f y →
    Stands (called c z).next (flat_called c f).next (history_after c z (called c z) y)
unfolding loses
stands_after (one_command k) z f y l p = stands_one (one_command k) z f y l p
stands_after fresh_start z f y l p = stands_one fresh_start z f y l p
stands_after (look b) z f y l p = stands_one (look b) z f y l p
stands_after (transfer_in b bs) z f y l p = stands_one (transfer_in b bs) z f y l p
stands_after (transfer_out b o) z f y l p = stands_one (transfer_out b o) z f y l p
stands_after (fetch_behind b) z f y l p = stands_one (fetch_behind b) z f y l p
stands_after (read_unaligned n b) z f y l p =
    let c = read_unaligned n b in let r = called c z in
    let a = call-after c z f p.h p.lost p.g l p.follows in
    let t = stands-either (byte_read b) n z r f y p (read-unaligned-either n b z (good-well z (Seen p.g p.h) p.follows.good)) in
    stands-with r.next t.0 (flat_called c f).next (history_after c z r y) (shows_after c r p.h) (lost_after c z r p.lost) a.g' t.1 a.follows
    (λ x d. not-lost c z r p.lost x refl (p.covers.lost-in x (t.2 x d)))
stands_after (write_unaligned n b v) z f y l p =
    let c = write_unaligned n b v in let r = called c z in
    let a = call-after c z f p.h p.lost p.g l p.follows in
    let t = stands-either (byte_write n b v) n z r f y p (write-unaligned-either n b v z (good-well z (Seen p.g p.h) p.follows.good)) in
    stands-with r.next t.0 (flat_called c f).next (history_after c z r y) (shows_after c r p.h) (lost_after c z r p.lost) a.g' t.1 a.follows
    (λ x d. not-lost c z r p.lost x refl (p.covers.lost-in x (t.2 x d)))

pub along : (cs : List Call) (z : State) (f : Flat) (y : History) → listed cs ≡ true → Stands z f y → Holds cs z f y
unfolding listed
along [] z f y l p = end
along (c ∷ cs) z f y l p =
    let i = both_true (listed_call c) (listed cs) l in
    let h = p.h in let lost = p.lost in let g = p.g in
    next (words-at c z f h lost y (good-well z (Seen g h) p.follows.good) p.covers (holds_at c z f h lost g i.0 p.follows))
    (along cs (called c z).next (flat_called c f).next (history_after c z (called c z) y) i.1 (stands_after c z f y i.0 p))

-- ---- U13
pub at_first_lem : (l : ℕ) (e : List ℕ) → legal_l2 l ≡ true → legal_external (length e) ≡ true → Stands (fresh_state l e) (fresh_flat l e) (at_first (fresh_state l e))
at_first_lem l e hl he =
    record {
      h = λ a. memory_at (fresh_state l e) a ∷ [];
      lost = λ _. false;
      g = memory_of (fresh_state l e);
      follows = fresh-follows l e hl he;
      covers = record { held = λ _ _ _ p. p; lost-in = λ _ _. refl };
    }

pub dropped-lines : DroppedLines
dropped-lines d m e h cs y =
    let p = fresh-accepted d m e h in let s = p.2 in
    rw s (along cs (fresh_state (length m) e) (fresh_flat (length m) e) (at_first (fresh_state (length m) e)) y (at_first_lem (length m) e p.0 p.1))
