-- The stronger form of U13 holds (`stronger`). Shown of one call first: where the chip is good by what is seen
-- (`Seen g h`) and flat memory has the same bytes wherever nothing was lost (`Follows`), that is so again behind it
-- (`After`), with h cut down or grown as the statement says, and g changed only where the call changes the byte.
-- Why: a command that flat memory does not see keeps the state good by the same g and h, and so does a transfer out; a
-- write, or a transfer in, puts its bytes into g and adds them to h; a mode change leaves the memories alone to be
-- seen; after a drop the state is good by what is seen now, which differs only where a dirty line was dropped. Each
-- byte of a read is g's.
use Prim.Native.Nat.{ℕ, ◌+◌, ◌-◌, ◌≤◌, ◌<◌}
use mathlib.Core.Bool.{Bool, true, false, not, cond, ◌&&◌, ◌||◌, and-false}
use mathlib.Core.Path.{◌≡◌, refl, sym, ap, ◌∙◌, subst}
use mathlib.Core.List.{List, [], ◌∷◌}
use native.Mathlib.Omega.{arith}
use lib.ListN.{length, get_or}
use lib.Dec.{ltb, leb, eqb}
use borrow.Author.Tests.{ltb-true, ltb-false, lt-ltb, le-ltb, le-leb, lt-leb, leb-true, leb-false, eqb-true, eqb-false, ne_eqb}
use Rattle.model.specs.Bytes.{little, little_bytes, zero_from}
use Rattle.model.specs.Memories.{external_base, legal_l2, legal_external, sram_length}
use Rattle.model.specs.Records.{State, sram_of, fresh_record, fresh_state}
use Rattle.model.specs.Access.{read_access}
use Rattle.model.specs.Unaligned.{read_up, unaligned_due}
use Rattle.model.specs.Transfers.{sent_home, transferred_in, transferred_out, transfer_due}
use Rattle.model.specs.Modes.{smaller, flush_l2, new_mode, change_mode}
use Rattle.model.specs.Flat.{Flat, FlatReply, flat_reply, fresh_flat, flat_part, flat_put, flat_mode, flat_read, flat_write, flat_change, flat_step, flat_read_unaligned, flat_write_unaligned, flat_transfer_in, flat_handed_back, flat_transfer_out, flat_fetch_due, flat_fetch, flat_called}
use Rattle.model.specs.Refusals.{access_due, mode_due}
use Rattle.model.specs.Trace.{command}
use Rattle.model.specs.Calls.{Reply, refused, carried_out, command_due, read_done, write_done, command_state, accepted, step, call, view_done, unaligned_due_in, read_unaligned_done, write_unaligned_done, read_unaligned_step, write_unaligned_step, read_unaligned_call, transfer_due_in, handed_back, transfer_in_step, transfer_out_step, Call, one_command, fresh_start, look, read_unaligned, write_unaligned, transfer_in, transfer_out, fetch_behind, fetch_due_in, no_fetch, fetch_behind_done, fetch_behind_step, called}
use Rattle.dropped_lines.specs.Dropped.{listed_call, listed, byte_at, memory_at, reads, writes, new_byte, changes_mode, drop_code, HoldsAt, one_of}
use Rattle.dropped_lines.specs.Reached.{within}
use Rattle.dropped_lines.specs.Stronger.{dirty_in_l1d, dirty_in_l2, in_dirty_line, loses, shows_after, lost_after, changes, HoldsStronger, StrongerDroppedLines, end, next}
use Rattle.model.specs.Laws.{bool, false-true, both_true, cond-elim, cond_both, length-little_bytes}
use Rattle.model.specs.declared.Command.{Command}
use Rattle.agreement.proofs.Invariant.{Allowed, Layout, Inside}
use Rattle.agreement.proofs.Memory.{memory-low, memory-high, low-length, high-length, Fits, wrote-memory, Written, inside-or-not}
use Rattle.agreement.proofs.Good.{layout_of, memory_of, Good, Well, good-well}
use Rattle.dropped_lines.proofs.Held.{In, in_head, in_tail, Seen, seen, neither, none-dirty, memory-at, settled, dropped-good, not-dropped}
use Rattle.dropped_lines.proofs.ByteAt.{due-inside, unaligned-inside, byte-right, byte-same, SameSizes, sizes-quiet, flat-byte, read-bytes}
use Rattle.agreement.proofs.Fetch.{AccessFits}
use Rattle.agreement.proofs.ReadWrite.{Step}
use Rattle.agreement.proofs.Unaligned.{due-fits, accepted-read-up, accepted-write-up, read-unaligned-step, write-unaligned-step, read-unaligned-done}
use Rattle.model.specs.Fetches.{fetch_access}
use Rattle.agreement.proofs.Fetches.{fetch-good, fetch-step}
use Rattle.agreement.proofs.Transfers.{transfer-fits, sent-good, sent-uncached, transferred-in-good, transfer-in-step, transfer-out-step}
use Rattle.agreement.proofs.Sweeps.{flush-good}
use Rattle.agreement.proofs.Changes.{zero-length, zero-below, zero-above, smaller-bound, fresh-l1d-none, fresh-l2-none, fresh-good, new_mode-good}
use Rattle.agreement.proofs.Due.{access-tells, accepted-read, accepted-write, mode-tells}
use Rattle.agreement.proofs.Drops.{Dropped}
use Rattle.agreement.proofs.Steps.{codes, Quiet, quiet-refl, quiet_step, quiet-2, quiet-3, quiet-4, quiet-5, quiet-7, quiet-11, quiet-12, dropped-6, dropped-8, dropped-9, other-code}
use Rattle.agreement.proofs.Tested.{call_step}
use Rattle.agreement.proofs.Flushes.{swept_l1d, change-swept}
use Rattle.agreement.proofs.Agreement.{flat_byte, flat_put-state, fresh-matches, fresh-accepted}

-- ---- chip, flat memory, what may show and what was lost: g is what is seen
pub record Follows (z : State) (f : Flat) (h : ℕ → List ℕ) (lost : ℕ → Bool) (g : ℕ → ℕ) : Type 0 where
  pub good : Good z (Seen g h)
  pub sizes : SameSizes z f
  pub agrees : (a : ℕ) → Inside (layout_of z.rec) a → lost a ≡ false → g a ≡ flat_byte f a

-- values of an address that could show before can show still, if a dirty line holds it
unfoldable pub grown : Call → Reply → (ℕ → List ℕ) → ℕ → List ℕ
grown c r h a = cond (writes c r a) (new_byte c a ∷ h a) (h a)

grown-in : (c : Call) (r : Reply) (h : ℕ → List ℕ) (a x : ℕ) → In x (h a) → In x (grown c r h a)
unfolding grown
grown-in c r h a x p = bool (writes c r a) (λ t. rw t (in_tail x (new_byte c a) (h a) p)) (λ t. rw t p)

-- ---- behind call c, answered r
pub record After (c : Call) (z : State) (r : Reply) (f f' : Flat) (h : ℕ → List ℕ) (lost : ℕ → Bool) (g : ℕ → ℕ) : Type 0 where
  pub g' : ℕ → ℕ
  pub follows : Follows r.next f' (shows_after c r h) (lost_after c z r lost) g'
  pub keeps : (a : ℕ) → changes c z r a ≡ false → Inside (layout_of z.rec) a → g' a ≡ g a
  -- a mode change apart: the sizes are as they were, and the byte in memory is one that could show
  pub sizes : changes_mode c r ≡ false → (sram_of r.next.rec ≡ sram_of z.rec) × (r.next.rec.extlen ≡ z.rec.extlen)
  pub in_memory : changes_mode c r ≡ false → (a : ℕ) → Inside (layout_of r.next.rec) a → In (memory_at r.next a) (grown c r h a)

-- what may show, cut down where no dirty line is; and the byte in memory may
cut_down : (c : Call) (r : Reply) (h h₁ : ℕ → List ℕ) (g : ℕ → ℕ) → Good r.next (Seen g h₁) →
    ((a x : ℕ) → in_dirty_line r.next a ≡ true → In x (h₁ a) → In x (grown c r h a)) → Good r.next (Seen g (shows_after c r h))
unfolding shows_after grown
cut_down c r h h₁ g q more = settled r.next g h₁ (grown c r h) q more

memory-may : (c : Call) (r : Reply) (h h₁ : ℕ → List ℕ) (g : ℕ → ℕ) → Good r.next (Seen g h₁) → ((a x : ℕ) → In x (h₁ a) → In x (grown c r h a)) →
    (a : ℕ) → Inside (layout_of r.next.rec) a → In (memory_at r.next a) (grown c r h a)
memory-may c r h h₁ g q more a i =
    let e = memory-at r.next q.tidy a i in more a (memory_at r.next a) (rw e (q.inv.behind.memory_held a i))

lost-before : (c : Call) (z : State) (r : Reply) (lost : ℕ → Bool) (a : ℕ) → writes c r a ≡ false → lost_after c z r lost a ≡ false →
    (lost a ≡ false) × (loses c z r a ≡ false)
unfolding lost_after
lost-before c z r lost a w e = neither (lost a) (loses c z r a) (rw w at e)

pub unchanged : (c : Call) (z : State) (r : Reply) (a : ℕ) → changes c z r a ≡ false →
    (loses c z r a ≡ false) × (writes c r a ≡ false) × (changes_mode c r ≡ false)
unfolding changes
unchanged c z r a t =
    let n = neither (writes c r a) (loses c z r a || changes_mode c r) t in
    let n' = neither (loses c z r a) (changes_mode c r) n.1 in
    (n'.0, n.0, n'.1)

-- only code 1 writes, and not where it is refused
no_write : (k a b v : ℕ) → eqb k 1 ≡ false → (r : Reply) → (x : ℕ) → writes (one_command (command k a b v)) r x ≡ false
unfolding writes
no_write k a b v e r x = rw e (and-false (eqb r.number 0))

refused-write : (c : Command) (r : Reply) → eqb r.number 0 ≡ false → (x : ℕ) → writes (one_command c) r x ≡ false
unfolding writes
refused-write c r n x = rw n refl

-- a dirty line that was not dropped is still there
kept-dirty : (p p' : Bool) → (p && not p') ≡ false → p' ≡ false → p ≡ false
kept-dirty true p' e n = false-true (sym (rw n at e))
kept-dirty false p' e n = refl

not-lost : (z z' : State) (a : ℕ) → ((dirty_in_l1d z a && not (dirty_in_l1d z' a)) || (dirty_in_l2 z a && not (dirty_in_l2 z' a))) ≡ false →
    (dirty_in_l1d z' a ≡ false → dirty_in_l1d z a ≡ false) × (dirty_in_l2 z' a ≡ false → dirty_in_l2 z a ≡ false)
not-lost z z' a e =
    let n = neither (dirty_in_l1d z a && not (dirty_in_l1d z' a)) (dirty_in_l2 z a && not (dirty_in_l2 z' a)) e in
    (kept-dirty (dirty_in_l1d z a) (dirty_in_l1d z' a) n.0, kept-dirty (dirty_in_l2 z a) (dirty_in_l2 z' a) n.1)

pub inside-same : (z z' : State) (a : ℕ) → sram_of z'.rec ≡ sram_of z.rec → z'.rec.extlen ≡ z.rec.extlen → Inside (layout_of z'.rec) a →
    Inside (layout_of z.rec) a
inside-same z z' a s x i = record { low = λ k. let l = i.low k in omega arith; high = λ k. let l = i.high k in omega arith }

-- ---- a command that flat memory does not see, that writes nothing and drops nothing
module _ (z : State) (f : Flat) (h : ℕ → List ℕ) (lost : ℕ → Bool) (g : ℕ → ℕ) (m : Follows z f h lost g) where
  quiet-after : (c : Call) (r : Reply) (f' : Flat) → f' ≡ f → ((a : ℕ) → writes c r a ≡ false) → Quiet z (Seen g h) r.next → After c z r f f' h lost g
  quiet-after c r f' e w q =
      let z' = r.next in
      let s = sizes-quiet z z' (Seen g h) f m.sizes q in
      let same : sram_of z'.rec ≡ sram_of z.rec = sym s.sram ∙ m.sizes.sram in
      record {
        g' = g;
        follows = record {
          good = cut_down c r h h g q.good (λ a x _ p. grown-in c r h a x p);
          sizes = rw e s;
          agrees = λ a i l. rw e (m.agrees a (inside-same z z' a same q.extlen i) (lost-before c z r lost a (w a) l).0);
        };
        keeps = λ a _ _. refl;
        sizes = λ _. (same, q.extlen);
        in_memory = λ _. memory-may c r h h g q.good (grown-in c r h);
      }

  -- ---- a command that drops lines
  drop-after : (c : Call) (r : Reply) (f' : Flat) → f' ≡ f → ((a : ℕ) → writes c r a ≡ false) →
      ((a : ℕ) → loses c z r a ≡ false → ((dirty_in_l1d z a && not (dirty_in_l1d r.next a)) || (dirty_in_l2 z a && not (dirty_in_l2 r.next a))) ≡ false) →
      Dropped z r.next → After c z r f f' h lost g
  drop-after c r f' e w k d =
      let z' = r.next in
      let q = dropped-good z z' g h m.good d in
      let y = quiet_step z (Seen (seen z') h) z' (record { good = q; kept = d.step.kept }) in
      let s = sizes-quiet z z' (Seen (seen z') h) f m.sizes y in
      let same : sram_of z'.rec ≡ sram_of z.rec = sym s.sram ∙ m.sizes.sram in
      let was : (a : ℕ) → Inside (layout_of z.rec) a → loses c z r a ≡ false → seen z' a ≡ g a =
      λ a i n. let x = not-lost z z' a (k a n) in not-dropped z z' g h m.good d a i x.0 x.1 in
      record {
        g' = seen z';
        follows = record {
          good = cut_down c r h h (seen z') q (λ a x _ p. grown-in c r h a x p);
          sizes = rw e s;
          agrees = λ a i l.
              let i₀ = inside-same z z' a same y.extlen i in
              let n = lost-before c z r lost a (w a) l in
              rw e (was a i₀ n.1 ∙ m.agrees a i₀ n.0);
        };
        keeps = λ a t i. was a i (unchanged c z r a t).0;
        sizes = λ _. (same, y.extlen);
        in_memory = λ _. memory-may c r h h (seen z') q (grown-in c r h);
      }

-- ---- an accepted call that writes the a bytes bs at b (`cw` is that call): a write, aligned or not, or a transfer in
module _ (z : State) (f : Flat) (h : ℕ → List ℕ) (lost : ℕ → Bool) (g : ℕ → ℕ) (m : Follows z f h lost g) (a b : ℕ) (bs : List ℕ) (long : length bs ≡ a)
    (cw : Call) (r : Reply) (wr : (x : ℕ) → writes cw r x ≡ within b a x) (new : (x : ℕ) → new_byte cw x ≡ get_or bs (x - b) 0) where
  writes-in : (x : ℕ) → b ≤ x → x < b + length bs → writes cw r x ≡ true
  writes-in x l u = let n = long in let e = wr x in rw (e, le-leb b x l, lt-ltb x (b + a) (omega arith)) refl

  writes-out : (x : ℕ) → (b ≤ x → b + length bs ≤ x) → writes cw r x ≡ false
  writes-out x o =
      let n = long in let e = wr x in
      bool (leb b x)
      (λ t. let u = o (leb-true b x t) in rw (e, t, le-ltb x (b + a) (omega arith)) refl)
      (λ t. rw (e, t) refl)

  abbrev put : ℕ → ℕ
  put x = cond (writes cw r x) (new_byte cw x) (g x)

  write-writes : Written (Seen g h) (Seen put (grown cw r h)) b bs
  unfolding grown
  write-writes =
      record {
        puts = record {
          inside = λ x l u. let t = writes-in x l u in let e = new x in rw (t, ← e) (refl, in_head (new_byte cw x) (new_byte cw x) (h x) refl);
          outside = λ x o d p. let t = writes-out x o in rw t p;
        };
        grows = record { held = λ x d p. grown-in cw r h x d p; alike = λ _ _ p. p };
      }

  write-after : AccessFits (layout_of z.rec) b a → ((F : Allowed) → Written (Seen g h) F b bs → Step z F r.next) → After cw z r f (flat_put b bs f) h lost g
  write-after k done =
      let z' = r.next in
      let w : Step z (Seen put (grown cw r h)) z' = done (Seen put (grown cw r h)) write-writes in
      let y = quiet_step z (Seen put (grown cw r h)) z' w in
      let s = sizes-quiet z z' (Seen put (grown cw r h)) f m.sizes y in
      let same : sram_of z'.rec ≡ sram_of z.rec = sym s.sram ∙ m.sizes.sram in
      let wo = wrote-memory f.sram f.ext bs b fits sram-below in
      record {
        g' = put;
        follows = record {
          good = cut_down cw r h (grown cw r h) put w.good (λ _ _ _ p. p);
          sizes = rw (flat_put-state b bs f) (record {
            l2len = s.l2len;
            sram = low-length f.sram bs b ∙ s.sram;
            ext = high-length f.ext bs b ∙ s.ext;
          });
          agrees = λ x i l. let i₀ = inside-same z z' x same y.extlen i in
              rw (flat_put-state b bs f) (inside-or-not b x (length bs)
              (λ lo hi. let t = writes-in x lo hi in let p = wo.inside x lo hi in let e = new x in rw (t, p) e)
              (λ o. let t = writes-out x o in let p = wo.outside x o in rw (t, p) (m.agrees x i₀ (lost-before cw z r lost x t l).0)));
        };
        keeps = λ x t _. let n = (unchanged cw z r x t).1 in rw n refl;
        sizes = λ _. (same, y.extlen);
        in_memory = λ _. memory-may cw r h (grown cw r h) put w.good (λ _ _ p. p);
      }
    where
      fits : Fits f.sram f.ext b (length bs)
      fits =
          let n = long in let s = m.sizes.sram in let x = m.sizes.ext in
          record { low = λ y. let l = k.low y in omega arith; high = λ y. let l = k.high y in omega arith }

      sram-below : length f.sram ≤ external_base
      sram-below = let s = m.sizes.sram in let x = m.good.tidy.sizes.l2_most in omega arith

-- ---- an accepted change to mode k: the memories alone are seen, SRAM zero from the smaller S on
module _ (z : State) (f : Flat) (h : ℕ → List ℕ) (lost : ℕ → Bool) (g : ℕ → ℕ) (m : Follows z f h lost g) (k b v : ℕ) (r : Reply) (ok : r.number ≡ 0) where
  abbrev cm : Call
  cm = one_command (command 10 k b v)

  changes-mode : changes_mode cm r ≡ true
  unfolding changes_mode
  changes-mode = rw ok refl

  abbrev low : ℕ
  low = smaller (sram_of z.rec) (sram_length z.rec.l2len k)

  abbrev kept : ℕ → ℕ
  kept a = cond (ltb a external_base && leb low a) 0 (g a)

  kept_low : (a : ℕ) → a < low → kept a ≡ g a
  kept_low a l = bool (ltb a external_base) (λ t. rw (t, lt-leb low a l) refl) (λ t. rw t refl)

  kept-zero : (a : ℕ) → a < external_base → low ≤ a → kept a ≡ 0
  kept-zero a i l = rw (lt-ltb a external_base i, le-leb low a l) refl

  kept_high : (a : ℕ) → external_base ≤ a → kept a ≡ g a
  kept_high a i = rw (le-ltb a external_base i) refl

  abbrev z₁ : State
  z₁ = flush_l2 (swept_l1d z)

  abbrev G : Allowed
  G = Seen kept (λ a. kept a ∷ [])

  is-kept : (a c : ℕ) → c ≡ kept a → G.right a c
  is-kept a c e = (e, in_head c (kept a) [] e)

  changed-good : mode_due z.rec.l2len k ≡ 0 → Good (new_mode k z₁) G
  changed-good d =
      let o = flush-good z (Seen g h) m.good in
      let t = mode-tells z.rec.l2len k d in
      let el : smaller (sram_of z₁.rec) (sram_length z₁.rec.l2len k) ≡ low = rw (o.step.kept.mode, o.step.kept.l2len) refl in
      new_mode-good z₁ (Seen g h) G o.step.good k t.0 (rw o.step.kept.l2len t.1) o.l1d_none o.l2_clean
      (λ a _ l c p. is-kept a c (p.0 ∙ sym (kept_low a (rw el at l))))
      (λ a i l. is-kept a 0 (sym (kept-zero a i (rw el at l))))
      (λ a i c p. is-kept a c (p.0 ∙ sym (kept_high a i)))

  -- flat memory after it has those bytes
  flat-kept : (a : ℕ) → (external_base ≤ a → a < external_base + z.rec.extlen) → lost a ≡ false → kept a ≡ flat_byte (flat_mode k f) a
  unfolding flat_mode
  flat-kept a hi l =
      let n = sram_length f.l2len k in
      let y = smaller (length f.sram) n in
      let ey : low ≡ y = rw (m.sizes.sram, m.sizes.l2len) refl in
      let yb = smaller-bound (length f.sram) n in let y₀ = yb.0 in let y₁ = yb.1 in
      let s = m.sizes.sram in
      let lo = zero_from y f.sram n in
      bool (ltb a external_base)
      (λ t. let t' = ltb-true a external_base t in
      bool (leb low a)
      (λ u. let u' = leb-true low a u in
      kept-zero a t' u' ∙ sym (memory-low lo f.ext a t' ∙ zero-above y f.sram n y₀ y₁ a (rw ey at u')))
      (λ u. let u' = leb-false low a u in let u'' : a < y = rw ey at u' in
      kept_low a u' ∙ m.agrees a (record { low = λ _. omega arith; high = λ w. absurd (omega arith) }) l ∙ memory-low f.sram f.ext a t'
      ∙ sym (memory-low lo f.ext a t' ∙ zero-below y f.sram n y₀ y₁ a u'')))
      (λ t. let t' = ltb-false a external_base t in
      kept_high a t' ∙ m.agrees a (record { low = λ w. absurd (omega arith); high = hi }) l ∙ memory-high f.sram f.ext a t'
      ∙ sym (memory-high lo f.ext a t'))

  flat-sizes : SameSizes (new_mode k z₁) (flat_mode k f)
  unfolding new_mode flat_mode
  flat-sizes =
      let o = flush-good z (Seen g h) m.good in
      let n = sram_length f.l2len k in
      let y = smaller (length f.sram) n in
      let yb = smaller-bound (length f.sram) n in
      let e : f.l2len ≡ z₁.rec.l2len = m.sizes.l2len ∙ sym o.step.kept.l2len in
      record {
        l2len = e;
        sram = zero-length y f.sram n yb.0 yb.1 ∙ ap (λ (l : ℕ). sram_length l k) e;
        ext = m.sizes.ext ∙ sym (ap (λ (x : Layout). x.ext) o.step.kept.layout);
      }

  changed-clean : (a : ℕ) → in_dirty_line (new_mode k z₁) a ≡ false
  unfolding new_mode
  changed-clean a = none-dirty (new_mode k z₁) (fresh-l1d-none (new_mode k z₁).rec refl) (fresh-l2-none (new_mode k z₁).rec refl) a

  flat-ext : length (flat_mode k f).ext ≡ length f.ext
  unfolding flat_mode
  flat-ext = refl

  mode-after : r.next ≡ change_mode k z → mode_due z.rec.l2len k ≡ 0 → After cm z r f (flat_mode k f) h lost g
  mode-after e d =
      let e' : new_mode k z₁ ≡ r.next = sym (e ∙ change-swept k z) in
      let s : SameSizes r.next (flat_mode k f) = subst (λ (x : State). SameSizes x (flat_mode k f)) e' flat-sizes in
      let x : r.next.rec.extlen ≡ z.rec.extlen = sym s.ext ∙ flat-ext ∙ m.sizes.ext in
      record {
        g' = kept;
        follows = record {
          good = cut_down cm r h (λ a. kept a ∷ []) kept (subst (λ (y : State). Good y G) e' (changed-good d))
              (λ a _ t _. false-true (sym (subst (λ (y : State). in_dirty_line y a ≡ false) e' (changed-clean a)) ∙ t));
          sizes = s;
          agrees = λ a i l. flat-kept a (λ w. let w' = i.high w in omega arith) (lost-before cm z r lost a (no_write 10 k b v refl r a) l).0;
        };
        keeps = λ a t. false-true (sym (unchanged cm z r a t).2 ∙ changes-mode);
        sizes = λ t. false-true (sym t ∙ changes-mode);
        in_memory = λ t. false-true (sym t ∙ changes-mode);
      }

-- ---- every command
module _ (z : State) (f : Flat) (h : ℕ → List ℕ) (lost : ℕ → Bool) (g : ℕ → ℕ) (m : Follows z f h lost g) (a b v : ℕ) where
  abbrev Done : ℕ → Type 0
  Done k = After (one_command (command k a b v)) z (step (command k a b v) z) f (flat_step (command k a b v) f).next h lost g

  same-due : (n : ℕ) → access_due (length f.sram) (length f.ext) a b n ≡ access_due (sram_of z.rec) z.rec.extlen a b n
  same-due n = rw (m.sizes.sram, m.sizes.ext) refl

  unseen : (k : ℕ) → eqb k 1 ≡ false → (flat_step (command k a b v) f).next ≡ f → Quiet z (Seen g h) (step (command k a b v) z).next → Done k
  unseen k w e q =
      let c = command k a b v in quiet-after z f h lost g m (one_command c) (step c z) (flat_step c f).next e (no_write k a b v w (step c z)) q

  refused-quiet : Quiet z (Seen g h) z
  refused-quiet = quiet-refl z (Seen g h) m.good

  abbrev access : ℕ → ℕ
  access n = access_due (sram_of z.rec) z.rec.extlen a b n

  done-0 : Done 0
  unfolding step command_due accepted read_done flat_step flat_read
  done-0 =
      let d' = access_due (length f.sram) (length f.ext) a b 0 in
      unseen 0 refl
      (cond-elim (λ (y : FlatReply). y.next ≡ f) (eqb d' 0) (flat_reply 0 (little (flat_part b a f)) f) (flat_reply d' 0 f) (λ _. refl) (λ _. refl))
      (cond-elim (λ (y : Reply). Quiet z (Seen g h) y.next) (eqb (access 0) 0) (read_done a b z) (refused (access 0) z)
      (λ t. let r = accepted-read z (Seen g h) m.good a b (eqb-true (access 0) 0 t) in
      quiet_step z (Seen g h) (read_access a b z).next (record { good = r.good; kept = r.kept }))
      (λ _. refused-quiet))

  done-1 : Done 1
  unfolding step command_due accepted write_done flat_step flat_write writes
  done-1 =
      let e = same-due v in
      bool (eqb (access v) 0)
      (λ t. let t' : eqb (access_due (length f.sram) (length f.ext) a b v) 0 ≡ true = rw e t in
      let ok : (step (command 1 a b v) z).number ≡ 0 = rw (step, t) refl in
      let k = access-tells (sram_of z.rec) z.rec.extlen a b v (eqb-true (access v) 0 t) in let mo = k.more in
      rw (flat_step, t') (write-after z f h lost g m a b (little_bytes v a) (length-little_bytes v a) (one_command (command 1 a b v)) (step (command 1 a b v) z) (λ x. rw ok refl) (λ _. refl)
      (record { low = λ y. let l = k.low y in omega arith; high = λ y. let l = k.high y in omega arith })
      (λ F w. rw (step, t) (accepted-write z (Seen g h) m.good a b F v w (eqb-true (access v) 0 t)))))
      (λ t. let t' : eqb (access_due (length f.sram) (length f.ext) a b v) 0 ≡ false = rw e t in
      quiet-after z f h lost g m (one_command (command 1 a b v)) (step (command 1 a b v) z) (flat_step (command 1 a b v) f).next (rw (flat_step, t') refl)
      (λ x. refused-write (command 1 a b v) (step (command 1 a b v) z) (rw (step, t) t) x)
      (rw (step, t) refused-quiet))

  well : Well z
  well = good-well z (Seen g h) m.good

  dropping : (k : ℕ) → eqb k 1 ≡ false → drop_code k ≡ true → (flat_step (command k a b v) f).next ≡ f → Dropped z (step (command k a b v) z).next → Done k
  unfolding loses
  dropping k w t e d =
      let c = command k a b v in
      drop-after z f h lost g m (one_command c) (step c z) (flat_step c f).next e (no_write k a b v w (step c z)) (λ x n. rw t at n) d

  done-6 : Done 6
  unfolding flat_step
  done-6 = dropping 6 refl refl refl (dropped-6 z well a b v)

  done-8 : Done 8
  unfolding flat_step
  done-8 = dropping 8 refl refl refl (dropped-8 z well a b v)

  done-9 : Done 9
  unfolding flat_step
  done-9 = dropping 9 refl refl refl (dropped-9 z well a b v)

  done-10 : Done 10
  unfolding step command_due accepted command_state flat_step flat_change
  done-10 =
      let d = mode_due z.rec.l2len a in
      let e : mode_due f.l2len a ≡ d = rw m.sizes.l2len refl in
      bool (eqb d 0)
      (λ t. let t' : eqb (mode_due f.l2len a) 0 ≡ true = rw e t in
      rw (flat_step, t') (mode-after z f h lost g m a b v (step (command 10 a b v) z) (rw (step, t) refl) (rw (step, t) refl) (eqb-true d 0 t)))
      (λ t. let t' : eqb (mode_due f.l2len a) 0 ≡ false = rw e t in
      unseen 10 refl (rw (flat_step, t') refl) (rw (step, t) refused-quiet))

  done-other : (k : ℕ) → 13 ≤ k → Done k
  unfolding flat_step
  done-other k l =
      let e = other-code k a b v z l in
      unseen k (ne_eqb k 1 (omega arith)) (rw (flat_step, ne_eqb k 0 (omega arith), ne_eqb k 1 (omega arith), ne_eqb k 10 (omega arith)) refl)
      (rw e refused-quiet)

step_after : (c : Command) (z : State) (f : Flat) (h : ℕ → List ℕ) (lost : ℕ → Bool) (g : ℕ → ℕ) → Follows z f h lost g →
    After (one_command c) z (step c z) f (flat_step c f).next h lost g
unfolding flat_step
step_after c z f h lost g m =
    let a = c.first in let b = c.second in let v = c.value in
    let F = Seen g h in let q = m.good in
    codes (λ (k : ℕ). After (one_command (command k a b v)) z (step (command k a b v) z) f (flat_step (command k a b v) f).next h lost g)
    (done-0 z f h lost g m a b v)
    (done-1 z f h lost g m a b v)
    (unseen z f h lost g m a b v 2 refl refl (quiet-2 z F q a b v))
    (unseen z f h lost g m a b v 3 refl refl (quiet-3 z F q a b v))
    (unseen z f h lost g m a b v 4 refl refl (quiet-4 z F q a b v))
    (unseen z f h lost g m a b v 5 refl refl (quiet-5 z F q a b v))
    (done-6 z f h lost g m a b v)
    (unseen z f h lost g m a b v 7 refl refl (quiet-7 z F q a b v))
    (done-8 z f h lost g m a b v)
    (done-9 z f h lost g m a b v)
    (done-10 z f h lost g m a b v)
    (unseen z f h lost g m a b v 11 refl refl (quiet-11 z F q a b v))
    (unseen z f h lost g m a b v 12 refl refl (quiet-12 z F q a b v))
    (done-other z f h lost g m a b v)
    c.code

-- ---- non-aligned accesses
module _ (z : State) (f : Flat) (h : ℕ → List ℕ) (lost : ℕ → Bool) (g : ℕ → ℕ) (m : Follows z f h lost g) (n b : ℕ) where
  abbrev due : ℕ → ℕ
  due v = unaligned_due_in z n b v

  same-unaligned-due : (v : ℕ) → unaligned_due (length f.sram) (length f.ext) n b v ≡ due v
  same-unaligned-due v = rw (m.sizes.sram, m.sizes.ext) refl

  read-unaligned-after : After (read_unaligned n b) z (read_unaligned_step n b z) f (flat_read_unaligned n b f).next h lost g
  unfolding read_unaligned_step read_unaligned_done flat_read_unaligned writes
  read-unaligned-after =
      let d' = unaligned_due (length f.sram) (length f.ext) n b 0 in
      quiet-after z f h lost g m (read_unaligned n b) (read_unaligned_step n b z) (flat_read_unaligned n b f).next
      (cond-elim (λ (y : FlatReply). y.next ≡ f) (eqb d' 0) (flat_reply 0 (little (flat_part b n f)) f) (flat_reply d' 0 f) (λ _. refl) (λ _. refl))
      (λ _. refl)
      (cond-elim (λ (y : Reply). Quiet z (Seen g h) y.next) (eqb (due 0) 0) (read_unaligned_done n b z) (refused (due 0) z)
      (λ t. let r = accepted-read-up z (Seen g h) m.good n b (eqb-true (due 0) 0 t) in
      quiet_step z (Seen g h) (read_up n b z).next (record { good = r.good; kept = r.kept }))
      (λ _. quiet-refl z (Seen g h) m.good))

  write-unaligned-after : (v : ℕ) → After (write_unaligned n b v) z (write_unaligned_step n b v z) f (flat_write_unaligned n b v f).next h lost g
  unfolding write_unaligned_step write_unaligned_done flat_write_unaligned writes
  write-unaligned-after v =
      let d = due v in let e = same-unaligned-due v in let c = write_unaligned n b v in let x = m.good.tidy.sizes.l2_most in
      rw e (cond_both (λ (r : Reply) (y : FlatReply). After c z r f y.next h lost g) (eqb d 0) (write_unaligned_done n b v z) (refused d z)
      (flat_reply 0 0 (flat_put b (little_bytes v n) f)) (flat_reply d 0 f)
      (λ t. let t' = eqb-true d 0 t in
      write-after z f h lost g m n b (little_bytes v n) (length-little_bytes v n) c (write_unaligned_done n b v z) (λ _. refl) (λ _. refl)
      (due-fits (sram_of z.rec) z.rec.extlen n b v (layout_of z.rec) refl refl (omega arith) t')
      (λ F w. accepted-write-up z (Seen g h) F m.good n b v w t'))
      (λ t. quiet-after z f h lost g m c (refused d z) f refl (λ _. rw t refl) (quiet-refl z (Seen g h) m.good)))

-- ---- transfers, in ones below external memory: once the touched lines have gone home, no line has a byte of theirs
module _ (z : State) (f : Flat) (h : ℕ → List ℕ) (lost : ℕ → Bool) (g : ℕ → ℕ) (m : Follows z f h lost g) (b : ℕ) where
  transfer-in-after : (bs : List ℕ) → ltb b external_base ≡ true → After (transfer_in b bs) z (transfer_in_step b bs z) f (flat_transfer_in b bs f).next h lost g
  unfolding transfer_in_step flat_transfer_in writes
  transfer-in-after bs low =
      let n = length bs in let d = transfer_due_in z n b in let c = transfer_in b bs in let F = Seen g h in
      let e : transfer_due (length f.sram) (length f.ext) n b ≡ d = rw (m.sizes.sram, m.sizes.ext) refl in
      rw e (cond_both (λ (r : Reply) (y : FlatReply). After c z r f y.next h lost g) (eqb d 0) (carried_out (transferred_in b bs z)) (refused d z)
      (flat_reply 0 0 (flat_put b bs f)) (flat_reply d 0 f)
      (λ t. let o = eqb-true d 0 t in
      let free = sent-uncached z F m.good n b o (λ y. let y' = ltb-true b external_base low in absurd (omega arith)) in
      write-after z f h lost g m n b bs refl c (carried_out (transferred_in b bs z)) (λ _. refl) (λ _. refl) (transfer-fits z n b o)
      (λ F' w. transferred-in-good z F F' m.good b bs w o free))
      (λ t. quiet-after z f h lost g m c (refused d z) f refl (λ _. rw t refl) (quiet-refl z F m.good)))

  transfer-out-after : (o : List ℕ) → After (transfer_out b o) z (transfer_out_step b o z) f (flat_transfer_out b o f).next h lost g
  unfolding transfer_out_step flat_transfer_out writes
  transfer-out-after o =
      let n = length o in let d = transfer_due_in z n b in let F = Seen g h in let x = sent_home b n z in
      let d' = transfer_due (length f.sram) (length f.ext) n b in
      quiet-after z f h lost g m (transfer_out b o) (transfer_out_step b o z) (flat_transfer_out b o f).next
      (cond-elim (λ (y : FlatReply). y.next ≡ f) (eqb d' 0) (flat_handed_back 0 (flat_part b n f) f) (flat_handed_back d' o f) (λ _. refl) (λ _. refl))
      (λ _. refl)
      (cond-elim (λ (y : Reply). Quiet z F y.next) (eqb d 0) (handed_back 0 (transferred_out b n z) x) (handed_back d o z)
      (λ _. quiet_step z F x (sent-good z F m.good b n)) (λ _. quiet-refl z F m.good))

-- ---- the data side's part of a fetch (02, U4): flat memory stays as it was
fetch-after : (z : State) (f : Flat) (h : ℕ → List ℕ) (lost : ℕ → Bool) (g : ℕ → ℕ) → Follows z f h lost g → (b : ℕ) →
    After (fetch_behind b) z (fetch_behind_step b z) f (flat_fetch b f).next h lost g
unfolding fetch_behind_step fetch_behind_done flat_fetch writes
fetch-after z f h lost g m b =
    let d = fetch_due_in z b in let F = Seen g h in let d' = flat_fetch_due b f in
    quiet-after z f h lost g m (fetch_behind b) (fetch_behind_step b z) (flat_fetch b f).next
    (cond-elim (λ (y : FlatReply). y.next ≡ f) (eqb d' 0) _ _ (λ _. refl) (λ _. refl))
    (λ _. refl)
    (cond-elim (λ (y : Reply). Quiet z F y.next) (eqb d 0) (fetch_behind_done b z) (no_fetch d z)
    (λ t. let r = fetch-good z F m.good b (eqb-true d 0 t) in quiet_step z F (fetch_access b z).next (record { good = r.good; kept = r.kept }))
    (λ _. quiet-refl z F m.good))

-- a view changes nothing, a fresh start is in no list
pub call-after : (c : Call) (z : State) (f : Flat) (h : ℕ → List ℕ) (lost : ℕ → Bool) (g : ℕ → ℕ) → listed_call c ≡ true → Follows z f h lost g →
    After c z (called c z) f (flat_called c f).next h lost g
unfolding view_done writes
call-after fresh_start z f h lost g y m = false-true y
call-after (look b) z f h lost g y m =
    quiet-after z f h lost g m (look b) (view_done b z) f refl (λ _. refl) (quiet-refl z (Seen g h) m.good)
call-after (read_unaligned n b) z f h lost g y m =
    let s = read-unaligned-step n b z (good-well z (Seen g h) m.good) in rw s (read-unaligned-after z f h lost g m n b)
call-after (write_unaligned n b v) z f h lost g y m =
    let s = write-unaligned-step n b v z (good-well z (Seen g h) m.good) in rw s (write-unaligned-after z f h lost g m n b v)
call-after (transfer_in b bs) z f h lost g y m =
    let s = transfer-in-step b bs z (good-well z (Seen g h) m.good) in rw s (transfer-in-after z f h lost g m b bs y)
call-after (transfer_out b o) z f h lost g y m =
    let s = transfer-out-step b o z (good-well z (Seen g h) m.good) in rw s (transfer-out-after z f h lost g m b o)
call-after (fetch_behind b) z f h lost g y m =
    let s = fetch-step b z (good-well z (Seen g h) m.good) in rw s (fetch-after z f h lost g m b)
call-after (one_command c) z f h lost g y m =
    let s = call_step c z (good-well z (Seen g h) m.good) in rw s (step_after c z f h lost g m)

-- ---- one place of the list
abbrev ReadTells : Command → State → Type 0
ReadTells c z =
    (step c z).number ≡ 0 →
    (access_due (sram_of z.rec) z.rec.extlen c.first c.second 0 ≡ 0) × ((step c z).value ≡ little (read_access c.first c.second z).bytes)

read-0 : (n a v : ℕ) (z : State) → ReadTells (command 0 n a v) z
unfolding step command_due accepted read_done
read-0 n a v z =
    let d = access_due (sram_of z.rec) z.rec.extlen n a 0 in
    cond-elim (λ (y : Reply). y.number ≡ 0 → (d ≡ 0) × (y.value ≡ little (read_access n a z).bytes)) (eqb d 0) (read_done n a z) (refused d z)
    (λ t _. (eqb-true d 0 t, refl)) (λ t e. absurd (eqb-false d 0 t e))

read-tells : (c : Command) (z : State) → c.code ≡ 0 → ReadTells c z
read-tells c z t =
    subst (λ (k : ℕ). ReadTells (command k c.first c.second c.value) z) (sym t) (read-0 c.first c.second c.value z)

unaligned-tells : (n b : ℕ) (z : State) → Well z → (read_unaligned_call n b z).number ≡ 0 →
    (unaligned_due_in z n b 0 ≡ 0) × ((read_unaligned_call n b z).value ≡ little (read_up n b z).bytes)
unfolding read_unaligned_done
unaligned-tells n b z w e =
    let s = read-unaligned-step n b z w in
    let p = read-unaligned-done n b z (sym (ap (λ (r : Reply). r.number) s) ∙ e) in
    (p.0, ap (λ (r : Reply). r.value) (s ∙ p.1))

-- an address that is read is inside
pub reads-inside : (c : Call) (z : State) → Well z → (a : ℕ) → reads c (called c z) a ≡ true → Inside (layout_of z.rec) a
unfolding reads
reads-inside fresh_start z w a y = false-true y
reads-inside (look b) z w a y = false-true y
reads-inside (write_unaligned n b v) z w a y = false-true y
reads-inside (transfer_in b bs) z w a y = false-true y
reads-inside (transfer_out b o) z w a y = false-true y
reads-inside (fetch_behind b) z w a y = false-true y
reads-inside (read_unaligned n b) z w a y =
    let p = both_true (eqb (read_unaligned_call n b z).number 0) (within b n a) y in
    let i = both_true (leb b a) (ltb a (b + n)) p.1 in
    unaligned-inside z n b 0 (unaligned-tells n b z w (eqb-true (read_unaligned_call n b z).number 0 p.0)).0 a (leb-true b a i.0) (ltb-true a (b + n) i.1)
reads-inside (one_command c) z w a y =
    let s = call_step c z w in
    let p = both_true (eqb (call c z).number 0) (eqb c.code 0 && within c.second c.first a) y in
    let q = both_true (eqb c.code 0) (within c.second c.first a) p.1 in
    let i = both_true (leb c.second a) (ltb a (c.second + c.first)) q.1 in
    let n : (step c z).number ≡ 0 = sym (ap (λ (r : Reply). r.number) s) ∙ eqb-true (call c z).number 0 p.0 in
    due-inside z c.first c.second 0 (read-tells c z (eqb-true c.code 0 q.0) n).0 a (leb-true c.second a i.0)
    (ltb-true a (c.second + c.first) i.1)

pub holds_at : (c : Call) (z : State) (f : Flat) (h : ℕ → List ℕ) (lost : ℕ → Bool) (g : ℕ → ℕ) → listed_call c ≡ true → Follows z f h lost g →
    HoldsAt c z f (λ a b. one_of (h a) b) lost (changes c z (called c z))
holds_at c z f h lost g y m =
    let q = m.good in
    let w = good-well z (Seen g h) q in
    let right : (a : ℕ) → Inside (layout_of z.rec) a → (Seen g h).right a (byte_at z a) = byte-right z (Seen g h) q in
    let r = call-after c z f h lost g y m in
    record {
      bytes = λ k _ t n.
          let s = call_step k z w in
          let y' = read-tells k z t (sym (ap (λ (r : Reply). r.number) s) ∙ n) in
          ap (λ (r : Reply). r.value) s ∙ y'.1 ∙ ap little (read-bytes z g h q k.first k.second (read_access k.first k.second z)
          (accepted-read z (Seen g h) q k.first k.second y'.0) (due-inside z k.first k.second 0 y'.0));
      bytes_unaligned = λ n b e o.
          let p = unaligned-tells n b z w (sym (ap (λ (x : Call). (called x z).number) e) ∙ o) in
          ap (λ (x : Call). (called x z).value) e ∙ p.1
          ∙ ap little (read-bytes z g h q n b (read_up n b z) (accepted-read-up z (Seen g h) q n b p.0) (unaligned-inside z n b 0 p.0));
      sentence1 = λ a t. (right a (reads-inside c z w a t)).1;
      sentence2 = λ a t n. let i = reads-inside c z w a t in (right a i).0 ∙ m.agrees a i n ∙ sym (flat-byte z (Seen g h) q f m.sizes a i);
      sentence3 = λ a t.
          let k = r.sizes (unchanged c z (called c z) a t).2 in
          let q' = r.follows.good in
          let z' = (called c z).next in
          let g₁ = Seen r.g' (shows_after c (called c z) h) in
          byte-same z z' w (good-well z' g₁ q') k.0 k.1 a
          (λ i. (byte-right z' g₁ q' a (inside-same z' z a (sym k.0) (sym k.1) i)).0 ∙ r.keeps a t i ∙ sym (right a i).0);
    }

-- ---- along a list
along : (cs : List Call) (z : State) (f : Flat) (h : ℕ → List ℕ) (lost : ℕ → Bool) (g : ℕ → ℕ) → listed cs ≡ true → Follows z f h lost g →
    HoldsStronger cs z f h lost
unfolding listed
along [] z f h lost g y m = end
along (c ∷ cs) z f h lost g y m =
    let p = both_true (listed_call c) (listed cs) y in
    let r = call-after c z f h lost g p.0 m in
    next (holds_at c z f h lost g p.0 m)
    (along cs (called c z).next (flat_called c f).next (shows_after c (called c z) h) (lost_after c z (called c z) lost) r.g' p.1 r.follows)

-- ---- the fresh start
pub fresh-follows : (l : ℕ) (e : List ℕ) → legal_l2 l ≡ true → legal_external (length e) ≡ true →
    Follows (fresh_state l e) (fresh_flat l e) (λ a. memory_at (fresh_state l e) a ∷ []) (λ _. false) (memory_of (fresh_state l e))
unfolding fresh_state fresh_record fresh_flat
fresh-follows l e hl he =
    let z = fresh_state l e in
    let m = fresh-matches l e hl he in
    record {
      good = fresh-good z (Seen (memory_of z) (λ a. memory_at z a ∷ [])) refl refl refl refl m.good.tidy.sizes
          (λ a i. (refl, in_head (memory_of z a) (memory_at z a) [] (sym (memory-at z m.good.tidy a i))));
      sizes = record { l2len = m.l2len; sram = m.sram; ext = m.ext };
      agrees = λ _ _ _. refl;
    }

pub stronger : StrongerDroppedLines
stronger d m e h cs y =
    let p = fresh-accepted d m e h in let s = p.2 in
    rw s (along cs (fresh_state (length m) e) (fresh_flat (length m) e) (λ a. memory_at (fresh_state (length m) e) a ∷ []) (λ _. false)
    (memory_of (fresh_state (length m) e)) y (fresh-follows (length m) e p.0 p.1))
