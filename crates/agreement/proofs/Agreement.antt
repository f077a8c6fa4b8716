-- Demand 3 is met (`demand3`). Shown first of one command: where the chip is good by flat memory's bytes (`Matches`),
-- both give the same answer and match again.
-- Why: an accepted read, aligned or not, reads right bytes, so the same, and so does a transfer out; a write and a
-- transfer in change flat memory as they change what is right; a mode change likewise; the other commands are not seen.
-- After a global writeback no line is dirty, so that every place of external memory and of SRAM is right: the lists are
-- equal.
use Prim.Native.Nat.{ℕ, ◌+◌, ◌-◌, ◌≤◌, ◌<◌}
use mathlib.Core.Bool.{true, false, ◌&&◌}
use mathlib.Core.Path.{◌≡◌, refl, sym, ap, ◌∙◌, subst}
use mathlib.Core.List.{List, [], ◌∷◌, ◌++◌}
use native.Mathlib.Omega.{arith}
use lib.ListN.{length, get_or, length-replicate}
use lib.Seq.{ext_get_or}
use lib.Dec.{ltb, eqb}
use borrow.Author.Tests.{eqb-true, ne_eqb, lt-leb}
use Rattle.model.specs.Bytes.{part, little, little_bytes, zero_from}
use Rattle.model.specs.Memories.{l1d_length, external_base, legal_l2, legal_external, cache_size, is_mode, sram_length}
use Rattle.model.specs.Records.{State, state, sram_of, l2_line_at, fresh_record, fresh_state}
use Rattle.model.specs.Access.{read_access, write_access}
use Rattle.model.specs.Unaligned.{read_up, write_up, unaligned_due}
use Rattle.model.specs.Fetches.{fetch_access}
use Rattle.model.specs.Transfers.{sent_home, transferred_in, transferred_out, transfer_due}
use Rattle.model.specs.Modes.{smaller, flush_l2, new_mode, change_mode}
use Rattle.model.specs.Commands.{l2_writeback_all, l2_writeback_invalidate_all}
use Rattle.model.specs.Flat.{Flat, flat, fresh_flat, flat_part, flat_put, flat_mode, FlatReply, flat_reply, flat_read, flat_write, flat_change, flat_step, flat_due, flat_read_unaligned, flat_write_unaligned, flat_transfer_in, flat_handed_back, flat_transfer_out, flat_fetch_due, flat_fetch, flat_called, flat_after}
use Rattle.model.specs.Refusals.{access_due, mode_due}
use Rattle.model.specs.Trace.{command}
use Rattle.model.specs.Calls.{Reply, refused, carried_out, fresh_ok, fresh_call, command_due, read_done, write_done, command_state, accepted, step, call, view_done, transfer_due_in, handed_back, transfer_in_step, transfer_in_call, transfer_out_step, transfer_out_call, unaligned_due_in, read_unaligned_done, write_unaligned_done, read_unaligned_step, write_unaligned_step, read_unaligned_call, write_unaligned_call, Call, one_command, fresh_start, look, read_unaligned, write_unaligned, transfer_in, transfer_out, fetch_behind, called, after, commands, fetch_due_in, fetch_behind_done, no_fetch, fetch_behind_step, fetch_behind_call}
use Rattle.agreement.specs.Covered.{remembered, joined}
use Rattle.agreement.specs.Demand.{listed_code, listed_call, listed, compared, global, Settled, AgreesAt, Agree, Demand3, CommandsDemand3, end, next}
use Rattle.model.specs.Laws.{bool, false-true, both_true, cond-elim, cond_both, length-little_bytes, length_part, part_at, call-told}
use Rattle.model.specs.declared.Command.{Command}
use Rattle.agreement.proofs.Level.{Valid}
use Rattle.agreement.proofs.Invariant.{Allowed, seen_only, Layout, Inside}
use Rattle.agreement.proofs.Memory.{memory_byte, memory-low, memory-high, low_stored, high_stored, low-length, high-length, Fits, read_length, read_at, Written, written_same, wrote-memory}
use Rattle.agreement.proofs.Good.{layout_of, l1d_level, l2_level, Good, good-well}
use Rattle.agreement.proofs.Fetch.{AccessFits}
use Rattle.agreement.proofs.ReadWrite.{Step, Uncached}
use Rattle.agreement.proofs.Sweeps.{AllOut, l2_writeback_all-good, l2_writeback_invalidate_all-good, flush-good}
use Rattle.agreement.proofs.Changes.{zero-length, zero-below, zero-above, smaller-bound, fresh-l1d-empty, fresh-l2-empty, fresh-good, new_mode-good}
use Rattle.agreement.proofs.Due.{access-tells, accepted-read, accepted-write, mode-tells}
use Rattle.agreement.proofs.Steps.{codes, Quiet, quiet_step, quiet-2, quiet-3, quiet-4, quiet-5, quiet-7, quiet-11, quiet-12}
use Rattle.agreement.proofs.Tested.{call_step}
use Rattle.agreement.proofs.Unaligned.{due-fits, accepted-read-up, accepted-write-up, read-unaligned-step, write-unaligned-step}
use Rattle.agreement.proofs.Fetches.{fetch-good, fetch-step}
use Rattle.agreement.proofs.Transfers.{transfer-fits, sent-good, sent-uncached, transferred-in-good, transferred-out-good, transfer-in-step, transfer-out-step}
use Rattle.agreement.proofs.Stays.{fresh-sizes, fresh-well}
use Rattle.agreement.proofs.Uncached.{Reach, Reaches, joined-reaches}
use Rattle.agreement.proofs.Flushes.{swept_l1d, change-swept}

-- ---- chip and flat memory match: every byte that counts is flat memory's, and the sizes are the same
abbrev pub flat_byte : Flat → ℕ → ℕ
flat_byte f a = memory_byte f.sram f.ext a

abbrev pub Is : Flat → Allowed
Is f = seen_only (λ a c. c ≡ flat_byte f a)

pub record Matches (z : State) (f : Flat) : Type 0 where
  pub good : Good z (Is f)
  pub l2len : f.l2len ≡ z.rec.l2len
  pub sram : length f.sram ≡ sram_of z.rec
  pub ext : length f.ext ≡ z.rec.extlen

matches-quiet : (z : State) (f : Flat) → Matches z f → (z' : State) → Quiet z (Is f) z' → Matches z' f
matches-quiet z f m z' q =
    record {
      good = q.good;
      l2len = m.l2len ∙ sym q.l2len;
      sram = m.sram ∙ sym (sram-same q.l2len q.mode);
      ext = m.ext ∙ sym q.extlen;
    }
  where
    sram-same : z'.rec.l2len ≡ z.rec.l2len → z'.rec.mode ≡ z.rec.mode → sram_of z'.rec ≡ sram_of z.rec
    sram-same a b = rw (a, b) refl

-- ---- the same bytes at an address, and bytes put there
pub flat_put-state : (a : ℕ) (bs : List ℕ) (f : Flat) → flat_put a bs f ≡ flat f.l2len (low_stored f.sram a bs) (high_stored f.ext a bs)
unfolding flat_put low_stored high_stored
flat_put-state a bs f = bool (ltb a external_base) (λ t. rw t refl) (λ t. rw t refl)

module _ (z : State) (f : Flat) (m : Matches z f) (n a : ℕ) where
  pub flat-fits : AccessFits (layout_of z.rec) a n → Fits f.sram f.ext a n
  flat-fits k =
      let s = m.sram in let e = m.ext in
      record { low = λ h. let g = k.low h in omega arith; high = λ h. let g = k.high h in omega arith }

  pub access-fits : (v : ℕ) → access_due (sram_of z.rec) z.rec.extlen n a v ≡ 0 → AccessFits (layout_of z.rec) a n
  access-fits v d =
      let k = access-tells (sram_of z.rec) z.rec.extlen n a v d in let mo = k.more in
      record { low = λ h. let g = k.low h in omega arith; high = λ h. let g = k.high h in omega arith }

  pub unaligned-fits : (v : ℕ) → unaligned_due_in z n a v ≡ 0 → AccessFits (layout_of z.rec) a n
  unaligned-fits v d =
      let x = m.good.tidy.sizes.l2_most in
      due-fits (sram_of z.rec) z.rec.extlen n a v (layout_of z.rec) refl refl (omega arith) d

  pub sram-below : length f.sram ≤ external_base
  sram-below = let s = m.sram in let x = m.good.tidy.sizes.l2_most in omega arith

  same_bytes : AccessFits (layout_of z.rec) a n → (bs : List ℕ) → length bs ≡ n → ((j : ℕ) → j < n → get_or bs j 0 ≡ flat_byte f (a + j)) →
      bs ≡ flat_part a n f
  unfolding flat_part
  same_bytes k bs long right =
      let g = flat-fits k in
      ext_get_or 0 bs (flat_part a n f) (long ∙ sym (read_length f.sram f.ext a n g))
      (λ j h. let l = long in let k : j < n = omega arith in right j k ∙ sym (read_at f.sram f.ext a n g sram-below j k))

  put-matches : (bs : List ℕ) → length bs ≡ n → AccessFits (layout_of z.rec) a n → (z' : State) →
      ((F' : Allowed) → Written (Is f) F' a bs → Step z F' z') → Matches z' (flat_put a bs f)
  put-matches bs long k z' done =
      let f' = flat f.l2len (low_stored f.sram a bs) (high_stored f.ext a bs) in
      let g : Fits f.sram f.ext a (length bs) = rw long (flat-fits k) in
      let w = done (Is f') (written_same (flat_byte f) (flat_byte f') a bs (wrote-memory f.sram f.ext bs a g sram-below)) in
      let q = quiet_step z (Is f') z' w in
      let s : sram_of z'.rec ≡ sram_of z.rec = ap (λ (x : Layout). x.sram) w.kept.layout in
      rw (flat_put-state a bs f) (record {
        good = w.good;
        l2len = m.l2len ∙ sym q.l2len;
        sram = low-length f.sram bs a ∙ m.sram ∙ sym s;
        ext = high-length f.ext bs a ∙ m.ext ∙ sym q.extlen;
      })

-- ---- a mode change, when everything has gone out
mode-matches : (z : State) (f : Flat) → Matches z f → (k : ℕ) → is_mode k ≡ true → cache_size k ≤ z.rec.l2len →
    ((s w : ℕ) → Valid (l1d_level z) s w → ⊥) → ((t v : ℕ) → Valid (l2_level z) t v → (l2_line_at z.rec t v).dirty ≡ false) →
    Matches (new_mode k z) (flat_mode k f)
unfolding new_mode flat_mode
mode-matches z f m k ok c none clean =
    let n = sram_length f.l2len k in
    let y = smaller (length f.sram) n in
    let r = m.l2len in
    let e : smaller (sram_of z.rec) (sram_length z.rec.l2len k) ≡ y = rw (m.sram, m.l2len) refl in
    let yb = smaller-bound (length f.sram) n in let y₀ = yb.0 in let y₁ = yb.1 in
    let lo = zero_from y f.sram n in
    record {
      good = new_mode-good z (Is f) (Is (flat_mode k f)) m.good k ok c none clean
          (λ a b h c i. i ∙ sym (memory-low lo f.ext a b ∙ zero-below y f.sram n y₀ y₁ a (rw e at h) ∙ sym (memory-low f.sram f.ext a b)))
          (λ a b h. sym (memory-low lo f.ext a b ∙ zero-above y f.sram n y₀ y₁ a (rw e at h)))
          (λ a b c i. i ∙ sym (memory-high lo f.ext a b ∙ sym (memory-high f.sram f.ext a b)));
      l2len = m.l2len;
      sram = zero-length y f.sram n y₀ y₁ ∙ rw r refl;
      ext = m.ext;
    }

-- ---- one command: the same answer where it is compared, and both match again
pub record Answered (c : Command) (r : Reply) (g : FlatReply) : Type 0 where
  pub number : compared (one_command c) ≡ true → r.number ≡ g.number
  pub value : compared (one_command c) ≡ true → r.value ≡ g.value
  pub matches : Matches r.next g.next

module _ (z : State) (f : Flat) (m : Matches z f) (a b v : ℕ) where
  same-due : (n : ℕ) → access_due (length f.sram) (length f.ext) a b n ≡ access_due (sram_of z.rec) z.rec.extlen a b n
  same-due n = rw (m.sram, m.ext) refl

  read-answered : Answered (command 0 a b v) (step (command 0 a b v) z) (flat_step (command 0 a b v) f)
  unfolding step command_due accepted read_done flat_step flat_read
  read-answered =
      let d = access_due (sram_of z.rec) z.rec.extlen a b 0 in
      let e = same-due 0 in
      rw e (bool (eqb d 0)
      (λ t. let r = accepted-read z (Is f) m.good a b (eqb-true d 0 t) in
      let q = quiet_step z (Is f) (read_access a b z).next (record { good = r.good; kept = r.kept }) in
      rw t (record {
        number = λ _. refl;
        value = λ _. ap little (same_bytes z f m a b (access-fits z f m a b 0 (eqb-true d 0 t)) (read_access a b z).bytes r.long r.right);
        matches = matches-quiet z f m (read_access a b z).next q;
      }))
      (λ t. rw t (record { number = λ _. refl; value = λ _. refl; matches = m })))

  write-answered : Answered (command 1 a b v) (step (command 1 a b v) z) (flat_step (command 1 a b v) f)
  unfolding step command_due accepted write_done flat_step flat_write
  write-answered =
      let d = access_due (sram_of z.rec) z.rec.extlen a b v in
      let e = same-due v in
      rw e (bool (eqb d 0)
      (λ t. let p = put-matches z f m a b (little_bytes v a) (length-little_bytes v a) (access-fits z f m a b v (eqb-true d 0 t)) (write_access b (little_bytes v a) z).next
      (λ F' wr. accepted-write z (Is f) m.good a b F' v wr (eqb-true d 0 t)) in
      rw t (record { number = λ _. refl; value = λ _. refl; matches = p }))
      (λ t. rw t (record { number = λ _. refl; value = λ _. refl; matches = m })))

  mode-answered : Answered (command 10 a b v) (step (command 10 a b v) z) (flat_step (command 10 a b v) f)
  unfolding step command_due accepted command_state flat_step flat_change change_mode new_mode
  mode-answered =
      let d = mode_due z.rec.l2len a in
      let e : mode_due f.l2len a ≡ d = rw m.l2len refl in
      rw e (bool (eqb d 0)
      (λ t. let c = mode-tells z.rec.l2len a (eqb-true d 0 t) in
      let o = flush-good z (Is f) m.good in
      let z₁ = flush_l2 (swept_l1d z) in
      let m₁ = matches-quiet z f m z₁ (quiet_step z (Is f) z₁ o.step) in
      let s₁ : Matches (new_mode a z₁) (flat_mode a f) = mode-matches z₁ f m₁ a c.0 (rw o.step.kept.l2len c.1) o.l1d_none o.l2_clean in
      let s : Matches (change_mode a z) (flat_mode a f) = subst (λ (x : State). Matches x (flat_mode a f)) (sym (change-swept a z)) s₁ in
      rw t (record { number = λ _. refl; value = λ _. refl; matches = s }))
      (λ t. rw t (record { number = λ _. refl; value = λ _. refl; matches = m })))

  quiet-answered : (k : ℕ) → compared (one_command (command k a b v)) ≡ false → flat_step (command k a b v) f ≡ flat_reply 0 0 f →
      Quiet z (Is f) (step (command k a b v) z).next →
      Answered (command k a b v) (step (command k a b v) z) (flat_step (command k a b v) f)
  quiet-answered k unseen e q =
      rw e (record {
        number = λ y. false-true (sym unseen ∙ y);
        value = λ y. false-true (sym unseen ∙ y);
        matches = matches-quiet z f m (step (command k a b v) z).next q;
      })

pub listed_below : (k : ℕ) → 13 ≤ k → listed_code k ≡ false
listed_below k h = rw (lt-leb k 5 (omega arith), ne_eqb k 7 (omega arith), ne_eqb k 10 (omega arith), ne_eqb k 11 (omega arith), ne_eqb k 12 (omega arith)) refl

pub step-answered : (c : Command) (z : State) (f : Flat) → Matches z f → listed_code c.code ≡ true →
    Answered c (step c z) (flat_step c f)
unfolding flat_step
step-answered c z f m =
    let a = c.first in let b = c.second in let v = c.value in
    codes (λ (k : ℕ). listed_code k ≡ true → Answered (command k a b v) (step (command k a b v) z) (flat_step (command k a b v) f))
    (λ _. read-answered z f m a b v)
    (λ _. write-answered z f m a b v)
    (λ _. quiet-answered z f m a b v 2 refl refl (quiet-2 z (Is f) m.good a b v))
    (λ _. quiet-answered z f m a b v 3 refl refl (quiet-3 z (Is f) m.good a b v))
    (λ _. quiet-answered z f m a b v 4 refl refl (quiet-4 z (Is f) m.good a b v))
    (λ _. quiet-answered z f m a b v 5 refl refl (quiet-5 z (Is f) m.good a b v))
    (λ y. false-true y)
    (λ _. quiet-answered z f m a b v 7 refl refl (quiet-7 z (Is f) m.good a b v))
    (λ y. false-true y)
    (λ y. false-true y)
    (λ _. mode-answered z f m a b v)
    (λ _. quiet-answered z f m a b v 11 refl refl (quiet-11 z (Is f) m.good a b v))
    (λ _. quiet-answered z f m a b v 12 refl refl (quiet-12 z (Is f) m.good a b v))
    (λ k h y. false-true (sym (listed_below k h) ∙ y))
    c.code

-- ---- a global writeback settles external memory and SRAM: where no line is dirty, every byte of memory is right
module _ (z z' : State) (f : Flat) (m : Matches z f) (u : AllOut z (Is f) z') where
  settled-matches : Matches z' f
  settled-matches = matches-quiet z f m z' (quiet_step z (Is f) z' u.step)

  right-byte : (a : ℕ) → Inside (layout_of z'.rec) a → memory_byte z'.l2 z'.ext a ≡ flat_byte f a
  right-byte a h =
      u.step.good.inv.memory_right a h (λ s w i _ _. absurd (u.l1d_none s w i)) (λ t v i d _. false-true (sym (u.l2_clean t v i) ∙ d))

  settles : Settled z' f
  settles =
      let s = settled-matches in
      let le = s.good.tidy.sizes.ext_length in let hi = s.ext in
      let n = sram_of z'.rec in let lo = s.sram in
      let ll = s.good.tidy.sizes.l2_length in let most = s.good.tidy.sizes.l2_most in
      let long : length (part z'.l2 0 n) ≡ n = length_part z'.l2 0 n (omega arith) in
      record {
        external = ext_get_or 0 z'.ext f.ext (le ∙ sym hi)
            (λ i k. let j : external_base + i - external_base ≡ i = omega arith in
            let above : external_base ≤ external_base + i = omega arith in
            sym (rw j at (memory-high z'.l2 z'.ext (external_base + i) above))
            ∙ right-byte (external_base + i) (record { low = λ k'. absurd (omega arith); high = λ k'. omega arith })
            ∙ (rw j at (memory-high f.sram f.ext (external_base + i) above)));
        sram = ext_get_or 0 (part z'.l2 0 n) f.sram (long ∙ sym lo)
            (λ i k. let h : i < n = omega arith in let i₀ : 0 + i ≡ i = omega arith in
            let below : i < external_base = omega arith in
            (rw i₀ at (part_at z'.l2 0 n i (omega arith) h))
            ∙ sym (memory-low z'.l2 z'.ext i below)
            ∙ right-byte i (record { low = λ k'. omega arith; high = λ k'. absurd (omega arith) })
            ∙ memory-low f.sram f.ext i below);
        l1d_clean = λ s w i. absurd (u.l1d_none s w i);
        l2_clean = u.l2_clean;
      }

global-settles : (c : Command) (z : State) (f : Flat) → Matches z f → global (one_command c) ≡ true →
    Settled (step c z).next (flat_step c f).next
unfolding step command_due accepted command_state flat_step
global-settles c z f m =
    let a = c.first in let b = c.second in let v = c.value in
    let not-global : (k : ℕ) → global (one_command (command k a b v)) ≡ false → global (one_command (command k a b v)) ≡ true → Settled (step (command k a b v) z).next (flat_step (command k a b v) f).next =
    λ k e y. false-true (sym e ∙ y) in
    codes (λ (k : ℕ). global (one_command (command k a b v)) ≡ true → Settled (step (command k a b v) z).next (flat_step (command k a b v) f).next)
    (not-global 0 refl) (not-global 1 refl)
    (λ _. settles z (l2_writeback_all z) f m (l2_writeback_all-good z (Is f) m.good))
    (λ _. settles z (l2_writeback_invalidate_all z) f m (l2_writeback_invalidate_all-good z (Is f) m.good))
    (not-global 4 refl) (not-global 5 refl) (not-global 6 refl) (not-global 7 refl) (not-global 8 refl) (not-global 9 refl) (not-global 10 refl)
    (not-global 11 refl) (not-global 12 refl)
    (λ k h. not-global k (rw (ne_eqb k 2 (omega arith), ne_eqb k 3 (omega arith)) refl))
    c.code

-- ---- a non-aligned access, and a transfer: the same answer, and both match again
record SameAnswer (r : Reply) (g : FlatReply) : Type 0 where
  number : r.number ≡ g.number
  value : r.value ≡ g.value
  bytes : r.bytes ≡ g.bytes
  matches : Matches r.next g.next

module _ (z : State) (f : Flat) (m : Matches z f) (n a : ℕ) where
  same-unaligned-due : (v : ℕ) → unaligned_due (length f.sram) (length f.ext) n a v ≡ unaligned_due_in z n a v
  same-unaligned-due v = rw (m.sram, m.ext) refl

  read-unaligned-answered : SameAnswer (read_unaligned_call n a z) (flat_read_unaligned n a f)
  unfolding read_unaligned_step read_unaligned_done flat_read_unaligned
  read-unaligned-answered =
      let d = unaligned_due_in z n a 0 in let e = same-unaligned-due 0 in
      let s = read-unaligned-step n a z (good-well z (Is f) m.good) in
      rw (s, e) (cond_both SameAnswer (eqb d 0) (read_unaligned_done n a z) (refused d z) (flat_reply 0 (little (flat_part a n f)) f) (flat_reply d 0 f)
      (λ t. let r = accepted-read-up z (Is f) m.good n a (eqb-true d 0 t) in
      record {
        number = refl;
        value = ap little (same_bytes z f m n a (unaligned-fits z f m n a 0 (eqb-true d 0 t)) (read_up n a z).bytes r.long r.right);
        bytes = refl;
        matches = matches-quiet z f m (read_up n a z).next (quiet_step z (Is f) (read_up n a z).next (record { good = r.good; kept = r.kept }));
      })
      (λ _. record { number = refl; value = refl; bytes = refl; matches = m }))

  write-unaligned-answered : (v : ℕ) → SameAnswer (write_unaligned_call n a v z) (flat_write_unaligned n a v f)
  unfolding write_unaligned_step write_unaligned_done flat_write_unaligned
  write-unaligned-answered v =
      let d = unaligned_due_in z n a v in let e = same-unaligned-due v in
      let s = write-unaligned-step n a v z (good-well z (Is f) m.good) in
      rw (s, e) (cond_both SameAnswer (eqb d 0) (write_unaligned_done n a v z) (refused d z) (flat_reply 0 0 (flat_put a (little_bytes v n) f)) (flat_reply d 0 f)
      (λ t. record {
        number = refl;
        value = refl;
        bytes = refl;
        matches = put-matches z f m n a (little_bytes v n) (length-little_bytes v n) (unaligned-fits z f m n a v (eqb-true d 0 t)) (write_up n a (little_bytes v n) z).next
            (λ F' wr. accepted-write-up z (Is f) F' m.good n a v wr (eqb-true d 0 t));
      })
      (λ _. record { number = refl; value = refl; bytes = refl; matches = m }))

-- a transfer that reaches memory which no line has
module _ (z : State) (f : Flat) (m : Matches z f) (a : ℕ) where
  same-transfer-due : (n : ℕ) → transfer_due (length f.sram) (length f.ext) n a ≡ transfer_due_in z n a
  same-transfer-due n = rw (m.sram, m.ext) refl

  transfer-in-answered : (bs : List ℕ) → Reach (transfer_in a bs) z → SameAnswer (transfer_in_call a bs z) (flat_transfer_in a bs f)
  unfolding transfer_in_step flat_transfer_in
  transfer-in-answered bs reach =
      let n = length bs in let d = transfer_due_in z n a in let e = same-transfer-due n in
      let s = transfer-in-step a bs z (good-well z (Is f) m.good) in
      let r : (transfer_in_step a bs z).number ≡ 0 → external_base ≤ a → Uncached z a n = rw s at reach in
      rw (s, e) (cond_both SameAnswer (eqb d 0) (carried_out (transferred_in a bs z)) (refused d z) (flat_reply 0 0 (flat_put a bs f)) (flat_reply d 0 f)
      (λ t. let o = eqb-true d 0 t in let free = sent-uncached z (Is f) m.good n a o (rw t at r refl) in
      record {
        number = refl;
        value = refl;
        bytes = refl;
        matches = put-matches z f m n a bs refl (transfer-fits z n a o) (transferred_in a bs z)
            (λ F' wr. transferred-in-good z (Is f) F' m.good a bs wr o free);
      })
      (λ _. record { number = refl; value = refl; bytes = refl; matches = m }))

  transfer-out-answered : (o : List ℕ) → Reach (transfer_out a o) z → SameAnswer (transfer_out_call a o z) (flat_transfer_out a o f)
  unfolding transfer_out_step flat_transfer_out
  transfer-out-answered o reach =
      let n = length o in let d = transfer_due_in z n a in let e = same-transfer-due n in
      let s = transfer-out-step a o z (good-well z (Is f) m.good) in
      let r : (transfer_out_step a o z).number ≡ 0 → external_base ≤ a → Uncached z a n = rw s at reach in
      let x = sent_home a n z in
      rw (s, e) (cond_both SameAnswer (eqb d 0) (handed_back 0 (transferred_out a n z) x) (handed_back d o z)
      (flat_handed_back 0 (flat_part a n f) f) (flat_handed_back d o f)
      (λ t. let y = eqb-true d 0 t in let free = sent-uncached z (Is f) m.good n a y (rw t at r refl) in
      let g = transferred-out-good z (Is f) m.good n a y free in
      record {
        number = refl;
        value = refl;
        bytes = same_bytes z f m n a (transfer-fits z n a y) (transferred_out a n z) g.long g.right;
        matches = matches-quiet z f m x (quiet_step z (Is f) x (sent-good z (Is f) m.good a n));
      })
      (λ _. record { number = refl; value = refl; bytes = refl; matches = m }))

-- a fetch leaves flat memory as it was
fetch-matches : (z : State) (f : Flat) → Matches z f → (a : ℕ) → Matches (fetch_behind_call a z).next (flat_fetch a f).next
unfolding fetch_behind_step fetch_behind_done flat_fetch
fetch-matches z f m a =
    let d = fetch_due_in z a in let k = flat_fetch_due a f in
    let e : (flat_fetch a f).next ≡ f = cond-elim (λ (r : FlatReply). r.next ≡ f) (eqb k 0) _ _ (λ _. refl) (λ _. refl) in
    rw (fetch-step a z (good-well z (Is f) m.good), e)
    (cond-elim (λ (r : Reply). Matches r.next f) (eqb d 0) (fetch_behind_done a z) (no_fetch d z)
    (λ t. let r = fetch-good z (Is f) m.good a (eqb-true d 0 t) in
    matches-quiet z f m (fetch_access a z).next (quiet_step z (Is f) (fetch_access a z).next (record { good = r.good; kept = r.kept }))) (λ _. m))

-- ---- one call: a view is not compared and changes nothing, a fresh start is not listed
answer-agrees : (c : Call) (z : State) (f : Flat) → global c ≡ false → SameAnswer (called c z) (flat_called c f) → AgreesAt c z f
answer-agrees c z f n r = record { number = λ _. r.number; value = λ _. r.value; bytes = λ _. r.bytes; settled = λ g. false-true (sym n ∙ g) }

-- a command hands back no bytes
no_bytes : (c : Command) (z : State) (f : Flat) → (call c z).bytes ≡ (flat_step c f).bytes
unfolding flat_step flat_read flat_write flat_change
no_bytes c z f =
    let None : FlatReply → Type 0 = λ r. [] ≡ r.bytes in
    ap (λ (r : Reply). r.bytes) (sym (call-told c z)) ∙
    cond-elim None (eqb c.code 0) (flat_read c.first c.second f) _ (λ _. cond-elim None (eqb (flat_due c.first c.second 0 f) 0) _ _ (λ _. refl) (λ _. refl))
    (λ _. cond-elim None (eqb c.code 1) (flat_write c.first c.second c.value f) _
    (λ _. cond-elim None (eqb (flat_due c.first c.second c.value f) 0) _ _ (λ _. refl) (λ _. refl))
    (λ _. cond-elim None (eqb c.code 10) (flat_change c.first f) (flat_reply 0 0 f)
    (λ _. cond-elim None (eqb (mode_due f.l2len c.first) 0) _ _ (λ _. refl) (λ _. refl)) (λ _. refl)))

pub call-agrees : (c : Call) (z : State) (f : Flat) → Matches z f → listed_call c ≡ true → Reach c z → AgreesAt c z f
call-agrees fresh_start z f m y _ = false-true y
call-agrees (look a) z f m y _ = record { number = λ n. false-true n; value = λ n. false-true n; bytes = λ n. false-true n; settled = λ n. false-true n }
call-agrees (read_unaligned n a) z f m y _ = answer-agrees (read_unaligned n a) z f refl (read-unaligned-answered z f m n a)
call-agrees (write_unaligned n a v) z f m y _ = answer-agrees (write_unaligned n a v) z f refl (write-unaligned-answered z f m n a v)
call-agrees (transfer_in a bs) z f m y r = answer-agrees (transfer_in a bs) z f refl (transfer-in-answered z f m a bs r)
call-agrees (transfer_out a o) z f m y r = answer-agrees (transfer_out a o) z f refl (transfer-out-answered z f m a o r)
call-agrees (fetch_behind a) z f m y _ = record { number = λ n. false-true n; value = λ n. false-true n; bytes = λ n. false-true n; settled = λ n. false-true n }
call-agrees (one_command c) z f m y _ =
    let s = call_step c z (good-well z (Is f) m.good) in
    let r = step-answered c z f m y in
    record {
      number = λ k. rw s (r.number k);
      value = λ k. rw s (r.value k);
      bytes = λ _. no_bytes c z f;
      settled = λ k _. rw s (global-settles c z f m k);
    }

pub call-matches : (c : Call) (z : State) (f : Flat) → Matches z f → listed_call c ≡ true → Reach c z → Matches (called c z).next (flat_called c f).next
unfolding view_done
call-matches fresh_start z f m y _ = false-true y
call-matches (look a) z f m y _ = m
call-matches (read_unaligned n a) z f m y _ = (read-unaligned-answered z f m n a).matches
call-matches (write_unaligned n a v) z f m y _ = (write-unaligned-answered z f m n a v).matches
call-matches (transfer_in a bs) z f m y r = (transfer-in-answered z f m a bs r).matches
call-matches (transfer_out a o) z f m y r = (transfer-out-answered z f m a o r).matches
call-matches (fetch_behind a) z f m y _ = fetch-matches z f m a
call-matches (one_command c) z f m y _ = let s = call_step c z (good-well z (Is f) m.good) in rw s (step-answered c z f m y).matches

-- ---- along a list, each of whose transfers reaches memory that no line has
pub agree : (cs : List Call) (z : State) (f : Flat) → Matches z f → listed cs ≡ true → Reaches cs z → Agree cs z f
unfolding listed
agree [] z f m y r = end
agree (c ∷ cs) z f m y r =
    let p = both_true (listed_call c) (listed cs) y in
    next (call-agrees c z f m p.0 r.0)
    (agree cs (called c z).next (flat_called c f).next (call-matches c z f m p.0 r.0) p.1 r.1)

-- a list of commands has no transfer
pub commands-reach : (cs : List Command) (z : State) → Reaches (commands cs) z
commands-reach [] z = tt
commands-reach (c ∷ cs) z = (tt, commands-reach cs (call c z).next)

pub after-matches : (cs : List Command) (z : State) (f : Flat) → Matches z f → listed (commands cs) ≡ true → Matches (after (commands cs) z) (flat_after (commands cs) f)
unfolding listed after flat_after
after-matches [] z f m y = m
after-matches (c ∷ cs) z f m y =
    let p = both_true (listed_code c.code) (listed (commands cs)) y in
    after-matches cs (call c z).next (flat_step c f).next (call-matches (one_command c) z f m p.0 tt) p.1

-- a list that ends with a global writeback leaves external memory and SRAM settled
pub ends-settled : (cs : List Command) (c : Command) (z : State) (f : Flat) → Matches z f → listed (commands cs ++ (one_command c ∷ [])) ≡ true →
    global (one_command c) ≡ true → Settled (after (commands cs ++ (one_command c ∷ [])) z) (flat_after (commands cs ++ (one_command c ∷ [])) f)
unfolding listed after flat_after
ends-settled [] c z f m y g =
    let s = call_step c z (good-well z (Is f) m.good) in
    subst (λ (r : Reply). Settled r.next (flat_step c f).next) (sym s) (global-settles c z f m g)
ends-settled (d ∷ cs) c z f m y g =
    let p = both_true (listed_code d.code) (listed (commands cs ++ (one_command c ∷ []))) y in
    ends-settled cs c (call d z).next (flat_step d f).next (call-matches (one_command d) z f m p.0 tt) p.1 g

-- ---- the fresh start
pub fresh-matches : (l : ℕ) (e : List ℕ) → legal_l2 l ≡ true → legal_external (length e) ≡ true → Matches (fresh_state l e) (fresh_flat l e)
unfolding fresh_state fresh_record fresh_flat cache_size is_mode
fresh-matches l e hl he =
    let n = length-replicate {A = ℕ} l 0 in
    record {
      good = fresh-good (fresh_state l e) (Is (fresh_flat l e)) refl refl refl refl (fresh-sizes l e hl he) (λ a _. refl);
      l2len = refl;
      sram = omega arith;
      ext = refl;
    }

-- ---- an accepted fresh start gives the fresh state, whatever bytes L1D and L2 were lent with
pub fresh-accepted : (d m e : List ℕ) → (fresh_call d m e).number ≡ 0 →
    (legal_l2 (length m) ≡ true) × (legal_external (length e) ≡ true) × ((fresh_call d m e).next ≡ fresh_state (length m) e)
unfolding fresh_call fresh_ok
fresh-accepted d m e =
    let ok = fresh_ok d m e in
    cond-elim (λ (r : Reply). r.number ≡ 0 → (legal_l2 (length m) ≡ true) × (legal_external (length e) ≡ true) × (r.next ≡ fresh_state (length m) e))
    ok
    (carried_out (fresh_state (length m) e)) (refused 1 (state (fresh_record 32768 128) d m e))
    (λ t _. let p = both_true (eqb (length d) l1d_length) (legal_l2 (length m) && legal_external (length e)) t in
    let q = both_true (legal_l2 (length m)) (legal_external (length e)) p.1 in
    (q.0, q.1, refl))
    (λ _ h. absurd (omega arith))

-- ---- demand 3
fresh-reaches : (l : ℕ) (e : List ℕ) → legal_l2 l ≡ true → legal_external (length e) ≡ true → (cs : List Call) → joined [] cs (fresh_state l e) ≡ true →
    Reaches cs (fresh_state l e)
unfolding fresh_state fresh_record
fresh-reaches l e hl he cs y =
    joined-reaches cs (fresh_state l e) (fresh-well l e hl he) (fresh-l1d-empty (fresh_record l (length e)) refl)
    (fresh-l2-empty (fresh_record l (length e)) refl) y

pub demand3 : Demand3
demand3 d m e h cs y j =
    let p = fresh-accepted d m e h in let s = p.2 in let z = fresh_state (length m) e in
    let r = fresh-reaches (length m) e p.0 p.1 cs (rw s at j) in
    rw s (agree cs z (fresh_flat (length m) e) (fresh-matches (length m) e p.0 p.1) y r)

joined-commands : (cs : List Command) (h : List Call) (z : State) → joined h (commands cs) z ≡ true
unfolding joined
joined-commands [] h z = refl
joined-commands (c ∷ cs) h z = joined-commands cs (remembered (one_command c) z h) (call c z).next

pub commands-demand3 : CommandsDemand3
commands-demand3 d m e h cs y = demand3 d m e h (commands cs) y (joined-commands cs [] (fresh_call d m e).next)
