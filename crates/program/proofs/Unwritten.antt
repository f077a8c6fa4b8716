-- What was not written since a fresh start or a mode change is flat memory's everywhere, also behind dirty lines
-- (`unwritten-next`): at each address that no accepted call has written, every byte of a line, of SRAM and of external
-- memory is the one that flat memory has. Why: it is true where no line is held and memory is flat memory's
-- (`renewed`), and every step but a write only copies bytes within one address; the lemmas of crate agreement say that
-- of any fact about bytes.
use Prim.Native.Nat.{ℕ, ◌+◌, ◌≤◌, ◌<◌}
use mathlib.Core.Bool.{Bool, true, false, cond, ◌||◌}
use mathlib.Core.Path.{◌≡◌, refl, sym, ◌∙◌}
use mathlib.Core.List.{List}
use lib.ListN.{length, replicate}
use lib.Dec.{eqb}
use borrow.Author.Tests.{eqb-true, le-leb, lt-ltb}
use Rattle.model.specs.Bytes.{little_bytes}
use Rattle.model.specs.Records.{State, sram_of, fresh_l1d_set, fresh_l2_set}
use Rattle.model.specs.Access.{write_access}
use Rattle.model.specs.Refusals.{access_due, mode_due, view_due}
use Rattle.model.specs.Trace.{command}
use Rattle.model.specs.Memories.{external_base}
use Rattle.model.specs.Modes.{change_mode, new_mode}
use Rattle.model.specs.Unaligned.{write_up, unaligned_due}
use Rattle.model.specs.Transfers.{transferred_in, transfer_due}
use Rattle.model.specs.Fetches.{fetch_due}
use Rattle.model.specs.Calls.{Reply, command_due, read_done, write_done, command_state, accepted, step, view_done, unaligned_due_in, read_unaligned_done, read_unaligned_step, write_unaligned_done, write_unaligned_step, transfer_due_in, transfer_in_step, transfer_out_step, fetch_due_in, fetch_behind_done, fetch_behind_step, Call, one_command, fresh_start, look, read_unaligned, write_unaligned, transfer_in, transfer_out, fetch_behind, called}
use Rattle.model.specs.Flat.{Flat, flat, FlatReply, flat_reply, flat_put, flat_mode, flat_read, flat_write, flat_change, flat_step, flat_read_unaligned, flat_write_unaligned, flat_transfer_in, flat_transfer_out, flat_fetch, flat_called}
use Rattle.model.specs.Laws.{bool, false-true, length-little_bytes}
use Rattle.agreement.proofs.Invariant.{Allowed}
use Rattle.agreement.proofs.Memory.{Fits, low_stored, high_stored, Wrote, wrote-memory, Written, inside-or-not}
use Rattle.model.specs.declared.Command.{Command}
use Rattle.agreement.specs.Demand.{listed_code, listed_call}
use Rattle.agreement.proofs.Good.{layout_of, Good, good-well}
use Rattle.agreement.proofs.Fetch.{AccessFits}
use Rattle.agreement.proofs.ReadWrite.{Step, Uncached}
use Rattle.agreement.proofs.Due.{accepted-read, accepted-write}
use Rattle.agreement.proofs.Steps.{codes, Quiet, quiet-2, quiet-3, quiet-4, quiet-5, quiet-7, quiet-11, quiet-12}
use Rattle.agreement.proofs.Tested.{call_step}
use Rattle.agreement.proofs.Unaligned.{accepted-read-up, accepted-write-up, read-unaligned-step, write-unaligned-step}
use Rattle.agreement.proofs.Transfers.{transfer-fits, sent-good, sent-uncached, transferred-in-good, transfer-in-step, transfer-out-step}
use Rattle.agreement.proofs.Fetches.{fetch-good, fetch-step}
use Rattle.agreement.proofs.Uncached.{Reach}
use Rattle.agreement.proofs.Changes.{fresh-good, fresh-l1d-none, fresh-l2-none}
use Rattle.agreement.proofs.Agreement.{flat_byte, Is, Matches, flat_put-state, flat-fits, access-fits, unaligned-fits, sram-below, listed_below, step-answered}
use Rattle.program.specs.Chip.{on_data}
use Rattle.program.specs.Lists.{within, written_by, is_mode_change}

-- ---- what may stand at an address: flat memory's byte, unless it was written
abbrev pub Unwritten : (ℕ → Bool) → Flat → Allowed
Unwritten w f =
    record {
      right = λ a c. w a ≡ false → c ≡ flat_byte f a;
      held = λ a c. w a ≡ false → c ≡ flat_byte f a;
      alike = λ _ _. ◌≡◌ {A = ℕ} 0 0;
      right_held = λ _ _ h. h;
      copied = λ _. refl;
    }

-- ---- no line is held, and memory is flat memory's
pub renewed : (z : State) (f : Flat) → Matches z f → z.rec.l1d ≡ replicate 128 fresh_l1d_set → z.rec.l2 ≡ replicate 512 fresh_l2_set →
    z.rec.dirty_l1d ≡ 0 → z.rec.dirty_l2 ≡ 0 → (w : ℕ → Bool) → Good z (Unwritten w f)
renewed z f m e₁ e₂ c₁ c₂ w =
    fresh-good z (Unwritten w f) e₁ e₂ c₁ c₂ m.good.tidy.sizes
    (λ a l _. m.good.inv.memory_right a l (λ s v k. false-true (sym (fresh-l1d-none z.rec e₁ s v) ∙ k)) (λ t v k. false-true (sym (fresh-l2-none z.rec e₂ t v) ∙ k)))

-- ---- bytes are written: what was written since then is more, flat memory has them too
module _ (w w' : ℕ → Bool) (f f' : Flat) (a : ℕ) (bs : List ℕ) (o : Wrote (flat_byte f) (flat_byte f') a bs)
    (more : (c : ℕ) → w' c ≡ false → w c ≡ false) (now : (c : ℕ) → a ≤ c → c < a + length bs → w' c ≡ true) where
  still : (c d : ℕ) → (w c ≡ false → d ≡ flat_byte f c) → w' c ≡ false → d ≡ flat_byte f' c
  still c d h n =
      inside-or-not a c (length bs) (λ from to. false-true (sym n ∙ now c from to)) (λ out. h (more c n) ∙ sym (o.outside c out))

  pub written-more : Written (Unwritten w f) (Unwritten w' f') a bs
  written-more =
      record {
        puts = record { inside = λ c from to n. false-true (sym n ∙ now c from to); outside = λ c _ d h. still c d h };
        grows = record { held = λ c d h. still c d h; alike = λ _ _ _. refl };
      }

-- ---- behind a call of the data side, answered r: what was written since
abbrev pub behind : Call → Reply → (ℕ → Bool) → ℕ → Bool
behind c r w = cond (eqb r.number 0) (cond (is_mode_change (on_data c)) (λ _. false) (λ a. written_by (on_data c) a || w a)) w

abbrev Next : Call → (ℕ → Bool) → Reply → FlatReply → Type 0
Next c w r g = Good r.next (Unwritten (behind c r w) g.next)

either_way : (b : Bool) (z : State) (f : Flat) (w : ℕ → Bool) → Good z (Unwritten w f) → Good z (Unwritten (cond b w w) f)
either_way b z f w q = bool b (λ t. rw t q) (λ t. rw t q)

or-none : (x y : Bool) → (x || y) ≡ false → y ≡ false
or-none false y e = e
or-none true y e = false-true (sym e)

within-yes : (b n c : ℕ) (y : Bool) → b ≤ c → c < b + n → (within b n c || y) ≡ true
within-yes b n c y from to = rw (le-leb b c from, lt-ltb c (b + n) to) refl

module _ (z : State) (f : Flat) (m : Matches z f) (w : ℕ → Bool) (q : Good z (Unwritten w f)) where
  -- n bytes go to b, which lie in memory
  puts : (n b : ℕ) (bs : List ℕ) → length bs ≡ n → AccessFits (layout_of z.rec) b n → (z' : State) →
      ((F : Allowed) → Written (Unwritten w f) F b bs → Step z F z') → Good z' (Unwritten (λ a. within b n a || w a) (flat_put b bs f))
  puts n b bs long k z' done =
      let f' = flat f.l2len (low_stored f.sram b bs) (high_stored f.ext b bs) in
      let g : Fits f.sram f.ext b (length bs) = rw long (flat-fits z f m n b k) in
      rw (flat_put-state b bs f)
      (done (Unwritten (λ a. within b n a || w a) f')
      (written-more w (λ a. within b n a || w a) f f' b bs (wrote-memory f.sram f.ext bs b g (sram-below z f m n b)) (λ c. or-none (within b n c) (w c))
      (λ c from to. within-yes b n c (w c) from (rw long at to)))).good

  quiet_next : (k a b v : ℕ) → eqb k 1 ≡ false → eqb k 10 ≡ false → flat_step (command k a b v) f ≡ flat_reply 0 0 f → Quiet z (Unwritten w f) (step (command k a b v) z).next →
      Next (one_command (command k a b v)) w (step (command k a b v) z) (flat_step (command k a b v) f)
  quiet_next k a b v n₁ n₁₀ e s = rw (e, n₁, n₁₀) (either_way (eqb (step (command k a b v) z).number 0) (step (command k a b v) z).next f w s.good)

  read_next : (a b v : ℕ) → Next (one_command (command 0 a b v)) w (step (command 0 a b v) z) (flat_step (command 0 a b v) f)
  unfolding step command_due accepted read_done flat_step flat_read
  read_next a b v =
      let d = access_due (sram_of z.rec) z.rec.extlen a b 0 in let e : access_due (length f.sram) (length f.ext) a b 0 ≡ d = rw (m.sram, m.ext) refl in
      rw e (bool (eqb d 0) (λ t. rw t (accepted-read z (Unwritten w f) q a b (eqb-true d 0 t)).good) (λ t. rw (t, t) q))

  write-next : (a b v : ℕ) → Next (one_command (command 1 a b v)) w (step (command 1 a b v) z) (flat_step (command 1 a b v) f)
  unfolding step command_due accepted write_done flat_step flat_write
  write-next a b v =
      let d = access_due (sram_of z.rec) z.rec.extlen a b v in let e : access_due (length f.sram) (length f.ext) a b v ≡ d = rw (m.sram, m.ext) refl in
      rw e (bool (eqb d 0)
      (λ t. rw t (puts a b (little_bytes v a) (length-little_bytes v a) (access-fits z f m a b v (eqb-true d 0 t)) (write_access b (little_bytes v a) z).next
      (λ F wr. accepted-write z (Unwritten w f) q a b F v wr (eqb-true d 0 t))))
      (λ t. rw (t, t) q))

  -- a mode change: all is new then, and nothing was written since
  mode-next : (a b v : ℕ) → Next (one_command (command 10 a b v)) w (step (command 10 a b v) z) (flat_step (command 10 a b v) f)
  unfolding step command_due accepted command_state flat_step flat_change change_mode new_mode
  mode-next a b v =
      let d = mode_due z.rec.l2len a in let e : mode_due f.l2len a ≡ d = rw m.l2len refl in
      let r = (step-answered (command 10 a b v) z f m refl).matches in
      rw e (bool (eqb d 0)
      (λ t. let p : Matches (change_mode a z) (flat_mode a f) = rw (e, t) at r in rw t (renewed (change_mode a z) (flat_mode a f) p refl refl refl refl (λ _. false)))
      (λ t. rw (t, t) q))

  read-unaligned-next : (n a : ℕ) → Next (read_unaligned n a) w (read_unaligned_step n a z) (flat_read_unaligned n a f)
  unfolding read_unaligned_step read_unaligned_done flat_read_unaligned
  read-unaligned-next n a =
      let d = unaligned_due_in z n a 0 in let e : unaligned_due (length f.sram) (length f.ext) n a 0 ≡ d = rw (m.sram, m.ext) refl in
      rw e (bool (eqb d 0) (λ t. rw t (accepted-read-up z (Unwritten w f) q n a (eqb-true d 0 t)).good) (λ t. rw (t, t) q))

  write-unaligned-next : (n a v : ℕ) → Next (write_unaligned n a v) w (write_unaligned_step n a v z) (flat_write_unaligned n a v f)
  unfolding write_unaligned_step write_unaligned_done flat_write_unaligned
  write-unaligned-next n a v =
      let d = unaligned_due_in z n a v in let e : unaligned_due (length f.sram) (length f.ext) n a v ≡ d = rw (m.sram, m.ext) refl in
      rw e (bool (eqb d 0)
      (λ t. rw t (puts n a (little_bytes v n) (length-little_bytes v n) (unaligned-fits z f m n a v (eqb-true d 0 t)) (write_up n a (little_bytes v n) z).next
      (λ F wr. accepted-write-up z (Unwritten w f) F q n a v wr (eqb-true d 0 t))))
      (λ t. rw (t, t) q))

  transfer-in-next : (a : ℕ) (bs : List ℕ) → ((transfer_in_step a bs z).number ≡ 0 → external_base ≤ a → Uncached z a (length bs)) →
      Next (transfer_in a bs) w (transfer_in_step a bs z) (flat_transfer_in a bs f)
  unfolding transfer_in_step flat_transfer_in
  transfer-in-next a bs reach =
      let n = length bs in let d = transfer_due_in z n a in let e : transfer_due (length f.sram) (length f.ext) n a ≡ d = rw (m.sram, m.ext) refl in
      rw e (bool (eqb d 0)
      (λ t. let o = eqb-true d 0 t in let free = sent-uncached z (Unwritten w f) q n a o (rw t at reach refl) in
      rw t (puts n a bs refl (transfer-fits z n a o) (transferred_in a bs z) (λ F wr. transferred-in-good z (Unwritten w f) F q a bs wr o free)))
      (λ t. rw (t, t) q))

  transfer-out-next : (a : ℕ) (o : List ℕ) → Next (transfer_out a o) w (transfer_out_step a o z) (flat_transfer_out a o f)
  unfolding transfer_out_step flat_transfer_out
  transfer-out-next a o =
      let n = length o in let d = transfer_due_in z n a in let e : transfer_due (length f.sram) (length f.ext) n a ≡ d = rw (m.sram, m.ext) refl in
      rw e (bool (eqb d 0) (λ t. rw t (sent-good z (Unwritten w f) q a n).good) (λ t. rw (t, t) q))

  fetch-next : (a : ℕ) → Next (fetch_behind a) w (fetch_behind_step a z) (flat_fetch a f)
  unfolding fetch_behind_step fetch_behind_done flat_fetch
  fetch-next a =
      let d = fetch_due_in z a in let e : fetch_due (length f.sram) (length f.ext) a ≡ d = rw (m.sram, m.ext) refl in
      rw e (bool (eqb d 0) (λ t. rw t (fetch-good z (Unwritten w f) q a (eqb-true d 0 t)).good) (λ t. rw (t, t) q))

  command-next : (c : Command) → listed_code c.code ≡ true → Next (one_command c) w (step c z) (flat_step c f)
  unfolding flat_step
  command-next c =
      let a = c.first in let b = c.second in let v = c.value in let F = Unwritten w f in
      codes (λ (k : ℕ). listed_code k ≡ true → Next (one_command (command k a b v)) w (step (command k a b v) z) (flat_step (command k a b v) f))
      (λ _. read_next a b v)
      (λ _. write-next a b v)
      (λ _. quiet_next 2 a b v refl refl refl (quiet-2 z F q a b v))
      (λ _. quiet_next 3 a b v refl refl refl (quiet-3 z F q a b v))
      (λ _. quiet_next 4 a b v refl refl refl (quiet-4 z F q a b v))
      (λ _. quiet_next 5 a b v refl refl refl (quiet-5 z F q a b v))
      (λ y. false-true y)
      (λ _. quiet_next 7 a b v refl refl refl (quiet-7 z F q a b v))
      (λ y. false-true y)
      (λ y. false-true y)
      (λ _. mode-next a b v)
      (λ _. quiet_next 11 a b v refl refl refl (quiet-11 z F q a b v))
      (λ _. quiet_next 12 a b v refl refl refl (quiet-12 z F q a b v))
      (λ k h y. false-true (sym (listed_below k h) ∙ y))
      c.code

-- ---- any call of a list
pub unwritten-next : (c : Call) (z : State) (f : Flat) → Matches z f → listed_call c ≡ true → Reach c z → (w : ℕ → Bool) → Good z (Unwritten w f) →
    Next c w (called c z) (flat_called c f)
unfolding view_done
unwritten-next fresh_start z f m y r w q = false-true y
unwritten-next (look a) z f m y r w q = either_way (eqb (view_due z.rec z.l2 z.ext a) 0) z f w q
unwritten-next (read_unaligned n a) z f m y r w q =
    let s = read-unaligned-step n a z (good-well z (Is f) m.good) in rw s (read-unaligned-next z f m w q n a)
unwritten-next (write_unaligned n a v) z f m y r w q =
    let s = write-unaligned-step n a v z (good-well z (Is f) m.good) in rw s (write-unaligned-next z f m w q n a v)
unwritten-next (transfer_in a bs) z f m y r w q =
    let s = transfer-in-step a bs z (good-well z (Is f) m.good) in rw s (transfer-in-next z f m w q a bs (rw s at r))
unwritten-next (transfer_out a o) z f m y r w q =
    let s = transfer-out-step a o z (good-well z (Is f) m.good) in rw s (transfer-out-next z f m w q a o)
unwritten-next (fetch_behind a) z f m y r w q =
    let s = fetch-step a z (good-well z (Is f) m.good) in rw s (fetch-next z f m w q a)
unwritten-next (one_command c) z f m y r w q =
    let s = call_step c z (good-well z (Is f) m.good) in rw s (command-next z f m w q c y)
