-- A well-formed chip stays so, whatever is called (`chip-stays`): the data side as before, L1P's lines where they may
-- stand, its bytes as many. Why: the data side does not see L1P, and what it may change of the places of L1P's lines
-- is the layout, which a mode change and a MAR change alter alone: the first drops every line, the second is refused
-- where it would leave one.
use Prim.Native.Nat.{ℕ, zero, suc}
use mathlib.Core.Bool.{Bool, true, false, not, cond, ◌&&◌, ◌||◌}
use mathlib.Core.Path.{◌≡◌, refl, sym, ap, ◌∙◌, subst}
use mathlib.Core.Logic.{◌⊎◌, inl, inr}
use mathlib.Core.List.{List}
use native.Mathlib.Omega.{arith}
use lib.ListN.{length, set, length-set, length-replicate}
use lib.Seq.{get_or-set_same, get_or-set_other}
use lib.Dec.{ltb, leb, eqb}
use borrow.Author.Tests.{eqb-true, eqb-false, eq-eqb, ne_eqb, leb-true}
use Rattle.model.specs.Bytes.{little_bytes}
use Rattle.model.specs.Memories.{external_base}
use Rattle.model.specs.Lines.{line_of, empty_line}
use Rattle.model.specs.Records.{State, sram_of}
use Rattle.model.specs.Homes.{put_memory}
use Rattle.model.specs.Access.{cacheable}
use Rattle.model.specs.Modes.{change_mode, change_mar}
use Rattle.model.specs.Transfers.{sent_home, transferred_in, transferred_out}
use Rattle.model.specs.Refusals.{lowest_due, unless, multiple_of, place_ok, holds_range, mar_due, mode_due, block_due, view_due, view_lent_due}
use Rattle.model.specs.Trace.{command}
use Rattle.model.specs.Calls.{Reply, refused, carried_out, handed_back, command_due, command_state, accepted, step, call, fresh_ok, view_call, view_done, unaligned_due_in, read_unaligned_done, read_unaligned_step, write_unaligned_done, write_unaligned_step, transfer_due_in, transfer_in_step, transfer_out_step, fetch_due_in, fetch_behind_done, no_fetch, fetch_behind_step, Call, one_command, fresh_start, look, read_unaligned, write_unaligned, transfer_in, transfer_out, fetch_behind, called}
use Rattle.model.specs.Laws.{bool, cond-elim, cond_both, both_true, false-true, length-stored, lowest_due-none}
use Rattle.model.specs.declared.Line.{Line}
use Rattle.model.specs.declared.Left.TheVariants.{NoWay}
use Rattle.model.specs.declared.Command.{Command}
use Rattle.agreement.proofs.Invariant.{Layout}
use Rattle.agreement.proofs.Good.{layout_of, Anything, Well}
use Rattle.agreement.proofs.Fetch.{cacheable-yes}
use Rattle.agreement.proofs.Tested.{legal_l2-makes, legal_external-makes, well-due, call_step}
use Rattle.agreement.proofs.Unaligned.{accepted-read-up, accepted-write-up, anything-written, read-unaligned-step, write-unaligned-step}
use Rattle.agreement.proofs.Transfers.{sent-good, transfer-in-step, transfer-out-step}
use Rattle.agreement.proofs.Fetches.{fetch-tells, fetch-good, fetch-step}
use Rattle.agreement.proofs.Stays.{called-well}
use Rattle.program.specs.L1p.{l1p_set_of, l1p_data, l1p_at, in_l1p, l1p_ok, fresh_l1p, l1p_holds_range}
use Rattle.program.specs.Fetches.{Chip, ChipReply, with_l1p, beside_l1p, fetch_hit, fetch_miss, fetch_done, fetch_step, refused_fetch}
use Rattle.program.specs.Chip.{lines_after, chip_command_due, chip_step, chip_lent_due, chip_view_due, chip_fresh, chip_view, behind_checks, fetch_call, l1p_block_call, l1p_all_call, ChipCall, on_data, fetch, l1p_block, l1p_all, chip_called}
use Rattle.program.specs.Lists.{is_mode_change}
use Rattle.program.proofs.L1pLines.{L1pPlaced, L1pTidy, Fewer, fewer-refl, fewer-command, fewer-own-block, fewer-own-all, tidy-fewer, tidy-fresh}
use Rattle.program.proofs.L1pStays.{tidy-makes, layout-kept, tidy-mar}

-- ---- a well-formed chip, and that checks 1 and 2 find nothing
pub record ChipWell (x : Chip) : Type 0 where
  pub data_side : Well x.data_side
  pub tidy : L1pTidy (layout_of x.data_side.rec) x.lines
  pub long : length x.bytes ≡ 16384

pub well-passes : (x : Chip) → ChipWell x → chip_lent_due x ≡ 0
unfolding chip_lent_due
well-passes x w =
    rw (eq-eqb (length x.bytes) 16384 w.long, well-due x.data_side w.data_side, tidy-makes x.data_side.rec x.lines w.tidy) refl

-- ---- numbers
pub lowest-none : (d : ℕ) → lowest_due d 0 ≡ d
lowest-none zero = refl
lowest-none (suc n) = refl

lowest-some : (d k : ℕ) → (n : ℕ) × (lowest_due d (suc k) ≡ suc n)
lowest-some zero k = (k, refl)
lowest-some (suc n) k = (n, refl)

lowest-twice : (d k : ℕ) → lowest_due d (lowest_due d k) ≡ lowest_due d k
lowest-twice zero k = refl
lowest-twice (suc n) k = refl

view-once : (x : Chip) (a : ℕ) → l1p_ok x.data_side.rec x.lines ≡ true → chip_view_due a x ≡ view_due x.data_side.rec x.data_side.l2 x.data_side.ext a
unfolding chip_view_due view_due
view-once x a k =
    let r = x.data_side.rec in
    rw k (lowest-twice (view_lent_due r x.data_side.l2 x.data_side.ext) (lowest_due (unless (multiple_of 64 a) 4) (unless (place_ok (sram_of r) r.extlen 64 a) 5)))

pub well-fresh-ok : (z : State) → Well z → fresh_ok z.l1d z.l2 z.ext ≡ true
unfolding fresh_ok
well-fresh-ok z h =
    let n = h.tidy.sizes in let l = n.l2_length in let x = n.ext_length in
    rw (
      eq-eqb (length z.l1d) 16384 n.l1d_length,
      l,
      x,
      legal_l2-makes z.rec.l2len n.l2_least n.l2_most n.l2_whole,
      legal_external-makes z.rec.extlen n.ext_least n.ext_most n.ext_whole,
    ) refl

-- ---- a line comes to its set
pub tidy-filled : (g : Layout) (ls : List Line) → L1pTidy g ls → (a : ℕ) → L1pPlaced g (l1p_set_of a) a → L1pTidy g (set ls (l1p_set_of a) (line_of a false))
tidy-filled g ls t a p =
    let l = t.long in let k = l1p_set_of a in let x = line_of a false in
    record {
      long = length-set ls k x ∙ l;
      fits = λ s h. bool (eqb s k)
          (λ y. let e = eqb-true s k y in
          let here : l1p_at (set ls k x) s ≡ x = ap (λ (j : ℕ). l1p_at (set ls k x) j) e ∙ get_or-set_same ls k x empty_line (omega arith) in
          rw here (record { clean = refl; placed = λ _. rw e p; empty = λ v. false-true (sym v) }))
          (λ y. let there = get_or-set_other ls k s x empty_line (eqb-false s k y) in rw there (t.fits s h));
    }

-- ---- what a call of the data side does with L1P: it gives what it gave, drops lines or none, and those left may stand
pub record Beside (c : Call) (x : Chip) : Type 0 where
  pub lines : List Line
  pub same : chip_called (on_data c) x ≡ with_l1p NoWay lines x.bytes (called c x.data_side)
  pub fewer : Fewer x.lines lines
  pub renewed : eqb (called c x.data_side).number 0 ≡ true → is_mode_change (on_data c) ≡ true → lines ≡ fresh_l1p
  pub tidy : L1pTidy (layout_of (called c x.data_side).next.rec) lines

-- a command that L1P's part of check 10 does not meet
abbrev pub l1p_hinders : Command → List Line → Bool
l1p_hinders c ls = eqb c.code 11 && (eqb c.second 0 && l1p_holds_range c.first ls)

module _ (z : State) (q : Well z) (ls : List Line) (t : L1pTidy (layout_of z.rec) ls) where
  abbrev after : Command → List Line
  after c = cond (eqb (command_due c z) 0) (lines_after c z ls) ls

  tidy-10 : (a b v : ℕ) → L1pTidy (layout_of (step (command 10 a b v) z).next.rec) (after (command 10 a b v))
  unfolding step command_due accepted command_state lines_after
  tidy-10 a b v =
      let d = mode_due z.rec.l2len a in
      cond_both (λ (r : Reply) (js : List Line). L1pTidy (layout_of r.next.rec) js) (eqb d 0) (carried_out (change_mode a z)) (refused d z) fresh_l1p ls
      (λ _. tidy-fresh (layout_of (change_mode a z).rec)) (λ _. t)

  mar-free : (a b v : ℕ) → l1p_hinders (command 11 a b v) ls ≡ false → mar_due z.rec a b ≡ 0 → (b ≡ 1) ⊎ (l1p_holds_range a ls ≡ false)
  unfolding mar_due
  mar-free a b v n d =
      let p = lowest_due-none ((eqb a 128 || eqb a 129) && leb b 1) 8 (unless (not (eqb b 0 && holds_range a z.rec)) 10) d in
      let l = leb-true b 1 (both_true (eqb a 128 || eqb a 129) (leb b 1) p.0).1 in
      bool (eqb b 0) (λ y. inr (rw y at n)) (λ y. let y' = eqb-false b 0 y in inl (omega arith))

  tidy-11 : (a b v : ℕ) → l1p_hinders (command 11 a b v) ls ≡ false → L1pTidy (layout_of (step (command 11 a b v) z).next.rec) (after (command 11 a b v))
  unfolding step command_due accepted command_state lines_after
  tidy-11 a b v n =
      let d = mar_due z.rec a b in
      cond_both (λ (r : Reply) (js : List Line). L1pTidy (layout_of r.next.rec) js) (eqb d 0) (carried_out (change_mar a b z)) (refused d z) ls ls
      (λ y. tidy-mar z q a b ls t (mar-free a b v n (eqb-true d 0 y))) (λ _. t)

  after_fewer : (c : Command) → Fewer ls (after c)
  after_fewer c = cond-elim (Fewer ls) (eqb (command_due c z) 0) (lines_after c z ls) ls (λ _. fewer-command c z ls t.long) (λ _. fewer-refl ls)

  after-tidy : (c : Command) → l1p_hinders c ls ≡ false → L1pTidy (layout_of (step c z).next.rec) (after c)
  after-tidy c =
      let a = c.first in let b = c.second in let v = c.value in
      let P : ℕ → Type 0 = λ k. l1p_hinders (command k a b v) ls ≡ false → L1pTidy (layout_of (step (command k a b v) z).next.rec) (after (command k a b v)) in
      bool (eqb c.code 10) (λ y. subst P (sym (eqb-true c.code 10 y)) (λ _. tidy-10 a b v))
      (λ y. bool (eqb c.code 11) (λ u. subst P (sym (eqb-true c.code 11 u)) (tidy-11 a b v))
      (λ u _. rw (layout-kept c z q y u) (tidy-fewer t (after_fewer c))))

  after-mode : (c : Command) → eqb (step c z).number 0 ≡ true → eqb c.code 10 ≡ true → after c ≡ fresh_l1p
  unfolding step lines_after
  after-mode c n y =
      let e = eqb-true c.code 10 y in
      bool (eqb (command_due c z) 0) (λ u. rw (u, e) refl) (λ u. false-true (rw (u, u) at n))

module _ (x : Chip) (w : ChipWell x) where
  abbrev z : State
  z = x.data_side

  pub command-form : (c : Command) → l1p_hinders c x.lines ≡ false →
      chip_called (on_data (one_command c)) x ≡ with_l1p NoWay (after z w.data_side x.lines w.tidy c) x.bytes (call c z)
  unfolding chip_step chip_command_due step
  command-form c n =
      let d = command_due c z in
      rw (well-passes x w, call_step c z w.data_side, n, lowest-none d) (bool (eqb d 0) (λ t. rw t refl) (λ t. rw t refl))

  pub command-beside : (c : Command) → l1p_hinders c x.lines ≡ false → Beside (one_command c) x
  command-beside c n =
      let s = call_step c z w.data_side in
      record {
        lines = after z w.data_side x.lines w.tidy c;
        same = command-form c n;
        fewer = after_fewer z w.data_side x.lines w.tidy c;
        renewed = λ o m. after-mode z w.data_side x.lines w.tidy c (rw s at o) m;
        tidy = rw s (after-tidy z w.data_side x.lines w.tidy c n);
      }

  -- one that it does meet is refused
  pub command-hindered : (c : Command) → l1p_hinders c x.lines ≡ true →
      (n : ℕ) × (eqb n 0 ≡ false) × (chip_called (on_data (one_command c)) x ≡ beside_l1p (refused n z) x)
  unfolding chip_step chip_command_due
  command-hindered c y =
      let p = lowest-some (command_due c z) 9 in let e = p.1 in let n : eqb (suc p.0) 0 ≡ false = ne_eqb (suc p.0) 0 (omega arith) in
      (suc p.0, n, rw (well-passes x w, y, e, n) refl)

  -- a call that leaves L1P and the layout alone
  quiet-beside : (c : Call) → chip_called (on_data c) x ≡ beside_l1p (called c z) x → is_mode_change (on_data c) ≡ false →
      layout_of (called c z).next.rec ≡ layout_of z.rec → Beside c x
  quiet-beside c e n l =
      record { lines = x.lines; same = e; fewer = fewer-refl x.lines; renewed = λ _ m. false-true (sym n ∙ m); tidy = rw l w.tidy }

  abbrev Kept : Reply → Type 0
  Kept r = layout_of r.next.rec ≡ layout_of z.rec

  pub look-beside : (a : ℕ) → Beside (look a) x
  unfolding chip_view view_done view_call
  look-beside a =
      let r = z.rec in let d = view_due r z.l2 z.ext a in
      let e = view-once x a (tidy-makes r x.lines w.tidy) in
      quiet-beside (look a) (rw e (bool (eqb d 0) (λ t. rw t refl) (λ t. rw t refl))) refl refl

  pub read-unaligned-beside : (n a : ℕ) → Beside (read_unaligned n a) x
  unfolding behind_checks read_unaligned_step read_unaligned_done
  read-unaligned-beside n a =
      let d = unaligned_due_in z n a 0 in let s = read-unaligned-step n a z w.data_side in
      quiet-beside (read_unaligned n a) (rw (well-passes x w) refl) refl
      (rw s (cond-elim Kept (eqb d 0) (read_unaligned_done n a z) (refused d z) (λ t. (accepted-read-up z Anything w.data_side n a (eqb-true d 0 t)).kept.layout) (λ _. refl)))

  pub write-unaligned-beside : (n a v : ℕ) → Beside (write_unaligned n a v) x
  unfolding behind_checks write_unaligned_step write_unaligned_done
  write-unaligned-beside n a v =
      let d = unaligned_due_in z n a v in let s = write-unaligned-step n a v z w.data_side in
      quiet-beside (write_unaligned n a v) (rw (well-passes x w) refl) refl
      (rw s (cond-elim Kept (eqb d 0) (write_unaligned_done n a v z) (refused d z)
      (λ t. (accepted-write-up z Anything Anything w.data_side n a v (anything-written a (little_bytes v n)) (eqb-true d 0 t)).kept.layout) (λ _. refl)))

  put-layout : (a : ℕ) (bs : List ℕ) (y : State) → layout_of (put_memory a bs y).rec ≡ layout_of y.rec
  unfolding put_memory
  put-layout a bs y = cond-elim (λ (u : State). layout_of u.rec ≡ layout_of y.rec) (ltb a external_base) _ _ (λ _. refl) (λ _. refl)

  pub transfer-in-beside : (a : ℕ) (bs : List ℕ) → Beside (transfer_in a bs) x
  unfolding behind_checks transfer_in_step transferred_in
  transfer-in-beside a bs =
      let n = length bs in let d = transfer_due_in z n a in let s = transfer-in-step a bs z w.data_side in
      quiet-beside (transfer_in a bs) (rw (well-passes x w) refl) refl
      (rw s (cond-elim Kept (eqb d 0) (carried_out (transferred_in a bs z)) (refused d z)
      (λ _. put-layout a bs (sent_home a n z) ∙ (sent-good z Anything w.data_side a n).kept.layout) (λ _. refl)))

  pub transfer-out-beside : (a : ℕ) (o : List ℕ) → Beside (transfer_out a o) x
  unfolding behind_checks transfer_out_step
  transfer-out-beside a o =
      let n = length o in let d = transfer_due_in z n a in let s = transfer-out-step a o z w.data_side in
      quiet-beside (transfer_out a o) (rw (well-passes x w) refl) refl
      (rw s (cond-elim Kept (eqb d 0) (handed_back 0 (transferred_out a n z) (sent_home a n z)) (handed_back d o z)
      (λ _. (sent-good z Anything w.data_side a n).kept.layout) (λ _. refl)))

  pub fetch-layout : (a : ℕ) → fetch_due_in z a ≡ 0 → layout_of (fetch_behind_done a z).next.rec ≡ layout_of z.rec
  unfolding fetch_behind_done
  fetch-layout a d = (fetch-good z Anything w.data_side a d).kept.layout

  pub fetch-behind-beside : (a : ℕ) → Beside (fetch_behind a) x
  unfolding behind_checks fetch_behind_step
  fetch-behind-beside a =
      let d = fetch_due_in z a in let s = fetch-step a z w.data_side in
      quiet-beside (fetch_behind a) (rw (well-passes x w) refl) refl
      (rw s (cond-elim Kept (eqb d 0) (fetch_behind_done a z) (no_fetch d z) (λ t. fetch-layout a (eqb-true d 0 t)) (λ _. refl)))

  -- ---- each call of the data side
  beside-well : (c : Call) → Beside c x → ChipWell (chip_called (on_data c) x).next
  beside-well c b =
      subst (λ (r : ChipReply). ChipWell r.next) (sym b.same)
      (record { data_side = called-well c z w.data_side; tidy = b.tidy; long = w.long })

  fresh-chip : ChipWell (chip_fresh x).next
  unfolding chip_fresh
  fresh-chip =
      let f = well-fresh-ok z w.data_side in
      rw (eq-eqb (length x.bytes) 16384 w.long, f)
      (record { data_side = called-well fresh_start z w.data_side; tidy = tidy-fresh (layout_of (called fresh_start z).next.rec); long = length-replicate {A = ℕ} 16384 0 })

  data-well : (c : Call) → ChipWell (chip_called (on_data c) x).next
  data-well (one_command c) =
      bool (l1p_hinders c x.lines)
      (λ t. subst (λ (r : ChipReply). ChipWell r.next) (sym (command-hindered c t).2) w)
      (λ t. beside-well (one_command c) (command-beside c t))
  data-well fresh_start = fresh-chip
  data-well (look a) = beside-well (look a) (look-beside a)
  data-well (read_unaligned n a) = beside-well (read_unaligned n a) (read-unaligned-beside n a)
  data-well (write_unaligned n a v) = beside-well (write_unaligned n a v) (write-unaligned-beside n a v)
  data-well (transfer_in a bs) = beside-well (transfer_in a bs) (transfer-in-beside a bs)
  data-well (transfer_out a o) = beside-well (transfer_out a o) (transfer-out-beside a o)
  data-well (fetch_behind a) = beside-well (fetch_behind a) (fetch-behind-beside a)

  -- ---- a fetch: the line may stand where it comes to
  pub fetched-placed : (a : ℕ) → fetch_due_in z a ≡ 0 → cacheable z.rec a ≡ true → L1pPlaced (layout_of z.rec) (l1p_set_of a) a
  fetched-placed a d c =
      let k = fetch-tells (sram_of z.rec) z.rec.extlen a d in
      record { aligned = k.aligned; own_set = refl; low = k.low; high = k.high; mar_set = cacheable-yes z.rec a c }

  behind-well : (a : ℕ) → fetch_due_in z a ≡ 0 → Well (fetch_behind_done a z).next
  unfolding fetch_behind_done
  behind-well a d = (fetch-good z Anything w.data_side a d).good

  pub done-well : (a : ℕ) → fetch_due_in z a ≡ 0 → ChipWell (fetch_done a x).next
  unfolding fetch_done fetch_hit fetch_miss
  done-well a d =
      let W : ChipReply → Type 0 = λ r. ChipWell r.next in let l = fetch-layout a d in
      cond-elim W (cacheable z.rec a) _ _
      (λ c. cond-elim W (in_l1p x.lines a) (fetch_hit a x) (fetch_miss a x) (λ _. w)
      (λ _. record {
        data_side = behind-well a d;
        tidy = rw l (tidy-filled (layout_of z.rec) x.lines w.tidy a (fetched-placed a d c));
        long = length-stored x.bytes (fetch_behind_done a z).bytes (l1p_data (l1p_set_of a)) ∙ w.long;
      }))
      (λ _. record { data_side = behind-well a d; tidy = rw l w.tidy; long = w.long })

  fetch-well : (a : ℕ) → ChipWell (fetch_call a x).next
  unfolding fetch_call fetch_step
  fetch-well a =
      let d = fetch_due_in z a in
      rw (well-passes x w) (cond-elim (λ (r : ChipReply). ChipWell r.next) (eqb d 0) (fetch_done a x) (refused_fetch d x) (λ t. done-well a (eqb-true d 0 t)) (λ _. w))

  block-well : (b c : ℕ) → ChipWell (l1p_block_call b c x).next
  unfolding l1p_block_call
  block-well b c =
      let d = block_due b c in
      rw (well-passes x w) (cond-elim (λ (r : ChipReply). ChipWell r.next) (eqb d 0) _ _
      (λ _. record { data_side = w.data_side; tidy = tidy-fewer w.tidy (fewer-own-block b c x.lines); long = w.long }) (λ _. w))

  all-well : ChipWell (l1p_all_call x).next
  unfolding l1p_all_call
  all-well =
      rw (well-passes x w) (record { data_side = w.data_side; tidy = tidy-fewer w.tidy (fewer-own-all x.lines w.tidy.long); long = w.long })

pub chip-stays : (c : ChipCall) (x : Chip) → ChipWell x → ChipWell (chip_called c x).next
chip-stays (on_data c) x w = data-well x w c
chip-stays (fetch a) x w = fetch-well x w a
chip-stays (l1p_block b c) x w = block-well x w b c
chip-stays l1p_all x w = all-well x w
