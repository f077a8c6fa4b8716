-- A line that is covered is in no cache (02, U1). Shown: along every list of calls, a stretch of external memory that
-- is covered, as `Covered` tells from the calls alone, has no line in L1D or in L2 (`covered-uncached`), so that each
-- transfer of a list that joins reaches memory that no line has (`joined-reaches`).
-- Why: behind an accepted L2 block writeback-invalidate no way of L2 has the address of a line that the block touches,
-- behind L1D's no way of L1D has; and no call brings a line but those that it accesses (`Comers`). So what `Told` says
-- of the accepted calls so far stays true from call to call: a line that was never accessed, or was so covered since,
-- has no way.
use Prim.Native.Nat.{ℕ, zero, suc, ◌+◌, ◌*◌, ◌-◌, ◌/◌, ◌%◌, ◌≤◌, ◌<◌}
use mathlib.Core.Bool.{true, false, cond, ◌&&◌}
use mathlib.Core.Path.{◌≡◌, refl, sym, ap, ◌∙◌, subst}
use mathlib.Core.Logic.{◌≢◌, ◌⊎◌, inl, inr, ⊎_elim}
use mathlib.Core.List.{List, [], ◌∷◌}
use native.Mathlib.Omega.{arith}
use lib.ListN.{length}
use lib.Dec.{ltb, leb, eqb}
use borrow.Author.Tests.{ltb-true, ltb-false, lt-ltb, leb-true, le-leb, le-ltb, eqb-true, eqb-false, eq-eqb}
use Rattle.model.specs.Basics.{any_of, each}
use Rattle.model.specs.Bytes.{little_bytes}
use Rattle.model.specs.Memories.{external_base}
use Rattle.model.specs.Lines.{l2_line, upper_half, empty_line}
use Rattle.model.specs.Records.{State, sram_of, l2_sets_of, mode0, l2_set_of, l1d_line_at, l2_line_at, fresh_record, fresh_state}
use Rattle.model.specs.Ways.{l2_way, in_l2}
use Rattle.model.specs.Homes.{evict_l2}
use Rattle.model.specs.Modes.{smaller}
use Rattle.model.specs.Commands.{block_end, lines_touched, each_touched, at_l2, unless_mode0, l1d_writeback_invalidate_block, l2_writeback_invalidate_block}
use Rattle.model.specs.Refusals.{access_due, block_due}
use Rattle.model.specs.Transfers.{sent_home, transferred_in, transferred_out}
use Rattle.model.specs.Trace.{command}
use Rattle.model.specs.Calls.{Reply, refused, carried_out, command_due, read_done, write_done, command_state, accepted, step, fresh_call, fresh_ok, view_done, unaligned_due_in, read_unaligned_done, write_unaligned_done, read_unaligned_step, write_unaligned_step, transfer_due_in, handed_back, transfer_in_step, transfer_out_step, fetch_due_in, fetch_behind_done, no_fetch, fetch_behind_step, Call, one_command, fresh_start, look, read_unaligned, write_unaligned, transfer_in, transfer_out, fetch_behind, called}
use Rattle.model.specs.Laws.{bool, false-true, both_true, cond-elim, mode0-sets, touched-lines}
use Rattle.model.specs.declared.Command.{Command}
use Rattle.model.specs.declared.Line.{Line}
use Rattle.model.specs.declared.Record.{Record}
use Rattle.agreement.specs.Covered.{has_byte_in, accesses, covered_by, since, covered_since, line_covered, lines_covered, stretch_covered, is_accepted, remembered, transfer_joins, joins, joined}
use Rattle.agreement.proofs.Level.{Level, Free, same-slot}
use Rattle.agreement.proofs.Good.{l1d_level, l2_level, Anything, Well, l2-hit, l2-miss, l2-bounds}
use Rattle.agreement.proofs.Writeback.{evict_l2-good}
use Rattle.agreement.proofs.ReadWrite.{Uncached}
use Rattle.agreement.proofs.Sweeps.{each-by, at_l2-good, swept_step, evict_l2-sweeps, l1d_writeback_invalidate_block-good, l1d-block-gone}
use Rattle.agreement.proofs.Due.{access-tells}
use Rattle.agreement.proofs.Tested.{call_step}
use Rattle.agreement.proofs.Unaligned.{read-unaligned-step, write-unaligned-step}
use Rattle.agreement.proofs.Fetches.{fetch-step}
use Rattle.agreement.proofs.Transfers.{transfer-in-step, transfer-out-step}
use Rattle.agreement.proofs.Comers.{Stays, Fills, at-l2, evict_l2-stays, command-stays, sent-stays, transferred-stays, read_stays, fetch-stays, write-stays, read-up-stays, write-up-stays, NoL1d, NoL2, no-l1d, no-l2, other-l1d, other-l2}
use Rattle.agreement.proofs.Stays.{called-well}

-- ---- a line that nobody holds: no way has its address, an invalid one having 0
free-none : (n : ℕ) (x : Level) → ((s w : ℕ) → (x.line s w).valid ≡ false → x.line s w ≡ empty_line) → (l : ℕ) → 0 < l → l / n * n ≡ l →
    Free n x l → (s w : ℕ) → (x.line s w).address ≢ l
free-none n x empty l some al f s w e =
    bool (x.line s w).valid
    (λ k. f s w k (e ∙ sym al))
    (λ k. let i = ap (λ (y : Line). y.address) (empty s w k) in absurd (omega arith))

free-no-l1d : (z : State) → Well z → (l : ℕ) → 0 < l → l % 64 ≡ 0 → Free 64 (l1d_level z) l → NoL1d l z.rec
free-no-l1d z q l some al = free-none 64 (l1d_level z) q.tidy.l1d.empty l some (omega arith)

free-no-l2 : (z : State) → Well z → (l : ℕ) → 0 < l → l % 128 ≡ 0 → Free 128 (l2_level z) l → NoL2 l z.rec
free-no-l2 z q l some al = free-none 128 (l2_level z) q.tidy.l2.empty l some (omega arith)

-- ---- L2 block writeback-invalidate: L2 has no line that its block touches
l2-turn-gone : (z : State) → Well z → (a : ℕ) → Free 128 (l2_level (at_l2 evict_l2 a z)) a
unfolding at_l2
l2-turn-gone z q a =
    let t = l2_set_of z.rec a in let v = l2_way z a in let z' = evict_l2 t v z in
    cond-elim (λ (x : State). Free 128 (l2_level x) a) (in_l2 z a) z' z
    (λ y. let h = l2-hit z a y in let b = l2-bounds z Anything q t v h.valid in let g = evict_l2-good z Anything q t v b.0 h.way in
    λ t' v' k e. same-slot t v t' v'
    (λ o. let i : l2_line_at z'.rec t' v' ≡ empty_line = rw (o.0, o.1) g.gone in false-true (sym (ap (λ (r : Line). r.valid) i) ∙ k))
    (λ o. o (q.inv.l2_sound.once t v t' v' h.valid (sym (g.swept.valid t' v' o) ∙ k) (h.address ∙ sym e ∙ g.swept.address t' v' o))))
    (λ y. l2-miss z Anything q a y)

l2-turn-well : (z : State) → Well z → (a : ℕ) → Well (at_l2 evict_l2 a z)
l2-turn-well z q a =
    (at_l2-good z Anything q evict_l2 (λ t v _ ht hv. swept_step z Anything t v (evict_l2 t v z) (evict_l2-sweeps Anything z q t v ht hv)) a).good

-- in mode 0 L2 has no lines
mode0-free : (z : State) → Well z → mode0 z.rec ≡ true → (a : ℕ) → Free 128 (l2_level z) a
mode0-free z q m a t v k e =
    let n = eqb-true (l2_sets_of z.rec) 0 (sym (mode0-sets z.rec) ∙ m) in let b = (l2-bounds z Anything q t v k).0 in absurd (omega arith)

pub l2-block-gone : (z : State) → Well z → (b c a : ℕ) → b < 0x100000000 → b ≤ a → a < block_end b c → external_base ≤ a →
    NoL2 (l2_line a) (l2_writeback_invalidate_block b c z).rec
unfolding l2_writeback_invalidate_block unless_mode0 each_touched
l2-block-gone z q b c a low from to high =
    let y = l1d_writeback_invalidate_block b c z in let g = (l1d_writeback_invalidate_block-good z Anything q b c).good in
    let l = l2_line a in
    let t = (touched-lines 128 b c (a / 128) (omega arith) low).1 (a, from, to, refl) in
    let j = t.0 in let e = t.2 in
    let f : ℕ → State → State = λ i. at_l2 evict_l2 ((b / 128 + i) * 128) in
    cond-elim (λ (x : State). NoL2 l x.rec) (mode0 y.rec) y (each f (lines_touched 128 b c) y)
    (λ m. free-no-l2 y g l (omega arith) (omega arith) (mode0-free y g m l))
    (λ _. (each-by (λ i x. Well x × (j < i → NoL2 l x.rec)) f (lines_touched 128 b c) y (g, λ h. absurd (omega arith))
    (λ i h x p. let d = (b / 128 + i) * 128 in (
      l2-turn-well x p.0 d,
      λ h'. bool (eqb j i)
          (λ o. let o' = eqb-true j i o in let same : d ≡ l = rw (← o') (sym e) in
          free-no-l2 (f i x) (l2-turn-well x p.0 d) l (omega arith) (omega arith) (subst (λ (u : ℕ). Free 128 (l2_level (f i x)) u) same (l2-turn-gone x p.0 d)))
          (λ o. let o' = eqb-false j i o in
          at-l2 (NoL2 l) (no-l2 l (omega arith)) evict_l2 (evict_l2-stays (NoL2 l) (no-l2 l (omega arith))) d x (p.1 (omega arith))),
    ))
    ).1 t.1)

-- ---- the addresses that a call accesses, all within its bytes
abbrev Accessed : Call → ℕ → Type 0
Accessed (one_command c) x = (c.code ≤ 1) × (c.second ≤ x) × (x < c.second + c.first)
Accessed fresh_start x = ⊥
Accessed (look a) x = ⊥
Accessed (read_unaligned n a) x = (a ≤ x) × (x < a + n)
Accessed (write_unaligned n a v) x = (a ≤ x) × (x < a + n)
Accessed (transfer_in a bs) x = ⊥
Accessed (transfer_out a o) x = ⊥
Accessed (fetch_behind a) x = (a ≤ x) × (x < a + 32)

-- ---- a fact about lines stays through a call, if it stays where the lines of the addresses that an accepted one
-- accesses are filled
module _ (P : Record → Type 0) (k : Stays P) where
  abbrev After : Reply → Type 0
  After r = P r.next.rec

  command-called : (c : Command) (z : State) → P z.rec → ((step c z).number ≡ 0 → (x : ℕ) → Accessed (one_command c) x → Fills x P) → After (step c z)
  unfolding step accepted read_done write_done command_due
  command-called c z p =
      let n = c.first in let a = c.second in let d = command_due c z in
      let Fact : Reply → Type 0 = λ r. (r.number ≡ 0 → (x : ℕ) → Accessed (one_command c) x → Fills x P) → After r in
      let some : (v : ℕ) → access_due (sram_of z.rec) z.rec.extlen n a v ≡ 0 → a < a + n =
      λ v y. let m = (access-tells (sram_of z.rec) z.rec.extlen n a v y).more in omega arith in
      cond-elim Fact (eqb d 0) (accepted c z) (refused d z)
      (λ t. cond-elim Fact (eqb c.code 0) (read_done n a z) _
      (λ o f. let o' = eqb-true c.code 0 o in let s = some 0 (rw o at (eqb-true d 0 t)) in
      read_stays P k a (f refl a (omega arith, omega arith, s)) n z p)
      (λ o. cond-elim Fact (eqb c.code 1) (write_done n a c.value z) (carried_out (command_state c z))
      (λ i f. let i' = eqb-true c.code 1 i in let s = some c.value (rw (o, i) at (eqb-true d 0 t)) in
      write-stays P k a (f refl a (omega arith, omega arith, s)) (little_bytes c.value n) z p)
      (λ _ _. command-stays P k c z p)))
      (λ _ _. p)

  pub called-stays : (c : Call) (z : State) → Well z → P z.rec → ((called c z).number ≡ 0 → (x : ℕ) → Accessed c x → Fills x P) → After (called c z)
  unfolding fresh_call fresh_state fresh_record view_done read_unaligned_step read_unaligned_done write_unaligned_step write_unaligned_done transfer_in_step transfer_out_step fetch_behind_step fetch_behind_done
  called-stays (one_command c) z q p = let s = call_step c z q in rw s (command-called c z p)
  called-stays fresh_start z q p =
      λ _. cond-elim After (fresh_ok z.l1d z.l2 z.ext) _ _ (λ _. k.anew (fresh_record (length z.l2) (length z.ext)) refl refl)
      (λ _. k.anew (fresh_record 32768 128) refl refl)
  called-stays (look a) z q p = λ _. p
  called-stays (read_unaligned n a) z q p =
      let s = read-unaligned-step n a z q in let d = unaligned_due_in z n a 0 in
      rw s (cond-elim (λ (r : Reply). (r.number ≡ 0 → (x : ℕ) → Accessed (read_unaligned n a) x → Fills x P) → After r) (eqb d 0) (read_unaligned_done n a z) (refused d z)
      (λ _ f. read-up-stays P k n a (λ i h. f refl (a + i) (omega arith, omega arith)) z p) (λ _ _. p))
  called-stays (write_unaligned n a v) z q p =
      let s = write-unaligned-step n a v z q in let d = unaligned_due_in z n a v in
      rw s (cond-elim (λ (r : Reply). (r.number ≡ 0 → (x : ℕ) → Accessed (write_unaligned n a v) x → Fills x P) → After r) (eqb d 0) (write_unaligned_done n a v z) (refused d z)
      (λ _ f. write-up-stays P k n a (little_bytes v n) (λ i h. f refl (a + i) (omega arith, omega arith)) z p) (λ _ _. p))
  called-stays (transfer_in a bs) z q p =
      let s = transfer-in-step a bs z q in let d = transfer_due_in z (length bs) a in
      λ _. rw s (cond-elim After (eqb d 0) (carried_out (transferred_in a bs z)) (refused d z) (λ _. transferred-stays P k a bs z p) (λ _. p))
  called-stays (transfer_out a o) z q p =
      let s = transfer-out-step a o z q in let n = length o in let d = transfer_due_in z n a in
      λ _. rw s (cond-elim After (eqb d 0) (handed_back 0 (transferred_out a n z) (sent_home a n z)) (handed_back d o z) (λ _. sent-stays P k a n z p) (λ _. p))
  called-stays (fetch_behind a) z q p =
      let s = fetch-step a z q in let d = fetch_due_in z a in
      rw s (cond-elim (λ (r : Reply). (r.number ≡ 0 → (x : ℕ) → Accessed (fetch_behind a) x → Fills x P) → After r) (eqb d 0) (fetch_behind_done a z) (no_fetch d z)
      (λ _ f. fetch-stays P k a (f refl a (omega arith, omega arith)) z p) (λ _ _. p))

-- ---- what the tests of `Covered` tell
has-byte : (n b a e x : ℕ) → has_byte_in n b a e ≡ false → a ≤ x → x < e → b ≤ x → x < b + n → ⊥
has-byte n b a e x h l u l' u' =
    false-true (sym (rw (lt-ltb a e (omega arith), lt-ltb a (b + n) (omega arith), lt-ltb b e (omega arith)) at h))

-- a byte of the block in the line: the first of the line or of the block
byte-of-both : (n b a e : ℕ) → 0 < n → has_byte_in n b a e ≡ true → (x : ℕ) × (a ≤ x) × (x < e) × (b ≤ x) × (x < b + n)
byte-of-both n b a e some h =
    let p = both_true (ltb a e) (ltb a (b + n) && ltb b e) h in let o = both_true (ltb a (b + n)) (ltb b e) p.1 in
    let i = ltb-true a e p.0 in let i' = ltb-true a (b + n) o.0 in let i'' = ltb-true b e o.1 in
    bool (ltb a b) (λ t. let t' = ltb-true a b t in (b, omega arith, omega arith, omega arith, omega arith))
    (λ t. let t' = ltb-false a b t in (a, omega arith, omega arith, omega arith, omega arith))

not-accessed : (b x : ℕ) (c : Call) → accesses b c ≡ false → Accessed c x → l2_line x ≢ b
not-accessed b x (one_command c) h p e =
    let t : leb c.code 1 ≡ true = le-leb c.code 1 p.0 in
    has-byte 128 b c.second (c.second + c.first) x (rw t at h) p.1 p.2 (omega arith) (omega arith)
not-accessed b x fresh_start h p e = p
not-accessed b x (look a) h p e = p
not-accessed b x (read_unaligned n a) h p e = has-byte 128 b a (a + n) x h p.0 p.1 (omega arith) (omega arith)
not-accessed b x (write_unaligned n a v) h p e = has-byte 128 b a (a + n) x h p.0 p.1 (omega arith) (omega arith)
not-accessed b x (transfer_in a bs) h p e = p
not-accessed b x (transfer_out a o) h p e = p
not-accessed b x (fetch_behind a) h p e = has-byte 128 b a (a + 32) x h p.0 p.1 (omega arith) (omega arith)

block-below : (b c : ℕ) → block_end b c ≤ 0x100000000
unfolding block_end smaller
block-below b c = cond-elim (λ (e : ℕ). e ≤ 0x100000000) (leb (b + c * 4) 0x100000000) (b + c * 4) 0x100000000 (λ t. leb-true (b + c * 4) 0x100000000 t) (λ _. omega arith)

-- ---- a call that covers the line of n bytes at l is a block command with a byte in the line
record Covers (k n l : ℕ) (c : Call) : Type 0 where
  base : ℕ
  count : ℕ
  value : ℕ
  same : c ≡ one_command (command k base count value)
  byte : ℕ
  low : base < 0x100000000
  from : base ≤ byte
  to : byte < block_end base count
  line_from : l ≤ byte
  line_to : byte < l + n

covering : (k n l : ℕ) → 0 < n → (c : Call) → covered_by k n l c ≡ true → Covers k n l c
covering k n l some fresh_start y = false-true y
covering k n l some (look a) y = false-true y
covering k n l some (read_unaligned m a) y = false-true y
covering k n l some (write_unaligned m a v) y = false-true y
covering k n l some (transfer_in a bs) y = false-true y
covering k n l some (transfer_out a o) y = false-true y
covering k n l some (fetch_behind a) y = false-true y
covering k n l some (one_command c) y =
    let a = c.first in let b = c.second in
    let p = both_true (eqb c.code k) (has_byte_in n l a (block_end a b)) y in
    let x = byte-of-both n l a (block_end a b) some p.1 in
    let x₁ = x.1 in let x₂ = x.2 in let end = block-below a b in
    record {
      base = a;
      count = b;
      value = c.value;
      same = ap (λ (i : ℕ). one_command (command i a b c.value)) (eqb-true c.code k p.0);
      byte = x.0;
      low = omega arith;
      from = x.1;
      to = x.2;
      line_from = x.3;
      line_to = x.4;
    }

-- ---- an accepted one leaves no way with the line
accepted-block : (d : ℕ) (z' z : State) (P : State → Type 0) → P z' → (cond (eqb d 0) (carried_out z') (refused d z)).number ≡ 0 →
    P (cond (eqb d 0) (carried_out z') (refused d z)).next
accepted-block d z' z P p =
    cond-elim (λ (r : Reply). r.number ≡ 0 → P r.next) (eqb d 0) (carried_out z') (refused d z) (λ _ _. p) (λ t e. absurd (eqb-false d 0 t e))

covers-l2 : (c : Call) (z : State) → Well z → (b : ℕ) → external_base ≤ b → b % 128 ≡ 0 → (called c z).number ≡ 0 → Covers 5 128 b c →
    NoL2 b (called c z).next.rec
unfolding step command_due accepted command_state
covers-l2 c z q b h al n k =
    let i = command 5 k.base k.count k.value in
    let x₁ = k.line_from in let x₂ = k.line_to in let o : l2_line k.byte ≡ b = omega arith in
    subst (λ (u : Call). (called u z).number ≡ 0 → NoL2 b (called u z).next.rec) (sym k.same)
    (rw (call_step i z q)
    (accepted-block (block_due k.base k.count) (l2_writeback_invalidate_block k.base k.count z) z (λ (y : State). NoL2 b y.rec)
    (rw (← o) (l2-block-gone z q k.base k.count k.byte k.low k.from k.to (omega arith))))) n

covers-l1d : (c : Call) (z : State) → Well z → (l : ℕ) → external_base ≤ l → l % 64 ≡ 0 → (called c z).number ≡ 0 → Covers 7 64 l c →
    NoL1d l (called c z).next.rec
unfolding step command_due accepted command_state
covers-l1d c z q l h al n k =
    let i = command 7 k.base k.count k.value in
    let x₁ = k.line_from in let x₂ = k.line_to in
    let y = l1d_writeback_invalidate_block k.base k.count z in
    let f = l1d-block-gone z Anything q k.base k.count k.byte k.low k.from k.to in
    subst (λ (u : Call). (called u z).number ≡ 0 → NoL1d l (called u z).next.rec) (sym k.same)
    (rw (call_step i z q)
    (accepted-block (block_due k.base k.count) y z (λ (u : State). NoL1d l u.rec)
    (free-no-l1d y (l1d_writeback_invalidate_block-good z Anything q k.base k.count).good l (omega arith) al
    (λ s w v e. f s w v (e ∙ omega arith))))) n

-- ---- one call more: the line was covered before, or is by this call; and the call does not access it
pub covered_next : (k n l b : ℕ) (c : Call) (h : List Call) → covered_since k n l b (c ∷ h) ≡ true →
    (accesses b c ≡ false) × ((covered_since k n l b h ≡ true) ⊎ (covered_by k n l c ≡ true))
unfolding covered_since since any_of
covered_next k n l b c h =
    bool (accesses b c) (λ t. rw t (λ y. false-true y))
    (λ t. bool (covered_by k n l c) (λ u. rw (t, u) (λ _. (refl, inr refl))) (λ u. rw (t, u) (λ y. (refl, inl y))))

-- ---- what the accepted calls so far tell of the record
pub record Told (h : List Call) (r : Record) : Type 0 where
  pub l2 : (b : ℕ) → external_base ≤ b → b % 128 ≡ 0 → covered_since 5 128 b b h ≡ true → NoL2 b r
  pub l1d : (l : ℕ) → external_base ≤ l → l % 64 ≡ 0 → covered_since 7 64 l (l2_line l) h ≡ true → NoL1d l r

-- behind a call that is not accepted, and behind one that is
pub told-next : (h : List Call) (c : Call) (z : State) → Well z → Told h z.rec → Told (remembered c z h) (called c z).next.rec
told-next h c z q told =
    cond-elim (λ (g : List Call). Told g (called c z).next.rec) (is_accepted c z) (c ∷ h) h
    (λ t. let n = eqb-true (called c z).number 0 t in
    record {
      l2 = λ b hb al y.
          let p = covered_next 5 128 b b c h y in
          ⊎_elim
          (λ o. called-stays (NoL2 b) (no-l2 b (omega arith)) c z q (told.l2 b hb al o) (λ _ x i. other-l2 b x (not-accessed b x c p.0 i)))
          (λ o. covers-l2 c z q b hb al n (covering 5 128 b (omega arith) c o)) p.1;
      l1d = λ l hl al y.
          let p = covered_next 7 64 l (l2_line l) c h y in
          ⊎_elim
          (λ o. called-stays (NoL1d l) (no-l1d l (omega arith)) c z q (told.l1d l hl al o)
          (λ _ x i. other-l1d l x (λ e. not-accessed (l2_line l) x c p.0 i (omega arith))))
          (λ o. covers-l1d c z q l hl al n (covering 7 64 l (omega arith) c o)) p.1;
    })
    (λ t. let n = eqb-false (called c z).number 0 t in
    record {
      l2 = λ b hb al y. called-stays (NoL2 b) (no-l2 b (omega arith)) c z q (told.l2 b hb al y) (λ o. absurd (n o));
      l1d = λ l hl al y. called-stays (NoL1d l) (no-l1d l (omega arith)) c z q (told.l1d l hl al y) (λ o. absurd (n o));
    })

-- ---- a covered stretch has no line in either cache
line_of : (h : List Call) (a k : ℕ) → lines_covered h a k ≡ true → (j : ℕ) → j < k → line_covered h (a + j * 128) ≡ true
unfolding lines_covered
line_of h a zero y j l = absurd (omega arith)
line_of h a (suc k) y j l =
    let p = both_true (lines_covered h a k) (line_covered h (a + k * 128)) y in
    bool (eqb j k) (λ t. let t' = eqb-true j k t in rw t' p.1) (λ t. let t' = eqb-false j k t in line_of h a k p.0 j (omega arith))

module _ (h : List Call) (z : State) (told : Told h z.rec) (a n : ℕ) where
  covered-uncached : external_base ≤ a → stretch_covered h a n ≡ true → Uncached z a n
  unfolding stretch_covered line_covered
  covered-uncached high y b from to =
      let p = both_true (eqb (a % 128) 0) (eqb (n % 128) 0 && lines_covered h a (n / 128)) y in
      let o = both_true (eqb (n % 128) 0) (lines_covered h a (n / 128)) p.1 in
      let al = eqb-true (a % 128) 0 p.0 in let al' = eqb-true (n % 128) 0 o.0 in
      let l = a + (b - a) / 128 * 128 in
      let c = line_of h a (n / 128) o.1 ((b - a) / 128) (omega arith) in
      let c₁ = both_true (covered_since 5 128 l l h) (covered_since 7 64 l l h && covered_since 7 64 (upper_half l) l h) c in
      let c₂ = both_true (covered_since 7 64 l l h) (covered_since 7 64 (upper_half l) l h) c₁.1 in
      let same : l2_line l ≡ l = omega arith in
      let up : l2_line (upper_half l) ≡ l = omega arith in
      let lower = told.l1d l (omega arith) (omega arith) (rw same c₂.0) in
      let upper = told.l1d (upper_half l) (omega arith) (omega arith) (rw up c₂.1) in
      let whole = told.l2 l (omega arith) (omega arith) c₁.0 in (
        λ s w k e. bool (ltb (b % 128) 64)
            (λ t. let t' = ltb-true (b % 128) 64 t in lower s w (e ∙ omega arith))
            (λ t. let t' = ltb-false (b % 128) 64 t in upper s w (e ∙ omega arith)),
        λ t v k e. whole t v (e ∙ omega arith),
      )

-- ---- each transfer of a list that joins reaches memory that no line has
abbrev pub Reach : Call → State → Type 0
Reach (one_command c) z = Unit {0}
Reach fresh_start z = Unit {0}
Reach (look a) z = Unit {0}
Reach (read_unaligned n a) z = Unit {0}
Reach (write_unaligned n a v) z = Unit {0}
Reach (transfer_in a bs) z = (called (transfer_in a bs) z).number ≡ 0 → external_base ≤ a → Uncached z a (length bs)
Reach (transfer_out a o) z = (called (transfer_out a o) z).number ≡ 0 → external_base ≤ a → Uncached z a (length o)
Reach (fetch_behind a) z = Unit {0}

abbrev pub Reaches : List Call → State → Type 0
Reaches [] z = Unit {0}
Reaches (c ∷ cs) z = Reach c z × Reaches cs (called c z).next

pub transfer-reach : (h : List Call) (z : State) → Told h z.rec → (a n m : ℕ) → transfer_joins h a n (eqb m 0) ≡ true →
    m ≡ 0 → external_base ≤ a → Uncached z a n
unfolding transfer_joins
transfer-reach h z told a n m y o high =
    let t = eq-eqb m 0 o in let t' = le-ltb a external_base high in covered-uncached h z told a n high (rw (t, t') at y)

joins-reach : (h : List Call) (c : Call) (z : State) → Told h z.rec → joins h c z ≡ true → Reach c z
joins-reach h (one_command c) z told y = tt
joins-reach h fresh_start z told y = tt
joins-reach h (look a) z told y = tt
joins-reach h (read_unaligned n a) z told y = tt
joins-reach h (write_unaligned n a v) z told y = tt
joins-reach h (transfer_in a bs) z told y = transfer-reach h z told a (length bs) (called (transfer_in a bs) z).number y
joins-reach h (transfer_out a o) z told y = transfer-reach h z told a (length o) (called (transfer_out a o) z).number y
joins-reach h (fetch_behind a) z told y = tt

along-reaches : (cs h : List Call) (z : State) → Well z → Told h z.rec → joined h cs z ≡ true → Reaches cs z
unfolding joined
along-reaches [] h z q told y = tt
along-reaches (c ∷ cs) h z q told y =
    let p = both_true (joins h c z) (joined (remembered c z h) cs (called c z).next) y in (
      joins-reach h c z told p.0,
      along-reaches cs (remembered c z h) (called c z).next (called-well c z q) (told-next h c z q told) p.1,
    )

-- at first, when no way has a line
pub told_none : (r : Record) → ((s w : ℕ) → l1d_line_at r s w ≡ empty_line) → ((t v : ℕ) → l2_line_at r t v ≡ empty_line) → Told [] r
told_none r l1d l2 =
    record {
      l2 = λ b h _ _ t v. let e = l2 t v in rw e (λ i. absurd (omega arith));
      l1d = λ l h _ _ s w. let e = l1d s w in rw e (λ i. absurd (omega arith));
    }

pub joined-reaches : (cs : List Call) (z : State) → Well z → ((s w : ℕ) → l1d_line_at z.rec s w ≡ empty_line) →
    ((t v : ℕ) → l2_line_at z.rec t v ≡ empty_line) → joined [] cs z ≡ true → Reaches cs z
joined-reaches cs z q l1d l2 y = along-reaches cs [] z q (told_none z.rec l1d l2) y
