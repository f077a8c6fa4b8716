-- Lists with fetches agree with flat memory (`chip-demand3`): of the data side's calls what demand 3 says, of a fetch
-- its number and each byte that was not written since a fresh start or a mode change.
-- Why: what a fetch is served by L2, SRAM or external memory is flat memory's where nothing was written, whatever L1D
-- holds above it (`unwritten-next`); L1P has what it was served, and flat memory has changed since then only where it
-- was written, but for a mode change, which drops every line of L1P (`L1pRight`).
use Prim.Native.Nat.{ℕ, ◌+◌, ◌*◌, ◌<◌}
use mathlib.Core.Bool.{Bool, true, false, cond, ◌||◌}
use mathlib.Core.Path.{◌≡◌, refl, sym, ap, ◌∙◌, subst, fun_ext}
use mathlib.Core.Logic.{⊎_elim}
use mathlib.Core.List.{List, [], ◌∷◌}
use native.Mathlib.Omega.{arith}
use lib.ListN.{length, get_or, set, replicate, length-replicate}
use lib.Dec.{eqb}
use borrow.Author.Tests.{eqb-true, eqb-false}
use Rattle.model.specs.Bytes.{part, stored}
use Rattle.model.specs.Memories.{legal_l2, legal_external}
use Rattle.model.specs.Lines.{l2_line, line_of}
use Rattle.model.specs.Records.{State, sram_of, fresh_record, fresh_state}
use Rattle.model.specs.Access.{cacheable}
use Rattle.model.specs.Refusals.{mode_due, block_due}
use Rattle.model.specs.Flat.{Flat, FlatReply, flat_reply, flat_handed_back, flat_part, fresh_flat, flat_due, flat_read, flat_write, flat_change, flat_step, flat_unaligned_due, flat_read_unaligned, flat_write_unaligned, flat_transfer_due, flat_transfer_in, flat_transfer_out, flat_fetch_due, flat_fetch, flat_called}
use Rattle.model.specs.Calls.{fetch_due_in, fetch_behind_done, fetch_behind_step, Call, one_command, fresh_start, look, read_unaligned, write_unaligned, transfer_in, transfer_out, fetch_behind, called}
use Rattle.model.specs.Laws.{bool, false-true, both_true, cond-elim, length_part, part_at}
use Rattle.model.specs.declared.Line.{Line}
use Rattle.model.specs.declared.Command.{Command}
use Rattle.agreement.specs.Covered.{remembered, transfer_joins}
use Rattle.agreement.specs.Demand.{listed_call, compared}
use Rattle.agreement.proofs.Memory.{read_at}
use Rattle.agreement.proofs.Good.{layout_of, Good, good-well, holds-tells}
use Rattle.agreement.proofs.Fetches.{fetch-tells, fetch-fits, fetch-good, fetch-step}
use Rattle.agreement.proofs.Changes.{fresh-l1d-empty, fresh-l2-empty}
use Rattle.agreement.proofs.Uncached.{Told, told-next, told_none, covered_next, Reach, transfer-reach}
use Rattle.agreement.proofs.Agreement.{flat_byte, Is, Matches, flat-fits, sram-below, call-agrees, call-matches, fresh-matches, fresh-accepted}
use Rattle.program.specs.L1p.{l1p_set_of, l1p_line, l1p_data, l1p_at, in_l1p, fresh_l1p, l1p_length, invalidate_l1p_block}
use Rattle.program.specs.Fetches.{Chip, chip, ChipReply, beside_l1p, fetch_hit, fetch_miss, fetch_done, fetch_step}
use Rattle.program.specs.Chip.{l1p_block_call, l1p_all_call, fetch_call, ChipCall, on_data, fetch, l1p_block, l1p_all, chip_called}
use Rattle.program.specs.Lists.{flat_chip, written_by, is_mode_change, written, as_calls, chip_joins, chip_joined, listed_chip, chip_listed, DataAgrees, FetchAgrees, ChipAgreesAt, ChipAgree, end, next, ChipDemand3, chip_remembered}
use Rattle.program.proofs.Unwritten.{Unwritten, renewed, behind, unwritten-next}
use Rattle.program.proofs.L1pLines.{L1pTidy, Fewer, fewer-own-block, fewer-own-all, tidy-fewer, tidy-fresh}
use Rattle.program.proofs.L1pRight.{L1pRight, right-fewer, right-later, right-filled, right-none, flat-kept}
use Rattle.program.proofs.ChipStays.{ChipWell, well-passes, Beside, l1p_hinders, command-beside, command-hindered, look-beside, read-unaligned-beside, write-unaligned-beside, transfer-in-beside, transfer-out-beside, done-well}

-- ---- flat memory keeps all where a call is refused, and where it is not compared
abbrev Same : Flat → FlatReply → Type 0
Same f r = eqb r.number 0 ≡ false → r.next ≡ f

unless-same : (f : Flat) (d : ℕ) (x y : FlatReply) → x.number ≡ 0 → y.next ≡ f → Same f (cond (eqb d 0) x y)
unless-same f d x y n e = cond-elim (Same f) (eqb d 0) x y (λ _ m. false-true (sym (rw n at m))) (λ _ _. e)

flat-refused : (c : Call) (f : Flat) → Same f (flat_called c f)
unfolding flat_step flat_read flat_write flat_change flat_read_unaligned flat_write_unaligned flat_transfer_in flat_transfer_out flat_fetch
flat-refused (one_command c) f =
    cond-elim (Same f) (eqb c.code 0) (flat_read c.first c.second f) _ (λ _. unless-same f (flat_due c.first c.second 0 f) _ _ refl refl)
    (λ _. cond-elim (Same f) (eqb c.code 1) (flat_write c.first c.second c.value f) _
    (λ _. unless-same f (flat_due c.first c.second c.value f) _ _ refl refl)
    (λ _. cond-elim (Same f) (eqb c.code 10) (flat_change c.first f) (flat_reply 0 0 f) (λ _. unless-same f (mode_due f.l2len c.first) _ _ refl refl) (λ _ _. refl)))
flat-refused fresh_start f = λ _. refl
flat-refused (look a) f = λ _. refl
flat-refused (read_unaligned n a) f = unless-same f (flat_unaligned_due n a 0 f) _ _ refl refl
flat-refused (write_unaligned n a v) f = unless-same f (flat_unaligned_due n a v f) _ _ refl refl
flat-refused (transfer_in a bs) f = unless-same f (flat_transfer_due (length bs) a f) _ _ refl refl
flat-refused (transfer_out a o) f = unless-same f (flat_transfer_due (length o) a f) _ _ refl refl
flat-refused (fetch_behind a) f = unless-same f (flat_fetch_due a f) _ _ refl refl

flat-unseen : (c : Call) (f : Flat) → compared c ≡ false → (flat_called c f).next ≡ f
unfolding flat_step flat_read flat_fetch
flat-unseen (one_command c) f n =
    let S : FlatReply → Type 0 = λ r. r.next ≡ f in
    cond-elim S (eqb c.code 0) (flat_read c.first c.second f) _ (λ _. cond-elim S (eqb (flat_due c.first c.second 0 f) 0) _ _ (λ _. refl) (λ _. refl))
    (λ t. cond-elim S (eqb c.code 1) (flat_write c.first c.second c.value f) _ (λ u. false-true (sym (rw (t, u) at n)))
    (λ u. cond-elim S (eqb c.code 10) (flat_change c.first f) (flat_reply 0 0 f) (λ v. false-true (sym (rw (t, u, v) at n))) (λ _. refl)))
flat-unseen fresh_start f n = refl
flat-unseen (look a) f n = refl
flat-unseen (read_unaligned m a) f n = false-true (sym n)
flat-unseen (write_unaligned m a v) f n = false-true (sym n)
flat-unseen (transfer_in a bs) f n = false-true (sym n)
flat-unseen (transfer_out a o) f n = false-true (sym n)
flat-unseen (fetch_behind a) f n = cond-elim (λ (r : FlatReply). r.next ≡ f) (eqb (flat_fetch_due a f) 0) _ _ (λ _. refl) (λ _. refl)

-- ---- what is kept along a list: hs are the accepted calls as the data side sees them, w what was written
record Fine (hs : List Call) (w : ℕ → Bool) (x : Chip) (f : Flat) : Type 0 where
  matches : Matches x.data_side f
  told : Told hs x.data_side.rec
  unwritten : Good x.data_side (Unwritten w f)
  tidy : L1pTidy (layout_of x.data_side.rec) x.lines
  long : length x.bytes ≡ 16384
  right : L1pRight w f x.lines x.bytes

fine-well : (hs : List Call) (w : ℕ → Bool) (x : Chip) (f : Flat) → Fine hs w x f → ChipWell x
fine-well hs w x f n = record { data_side = good-well x.data_side (Is f) n.matches.good; tidy = n.tidy; long = n.long }

or_left : (a b : Bool) → (a || b) ≡ false → (a ≡ false) × (b ≡ false)
or_left false b e = (refl, e)
or_left true b e = false-true (sym e)

module _ (hs : List Call) (w : ℕ → Bool) (x : Chip) (f : Flat) (n : Fine hs w x f) where
  abbrev z : State
  z = x.data_side

  -- L1P's bytes behind a call of the data side
  right-behind : (c : Call) → listed_call c ≡ true → Reach c z → (ls : List Line) → Fewer x.lines ls →
      (eqb (called c z).number 0 ≡ true → is_mode_change (on_data c) ≡ true → ls ≡ fresh_l1p) → L1pRight (behind c (called c z) w) (flat_called c f).next ls x.bytes
  right-behind c y reach ls fewer fresh =
      let f' = (flat_called c f).next in let rs = right-fewer w f x.lines ls x.bytes n.right n.tidy.long fewer in
      let sl = n.matches.sram in let most = n.matches.good.tidy.sizes.l2_most in
      bool (eqb (called c z).number 0)
      (λ t. bool (is_mode_change (on_data c))
      (λ u. let e = fresh t u in rw e (right-none (behind c (called c z) w) f' x.bytes))
      (λ u. rw (t, u) (right-later w (λ a. written_by (on_data c) a || w a) f f' ls x.bytes rs
      (λ a k. let p = or_left (written_by (on_data c) a) (w a) k in (p.1, flat-kept c f (omega arith) a u p.0)))))
      (λ t. let same : f' ≡ f = bool (compared c)
      (λ u. flat-refused c f (let e = (call-agrees c z f n.matches y reach).number u in rw e at t)) (λ u. flat-unseen c f u) in
      rw t (right-later w w f f' ls x.bytes rs (λ a k. (k, ap (λ (g : Flat). flat_byte g a) same))))

  -- a call of the data side, L1P being as it is then
  data-fine : (c : Call) → listed_call c ≡ true → Reach c z → (ls : List Line) (bs : List ℕ) → L1pTidy (layout_of (called c z).next.rec) ls → length bs ≡ 16384 →
      L1pRight (behind c (called c z) w) (flat_called c f).next ls bs →
      Fine (remembered c z hs) (behind c (called c z) w) (chip (called c z).next ls bs) (flat_called c f).next
  data-fine c y reach ls bs tidy long right =
      record {
        matches = call-matches c z f n.matches y reach;
        told = told-next hs c z (good-well z (Is f) n.matches.good) n.told;
        unwritten = unwritten-next c z f n.matches y reach w n.unwritten;
        tidy = tidy;
        long = long;
        right = right;
      }

  -- L1P alone loses lines
  fewer-fine : (ls : List Line) → Fewer x.lines ls → L1pTidy (layout_of z.rec) ls → Fine hs w (chip z ls x.bytes) f
  fewer-fine ls q t =
      record {
        matches = n.matches;
        told = n.told;
        unwritten = n.unwritten;
        tidy = t;
        long = n.long;
        right = right-fewer w f x.lines ls x.bytes n.right n.tidy.long q;
      }

-- one access more is told of, that changed nothing
told_more : (hs : List Call) (a : ℕ) (x : Chip) → Told hs x.data_side.rec → Told (fetch_behind a ∷ hs) x.data_side.rec
told_more hs a x t =
    record {
      l2 = λ b h al y. ⊎_elim (λ o. t.l2 b h al o) (λ o. false-true o) (covered_next 5 128 b b (fetch_behind a) hs y).1;
      l1d = λ l h al y. ⊎_elim (λ o. t.l1d l h al o) (λ o. false-true o) (covered_next 7 64 l (l2_line l) (fetch_behind a) hs y).1;
    }

-- ---- the accepted calls, one more
as-remembered : (b : Bool) (c : Call) (h : List ChipCall) → as_calls (cond b (on_data c ∷ h) h) ≡ cond b (c ∷ as_calls h) (as_calls h)
unfolding as_calls
as-remembered true c h = refl
as-remembered false c h = refl

written-remembered : (b : Bool) (c : Call) (h : List ChipCall) →
    written (cond b (on_data c ∷ h) h) ≡ cond b (cond (is_mode_change (on_data c)) (λ _. false) (λ a. written_by (on_data c) a || written h a)) (written h)
unfolding written
written-remembered true c h = fun_ext (λ a. bool (is_mode_change (on_data c)) (λ t. rw t refl) (λ t. rw t refl))
written-remembered false c h = refl

-- ---- one call: it agrees, and what is kept is kept
abbrev FineNext : List ChipCall → ChipCall → ChipReply → FlatReply → Type 0
FineNext h c r g =
    let k = cond (eqb r.number 0) (c ∷ h) h in Fine (as_calls k) (written k) r.next g.next

module _ (h : List ChipCall) (x : Chip) (f : Flat) (n : Fine (as_calls h) (written h) x f) where
  abbrev w : ChipWell x
  w = fine-well (as_calls h) (written h) x f n

  -- of the data side, where it leaves L1P's bytes alone
  beside-next : (c : Call) → Beside c x → listed_call c ≡ true → Reach c x.data_side →
      DataAgrees c (chip_called (on_data c) x) (flat_called c f) × FineNext h (on_data c) (chip_called (on_data c) x) (flat_called c f)
  beside-next c b y reach =
      let z = x.data_side in let a = call-agrees c z f n.matches y reach in let ok = eqb (called c z).number 0 in
      let fine = data-fine (as_calls h) (written h) x f n c y reach b.lines x.bytes b.tidy n.long
      (right-behind (as_calls h) (written h) x f n c y reach b.lines b.fewer b.renewed) in
      subst (λ (r : ChipReply). DataAgrees c r (flat_called c f) × FineNext h (on_data c) r (flat_called c f)) (sym b.same) (
        record { number = a.number; value = a.value; bytes = a.bytes; settled = a.settled },
        rw (as-remembered ok c h, written-remembered ok c h) fine,
      )

  -- a MAR change that L1P hinders
  hindered-next : (c : Command) → l1p_hinders c x.lines ≡ true →
      DataAgrees (one_command c) (chip_called (on_data (one_command c)) x) (flat_step c f) × FineNext h (on_data (one_command c)) (chip_called (on_data (one_command c)) x) (flat_step c f)
  unfolding flat_step
  hindered-next c y =
      let p = command-hindered x w c y in let z = x.data_side in let k = p.1 in
      let e = eqb-true c.code 11 (both_true (eqb c.code 11) _ y).0 in
      let g : flat_step c f ≡ flat_reply 0 0 f = rw e refl in
      rw g (subst (λ (r : ChipReply). DataAgrees (one_command c) r (flat_reply 0 0 f) × FineNext h (on_data (one_command c)) r (flat_reply 0 0 f)) (sym p.2) (
        record { number = λ u. false-true (rw e at u); value = λ u. false-true (rw e at u); bytes = λ u. false-true (rw e at u); settled = λ u. false-true (rw e at u) },
        rw k n,
      ))

  abbrev DataNext : Call → Type 0
  DataNext c = DataAgrees c (chip_called (on_data c) x) (flat_called c f) × FineNext h (on_data c) (chip_called (on_data c) x) (flat_called c f)

  data-next : (c : Call) → listed_chip (on_data c) ≡ true → chip_joins h (on_data c) x ≡ true → DataNext c
  data-next (one_command c) y j =
      bool (l1p_hinders c x.lines) (λ t. hindered-next c t) (λ t. beside-next (one_command c) (command-beside x w c t) y tt)
  data-next fresh_start y j = false-true y
  data-next (look a) y j = beside-next (look a) (look-beside x w a) y tt
  data-next (read_unaligned k a) y j = beside-next (read_unaligned k a) (read-unaligned-beside x w k a) y tt
  data-next (write_unaligned k a v) y j = beside-next (write_unaligned k a v) (write-unaligned-beside x w k a v) y tt
  data-next (transfer_in a bs) y j =
      let b = transfer-in-beside x w a bs in let m = (called (transfer_in a bs) x.data_side).number in
      let e : transfer_joins (as_calls h) a (length bs) (eqb m 0) ≡ true =
      ap (λ (r : ChipReply). transfer_joins (as_calls h) a (length bs) (eqb r.number 0)) (sym b.same) ∙ j in
      beside-next (transfer_in a bs) b y (transfer-reach (as_calls h) x.data_side n.told a (length bs) m e)
  data-next (transfer_out a o) y j =
      let b = transfer-out-beside x w a o in let m = (called (transfer_out a o) x.data_side).number in
      let e : transfer_joins (as_calls h) a (length o) (eqb m 0) ≡ true =
      ap (λ (r : ChipReply). transfer_joins (as_calls h) a (length o) (eqb r.number 0)) (sym b.same) ∙ j in
      beside-next (transfer_out a o) b y (transfer-reach (as_calls h) x.data_side n.told a (length o) m e)
  data-next (fetch_behind a) y j = false-true y

  -- ---- a fetch that is accepted
  abbrev FetchNext : ℕ → ChipReply → FlatReply → Type 0
  FetchNext a r g = FetchAgrees h a r g × FineNext h (fetch a) r g

  module _ (a : ℕ) (d : fetch_due_in x.data_side a ≡ 0) where
    abbrev z₀ : State
    z₀ = x.data_side

    flat-at : (i : ℕ) → i < 32 → get_or (flat_part a 32 f) i 0 ≡ flat_byte f (a + i)
    unfolding flat_part
    flat-at i k = read_at f.sram f.ext a 32 (flat-fits z₀ f n.matches 32 a (fetch-fits z₀ a d)) (sram-below z₀ f n.matches 32 a) i k

    abbrev flat_done : FlatReply
    flat_done = flat_handed_back 0 (flat_part a 32 f) f

    served : (cs : List ℕ) → ((i : ℕ) → i < 32 → written h (a + i) ≡ false → get_or cs i 0 ≡ flat_byte f (a + i)) →
        (i : ℕ) → i < 32 → written h (a + i) ≡ false → get_or cs i 0 ≡ get_or (flat_part a 32 f) i 0
    served cs r i k u = r i k u ∙ sym (flat-at i k)

    hit-next : in_l1p x.lines a ≡ true → FetchNext a (fetch_hit a x) flat_done
    unfolding fetch_hit in_l1p as_calls written
    hit-next y =
        let s = l1p_set_of a in let p = holds-tells (l1p_at x.lines s) (l1p_line a) y in let al = (fetch-tells (sram_of z₀.rec) z₀.rec.extlen a d).aligned in
        let here : (l1p_at x.lines s).address ≡ a = p.1 ∙ omega arith in let lo = n.long in let slot : l1p_data s ≡ s * 32 = omega arith in (
          record {
            number = refl;
            long = length_part x.bytes (l1p_data s) 32 (omega arith);
            byte = λ _. served (part x.bytes (l1p_data s) 32)
                (λ i k u. part_at x.bytes (l1p_data s) 32 i (omega arith) k
                ∙ rw slot (subst (λ (b : ℕ). written h (b + i) ≡ false → get_or x.bytes (s * 32 + i) 0 ≡ flat_byte f (b + i)) here (n.right s (omega arith) p.0 i k) u));
          },
          record { matches = n.matches; told = told_more (as_calls h) a x n.told; unwritten = n.unwritten; tidy = n.tidy; long = n.long; right = n.right },
        )

    -- what lies behind L1P gave the line
    behind-called : called (fetch_behind a) z₀ ≡ fetch_behind_done a z₀
    unfolding fetch_behind_step
    behind-called = fetch-step a z₀ w.data_side ∙ rw d refl

    behind-held : (i : ℕ) → i < 32 → written h (a + i) ≡ false → get_or (fetch_behind_done a z₀).bytes i 0 ≡ flat_byte f (a + i)
    unfolding fetch_behind_done
    behind-held = (fetch-good z₀ (Unwritten (written h) f) n.unwritten a d).held

    behind-long : length (fetch_behind_done a z₀).bytes ≡ 32
    unfolding fetch_behind_done
    behind-long = (fetch-good z₀ (Unwritten (written h) f) n.unwritten a d).long

    flat_keeps : (flat_called (fetch_behind a) f).next ≡ f
    flat_keeps = flat-unseen (fetch_behind a) f refl

    behind-fine : (ls : List Line) (bs : List ℕ) → L1pTidy (layout_of (fetch_behind_done a z₀).next.rec) ls → length bs ≡ 16384 → L1pRight (written h) f ls bs →
        Fine (fetch_behind a ∷ as_calls h) (written h) (chip (fetch_behind_done a z₀).next ls bs) f
    unfolding fetch_behind_done written
    behind-fine ls bs t l r =
        let e = behind-called in
        rw (e, flat_keeps) at
        (data-fine (as_calls h) (written h) x f n (fetch_behind a) refl tt ls bs (rw e t) l (rw (e, flat_keeps) r))

    behind-agrees : (r : ChipReply) → r.number ≡ 0 → r.bytes ≡ (fetch_behind_done a z₀).bytes → FetchAgrees h a r flat_done
    behind-agrees r e o = record { number = e; long = ap (λ (bs : List ℕ). length bs) o ∙ behind-long; byte = λ _. rw o (served (fetch_behind_done a z₀).bytes behind-held) }

    done_next : FetchNext a (fetch_done a x) flat_done
    unfolding fetch_done fetch_miss fetch_behind_done as_calls written
    done_next =
        let o = done-well x w a d in let tidy = o.tidy in let long = o.long in
        bool (cacheable z₀.rec a)
        (λ c. bool (in_l1p x.lines a) (λ y. rw (c, y) (hit-next y))
        (λ y. rw (c, y) (
          behind-agrees (fetch_miss a x) refl refl,
          behind-fine (set x.lines (l1p_set_of a) (line_of a false)) (stored x.bytes (l1p_data (l1p_set_of a)) (fetch_behind_done a z₀).bytes) (rw (c, y) at tidy) (rw (c, y) at long)
              (right-filled (written h) f x.lines x.bytes n.right n.tidy.long n.long a (fetch_behind_done a z₀).bytes behind-long behind-held),
        )))
        (λ c. rw c (behind-agrees (beside_l1p (fetch_behind_done a z₀) x) refl refl, behind-fine x.lines x.bytes (rw c at tidy) n.long n.right))

  fetch-next : (a : ℕ) → FetchNext a (fetch_call a x) (flat_fetch a f)
  unfolding fetch_call fetch_step flat_fetch
  fetch-next a =
      let d = fetch_due_in x.data_side a in let e : flat_fetch_due a f ≡ d = rw (n.matches.sram, n.matches.ext) refl in
      rw (well-passes x w, e) (bool (eqb d 0) (λ t. rw t (done_next a (eqb-true d 0 t)))
      (λ t. rw t (record { number = refl; long = refl; byte = λ o. absurd (eqb-false d 0 t o) }, rw t n)))

  -- ---- L1P's own invalidations
  block-next : (b c : ℕ) → FineNext h (l1p_block b c) (l1p_block_call b c x) (flat_reply 0 0 f)
  unfolding l1p_block_call as_calls written
  block-next b c =
      let d = block_due b c in let m = n.tidy in let q = fewer-own-block b c x.lines in
      rw (well-passes x w) (bool (eqb d 0)
      (λ t. rw t (fewer-fine (as_calls h) (written h) x f n (invalidate_l1p_block b c x.lines) q (tidy-fewer m q)))
      (λ t. rw (t, t) n))

  all-next : FineNext h l1p_all (l1p_all_call x) (flat_reply 0 0 f)
  unfolding l1p_all_call as_calls written
  all-next =
      let q = fewer-own-all x.lines n.tidy.long in
      rw (well-passes x w) (fewer-fine (as_calls h) (written h) x f n fresh_l1p q (tidy-fewer n.tidy q))

  call_next : (c : ChipCall) → listed_chip c ≡ true → chip_joins h c x ≡ true → ChipAgreesAt h c x f × FineNext h c (chip_called c x) (flat_chip c f)
  call_next (on_data c) y j = data-next c y j
  call_next (fetch a) y j = fetch-next a
  call_next (l1p_block b c) y j = (tt, block-next b c)
  call_next l1p_all y j = (tt, all-next)

-- ---- along a list
chip-agree : (cs h : List ChipCall) (x : Chip) (f : Flat) → Fine (as_calls h) (written h) x f → chip_listed cs ≡ true → chip_joined h cs x ≡ true → ChipAgree h cs x f
unfolding chip_listed chip_joined
chip-agree [] h x f n y j = end
chip-agree (c ∷ cs) h x f n y j =
    let p = both_true (listed_chip c) (chip_listed cs) y in
    let o = both_true (chip_joins h c x) (chip_joined (chip_remembered c x h) cs (chip_called c x).next) j in
    let s = call_next h x f n c p.0 o.0 in
    next s.0 (chip-agree cs (chip_remembered c x h) (chip_called c x).next (flat_chip c f).next s.1 p.1 o.1)

fresh-fine : (l : ℕ) (e : List ℕ) → legal_l2 l ≡ true → legal_external (length e) ≡ true →
    Fine [] (λ _. false) (chip (fresh_state l e) fresh_l1p (replicate l1p_length 0)) (fresh_flat l e)
unfolding fresh_state fresh_record
fresh-fine l e hl he =
    let m = fresh-matches l e hl he in let z = fresh_state l e in
    record {
      matches = m;
      told = told_none z.rec (fresh-l1d-empty (fresh_record l (length e)) refl) (fresh-l2-empty (fresh_record l (length e)) refl);
      unwritten = renewed z (fresh_flat l e) m refl refl refl refl (λ _. false);
      tidy = tidy-fresh (layout_of z.rec);
      long = length-replicate {A = ℕ} 16384 0;
      right = right-none (λ _. false) (fresh_flat l e) (replicate l1p_length 0);
    }

pub chip-demand3 : ChipDemand3
unfolding as_calls written
chip-demand3 d m e o cs y j =
    let p = fresh-accepted d m e o in let s = p.2 in
    rw s (chip-agree cs [] (chip (fresh_state (length m) e) fresh_l1p (replicate l1p_length 0)) (fresh_flat (length m) e) (fresh-fine (length m) e p.0 p.1) y (rw s at j))
