-- Frames (02, U14): the sums of each accepted frame are those of the camera's pixels, and a refused one changes nothing
-- (`frames-add-up`). Why, from what is shown of the calls: behind the two commands no line of either cache has a byte
-- of the place (`placed-uncached`), so that the transfer leaves the camera's bytes right there, whatever else is held
-- (`transferred-in-good`); and each read, one byte after another, reads right bytes (`read_up_lem`, `up-bytes`).
use Prim.Native.Nat.{ℕ, zero, suc, ◌+◌, ◌*◌, ◌-◌, ◌%◌, ◌≤◌, ◌<◌}
use mathlib.Core.Path.{◌≡◌, refl, sym, ap, ◌∙◌, subst}
use mathlib.Core.Logic.{◌≢◌}
use mathlib.Core.List.{List, [], ◌∷◌}
use native.Mathlib.Omega.{arith}
use lib.ListN.{length, get_or, replicate}
use lib.Dec.{leb, eqb}
use borrow.Author.Tests.{eqb-true, eqb-false, leb-true, le-leb, le-ltb, ne_eqb}
use Rattle.model.specs.Bytes.{little}
use Rattle.model.specs.Memories.{external_base}
use Rattle.model.specs.Lines.{l2_line}
use Rattle.model.specs.Records.{State}
use Rattle.model.specs.Access.{read_access}
use Rattle.model.specs.Commands.{block_end, l1d_writeback_invalidate_block, l2_writeback_invalidate_block}
use Rattle.model.specs.Refusals.{unless, lent_due, block_due, place_ok}
use Rattle.model.specs.Transfers.{transferred_in, transfer_length, transfer_due}
use Rattle.model.specs.Unaligned.{read_up}
use Rattle.model.specs.Trace.{command}
use Rattle.model.specs.Calls.{Reply, carried_out, command_due, command_state, accepted, read_done, step, call, transfer_due_in, transfer_in_step, transfer_in_call, after}
use Rattle.agreement.specs.Frames.{frame_length, turn_of, frame_place, placing_calls, frame_read, column_sum, column_sums, Framed, framed, refused_frame, frame_due, frame_due_in, frame_step, frame_call}
use Rattle.model.specs.Laws.{bool, cond-elim, lowest_due-none, unless-none, transfer-block}
use Rattle.agreement.specs.FrameSums.{pixel_sums, FrameAt, FramesAdd, FramesAddUp, FramesWorked, end, next}
use Rattle.agreement.proofs.Invariant.{Allowed, seen_only, Layout}
use Rattle.agreement.proofs.Memory.{Written}
use Rattle.agreement.proofs.Good.{layout_of, Anything, Well, good-well}
use Rattle.agreement.proofs.ReadWrite.{read-good, Step, Uncached}
use Rattle.agreement.proofs.Sweeps.{l1d_writeback_invalidate_block-good, l2_writeback_invalidate_block-good, l1d-block-gone}
use Rattle.agreement.proofs.Tested.{due-well, well-due, call_step}
use Rattle.agreement.proofs.Unaligned.{AllFit, read_up_lem, up-bytes}
use Rattle.agreement.proofs.Transfers.{sent-uncached, transferred-in-good, transfer-in-step}
use Rattle.agreement.proofs.Comers.{NoL2, no-l2, l1d_block-stays}
use Rattle.agreement.proofs.Uncached.{l2-block-gone}

-- ---- what number 0 tells
pub frame-tells : (e n : ℕ) → frame_due e n ≡ 0 → (6144 ≤ e) × (n ≡ 3072)
unfolding frame_due
frame-tells e n d =
    let p = lowest_due-none (leb 6144 e) 18 (unless (eqb n 3072) 20) d in
    (leb-true 6144 e p.0, eqb-true n 3072 (unless-none (eqb n 3072) 19 p.1))

one_byte : (bs : List ℕ) → length bs ≡ 1 → little bs ≡ get_or bs 0 0
unfolding little
one_byte [] h = absurd (omega arith)
one_byte (b ∷ []) h = omega arith
one_byte (b ∷ c ∷ bs) h = absurd (omega arith)

-- ---- both commands are accepted, and what they do
pub block-accepted : (t : ℕ) → block_due (frame_place t) 768 ≡ 0
unfolding block_due
block-accepted t = let e : frame_place t % 4 ≡ 0 = omega arith in rw e refl

module _ (t : ℕ) (z : State) (q : Well z) where
  pub command-5 : call (command 5 (frame_place t) 768 0) z ≡ carried_out (l2_writeback_invalidate_block (frame_place t) 768 z)
  unfolding step command_due accepted command_state
  command-5 = let e = block-accepted t in call_step (command 5 (frame_place t) 768 0) z q ∙ rw e refl

  pub command-7 : call (command 7 (frame_place t) 768 0) z ≡ carried_out (l1d_writeback_invalidate_block (frame_place t) 768 z)
  unfolding step command_due accepted command_state
  command-7 = let e = block-accepted t in call_step (command 7 (frame_place t) 768 0) z q ∙ rw e refl

-- ---- the calls of a frame, on a well-formed state with room for both places
module _ (t : ℕ) (px : List ℕ) (z : State) (q : Well z) (room : 6144 ≤ z.rec.extlen) (long : length px ≡ 3072) where
  abbrev p : ℕ
  p = frame_place t

  abbrev z₁ : State
  z₁ = l2_writeback_invalidate_block p 768 z

  abbrev z₂ : State
  z₂ = l1d_writeback_invalidate_block p 768 z₁

  abbrev z₃ : State
  z₃ = transferred_in p px z₂

  step₁ : Step z Anything z₁
  step₁ = l2_writeback_invalidate_block-good z Anything q p 768

  step₂ : Step z₁ Anything z₂
  step₂ = l1d_writeback_invalidate_block-good z₁ Anything step₁.good p 768

  placed-uncached : Uncached z₂ p 3072
  placed-uncached b from to =
      let end = transfer-block p 3072 refl (omega arith) in
      let to' : b < block_end p 768 = rw end to in
      let n = l1d_block-stays (NoL2 (l2_line b)) (no-l2 (l2_line b) (omega arith)) p 768 z₁ (l2-block-gone z q p 768 b (omega arith) from to' (omega arith)) in
      (l1d-block-gone z₁ Anything step₁.good p 768 b (omega arith) from to', λ u v _ e. n u v e)

  -- E is what it was, and the place lies in external memory
  same-ext : z₂.rec.extlen ≡ z.rec.extlen
  same-ext = ap (λ (g : Layout). g.ext) step₂.kept.layout ∙ ap (λ (g : Layout). g.ext) step₁.kept.layout

  transfer-accepted : transfer_due_in z₂ (length px) p ≡ 0
  unfolding transfer_due transfer_length place_ok
  transfer-accepted =
      let e = same-ext in let a : p % 4 ≡ 0 = omega arith in
      rw (long, a, le-ltb p external_base (omega arith), le-leb (p + 3072) (external_base + z₂.rec.extlen) (omega arith)) refl

  -- ---- right is now: at the place, the camera's byte
  abbrev Camera : Allowed
  Camera = seen_only (λ a c. p ≤ a → a < p + 3072 → c ≡ get_or px (a - p) 0)

  camera-written : Written Anything Camera p px
  camera-written =
      let l = long in
      record {
        puts = record { inside = λ c h k _ _. refl; outside = λ c h d _ f k. let g = h f in absurd (omega arith) };
        grows = record { held = λ _ _ _. refl; alike = λ _ _ _. refl };
      }

  step₃ : Step z₂ Camera z₃
  step₃ =
      transferred-in-good z₂ Anything Camera step₂.good p px camera-written transfer-accepted
      (sent-uncached z₂ Anything step₂.good (length px) p transfer-accepted (λ _. rw long placed-uncached))

  moved : transfer_in_step p px z₂ ≡ carried_out z₃
  unfolding transfer_in_step
  moved = let d = transfer-accepted in rw d refl

  placed : after (placing_calls t px) z ≡ z₃
  unfolding after
  placed =
      ap (λ (r : Reply). (transfer_in_call p px (call (command 7 p 768 0) r.next).next).next) (command-5 t z q)
      ∙ ap (λ (r : Reply). (transfer_in_call p px r.next).next) (command-7 t z₁ step₁.good)
      ∙ ap (λ (r : Reply). r.next) (transfer-in-step p px z₂ step₂.good ∙ moved)

  all_there : AllFit (layout_of z₃.rec) p 3072
  all_there =
      let e = same-ext in let e' = ap (λ (g : Layout). g.ext) step₃.kept.layout in
      record { fits = λ k h. record { low = λ l. absurd (omega arith); high = λ _. omega arith } }

  -- ---- each read gives its pixel
  pixel : (i : ℕ) → i < 3072 → ((frame_read t px i z).number ≡ 0) × ((frame_read t px i z).value ≡ get_or px i 0)
  unfolding read_done
  pixel i h =
      let f = all_there in let o = placed in
      let e = (up-bytes z₃ (good-well z₃ Camera step₃.good) 3072 p f).each-byte i h in
      let r = read_up_lem z₃ Camera step₃.good p i (record { fits = λ k l. f.fits k (omega arith) }) in
      let y = (read_up i p z₃).next in
      let g = read-good y Camera r.good (p + i) 0 (rw r.kept.layout (f.fits i h)) (omega arith) in
      let j : p + i + 0 - p ≡ i = omega arith in
      let v : get_or (read_access 1 (p + i) y).bytes 0 0 ≡ get_or px i 0 = rw j at (g.right 0 (omega arith) (omega arith) (omega arith)) in
      rw (o, e) (refl, one_byte (read_access 1 (p + i) y).bytes g.long ∙ v)

  next-well : Well (framed t px z).next
  unfolding framed
  next-well =
      let f = all_there in let o = placed in let w = good-well z₃ Camera step₃.good in
      let e = (up-bytes z₃ w 3072 p f).next in
      rw (o, ← e) (read_up_lem z₃ Anything w p 3072 f).good

-- ---- the sums of equal values are equal
column-same : (f g : ℕ → ℕ) (n : ℕ) → ((i : ℕ) → i < n * 64 → f i ≡ g i) → (c : ℕ) → c < 64 → column_sum f c n ≡ column_sum g c n
unfolding column_sum
column-same f g zero h c l = refl
column-same f g (suc n) h c l = rw (column-same f g n (λ i k. h i (omega arith)) c l, h (n * 64 + c) (omega arith)) refl

pub columns-same : (f g : ℕ → ℕ) → ((i : ℕ) → i < 3072 → f i ≡ g i) → (n : ℕ) → n ≤ 64 → (cs : List ℕ) → column_sums f n cs ≡ column_sums g n cs
unfolding column_sums
columns-same f g h zero l cs = refl
columns-same f g h (suc n) l cs =
    rw (column-same f g 48 h n (omega arith)) (columns-same f g h n (omega arith) (column_sum g n 48 ∷ cs))

-- ---- one frame: what is said of its reply, and the next one finds a well-formed state
record Good-frame (t : ℕ) (px : List ℕ) (z : State) (r : Framed) : Type 0 where
  sums : r.number ≡ 0 → r.sums ≡ pixel_sums px
  reads : r.number ≡ 0 → (i : ℕ) → i < frame_length → ((frame_read t px i z).number ≡ 0) × ((frame_read t px i z).value ≡ get_or px i 0)
  stays : r.number ≢ 0 → r.turn ≡ turn_of t
  none : r.number ≢ 0 → r.sums ≡ replicate 64 0
  unchanged : r.number ≢ 0 → r.next ≡ z
  well : Well r.next

frame_step_lem : (t : ℕ) (px : List ℕ) (z : State) → Well z → frame_call t px z ≡ frame_step t px z
unfolding frame_call
frame_step_lem t px z q = rw (well-due z q) refl

pub frame-accepted : (t : ℕ) (px : List ℕ) (z : State) → Well z → (frame_call t px z).number ≡ 0 → frame_due_in z (length px) ≡ 0
unfolding frame_step
frame-accepted t px z q =
    let d = frame_due_in z (length px) in
    rw (frame_step_lem t px z q) (cond-elim (λ (r : Framed). r.number ≡ 0 → d ≡ 0) (eqb d 0) (framed t px z) (refused_frame d t z) (λ u _. eqb-true d 0 u) (λ _ n. n))

frame-good : (t : ℕ) (px : List ℕ) (z : State) → Well z → Good-frame t px z (frame_step t px z)
unfolding frame_step framed
frame-good t px z q =
    let d = frame_due_in z (length px) in
    cond-elim (Good-frame t px z) (eqb d 0) (framed t px z) (refused_frame d t z)
    (λ u. let a = frame-tells z.rec.extlen (length px) (eqb-true d 0 u) in let r = pixel t px z q a.0 a.1 in
    record {
      sums = λ _. columns-same (λ i. (frame_read t px i z).value) (λ i. get_or px i 0) (λ i h. (r i h).1) 64 (omega arith) [];
      reads = λ _. r;
      stays = λ n. absurd (n refl);
      none = λ n. absurd (n refl);
      unchanged = λ n. absurd (n refl);
      well = next-well t px z q a.0 a.1;
    })
    (λ u. let n = eqb-false d 0 u in record { sums = λ o. absurd (n o); reads = λ o. absurd (n o); stays = λ _. refl; none = λ _. refl; unchanged = λ _. refl; well = q })

frame-called : (t : ℕ) (px : List ℕ) (z : State) → Well z → Good-frame t px z (frame_call t px z)
frame-called t px z q = subst (Good-frame t px z) (sym (frame_step_lem t px z q)) (frame-good t px z q)

-- of a well-formed state: the sums of an accepted one, and what it leaves
pub frame-adds : (t : ℕ) (px : List ℕ) (z : State) → Well z → ((frame_call t px z).number ≡ 0 → (frame_call t px z).sums ≡ pixel_sums px) × Well (frame_call t px z).next
frame-adds t px z q = let r = frame-called t px z q in (r.sums, r.well)

-- one that check 1 or 2 refuses, and the next one finds the state as it was
frame-unfit : (t : ℕ) (px : List ℕ) (z : State) → lent_due z ≢ 0 → frame_call t px z ≡ refused_frame (lent_due z) t z
unfolding frame_call
frame-unfit t px z n = rw (ne_eqb (lent_due z) 0 n) refl

unfit-at : (t : ℕ) (px : List ℕ) (z : State) → lent_due z ≢ 0 → FrameAt t px z
unfit-at t px z n =
    let e = frame-unfit t px z n in let m : (frame_call t px z).number ≢ 0 = λ o. n (sym (ap (λ (r : Framed). r.number) e) ∙ o) in
    record {
      sums = λ o. absurd (m o);
      reads = λ o. absurd (m o);
      stays = λ _. ap (λ (r : Framed). r.turn) e;
      none = λ _. ap (λ (r : Framed). r.sums) e;
      unchanged = λ _. ap (λ (r : Framed). r.next) e;
      fit = λ d. absurd (n d);
    }

-- ---- every list of frames
pub frames-add-up : FramesAddUp
frames-add-up z s t pxs = bool (eqb (lent_due z) 0) (λ u. go pxs t z (due-well z s (eqb-true (lent_due z) 0 u))) (λ u. none pxs t z (eqb-false (lent_due z) 0 u))
  where
    go : (pxs : List (List ℕ)) (t : ℕ) (z : State) → Well z → FramesAdd pxs t z
    go [] t z q = end
    go (px ∷ pxs) t z q =
        let r = frame-called t px z q in
        next (record { sums = r.sums; reads = r.reads; stays = r.stays; none = r.none; unchanged = r.unchanged; fit = λ _. well-due (frame_call t px z).next r.well })
        (go pxs (frame_call t px z).turn (frame_call t px z).next r.well)

    none : (pxs : List (List ℕ)) (t : ℕ) (z : State) → lent_due z ≢ 0 → FramesAdd pxs t z
    none [] t z n = end
    none (px ∷ pxs) t z n =
        let e = ap (λ (r : Framed). r.next) (frame-unfit t px z n) in
        next (unfit-at t px z n) (none pxs (frame_call t px z).turn (frame_call t px z).next (subst (λ (y : State). lent_due y ≢ 0) (sym e) n))

-- ---- what is computed
pub frames-worked : FramesWorked
unfolding column_sum column_sums frame_due
frames-worked =
    record {
      places = (refl, (refl, refl));
      turns = (refl, (refl, refl));
      columns = refl;
      sums = (refl, (refl, refl));
      numbers = (refl, (refl, (refl, refl)));
    }
