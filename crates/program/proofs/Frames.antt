-- Frames on the chip: an accepted one is its calls, L1P's lines included (`chip-frame-is-calls`), and its sums are
-- those of the camera's pixels (`chip-frames-add-up`). Why: of its calls the first alone, the L2 block
-- writeback-invalidate, drops lines of L1P; the others leave L1P alone (`quiet-along`). What the data side does is what
-- it does without L1P, and of that crate agreement shows the rest.
use Prim.Native.Nat.{ℕ, zero, suc, ◌+◌}
use mathlib.Core.Bool.{Bool, true, false, cond}
use mathlib.Core.Path.{◌≡◌, refl, sym, ap, ◌∙◌, subst}
use mathlib.Core.Logic.{◌≢◌}
use mathlib.Core.List.{List, [], ◌∷◌, ◌++◌}
use native.Mathlib.Omega.{arith}
use lib.ListN.{length}
use lib.Dec.{eqb}
use borrow.Author.Tests.{eqb-true, eqb-false, ne_eqb}
use Rattle.model.specs.Basics.{each}
use Rattle.model.specs.Records.{State}
use Rattle.model.specs.Trace.{command}
use Rattle.model.specs.Calls.{command_due, call, Call, one_command, transfer_in, called, after}
use Rattle.model.specs.Bytewise.{byte_read, calls_to}
use Rattle.model.specs.Laws.{bool}
use Rattle.model.specs.declared.Line.{Line}
use Rattle.model.specs.declared.Left.TheVariants.{NoWay}
use Rattle.model.specs.declared.Command.{Command}
use Rattle.agreement.specs.Frames.{frame_length, frame_place, placing_calls, frame_read, framed, refused_frame, frame_due_in, frame_step, frame_call}
use Rattle.agreement.specs.FrameSums.{reads_from, frame_calls, FrameAt, FramesAdd}
use Rattle.agreement.specs.FrameSums as F
use Rattle.agreement.proofs.Tested.{well-due, well-shape}
use Rattle.agreement.proofs.Stays.{after-append}
use Rattle.agreement.proofs.Frames.{block-accepted, frames-add-up}
use Rattle.agreement.proofs.FrameLists.{reads-after, frame-is-calls}
use Rattle.program.specs.L1p.{drop_under_block}
use Rattle.program.specs.Fetches.{Chip, chip, ChipReply, with_l1p, beside_l1p}
use Rattle.program.specs.Chip.{lines_after, chip_lent_due, behind_checks, on_data, chip_called}
use Rattle.program.specs.Runs.{ChipFramed, with_frame, chip_frame_step, chip_frame_call, chip_after, on_data_all}
use Rattle.program.specs.Frames.{chip_frame_calls, ChipFrameIsCalls, chip_frame_read, ChipFrameAt, ChipFramesAdd, end, next, ChipFramesAddUp}
use Rattle.program.proofs.ChipStays.{ChipWell, well-passes, l1p_hinders, command-form, chip-stays}
use Rattle.program.proofs.Stays.{due-well-chip, after-well-chip}

-- ---- calls of the data side that leave L1P alone
abbrev Quiet : Call → Type 0
Quiet c = (x : Chip) → ChipWell x → chip_called (on_data c) x ≡ beside_l1p (called c x.data_side) x

abbrev AllQuiet : List Call → Type 0
AllQuiet [] = Unit {0}
AllQuiet (c ∷ cs) = Quiet c × AllQuiet cs

either : (b : Bool) (ls ks : List Line) → ks ≡ ls → cond b ks ls ≡ ls
either true ls ks e = e
either false ls ks e = refl

quiet-command : (c : Command) → ((z : State) (ls : List Line) → lines_after c z ls ≡ ls) → ((ls : List Line) → l1p_hinders c ls ≡ false) → Quiet (one_command c)
quiet-command c k n x w =
    let z = x.data_side in
    command-form x w c (n x.lines)
    ∙ ap (λ (ls : List Line). with_l1p NoWay ls x.bytes (call c z)) (either (eqb (command_due c z) 0) x.lines (lines_after c z x.lines) (k z x.lines))

quiet-transfer : (a : ℕ) (bs : List ℕ) → Quiet (transfer_in a bs)
unfolding behind_checks
quiet-transfer a bs x w = rw (well-passes x w) refl

quiet_read : (p i : ℕ) → Quiet (one_command (byte_read p i))
unfolding lines_after
quiet_read p i = quiet-command (byte_read p i) (λ _ _. refl) (λ _. refl)

pub quiet-7 : (a b : ℕ) → Quiet (one_command (command 7 a b 0))
unfolding lines_after
quiet-7 a b = quiet-command (command 7 a b 0) (λ _ _. refl) (λ _. refl)

quiet-reads : (p i n : ℕ) → AllQuiet (reads_from p i n)
unfolding reads_from
quiet-reads p i zero = tt
quiet-reads p i (suc n) = (quiet_read p i, quiet-reads p (suc i) n)

-- one after another: the data side's state, L1P as it was
quiet-along : (cs : List Call) → AllQuiet cs → (x : Chip) → ChipWell x → chip_after (on_data_all cs) x ≡ chip (after cs x.data_side) x.lines x.bytes
unfolding chip_after after
quiet-along [] q x w = refl
quiet-along (c ∷ cs) (q, qs) x w =
    let e = q x w in let x' = chip (called c x.data_side).next x.lines x.bytes in
    ap (λ (r : ChipReply). chip_after (on_data_all cs) r.next) e
    ∙ quiet-along cs qs x' (subst (λ (r : ChipReply). ChipWell r.next) e (chip-stays (on_data c) x w))

-- ---- a refused frame is no call
refused_none : (t : ℕ) (px : List ℕ) (x : Chip) → (chip_frame_call t px x).number ≢ 0 → chip_after (chip_frame_calls t px x) x ≡ x
unfolding chip_after
refused_none t px x o = rw (ne_eqb (chip_frame_call t px x).number 0 o) refl

-- ---- the calls of a frame up to read n
module _ (t : ℕ) (px : List ℕ) (x : Chip) (w : ChipWell x) where
  abbrev p : ℕ
  p = frame_place t

  abbrev z : State
  z = x.data_side

  abbrev lines : List Line
  lines = drop_under_block z p 768 x.lines

  abbrev front : ℕ → List Call
  front n = placing_calls t px ++ reads_from p 0 n

  pub first-called : chip_called (on_data (one_command (command 5 p 768 0))) x ≡ with_l1p NoWay lines x.bytes (call (command 5 p 768 0) z)
  unfolding command_due lines_after
  first-called = let e = block-accepted t in rw e at (command-form x w (command 5 p 768 0) refl)

  front-after : (n : ℕ) → chip_after (on_data_all (front n)) x ≡ chip (after (front n) z) lines x.bytes
  unfolding chip_after after
  front-after n =
      let c : Call = one_command (command 5 p 768 0) in let rest : List Call = one_command (command 7 p 768 0) ∷ transfer_in p px ∷ reads_from p 0 n in
      let e = first-called in let x₁ = chip (called c z).next lines x.bytes in
      ap (λ (r : ChipReply). chip_after (on_data_all rest) r.next) e
      ∙ quiet-along rest (quiet-7 p 768, (quiet-transfer p px, quiet-reads p 0 n)) x₁ (subst (λ (r : ChipReply). ChipWell r.next) e (chip-stays (on_data c) x w))

  -- read i, as the data side's
  reads-front : (i : ℕ) → after (front i) z ≡ calls_to (byte_read p) i (after (placing_calls t px) z)
  unfolding each
  reads-front i =
      let y = after (placing_calls t px) z in let e : i + 0 ≡ i = omega arith in
      after-append (placing_calls t px) (reads_from p 0 i) z ∙ reads-after p 0 i y ∙ ap (λ (k : ℕ). calls_to (byte_read p) k y) e

  read-called : (i : ℕ) → ((chip_frame_read t px i x).number ≡ (frame_read t px i z).number) × ((chip_frame_read t px i x).value ≡ (frame_read t px i z).value)
  read-called i =
      let x₁ = chip (calls_to (byte_read p) i (after (placing_calls t px) z)) lines x.bytes in
      let e : chip_after (on_data_all (front i)) x ≡ x₁ = front-after i ∙ ap (λ (y : State). chip y lines x.bytes) (reads-front i) in
      let w₁ : ChipWell x₁ = subst ChipWell e (after-well-chip (on_data_all (front i)) x w) in
      let r = ap (chip_called (on_data (one_command (byte_read p i)))) e ∙ quiet_read p i x₁ w₁ in
      (ap (λ (y : ChipReply). y.number) r, ap (λ (y : ChipReply). y.value) r)

  -- ---- the frame: the data side's, beside L1P without the lines that its first call drops
  abbrev lines_left : List Line
  lines_left = cond (eqb (frame_call t px z).number 0) lines x.lines

  pub frame-form : chip_frame_call t px x ≡ with_frame lines_left x.bytes (frame_call t px z)
  unfolding chip_frame_call chip_frame_step frame_call frame_step framed
  frame-form =
      let d = frame_due_in z (length px) in
      rw (well-passes x w, well-due z w.data_side) (bool (eqb d 0) (λ u. rw u refl) (λ u. rw (u, u) refl))

  pub called-after : (chip_frame_call t px x).next ≡ chip_after (chip_frame_calls t px x) x
  unfolding chip_after after frame_calls
  called-after =
      let e = frame-form in let m = frame-is-calls t px z in let n = (frame_call t px z).number in
      let same : (chip_frame_call t px x).number ≡ n = ap (λ (r : ChipFramed). r.number) e in
      let here : (chip_frame_call t px x).next ≡ chip (frame_call t px z).next lines_left x.bytes = ap (λ (r : ChipFramed). r.next) e in
      here ∙ ap (λ (y : State). chip y lines_left x.bytes) m
      ∙ (bool (eqb n 0) (λ u. rw (same, u) (sym (front-after frame_length))) (λ u. rw (same, u) refl))

  -- what is said of it, from what is said of the data side's
  frame_at : FrameAt t px z → ChipFrameAt t px x
  frame_at a =
      let e = frame-form in let n = (frame_call t px z).number in
      let same : (chip_frame_call t px x).number ≡ n = ap (λ (r : ChipFramed). r.number) e in
      let turn = ap (λ (r : ChipFramed). r.turn) e in let total = ap (λ (r : ChipFramed). r.sums) e in let came = called-after in
      record {
        sums = λ o. total ∙ a.sums (sym same ∙ o);
        reads = λ o i h. let r = a.reads (sym same ∙ o) i h in let c = read-called i in (c.0 ∙ r.0, c.1 ∙ r.1);
        stays = λ o. turn ∙ a.stays (λ y. o (same ∙ y));
        none = λ o. total ∙ a.none (λ y. o (same ∙ y));
        unchanged = λ o. came ∙ refused_none t px x o;
        fit = λ _. well-passes (chip_frame_call t px x).next (subst ChipWell (sym came) (after-well-chip (chip_frame_calls t px x) x w));
      }

-- ---- one that check 1 or 2 refuses
unfit : (t : ℕ) (px : List ℕ) (x : Chip) → chip_lent_due x ≢ 0 → chip_frame_call t px x ≡ with_frame x.lines x.bytes (refused_frame (chip_lent_due x) t x.data_side)
unfolding chip_frame_call
unfit t px x n = rw (ne_eqb (chip_lent_due x) 0 n) refl

unfit-at : (t : ℕ) (px : List ℕ) (x : Chip) → chip_lent_due x ≢ 0 → ChipFrameAt t px x
unfit-at t px x n =
    let e = unfit t px x n in let m : (chip_frame_call t px x).number ≢ 0 = λ o. n (sym (ap (λ (r : ChipFramed). r.number) e) ∙ o) in
    record {
      sums = λ o. absurd (m o);
      reads = λ o. absurd (m o);
      stays = λ _. ap (λ (r : ChipFramed). r.turn) e;
      none = λ _. ap (λ (r : ChipFramed). r.sums) e;
      unchanged = λ _. ap (λ (r : ChipFramed). r.next) e;
      fit = λ d. absurd (n d);
    }

pub chip-frame-is-calls : ChipFrameIsCalls
chip-frame-is-calls t px x s =
    bool (eqb (chip_lent_due x) 0) (λ u. called-after t px x (due-well-chip x s (eqb-true (chip_lent_due x) 0 u)))
    (λ u. let n = eqb-false (chip_lent_due x) 0 u in let e = unfit t px x n in
    ap (λ (r : ChipFramed). r.next) e ∙ sym (refused_none t px x (λ o. n (sym (ap (λ (r : ChipFramed). r.number) e) ∙ o))))

-- ---- every list of frames
data-at : (t : ℕ) (px : List ℕ) (z : State) → FramesAdd (px ∷ []) t z → FrameAt t px z
data-at t px z (F.next a b) = a

pub well-frame-at : (t : ℕ) (px : List ℕ) (x : Chip) → ChipWell x → ChipFrameAt t px x
well-frame-at t px x w =
    let z = x.data_side in frame_at t px x w (data-at t px z (frames-add-up z (well-shape z w.data_side) t (px ∷ [])))

pub frame-well-chip : (t : ℕ) (px : List ℕ) (x : Chip) → ChipWell x → ChipWell (chip_frame_call t px x).next
frame-well-chip t px x w = subst ChipWell (sym (called-after t px x w)) (after-well-chip (chip_frame_calls t px x) x w)

pub chip-frames-add-up : ChipFramesAddUp
chip-frames-add-up x s t pxs =
    bool (eqb (chip_lent_due x) 0) (λ u. go pxs t x (due-well-chip x s (eqb-true (chip_lent_due x) 0 u))) (λ u. none pxs t x (eqb-false (chip_lent_due x) 0 u))
  where
    go : (pxs : List (List ℕ)) (t : ℕ) (x : Chip) → ChipWell x → ChipFramesAdd pxs t x
    go [] t x w = end
    go (px ∷ pxs) t x w = next (well-frame-at t px x w) (go pxs (chip_frame_call t px x).turn (chip_frame_call t px x).next (frame-well-chip t px x w))

    none : (pxs : List (List ℕ)) (t : ℕ) (x : Chip) → chip_lent_due x ≢ 0 → ChipFramesAdd pxs t x
    none [] t x n = end
    none (px ∷ pxs) t x n =
        let e = ap (λ (r : ChipFramed). r.next) (unfit t px x n) in
        next (unfit-at t px x n) (none pxs (chip_frame_call t px x).turn (chip_frame_call t px x).next (subst (λ (y : Chip). chip_lent_due y ≢ 0) (sym e) n))
