-- U8 for lists that hold frames (`same-frame-behaviour`, `same-sums`, `one-byte-in-frames`). Why: a frame's number goes
-- by the record and by lengths alone (`frame-number`), so that two such frames are lists of calls that differ in what
-- is written alone, and what is shown of lists of calls applies. The sums of an accepted frame are its pixels' and
-- those of a refused one 0 (crate agreement).
use Prim.Native.Nat.{ℕ}
use mathlib.Core.Bool.{cond}
use mathlib.Core.Path.{◌≡◌, refl, sym, ap, ◌∙◌}
use mathlib.Core.List.{List, [], ◌∷◌, ◌++◌}
use lib.ListN.{length}
use lib.Dec.{eqb}
use borrow.Author.Tests.{eqb-true, eqb-false}
use Rattle.model.specs.Records.{State}
use Rattle.model.specs.Refusals.{lent_due}
use Rattle.model.specs.Calls.{Call, one_command, fresh_start, look, read_unaligned, write_unaligned, transfer_in, transfer_out, fetch_behind, called, after}
use Rattle.model.specs.Laws.{bool}
use Rattle.agreement.specs.Frames.{frame_length, turn_of, frame_place, next_turn, frame_due_in, framed, frame_step, frame_call}
use Rattle.agreement.specs.FrameSums.{FramesAdd, Item, single, frame, reads_from, frame_calls, item_calls, expanded}
use Rattle.agreement.specs.FrameSums as Sums
use Rattle.agreement.proofs.Frames.{frames-add-up}
use Rattle.agreement.proofs.FrameLists.{frame-is-calls}
use Rattle.two_runs.specs.TwoRuns.{SameButStored, SameButWritten, same_command, same_start, same_look, same_read, same_write, same_in, same_out, same_fetch, ListsSameButWritten}
use Rattle.two_runs.specs.TwoRuns as Says
use Rattle.two_runs.specs.Frames.{same_single, same_frame, FramesShared, ItemsShared, SameFrameBehaviour, SameSums, OneByteInFrames}
use Rattle.two_runs.specs.Frames as Tells
use Rattle.two_runs.proofs.Along.{along-start}
use Rattle.two_runs.proofs.Behaviour.{lent-due, shared, called_same, same-behaviour}
use Rattle.two_runs.proofs.OneByte.{one-byte-stays}

-- ---- a frame's number and the turn behind it
frame-number : (t : ℕ) (px : List ℕ) (z : State) → (frame_call t px z).number ≡ cond (eqb (lent_due z) 0) (frame_due_in z (length px)) (lent_due z)
unfolding frame_call frame_step framed
frame-number t px z =
    let n = frame_due_in z (length px) in
    bool (eqb (lent_due z) 0) (λ u. rw u (bool (eqb n 0) (λ v. rw v (sym (eqb-true n 0 v))) (λ v. rw v refl))) (λ u. rw u refl)

frame-turn : (t : ℕ) (px : List ℕ) (z : State) → (frame_call t px z).turn ≡ cond (eqb (frame_call t px z).number 0) (next_turn t) (turn_of t)
unfolding frame_call frame_step framed
frame-turn t px z =
    let n = frame_due_in z (length px) in
    bool (eqb (lent_due z) 0) (λ u. rw u (bool (eqb n 0) (λ v. rw v refl) (λ v. rw (v, v) refl))) (λ u. rw (u, u) refl)

module _ (z z' : State) (s : SameButStored z z') (t : ℕ) (px px' : List ℕ) (e : length px ≡ length px') where
  same_number : (frame_call t px z).number ≡ (frame_call t px' z').number
  same_number =
      let l = lent-due z z' s in let r = s.rec in
      frame-number t px z ∙ rw (l, r, e) (sym (frame-number t px' z'))

  same_turn : (frame_call t px z).turn ≡ (frame_call t px' z').turn
  same_turn = frame-turn t px z ∙ ap (λ (n : ℕ). cond (eqb n 0) (next_turn t) (turn_of t)) same_number ∙ sym (frame-turn t px' z')

-- ---- lists of calls that differ in what is written alone
same-call : (c : Call) → SameButWritten c c
same-call (one_command c) = same_command {k = c.code} {a = c.first} {b = c.second} {v = c.value} {v' = c.value} (λ _ _. refl)
same-call fresh_start = same_start
same-call (look a) = same_look
same-call (read_unaligned n a) = same_read
same-call (write_unaligned n a v) = same_write (λ _. refl)
same-call (transfer_in a bs) = same_in refl
same-call (transfer_out a o) = same_out refl
same-call (fetch_behind a) = same_fetch

same-calls : (cs : List Call) → ListsSameButWritten cs cs
same-calls [] = Says.ListsSameButWritten.end
same-calls (c ∷ cs) = Says.ListsSameButWritten.next (same-call c) (same-calls cs)

after_same : {cs cs' : List Call} → ListsSameButWritten cs cs' → (z z' : State) → SameButStored z z' → SameButStored (after cs z) (after cs' z')
unfolding after
after_same Says.ListsSameButWritten.end z z' s = s
after_same (Says.ListsSameButWritten.next {c} {c'} d h) z z' s =
    after_same h (called c z).next (called c' z').next (called_same c c' d z z' s).next

frame-calls-same : (t : ℕ) (px px' : List ℕ) → length px ≡ length px' → ListsSameButWritten (frame_calls t px) (frame_calls t px')
unfolding frame_calls
frame-calls-same t px px' e =
    let reads = reads_from (frame_place t) 0 frame_length in
    Says.ListsSameButWritten.next (same-call _) (Says.ListsSameButWritten.next (same-call _)
    (Says.ListsSameButWritten.next (same_in e) (same-calls reads)))

chosen-same : (n n' : ℕ) → n ≡ n' → {cs cs' : List Call} → ListsSameButWritten cs cs' →
    ListsSameButWritten (cond (eqb n 0) cs []) (cond (eqb n' 0) cs' [])
chosen-same n n' e h =
    rw e (bool (eqb n' 0) (λ u. rw u h) (λ u. rw u Says.ListsSameButWritten.end))

-- ---- two frames
module _ (z z' : State) (s : SameButStored z z') (t : ℕ) (px px' : List ℕ) (e : length px ≡ length px') where
  frame-lists : ListsSameButWritten (item_calls (frame t px) z) (item_calls (frame t px') z')
  frame-lists =
      chosen-same (frame_call t px z).number (frame_call t px' z').number (same_number z z' s t px px' e) (frame-calls-same t px px' e)

  frame-next : SameButStored (frame_call t px z).next (frame_call t px' z').next
  frame-next =
      let a = frame-is-calls t px z in let b = frame-is-calls t px' z' in
      rw (a, b) (after_same frame-lists z z' s)

  frames-shared : FramesShared t px px' z z'
  frames-shared =
      record {
        number = same_number z z' s t px px' e;
        turn = same_turn z z' s t px px' e;
        rec = frame-next.rec;
        calls = same-behaviour z z' s (item_calls (frame t px) z) (item_calls (frame t px') z') frame-lists;
      }

-- ---- along lists
pub same-frame-behaviour : SameFrameBehaviour
same-frame-behaviour z z' s is is' h = along h z z' s
  where
    along : {is is' : List Item} → Tells.ItemsSameButWritten is is' → (z z' : State) → SameButStored z z' → ItemsShared is is' z z'
    along Tells.ItemsSameButWritten.end z z' s = Tells.ItemsShared.end
    along (Tells.ItemsSameButWritten.next (same_single {c} {c'} d) h) z z' s =
        let r = called_same c c' d z z' s in Tells.ItemsShared.call (shared r) (along h (called c z).next (called c' z').next r.next)
    along (Tells.ItemsSameButWritten.next (same_frame {t} {px} {px'} e) h) z z' s =
        Tells.ItemsShared.frames (frames-shared z z' s t px px' e)
        (along h (frame_call t px z).next (frame_call t px' z').next (frame-next z z' s t px px' e))

-- ---- sums
first_frame : {px : List ℕ} {t : ℕ} {z : State} → FramesAdd (px ∷ []) t z → Sums.FrameAt t px z
first_frame (Sums.FramesAdd.next f _) = f

pub same-sums : SameSums
same-sums z z' s h t px =
    let a = first_frame (frames-add-up z h t (px ∷ [])) in
    let b = first_frame (frames-add-up z' (rw s.rec at h) t (px ∷ [])) in
    let e = same_number z z' s t px px refl in
    bool (eqb (frame_call t px z).number 0)
    (λ u. let n = eqb-true (frame_call t px z).number 0 u in a.sums n ∙ sym (b.sums (sym e ∙ n)))
    (λ u. let n = eqb-false (frame_call t px z).number 0 u in a.none n ∙ sym (b.none (λ o. n (e ∙ o))))

-- ---- one byte
item-same : (i : Item) (z z' : State) → SameButStored z z' → item_calls i z' ≡ item_calls i z
item-same (single c) z z' s = refl
item-same (frame t px) z z' s =
    ap (λ (n : ℕ). cond (eqb n 0) (frame_calls t px) []) (sym (same_number z z' s t px px refl))

items-same : (is : List Item) (z z' : State) → SameButStored z z' → expanded is z' ≡ expanded is z
unfolding expanded
items-same [] z z' s = refl
items-same (i ∷ is) z z' s =
    let e = item-same i z z' s in let cs = item_calls i z in
    let y = items-same is (after cs z) (after cs z') (after_same (same-calls cs) z z' s) in
    ap (λ (ds : List Call). ds ++ expanded is (after ds z')) e ∙ ap (λ (ds : List Call). cs ++ ds) y

pub one-byte-in-frames : OneByteInFrames
one-byte-in-frames x z z' h is b = (items-same is z z' (along-start x z z' h).stored, one-byte-stays x z z' h (expanded is z) b)
