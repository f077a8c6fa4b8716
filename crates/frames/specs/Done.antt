-- A frame as the code makes it is that of 02, U14, on a state that passed checks 1 and 2: refused by the number due, or
-- placed, read and added up. Its calls are steps, each on a state that is well formed again; each read gives its pixel
-- (`frames-add-up`, crate agreement), and a pixel is a byte: the low byte of the value is all of it.
use Rattle.std.specs.Prelude.{ℕ, ◌/◌, ◌%◌, ◌<◌, ◌≡◌, length, get_or}
use Rattle.std.proofs.Math.Path.{refl, ap}
use Rattle.std.proofs.Common.{sym, ◌∙◌, subst, arith}
use mathlib.Core.List.{List, [], ◌∷◌}
use Rattle.model.specs.Records.{State}
use Rattle.model.specs.Trace.{command}
use Rattle.model.specs.Calls.{Reply, step, call, transfer_in_step, after}
use Rattle.model.specs.Bytewise.{byte_read, calls_to}
use Rattle.agreement.specs.Frames.{frame_length, frame_place, next_turn, placing_calls, frame_read, sums_of, framed, refused_frame, frame_due, frame_step, frame_call}
use Rattle.agreement.specs.FrameSums.{FrameAt, FramesAdd, next}
use Rattle.agreement.proofs.Good.{Well}
use Rattle.agreement.proofs.Tested.{well-due, well-shape, call_step, call-well}
use Rattle.agreement.proofs.Transfers.{transfer-in-step, transfer-in-well}
use Rattle.agreement.proofs.Frames.{columns-same, frames-add-up}
use Rattle.std.proofs.Common.{Fits, w8}
use Rattle.std.proofs.lemmas.Bool.Decides.{nat_tests}
use Rattle.model.specs.Refusals.{lent_due}
use Rattle.agreement.proofs.Frames.{frame-tells}
use Rattle.kinds.specs.Numbers.{refusal_number, refusal_some}
use Rattle.kinds.specs.declared.Refusal.{Refusal}
use Rattle.tags.specs.Words.{record_in, state_in}
use Rattle.unaligned.proofs.Meets.{lent-well}
use Rattle.frame_rows.specs.Reads.{reads_to, byte_given, reads-called}
use Rattle.frame_rows.specs.Rows.{PlaceAt}

-- ---- the frame comes to its place p by steps
abbrev sent_home : ℕ → ℕ → State → State
sent_home code p z = (step (command code p (frame_length / 4) 0) z).next

unfoldable pub put_at : ℕ → List ℕ → State → State
put_at p px z = (transfer_in_step p px (sent_home 7 p (sent_home 5 p z))).next

module _ (t : ℕ) (px : List ℕ) (z : State) (q : Well z) where
  abbrev p : ℕ
  p = frame_place t

  abbrev z₁ : State
  z₁ = (call (command 5 p 768 0) z).next

  abbrev z₂ : State
  z₂ = (call (command 7 p 768 0) z₁).next

  well₁ : Well z₁
  well₁ = call-well (command 5 p 768 0) z q

  well₂ : Well z₂
  well₂ = call-well (command 7 p 768 0) z₁ well₁

  -- placed by steps is placed by calls
  placed : put_at p px z ≡ after (placing_calls t px) z
  unfolding put_at after
  placed =
      ap (λ (x : Reply). (transfer_in_step p px (step (command 7 p 768 0) x.next).next).next) (sym (call_step (command 5 p 768 0) z q))
      ∙ ap (λ (x : Reply). (transfer_in_step p px x.next).next) (sym (call_step (command 7 p 768 0) z₁ well₁))
      ∙ ap (λ (x : Reply). x.next) (sym (transfer-in-step p px z₂ well₂))

  placed-well : Well (after (placing_calls t px) z)
  unfolding after
  placed-well = transfer-in-well p px z₂ well₂

  -- what the code has then, at place a, is well formed
  put-well : (a : ℕ) (u : State) → a ≡ p → u ≡ put_at a px z → Well u
  put-well a u ea eu = subst Well (sym (eu ∙ ap (λ (k : ℕ). put_at k px z) ea ∙ placed)) placed-well

  -- each read gives its pixel, and the low byte of a pixel is all of it
  module _ (d : frame_due z.rec.extlen (length px) ≡ 0) (bytes : (i : ℕ) → get_or px i 0 < 256) where
    accepted : (frame_call t px z).number ≡ 0
    unfolding frame_call frame_step framed
    accepted = rw (well-due z q, d) refl

    pixel : (i : ℕ) → i < 3072 → (frame_read t px i z).value ≡ get_or px i 0
    pixel i h = ((first (frames-add-up z (well-shape z q) t (px ∷ []))).reads accepted i h).1
      where
        first : FramesAdd (px ∷ []) t z → FrameAt t px z
        first (next r _) = r

    read-value : (i : ℕ) → i < 3072 → byte_given p (put_at p px z) i ≡ (frame_read t px i z).value
    read-value i h =
        let u = after (placing_calls t px) z in let r = reads-called p i u placed-well in let b = bytes i in let v = pixel i h in
        let e : (step (byte_read p i) (reads_to p i (put_at p px z))).value ≡ (frame_read t px i z).value
        = ap (λ (y : State). (step (byte_read p i) (reads_to p i y)).value) placed ∙ ap (λ (y : State). (step (byte_read p i) y).value) r.same
        ∙ sym (ap (λ (x : Reply). x.value) (call_step (byte_read p i) (calls_to (byte_read p) i u) r.well)) in
        ap (λ (n : ℕ). n % 256) e ∙ omega arith

    -- accepted: placed, then read and added up
    done : (a n : ℕ) (ss : List ℕ) (u y : State) → a ≡ p → n ≡ next_turn t → u ≡ put_at a px z → y ≡ reads_to a 3072 u → ss ≡ sums_of (byte_given a u) →
        record { number = 0; turn = n; sums = ss; next = y } ≡ frame_step t px z
    unfolding frame_step framed
    done a n ss u y ea en eu ey es =
        let u' : u ≡ put_at p px z = eu ∙ ap (λ (k : ℕ). put_at k px z) ea in
        let s : ss ≡ sums_of (λ i. (frame_read t px i z).value)
        = es ∙ (λ i. sums_of (byte_given (ea i) (u' i))) ∙ columns-same (byte_given p (put_at p px z)) (λ i. (frame_read t px i z).value) read-value 64 (omega arith) [] in
        let y' : y ≡ calls_to (byte_read p) 3072 (after (placing_calls t px) z)
        = ey ∙ (λ i. reads_to (ea i) 3072 ((u' ∙ placed) i)) ∙ (reads-called p 3072 (after (placing_calls t px) z) placed-well).same in
        rw d (λ i. record { number = 0; turn = en i; sums = s i; next = y' i })

-- ---- a frame, on words that passed checks 1 and 2: refused by the number due
pub frame_refused : (t : ℕ) (px : List ℕ) (z : State) (x : Refusal) → refusal_number x ≡ frame_due z.rec.extlen (length px) →
    refused_frame (refusal_number x) t z ≡ frame_step t px z
unfolding frame_step
frame_refused t px z x e = grind (arith, nat_tests, refusal_some)

-- or, where none is, placed, read and added up
module _ (ws ds ms es : List ℕ) (lent : lent_due (state_in ws ds ms es) ≡ 0) (t : ℕ) (px : List ℕ) (d : frame_due (record_in ws).extlen (length px) ≡ 0) where
  abbrev z : State
  z = state_in ws ds ms es

  -- behind that, in the words vs, at place a
  module _ (vs d₁ m₁ e₁ : List ℕ) (a : ℕ) (ea : a ≡ frame_place t) (so : state_in vs d₁ m₁ e₁ ≡ put_at a px z) where
    well : Well (state_in vs d₁ m₁ e₁)
    well = put-well t px z (lent-well ws ds ms es lent) a (state_in vs d₁ m₁ e₁) ea so

    pub put_lent : lent_due (state_in vs d₁ m₁ e₁) ≡ 0
    put_lent = well-due (state_in vs d₁ m₁ e₁) well

    pub put_place : length e₁ ≡ length es → PlaceAt vs a
    put_place kept =
        let six = (frame-tells (record_in ws).extlen (length px) d).0 in
        let before = (lent-well ws ds ms es lent).tidy.sizes.ext_length in let behind = well.tidy.sizes.ext_length in
        record { line = omega arith; above = omega arith; within = omega arith }

    pub frame_done : ((i : ℕ) → Fits w8 (get_or px i 0)) → (n : ℕ) (ss : List ℕ) (y : State) → n ≡ next_turn t →
        y ≡ reads_to a frame_length (state_in vs d₁ m₁ e₁) → ss ≡ sums_of (byte_given a (state_in vs d₁ m₁ e₁)) →
        record { number = 0; turn = n; sums = ss; next = y } ≡ frame_step t px z
    frame_done bytes n ss y en ey ess =
        done t px z (lent-well ws ds ms es lent) d (λ i. omega (arith, bytes i)) a n ss (state_in vs d₁ m₁ e₁) y ea en so ey ess
