-- A frame on the words in front of us, where L1P's lines were dropped and the record is that of ws: accepted, it is the
-- chip's.
use Rattle.std.specs.Prelude.{ℕ, ◌/◌, List, ◌++◌, ◌≡◌, length, take, drop}
use Rattle.std.proofs.Common.{refl, ap, ◌∙◌}
use Rattle.model.specs.Records.{state}
use Rattle.model.specs.declared.Record.{Record}
use Rattle.agreement.specs.Frames.{Framed as Frame, frame_length, frame_place, framed, frame_due_in, frame_step}
use Rattle.tags.specs.Words.{record_words, record_in, state_in}
use Rattle.program.specs.L1p.{drop_under_block}
use Rattle.program.specs.Chip.{chip_lent_due}
use Rattle.program.specs.Runs.{with_frame, chip_frame_step, chip_frame_call}
use Rattle.l1p_tags.specs.Lines.{lines_in, chip_in, lent-record, back-chip}
use Rattle.frames.specs.Told.{told_framed}
use Rattle.frames.specs.declared.Framed.{Framed}
use Rattle.camera_calls.specs.Told.{told_chip_framed}

module _ (ws us d m e p : List ℕ) (t : ℕ) (px : List ℕ) (passed : chip_lent_due (chip_in ws d m e p) ≡ 0)
    (none : frame_due_in (state_in ws d m e) (length px) ≡ 0) (same : record_in us ≡ record_in ws)
    (dropped : lines_in us ≡ drop_under_block (state_in ws d m e) (frame_place t) (frame_length / 4) (lines_in ws)) where
  -- the frame left vs there, and its number is 0
  pub frame-done : (x : Framed) (vs d' m' e' : List ℕ) → length vs ≡ record_words →
      told_framed x (state_in vs d' m' e') ≡ frame_step t px (state_in (take 5253 us) d m e) →
      (told_chip_framed x (chip_in (vs ++ drop 5253 us) d' m' e' p) ≡ chip_frame_call t px (chip_in ws d m e p)) × (x.number ≡ 0)
  unfolding chip_frame_call chip_frame_step frame_step framed
  frame-done x vs d' m' e' l o =
      let s : told_framed x (state_in vs d' m' e') ≡ framed t px (state_in ws d m e) =
      o ∙ ap (λ (r : Record). frame_step t px (state r d m e)) (lent-record us ∙ same) ∙ rw none refl in
      (rw (back-chip us vs l d' m' e' p, passed, none) (λ i. with_frame (dropped i) p (s i)), ap (λ (q : Frame). q.number) s)
