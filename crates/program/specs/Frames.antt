-- 02, U14 with U4: frames on the whole chip, what is stated of them; proofs/Frames shows it. "L2 writeback-invalidate,
-- block or all, .. drop the L1P lines inside valid L2 lines they act on;": an accepted frame does to the chip what the
-- calls that it is made of do, one after another, L1P's lines included (`ChipFrameIsCalls`). "For every list of frames,
-- in any mode and with either MAR bit, the sums of each accepted frame are those of the camera's pixels. Each refused
-- frame, whatever the number, is refused by itself and doesn't change whose turn it is. .. Sums are 0 with a refusal.":
-- so on the chip too, whatever L1P holds (`ChipFramesAddUp`).
use Rattle.std.specs.Prelude.{ℕ, ◌<◌, cond, ◌≢◌, ◌≡◌, List, [], ◌∷◌, ◌++◌, get_or, replicate, eqb}
use Rattle.model.specs.Calls.{one_command}
use Rattle.model.specs.Bytewise.{byte_read}
use Rattle.agreement.specs.Frames.{frame_length, frame_columns, turn_of, frame_place, placing_calls}
use Rattle.agreement.specs.FrameSums.{pixel_sums, reads_from, frame_calls}
use Rattle.program.specs.Fetches.{Chip, ChipReply}
use Rattle.program.specs.Chip.{chip_lent_due, ChipCall, on_data, chip_called}
use Rattle.program.specs.Runs.{chip_frame_call, chip_after, on_data_all}
use Rattle.program.specs.Stays.{ChipShape}

-- ---- the calls of a frame on chip x: those that agreement/specs/FrameSums says, as calls of the chip; a refused one
-- is none
abbrev pub chip_frame_calls : ℕ → List ℕ → Chip → List ChipCall
chip_frame_calls t px x = cond (eqb (chip_frame_call t px x).number 0) (on_data_all (frame_calls t px)) []

abbrev pub ChipFrameIsCalls : Type 0
ChipFrameIsCalls = (t : ℕ) (px : List ℕ) (x : Chip) → ChipShape x → (chip_frame_call t px x).next ≡ chip_after (chip_frame_calls t px x) x

-- read i of a frame, where the calls in front of it have come to
abbrev pub chip_frame_read : ℕ → List ℕ → ℕ → Chip → ChipReply
chip_frame_read t px i x =
    chip_called (on_data (one_command (byte_read (frame_place t) i)))
    (chip_after (on_data_all (placing_calls t px ++ reads_from (frame_place t) 0 i)) x)

-- ---- one frame, whose turn is t
pub record ChipFrameAt (t : ℕ) (px : List ℕ) (x : Chip) : Type 0 where
  pub sums : (chip_frame_call t px x).number ≡ 0 → (chip_frame_call t px x).sums ≡ pixel_sums px
  -- each of its reads is accepted, and gives its pixel
  pub reads : (chip_frame_call t px x).number ≡ 0 → (i : ℕ) → i < frame_length →
      ((chip_frame_read t px i x).number ≡ 0) × ((chip_frame_read t px i x).value ≡ get_or px i 0)
  -- a refused one: whose turn it is, the sums, and the chip
  pub stays : (chip_frame_call t px x).number ≢ 0 → (chip_frame_call t px x).turn ≡ turn_of t
  pub none : (chip_frame_call t px x).number ≢ 0 → (chip_frame_call t px x).sums ≡ replicate frame_columns 0
  pub unchanged : (chip_frame_call t px x).number ≢ 0 → (chip_frame_call t px x).next ≡ x
  -- a well-formed chip stays so
  pub fit : chip_lent_due x ≡ 0 → chip_lent_due (chip_frame_call t px x).next ≡ 0

-- ---- one after another
pub data ChipFramesAdd : List (List ℕ) → ℕ → Chip → Type 0 where
  end : {t : ℕ} {x : Chip} → ChipFramesAdd [] t x
  next : {px : List ℕ} {pxs : List (List ℕ)} {t : ℕ} {x : Chip} →
      ChipFrameAt t px x → ChipFramesAdd pxs (chip_frame_call t px x).turn (chip_frame_call t px x).next → ChipFramesAdd (px ∷ pxs) t x

-- from any chip, well formed or not, frozen or not, whatever is lent and whatever L1P holds
abbrev pub ChipFramesAddUp : Type 0
ChipFramesAddUp = (x : Chip) → ChipShape x → (t : ℕ) (pxs : List (List ℕ)) → ChipFramesAdd pxs t x
