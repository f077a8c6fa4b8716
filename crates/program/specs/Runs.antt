-- 02, U4: runs over a trace, and frames (02, U14), on the whole chip, both lent L1P's buffer too. A run carries out
-- each command as a call of the chip does behind checks 1 and 2 (`chip_step`); a frame's L2 command drops L1P's lines
-- inside the valid L2 lines that it acts on, the rest of it leaves L1P alone.
use Rattle.std.specs.Prelude.{ℕ, zero, suc, ◌+◌, ◌*◌, ◌/◌, cond, List, [], ◌∷◌, length, ltb, leb, eqb}
use Rattle.model.specs.Calls.{put_answer, command_at, Call}
use Rattle.model.specs.declared.Line.{Line}
use Rattle.agreement.specs.Frames.{frame_length, frame_place, Framed, framed, refused_frame, frame_due_in}
use Rattle.program.specs.L1p.{drop_under_block}
use Rattle.program.specs.Fetches.{Chip, chip, ChipReply}
use Rattle.program.specs.Chip.{chip_step, chip_lent_due, ChipCall, on_data, chip_called}

-- ---- the run
pub record ChipRun : Type 0 where
  pub next : Chip
  pub consumed : ℕ
  pub count : ℕ
  pub stop : ℕ
  pub answers : List ℕ

abbrev pub chip_ran : Chip → ℕ → ℕ → ℕ → List ℕ → ChipRun
chip_ran x i k n o = record { next = x; consumed = i; count = k; stop = n; answers = o }

abbrev pub put_chip_reply : List ℕ → ℕ → ChipReply → List ℕ
put_chip_reply o k r = put_answer o k r.number r.server r.value

-- as `run_from` of model/specs/Calls, on the chip
unfoldable pub chip_run_from : List ℕ → ℕ → ℕ → Chip → ℕ → List ℕ → ChipRun
chip_run_from t zero i x k o = chip_ran x i k 0 o
chip_run_from t (suc turns) i x k o =
    cond (ltb i (length t))
    (cond (command_at t i).ok
    (cond (leb (k * 10 + 10) (length o))
    (chip_run_from t turns (i + (command_at t i).used) (chip_step (command_at t i).found x).next (suc k) (put_chip_reply o k (chip_step (command_at t i).found x)))
    (chip_ran x i k 12 o))
    (chip_ran x i k 11 o))
    (chip_ran x i k 0 o)

unfoldable pub chip_run_call : List ℕ → List ℕ → Chip → ChipRun
chip_run_call t o x = cond (eqb (chip_lent_due x) 0) (chip_run_from t (length t) 0 x 0 o) (chip_ran x 0 0 (chip_lent_due x) o)

-- ---- a frame
pub record ChipFramed : Type 0 where
  pub number : ℕ
  pub turn : ℕ
  pub sums : List ℕ
  pub next : Chip

abbrev pub with_frame : List Line → List ℕ → Framed → ChipFramed
with_frame ls bs r = record { number = r.number; turn = r.turn; sums = r.sums; next = chip r.next ls bs }

unfoldable pub chip_frame_step : ℕ → List ℕ → Chip → ChipFramed
chip_frame_step t px x =
    cond (eqb (frame_due_in x.data_side (length px)) 0)
    (with_frame (drop_under_block x.data_side (frame_place t) (frame_length / 4) x.lines) x.bytes (framed t px x.data_side))
    (with_frame x.lines x.bytes (refused_frame (frame_due_in x.data_side (length px)) t x.data_side))

unfoldable pub chip_frame_call : ℕ → List ℕ → Chip → ChipFramed
chip_frame_call t px x =
    cond (eqb (chip_lent_due x) 0) (chip_frame_step t px x) (with_frame x.lines x.bytes (refused_frame (chip_lent_due x) t x.data_side))

-- ---- calls one after another, of the chip, and of its data side; what is said of a frame's calls is in Frames
unfoldable pub chip_after : List ChipCall → Chip → Chip
chip_after [] x = x
chip_after (c ∷ cs) x = chip_after cs (chip_called c x).next

abbrev pub on_data_all : List Call → List ChipCall
on_data_all [] = []
on_data_all (c ∷ cs) = on_data c ∷ on_data_all cs
