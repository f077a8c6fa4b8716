-- Demand 3 for lists of calls from C that hold runs over traces and frames (02, U14), what it says; proofs/Frames shows
-- it. A run is given to C with its answer bytes, a frame with its number, whose turn is next and 64 sums, and each
-- leaves what C holds for the next call; both join as the calls that they are made of (program/specs/Items), which flat
-- memory carries out too.
use Rattle.std.specs.Prelude.{ℕ, true, ◌≡◌, List, [], ◌∷◌, ◌++◌, length}
use Rattle.model.specs.Flat.{Flat, fresh_flat}
use Rattle.model.specs.Calls.{one_command, fresh_start}
use Rattle.model.specs.declared.Command.{Command}
use Rattle.agreement.specs.Demand.{global, Settled}
use Rattle.agreement.specs.Traces.{AnswersAgree, Piece, piece_commands}
use Rattle.agreement.specs.FrameSums.{pixel_sums}
use Rattle.program.specs.Chip.{ChipCall, on_data}
use Rattle.program.specs.Lists.{flat_chip}
use Rattle.program.specs.Runs.{ChipRun, chip_run_call, ChipFramed, chip_frame_call}
use Rattle.program.specs.Traces.{piece_calls, flat_chip_after, chip_remembered_all}
use Rattle.program.specs.Frames.{chip_frame_calls}
use Rattle.program.specs.Items.{ChipItem, single, trace_run, frame, chip_items_listed, chip_items_joined}
use Rattle.c_calls.specs.FromC.{Held, chip_of, Answered, FromC, accepted_by, SameAt}

-- ---- what C is given with a run, and what is known of it: what the contract of c64x_run says
pub record RunAnswered : Type 0 where
  pub consumed : ℕ
  pub count : ℕ
  pub stop : ℕ
  pub answers : List ℕ

abbrev pub ran_by : ChipRun → RunAnswered
ran_by r = record { consumed = r.consumed; count = r.count; stop = r.stop; answers = r.answers }

pub record GivesRun (r : ChipRun) (x : RunAnswered) (k : Held) : Type 0 where
  pub answer : x ≡ ran_by r
  pub next : chip_of k ≡ r.next

-- ---- with a frame: what the contract of c64x_frame says
pub record FrameAnswered : Type 0 where
  pub number : ℕ
  pub turn : ℕ
  pub sums : List ℕ

abbrev pub framed_by : ChipFramed → FrameAnswered
framed_by r = record { number = r.number; turn = r.turn; sums = r.sums }

pub record GivesFrame (r : ChipFramed) (x : FrameAnswered) (k : Held) : Type 0 where
  pub answer : x ≡ framed_by r
  pub next : chip_of k ≡ r.next

-- ---- single calls, runs and frames from C, one after another
pub data ItemChain : List ChipItem → Held → Type 0 where
  done : {h : Held} → ItemChain [] h
  made : {c : ChipCall} {is : List ChipItem} {h : Held} (x : Answered) (k : Held) → FromC c h x k → ItemChain is k → ItemChain (single c ∷ is) h
  ran : {p : Piece} {is : List ChipItem} {h : Held} (x : RunAnswered) (k : Held) →
      GivesRun (chip_run_call p.trace p.answers (chip_of h)) x k → ItemChain is k → ItemChain (trace_run p ∷ is) h
  added : {t : ℕ} {px : List ℕ} {is : List ChipItem} {h : Held} (x : FrameAnswered) (k : Held) →
      GivesFrame (chip_frame_call t px (chip_of h)) x k → ItemChain is k → ItemChain (frame t px ∷ is) h

-- ---- of a run: its answer bytes are flat memory's, and where it ends with a global writeback, C's external memory and
-- SRAM are, and no line is dirty in C's record
pub record RunSame (p : Piece) (x : RunAnswered) (k : Held) (f : Flat) : Type 0 where
  pub answers : AnswersAgree x.answers 0 (piece_commands p) f
  pub ended : (cs : List Command) (c : Command) → piece_commands p ≡ cs ++ (c ∷ []) → global (one_command c) ≡ true →
      Settled (chip_of k).data_side (flat_chip_after (piece_calls p) f)

-- ---- what agrees, behind the accepted calls g: at a single call what FromC says; of a run what is just said; of an
-- accepted frame the sums are the camera's, which flat memory holds then
pub data ItemsAgreeFromC : List ChipCall → (is : List ChipItem) (h : Held) → ItemChain is h → Flat → Type 0 where
  whole : {g : List ChipCall} {h : Held} {f : Flat} → ItemsAgreeFromC g [] h done f
  also : {g : List ChipCall} {c : ChipCall} {is : List ChipItem} {h k : Held} {x : Answered} {p : FromC c h x k} {r : ItemChain is k} {f : Flat} →
      SameAt g c x k f → ItemsAgreeFromC (accepted_by c x g) is k r (flat_chip c f).next → ItemsAgreeFromC g (single c ∷ is) h (made x k p r) f
  answers : {g : List ChipCall} {p : Piece} {is : List ChipItem} {h k : Held} {x : RunAnswered}
      {y : GivesRun (chip_run_call p.trace p.answers (chip_of h)) x k} {r : ItemChain is k} {f : Flat} → RunSame p x k f →
      ItemsAgreeFromC (chip_remembered_all (piece_calls p) (chip_of h) g) is k r (flat_chip_after (piece_calls p) f) →
      ItemsAgreeFromC g (trace_run p ∷ is) h (ran x k y r) f
  sums : {g : List ChipCall} {t : ℕ} {px : List ℕ} {is : List ChipItem} {h k : Held} {x : FrameAnswered}
      {y : GivesFrame (chip_frame_call t px (chip_of h)) x k} {r : ItemChain is k} {f : Flat} → (x.number ≡ 0 → x.sums ≡ pixel_sums px) →
      ItemsAgreeFromC (chip_remembered_all (chip_frame_calls t px (chip_of h)) (chip_of h) g) is k r (flat_chip_after (chip_frame_calls t px (chip_of h)) f) →
      ItemsAgreeFromC g (frame t px ∷ is) h (added x k y r) f

abbrev pub ItemsDemand3FromC : Type 0
ItemsDemand3FromC =
    (u : Held) (x : Answered) (h : Held) → FromC (on_data fresh_start) u x h → x.number ≡ 0 →
    (is : List ChipItem) → chip_items_listed is ≡ true → chip_items_joined [] is (chip_of h) ≡ true → (r : ItemChain is h) →
    ItemsAgreeFromC [] is h r (fresh_flat (length u.l2) u.ext)
