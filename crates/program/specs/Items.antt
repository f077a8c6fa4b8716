-- Demand 3 for the whole chip (02, U4): lists of calls of the chip, runs over traces and frames, in any order, what it
-- says; proofs/Items shows it. "In lists that are compared with flat memory, an accepted fetch gives flat memory's
-- bytes wherever none of its 32 was written, by CPU or EDMA, since fresh or the last accepted mode change.": fetches
-- and L1P's invalidations may stand between runs and frames, which join as the calls that they are made of.
use Rattle.std.specs.Prelude.{ℕ, Bool, true, ◌&&◌, ◌≡◌, List, [], ◌∷◌, length, replicate}
use Rattle.model.specs.Flat.{Flat, fresh_flat}
use Rattle.model.specs.Calls.{fresh_call, commands}
use Rattle.agreement.specs.Demand.{listed}
use Rattle.agreement.specs.Traces.{Piece, piece_commands, all_commands}
use Rattle.agreement.specs.FrameSums.{pixel_sums}
use Rattle.program.specs.L1p.{fresh_l1p, l1p_length}
use Rattle.program.specs.Fetches.{Chip, chip}
use Rattle.program.specs.Chip.{ChipCall, chip_called}
use Rattle.program.specs.Lists.{flat_chip, chip_remembered, chip_joins, listed_chip, ChipAgreesAt, ChipAgree}
use Rattle.program.specs.Runs.{chip_run_call, chip_frame_call}
use Rattle.program.specs.Traces.{piece_calls, flat_chip_after, chip_remembered_all, ChipRunAgrees}
use Rattle.program.specs.Frames.{chip_frame_calls}

-- ---- an item: a call; a run over a trace with its answer bytes; a frame, with whose turn it is and the pixels
pub data ChipItem : Type 0 where
  single : ChipCall → ChipItem
  trace_run : Piece → ChipItem
  frame : ℕ → List ℕ → ChipItem

-- the calls that it is made of, and the chip after it
abbrev pub chip_item_calls : ChipItem → Chip → List ChipCall
chip_item_calls (single c) x = c ∷ []
chip_item_calls (trace_run p) x = piece_calls p
chip_item_calls (frame t px) x = chip_frame_calls t px x

abbrev pub chip_item_next : ChipItem → Chip → Chip
chip_item_next (single c) x = (chip_called c x).next
chip_item_next (trace_run p) x = (chip_run_call p.trace p.answers x).next
chip_item_next (frame t px) x = (chip_frame_call t px x).next

-- ---- which items a list may hold: frames always, single calls as they may (Lists), runs whose commands may; a single
-- transfer joins where it may, a frame's always does, and a run has none
abbrev pub listed_chip_item : ChipItem → Bool
listed_chip_item (single c) = listed_chip c
listed_chip_item (trace_run p) = listed (commands (piece_commands p))
listed_chip_item (frame t px) = true

unfoldable pub chip_items_listed : List ChipItem → Bool
chip_items_listed [] = true
chip_items_listed (i ∷ is) = listed_chip_item i && chip_items_listed is

abbrev pub chip_item_joins : List ChipCall → ChipItem → Chip → Bool
chip_item_joins h (single c) x = chip_joins h c x
chip_item_joins h (trace_run p) x = true
chip_item_joins h (frame t px) x = true

-- the accepted calls in front of an item are those of the items before it
unfoldable pub chip_items_joined : List ChipCall → List ChipItem → Chip → Bool
chip_items_joined h [] x = true
chip_items_joined h (i ∷ is) x = chip_item_joins h i x && chip_items_joined (chip_remembered_all (chip_item_calls i x) x h) is (chip_item_next i x)

-- ---- what agrees: of a call what Lists says, of a run its answers and its calls (Traces), of a frame its sums, which
-- are the camera's, and its calls
pub record ChipFrameAgrees (h : List ChipCall) (t : ℕ) (px : List ℕ) (x : Chip) (f : Flat) : Type 0 where
  pub sums : (chip_frame_call t px x).number ≡ 0 → (chip_frame_call t px x).sums ≡ pixel_sums px
  pub places : ChipAgree h (chip_frame_calls t px x) x f

pub data ChipItemsAgree : List ChipCall → List ChipItem → Chip → Flat → Type 0 where
  end : {h : List ChipCall} {x : Chip} {f : Flat} → ChipItemsAgree h [] x f
  at_call : {h : List ChipCall} {c : ChipCall} {is : List ChipItem} {x : Chip} {f : Flat} → ChipAgreesAt h c x f →
      ChipItemsAgree (chip_remembered c x h) is (chip_called c x).next (flat_chip c f).next → ChipItemsAgree h (single c ∷ is) x f
  at_run : {h : List ChipCall} {p : Piece} {is : List ChipItem} {x : Chip} {f : Flat} → ChipRunAgrees h p x f →
      ChipItemsAgree (chip_remembered_all (piece_calls p) x h) is (chip_item_next (trace_run p) x) (flat_chip_after (piece_calls p) f) →
      ChipItemsAgree h (trace_run p ∷ is) x f
  at_frame : {h : List ChipCall} {t : ℕ} {px : List ℕ} {is : List ChipItem} {x : Chip} {f : Flat} → ChipFrameAgrees h t px x f →
      ChipItemsAgree (chip_remembered_all (chip_frame_calls t px x) x h) is (chip_item_next (frame t px) x) (flat_chip_after (chip_frame_calls t px x) f) →
      ChipItemsAgree h (frame t px ∷ is) x f

-- ---- demand 3: from an accepted fresh start, for every list
abbrev pub ChipItemsDemand3 : Type 0
ChipItemsDemand3 =
    (d m e : List ℕ) → (fresh_call d m e).number ≡ 0 → (is : List ChipItem) → chip_items_listed is ≡ true →
    let x = chip (fresh_call d m e).next fresh_l1p (replicate l1p_length 0) in
    chip_items_joined [] is x ≡ true → ChipItemsAgree [] is x (fresh_flat (length m) e)

-- ---- so for a trace in pieces, each run with answer bytes of its own
abbrev pub piece_items : List Piece → List ChipItem
piece_items [] = []
piece_items (p ∷ ps) = trace_run p ∷ piece_items ps

abbrev pub ChipTraceDemand3 : Type 0
ChipTraceDemand3 =
    (d m e : List ℕ) → (fresh_call d m e).number ≡ 0 → (ps : List Piece) → listed (commands (all_commands ps)) ≡ true →
    ChipItemsAgree [] (piece_items ps) (chip (fresh_call d m e).next fresh_l1p (replicate l1p_length 0)) (fresh_flat (length m) e)
