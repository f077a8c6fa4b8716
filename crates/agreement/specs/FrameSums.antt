-- 02, U14: what is stated of frames. `frames-add-up` (proofs/Frames) shows: "For every list of frames, in any mode and
-- with either MAR bit, the sums of each accepted frame are those of the camera's pixels. Each refused frame, whatever
-- the number, is refused by itself and doesn't change whose turn it is. .. Sums are 0 with a refusal." What the theorem
-- would not notice, places, turns, columns and numbers, is computed (`FramesWorked`). Then demand 3 for lists that hold
-- frames (`items-demand3`, proofs/FrameLists): "Frames join demand 3's lists, as the calls they are made of."
use Rattle.std.specs.Prelude.{ℕ, zero, suc, ◌<◌, Bool, true, cond, ◌&&◌, ◌≢◌, ◌≡◌, List, [], ◌∷◌, ◌++◌, length, get_or, replicate, eqb}
use Rattle.model.specs.Records.{State, Shape}
use Rattle.model.specs.Refusals.{lent_due}
use Rattle.model.specs.Flat.{fresh_flat}
use Rattle.model.specs.Calls.{fresh_call, Call, one_command, called, after}
use Rattle.model.specs.Bytewise.{byte_read}
use Rattle.agreement.specs.Frames.{frame_length, turn_of, frame_place, next_turn, placing_calls, frame_read, sums_of, frame_due, frame_call}
use Rattle.agreement.specs.Covered.{remembered, joins}
use Rattle.agreement.specs.Demand.{listed_call, Agree}

-- the camera's pixels, by column
abbrev pub pixel_sums : List ℕ → List ℕ
pixel_sums px = sums_of (λ i. get_or px i 0)

-- ---- one frame, whose turn is t
pub record FrameAt (t : ℕ) (px : List ℕ) (z : State) : Type 0 where
  pub sums : (frame_call t px z).number ≡ 0 → (frame_call t px z).sums ≡ pixel_sums px
  -- each of its reads is accepted, and gives its pixel
  pub reads : (frame_call t px z).number ≡ 0 → (i : ℕ) → i < frame_length →
      ((frame_read t px i z).number ≡ 0) × ((frame_read t px i z).value ≡ get_or px i 0)
  -- a refused one: whose turn it is, the sums, and the state
  pub stays : (frame_call t px z).number ≢ 0 → (frame_call t px z).turn ≡ turn_of t
  pub none : (frame_call t px z).number ≢ 0 → (frame_call t px z).sums ≡ replicate 64 0
  pub unchanged : (frame_call t px z).number ≢ 0 → (frame_call t px z).next ≡ z
  -- the record stays well formed
  pub fit : lent_due z ≡ 0 → lent_due (frame_call t px z).next ≡ 0

-- ---- one after another
pub data FramesAdd : List (List ℕ) → ℕ → State → Type 0 where
  end : {t : ℕ} {z : State} → FramesAdd [] t z
  next : {px : List ℕ} {pxs : List (List ℕ)} {t : ℕ} {z : State} →
      FrameAt t px z → FramesAdd pxs (frame_call t px z).turn (frame_call t px z).next → FramesAdd (px ∷ pxs) t z

-- from any record, well formed or not, frozen or not, and whatever is lent
abbrev pub FramesAddUp : Type 0
FramesAddUp = (z : State) → Shape z.rec → (t : ℕ) (pxs : List (List ℕ)) → FramesAdd pxs t z

-- ---- computed: both places in turn, a turn by its last bit; columns 0, 1 and 63 of a frame whose pixels are their own
-- places, row r and column c having 64 r + c; "19 for external memory below 6,144 bytes, .. then 20"
pub record FramesWorked : Type 0 where
  pub places : (frame_place 0 ≡ 0x80000000) × ((frame_place 1 ≡ 0x80000C00) × (frame_place 7 ≡ 0x80000C00))
  pub turns : (next_turn 0 ≡ 1) × ((next_turn 1 ≡ 0) × (next_turn 6 ≡ 1))
  pub columns : length (sums_of (λ i. i)) ≡ 64
  pub sums :
      let s = sums_of (λ i. i) in (get_or s 0 0 ≡ 72192) × ((get_or s 1 0 ≡ 72240) × (get_or s 63 0 ≡ 75216))
  pub numbers : (frame_due 6143 0 ≡ 19) × ((frame_due 6144 3071 ≡ 20) × ((frame_due 6144 3076 ≡ 20) × (frame_due 6144 3072 ≡ 0)))

-- ==== lists that hold frames: single calls, and frames with whose turn it is and the pixels
pub data Item : Type 0 where
  single : Call → Item
  frame : ℕ → List ℕ → Item

-- ---- the calls that a frame is made of: n reads from read i on; all of them
unfoldable pub reads_from : ℕ → ℕ → ℕ → List Call
reads_from p i zero = []
reads_from p i (suc n) = one_command (byte_read p i) ∷ reads_from p (suc i) n

unfoldable pub frame_calls : ℕ → List ℕ → List Call
frame_calls t px = placing_calls t px ++ reads_from (frame_place t) 0 frame_length

-- those of an item in state z: a refused frame is none
abbrev pub item_calls : Item → State → List Call
item_calls (single c) z = c ∷ []
item_calls (frame t px) z = cond (eqb (frame_call t px z).number 0) (frame_calls t px) []

-- "the chip's record and bytes after a frame are theirs", in any state
abbrev pub FrameIsCalls : Type 0
FrameIsCalls = (t : ℕ) (px : List ℕ) (z : State) → (frame_call t px z).next ≡ after (item_calls (frame t px) z) z

-- of a list of items
unfoldable pub expanded : List Item → State → List Call
expanded [] z = []
expanded (i ∷ is) z = item_calls i z ++ expanded is (after (item_calls i z) z)

-- ---- which items a list may hold: frames always, single calls as they may (Demand); a single transfer joins where it
-- may (Covered), a frame's always does
abbrev pub listed_item : Item → Bool
listed_item (single c) = listed_call c
listed_item (frame t px) = true

unfoldable pub listed_items : List Item → Bool
listed_items [] = true
listed_items (i ∷ is) = listed_item i && listed_items is

-- the accepted calls behind some calls
unfoldable pub remembered_all : List Call → State → List Call → List Call
remembered_all [] z h = h
remembered_all (c ∷ cs) z h = remembered_all cs (called c z).next (remembered c z h)

abbrev pub item_joins : List Call → Item → State → Bool
item_joins h (single c) z = joins h c z
item_joins h (frame t px) z = true

unfoldable pub items_joined : List Call → List Item → State → Bool
items_joined h [] z = true
items_joined h (i ∷ is) z =
    item_joins h i z && items_joined (remembered_all (item_calls i z) z h) is (after (item_calls i z) z)

-- ---- demand 3
abbrev pub ItemsDemand3 : Type 0
ItemsDemand3 =
    (d m e : List ℕ) → (fresh_call d m e).number ≡ 0 →
    (is : List Item) → listed_items is ≡ true → items_joined [] is (fresh_call d m e).next ≡ true →
    Agree (expanded is (fresh_call d m e).next) (fresh_call d m e).next (fresh_flat (length m) e)
