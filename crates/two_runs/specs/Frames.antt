-- 02, U8 for lists that hold frames (U14), what it says; proofs/Frames shows it. "Two splicers see different fibres and
-- must show the same cache behaviour.": two frames of the same length, whatever their pixels, have the same number and
-- the same turn behind them, leave the same record, and all calls that they are made of share refusals, servers and
-- counts. Their sums are the camera's, so that frames of the same pixels have the same sums whatever else is stored.
-- Where the runs differ in one byte at the start, such a list is the same list of calls in both, to which the second
-- sentence applies.
use Rattle.std.specs.Prelude.{ℕ, ◌≡◌, List, [], ◌∷◌, length}
use Rattle.model.specs.Records.{State, Shape}
use Rattle.model.specs.Calls.{Call, called}
use Rattle.agreement.specs.Frames.{frame_call}
use Rattle.agreement.specs.FrameSums.{Item, single, frame, item_calls, expanded}
use Rattle.two_runs.specs.TwoRuns.{SameButStored, SameButWritten, Shared, SharedAlong, SameButOneByte, AllLentBytes, SameButAlong}

-- ---- the same items but for what is written; the pixels of two frames are data
pub data SameItem : Item → Item → Type 0 where
  same_single : {c c' : Call} → SameButWritten c c' → SameItem (single c) (single c')
  same_frame : {t : ℕ} {px px' : List ℕ} → length px ≡ length px' → SameItem (frame t px) (frame t px')

pub data ItemsSameButWritten : List Item → List Item → Type 0 where
  end : ItemsSameButWritten [] []
  next : {i i' : Item} {is is' : List Item} → SameItem i i' → ItemsSameButWritten is is' → ItemsSameButWritten (i ∷ is) (i' ∷ is')

-- ---- what is observed of two frames: their numbers, turns and records; and of all their calls
pub record FramesShared (t : ℕ) (px px' : List ℕ) (z z' : State) : Type 0 where
  pub number : (frame_call t px z).number ≡ (frame_call t px' z').number
  pub turn : (frame_call t px z).turn ≡ (frame_call t px' z').turn
  pub rec : (frame_call t px z).next.rec ≡ (frame_call t px' z').next.rec
  pub calls : SharedAlong (item_calls (frame t px) z) (item_calls (frame t px') z') z z'

-- at every place of the lists
pub data ItemsShared : List Item → List Item → State → State → Type 0 where
  end : {z z' : State} → ItemsShared [] [] z z'
  call : {c c' : Call} {is is' : List Item} {z z' : State} → Shared (called c z) (called c' z') →
      ItemsShared is is' (called c z).next (called c' z').next → ItemsShared (single c ∷ is) (single c' ∷ is') z z'
  frames : {t : ℕ} {px px' : List ℕ} {is is' : List Item} {z z' : State} → FramesShared t px px' z z' →
      ItemsShared is is' (frame_call t px z).next (frame_call t px' z').next → ItemsShared (frame t px ∷ is) (frame t px' ∷ is') z z'

abbrev pub SameFrameBehaviour : Type 0
SameFrameBehaviour =
    (z z' : State) → SameButStored z z' → (is is' : List Item) → ItemsSameButWritten is is' → ItemsShared is is' z z'

-- ---- the same pixels, the same sums
abbrev pub SameSums : Type 0
SameSums =
    (z z' : State) → SameButStored z z' → Shape z.rec → (t : ℕ) (px : List ℕ) → (frame_call t px z).sums ≡ (frame_call t px z').sums

-- ---- one byte at the start
abbrev pub OneByteInFrames : Type 0
OneByteInFrames =
    (x : ℕ) (z z' : State) → SameButOneByte x z z' → (is : List Item) → AllLentBytes (expanded is z) →
    (expanded is z' ≡ expanded is z) × SameButAlong x (expanded is z) z z'
