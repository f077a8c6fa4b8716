-- 02, U8 for the whole chip (U4): what it says of lists with fetches and L1P's invalidations, and of L1P beside the
-- data side; `same-chip-behaviour` and `one-byte-stays-in-chip` (proofs/ChipRuns) prove it. It has TwoRuns' form, whose
-- words of the data side it takes over; read that first.
--
-- Lists hold calls of the type `ChipCall`, of every kind and with any numbers. The chips need be neither well formed
-- nor fresh.
use Rattle.std.specs.Prelude.{ℕ, ◌+◌, ◌<◌, true, ◌≡◌, List, [], ◌∷◌, length, get_or}
use Rattle.model.specs.Bytes.{little_bytes}
use Rattle.model.specs.Calls.{Call}
use Rattle.program.specs.L1p.{l1p_kind, l1p_data, l1p_at}
use Rattle.program.specs.Fetches.{Chip, ChipReply}
use Rattle.program.specs.Chip.{ChipCall, on_data, fetch, l1p_block, l1p_all, chip_called}
use Rattle.two_runs.specs.TwoRuns.{SameButStored, SameButWritten, SameBytesBut, LineFor, ValueFor, HandedBackFor, SameButOneByte, SameStateBut, LentBytes}

-- ==== the first sentence
-- ---- "two runs that differ only in stored .. data": one record, L1P's lines in it, and memories of equal lengths
pub record ChipSameButStored (x x' : Chip) : Type 0 where
  pub data_side : SameButStored x.data_side x'.data_side
  pub lines : x.lines ≡ x'.lines
  pub bytes : length x.bytes ≡ length x'.bytes

-- ---- ".. or written data": a fetch and L1P's invalidations write none
pub data ChipSameButWritten : ChipCall → ChipCall → Type 0 where
  same_data : {c c' : Call} → SameButWritten c c' → ChipSameButWritten (on_data c) (on_data c')
  same_fetch : {a : ℕ} → ChipSameButWritten (fetch a) (fetch a)
  same_block : {b c : ℕ} → ChipSameButWritten (l1p_block b c) (l1p_block b c)
  same_all : ChipSameButWritten l1p_all l1p_all

pub data ChipListsSameButWritten : List ChipCall → List ChipCall → Type 0 where
  end : ChipListsSameButWritten [] []
  next : {c c' : ChipCall} {cs cs' : List ChipCall} → ChipSameButWritten c c' → ChipListsSameButWritten cs cs' → ChipListsSameButWritten (c ∷ cs) (c' ∷ cs')

-- ---- "share all refusals, servers, counts and the record": what left the L1P way, and L1P's lines, with them
pub record ChipShared (y y' : ChipReply) : Type 0 where
  pub number : y.number ≡ y'.number
  pub server : y.server ≡ y'.server
  pub report : y.report ≡ y'.report
  pub l1p_left : y.l1p_left ≡ y'.l1p_left
  pub rec : y.next.data_side.rec ≡ y'.next.data_side.rec
  pub lines : y.next.lines ≡ y'.next.lines

pub data ChipSharedAlong : List ChipCall → List ChipCall → Chip → Chip → Type 0 where
  end : {x x' : Chip} → ChipSharedAlong [] [] x x'
  next : {c c' : ChipCall} {cs cs' : List ChipCall} {x x' : Chip} → ChipShared (chip_called c x) (chip_called c' x') →
      ChipSharedAlong cs cs' (chip_called c x).next (chip_called c' x').next → ChipSharedAlong (c ∷ cs) (c' ∷ cs') x x'

abbrev pub SameChipBehaviour : Type 0
SameChipBehaviour =
    (x x' : Chip) → ChipSameButStored x x' → (cs cs' : List ChipCall) → ChipListsSameButWritten cs cs' → ChipSharedAlong cs cs' x x'

-- ==== the second sentence, of the byte at address n
-- ---- "Where they differ only in one byte of external memory at the start": L1P is the same
pub record ChipSameButOneByte (n : ℕ) (x x' : Chip) : Type 0 where
  pub data_side : SameButOneByte n x.data_side x'.data_side
  pub lines : x.lines ≡ x'.lines
  pub bytes : x.bytes ≡ x'.bytes

-- ---- which bytes of an answer stand for address n: the 32 of a fetch stand for the addresses that it fetches
abbrev pub ChipValueFor : ChipCall → ℕ → ℕ → Type 0
ChipValueFor (on_data c) n k = ValueFor c n k
ChipValueFor (fetch a) n k = ⊥
ChipValueFor (l1p_block b c) n k = ⊥
ChipValueFor l1p_all n k = ⊥

abbrev pub ChipHandedBackFor : ChipCall → ℕ → ℕ → Type 0
ChipHandedBackFor (on_data c) n k = HandedBackFor c n k
ChipHandedBackFor (fetch a) n k = LineFor a n k
ChipHandedBackFor (l1p_block b c) n k = ⊥
ChipHandedBackFor l1p_all n k = ⊥

pub record ChipSameAnswerBut (n : ℕ) (c : ChipCall) (y y' : ChipReply) : Type 0 where
  pub value : SameBytesBut (ChipValueFor c n) (little_bytes y.value 8) (little_bytes y'.value 8)
  pub handed_back : SameBytesBut (ChipHandedBackFor c n) y.bytes y'.bytes

-- ---- ".. or of a valid line": of L1P's too
pub record ChipSameStateBut (n : ℕ) (x x' : Chip) : Type 0 where
  pub data_side : SameStateBut n x.data_side x'.data_side
  pub l1p : (s : ℕ) → (l1p_at x.lines s).valid ≡ true →
      (k : ℕ) → k < l1p_kind.line_length → (LineFor (l1p_at x.lines s).address n k → ⊥) →
      get_or x.bytes (l1p_data s + k) 0 ≡ get_or x'.bytes (l1p_data s + k) 0

-- ---- "each in transfer's buffer being the same in both": and it holds bytes
abbrev pub ChipLentBytes : ChipCall → Type 0
ChipLentBytes (on_data c) = LentBytes c
ChipLentBytes (fetch a) = Unit {0}
ChipLentBytes (l1p_block b c) = Unit {0}
ChipLentBytes l1p_all = Unit {0}

abbrev pub AllChipLentBytes : List ChipCall → Type 0
AllChipLentBytes [] = Unit {0}
AllChipLentBytes (c ∷ cs) = ChipLentBytes c × AllChipLentBytes cs

-- ---- at one place of the list, and at every place; the first sentence is said with it
pub record ChipSameBut (n : ℕ) (c : ChipCall) (y y' : ChipReply) : Type 0 where
  pub shared : ChipShared y y'
  pub answer : ChipSameAnswerBut n c y y'
  pub after : ChipSameStateBut n y.next y'.next

pub data ChipSameButAlong (n : ℕ) : List ChipCall → Chip → Chip → Type 0 where
  end : {x x' : Chip} → ChipSameButAlong n [] x x'
  next : {c : ChipCall} {cs : List ChipCall} {x x' : Chip} →
      ChipSameBut n c (chip_called c x) (chip_called c x') → ChipSameButAlong n cs (chip_called c x).next (chip_called c x').next → ChipSameButAlong n (c ∷ cs) x x'

abbrev pub OneByteStaysInChip : Type 0
OneByteStaysInChip =
    (n : ℕ) (x x' : Chip) → ChipSameButOneByte n x x' → (cs : List ChipCall) → AllChipLentBytes cs → ChipSameButAlong n cs x x'
