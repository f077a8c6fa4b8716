-- 02, U8, "Frames don't steer the cache.", what it says; `same-behaviour` (proofs/Behaviour) and `one-byte-stays`
-- (proofs/OneByte) prove it. The literature on side channels calls the first statement noninterference: data is the
-- secret, and nothing that is observed of the cache depends on it.
-- This is the data side; the whole chip, with L1P (U4), is in ChipTwoRuns.
-- Read it from the top: what may differ, what is observed, the first sentence; then one byte, what stands for its
-- address, the second sentence.
--
-- "For every list of single calls, trace runs and U7's writer left out": the lists hold calls of the one type `Call`,
-- which has neither: commands of any code with any numbers, refused ones too, fresh starts, views, non-aligned
-- accesses, transfers anywhere. The start states need not be well formed, and need not come from a fresh start: a list
-- may begin with one.
use Rattle.std.specs.Prelude.{ℕ, ◌+◌, ◌≤◌, ◌<◌, true, ◌≡◌, List, [], ◌∷◌, length, get_or}
use Rattle.model.specs.Bytes.{little_bytes}
use Rattle.model.specs.Memories.{external_base}
use Rattle.model.specs.Lines.{l1d_kind, l2_line_length, l1d_data}
use Rattle.model.specs.Records.{State, sram_of, l1d_line_at, l2_line_at, l2_data}
use Rattle.model.specs.Refusals.{size_ok, value_ok}
use Rattle.model.specs.Trace.{command}
use Rattle.model.specs.Calls.{Reply, Call, one_command, fresh_start, look, read_unaligned, write_unaligned, transfer_in, transfer_out, fetch_behind, called}

-- ==== the first sentence
-- ---- "two runs that differ only in stored .. data": any two states with one record and memories of equal lengths
pub record SameButStored (z z' : State) : Type 0 where
  pub rec : z.rec ≡ z'.rec
  pub l1d : length z.l1d ≡ length z'.l1d
  pub l2 : length z.l2 ≡ length z'.l2
  pub ext : length z.ext ≡ length z'.ext

-- ---- ".. or written data, with each written value fitting its size in both": the same calls but for the values of
-- commands. Less is asked than the sentence says: a write's two values fit its size both or neither, and where the
-- size itself is refused nothing is asked. No other command looks at its value. A transfer's buffers have one length.
abbrev pub FitAlike : ℕ → ℕ → ℕ → Type 0
FitAlike n v v' = size_ok n ≡ true → value_ok n v ≡ value_ok n v'

pub data SameButWritten : Call → Call → Type 0 where
  same_command : {k a b v v' : ℕ} → (k ≡ 1 → FitAlike a v v') → SameButWritten (one_command (command k a b v)) (one_command (command k a b v'))
  same_start : SameButWritten fresh_start fresh_start
  same_look : {a : ℕ} → SameButWritten (look a) (look a)
  same_read : {n a : ℕ} → SameButWritten (read_unaligned n a) (read_unaligned n a)
  same_write : {n a v v' : ℕ} → FitAlike n v v' → SameButWritten (write_unaligned n a v) (write_unaligned n a v')
  same_in : {a : ℕ} {bs bs' : List ℕ} → length bs ≡ length bs' → SameButWritten (transfer_in a bs) (transfer_in a bs')
  same_out : {a : ℕ} {o o' : List ℕ} → length o ≡ length o' → SameButWritten (transfer_out a o) (transfer_out a o')
  same_fetch : {a : ℕ} → SameButWritten (fetch_behind a) (fetch_behind a)

-- call by call along two lists, which so have the same length
pub data ListsSameButWritten : List Call → List Call → Type 0 where
  end : ListsSameButWritten [] []
  next : {c c' : Call} {cs cs' : List Call} → SameButWritten c c' → ListsSameButWritten cs cs' → ListsSameButWritten (c ∷ cs) (c' ∷ cs')

-- ---- "share all refusals, servers, counts and the record": what is observed of two calls is the same. The counts are
-- those that an access reports (02, U2), and with them which lines left their ways; what a trace's run counts is left
-- out with it.
pub record Shared (x x' : Reply) : Type 0 where
  pub number : x.number ≡ x'.number
  pub server : x.server ≡ x'.server
  pub report : x.report ≡ x'.report
  pub rec : x.next.rec ≡ x'.next.rec

-- at every place of the lists
pub data SharedAlong : List Call → List Call → State → State → Type 0 where
  end : {z z' : State} → SharedAlong [] [] z z'
  next : {c c' : Call} {cs cs' : List Call} {z z' : State} →
      Shared (called c z) (called c' z') → SharedAlong cs cs' (called c z).next (called c' z').next → SharedAlong (c ∷ cs) (c' ∷ cs') z z'

-- ---- "Two splicers see different fibres and must show the same cache behaviour."
abbrev pub SameBehaviour : Type 0
SameBehaviour =
    (z z' : State) → SameButStored z z' → (cs cs' : List Call) → ListsSameButWritten cs cs' → SharedAlong cs cs' z z'

-- ==== the second sentence
-- ---- "they differ .. in no byte .. that doesn't stand for that address": two lists of bytes; which of them do is said
-- by `Stands`
pub record SameBytesBut (Stands : ℕ → Type 0) (bs bs' : List ℕ) : Type 0 where
  pub long : length bs ≡ length bs'
  pub byte : (k : ℕ) → (Stands k → ⊥) → get_or bs k 0 ≡ get_or bs' k 0

-- ---- which bytes stand for address x: byte k of external memory for 80000000h + k, ..
abbrev pub ExternalFor : ℕ → ℕ → Type 0
ExternalFor x k = external_base + k ≡ x

-- .. of a line for the line's address + k, ..
abbrev pub LineFor : ℕ → ℕ → ℕ → Type 0
LineFor b x k = b + k ≡ x

-- .. of the value that is answered to a read of n bytes at a, aligned or not, its first n for a, a + 1, .., and of any
-- other answer's value none; ..
abbrev pub ValueFor : Call → ℕ → ℕ → Type 0
ValueFor (one_command c) x k = (c.code ≡ 0) × (k < c.first) × (c.second + k ≡ x)
ValueFor fresh_start x k = ⊥
ValueFor (look a) x k = ⊥
ValueFor (read_unaligned n a) x k = (k < n) × (a + k ≡ x)
ValueFor (write_unaligned n a v) x k = ⊥
ValueFor (transfer_in a bs) x k = ⊥
ValueFor (transfer_out a o) x k = ⊥
ValueFor (fetch_behind a) x k = ⊥

-- .. and of the bytes that are handed back, those of a view for the addresses of the line that it shows, those of a
-- transfer out and of a fetch (02, U4) for the addresses that it reads
abbrev pub HandedBackFor : Call → ℕ → ℕ → Type 0
HandedBackFor (one_command c) x k = ⊥
HandedBackFor fresh_start x k = ⊥
HandedBackFor (look a) x k = LineFor a x k
HandedBackFor (read_unaligned n a) x k = ⊥
HandedBackFor (write_unaligned n a v) x k = ⊥
HandedBackFor (transfer_in a bs) x k = ⊥
HandedBackFor (transfer_out a o) x k = LineFor a x k
HandedBackFor (fetch_behind a) x k = LineFor a x k

-- ---- "Where they differ only in one byte of external memory at the start": in the byte at address x. What is lent is
-- bytes, numbers below 256; a model's list could hold others, which would carry into the next byte of a value.
abbrev pub Bytes : List ℕ → Type 0
Bytes m = (i : ℕ) → get_or m i 0 < 256

pub record SameButOneByte (x : ℕ) (z z' : State) : Type 0 where
  pub external : external_base ≤ x
  pub rec : z.rec ≡ z'.rec
  pub l1d : z.l1d ≡ z'.l1d
  pub l2 : z.l2 ≡ z'.l2
  pub ext : SameBytesBut (ExternalFor x) z.ext z'.ext
  pub l1d_bytes : Bytes z.l1d
  pub l2_bytes : Bytes z.l2
  pub ext_bytes : Bytes z.ext
  pub ext_bytes' : Bytes z'.ext

-- ---- "they differ afterwards in no byte of any answer, ..": its value is 8 bytes, little-endian, beside what is
-- handed back
pub record SameAnswerBut (x : ℕ) (c : Call) (y y' : Reply) : Type 0 where
  pub value : SameBytesBut (ValueFor c x) (little_bytes y.value 8) (little_bytes y'.value 8)
  pub handed_back : SameBytesBut (HandedBackFor c x) y.bytes y'.bytes

-- ---- ".. of external memory, of SRAM or of a valid line": SRAM by the mode that the record has then; no byte of it
-- stands for an external address, so all of it is the same. A byte of L1D or L2 that is in no valid line stands for no
-- address, and nothing is said of it: what is left of a line that was dropped does differ (`leftovers`, proofs/Differ).
pub record SameStateBut (x : ℕ) (z z' : State) : Type 0 where
  pub ext : SameBytesBut (ExternalFor x) z.ext z'.ext
  pub sram : (i : ℕ) → i < sram_of z.rec → get_or z.l2 i 0 ≡ get_or z'.l2 i 0
  pub l1d : (s w : ℕ) → (l1d_line_at z.rec s w).valid ≡ true →
      (k : ℕ) → k < l1d_kind.line_length → (LineFor (l1d_line_at z.rec s w).address x k → ⊥) →
      get_or z.l1d (l1d_data s w + k) 0 ≡ get_or z'.l1d (l1d_data s w + k) 0
  pub l2 : (t v : ℕ) → (l2_line_at z.rec t v).valid ≡ true →
      (k : ℕ) → k < l2_line_length → (LineFor (l2_line_at z.rec t v).address x k → ⊥) →
      get_or z.l2 (l2_data z.rec t v + k) 0 ≡ get_or z'.l2 (l2_data z.rec t v + k) 0

-- ---- "each in transfer's buffer being the same in both": the same calls in both; and like all that is lent it holds
-- bytes
abbrev pub LentBytes : Call → Type 0
LentBytes (one_command c) = Unit {0}
LentBytes fresh_start = Unit {0}
LentBytes (look a) = Unit {0}
LentBytes (read_unaligned n a) = Unit {0}
LentBytes (write_unaligned n a v) = Unit {0}
LentBytes (transfer_in a bs) = Bytes bs
LentBytes (transfer_out a o) = Unit {0}
LentBytes (fetch_behind a) = Unit {0}

abbrev pub AllLentBytes : List Call → Type 0
AllLentBytes [] = Unit {0}
AllLentBytes (c ∷ cs) = LentBytes c × AllLentBytes cs

-- ---- at one place of the list, and at every place. The first sentence holds of these runs too, and is said with it.
pub record SameBut (x : ℕ) (c : Call) (y y' : Reply) : Type 0 where
  pub shared : Shared y y'
  pub answer : SameAnswerBut x c y y'
  pub after : SameStateBut x y.next y'.next

pub data SameButAlong (x : ℕ) : List Call → State → State → Type 0 where
  end : {z z' : State} → SameButAlong x [] z z'
  next : {c : Call} {cs : List Call} {z z' : State} →
      SameBut x c (called c z) (called c z') → SameButAlong x cs (called c z).next (called c z').next → SameButAlong x (c ∷ cs) z z'

-- ---- from any two such states, well formed or not, along every list
abbrev pub OneByteStays : Type 0
OneByteStays = (x : ℕ) (z z' : State) → SameButOneByte x z z' → (cs : List Call) → AllLentBytes cs → SameButAlong x cs z z'
