-- 02, U14, "The ribbon frame engine.": what a frame does, and the number due, in the request's order of sentences. A
-- frame is the calls that it names, one after another; nothing of one is written again here. They stand in this crate,
-- beside what is shown of them (FrameSums), so that a wrong one meets the theorem.
use Rattle.std.specs.Prelude.{ℕ, zero, suc, ◌+◌, ◌*◌, ◌/◌, ◌%◌, cond, List, [], ◌∷◌, length, replicate, leb, eqb}
use Rattle.model.specs.Memories.{external_base}
use Rattle.model.specs.Records.{State}
use Rattle.model.specs.Refusals.{lowest_due, unless, lent_due}
use Rattle.model.specs.Trace.{command}
use Rattle.model.specs.Calls.{Reply, call, Call, one_command, transfer_in, after}
use Rattle.model.specs.Bytewise.{byte_read, calls_to}

-- ---- "A frame is 48 rows of 64 pixels, one byte each, row by row, 3,072 bytes."
abbrev pub frame_rows : ℕ
frame_rows = 48

abbrev pub frame_columns : ℕ
frame_columns = 64

abbrev pub frame_length : ℕ
frame_length = frame_rows * frame_columns

-- ---- "Frames go alternately to 80000000h (first) and 80000C00h, the turn going in with each frame and the next one's
-- coming back:": 0 and 1; another number is taken by its last bit
abbrev pub turn_of : ℕ → ℕ
turn_of t = t % 2

abbrev pub frame_place : ℕ → ℕ
frame_place t = external_base + turn_of t * 0xC00

abbrev pub next_turn : ℕ → ℕ
next_turn t = turn_of (t + 1)

-- ---- "the L2, then the L1D block writeback-invalidate over the place, transfer in,"
abbrev pub placing_calls : ℕ → List ℕ → List Call
placing_calls t px =
    one_command (command 5 (frame_place t) (frame_length / 4) 0) ∷ one_command (command 7 (frame_place t) (frame_length / 4) 0)
    ∷ transfer_in (frame_place t) px ∷ []

-- "then 1-byte CPU reads in the frame's order": read i, in the state that those in front of it left
abbrev pub frame_read : ℕ → List ℕ → ℕ → State → Reply
frame_read t px i z = call (byte_read (frame_place t) i) (calls_to (byte_read (frame_place t)) i (after (placing_calls t px) z))

-- "add up each of the 64 columns.": column c of the first r rows, f being what the frame has at each of its places
unfoldable pub column_sum : (ℕ → ℕ) → ℕ → ℕ → ℕ
column_sum f c zero = 0
column_sum f c (suc r) = column_sum f c r + f (r * frame_columns + c)

-- columns 0 to n - 1
unfoldable pub column_sums : (ℕ → ℕ) → ℕ → List ℕ → List ℕ
column_sums f zero cs = cs
column_sums f (suc n) cs = column_sums f n (column_sum f n frame_rows ∷ cs)

abbrev pub sums_of : (ℕ → ℕ) → List ℕ
sums_of f = column_sums f frame_columns []

-- ---- what a frame gives: its number, whose turn is next, the sums, and the state after it
pub record Framed : Type 0 where
  pub number : ℕ
  pub turn : ℕ
  pub sums : List ℕ
  pub next : State

unfoldable pub framed : ℕ → List ℕ → State → Framed
framed t px z =
    record {
      number = 0;
      turn = next_turn t;
      sums = sums_of (λ i. (frame_read t px i z).value);
      next = calls_to (byte_read (frame_place t)) frame_length (after (placing_calls t px) z);
    }

-- ---- "Each refused frame, whatever the number, is refused by itself and doesn't change whose turn it is. .. Sums are
-- 0 with a refusal."
abbrev pub refused_frame : ℕ → ℕ → State → Framed
refused_frame n t z = record { number = n; turn = turn_of t; sums = replicate frame_columns 0; next = z }

-- "Errors: 19 for external memory below 6,144 bytes, after 2; then 20 for a frame not of 3,072 bytes."
unfoldable pub frame_due : ℕ → ℕ → ℕ
frame_due e n = lowest_due (unless (leb 6144 e) 19) (unless (eqb n frame_length) 20)

abbrev pub frame_due_in : State → ℕ → ℕ
frame_due_in z n = frame_due z.rec.extlen n

unfoldable pub frame_step : ℕ → List ℕ → State → Framed
frame_step t px z =
    cond (eqb (frame_due_in z (length px)) 0) (framed t px z) (refused_frame (frame_due_in z (length px)) t z)

unfoldable pub frame_call : ℕ → List ℕ → State → Framed
frame_call t px z = cond (eqb (lent_due z) 0) (frame_step t px z) (refused_frame (lent_due z) t z)
