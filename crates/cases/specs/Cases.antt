-- The lines marked C of paper 01, "Contracts and bench cases", as rows of one table: what the definitions give, and
-- what the paper states. One theorem, `cases-hold`, says that they are equal; it holds by computing.
use Rattle.std.specs.Prelude.{ℕ, ◌+◌, cond, List, [], ◌∷◌, map, ◌≡◌, refl, replicate}
use Rattle.model.specs.Bytes.{little, part}
use Rattle.model.specs.Lines.{l1d_set_of, l2_set_in, l2_sets}
use Rattle.model.specs.Records.{State, l1d_line_at, fresh_state}
use Rattle.model.specs.Ways.{l1d_way}
use Rattle.model.specs.Commands.{lines_touched}
use Rattle.model.specs.Trace.{Number, number32, command}
use Rattle.model.specs.Calls.{Reply, run_call, Call, one_command, called, after}
use Rattle.model.specs.Opened.{opened}
use Rattle.model.specs.declared.Line.{Line}

-- a row: its number in the paper, what the definitions give, what the paper states
pub record Case : Type 0 where
  pub row : ℕ
  pub given : List ℕ
  pub stated : List ℕ

abbrev case : ℕ → List ℕ → List ℕ → Case
case c g s = record { row = c; given = g; stated = s }

-- one number as a list; a number of a trace and how many bytes it takes
abbrev only : ℕ → List ℕ
only n = n ∷ []

abbrev read_as : Number → List ℕ
read_as x = x.value ∷ x.used ∷ []

-- a line's marks: 1 for valid, 2 for dirty
unfoldable pub marks : Line → ℕ
marks x = cond x.valid 1 0 + cond x.dirty 2 0

-- the numbers that calls are answered with, one after another
unfoldable pub numbered : Reply → (State → List ℕ) → List ℕ
numbered r f = r.number ∷ f r.next

unfoldable pub numbers : List Call → State → List ℕ
numbers [] z = []
numbers (c ∷ cs) z = numbered (called c z) (numbers cs)

-- the ways of L1D that hold the lines of some addresses, 2 where none does
unfoldable pub ways : List ℕ → State → List ℕ
ways bs z = map (λ b. l1d_way z b) bs

-- the calls of the rows: n bytes at a read, and written; L1D block invalidate; a mode; MAR 128 set
abbrev reads : ℕ → ℕ → Call
reads n a = one_command (command 0 n a 0)

abbrev writes : ℕ → ℕ → ℕ → Call
writes n a v = one_command (command 1 n a v)

abbrev invalidates : ℕ → ℕ → Call
invalidates b c = one_command (command 8 b c 0)

abbrev mode : ℕ → Call
mode m = one_command (command 10 m 0 0)

abbrev mar128 : Call
mar128 = one_command (command 11 128 1 0)

-- C9: "mode 0, MAR 128 set, 1-byte reads at 80000000h, 80002000h, 80000000h, 80004000h"
abbrev four_reads : List Call
four_reads = mar128 ∷ reads 1 0x80000000 ∷ reads 1 0x80002000 ∷ reads 1 0x80000000 ∷ reads 1 0x80004000 ∷ []

-- C10: "mode 0, dirty L1D line of external memory, L2 writeback-invalidate all: it stays dirty." is struck by 02, U10:
-- "Case C10 turns: the line goes out and is dropped"
abbrev written : List Call
written = mar128 ∷ reads 1 0x80000000 ∷ writes 1 0x80000000 7 ∷ one_command (command 3 0 0 0) ∷ []

-- the rows, of a fresh state with L = E = 65,536, and of one with L = 32,768
unfoldable pub rows : State → State → List Case
rows start small =
    case 1 (l1d_set_of 0x80002000 ∷ l1d_set_of 0x80001FC0 ∷ []) (0 ∷ 127 ∷ [])
    ∷ case 2 (l2_set_in (l2_sets 1) 0x80002000 ∷ l2_set_in (l2_sets 2) 0x80002000 ∷ []) (0 ∷ 64 ∷ [])
    ∷ case 3 (read_as (number32 (0xAC ∷ 0x02 ∷ []))) (300 ∷ 2 ∷ [])
    ∷ case 3 (read_as (number32 (0x7F ∷ []))) (127 ∷ 1 ∷ [])
    ∷ case 3 (only (run_call (0x0A ∷ 0x80 ∷ 0x00 ∷ []) [] start).stop) (only 11)
    ∷ case 4 (read_as (number32 (0x80 ∷ 0x80 ∷ 0x80 ∷ 0x80 ∷ 0x08 ∷ []))) (0x80000000 ∷ 5 ∷ [])
    ∷ case 5 (numbers (reads 4 0x8000FFFC ∷ reads 8 0x8000FFFC ∷ reads 1 0x80010000 ∷ []) start) (0 ∷ 4 ∷ 5 ∷ [])
    ∷ case 6 (numbers (writes 1 0 256 ∷ writes 1 0 255 ∷ []) start) (6 ∷ 0 ∷ [])
    ∷ case 6 (numbers (invalidates 0 65536 ∷ invalidates 0 65535 ∷ []) start) (7 ∷ 0 ∷ [])
    ∷ case 7 (lines_touched 128 0x8000007C 1 ∷ lines_touched 128 0x8000007C 2 ∷ []) (1 ∷ 2 ∷ [])
    ∷ case 8 (numbers (mode 1 ∷ reads 1 0 ∷ []) small) (0 ∷ 5 ∷ [])
    -- the second line is in no way; the others have one each
    ∷ case 9 (ways (0x80000000 ∷ 0x80002000 ∷ 0x80004000 ∷ []) (after four_reads start)) (0 ∷ 2 ∷ 1 ∷ [])
    -- it is not valid, and external memory has its byte
    ∷ case 10 (marks (l1d_line_at (after written start).rec 0 0) ∷ little (part (after written start).ext 0 64) ∷ []) (0 ∷ 7 ∷ [])
    ∷ []

pub cases : List Case
cases = rows (fresh_state 65536 (replicate 65536 0)) (fresh_state 32768 (replicate 65536 0))

pub cases-hold : map (λ (c : Case). c.given) cases ≡ map (λ (c : Case). c.stated) cases
unfolding opened cases rows marks ways numbered numbers
cases-hold = refl
