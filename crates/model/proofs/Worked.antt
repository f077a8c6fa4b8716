-- Short lists of calls from a fresh start, and what they are answered: the chip's number, server and value, flat
-- memory's number and value, and the bytes that lie behind L1D. Rows of one table, and one theorem, `worked`, which
-- holds by computing: a definition that is not the paper's fails at a value here. Each of the mistakes that paper 01
-- names has a row (the second is the rule since 02, U10), and so have the servers, writebacks, mode and MAR changes,
-- drops, the freeze, non-aligned accesses, transfers and fetches; the view, and checks 1 and 2, have a list of their
-- own, and so has what an access reports. In the rows a call is carried out behind checks 1 and 2, and L1D and L2 are
-- cut behind the last byte that the row comes to: to go through all lent bytes and lines at each call is most of the
-- time that a check takes, and what a row does not come to it does not change. A record that is well formed stays so
-- (`Stays`).
use Prim.Native.Nat.{ℕ}
use mathlib.Core.Bool.{Bool, true, false}
use mathlib.Core.List.{List, [], ◌∷◌, map, ◌++◌}
use mathlib.Core.Path.{◌≡◌, refl}
use lib.ListN.{length, get_or, replicate}
use Rattle.model.specs.Bytes.{little}
use Rattle.model.specs.Lines.{line_of}
use Rattle.model.specs.Records.{State, state, with_external, with_counts, l1d_set_at, with_l1d_line, with_l2_line, well_formed, fresh_l1d_set, fresh_l2_set, fresh_record, fresh_state}
use Rattle.model.specs.Homes.{memory_part}
use Rattle.model.specs.Reports.{no_report, left_kind, left_address}
use Rattle.model.specs.Trace.{command}
use Rattle.model.specs.Calls.{Reply, Call, one_command, fresh_start, look, read_unaligned, write_unaligned, transfer_in, transfer_out, fetch_behind, called, step, read_unaligned_step, write_unaligned_step, transfer_in_step, transfer_out_step, fetch_behind_step}
use Rattle.model.specs.Flat.{Flat, FlatReply, flat, fresh_flat, flat_called}
use Rattle.model.specs.Opened.{opened}
use Rattle.model.specs.declared.Order2.{Order2}
use Rattle.model.specs.declared.Record.{Record}

-- ---- a place of a list: the call, and what is answered: number, server, value; flat memory's number and value; the
-- bytes handed back, as one number, and flat memory's
pub record Place : Type 0 where
  pub call : Call
  pub answer : List ℕ

-- the same number and the same value from both
abbrev same : Call → ℕ → ℕ → ℕ → Place
same c n s v = record { call = c; answer = n ∷ s ∷ v ∷ n ∷ v ∷ 0 ∷ 0 ∷ [] }

-- what was dropped unwritten: the chip's value, then flat memory's
abbrev apart : Call → ℕ → ℕ → ℕ → Place
apart c s v w = record { call = c; answer = 0 ∷ s ∷ v ∷ 0 ∷ w ∷ 0 ∷ 0 ∷ [] }

-- a command that flat memory does not see
abbrev unseen : Call → ℕ → Place
unseen c n = record { call = c; answer = n ∷ 0 ∷ 0 ∷ 0 ∷ 0 ∷ 0 ∷ 0 ∷ [] }

-- the view of the line at an address: its number, and what it shows; the bytes that lie there, whatever the view does
abbrev shows : ℕ → ℕ → ℕ → Place
shows a n b = record { call = look a; answer = n ∷ 0 ∷ 0 ∷ 0 ∷ 0 ∷ b ∷ 0 ∷ [] }

abbrev lies : ℕ → ℕ → Place
lies a b = shows a 0 b

-- ---- the calls: one byte read at a, served by s, of value v; v written at a, served by s; a command over all lines,
-- or over a block of one word; mode m, bit b of MAR 128, and the freeze b, answered with n
abbrev reads : ℕ → ℕ → ℕ → Place
reads a s v = same (one_command (command 0 1 a 0)) 0 s v

abbrev writes : ℕ → ℕ → ℕ → Place
writes a v s = same (one_command (command 1 1 a v)) 0 s 0

abbrev all : ℕ → Place
all code = unseen (one_command (command code 0 0 0)) 0

abbrev block : ℕ → ℕ → Place
block code b = unseen (one_command (command code b 1 0)) 0

abbrev mode : ℕ → ℕ → Place
mode m n = same (one_command (command 10 m 0 0)) n 0 0

abbrev mar128 : ℕ → ℕ → Place
mar128 b n = unseen (one_command (command 11 128 b 0)) n

abbrev freeze : ℕ → ℕ → Place
freeze b n = unseen (one_command (command 12 b 0 0)) n

-- ---- a row: how many bytes of L1D and of L2 are there, and of external memory behind its first L2 line; a list of
-- calls with their answers
pub record Row : Type 0 where
  pub l1d : ℕ
  pub l2 : ℕ
  pub behind : ℕ
  pub places : List Place

abbrev row : ℕ → ℕ → ℕ → List Place → Row
row d m n ps = record { l1d = d; l2 = m; behind = n; places = ps }

-- ---- what is answered along a list: by the chip alone, and with flat memory
unfoldable pub answered : Reply → List ℕ
answered r = r.number ∷ r.server ∷ r.value ∷ little r.bytes ∷ []

unfoldable pub both : Reply → FlatReply → (State → Flat → List (List ℕ)) → List (List ℕ)
both r g rest =
    (r.number ∷ r.server ∷ r.value ∷ g.number ∷ g.value ∷ little r.bytes ∷ little g.bytes ∷ [])
    ∷ rest r.next g.next

-- a call as it is
unfoldable pub checked : List Place → State → Flat → List (List ℕ)
checked [] z f = []
checked (p ∷ ps) z f = both (called p.call z) (flat_called p.call f) (checked ps)

-- behind checks 1 and 2; where the view looks, the bytes that lie there
unfoldable pub stepped : Call → State → Reply
stepped (one_command c) z = step c z
stepped fresh_start z = called fresh_start z
stepped (look a) z = record { number = 0; server = 0; value = 0; bytes = memory_part a 64 z; report = no_report; next = z }
stepped (read_unaligned n a) z = read_unaligned_step n a z
stepped (write_unaligned n a v) z = write_unaligned_step n a v z
stepped (transfer_in a bs) z = transfer_in_step a bs z
stepped (transfer_out a o) z = transfer_out_step a o z
stepped (fetch_behind a) z = fetch_behind_step a z

unfoldable pub along : List Place → State → Flat → List (List ℕ)
along [] z f = []
along (p ∷ ps) z f = both (stepped p.call z) (flat_called p.call f) (along ps)

-- L = 32,768, in a fresh record; d bytes of L1D and m of L2 are there
unfoldable pub cut : ℕ → ℕ → List ℕ → State
cut d m e = state (fresh_record 32768 (length e)) (replicate d 0) (replicate m 0) e

unfoldable pub started : Row → List ℕ → List (List ℕ)
started r e = along r.places (cut r.l1d r.l2 e) (flat 32768 (replicate r.l2 0) e)

abbrev halves : ℕ → List ℕ
halves n = (1 ∷ replicate 63 0) ++ ((2 ∷ replicate 63 0) ++ replicate n 0)

unfoldable pub given : Row → List (List ℕ)
given r = started r (halves r.behind)

unfoldable pub stated : List Place → List (List ℕ)
stated ps = map (λ (p : Place). p.answer) ps

-- ---- the rows, from a fresh start with L = 32,768 and in most E = 128: one L2 line, whose halves begin with 1 and 2.
-- Servers 1 and 2. "A write miss fills L1D.": it does not, the read behind it misses too.
pub sram : Row
sram =
    row 320 320 0
    (reads 0 2 0 ∷ writes 0 5 1 ∷ reads 0 1 5 ∷ writes 256 6 2 ∷ reads 256 2 6 ∷ reads 256 1 6 ∷ [])

-- Servers 1 and 4: "External memory with MAR bit 0 is reached directly"; the write miss likewise.
pub external : Row
external =
    row 128 0 0
    (reads 0x80000000 4 1 ∷ reads 0x80000000 4 1 ∷ mar128 1 0 ∷ reads 0x80000000 4 1 ∷ reads 0x80000000 1 1
    ∷ writes 0x80000040 3 4 ∷ reads 0x80000040 4 3 ∷ [])

-- 02, U10: "L2 commands reach all of L1D", in mode 0 too: the global ones and the two block writebacks send a dirty
-- line home and make it invalid, block invalidate drops it. 01's second mistake is the rule now.
pub mode_zero : Row
mode_zero =
    row 64 0 0
    (mar128 1 0 ∷ reads 0x80000000 4 1 ∷ writes 0x80000000 7 1 ∷ all 2 ∷ lies 0x80000000 7
    ∷ reads 0x80000000 4 7 ∷ writes 0x80000000 8 1 ∷ all 3 ∷ lies 0x80000000 8
    ∷ reads 0x80000000 4 8 ∷ writes 0x80000000 9 1 ∷ block 4 0x80000000 ∷ lies 0x80000000 9
    ∷ reads 0x80000000 4 9 ∷ writes 0x80000000 3 1 ∷ block 5 0x80000000 ∷ lies 0x80000000 3
    ∷ reads 0x80000000 4 3 ∷ writes 0x80000000 5 1 ∷ block 6 0x80000000
    ∷ apart (one_command (command 0 1 0x80000000 0)) 4 3 5 ∷ [])

-- The same for SRAM, and in the other ways and sets: a block leaves a line that it does not touch.
pub sram_reached : Row
sram_reached =
    row 192 192 0
    (reads 0 2 0 ∷ writes 0 5 1 ∷ reads 128 2 0 ∷ writes 128 4 1 ∷ all 2 ∷ lies 0 5 ∷ lies 128 4 ∷ reads 0 2 5
    ∷ writes 0 6 1 ∷ reads 128 2 4 ∷ block 4 0 ∷ lies 0 6 ∷ reads 0 2 6 ∷ reads 128 1 4
    ∷ writes 0 7 1 ∷ block 5 0 ∷ lies 0 7 ∷ reads 0 2 7
    ∷ writes 0 8 1 ∷ block 6 0 ∷ apart (one_command (command 0 1 0 0)) 2 7 8 ∷ [])

-- Three lines of one L1D set: the way used last stays, a dirty line that leaves goes home.
pub replaced : Row
replaced =
    row 8256 16448 0
    (reads 0 2 0 ∷ reads 0x2000 2 0 ∷ writes 0 7 1 ∷ reads 0x4000 2 0 ∷ reads 0 1 7 ∷ reads 0x2000 2 0
    ∷ reads 0x4000 2 0 ∷ reads 0 2 7 ∷ [])

-- A mode change writes back and clears, and is refused where C is above L; SRAM that comes back is zero.
pub modes : Row
modes =
    row 128 128 0
    (mar128 1 0 ∷ reads 0x80000000 4 1 ∷ writes 0x80000000 7 1 ∷ writes 64 5 2 ∷ mode 2 8 ∷ mode 1 0 ∷ lies 0x80000000 7
    ∷ same (one_command (command 0 1 64 0)) 5 0 0 ∷ mode 0 0 ∷ reads 64 2 0 ∷ reads 0x80000000 4 7 ∷ [])

-- L1D writeback-invalidate, and what L1D drops unwritten.
pub drops : Row
drops =
    row 64 64 0
    (reads 0 2 0 ∷ writes 0 7 1 ∷ lies 0 0 ∷ block 7 0 ∷ lies 0 7
    ∷ reads 0 2 7 ∷ writes 0 8 1 ∷ block 8 0 ∷ apart (one_command (command 0 1 0 0)) 2 7 8
    ∷ writes 0 8 1 ∷ all 9 ∷ apart (one_command (command 0 1 0 0)) 2 7 8 ∷ [])

-- In mode 1. Servers 1, 3 and 4. "The lower half alone is dropped by an L2 block command.": both halves are, by 6,
-- and by 4 and 5, which write. A line that L1D writes back makes its L2 line dirty, which the view does not show; a
-- global writeback writes it out. A MAR bit is not cleared while either cache holds a line of its range.
pub through_l2 : Row
through_l2 =
    row 128 128 0
    (mode 1 0 ∷ mar128 1 0 ∷ reads 0x80000000 4 1 ∷ reads 0x80000040 3 2 ∷ writes 0x80000040 9 1
    ∷ block 6 0x80000000 ∷ apart (one_command (command 0 1 0x80000040 0)) 4 2 9 ∷ writes 0x80000000 3 3
    ∷ reads 0x80000000 3 3
    ∷ writes 0x80000040 9 1 ∷ block 4 0x80000000 ∷ lies 0x80000040 9 ∷ reads 0x80000040 3 9
    ∷ writes 0x80000040 8 1 ∷ block 5 0x80000000 ∷ lies 0x80000040 8 ∷ reads 0x80000040 4 8
    ∷ writes 0x80000040 7 1 ∷ block 7 0x80000040 ∷ lies 0x80000040 8 ∷ reads 0x80000040 3 7 ∷ mar128 0 10
    ∷ all 9 ∷ mar128 0 10 ∷ all 2 ∷ lies 0x80000040 7 ∷ all 3 ∷ mar128 0 0 ∷ reads 0x80000040 4 7
    ∷ reads 0x80000040 4 7 ∷ [])

-- 02, U11. Frozen, a read miss fills nothing and empties no way, a hit changes no order, a write hit is still dirty:
-- of two lines of one set, the one that was hit since leaves first, and goes home. 17 "for a number above 1".
pub frozen : Row
frozen =
    row 8256 16448 0
    (freeze 1 0 ∷ reads 0 2 0 ∷ reads 0 2 0 ∷ freeze 0 0 ∷ reads 0 2 0 ∷ reads 0x2000 2 0 ∷ freeze 1 0 ∷ reads 0x4000 2 0
    ∷ reads 0 1 0 ∷ writes 0 5 1 ∷ freeze 2 17 ∷ reads 0x4000 2 0 ∷ freeze 0 0 ∷ reads 0x4000 2 0 ∷ reads 0x2000 1 0
    ∷ reads 0 2 5 ∷ [])

-- "L2 isn't frozen", and "a mode change keeps the freeze": L2 fetches a line and finds it afterwards, L1D does not.
pub frozen_l2 : Row
frozen_l2 =
    row 128 128 0
    (freeze 1 0 ∷ mode 1 0 ∷ mar128 1 0 ∷ reads 0x80000000 4 1 ∷ reads 0x80000040 3 2 ∷ reads 0x80000040 3 2
    ∷ writes 0x80000040 7 3 ∷ reads 0x80000040 3 7 ∷ freeze 0 0 ∷ reads 0x80000040 3 7 ∷ freeze 1 0
    ∷ writes 0x80000040 8 1 ∷ reads 0x80000040 1 8 ∷ reads 0x80000000 3 1 ∷ [])

-- ---- with more external memory: a global writeback reaches the last set of L2
pub last_set : Row
last_set =
    row 0 8192 8064
    (mode 1 0 ∷ mar128 1 0 ∷ writes 0x80001F80 5 4 ∷ all 2 ∷ lies 0x80001F80 5 ∷ [])

-- 02, U6. Four bytes at 62, in two L1D lines: "the server being the highest of theirs", SRAM's and not the last byte's,
-- whose line is in L1D by then; the bytes in their order, read and written. "3 refuses sizes 1 and 2"; 5 where the last
-- byte alone is outside, of SRAM and of external memory; 6. Nothing is moved by a refusal.
abbrev loads : ℕ → ℕ → ℕ → ℕ → ℕ → Place
loads n a k s v = same (read_unaligned n a) k s v

abbrev stores : ℕ → ℕ → ℕ → ℕ → ℕ → Place
stores n a v k s = same (write_unaligned n a v) k s 0

pub unaligned : Row
unaligned =
    row 128 128 0
    (writes 63 0x11 2 ∷ writes 64 0x22 2 ∷ loads 4 62 0 2 0x221100 ∷ loads 4 62 0 1 0x221100
    ∷ stores 4 62 0x44332211 0 1 ∷ reads 62 1 0x11 ∷ reads 64 1 0x33 ∷ loads 2 62 3 0 0 ∷ loads 1 0x7FFFFFFF 3 0 0
    ∷ loads 4 0x7FFD 5 0 0 ∷ loads 4 0x8000007D 5 0 0 ∷ stores 4 0xFFFFFFFE 0x100000000 5 0
    ∷ stores 4 62 0x100000000 6 0 ∷ loads 4 62 0 1 0x44332211 ∷ [])

-- 02, U1: n bytes, the first of them b, go in at a, answered with k; n bytes go out, of value v, flat memory's being f.
-- "For SRAM, L1D lines the transfer touches first go home if dirty and become invalid.", in both directions, clean
-- lines too; the bytes beside the transfer's go home with their line, and a line that is not touched stays.
abbrev go_in : ℕ → ℕ → ℕ → ℕ → Place
go_in a n b k = same (transfer_in a (b ∷ replicate n 0)) k 0 0

abbrev go_out : ℕ → ℕ → ℕ → ℕ → Place
go_out a n v f = record { call = transfer_out a (replicate n 0); answer = 0 ∷ 0 ∷ 0 ∷ 0 ∷ 0 ∷ v ∷ f ∷ [] }

-- refused: the buffer, full of 1s, comes back as it was
abbrev none_out : ℕ → ℕ → ℕ → Place
none_out a n k =
    record {
      call = transfer_out a (replicate n 1);
      answer = k ∷ 0 ∷ 0 ∷ k ∷ 0 ∷ little (replicate n 1) ∷ little (replicate n 1) ∷ [];
    }

pub moved : Row
moved =
    row 192 192 0
    (reads 0 2 0 ∷ writes 0 5 1 ∷ reads 64 2 0 ∷ reads 128 2 0 ∷ writes 132 4 1 ∷ go_out 0 68 5 5 ∷ reads 0 2 5 ∷ reads 64 2 0
    ∷ reads 128 1 0 ∷ writes 8 9 1 ∷ go_in 0 3 7 0 ∷ lies 0 0x90000000000000007 ∷ reads 8 2 9 ∷ reads 0 1 7
    ∷ go_out 128 8 0x400000000 0x400000000 ∷ reads 128 2 0
    ∷ none_out 2 0 4 ∷ none_out 0 0 13 ∷ none_out 0x9000 6 13 ∷ none_out 0x7FFC 8 14 ∷ none_out 0x8000007C 8 14
    ∷ go_in 2 3 1 4 ∷ go_in 0x9000 5 1 13 ∷ go_in 0x7FFC 7 1 14 ∷ go_in 0x80000080 3 1 14 ∷ reads 0 1 7 ∷ [])

-- "For external memory no cache is looked at: the CPU goes on seeing its held line, the EDMA sees what stands in
-- memory.": a dirty line, one that a transfer in goes behind, and what goes out; behind the writeback-invalidates of
-- L2 and L1D both see the same
pub behind_lines : Row
behind_lines =
    row 128 128 0
    (mar128 1 0 ∷ reads 0x80000000 4 1 ∷ writes 0x80000000 7 1 ∷ go_out 0x80000000 4 1 7 ∷ reads 0x80000000 1 7
    ∷ go_in 0x80000000 3 9 0 ∷ apart (one_command (command 0 1 0x80000000 0)) 1 7 9 ∷ lies 0x80000000 9
    ∷ mode 1 0 ∷ writes 0x80000040 3 4 ∷ go_out 0x80000040 4 2 3 ∷ block 5 0x80000000 ∷ go_out 0x80000040 4 3 3
    ∷ go_in 0x80000040 3 8 0 ∷ reads 0x80000040 4 8 ∷ [])

-- 02, U4: what lies behind L1P does for a fetch of the 32 bytes at a: served by s, of bytes b, flat memory's being f.
-- It "never looks for them in L1D", dirty or not, and fills nothing there. 15, "before 5"; then 5.
abbrev fetches : ℕ → ℕ → ℕ → ℕ → Place
fetches a s b f = record { call = fetch_behind a; answer = 0 ∷ s ∷ 0 ∷ 0 ∷ 0 ∷ b ∷ f ∷ [] }

pub fetched : Row
fetched =
    row 128 0 0
    (mar128 1 0 ∷ reads 0x80000000 4 1 ∷ writes 0x80000000 7 1 ∷ fetches 0x80000000 4 1 7 ∷ fetches 0x80000040 4 2 2
    ∷ reads 0x80000040 4 2 ∷ same (fetch_behind 0x80000090) 15 0 0 ∷ same (fetch_behind 0x80000080) 5 0 0 ∷ [])

-- ---- 02, U2: what is reported, call by call, beside number, server and value: the kind and the address of what left
-- L1D and L2, and the bytes of external memory read and written. The chip alone: most of the time of 32 KiB of external
-- memory is flat memory's.
pub record Reported : Type 0 where
  pub place : Place
  pub report : List ℕ

abbrev reports : Place → ℕ → ℕ → ℕ → ℕ → ℕ → ℕ → Reported
reports p k a l b r w = record { place = p; report = k ∷ a ∷ l ∷ b ∷ r ∷ w ∷ [] }

abbrev silent : Place → Reported
silent p = reports p 0 0 0 0 0 0

unfoldable pub told : Reply → List ℕ
told r =
    left_kind r.report.l1d_left ∷ left_address r.report.l1d_left ∷ left_kind r.report.l2_left ∷ left_address r.report.l2_left
    ∷ r.report.read ∷ r.report.written ∷ []

unfoldable pub alone : List Reported → State → List (List ℕ)
alone [] z = []
alone (p ∷ ps) z =
    (answered (stepped p.place.call z) ++ told (stepped p.place.call z)) ∷ alone ps (stepped p.place.call z).next

abbrev own_answer : Reported → List ℕ
own_answer p =
    get_or p.place.answer 0 0 ∷ get_or p.place.answer 1 0 ∷ get_or p.place.answer 2 0 ∷ get_or p.place.answer 5 0 ∷ p.report

-- mode 1 with MAR bit 128 set, and four clean lines in L2 set 0, way 0 the last in order; then a line in L1D set 1
unfoldable pub full_set : ℕ → ℕ → ℕ → ℕ → Record
full_set a b c d =
    with_l2_line (with_l2_line (with_l2_line (with_l2_line (record {
      l2len = 32768;
      extlen = 65536;
      mode = 1;
      mar128 = true;
      mar129 = false;
      frozen = false;
      dirty_l1d = 0;
      dirty_l2 = 0;
      l1d = replicate 128 fresh_l1d_set;
      l2 = replicate 512 fresh_l2_set;
    }) 0 0 (line_of a false)) 0 1 (line_of b false)) 0 2 (line_of c false)) 0 3 (line_of d false)

unfoldable pub with_held : ℕ → ℕ → Bool → Record → Record
with_held w a d r = with_l1d_line r 1 w (line_of a d)

-- "An L2 line is evicted and its dirty L1D half forgotten.": a fifth line comes to a full set. The half goes out with
-- its line, which is dirty by it, and is no longer in L1D; a write miss chooses no way of L1D. Then a clean L2 line
-- leaves. A hit chooses no way. A dirty line leaves L1D: its bytes go into L2, and none of them to external memory; they
-- go out when the L2 line leaves, which is dirty by them.
pub evicted : List Reported
evicted =
    reports (writes 0x80002000 1 4) 0 0 3 0x80000000 128 128 ∷ silent (lies 0x80000040 8) ∷ reports (reads 0x80000040 4 8) 1 0 2 0x80004000 128 0
    ∷ silent (writes 0x80000040 9 1) ∷ silent (reads 0x80008040 1 0) ∷ reports (reads 0x80002040 3 0) 3 0x80000040 0 0 0 0
    ∷ silent (lies 0x80000040 8) ∷ silent (writes 0x80006000 1 3) ∷ silent (writes 0x80008000 1 3)
    ∷ reports (writes 0x80004000 1 4) 0 0 3 0x80000000 128 128 ∷ silent (lies 0x80000040 9) ∷ []

evicted-holds :
    alone evicted
    (state (with_held 0 0x80000040 true (with_held 1 0x80008040 false (full_set 0x80000000 0x80004000 0x80006000 0x80008000)))
    (replicate 64 0 ++ (8 ∷ replicate 8255 0)) (halves 8192) (halves 16384))
    ≡ map own_answer evicted
unfolding opened answered told alone stepped full_set with_held evicted
evicted-holds = refl

-- Mode 0: past the caches the bytes of the access; a line that comes 64, into an empty way; a write miss its own bytes;
-- frozen, those of the read, and no way is chosen; a clean line leaves L1D, and a dirty one, whose 64 bytes go to
-- external memory. Lines of SRAM read and write none.
pub put_out : List Reported
put_out =
    reports (reads 0x80000000 4 1) 0 0 0 0 1 0 ∷ reports (writes 0x80000000 3 4) 0 0 0 0 0 1 ∷ silent (mar128 1 0)
    ∷ reports (writes 0x80000000 4 4) 0 0 0 0 0 1 ∷ silent (freeze 1 0) ∷ reports (reads 0x80000000 4 4) 0 0 0 0 1 0
    ∷ silent (freeze 0 0) ∷ reports (reads 0x80000000 4 4) 1 0 0 0 64 0 ∷ silent (writes 0x80000000 7 1)
    ∷ reports (reads 0 2 0) 1 0 0 0 0 0 ∷ reports (reads 0x2000 2 0) 3 0x80000000 0 0 0 64
    ∷ reports (reads 0x80000000 4 7) 2 0 0 0 64 0 ∷ silent (writes 0x2000 5 1) ∷ silent (reads 0x80000000 1 7)
    ∷ reports (reads 0 2 0) 3 0x2000 0 0 0 0 ∷ silent (same (one_command (command 0 3 0 0)) 3 0 0) ∷ []

put_out-holds : alone put_out (cut 8256 8256 (halves 0)) ≡ map own_answer put_out
unfolding opened answered told alone stepped cut put_out
put_out-holds = refl

-- 02, U6: "from the lowest address up". A read in both halves of an L2 line that L2 does not have. The lower half's
-- byte comes first: L2 puts the line at 80002000h out, whose upper half leaves L1D with it, so that the upper half's
-- byte finds that way empty and the line at 80004040h stays. From the highest address down it would leave.
pub upwards : List Reported
upwards = reports (loads 4 0x8000003E 0 4 0x20000) 0 0 0 0 128 0 ∷ silent (reads 0x80004040 1 0) ∷ []

upwards-holds :
    alone upwards
    (state (with_held 0 0x80004040 false (with_held 1 0x80002040 false (full_set 0x80002000 0x80004000 0x80006000 0x80008000)))
    (replicate 8320 0) (replicate 128 0) (halves 0))
    ≡ map own_answer upwards
unfolding opened answered told alone stepped full_set with_held upwards
upwards-holds = refl

-- "only the byte counts come back, added up": read and written by each call of a list. In mode 1 across two L2 lines,
-- in L1D then; in mode 0 across two L1D lines, and past them.
unfoldable pub counted_bytes : List Place → State → List (List ℕ)
counted_bytes [] z = []
counted_bytes (p ∷ ps) z =
    ((stepped p.call z).report.read ∷ (stepped p.call z).report.written ∷ []) ∷ counted_bytes ps (stepped p.call z).next

pub counted : List Place
counted =
    mode 1 0 ∷ mar128 1 0 ∷ loads 4 0x8000007E 0 4 0 ∷ stores 4 0x8000007E 5 0 1 ∷ mode 0 0
    ∷ loads 4 0x8000003E 0 4 0x20000 ∷ all 9 ∷ stores 4 0x8000003E 5 0 4 ∷ []

pub bytes_counted :
    counted_bytes counted (cut 192 256 (halves 128))
    ≡ (0 ∷ 0 ∷ []) ∷ (0 ∷ 0 ∷ []) ∷ (256 ∷ 0 ∷ []) ∷ (0 ∷ 0 ∷ []) ∷ (0 ∷ 0 ∷ []) ∷ (128 ∷ 0 ∷ []) ∷ (0 ∷ 0 ∷ []) ∷ (0 ∷ 4 ∷ []) ∷ []
unfolding opened stepped cut counted_bytes counted
bytes_counted = refl

-- ---- The view: "the bytes of SRAM or of external memory themselves", not what L1D or L2 hold; 4 and 5. Checks 1 and 2
-- are met by each call here, and L1D and L2 are whole.
pub views : List Place
views =
    writes 0 7 2 ∷ shows 0 0 7 ∷ mode 1 0 ∷ mar128 1 0 ∷ writes 0x80000000 9 4 ∷ shows 0x80000000 0 1
    ∷ shows 0x80000040 0 2 ∷ shows 0 5 0 ∷ shows 0x80000004 4 0 ∷ shows 0x80000080 5 0 ∷ []

views-hold : checked views (fresh_state 32768 (halves 0)) (fresh_flat 32768 (halves 0)) ≡ stated views
unfolding opened both checked stated views
views-hold = refl

-- ---- A clean line is not written over external memory (02, U13). From a fresh start no list of calls tells: a clean
-- line has the bytes of external memory, as long as the CPU alone writes there. So these begin behind calls after which
-- a cache holds the line clean, and external memory was given other bytes since: its first byte is 3.
abbrev other : List ℕ
other = 3 ∷ replicate 127 0

unfoldable pub step_all : List Place → State → State
step_all [] z = z
step_all (p ∷ ps) z = step_all ps (stepped p.call z).next

unfoldable pub changed : List Place → List Place → List (List ℕ)
changed cs ps =
    along ps (with_external (step_all cs (cut 64 128 (replicate 128 0))) other) (flat 32768 (replicate 128 0) other)

-- in L1D in mode 0, and in L2 in mode 1: neither writeback brings the old byte back
pub clean_in_l1d : List Place
clean_in_l1d = block 7 0x80000000 ∷ lies 0x80000000 3 ∷ reads 0x80000000 4 3 ∷ []

pub clean_in_l2 : List Place
clean_in_l2 = all 2 ∷ lies 0x80000000 3 ∷ all 3 ∷ reads 0x80000000 4 3 ∷ []

pub l1d-clean-stays : changed (mar128 1 0 ∷ reads 0x80000000 4 0 ∷ []) clean_in_l1d ≡ stated clean_in_l1d
unfolding opened both stepped step_all along cut changed stated clean_in_l1d
l1d-clean-stays = refl

pub l2-clean-stays : changed (mode 1 0 ∷ mar128 1 0 ∷ reads 0x80000000 4 0 ∷ []) clean_in_l2 ≡ stated clean_in_l2
unfolding opened both stepped step_all along cut changed stated clean_in_l2
l2-clean-stays = refl

-- ---- each row holds by computing; the table, and the theorem about it
sram-holds : given sram ≡ stated sram.places
unfolding opened both stepped along cut started given stated sram
sram-holds = refl

external-holds : given external ≡ stated external.places
unfolding opened both stepped along cut started given stated external
external-holds = refl

mode_zero-holds : given mode_zero ≡ stated mode_zero.places
unfolding opened both stepped along cut started given stated mode_zero
mode_zero-holds = refl

sram_reached-holds : given sram_reached ≡ stated sram_reached.places
unfolding opened both stepped along cut started given stated sram_reached
sram_reached-holds = refl

replaced-holds : given replaced ≡ stated replaced.places
unfolding opened both stepped along cut started given stated replaced
replaced-holds = refl

modes-holds : given modes ≡ stated modes.places
unfolding opened both stepped along cut started given stated modes
modes-holds = refl

drops-holds : given drops ≡ stated drops.places
unfolding opened both stepped along cut started given stated drops
drops-holds = refl

through_l2-holds : given through_l2 ≡ stated through_l2.places
unfolding opened both stepped along cut started given stated through_l2
through_l2-holds = refl

frozen-holds : given frozen ≡ stated frozen.places
unfolding opened both stepped along cut started given stated frozen
frozen-holds = refl

frozen_l2-holds : given frozen_l2 ≡ stated frozen_l2.places
unfolding opened both stepped along cut started given stated frozen_l2
frozen_l2-holds = refl

last_set-holds : given last_set ≡ stated last_set.places
unfolding opened both stepped along cut started given stated last_set
last_set-holds = refl

unaligned-holds : given unaligned ≡ stated unaligned.places
unfolding opened both stepped along cut started given stated unaligned
unaligned-holds = refl

moved_holds : given moved ≡ stated moved.places
unfolding opened both stepped along cut started given stated moved
moved_holds = refl

behind_lines-holds : given behind_lines ≡ stated behind_lines.places
unfolding opened both stepped along cut started given stated behind_lines
behind_lines-holds = refl

fetched-holds : given fetched ≡ stated fetched.places
unfolding opened both stepped along cut started given stated fetched
fetched-holds = refl

pub table : List Row
table =
    sram ∷ external ∷ mode_zero ∷ sram_reached ∷ replaced ∷ modes ∷ drops ∷ through_l2 ∷ frozen ∷ frozen_l2 ∷ last_set
    ∷ unaligned ∷ moved ∷ behind_lines ∷ fetched ∷ []

pub worked : map given table ≡ map (λ (r : Row). stated r.places) table
unfolding table
worked i =
    sram-holds i ∷ external-holds i ∷ mode_zero-holds i ∷ sram_reached-holds i ∷ replaced-holds i ∷ modes-holds i
    ∷ drops-holds i ∷ through_l2-holds i ∷ frozen-holds i ∷ frozen_l2-holds i ∷ last_set-holds i
    ∷ unaligned-holds i ∷ moved_holds i ∷ behind_lines-holds i ∷ fetched-holds i ∷ []

-- ---- "Invalidation changes no order.": two lines of one L1D set are read, then one of them, or both, are made invalid
unfoldable pub order_of : Order2 → List ℕ
order_of o = o.first ∷ o.second ∷ []

unfoldable pub order_after : Place → List ℕ
order_after p =
    order_of
    (l1d_set_at (step_all (reads 0 2 0 ∷ reads 0x2000 2 0 ∷ p ∷ []) (cut 8256 8256 (replicate 128 0))).rec 0).order

pub orders-kept : map order_after (block 4 0 ∷ block 6 0 ∷ all 3 ∷ []) ≡ (1 ∷ 0 ∷ []) ∷ (1 ∷ 0 ∷ []) ∷ (1 ∷ 0 ∷ []) ∷ []
unfolding opened stepped step_all cut order_of order_after
orders-kept = refl

-- ---- 02, U5: the counts of dirty lines in L1D and in L2 behind each call of a list, in mode 1, where either cache has
-- dirty lines: written, written again, its other half written; sent home by L1D, dropped, sent out by L2; a half that
-- its L2 line takes out of L1D; a write miss; mode changes
unfoldable pub counts_along : List Place → State → List (List ℕ)
counts_along [] z = []
counts_along (p ∷ ps) z =
    ((stepped p.call z).next.rec.dirty_l1d ∷ (stepped p.call z).next.rec.dirty_l2 ∷ []) ∷ counts_along ps (stepped p.call z).next

pub record Counted : Type 0 where
  pub place : Place
  pub counts : List ℕ

abbrev counts : Place → ℕ → ℕ → Counted
counts p m n = record { place = p; counts = m ∷ n ∷ [] }

pub counting : List Counted
counting =
    counts (mode 1 0) 0 0 ∷ counts (mar128 1 0) 0 0 ∷ counts (reads 0x80000000 4 1) 0 0 ∷ counts (writes 0x80000000 7 1) 1 0
    ∷ counts (writes 0x80000000 8 1) 1 0 ∷ counts (reads 0x80000040 3 2) 1 0 ∷ counts (writes 0x80000040 7 1) 2 0
    ∷ counts (block 7 0x80000040) 1 1 ∷ counts (reads 0x80000040 3 7) 1 1 ∷ counts (writes 0x80000040 9 1) 2 1
    ∷ counts (block 8 0x80000000) 1 1 ∷ counts (all 9) 0 1 ∷ counts (all 2) 0 0
    ∷ counts (reads 0x80000040 3 7) 0 0 ∷ counts (writes 0x80000040 6 1) 1 0 ∷ counts (block 4 0x80000000) 0 0
    ∷ counts (writes 0x80000000 5 3) 0 1 ∷ counts (writes 0x80000000 4 3) 0 1 ∷ counts (block 6 0x80000000) 0 0
    ∷ counts (writes 0x80000000 5 4) 0 1 ∷ counts (reads 0x80000040 3 6) 0 1 ∷ counts (writes 0x80000040 3 1) 1 1
    ∷ counts (mode 0 0) 0 0 ∷ counts (reads 0x80000000 4 5) 0 0 ∷ counts (writes 0x80000000 2 1) 1 0 ∷ counts (mode 0 0) 0 0 ∷ []

pub counts-kept :
    counts_along (map (λ (c : Counted). c.place) counting) (cut 128 128 (halves 0))
    ≡ map (λ (c : Counted). c.counts) counting
unfolding opened stepped cut counts_along counting
counts-kept = refl

-- "A record whose counts are wrong isn't well formed": the fresh one with each of some counts
unfoldable pub tested_with : ℕ → ℕ → Bool
tested_with m n = well_formed (with_counts (fresh_record 32768 128) m n)

pub counts-tested : (tested_with 0 0 ∷ tested_with 1 0 ∷ tested_with 0 1 ∷ []) ≡ true ∷ false ∷ false ∷ []
unfolding opened tested_with
counts-tested = refl
