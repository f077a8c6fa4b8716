-- Short lists of calls of the chip, and what they are answered: rows of one table, and one theorem, `worked`, which
-- holds by computing, as in model/proofs/Worked: a definition that is not the paper's fails at a value here. The rows
-- have what a fetch gives and what every other call does to L1P's lines. Where lines may stand, checks 1 and 2, the
-- fresh start, runs, frames, and which calls count as written, as CPU accesses and as listed have lists of their own.
-- In the rows a call is carried out behind checks 1 and 2, and L1D, L2 and L1P are cut behind the last byte that the
-- row comes to.
use Prim.Native.Nat.{ℕ}
use mathlib.Core.Bool.{Bool, true, false, cond}
use mathlib.Core.List.{List, [], ◌∷◌, map, ◌++◌}
use mathlib.Core.Path.{◌≡◌, refl}
use lib.ListN.{length, get_or, set, replicate}
use Rattle.model.specs.Basics.{any_of}
use Rattle.model.specs.Bytes.{little}
use Rattle.model.specs.Lines.{line_of, empty_line}
use Rattle.model.specs.Records.{state, with_mars, with_mode, with_l2_set, fresh_record}
use Rattle.model.specs.Reports.{left_kind, left_address}
use Rattle.model.specs.Trace.{command}
use Rattle.model.specs.Calls.{carried_out, Call, one_command, fresh_start, look, read_unaligned, write_unaligned, transfer_in, transfer_out, fetch_behind}
use Rattle.model.specs.Opened.{opened}
use Rattle.model.specs.declared.Left.{Left}
use Rattle.model.specs.declared.Left.TheVariants.{NoWay, Empty, Clean, Dirty}
use Rattle.model.specs.declared.Line.{Line}
use Rattle.model.specs.declared.Record.{Record}
use Rattle.model.proofs.Worked.{stepped, cut}
use Rattle.agreement.specs.Covered.{since, covered_since, line_covered, lines_covered, stretch_covered}
use Rattle.agreement.specs.Frames.{framed, frame_due}
use Rattle.program.specs.L1p.{in_l1p, fresh_l1p, own_l1p_set, l1p_region, l1p_line_ok, l1p_ok, drop_l1p, drop_inside, drop_under_way, drop_under_all, drop_under_line, drop_under_block, invalidate_l1p_block, invalidate_l1p_all, l1p_holds_range}
use Rattle.program.specs.Fetches.{Chip, chip, ChipReply, with_l1p, beside_l1p, fetch_hit, fetch_miss, fetch_done, fetch_step}
use Rattle.program.specs.Chip.{lines_after, chip_command_due, chip_step, chip_lent_due, chip_view_due, behind_checks, chip_fresh, chip_view, fetch_call, l1p_block_call, l1p_all_call, ChipCall, on_data, fetch, l1p_block, l1p_all, chip_called}
use Rattle.program.specs.Lists.{written, as_calls, chip_listed}
use Rattle.program.specs.Runs.{ChipRun, chip_run_from, chip_run_call, ChipFramed, chip_frame_step, chip_frame_call}

-- every definition of the chip that computes, opened by one name
unfoldable pub chip_opened : Unit {0}
unfolding
    opened stepped cut
    in_l1p own_l1p_set l1p_region l1p_line_ok l1p_ok drop_l1p drop_inside drop_under_way drop_under_all drop_under_line drop_under_block
    invalidate_l1p_block l1p_holds_range
    fetch_hit fetch_miss fetch_done fetch_step
    lines_after chip_command_due chip_step chip_lent_due chip_view_due behind_checks chip_fresh chip_view fetch_call l1p_block_call
    l1p_all_call
chip_opened = tt

-- ---- a place of a list: the call, and what is answered
pub record Place : Type 0 where
  pub call : ChipCall
  pub answer : List ℕ

-- the kind and the address of what left a way
abbrev left : Left → List ℕ
left l = left_kind l ∷ left_address l ∷ []

-- number, server, value, how many bytes are handed back, and these as one number; what left L1P's way; of a fetch what
-- is reported too (02, U2): bytes of external memory read and written, what left L1D and L2
abbrev basics : ChipReply → List ℕ
basics r = r.number ∷ r.server ∷ r.value ∷ length r.bytes ∷ little r.bytes ∷ left r.l1p_left

unfoldable pub told : ChipCall → ChipReply → List ℕ
told (fetch a) r =
    basics r ++ (r.report.read ∷ r.report.written ∷ (left r.report.l1d_left ++ left r.report.l2_left))
told (on_data c) r = basics r
told (l1p_block b c) r = basics r
told l1p_all r = basics r

-- ---- the calls. A fetch at a, served by s, of bytes b; k bytes of external memory were read and w written, l left L2,
-- p left L1P. A hit. One that is refused with n.
abbrev fetches : ℕ → ℕ → ℕ → ℕ → ℕ → Left → Left → Place
fetches a s b k w l p =
    record { call = fetch a; answer = (0 ∷ s ∷ 0 ∷ 32 ∷ b ∷ left p) ++ (k ∷ w ∷ (left NoWay ++ left l)) }

abbrev hits : ℕ → ℕ → Place
hits a b = fetches a 5 b 0 0 NoWay NoWay

abbrev no_fetch : ℕ → ℕ → Place
no_fetch a n =
    record { call = fetch a; answer = (n ∷ 0 ∷ 0 ∷ 32 ∷ 0 ∷ left NoWay) ++ (0 ∷ 0 ∷ (left NoWay ++ left NoWay)) }

-- any other call, with its number, server and value: no bytes, no way of L1P
abbrev gives : ChipCall → ℕ → ℕ → ℕ → Place
gives c n s v = record { call = c; answer = n ∷ s ∷ v ∷ 0 ∷ 0 ∷ left NoWay }

abbrev does : ℕ → ℕ → ℕ → ℕ → ℕ → ℕ → ℕ → Place
does k a b v n s w = gives (on_data (one_command (command k a b v))) n s w

-- one byte read at a, served by s, of value v; v written at a, served by s; a command over all lines, or over a block
-- of one word; mode m; bit b of MAR i, answered with n; L1D is frozen
abbrev reads : ℕ → ℕ → ℕ → Place
reads a s v = does 0 1 a 0 0 s v

abbrev writes : ℕ → ℕ → ℕ → Place
writes a v s = does 1 1 a v 0 s 0

abbrev all : ℕ → Place
all k = does k 0 0 0 0 0 0

abbrev block : ℕ → ℕ → Place
block k b = does k b 1 0 0 0 0

abbrev mode : ℕ → Place
mode m = does 10 m 0 0 0 0 0

abbrev mar : ℕ → ℕ → ℕ → Place
mar i b n = does 11 i b 0 n 0 0

abbrev freeze : Place
freeze = does 12 1 0 0 0 0 0

-- L1P's own invalidations: of a block of c words, and of all
abbrev drops_block : ℕ → ℕ → Place
drops_block b c = gives (l1p_block b c) 0 0 0

abbrev drops_all : Place
drops_all = gives l1p_all 0 0 0

-- ---- what is answered along a list: by the calls as they are; and behind checks 1 and 2
unfoldable pub checked : List Place → Chip → List (List ℕ)
checked [] x = []
checked (p ∷ ps) x = told p.call (chip_called p.call x) ∷ checked ps (chip_called p.call x).next

-- (the rows hold commands; what L1P does with the others is in `whole`, below)
abbrev data_stepped : Call → Chip → ChipReply
data_stepped (one_command c) x = chip_step c x
data_stepped fresh_start x = beside_l1p (stepped fresh_start x.data_side) x
data_stepped (look a) x = beside_l1p (stepped (look a) x.data_side) x
data_stepped (read_unaligned n a) x = beside_l1p (stepped (read_unaligned n a) x.data_side) x
data_stepped (write_unaligned n a v) x = beside_l1p (stepped (write_unaligned n a v) x.data_side) x
data_stepped (transfer_in a bs) x = beside_l1p (stepped (transfer_in a bs) x.data_side) x
data_stepped (transfer_out a o) x = beside_l1p (stepped (transfer_out a o) x.data_side) x
data_stepped (fetch_behind a) x = beside_l1p (stepped (fetch_behind a) x.data_side) x

unfoldable pub chip_stepped : ChipCall → Chip → ChipReply
chip_stepped (on_data c) x = data_stepped c x
chip_stepped (fetch a) x = fetch_step a x
chip_stepped (l1p_block b c) x = with_l1p NoWay (invalidate_l1p_block b c x.lines) x.bytes (carried_out x.data_side)
chip_stepped l1p_all x = with_l1p NoWay (invalidate_l1p_all x.lines) x.bytes (carried_out x.data_side)

unfoldable pub along : List Place → Chip → List (List ℕ)
along [] x = []
along (p ∷ ps) x = told p.call (chip_stepped p.call x) ∷ along ps (chip_stepped p.call x).next

-- ---- a row: the chip that it starts from, and a list of calls with their answers
pub record Row : Type 0 where
  pub start : Chip
  pub places : List Place

abbrev row : Chip → List Place → Row
row x ps = record { start = x; places = ps }

unfoldable pub given : Row → List (List ℕ)
given r = along r.places r.start

unfoldable pub stated : List Place → List (List ℕ)
stated ps = map (λ (p : Place). p.answer) ps

-- fresh, L = 32,768: d bytes of L1D, m of L2 and p of L1P are there, and n of external memory behind its first L2 line,
-- whose halves begin with 1 and 2
abbrev halves : ℕ → List ℕ
halves n = (1 ∷ replicate 63 0) ++ ((2 ∷ replicate 63 0) ++ replicate n 0)

unfoldable pub started : ℕ → ℕ → ℕ → ℕ → Chip
started d m p n = chip (cut d m (halves n)) fresh_l1p (replicate p 0)

-- in mode 1 with MAR bit 128, E = e, and lines in L2's set t
unfoldable pub in_mode1 : ℕ → ℕ → List Line → Record
in_mode1 e t ls =
    with_l2_set (with_mode (with_mars (fresh_record 32768 e) true false) 1) t
    (record { lines = ls; order = record { first = 3; second = 2; third = 1; fourth = 0 } })

-- ---- the rows. "set = (address ÷ 32) mod 512": 0, 2000h and 4000h are in sets 0, 256 and 0; what leaves is told, a
-- hit chooses no way. SRAM serves (2), then L1P (5). "Data writes .. leave L1P untouched", past L1D and in it, and a
-- fetch "never looks for them in L1D": it gives SRAM's byte and not the newer one of a dirty line, which goes home in
-- front of the next fetch. 9 in front of 10. A freeze does not concern L1P. 15, also where 5 is due too; then 5.
pub sram : Row
sram =
    row (started 64 16416 8224 0)
    (writes 0 7 2 ∷ fetches 0 2 7 0 0 NoWay Empty ∷ hits 0 7 ∷ fetches 0x2000 2 0 0 0 NoWay Empty
    ∷ fetches 0x4000 2 0 0 0 NoWay (Clean 0) ∷ hits 0x2000 0 ∷ fetches 0 2 7 0 0 NoWay (Clean 0x4000)
    ∷ writes 0 9 2 ∷ hits 0 7 ∷ reads 0 2 9 ∷ writes 0 8 1 ∷ hits 0 7 ∷ drops_block 0 1 ∷ fetches 0 2 9 0 0 NoWay Empty
    ∷ block 7 0 ∷ mar 0 0 9 ∷ hits 0 9 ∷ freeze ∷ drops_all ∷ fetches 0 2 8 0 0 NoWay Empty ∷ hits 0 8
    ∷ no_fetch 16 15 ∷ no_fetch 0x8010 15 ∷ no_fetch 0x8000 5 ∷ no_fetch 0x7FFFFFE0 5 ∷ no_fetch 0x80000080 5
    ∷ hits 0 8 ∷ [])

-- Mode 0. "MAR bit 0 bypasses L1P.": nothing is held, and no way is told; then external memory serves (4), 32 bytes
-- being read. "Check 10 now looks in L1P too", by the range of the MAR, behind 9 and for bit 0 alone. No L2 command
-- drops a line: no L2 line is valid. L1P's block invalidation drops each line with a byte of the block, and no other.
pub external : Row
external =
    row (started 0 0 96 0)
    (fetches 0x80000000 4 1 32 0 NoWay NoWay ∷ fetches 0x80000000 4 1 32 0 NoWay NoWay ∷ mar 128 0 0 ∷ mar 128 1 0
    ∷ fetches 0x80000000 4 1 32 0 NoWay Empty ∷ hits 0x80000000 1
    ∷ mar 129 0 0 ∷ mar 128 0 10 ∷ mar 130 0 9 ∷ mar 128 1 0
    ∷ all 3 ∷ block 5 0x80000000 ∷ block 6 0x80000000 ∷ hits 0x80000000 1
    ∷ fetches 0x80000020 4 0 32 0 NoWay Empty ∷ fetches 0x80000040 4 2 32 0 NoWay Empty ∷ drops_block 0x8000001C 2
    ∷ hits 0x80000040 2 ∷ fetches 0x80000020 4 0 32 0 NoWay Empty ∷ fetches 0x80000000 4 1 32 0 NoWay Empty
    ∷ drops_block 0x80000020 0 ∷ drops_block 0x80000024 1 ∷ hits 0x80000000 1 ∷ fetches 0x80000020 4 0 32 0 NoWay Empty
    ∷ drops_all ∷ mar 128 0 0 ∷ fetches 0x80000000 4 1 32 0 NoWay NoWay ∷ [])

-- Mode 1. L2 acts "like a data read": 128 bytes come, the other L1P lines of that L2 line are served by L2 (3). The L2
-- writebacks (2 and 4) leave L1P's lines, which still give the old byte, and so do L1D's commands; writeback-invalidate
-- of a block (5) and of all (3), and block invalidate (6), drop all four inside the L2 line, and not those of the next.
pub through_l2 : Row
through_l2 =
    row (started 64 256 160 128)
    (mode 1 ∷ mar 128 1 0 ∷ fetches 0x80000000 4 1 128 0 Empty Empty ∷ fetches 0x80000020 3 0 0 0 NoWay Empty
    ∷ fetches 0x80000040 3 2 0 0 NoWay Empty ∷ fetches 0x80000060 3 0 0 0 NoWay Empty
    ∷ fetches 0x80000080 4 0 128 0 Empty Empty ∷ reads 0x80000000 3 1 ∷ writes 0x80000000 7 1 ∷ all 2
    ∷ block 4 0x80000000 ∷ block 7 0x80000000 ∷ block 8 0x80000000 ∷ all 9 ∷ hits 0x80000000 1 ∷ hits 0x80000060 0 ∷ block 5 0x80000000
    ∷ fetches 0x80000000 4 7 128 0 Empty Empty ∷ fetches 0x80000020 3 0 0 0 NoWay Empty
    ∷ fetches 0x80000040 3 2 0 0 NoWay Empty ∷ fetches 0x80000060 3 0 0 0 NoWay Empty ∷ hits 0x80000080 0
    ∷ block 6 0x80000000 ∷ fetches 0x80000060 4 0 128 0 Empty Empty ∷ fetches 0x80000000 3 7 0 0 NoWay Empty
    ∷ hits 0x80000080 0 ∷ all 3 ∷ fetches 0x80000060 4 0 128 0 Empty Empty ∷ fetches 0x80000000 3 7 0 0 NoWay Empty
    ∷ fetches 0x80000080 4 0 128 0 Empty Empty ∷ [])

-- L1P lines "needn't be in L2": one that is inside no valid L2 line is dropped by none of these commands. "a mode
-- change drops all.", to the same mode too.
pub outside : Row
outside =
    row
    (chip (state (in_mode1 128 0 []) [] (replicate 128 0) (halves 0)) (set fresh_l1p 2 (line_of 0x80000040 false))
    (replicate 96 3))
    (all 3 ∷ block 5 0x80000000 ∷ block 6 0x80000040 ∷ hits 0x80000040 (little (replicate 32 3)) ∷ mode 1
    ∷ fetches 0x80000040 4 2 128 0 Empty Empty ∷ [])

-- Five lines of one L2 set, of which three are there already. "(an L2 line put out still takes in its halves)": the
-- dirty one of L1D makes it dirty, and 128 bytes go out, with the byte that L1D had. "L2 evictions leave L1P
-- untouched."
pub evicted : Row
evicted =
    row
    (chip
    (state
    (in_mode1 32896 0 (empty_line ∷ line_of 0x80004000 false ∷ line_of 0x80006000 false ∷ line_of 0x80008000 false ∷ []))
    (replicate 128 0) (replicate 24704 0) (halves 8192)) fresh_l1p (replicate 8256 0))
    (reads 0x80000040 4 2 ∷ writes 0x80000040 8 1 ∷ fetches 0x80000040 3 2 0 0 NoWay Empty
    ∷ fetches 0x80004020 3 0 0 0 NoWay Empty ∷ fetches 0x80006020 3 0 0 0 NoWay Empty
    ∷ fetches 0x80008000 3 0 0 0 NoWay Empty ∷ fetches 0x80002000 4 0 128 128 (Dirty 0x80000000) Empty
    ∷ hits 0x80000040 2 ∷ reads 0x80000040 4 8 ∷ hits 0x80000040 2 ∷ [])

-- each row holds by computing; the table, and the theorem about it
sram-holds : given sram ≡ stated sram.places
unfolding chip_opened told chip_stepped along started given stated sram
sram-holds = refl

external-holds : given external ≡ stated external.places
unfolding chip_opened told chip_stepped along started given stated external
external-holds = refl

through_l2-holds : given through_l2 ≡ stated through_l2.places
unfolding chip_opened told chip_stepped along started given stated through_l2
through_l2-holds = refl

outside-holds : given outside ≡ stated outside.places
unfolding chip_opened told chip_stepped along in_mode1 given stated outside
outside-holds = refl

evicted-holds : given evicted ≡ stated evicted.places
unfolding chip_opened told chip_stepped along in_mode1 given stated evicted
evicted-holds = refl

pub table : List Row
table = sram ∷ external ∷ through_l2 ∷ outside ∷ evicted ∷ []

pub worked : map given table ≡ map (λ (r : Row). stated r.places) table
unfolding table
worked i = sram-holds i ∷ external-holds i ∷ through_l2-holds i ∷ outside-holds i ∷ evicted-holds i ∷ []

-- ---- "L1P lines are always clean, lie where L1D lines may, and needn't be in L2.": a line in a set, and whether it
-- may stand there. In SRAM; in external memory; an empty way; a dirty line; in another set; at no multiple of 32;
-- behind SRAM; behind 128 bytes of external memory; with MAR bit 129; two invalid ways that are not clean with address
-- 0.
unfoldable pub fits : Record → List Bool
fits r =
    l1p_line_ok r 3 (line_of 0x4060 false) ∷ l1p_line_ok r 1 (line_of 0x80000020 false) ∷ l1p_line_ok r 0 empty_line
    ∷ l1p_line_ok r 3 (line_of 0x4060 true) ∷ l1p_line_ok r 4 (line_of 0x4060 false) ∷ l1p_line_ok r 3 (line_of 0x4070 false)
    ∷ l1p_line_ok r 0 (line_of 0x8000 false) ∷ l1p_line_ok r 4 (line_of 0x80000080 false)
    ∷ l1p_line_ok r 0 (line_of 0x81000000 false) ∷ l1p_line_ok r 0 (record { valid = false; dirty = true; address = 0 })
    ∷ l1p_line_ok r 1 (record { valid = false; dirty = false; address = 32 }) ∷ []

-- MAR bit 128 alone is 1: 16 MiB and a line of external memory in mode 0; 128 bytes of it in mode 1, which has no SRAM
-- here, and no L2 line is valid
pub lines_fit :
    fits (with_mars (fresh_record 32768 0x1000020) true false)
    ≡ true ∷ true ∷ true ∷ false ∷ false ∷ false ∷ false ∷ true ∷ false ∷ false ∷ false ∷ []
unfolding chip_opened fits
lines_fit = refl

pub lines-fit-in-mode-1 :
    fits (in_mode1 128 0 [])
    ≡ false ∷ true ∷ true ∷ false ∷ false ∷ false ∷ false ∷ false ∷ false ∷ false ∷ false ∷ []
unfolding chip_opened in_mode1 fits
lines-fit-in-mode-1 = refl

-- ---- checks 1 and 2: "the record carries its lines, and check 1 its buffer.": 1 in front of 2, whichever memory it is
-- for; a dirty line gives 2. d bytes of L1D and p of L1P are lent, and L1P's set 3 has the line y.
unfoldable pub lent : ℕ → ℕ → Line → Chip
lent d p y =
    chip (state (fresh_record 32768 128) (replicate d 0) (replicate 32768 0) (replicate 128 0)) (set fresh_l1p 3 y)
    (replicate p 0)

pub checks-1-and-2 :
    map chip_lent_due
    (lent 16384 16384 (line_of 0x4060 false) ∷ lent 16384 16384 (line_of 0x4060 true) ∷ lent 0 16384 (line_of 0x4060 true)
    ∷ lent 16384 16383 (line_of 0x4060 true) ∷ lent 16384 16416 empty_line ∷ [])
    ≡ 0 ∷ 2 ∷ 1 ∷ 1 ∷ 1 ∷ []
unfolding chip_opened lent
checks-1-and-2 = refl

-- "every call but the view is lent the buffer": each kind of call, on a chip that lends none
unfoldable pub asked : List Place → Chip → List (List ℕ)
asked ps x = map (λ (p : Place). told p.call (chip_called p.call x)) ps

pub unlent : List Place
unlent =
    does 0 1 0 0 1 0 0 ∷ does 12 1 0 0 1 0 0 ∷ gives (on_data fresh_start) 1 0 0
    ∷ gives (on_data (read_unaligned 4 0)) 1 0 0 ∷ gives (on_data (write_unaligned 4 0 5)) 1 0 0
    ∷ gives (on_data (transfer_in 0 (5 ∷ []))) 1 0 0
    ∷ record { call = on_data (transfer_out 0 (5 ∷ [])); answer = 1 ∷ 0 ∷ 0 ∷ 1 ∷ 5 ∷ left NoWay }
    ∷ record { call = on_data (look 0); answer = 0 ∷ 0 ∷ 0 ∷ 64 ∷ 0 ∷ left NoWay }
    ∷ no_fetch 16 1 ∷ gives (l1p_block 2 1) 1 0 0 ∷ gives l1p_all 1 0 0 ∷ []

unlent-refused : asked unlent (lent 16384 0 empty_line) ≡ stated unlent
unfolding chip_opened told asked lent stated unlent
unlent-refused = refl

-- a line that may not stand where it does gives the view 2 too, in front of 4
pub misplaced : List Place
misplaced = gives (on_data (look 16)) 2 0 0 ∷ []

misplaced-refused : asked misplaced (lent 16384 16384 (line_of 0x4080 false)) ≡ stated misplaced
unfolding chip_opened told asked lent stated misplaced
misplaced-refused = refl

-- ---- the calls as they are, every lent byte being there. L1P's invalidations "checked as L1D's are": 4, then 7. A
-- transfer into SRAM leaves L1P alone.
pub whole : List Place
whole =
    fetches 0 2 0 0 0 NoWay Empty ∷ gives (on_data (transfer_in 0 (5 ∷ 0 ∷ 0 ∷ 0 ∷ []))) 0 0 0
    ∷ gives (l1p_block 2 65536) 4 0 0 ∷ gives (l1p_block 0 65536) 7 0 0 ∷ hits 0 0 ∷ gives (l1p_block 0 1) 0 0 0
    ∷ fetches 0 2 5 0 0 NoWay Empty ∷ gives l1p_all 0 0 0 ∷ fetches 0 2 5 0 0 NoWay Empty ∷ []

whole-holds : checked whole (started 16384 32768 16384 0) ≡ stated whole
unfolding chip_opened told checked started stated whole
whole-holds = refl

-- ---- "zero when fresh": the number, the record's E, how many lines there are and whether one is valid, how many bytes
-- of L1P there are, and these as one number; of a chip with p bytes of L1P, each of them 1
unfoldable pub renewed : ChipReply → List ℕ
renewed r =
    r.number ∷ r.next.data_side.rec.extlen ∷ length r.next.lines
    ∷ cond (any_of (λ (y : Line). y.valid) r.next.lines) 1 0 ∷ length r.next.bytes ∷ little r.next.bytes
    ∷ []

unfoldable pub fresh_from : ℕ → List ℕ
fresh_from p =
    renewed
    (chip_called (on_data fresh_start)
    (chip (state (fresh_record 32768 256) (replicate 16384 0) (replicate 32768 0) (replicate 256 0))
    (set fresh_l1p 3 (line_of 0x4060 false)) (replicate p 1)))

pub fresh-chip :
    map fresh_from (16384 ∷ 2 ∷ []) ≡ (0 ∷ 256 ∷ 512 ∷ 0 ∷ 16384 ∷ 0 ∷ []) ∷ (1 ∷ 128 ∷ 512 ∷ 0 ∷ 2 ∷ 257 ∷ []) ∷ []
unfolding chip_opened renewed fresh_from
fresh-chip = refl

-- ---- a run carries out the chip's commands: bit 0 of MAR 128, mode 0, and that bit again, where L1P has a line of the
-- range; its checks 1 and 2 are the chip's. Bytes consumed, answers, what stopped it, the numbers of three answers.
unfoldable pub ran_of : ChipRun → List ℕ
ran_of r =
    r.consumed ∷ r.count ∷ r.stop ∷ get_or r.answers 0 0 ∷ get_or r.answers 10 0 ∷ get_or r.answers 20 0 ∷ []

abbrev trace : List ℕ
trace = 11 ∷ 128 ∷ 1 ∷ 0 ∷ 10 ∷ 0 ∷ 11 ∷ 128 ∷ 1 ∷ 0 ∷ []

pub run-on-chip :
    ran_of
    (chip_run_from trace 10 0 (chip (cut 0 0 (replicate 128 0)) (set fresh_l1p 0 (line_of 0x80000000 false)) []) 0
    (replicate 30 1))
    ≡ 10 ∷ 3 ∷ 0 ∷ 10 ∷ 0 ∷ 0 ∷ []
unfolding chip_opened ran_of chip_run_from
run-on-chip = refl

pub run-unlent : ran_of (chip_run_call trace (replicate 30 1) (lent 16384 0 empty_line)) ≡ 0 ∷ 0 ∷ 1 ∷ 1 ∷ 1 ∷ 1 ∷ []
unfolding chip_opened ran_of chip_run_call lent
run-unlent = refl

-- ---- a frame's L2 command drops the L1P lines over its place: of those at 80000000h and 80000C00h, each inside a
-- valid L2 line, the one of its turn. One of n bytes at turn t: its number, and which of the two lines L1P has.
abbrev at_both_places : Record
at_both_places =
    with_l2_set (in_mode1 6144 0 (line_of 0x80000000 false ∷ [])) 24
    (record { lines = line_of 0x80000C00 false ∷ []; order = record { first = 3; second = 2; third = 1; fourth = 0 } })

unfoldable pub framed_of : ChipFramed → List ℕ
framed_of r =
    r.number ∷ cond (in_l1p r.next.lines 0x80000000) 1 0 ∷ cond (in_l1p r.next.lines 0x80000C00) 1 0 ∷ []

unfoldable pub after_frame : ℕ → ℕ → List ℕ
after_frame t n =
    framed_of
    (chip_frame_step t (replicate n 0)
    (chip (state at_both_places [] [] [])
    (set (set fresh_l1p 0 (line_of 0x80000000 false)) 96 (line_of 0x80000C00 false)) []))

pub frames-drop :
    after_frame 0 3072 ∷ after_frame 1 3072 ∷ after_frame 0 64
    ∷ framed_of (chip_frame_call 0 [] (lent 16384 0 empty_line)) ∷ []
    ≡ (0 ∷ 0 ∷ 1 ∷ []) ∷ (0 ∷ 1 ∷ 0 ∷ []) ∷ (20 ∷ 1 ∷ 1 ∷ []) ∷ (1 ∷ 0 ∷ 0 ∷ []) ∷ []
unfolding chip_opened in_mode1 framed frame_due chip_frame_step chip_frame_call framed_of after_frame lent
frames-drop = refl

-- ---- "written, by CPU or EDMA, since fresh or the last accepted mode change": of the accepted calls `wrote`, newest
-- first, three wrote: 2 bytes at 16, 4 at 66 and 4 at 128
abbrev of_code : ℕ → ℕ → ℕ → ChipCall
of_code k a b = on_data (one_command (command k a b 0))

abbrev wrote : List ChipCall
wrote =
    on_data (transfer_in 128 (replicate 4 0)) ∷ fetch 0 ∷ l1p_all ∷ l1p_block 0 8 ∷ on_data (write_unaligned 4 66 0)
    ∷ of_code 0 8 0 ∷ on_data (transfer_out 32 (replicate 4 0)) ∷ on_data (read_unaligned 4 48) ∷ of_code 1 2 16
    ∷ of_code 5 0 8 ∷ []

unfoldable pub among : List ChipCall → List ℕ → List ℕ
among h [] = []
among h (a ∷ bs) = cond (written h a) (a ∷ among h bs) (among h bs)

abbrev addresses : List ℕ
addresses = 0 ∷ 15 ∷ 16 ∷ 17 ∷ 18 ∷ 32 ∷ 48 ∷ 65 ∷ 66 ∷ 69 ∷ 70 ∷ 127 ∷ 128 ∷ 131 ∷ 132 ∷ []

pub written-told :
    among wrote addresses ∷ among (of_code 1 1 70 ∷ of_code 10 0 0 ∷ wrote) addresses ∷ []
    ≡ (16 ∷ 17 ∷ 66 ∷ 69 ∷ 128 ∷ 131 ∷ []) ∷ (70 ∷ []) ∷ []
unfolding written among
written-told = refl

-- ---- "For U1's external transfers a fetch is a CPU access.", and L1P's invalidations are none: whether the L2 line at
-- 80000000h is covered behind some accepted calls, newest first
abbrev swept : List ChipCall → List ChipCall
swept h = of_code 7 0x80000000 32 ∷ of_code 5 0x80000000 32 ∷ h

unfoldable pub covered_behind : List ChipCall → Bool
covered_behind h = stretch_covered (as_calls h) 0x80000000 128

pub fetches-are-accesses :
    map covered_behind
    ([] ∷ (fetch 0x80000060 ∷ []) ∷ swept (fetch 0x80000060 ∷ []) ∷ (fetch 0x80000060 ∷ swept [])
    ∷ (fetch 0x80000080 ∷ l1p_all ∷ l1p_block 0x80000000 8 ∷ swept (fetch 0x80000000 ∷ [])) ∷ [])
    ≡ true ∷ false ∷ true ∷ false ∷ true ∷ []
unfolding opened since covered_since line_covered lines_covered stretch_covered as_calls covered_behind
fetches-are-accesses = refl

-- ---- "In lists that are compared with flat memory": these hold fetches and L1P's invalidations beside what they held;
-- no drop of L1D's or L2's, and no fresh start
pub lists-hold :
    map chip_listed
    ((fetch 0 ∷ l1p_block 0 8 ∷ l1p_all ∷ wrote) ∷ (fetch 0 ∷ of_code 6 0 8 ∷ []) ∷ (fetch 0 ∷ on_data fresh_start ∷ [])
    ∷ [])
    ≡ true ∷ false ∷ false ∷ []
unfolding chip_listed
lists-hold = refl
