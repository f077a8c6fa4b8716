-- 02, U4: the calls of the whole chip: what the calls of the data side do to L1P, the number due with L1P's part of
-- checks 1, 2 and 10, fetches, and L1P's own invalidations; one function from call and chip to reply and chip.
use Rattle.std.specs.Prelude.{ℕ, not, cond, ◌&&◌, ◌||◌, List, length, replicate, eqb}
use Rattle.model.specs.Records.{State, state, fresh_record}
use Rattle.model.specs.Refusals.{lowest_due, unless, lent_due, block_due, view_lent_due, view_due}
use Rattle.model.specs.Calls.{Reply, refused, carried_out, handed_back, command_due, step, fresh_ok, Call, one_command, fresh_start, look, read_unaligned, write_unaligned, transfer_in, transfer_out, fetch_behind, no_fetch, called}
use Rattle.model.specs.declared.Left.TheVariants.{NoWay}
use Rattle.model.specs.declared.Line.{Line}
use Rattle.model.specs.declared.Command.{Command}
use Rattle.program.specs.L1p.{l1p_length, fresh_l1p, l1p_ok, drop_under_all, drop_under_block, invalidate_l1p_block, invalidate_l1p_all, l1p_holds_range}
use Rattle.program.specs.Fetches.{Chip, ChipReply, with_l1p, beside_l1p, fetch_step, refused_fetch}

-- ---- what an accepted command does to L1P's lines: 3 and 5, L2 writeback-invalidate, and 6, L2 block invalidate, drop
-- those inside the L2 lines that are valid in front of the command; 10, "a mode change drops all." A drop changes no
-- byte. "Data writes and L2 evictions leave L1P untouched.", and so does every other command.
unfoldable pub lines_after : Command → State → List Line → List Line
lines_after c z ls =
    cond (eqb c.code 3) (drop_under_all z ls)
    (cond (eqb c.code 5 || eqb c.code 6) (drop_under_block z c.first c.second ls)
    (cond (eqb c.code 10) fresh_l1p ls))

-- ---- the number due for a command. 01: of "10: bit 0 while either cache holds a line of that range" the words "either
-- cache" are struck by 02, U4: "Check 10 now looks in L1P too"
unfoldable pub chip_command_due : Command → Chip → ℕ
chip_command_due c x =
    lowest_due (command_due c x.data_side)
    (unless (not (eqb c.code 11 && (eqb c.second 0 && l1p_holds_range c.first x.lines))) 10)

-- ---- a command on a chip that passed checks 1 and 2
unfoldable pub chip_step : Command → Chip → ChipReply
chip_step c x =
    cond (eqb (chip_command_due c x) 0)
    (with_l1p NoWay (lines_after c x.data_side x.lines) x.bytes (step c x.data_side))
    (beside_l1p (refused (chip_command_due c x) x.data_side) x)

-- ---- checks 1 and 2 with L1P: "the record carries its lines, and check 1 its buffer"; 1 comes first, whichever memory
-- it is for
unfoldable pub chip_lent_due : Chip → ℕ
chip_lent_due x =
    lowest_due (unless (eqb (length x.bytes) l1p_length) 1)
    (lowest_due (lent_due x.data_side) (unless (l1p_ok x.data_side.rec x.lines) 2))

-- the technician's view is lent neither L1D nor L1P; a record whose L1P lines are wrong is not well formed for it
-- either
unfoldable pub chip_view_due : ℕ → Chip → ℕ
chip_view_due a x =
    lowest_due (view_lent_due x.data_side.rec x.data_side.l2 x.data_side.ext)
    (lowest_due (unless (l1p_ok x.data_side.rec x.lines) 2) (view_due x.data_side.rec x.data_side.l2 x.data_side.ext a))

-- ---- a call of the data side that is refused by number n
abbrev pub refused_call : Call → ℕ → State → Reply
refused_call (one_command c) n z = refused n z
refused_call fresh_start n z = refused n z
refused_call (look a) n z = refused n z
refused_call (read_unaligned k a) n z = refused n z
refused_call (write_unaligned k a v) n z = refused n z
refused_call (transfer_in a bs) n z = refused n z
refused_call (transfer_out a o) n z = handed_back n o z
refused_call (fetch_behind a) n z = no_fetch n z

-- a non-aligned access or a transfer, as a call of the chip: it is lent the buffer too, and leaves L1P alone, also
-- where it writes. (Of the data side's calls commands and the fresh start alone act on L1P.)
unfoldable pub behind_checks : Call → Chip → ChipReply
behind_checks c x = cond (eqb (chip_lent_due x) 0) (beside_l1p (called c x.data_side) x) (beside_l1p (refused_call c (chip_lent_due x) x.data_side) x)

-- ---- the fresh start: L1P is "zero when fresh", and no line of it is valid. 01: "A fresh start can meet only 1, and
-- then returns the record of L = 32,768, E = 128.": no lent byte changes then
unfoldable pub chip_fresh : Chip → ChipReply
chip_fresh x =
    cond (eqb (length x.bytes) l1p_length && fresh_ok x.data_side.l1d x.data_side.l2 x.data_side.ext)
    (with_l1p NoWay fresh_l1p (replicate l1p_length 0) (called fresh_start x.data_side))
    (with_l1p NoWay fresh_l1p x.bytes (refused 1 (state (fresh_record 32768 128) x.data_side.l1d x.data_side.l2 x.data_side.ext)))

unfoldable pub chip_view : ℕ → Chip → ChipReply
chip_view a x =
    cond (eqb (chip_view_due a x) 0) (beside_l1p (called (look a) x.data_side) x) (beside_l1p (refused (chip_view_due a x) x.data_side) x)

-- ---- a call of the data side, as a call of the chip
abbrev pub data_called : Call → Chip → ChipReply
data_called (one_command c) x = cond (eqb (chip_lent_due x) 0) (chip_step c x) (beside_l1p (refused (chip_lent_due x) x.data_side) x)
data_called fresh_start x = chip_fresh x
data_called (look a) x = chip_view a x
data_called (read_unaligned n a) x = behind_checks (read_unaligned n a) x
data_called (write_unaligned n a v) x = behind_checks (write_unaligned n a v) x
data_called (transfer_in a bs) x = behind_checks (transfer_in a bs) x
data_called (transfer_out a o) x = behind_checks (transfer_out a o) x
data_called (fetch_behind a) x = behind_checks (fetch_behind a) x

-- ---- fetches, and "block and whole invalidation of its own, checked as L1D's are.": 1 and 2; of a block 4 and 7
unfoldable pub fetch_call : ℕ → Chip → ChipReply
fetch_call a x = cond (eqb (chip_lent_due x) 0) (fetch_step a x) (refused_fetch (chip_lent_due x) x)

unfoldable pub l1p_block_call : ℕ → ℕ → Chip → ChipReply
l1p_block_call b c x =
    cond (eqb (lowest_due (chip_lent_due x) (block_due b c)) 0)
    (with_l1p NoWay (invalidate_l1p_block b c x.lines) x.bytes (carried_out x.data_side))
    (beside_l1p (refused (lowest_due (chip_lent_due x) (block_due b c)) x.data_side) x)

unfoldable pub l1p_all_call : Chip → ChipReply
l1p_all_call x =
    cond (eqb (chip_lent_due x) 0) (with_l1p NoWay (invalidate_l1p_all x.lines) x.bytes (carried_out x.data_side))
    (beside_l1p (refused (chip_lent_due x) x.data_side) x)

-- ---- the calls of the chip, of every kind. "These calls aren't in the trace."
pub data ChipCall : Type 0 where
  on_data : Call → ChipCall
  fetch : ℕ → ChipCall
  l1p_block : ℕ → ℕ → ChipCall
  l1p_all : ChipCall

-- what a call gives on a chip
abbrev pub chip_called : ChipCall → Chip → ChipReply
chip_called (on_data c) x = data_called c x
chip_called (fetch a) x = fetch_call a x
chip_called (l1p_block b c) x = l1p_block_call b c x
chip_called l1p_all x = l1p_all_call x
