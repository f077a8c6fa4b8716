-- The numbers that the papers give to refusals and servers, and those that a call returns: 0 where nothing is refused,
-- or served.
use Rattle.std.specs.Prelude.{ℕ, ◌<◌, cond, eqb}
use Rattle.std.proofs.Common.{Option, None, Some, Result, Ok, Err, arith}
use Rattle.kinds.specs.declared.Refusal.{Refusal}
use Rattle.kinds.specs.declared.Refusal.TheVariants.{LentLength, Record, Size, Alignment, Place, Value, WordCount, Mode, MarBit, MarInUse, Damaged, AnswersFull, TransferLength, TransferPlace, FetchAddress, OutputShort, FreezeBit, ShortRun, FrameMemory, FrameLength}
use Rattle.kinds.specs.declared.L1dOperation.{L1dOperation}
use Rattle.kinds.specs.declared.L1dOperation.TheVariants as l1d
use Rattle.kinds.specs.declared.L2Operation.{L2Operation}
use Rattle.kinds.specs.declared.L2Operation.TheVariants as l2
use Rattle.kinds.specs.declared.Server.{Server}
use Rattle.kinds.specs.declared.Server.TheVariants.{L1d, Sram, L2, External, L1p}

-- "Returned": the refusal table of 01, and the errors that 02 names
abbrev pub refusal_number : Refusal → ℕ
refusal_number LentLength = 1
refusal_number Record = 2
refusal_number Size = 3
refusal_number Alignment = 4
refusal_number Place = 5
refusal_number Value = 6
refusal_number WordCount = 7
refusal_number Mode = 8
refusal_number MarBit = 9
refusal_number MarInUse = 10
refusal_number Damaged = 11
refusal_number AnswersFull = 12
refusal_number TransferLength = 13
refusal_number TransferPlace = 14
refusal_number FetchAddress = 15
refusal_number OutputShort = 16
refusal_number FreezeBit = 17
refusal_number ShortRun = 18
refusal_number FrameMemory = 19
refusal_number FrameLength = 20

-- "The lowest due number wins"; "0 when accepted"
abbrev pub number_due : {A : Type 0} → Result A Refusal → ℕ
number_due (Ok x) = 0
number_due (Err e) = refusal_number e

-- "The server number is 1 for L1D, 2 SRAM, 3 L2 cache, 4 external (also when L2 had to fetch), 0 for calls that aren't
-- reads or writes."; 02, U4: "with 5 for L1P"
abbrev pub server_number : Server → ℕ
server_number L1d = 1
server_number Sram = 2
server_number L2 = 3
server_number External = 4
server_number L1p = 5

abbrev pub server_told : Option Server → ℕ
server_told None = 0
server_told (Some s) = server_number s

-- what is done to a line, by the codes that the definitions of crates l1d_commands and l2_commands have for it
abbrev pub l1d_operation_code : L1dOperation → ℕ
l1d_operation_code l1d.WritebackInvalidate = 7
l1d_operation_code l1d.Invalidate = 8
l1d_operation_code l1d.Writeback = 10

abbrev pub l2_operation_code : L2Operation → ℕ
l2_operation_code l2.Writeback = 4
l2_operation_code l2.WritebackInvalidate = 5
l2_operation_code l2.Invalidate = 6
l2_operation_code l2.WriteOut = 10
l2_operation_code l2.WriteOutInvalidate = 11

-- the operation of a code, whatever it is
abbrev pub l1d_of_code : ℕ → L1dOperation
l1d_of_code k = cond (eqb k 7) l1d.WritebackInvalidate (cond (eqb k 10) l1d.Writeback l1d.Invalidate)

abbrev pub l2_of_code : ℕ → L2Operation
l2_of_code k =
    cond (eqb k 4) l2.Writeback (cond (eqb k 6) l2.Invalidate (cond (eqb k 10) l2.WriteOut (cond (eqb k 11) l2.WriteOutInvalidate l2.WritebackInvalidate)))

-- no refusal has number 0
pub refusal_some : (e : Refusal) → 0 < refusal_number e
refusal_some LentLength = omega arith
refusal_some Record = omega arith
refusal_some Size = omega arith
refusal_some Alignment = omega arith
refusal_some Place = omega arith
refusal_some Value = omega arith
refusal_some WordCount = omega arith
refusal_some Mode = omega arith
refusal_some MarBit = omega arith
refusal_some MarInUse = omega arith
refusal_some Damaged = omega arith
refusal_some AnswersFull = omega arith
refusal_some TransferLength = omega arith
refusal_some TransferPlace = omega arith
refusal_some FetchAddress = omega arith
refusal_some OutputShort = omega arith
refusal_some FreezeBit = omega arith
refusal_some ShortRun = omega arith
refusal_some FrameMemory = omega arith
refusal_some FrameLength = omega arith
