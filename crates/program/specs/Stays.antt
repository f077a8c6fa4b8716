-- 02, U4: "the record carries its lines, and check 1 its buffer": a well-formed chip stays so, what it says;
-- proofs/Stays shows it. Whoever keeps the record of a call and lends the same four memories again never meets refusals
-- 1 and 2, whatever the calls of the chip: fetches, L1P's invalidations and every call of the data side, refused ones
-- too. And 01: "the record comes back as given, and a refused direct call changes no lent byte."
use Rattle.std.specs.Prelude.{Bool, true, false, ◌≡◌, ◌≢◌, List, length}
use Rattle.model.specs.Records.{Shape}
use Rattle.model.specs.Calls.{one_command, fresh_start, look, read_unaligned, write_unaligned, transfer_in, transfer_out, fetch_behind}
use Rattle.program.specs.L1p.{l1p_kind}
use Rattle.program.specs.Fetches.{Chip}
use Rattle.program.specs.Chip.{chip_lent_due, ChipCall, on_data, fetch, l1p_block, l1p_all, chip_called}
use Rattle.program.specs.Runs.{chip_after}

-- the arrays' lengths, which the types of a record give and no check asks for: L1P has a line for each of 512 sets
pub record ChipShape (x : Chip) : Type 0 where
  pub data_side : Shape x.data_side.rec
  pub sets : length x.lines ≡ l1p_kind.sets

abbrev pub ChipStaysWellFormed : Type 0
ChipStaysWellFormed = (x : Chip) → ChipShape x → chip_lent_due x ≡ 0 → (cs : List ChipCall) → chip_lent_due (chip_after cs x) ≡ 0

-- ---- a refused call, whatever the chip, leaves it as it was; of a fresh start 01 says otherwise: it "returns the
-- record of L = 32,768, E = 128."
abbrev pub starts_fresh : ChipCall → Bool
starts_fresh (on_data fresh_start) = true
starts_fresh (on_data (one_command c)) = false
starts_fresh (on_data (look a)) = false
starts_fresh (on_data (read_unaligned n a)) = false
starts_fresh (on_data (write_unaligned n a v)) = false
starts_fresh (on_data (transfer_in a bs)) = false
starts_fresh (on_data (transfer_out a o)) = false
starts_fresh (on_data (fetch_behind a)) = false
starts_fresh (fetch a) = false
starts_fresh (l1p_block b c) = false
starts_fresh l1p_all = false

abbrev pub RefusedChangesNothing : Type 0
RefusedChangesNothing =
    (c : ChipCall) (x : Chip) → starts_fresh c ≡ false → (chip_called c x).number ≢ 0 → (chip_called c x).next ≡ x
