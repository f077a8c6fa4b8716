-- 02, U4: the data side of a chip. It runs through calls of its own: those that the chip carries out on it. What is
-- stated of lists of the data side's calls holds so of a chip's data side (`Projected`, shown in proofs/Projected).
use Rattle.std.specs.Prelude.{ℕ, Bool, false, not, cond, ◌&&◌, ◌≡◌, ◌⊎◌, List, [], ◌∷◌, ◌++◌, eqb}
use Rattle.model.specs.Access.{cacheable}
use Rattle.model.specs.Calls.{Reply, command_due, fetch_due_in, Call, one_command, fresh_start, look, read_unaligned, write_unaligned, transfer_in, transfer_out, fetch_behind, called, after}
use Rattle.program.specs.L1p.{in_l1p}
use Rattle.program.specs.Fetches.{Chip, ChipReply}
use Rattle.program.specs.Chip.{chip_command_due, ChipCall, on_data, fetch, l1p_block, l1p_all, chip_called}
use Rattle.program.specs.Runs.{chip_after}

-- ---- an accepted fetch that L1P serves: a hit
unfoldable pub l1p_serves : ℕ → Chip → Bool
l1p_serves a x = eqb (fetch_due_in x.data_side a) 0 && (cacheable x.data_side.rec a && in_l1p x.lines a)

-- a MAR change that L1P alone refuses (check 10): the data side had another number for it
unfoldable pub l1p_refuses : Call → Chip → Bool
l1p_refuses (one_command c) x = not (eqb (chip_command_due c x) (command_due c x.data_side))
l1p_refuses fresh_start x = false
l1p_refuses (look a) x = false
l1p_refuses (read_unaligned n a) x = false
l1p_refuses (write_unaligned n a v) x = false
l1p_refuses (transfer_in a bs) x = false
l1p_refuses (transfer_out a o) x = false
l1p_refuses (fetch_behind a) x = false

-- ---- what the data side does of a call: nothing of a hit, of such a MAR change and of L1P's own invalidations; of any
-- other fetch, the part behind L1P
abbrev pub data_calls : ChipCall → Chip → List Call
data_calls (on_data c) x = cond (l1p_refuses c x) [] (c ∷ [])
data_calls (fetch a) x = cond (l1p_serves a x) [] (fetch_behind a ∷ [])
data_calls (l1p_block b c) x = []
data_calls l1p_all x = []

unfoldable pub all_data_calls : List ChipCall → Chip → List Call
all_data_calls [] x = []
all_data_calls (c ∷ cs) x = data_calls c x ++ all_data_calls cs (chip_called c x).next

-- a reply without L1P
abbrev pub data_reply : ChipReply → Reply
data_reply r =
    record { number = r.number; server = r.server; value = r.value; bytes = r.bytes; report = r.report; next = r.next.data_side }

-- ---- one call: carried out, with the data side's own reply; or none of it, which leaves the data side
pub record Carried (d : Call) (c : ChipCall) (x : Chip) : Type 0 where
  pub calls : data_calls c x ≡ d ∷ []
  pub reply : data_reply (chip_called c x) ≡ called d x.data_side

pub record Quiet (c : ChipCall) (x : Chip) : Type 0 where
  pub calls : data_calls c x ≡ []
  pub next : (chip_called c x).next.data_side ≡ x.data_side

abbrev pub Projects : ChipCall → Chip → Type 0
Projects c x = ((d : Call) × Carried d c x) ⊎ Quiet c x

-- ---- a list
abbrev pub Projected : List ChipCall → Chip → Type 0
Projected cs x = (chip_after cs x).data_side ≡ after (all_data_calls cs x) x.data_side
