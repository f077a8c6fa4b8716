-- Demand 3, what it says; `Agreement` proves it. Paper 01, "Flat memory": "Demand 3 is one statement about the whole
-- list and not one for each call."
-- Read it from the top: the calls that a list may hold, what is compared of a call, what a global writeback settles,
-- both runs along the list, the demand.
use Rattle.std.specs.Prelude.{ℕ, Bool, true, false, ◌&&◌, ◌||◌, ◌≡◌, List, [], ◌∷◌, length, leb, eqb}
use Rattle.model.specs.Bytes.{part}
use Rattle.model.specs.Records.{State, sram_of, l1d_line_at, l2_line_at}
use Rattle.model.specs.Flat.{Flat, fresh_flat, flat_called}
use Rattle.model.specs.Calls.{fresh_call, Call, one_command, fresh_start, look, read_unaligned, write_unaligned, transfer_in, transfer_out, fetch_behind, called, commands}
use Rattle.agreement.specs.Covered.{joined}
use Rattle.model.specs.declared.Command.{Command}

-- ---- which calls a list may hold: reads (0), writes (1), the writeback commands (2 to 5 and 7), mode changes (10),
-- MAR changes (11) and freezes (12; 02, U11: "Read values in lists with freezes are still flat memory's."), each with
-- any numbers, refused ones too; views; non-aligned accesses (02, U6: "Lists with these accesses keep agreeing with
-- flat memory."); and transfers (02, U1), external ones where they join (`joined` in Covered). No fresh start: flat
-- memory begins with the external memory as lent.
abbrev pub listed_code : ℕ → Bool
listed_code k = leb k 5 || (eqb k 7 || (eqb k 10 || (eqb k 11 || eqb k 12)))

abbrev pub listed_call : Call → Bool
listed_call (one_command c) = listed_code c.code
listed_call fresh_start = false
listed_call (look a) = true
listed_call (read_unaligned n a) = true
listed_call (write_unaligned n a v) = true
listed_call (transfer_in a bs) = true
listed_call (transfer_out a o) = true
listed_call (fetch_behind a) = true

unfoldable pub listed : List Call → Bool
listed [] = true
listed (c ∷ cs) = listed_call c && listed cs

-- ---- what is compared: the number, the value and the bytes handed back of reads and writes, aligned or not, of mode
-- changes and of transfers. So both refuse the same ones, by the same number, an accepted read gives the same value,
-- and "an out transfer's buffer is compared too" (02, U1).
abbrev pub compared : Call → Bool
compared (one_command c) = eqb c.code 0 || (eqb c.code 1 || eqb c.code 10)
compared fresh_start = false
compared (look a) = false
compared (read_unaligned n a) = true
compared (write_unaligned n a v) = true
compared (transfer_in a bs) = true
compared (transfer_out a o) = true
compared (fetch_behind a) = false

-- ---- the global writeback commands, "2 and 3 being the global ones"
abbrev pub global : Call → Bool
global (one_command c) = eqb c.code 2 || eqb c.code 3
global fresh_start = false
global (look a) = false
global (read_unaligned n a) = false
global (write_unaligned n a v) = false
global (transfer_in a bs) = false
global (transfer_out a o) = false
global (fetch_behind a) = false

-- ---- 01: "in a mode other than 0" is struck by 02, U10: "After a global writeback, external memory and SRAM are now
-- flat memory's in every mode, mode 0 included.": byte for byte, and no line of either cache is dirty
pub record Settled (z : State) (f : Flat) : Type 0 where
  pub external : z.ext ≡ f.ext
  pub sram : part z.l2 0 (sram_of z.rec) ≡ f.sram
  pub l1d_clean : (s w : ℕ) → (l1d_line_at z.rec s w).valid ≡ true → (l1d_line_at z.rec s w).dirty ≡ false
  pub l2_clean : (t v : ℕ) → (l2_line_at z.rec t v).valid ≡ true → (l2_line_at z.rec t v).dirty ≡ false

-- ---- what agrees at one place of the list, the chip being in state z and flat memory in state f before the call
pub record AgreesAt (c : Call) (z : State) (f : Flat) : Type 0 where
  pub number : compared c ≡ true → (called c z).number ≡ (flat_called c f).number
  pub value : compared c ≡ true → (called c z).value ≡ (flat_called c f).value
  pub bytes : compared c ≡ true → (called c z).bytes ≡ (flat_called c f).bytes
  pub settled : global c ≡ true → (called c z).number ≡ 0 → Settled (called c z).next (flat_called c f).next

-- ---- along the whole list: both carry out the same calls, one after another, and agree at each place
pub data Agree : List Call → State → Flat → Type 0 where
  end : {z : State} {f : Flat} → Agree [] z f
  next : {c : Call} {cs : List Call} {z : State} {f : Flat} →
      AgreesAt c z f → Agree cs (called c z).next (flat_called c f).next → Agree (c ∷ cs) z f

-- ---- demand 3: from an accepted fresh start, whatever bytes were lent to it, for every list
abbrev pub Demand3 : Type 0
Demand3 =
    (d m e : List ℕ) → (fresh_call d m e).number ≡ 0 →
    (cs : List Call) → listed cs ≡ true → joined [] cs (fresh_call d m e).next ≡ true →
    Agree cs (fresh_call d m e).next (fresh_flat (length m) e)

-- ---- so for every list of commands, which holds no transfer
abbrev pub CommandsDemand3 : Type 0
CommandsDemand3 =
    (d m e : List ℕ) → (fresh_call d m e).number ≡ 0 →
    (cs : List Command) → listed (commands cs) ≡ true → Agree (commands cs) (fresh_call d m e).next (fresh_flat (length m) e)
