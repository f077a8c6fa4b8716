-- Short lists of calls from a fresh start, and for each call which of a few addresses a writeback reached (`reached`):
-- rows that hold by computing. What is proved of the sentences says nothing of an event that is forgotten; these rows
-- do, one for each call that sends a line out, with the clean half of an L2 line, a writeback that goes no further than
-- L2, and a line that is clean. The calls are carried out without checks 1 and 2, which would go through all lent
-- bytes each time: a record that is well formed stays so.
use Prim.Native.Nat.{ℕ}
use mathlib.Core.Bool.{Bool, true, false}
use mathlib.Core.List.{List, [], ◌∷◌, map}
use mathlib.Core.Path.{◌≡◌, refl}
use lib.ListN.{replicate}
use Rattle.model.specs.Records.{State, fresh_state}
use Rattle.model.specs.Trace.{command}
use Rattle.model.specs.Calls.{Reply, Call, one_command, transfer_in, transfer_out}
use Rattle.model.specs.Opened.{opened}
use Rattle.model.proofs.Worked.{stepped}
use Rattle.dropped_lines.specs.Reached.{go_on, l1d_sends, l2_sends, fetch_sends, thawed_sends, miss_sends, read_sends, write_sends, one_sends, all_send, touched_send, touched_l1d_send, all_l1d_send, over_all_send, over_block_send, sends, transfer_sends}
use Rattle.dropped_lines.specs.Dropped.{changes_mode, reached}

-- ---- a place: the call, and what is told of each address
pub record Place : Type 0 where
  pub asked : Call
  pub told : List Bool

abbrev at : ℕ → ℕ → ℕ → ℕ → List Bool → Place
at code a b v ts = record { asked = one_command (command code a b v); told = ts }

abbrev reads : ℕ → List Bool → Place
reads a ts = at 0 1 a 0 ts

abbrev writes : ℕ → List Bool → Place
writes a ts = at 1 1 a 5 ts

abbrev all : ℕ → List Bool → Place
all code ts = at code 0 0 0 ts

abbrev block : ℕ → ℕ → List Bool → Place
block code b ts = at code b 1 0 ts

abbrev mode : ℕ → List Bool → Place
mode m ts = at 10 m 0 0 ts

abbrev mar128 : List Bool → Place
mar128 ts = at 11 128 1 0 ts

abbrev freeze : ℕ → List Bool → Place
freeze b ts = at 12 b 0 0 ts

abbrev go_in : ℕ → ℕ → List Bool → Place
go_in a n ts = record { asked = transfer_in a (replicate n 7); told = ts }

abbrev go_out : ℕ → ℕ → List Bool → Place
go_out a n ts = record { asked = transfer_out a (replicate n 0); told = ts }

unfoldable pub tells : List ℕ → Call → State → Reply → (State → List (List Bool)) → List (List Bool)
tells bs c z r rest = map (λ b. reached c z r b) bs ∷ rest r.next

unfoldable pub along : List ℕ → List Place → State → List (List Bool)
along bs [] z = []
along bs (p ∷ ps) z = tells bs p.asked z (stepped p.asked z) (along bs ps)

unfoldable pub given : ℕ → List ℕ → List Place → List (List Bool)
given e bs ps = along bs ps (fresh_state 32768 (replicate e 0))

unfoldable pub stated : List Place → List (List Bool)
stated ps = map (λ (p : Place). p.told) ps

-- all that the rows compute with, by one name
unfoldable pub opened_here : Unit {0}
unfolding
    opened stepped go_on l1d_sends l2_sends fetch_sends thawed_sends miss_sends read_sends write_sends one_sends all_send touched_send touched_l1d_send
    all_l1d_send over_all_send over_block_send sends transfer_sends changes_mode reached tells along given stated
opened_here = tt

abbrev none : List Bool
none = false ∷ false ∷ []

abbrev both : List Bool
both = true ∷ true ∷ []

abbrev first : List Bool
first = true ∷ false ∷ []

-- ---- SRAM, addresses 0 and 64: a dirty line of L1D is put out by a read, but not where L1D is frozen (02, U11); a
-- clean one goes nowhere
pub sram : List Place
sram =
    reads 0 none ∷ writes 0 none ∷ reads 0x2000 none ∷ freeze 1 none ∷ reads 0x4000 none ∷ freeze 0 none ∷ reads 0x4000 first
    ∷ reads 0 none ∷ []

sram-told : given 128 (0 ∷ 64 ∷ []) sram ≡ stated sram
unfolding opened_here sram
sram-told = refl

-- Transfers (02, U1), in and out: a dirty line that they touch, with whichever of its bytes, goes home whole, once; a
-- clean one goes nowhere, nor does one beside the transfer's bytes, nor any by a transfer that is refused.
pub transfers : List Place
transfers =
    reads 0 none ∷ go_out 0 4 none ∷ reads 0 none ∷ writes 0 none ∷ go_in 64 4 none ∷ go_in 0 6 none ∷ go_out 2 4 none ∷ go_in 60 4 first
    ∷ go_in 60 4 none ∷ reads 64 none ∷ writes 64 none ∷ reads 0 none ∷ go_out 4 60 none ∷ reads 0 none ∷ writes 0 none ∷ go_out 60 8 both
    ∷ go_out 60 8 none ∷ []

transfers-told : given 128 (0 ∷ 64 ∷ []) transfers ≡ stated transfers
unfolding opened_here transfers
transfers-told = refl

-- ---- the rest of them: both halves of an L2 line of external memory. In mode 0 L1D's line goes there itself,
-- by L2's commands too (02, U10), but by no transfer
pub mode_zero : List Place
mode_zero =
    mar128 none ∷ reads 0x80000000 none ∷ writes 0x80000000 none ∷ go_in 0x80000000 4 none ∷ block 7 0x80000000 first
    ∷ reads 0x80000000 none ∷ writes 0x80000000 none ∷ all 2 first ∷ reads 0x80000000 none ∷ writes 0x80000000 none ∷ block 4 0x80000000 first
    ∷ mode 0 both ∷ []

mode_zero-told : given 128 (0x80000000 ∷ 0x80000040 ∷ []) mode_zero ≡ stated mode_zero
unfolding opened_here mode_zero
mode_zero-told = refl

-- In mode 1 it goes into L2, and from there all of the line goes out, once, by 4, 5, 2 and 3.
pub mode_one : List Place
mode_one =
    mode 1 both ∷ mar128 none ∷ reads 0x80000000 none ∷ writes 0x80000000 none ∷ block 7 0x80000000 none ∷ block 4 0x80000000 both
    ∷ block 4 0x80000000 none ∷ writes 0x80000040 none ∷ block 5 0x80000040 both ∷ reads 0x80000040 none ∷ writes 0x80000040 none ∷ all 2 both
    ∷ writes 0x80000040 none ∷ all 3 both ∷ []

mode_one-told : given 128 (0x80000000 ∷ 0x80000040 ∷ []) mode_one ≡ stated mode_one
unfolding opened_here mode_one
mode_one-told = refl

-- Five lines of one L2 set, addresses in two of them: the first is put out by a write miss, the second by a read miss.
pub put_out : List Place
put_out =
    mode 1 both ∷ mar128 none ∷ writes 0x80000000 none ∷ writes 0x80002000 none ∷ reads 0x80004000 none ∷ reads 0x80006000 none
    ∷ writes 0x80008000 first ∷ reads 0x80000000 (false ∷ true ∷ []) ∷ []

put_out-told : given 32896 (0x80000000 ∷ 0x80002000 ∷ []) put_out ≡ stated put_out
unfolding opened_here put_out
put_out-told = refl
