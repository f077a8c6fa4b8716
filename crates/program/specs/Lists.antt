-- 02, U4: what is stated of fetches in lists that are compared with flat memory: "an accepted fetch gives flat memory's
-- bytes wherever none of its 32 was written, by CPU or EDMA, since fresh or the last accepted mode change."
-- proofs/ChipLists shows it (`chip-demand3`), and proofs/ChipStays that a chip stays well formed, L1P's lines too.
use Rattle.std.specs.Prelude.{ℕ, ◌+◌, ◌<◌, Bool, true, false, cond, ◌&&◌, ◌||◌, ◌≡◌, List, [], ◌∷◌, length, get_or, replicate, ltb, leb, eqb}
use Rattle.model.specs.Flat.{Flat, FlatReply, flat_reply, fresh_flat, flat_fetch, flat_called}
use Rattle.model.specs.Calls.{fresh_call, Call, one_command, fresh_start, look, read_unaligned, write_unaligned, transfer_in, transfer_out, fetch_behind}
use Rattle.agreement.specs.Covered.{transfer_joins}
use Rattle.agreement.specs.Demand.{listed_call, compared, global, Settled}
use Rattle.program.specs.L1p.{fresh_l1p, l1p_length}
use Rattle.program.specs.Fetches.{Chip, chip, ChipReply}
use Rattle.program.specs.Chip.{ChipCall, on_data, fetch, l1p_block, l1p_all, chip_called}

-- ---- flat memory: it has no L1P
abbrev pub flat_chip : ChipCall → Flat → FlatReply
flat_chip (on_data c) f = flat_called c f
flat_chip (fetch a) f = flat_fetch a f
flat_chip (l1p_block b c) f = flat_reply 0 0 f
flat_chip l1p_all f = flat_reply 0 0 f

-- ---- "written, by CPU or EDMA,": address a, by an accepted call
abbrev pub within : ℕ → ℕ → ℕ → Bool
within b n a = leb b a && ltb a (b + n)

abbrev pub written_by : ChipCall → ℕ → Bool
written_by (on_data (one_command c)) a = eqb c.code 1 && within c.second c.first a
written_by (on_data fresh_start) a = false
written_by (on_data (look b)) a = false
written_by (on_data (read_unaligned n b)) a = false
written_by (on_data (write_unaligned n b v)) a = within b n a
written_by (on_data (transfer_in b bs)) a = within b (length bs) a
written_by (on_data (transfer_out b o)) a = false
written_by (on_data (fetch_behind b)) a = false
written_by (fetch b) a = false
written_by (l1p_block b c) a = false
written_by l1p_all a = false

abbrev pub is_mode_change : ChipCall → Bool
is_mode_change (on_data (one_command c)) = eqb c.code 10
is_mode_change (on_data fresh_start) = false
is_mode_change (on_data (look b)) = false
is_mode_change (on_data (read_unaligned n b)) = false
is_mode_change (on_data (write_unaligned n b v)) = false
is_mode_change (on_data (transfer_in b bs)) = false
is_mode_change (on_data (transfer_out b o)) = false
is_mode_change (on_data (fetch_behind b)) = false
is_mode_change (fetch b) = false
is_mode_change (l1p_block b c) = false
is_mode_change l1p_all = false

-- "since fresh or the last accepted mode change": of the accepted calls h, the newest first
unfoldable pub written : List ChipCall → ℕ → Bool
written [] a = false
written (c ∷ h) a = cond (is_mode_change c) false (written_by c a || written h a)

-- ---- the accepted calls, the newest first
abbrev pub chip_remembered : ChipCall → Chip → List ChipCall → List ChipCall
chip_remembered c x h = cond (eqb (chip_called c x).number 0) (c ∷ h) h

-- ---- "For U1's external transfers a fetch is a CPU access.", served by L1P or not: the accepted calls as the data
-- side's, of which agreement/specs/Covered says what is covered. L1P's invalidations are none, and cover nothing.
unfoldable pub as_calls : List ChipCall → List Call
as_calls [] = []
as_calls (on_data c ∷ h) = c ∷ as_calls h
as_calls (fetch a ∷ h) = fetch_behind a ∷ as_calls h
as_calls (l1p_block b c ∷ h) = as_calls h
as_calls (l1p_all ∷ h) = as_calls h

-- U1's transfers join by these; along a list, with the accepted calls h in front of it
abbrev pub chip_joins : List ChipCall → ChipCall → Chip → Bool
chip_joins h (on_data (transfer_in a bs)) x = transfer_joins (as_calls h) a (length bs) (eqb (chip_called (on_data (transfer_in a bs)) x).number 0)
chip_joins h (on_data (transfer_out a o)) x = transfer_joins (as_calls h) a (length o) (eqb (chip_called (on_data (transfer_out a o)) x).number 0)
chip_joins h (on_data (one_command c)) x = true
chip_joins h (on_data fresh_start) x = true
chip_joins h (on_data (look b)) x = true
chip_joins h (on_data (read_unaligned n b)) x = true
chip_joins h (on_data (write_unaligned n b v)) x = true
chip_joins h (on_data (fetch_behind b)) x = true
chip_joins h (fetch b) x = true
chip_joins h (l1p_block b c) x = true
chip_joins h l1p_all x = true

unfoldable pub chip_joined : List ChipCall → List ChipCall → Chip → Bool
chip_joined h [] x = true
chip_joined h (c ∷ cs) x = chip_joins h c x && chip_joined (chip_remembered c x h) cs (chip_called c x).next

-- ---- which calls a list may hold: of the data side's those that it might hold before (`fetch_behind` is a fetch's part
-- and no call of its own); fetches and L1P's invalidations
abbrev pub listed_chip : ChipCall → Bool
listed_chip (on_data (fetch_behind a)) = false
listed_chip (on_data (one_command c)) = listed_call (one_command c)
listed_chip (on_data fresh_start) = listed_call fresh_start
listed_chip (on_data (look b)) = listed_call (look b)
listed_chip (on_data (read_unaligned n b)) = listed_call (read_unaligned n b)
listed_chip (on_data (write_unaligned n b v)) = listed_call (write_unaligned n b v)
listed_chip (on_data (transfer_in b bs)) = listed_call (transfer_in b bs)
listed_chip (on_data (transfer_out b o)) = listed_call (transfer_out b o)
listed_chip (fetch a) = true
listed_chip (l1p_block b c) = true
listed_chip l1p_all = true

unfoldable pub chip_listed : List ChipCall → Bool
chip_listed [] = true
chip_listed (c ∷ cs) = listed_chip c && chip_listed cs

-- ---- what agrees at one place, behind the accepted calls h: of a call of the data side what demand 3 says
pub record DataAgrees (c : Call) (r : ChipReply) (g : FlatReply) : Type 0 where
  pub number : compared c ≡ true → r.number ≡ g.number
  pub value : compared c ≡ true → r.value ≡ g.value
  pub bytes : compared c ≡ true → r.bytes ≡ g.bytes
  pub settled : global c ≡ true → r.number ≡ 0 → Settled r.next.data_side g.next

-- of a fetch its number, so that both refuse the same ones, and each byte that was not written: more than is asked,
-- which is all 32 where none of them was
pub record FetchAgrees (h : List ChipCall) (a : ℕ) (r : ChipReply) (g : FlatReply) : Type 0 where
  pub number : r.number ≡ g.number
  pub long : length r.bytes ≡ 32
  pub byte : r.number ≡ 0 → (i : ℕ) → i < 32 → written h (a + i) ≡ false → get_or r.bytes i 0 ≡ get_or g.bytes i 0

abbrev pub ChipAgreesAt : List ChipCall → ChipCall → Chip → Flat → Type 0
ChipAgreesAt h (on_data c) x f = DataAgrees c (chip_called (on_data c) x) (flat_called c f)
ChipAgreesAt h (fetch a) x f = FetchAgrees h a (chip_called (fetch a) x) (flat_fetch a f)
ChipAgreesAt h (l1p_block b c) x f = Unit {0}
ChipAgreesAt h l1p_all x f = Unit {0}

-- ---- along the whole list: both carry out the same calls, one after another, and agree at each place
pub data ChipAgree : List ChipCall → List ChipCall → Chip → Flat → Type 0 where
  end : {h : List ChipCall} {x : Chip} {f : Flat} → ChipAgree h [] x f
  next : {h : List ChipCall} {c : ChipCall} {cs : List ChipCall} {x : Chip} {f : Flat} →
      ChipAgreesAt h c x f → ChipAgree (chip_remembered c x h) cs (chip_called c x).next (flat_chip c f).next → ChipAgree h (c ∷ cs) x f

-- ---- demand 3 with fetches and L1P's invalidations: from an accepted fresh start, whatever bytes were lent to it, for
-- every list
abbrev pub ChipDemand3 : Type 0
ChipDemand3 =
    (d m e : List ℕ) → (fresh_call d m e).number ≡ 0 → (cs : List ChipCall) → chip_listed cs ≡ true →
    let x = chip (fresh_call d m e).next fresh_l1p (replicate l1p_length 0) in
    chip_joined [] cs x ≡ true → ChipAgree [] cs x (fresh_flat (length m) e)
