-- Paper 01, "Refusal table": each number's condition, and the lowest number due. 0: none is due.
use Rattle.std.specs.Prelude.{ℕ, zero, suc, ◌+◌, ◌%◌, Bool, true, false, not, cond, ◌&&◌, ◌||◌, List, length, ltb, leb, eqb}
use Rattle.model.specs.Basics.{any_of}
use Rattle.model.specs.Memories.{l1d_length, legal_l2, legal_external, external_base, cache_size, is_mode}
use Rattle.model.specs.Records.{State, sram_of, covers, well_formed}
use Rattle.model.specs.declared.Line.{Line}
use Rattle.model.specs.declared.L1dSet.{L1dSet}
use Rattle.model.specs.declared.L2Set.{L2Set}
use Rattle.model.specs.declared.Record.{Record}

-- "The lowest due number wins": of two, asked in their order; 0 is not due
abbrev pub lowest_due : ℕ → ℕ → ℕ
lowest_due zero k = k
lowest_due (suc n) k = suc n

-- number n unless the test holds
abbrev pub unless : Bool → ℕ → ℕ
unless true n = 0
unless false n = n

-- ---- "1: a lent length illegal, or unlike the record's" (02, U4: ".. check 1 its buffer", that is L1P's:
-- `chip_lent_due` of crate program)
unfoldable pub lent_l1d : List ℕ → Bool
lent_l1d d = eqb (length d) l1d_length

unfoldable pub lent_l2 : Record → List ℕ → Bool
lent_l2 r m = legal_l2 (length m) && eqb (length m) r.l2len

unfoldable pub lent_external : Record → List ℕ → Bool
lent_external r e = legal_external (length e) && eqb (length e) r.extlen

-- ---- "2: record not well formed": `well_formed` (Records)
-- ---- "3: size not 1, 2, 4, 8"
unfoldable pub size_ok : ℕ → Bool
size_ok n = eqb n 1 || (eqb n 2 || (eqb n 4 || eqb n 8))

-- ---- "4: address not a multiple of the size; block base not of 4; viewed address not of 64"
abbrev pub multiple_of : ℕ → ℕ → Bool
multiple_of n a = eqb (a % n) 0

-- ---- "5: access or viewed line not wholly in SRAM or external memory (blocks may lie anywhere)": n bytes at a, by S
-- and E
unfoldable pub place_ok : ℕ → ℕ → ℕ → ℕ → Bool
place_ok s e n a = cond (ltb a external_base) (leb (a + n) s) (leb (a + n) (external_base + e))

-- ---- "6: value needs more bytes than the size"
unfoldable pub value_ok : ℕ → ℕ → Bool
value_ok n v = cond (eqb n 1) (ltb v 0x100) (cond (eqb n 2) (ltb v 0x10000) (cond (eqb n 4) (ltb v 0x100000000) (ltb v 0x10000000000000000)))

-- ---- "7: count above 65,535"
abbrev pub count_ok : ℕ → Bool
count_ok c = leb c 65535

-- ---- "8: mode not 0 to 3 or 7, or C above L"
abbrev pub mode_ok : ℕ → ℕ → Bool
mode_ok l m = is_mode m && leb (cache_size m) l

-- ---- "9: MAR not 128 or 129, or bit above 1"
abbrev pub mar_ok : ℕ → ℕ → Bool
mar_ok n b = (eqb n 128 || eqb n 129) && leb b 1

-- ---- "10: bit 0 while either cache holds a line of that range": a valid line with an address that MAR n covers. 02,
-- U4: "Check 10 now looks in L1P too": `chip_command_due` of crate program.
unfoldable pub in_range : ℕ → Line → Bool
in_range n x = x.valid && covers n x.address

unfoldable pub holds_range : ℕ → Record → Bool
holds_range n r = any_of (λ (v : L1dSet). any_of (in_range n) v.lines) r.l1d || any_of (λ (v : L2Set). any_of (in_range n) v.lines) r.l2

-- ---- 02, U11: "17 for a number above 1,"
abbrev pub freeze_ok : ℕ → Bool
freeze_ok b = leb b 1

-- "11: trace damaged": `damaged` (Trace). "12: fewer than 10 answer bytes left": `run_from` (Calls).
-- ---- the lowest number due, call by call. 1 and 2 stand in front of every call; the view is lent L2 and external
-- memory only.
unfoldable pub lent_due : State → ℕ
lent_due z =
    lowest_due (unless (lent_l1d z.l1d && (lent_l2 z.rec z.l2 && lent_external z.rec z.ext)) 1)
    (unless (well_formed z.rec) 2)

unfoldable pub view_lent_due : Record → List ℕ → List ℕ → ℕ
view_lent_due r m e = lowest_due (unless (lent_l2 r m && lent_external r e) 1) (unless (well_formed r) 2)

-- a read or write of n bytes at a, of value v (a read's is 0)
unfoldable pub access_due : ℕ → ℕ → ℕ → ℕ → ℕ → ℕ
access_due s e n a v =
    lowest_due (unless (size_ok n) 3) (lowest_due (unless (multiple_of n a) 4) (lowest_due (unless (place_ok s e n a) 5) (unless (value_ok n v) 6)))

-- a block of c words from b on
unfoldable pub block_due : ℕ → ℕ → ℕ
block_due b c = lowest_due (unless (multiple_of 4 b) 4) (unless (count_ok c) 7)

-- a change to mode m
unfoldable pub mode_due : ℕ → ℕ → ℕ
mode_due l m = unless (mode_ok l m) 8

-- MAR n gets bit b
unfoldable pub mar_due : Record → ℕ → ℕ → ℕ
mar_due r n b = lowest_due (unless (mar_ok n b) 9) (unless (not (eqb b 0 && holds_range n r)) 10)

-- L1D is frozen (1) or thawed (0). 02, U11: "checked after 10", which no freeze meets
unfoldable pub freeze_due : ℕ → ℕ
freeze_due b = unless (freeze_ok b) 17

-- the technician's view of the line at a
unfoldable pub view_due : Record → List ℕ → List ℕ → ℕ → ℕ
view_due r m e a = lowest_due (view_lent_due r m e) (lowest_due (unless (multiple_of 64 a) 4) (unless (place_ok (sram_of r) r.extlen 64 a) 5))
