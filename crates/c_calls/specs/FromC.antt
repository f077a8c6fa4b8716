-- Demand 3 for lists of calls from C, what it says; `Along` proves it. C holds the record as words of memory and the
-- four memories; what a call from C does is what the contracts of crate boundary say. So this is demand 3 for what a
-- bench links: the answers that C is given, and the words and bytes that C holds, agree with flat memory. 02, U4: "an
-- accepted fetch gives flat memory's bytes wherever none of its 32 was written, by CPU or EDMA, since fresh or the last
-- accepted mode change."
use Rattle.std.specs.Prelude.{ℕ, ◌+◌, ◌<◌, true, false, cond, ◌≡◌, List, [], ◌∷◌, length, get_or, eqb}
use Rattle.model.specs.Flat.{Flat, fresh_flat, flat_fetch, flat_called}
use Rattle.model.specs.Calls.{Call, fresh_start}
use Rattle.agreement.specs.Demand.{compared, global, Settled}
use Rattle.program.specs.Fetches.{Chip, ChipReply}
use Rattle.program.specs.Chip.{ChipCall, on_data, fetch, l1p_block, l1p_all, chip_called}
use Rattle.program.specs.Lists.{flat_chip, written, chip_joined, chip_listed}
use Rattle.l1p_tags.specs.Lines.{chip_in}

-- what C holds between calls: the words of its record, and the four memories
pub record Held : Type 0 where
  pub words : List ℕ
  pub l1d : List ℕ
  pub l2 : List ℕ
  pub ext : List ℕ
  pub l1p : List ℕ

abbrev pub chip_of : Held → Chip
chip_of h = chip_in h.words h.l1d h.l2 h.ext h.l1p

-- what C is answered: number, server and value; of a view, of a transfer out and of a fetch the bytes. What an access
-- or a fetch reports (02, U2, U4) is no part of demand 3.
pub record Answered : Type 0 where
  pub number : ℕ
  pub server : ℕ
  pub value : ℕ
  pub bytes : List ℕ

abbrev pub answered_by : ChipReply → Answered
answered_by r = record { number = r.number; server = r.server; value = r.value; bytes = r.bytes }

-- ---- calls from C, one after another, each answered and each leaving what C holds for the next. Of each is known what
-- the contracts of crate boundary say, and nothing else.
pub record Gives (r : ChipReply) (x : Answered) (k : Held) : Type 0 where
  pub answer : x ≡ answered_by r
  pub next : chip_of k ≡ r.next

abbrev pub FromC : ChipCall → Held → Answered → Held → Type 0
FromC c h x k = Gives (chip_called c (chip_of h)) x k

pub data Chain : List ChipCall → Held → Type 0 where
  done : {h : Held} → Chain [] h
  made : {c : ChipCall} {cs : List ChipCall} {h : Held} (x : Answered) (k : Held) → FromC c h x k → Chain cs k → Chain (c ∷ cs) h

-- ---- the accepted calls, newest first, by the numbers that C was answered
abbrev pub accepted_by : ChipCall → Answered → List ChipCall → List ChipCall
accepted_by c x g = cond (eqb x.number 0) (c ∷ g) g

-- ---- what agrees at one place, flat memory being in state f before the call: the number and the value that C was
-- answered, and the bytes that it was handed back; after an accepted global writeback, C's external memory and SRAM are
-- flat memory's and no line is dirty in C's record
pub record DataSame (c : Call) (x : Answered) (k : Held) (f : Flat) : Type 0 where
  pub number : compared c ≡ true → x.number ≡ (flat_called c f).number
  pub value : compared c ≡ true → x.value ≡ (flat_called c f).value
  pub bytes : compared c ≡ true → x.bytes ≡ (flat_called c f).bytes
  pub settled : global c ≡ true → x.number ≡ 0 → Settled (chip_of k).data_side (flat_called c f).next

-- of a fetch the number, that it gives 32 bytes, and each of them that none of the accepted calls g has written since
-- the last mode change
pub record FetchSame (g : List ChipCall) (a : ℕ) (x : Answered) (f : Flat) : Type 0 where
  pub number : x.number ≡ (flat_fetch a f).number
  pub long : length x.bytes ≡ 32
  pub byte : x.number ≡ 0 → (i : ℕ) → i < 32 → written g (a + i) ≡ false → get_or x.bytes i 0 ≡ get_or (flat_fetch a f).bytes i 0

abbrev pub SameAt : List ChipCall → ChipCall → Answered → Held → Flat → Type 0
SameAt g (on_data c) x k f = DataSame c x k f
SameAt g (fetch a) x k f = FetchSame g a x f
SameAt g (l1p_block b c) x k f = Unit {0}
SameAt g l1p_all x k f = Unit {0}

-- ---- along the whole list, behind the accepted calls g
pub data AgreeFromC : List ChipCall → (cs : List ChipCall) (h : Held) → Chain cs h → Flat → Type 0 where
  whole : {g : List ChipCall} {h : Held} {f : Flat} → AgreeFromC g [] h done f
  also : {g : List ChipCall} {c : ChipCall} {cs : List ChipCall} {h k : Held} {x : Answered} {p : FromC c h x k} {r : Chain cs k} {f : Flat} →
      SameAt g c x k f → AgreeFromC (accepted_by c x g) cs k r (flat_chip c f).next → AgreeFromC g (c ∷ cs) h (made x k p r) f

-- ---- demand 3 for what C links: from an accepted fresh start, whatever words and bytes u were lent to it, for every
-- list
abbrev pub Demand3FromC : Type 0
Demand3FromC =
    (u : Held) (x : Answered) (h : Held) → FromC (on_data fresh_start) u x h → x.number ≡ 0 →
    (cs : List ChipCall) → chip_listed cs ≡ true → chip_joined [] cs (chip_of h) ≡ true → (r : Chain cs h) →
    AgreeFromC [] cs h r (fresh_flat (length u.l2) u.ext)
