-- 02, U13, "Dropped lines": what it says, in the request's own words. `dropped-lines` (proofs/Words) shows it, from the
-- stronger form of Stronger. This is the data side; the whole chip, with L1P (U4), is in ChipDropped. Read it from the
-- top: the calls of a list, the byte of an address, the calls that the sentences name, what is kept of each address
-- along a list, the three sentences at one place of it, the whole list.
use Rattle.std.specs.Prelude.{ℕ, zero, suc, ◌+◌, ◌-◌, ◌/◌, Bool, true, false, not, cond, ◌&&◌, ◌||◌, ◌≡◌, List, [], ◌∷◌, length, get_or, ltb, leb, eqb}
use Rattle.model.specs.Basics.{any_of}
use Rattle.model.specs.Bytes.{little, little_bytes}
use Rattle.model.specs.Memories.{external_base}
use Rattle.model.specs.Lines.{l1d_kind, l2_line_length}
use Rattle.model.specs.Records.{State}
use Rattle.model.specs.Ways.{in_l1d, in_l2}
use Rattle.model.specs.Homes.{memory_part}
use Rattle.model.specs.Commands.{lines_touched}
use Rattle.model.specs.Flat.{Flat, fresh_flat, flat_step, flat_called}
use Rattle.model.specs.Trace.{command}
use Rattle.model.specs.Calls.{Reply, call, fresh_call, Call, one_command, fresh_start, look, read_unaligned, write_unaligned, transfer_in, transfer_out, fetch_behind, called}
use Rattle.model.specs.Bytewise.{byte_read, byte_write, calls_to}
use Rattle.model.specs.declared.Command.{Command}
use Rattle.dropped_lines.specs.Reached.{within, sends, transfer_sends, program_sends}

-- ---- "For lists that also hold the three invalidating commands, external transfers left out": commands of every code
-- with any numbers, views, non-aligned accesses (02, U6), and transfers, in and out, below external memory (02, U1);
-- refused ones too. A fresh start begins a list and is no call of it.
abbrev pub listed_call : Call → Bool
listed_call (one_command k) = true
listed_call fresh_start = false
listed_call (look b) = true
listed_call (read_unaligned n b) = true
listed_call (write_unaligned n b v) = true
listed_call (transfer_in b bs) = ltb b external_base
listed_call (transfer_out b o) = ltb b external_base
listed_call (fetch_behind b) = true

unfoldable pub listed : List Call → Bool
listed [] = true
listed (c ∷ cs) = listed_call c && listed cs

-- ---- the byte of address a: what a CPU data read of that one byte gives; the same of flat memory; the n bytes from a
-- on
abbrev pub one_byte : ℕ → Command
one_byte a = command 0 1 a 0

unfoldable pub byte_at : State → ℕ → ℕ
byte_at z a = (call (one_byte a) z).value

unfoldable pub flat_byte_at : Flat → ℕ → ℕ
flat_byte_at f a = (flat_step (one_byte a) f).value

unfoldable pub bytes_at : State → ℕ → ℕ → List ℕ
bytes_at z a zero = []
bytes_at z a (suc n) = byte_at z a ∷ bytes_at z (suc a) n

-- the byte of its external memory, "(for SRAM, its SRAM byte)"
unfoldable pub memory_at : State → ℕ → ℕ
memory_at z a = get_or (memory_part a 1 z) 0 0

-- ---- the calls that the sentences name: call c is a command that was accepted (its answer is r), and p holds of it
abbrev pub does : (Command → Bool) → Call → Reply → Bool
does p (one_command k) r = eqb r.number 0 && p k
does p fresh_start r = false
does p (look b) r = false
does p (read_unaligned n b) r = false
does p (write_unaligned n b v) r = false
does p (transfer_in b bs) r = false
does p (transfer_out b o) r = false
does p (fetch_behind b) r = false

-- "each byte of a CPU data read": of one that was accepted, aligned or not. A transfer out is none, and neither is a
-- fetch (02, U4).
unfoldable pub reads : Call → Reply → ℕ → Bool
reads (one_command k) r a = eqb r.number 0 && (eqb k.code 0 && within k.second k.first a)
reads fresh_start r a = false
reads (look b) r a = false
reads (read_unaligned n b) r a = eqb r.number 0 && within b n a
reads (write_unaligned n b v) r a = false
reads (transfer_in b bs) r a = false
reads (transfer_out b o) r a = false
reads (fetch_behind b) r a = false

-- "the last one written (a SRAM transfer in writes too)": the call writes a, and which byte
unfoldable pub writes : Call → Reply → ℕ → Bool
writes (one_command k) r a = eqb r.number 0 && (eqb k.code 1 && within k.second k.first a)
writes fresh_start r a = false
writes (look b) r a = false
writes (read_unaligned n b) r a = false
writes (write_unaligned n b v) r a = eqb r.number 0 && within b n a
writes (transfer_in b bs) r a = eqb r.number 0 && within b (length bs) a
writes (transfer_out b o) r a = false
writes (fetch_behind b) r a = false

abbrev pub new_byte : Call → ℕ → ℕ
new_byte (one_command k) a = get_or (little_bytes k.value k.first) (a - k.second) 0
new_byte fresh_start a = 0
new_byte (look b) a = 0
new_byte (read_unaligned n b) a = 0
new_byte (write_unaligned n b v) a = get_or (little_bytes v n) (a - b) 0
new_byte (transfer_in b bs) a = get_or bs (a - b) 0
new_byte (transfer_out b o) a = 0
new_byte (fetch_behind b) a = 0

unfoldable pub changes_mode : Call → Reply → Bool
changes_mode c r = does (λ k. eqb k.code 10) c r

-- "a writeback last reached its external memory (for SRAM, its SRAM byte), .. a fresh start or mode change counting as
-- one": one of the call's steps sent the line with a out there, the call being made in state z. (Of a non-aligned
-- access it is asked byte by byte: `history_after`.)
abbrev pub sends_out : Call → State → Reply → ℕ → Bool
sends_out (one_command k) z r a = eqb r.number 0 && sends k z a
sends_out fresh_start z r a = false
sends_out (look b) z r a = false
sends_out (read_unaligned n b) z r a = false
sends_out (write_unaligned n b v) z r a = false
sends_out (transfer_in b bs) z r a = eqb r.number 0 && transfer_sends b (length bs) z a
sends_out (transfer_out b o) z r a = eqb r.number 0 && transfer_sends b (length o) z a
sends_out (fetch_behind b) z r a = eqb r.number 0 && program_sends a b z

unfoldable pub reached : Call → State → Reply → ℕ → Bool
reached c z r a = sends_out c z r a || changes_mode c r

-- "the three invalidating commands"
abbrev pub drop_code : ℕ → Bool
drop_code k = eqb k 6 || (eqb k 8 || eqb k 9)

abbrev pub is_drop : Call → Bool
is_drop (one_command k) = drop_code k.code
is_drop fresh_start = false
is_drop (look b) = false
is_drop (read_unaligned n b) = false
is_drop (write_unaligned n b v) = false
is_drop (transfer_in b bs) = false
is_drop (transfer_out b o) = false
is_drop (fetch_behind b) = false

-- "line that was dropped": one of these commands found a valid line with a, in L1D or in L2, dirty or clean, and left
-- none there (one that is refused leaves every line)
unfoldable pub drops_line : Call → State → Reply → ℕ → Bool
drops_line c z r a =
    is_drop c &&
    ((in_l1d z a && not (in_l1d r.next a)) || (in_l2 z a && not (in_l2 r.next a)))

-- "drop touching its line (128 bytes for L2's, 64 for L1D's)": the block of such a command touches the line of n bytes
-- that has a in it, whatever the caches hold there; or it is the one over all L1D lines
abbrev pub touches_line : ℕ → Command → ℕ → Bool
touches_line n k a = leb (k.first / n) (a / n) && ltb (a / n) (k.first / n + lines_touched n k.first k.second)

unfoldable pub drop_touches : Call → Reply → ℕ → Bool
drop_touches c r a =
    does (λ k. cond (eqb k.code 6) (touches_line l2_line_length k a)
    (cond (eqb k.code 8) (touches_line l1d_kind.line_length k a) (eqb k.code 9))) c r

-- ---- what is kept of each address along a list: "the last one written", if there was one; the values that it "held
-- since a writeback last reached its external memory .., that value included"; whether it was "in [a] line that was
-- dropped"
pub record History : Type 0 where
  pub last : ℕ → List ℕ
  pub held : ℕ → List ℕ
  pub dropped : ℕ → Bool

-- behind a fresh start in state z: it counts as a writeback
abbrev pub at_first : State → History
at_first z = record { last = λ _. []; held = λ a. memory_at z a ∷ []; dropped = λ _. false }

-- behind call c, made in state z and answered r; a non-aligned access apart
unfoldable pub last_after : Call → Reply → (ℕ → List ℕ) → ℕ → List ℕ
last_after c r last a = cond (writes c r a) (new_byte c a ∷ []) (last a)

-- (a transfer in first sends lines home and then writes: of a byte that it does both to, what it wrote is in memory)
unfoldable pub held_after : Call → State → Reply → (ℕ → List ℕ) → ℕ → List ℕ
held_after c z r held a =
    cond (reached c z r a) (memory_at r.next a ∷ []) (cond (writes c r a) (new_byte c a ∷ held a) (held a))

abbrev pub history_one : Call → State → Reply → History → History
history_one c z r y =
    record {
      last = last_after c r y.last;
      held = held_after c z r y.held;
      dropped = λ a. y.dropped a || drops_line c z r a;
    }

-- behind commands 0 to n - 1, one after another
unfoldable pub history_bytes : (ℕ → Command) → ℕ → State → History → History
history_bytes f zero z y = y
history_bytes f (suc k) z y =
    history_one (one_command (f k)) (calls_to f k z) (call (f k) (calls_to f k z)) (history_bytes f k z y)

-- behind any call: an accepted non-aligned access sends out and writes what its single-byte accesses do (02, U6)
abbrev pub history_after : Call → State → Reply → History → History
history_after (one_command k) z r y = history_one (one_command k) z r y
history_after fresh_start z r y = history_one fresh_start z r y
history_after (look b) z r y = history_one (look b) z r y
history_after (transfer_in b bs) z r y = history_one (transfer_in b bs) z r y
history_after (transfer_out b o) z r y = history_one (transfer_out b o) z r y
history_after (fetch_behind b) z r y = history_one (fetch_behind b) z r y
history_after (read_unaligned n b) z r y = cond (eqb r.number 0) (history_bytes (byte_read b) n z y) y
history_after (write_unaligned n b v) z r y = cond (eqb r.number 0) (history_bytes (byte_write n b v) n z y) y

-- ---- the three sentences at one place of a list: z and f are the chip and flat memory before call c; `may a b` says
-- that a read may give b at a, `dropped a` that a was in a line that was dropped, `ends a` that the call may change the
-- byte of a
pub record HoldsAt (c : Call) (z : State) (f : Flat) (may : ℕ → ℕ → Bool) (dropped ends : ℕ → Bool) : Type 0 where
  -- an accepted read's value is the bytes of its addresses, so that the sentences can speak of single bytes
  pub bytes : (k : Command) → c ≡ one_command k → k.code ≡ 0 → (call k z).number ≡ 0 → (call k z).value ≡ little (bytes_at z k.second k.first)
  pub bytes_unaligned : (n b : ℕ) → c ≡ read_unaligned n b → (called c z).number ≡ 0 → (called c z).value ≡ little (bytes_at z b n)
  -- "each byte of a CPU data read is the last one written .., or one it held since a writeback last reached .."
  pub sentence1 : (a : ℕ) → reads c (called c z) a ≡ true → may a (byte_at z a) ≡ true
  -- "Bytes in no line that was dropped read as flat memory."
  pub sentence2 : (a : ℕ) → reads c (called c z) a ≡ true → dropped a ≡ false → byte_at z a ≡ flat_byte_at f a
  -- "A byte keeps its value until .."
  pub sentence3 : (a : ℕ) → ends a ≡ false → byte_at (called c z).next a ≡ byte_at z a

-- "the last one written .., or one it held since .."
abbrev pub one_of : List ℕ → ℕ → Bool
one_of bs b = any_of (eqb b) bs

abbrev pub last_or_held : History → ℕ → ℕ → Bool
last_or_held y a b = one_of (y.last a) b || one_of (y.held a) b

-- ".. the next write to it, drop touching its line (128 bytes for L2's, 64 for L1D's), or mode change."
unfoldable pub may_change : Call → Reply → ℕ → Bool
may_change c r a = writes c r a || (drop_touches c r a || changes_mode c r)

-- ---- along the whole list
pub data Holds : List Call → State → Flat → History → Type 0 where
  end : {z : State} {f : Flat} {y : History} → Holds [] z f y
  next : {c : Call} {cs : List Call} {z : State} {f : Flat} {y : History} →
      HoldsAt c z f (last_or_held y) y.dropped (may_change c (called c z)) →
      Holds cs (called c z).next (flat_called c f).next (history_after c z (called c z) y) → Holds (c ∷ cs) z f y

-- ---- U13: from an accepted fresh start, for every list
abbrev pub DroppedLines : Type 0
DroppedLines =
    (d m e : List ℕ) → (fresh_call d m e).number ≡ 0 →
    (cs : List Call) → listed cs ≡ true → Holds cs (fresh_call d m e).next (fresh_flat (length m) e) (at_first (fresh_call d m e).next)
