-- 02, U1: which transfers join the lists that are compared with flat memory. "SRAM transfers join the lists .. External
-- ones join where the address and length are multiples of 128 and, since the last CPU access to that stretch, both an
-- L2 and an L1D block writeback-invalidate have covered it."
-- It is told line by line of 128 bytes from the calls that were accepted so far, newest first, and from nothing else:
-- of the caches nothing is asked here. That a line so covered is in no cache is what agreement/proofs/Uncached shows.
use Rattle.std.specs.Prelude.{ℕ, zero, suc, ◌+◌, ◌*◌, ◌/◌, Bool, true, false, not, cond, ◌&&◌, ◌||◌, List, [], ◌∷◌, length, ltb, leb, eqb}
use Rattle.model.specs.Basics.{any_of}
use Rattle.model.specs.Memories.{external_base}
use Rattle.model.specs.Lines.{l1d_kind, l2_line_length, upper_half}
use Rattle.model.specs.Records.{State}
use Rattle.model.specs.Commands.{block_end}
use Rattle.model.specs.Refusals.{multiple_of}
use Rattle.model.specs.Fetches.{fetch_length}
use Rattle.model.specs.Calls.{Call, one_command, fresh_start, look, read_unaligned, write_unaligned, transfer_in, transfer_out, fetch_behind, called}

-- some byte from a on, in front of e, lies in the line of n bytes at b
abbrev pub has_byte_in : ℕ → ℕ → ℕ → ℕ → Bool
has_byte_in n b a e = ltb a e && (ltb a (b + n) && ltb b e)

-- ---- "CPU access": a read or a write, aligned or not, with a byte in the L2 line at b. (A view is none: it looks
-- behind the caches.)
abbrev pub accesses : ℕ → Call → Bool
accesses b (one_command c) = leb c.code 1 && has_byte_in l2_line_length b c.second (c.second + c.first)
accesses b fresh_start = false
accesses b (look a) = false
accesses b (read_unaligned n a) = has_byte_in l2_line_length b a (a + n)
accesses b (write_unaligned n a v) = has_byte_in l2_line_length b a (a + n)
accesses b (transfer_in a bs) = false
accesses b (transfer_out a o) = false
accesses b (fetch_behind a) = has_byte_in l2_line_length b a (a + fetch_length)

-- ---- "an L2 and an L1D block writeback-invalidate" (codes 5 and 7): the block of one with code k touches the line of
-- n bytes at b
abbrev pub covered_by : ℕ → ℕ → ℕ → Call → Bool
covered_by k n b (one_command c) = eqb c.code k && has_byte_in n b c.first (block_end c.first c.second)
covered_by k n b fresh_start = false
covered_by k n b (look a) = false
covered_by k n b (read_unaligned m a) = false
covered_by k n b (write_unaligned m a v) = false
covered_by k n b (transfer_in a bs) = false
covered_by k n b (transfer_out a o) = false
covered_by k n b (fetch_behind a) = false

-- ---- "since the last CPU access": of the accepted calls h, those behind the last that accesses the L2 line at b
unfoldable pub since : ℕ → List Call → List Call
since b [] = []
since b (c ∷ h) = cond (accesses b c) [] (c ∷ since b h)

-- one with code k touched the line of n bytes at l since the L2 line at b, which it lies in, was last accessed; a line
-- that was never accessed counts as covered
unfoldable pub covered_since : ℕ → ℕ → ℕ → ℕ → List Call → Bool
covered_since k n l b h = not (any_of (accesses b) h) || any_of (covered_by k n l) (since b h)

-- "both": the L2 line at b, and of L1D lines its lower half and its upper half, in any order, by one command or several
unfoldable pub line_covered : List Call → ℕ → Bool
line_covered h b =
    covered_since 5 l2_line_length b b h &&
    (covered_since 7 l1d_kind.line_length b b h && covered_since 7 l1d_kind.line_length (upper_half b) b h)

-- ---- "where the address and length are multiples of 128 and ..": each of the lines that the n bytes at a are made of
unfoldable pub lines_covered : List Call → ℕ → ℕ → Bool
lines_covered h a zero = true
lines_covered h a (suc k) = lines_covered h a k && line_covered h (a + k * l2_line_length)

unfoldable pub stretch_covered : List Call → ℕ → ℕ → Bool
stretch_covered h a n = multiple_of l2_line_length a && (multiple_of l2_line_length n && lines_covered h a (n / l2_line_length))

-- ---- a call that is accepted in state z; the accepted calls behind it
abbrev pub is_accepted : Call → State → Bool
is_accepted c z = eqb (called c z).number 0

abbrev pub remembered : Call → State → List Call → List Call
remembered c z h = cond (is_accepted c z) (c ∷ h) h

-- ---- a transfer of n bytes at a joins: into or out of SRAM; refused, when it moves nothing; or over a stretch that is
-- covered. Other calls do as `listed_call` (Demand) says.
unfoldable pub transfer_joins : List Call → ℕ → ℕ → Bool → Bool
transfer_joins h a n ok = ltb a external_base || (not ok || stretch_covered h a n)

abbrev pub joins : List Call → Call → State → Bool
joins h (one_command c) z = true
joins h fresh_start z = true
joins h (look a) z = true
joins h (read_unaligned n a) z = true
joins h (write_unaligned n a v) z = true
joins h (transfer_in a bs) z = transfer_joins h a (length bs) (is_accepted (transfer_in a bs) z)
joins h (transfer_out a o) z = transfer_joins h a (length o) (is_accepted (transfer_out a o) z)
joins h (fetch_behind a) z = true

-- ---- along a list, from state z, with the accepted calls h in front of it
unfoldable pub joined : List Call → List Call → State → Bool
joined h [] z = true
joined h (c ∷ cs) z = joins h c z && joined (remembered c z h) cs (called c z).next
