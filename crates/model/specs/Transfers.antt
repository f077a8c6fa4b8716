-- 02, U1, "Camera transfers.": what an accepted transfer does, and the number due, in the request's order of
-- sentences. Calls has the two calls; which transfers join the lists that are compared with flat memory: Covered.
use Rattle.std.specs.Prelude.{ℕ, ◌/◌, Bool, not, cond, ◌&&◌, List, length, ltb, leb, eqb}
use Rattle.model.specs.Memories.{external_base}
use Rattle.model.specs.Records.{State}
use Rattle.model.specs.Homes.{memory_part, put_memory}
use Rattle.model.specs.Commands.{l1d_writeback_invalidate_block}
use Rattle.model.specs.Refusals.{lowest_due, unless, multiple_of, place_ok}

-- ---- "For SRAM, L1D lines the transfer touches first go home if dirty and become invalid.": what L1D block
-- writeback-invalidate does over the n bytes at a, which are n ÷ 4 words (`transfer-block` in Laws: the block has these
-- bytes and no others). "For external memory no cache is looked at:"
unfoldable pub sent_home : ℕ → ℕ → State → State
sent_home a n z = cond (ltb a external_base) (l1d_writeback_invalidate_block a (n / 4) z) z

-- ---- "in (buffer to memory) or out, of a lent buffer's whole length, at an address;": the state after a transfer in
-- of the bytes bs; the n bytes that a transfer out hands back, its state being `sent_home a n z`. ".. the CPU goes on
-- seeing its held line, the EDMA sees what stands in memory.": SRAM and external memory themselves
unfoldable pub transferred_in : ℕ → List ℕ → State → State
transferred_in a bs z = put_memory a bs (sent_home a (length bs) z)

unfoldable pub transferred_out : ℕ → ℕ → State → List ℕ
transferred_out a n z = memory_part a n (sent_home a n z)

-- ---- "it isn't in the trace.": no command has a code for it.
-- ---- "Errors: after 4 (address not a multiple of 4), 13 for a length of 0, not a multiple of 4 or above 262,140;"
unfoldable pub transfer_length : ℕ → Bool
transfer_length n = not (eqb n 0) && (multiple_of 4 n && leb n 262140)

-- "then 14 for a transfer not wholly in SRAM or external memory.": n bytes at a, by S and E
unfoldable pub transfer_due : ℕ → ℕ → ℕ → ℕ → ℕ
transfer_due s e n a =
    lowest_due (unless (multiple_of 4 a) 4) (lowest_due (unless (transfer_length n) 13) (unless (place_ok s e n a) 14))
