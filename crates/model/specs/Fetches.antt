-- 02, U4, "Program fetches.": what lies behind L1P does for a fetch, and the number due for it. L1P itself, which the
-- data side knows nothing of, is crate program's.
use Rattle.std.specs.Prelude.{ℕ, cond}
use Rattle.model.specs.Records.{State}
use Rattle.model.specs.Homes.{memory_part}
use Rattle.model.specs.Access.{Access, access, cacheable, read_frozen}
use Rattle.model.specs.Reports.{Moved, Report, report, Accounts, fetch_left, read_frozen_moved, memory_moved}
use Rattle.model.specs.Refusals.{lowest_due, unless, multiple_of, place_ok}
use Rattle.model.specs.declared.Left.TheVariants.{NoWay}

-- "32-byte lines"
abbrev pub fetch_length : ℕ
fetch_length = 32

-- ---- "A fetch returns one line's 32 bytes, cached in L2 like a data read, but never looks for them in L1D (an L2 line
-- put out still takes in its halves);": its bytes from the home and nothing filled, as a frozen read miss takes them
-- (02, U11), L2 acting as for a data read. Past the caches as a data read is.
unfoldable pub fetch_access : ℕ → State → Access
fetch_access a z = cond (cacheable z.rec a) (read_frozen fetch_length a z) (access 4 (memory_part a fetch_length z) z)

-- "it reports as U2's accesses do,": what it moves, and what is reported
unfoldable pub fetch_moved : ℕ → State → Moved
fetch_moved a z = cond (cacheable z.rec a) (read_frozen_moved fetch_length a z) (memory_moved a fetch_length z)

unfoldable pub fetch_report : ℕ → State → Report
fetch_report a z =
    cond (cacheable z.rec a) (report NoWay (fetch_left a z) (read_frozen_moved fetch_length a z))
    (report NoWay NoWay (memory_moved a fetch_length z))

-- ---- "Errors: 15 for a fetch address not a multiple of 32, after 2 and before 5.": by S and E
unfoldable pub fetch_due : ℕ → ℕ → ℕ → ℕ
fetch_due s e a = lowest_due (unless (multiple_of fetch_length a) 15) (unless (place_ok s e fetch_length a) 5)

-- the counts are the bytes that it moves
abbrev pub FetchAccounts : Type 0
FetchAccounts = (a : ℕ) (z : State) → Accounts z (fetch_moved a z) (fetch_access a z).next (fetch_report a z)
