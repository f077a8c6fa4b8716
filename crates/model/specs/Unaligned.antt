-- 02, U6, "Non-aligned loads and stores.": the number due, what an accepted access does, what it reports, in the
-- request's order of sentences. An access is 01's single-byte accesses, one after another; nothing of one is written
-- again here. Calls has the two calls; that each byte is a command of its own that would be accepted, and the bound on
-- what is reported: Bytewise.
use Rattle.std.specs.Prelude.{ℕ, zero, suc, ◌+◌, Bool, true, cond, ◌&&◌, ◌||◌, List, [], ◌∷◌, ◌++◌, get_or, ltb, eqb}
use Rattle.model.specs.Records.{State}
use Rattle.model.specs.Access.{Access, access, read_access, write_access}
use Rattle.model.specs.Reports.{Report, no_report, read_report, write_report}
use Rattle.model.specs.Refusals.{lowest_due, unless, place_ok, value_ok}
use Rattle.model.specs.declared.Left.TheVariants.{NoWay}

-- ---- "Add them for 4 and 8 bytes at any address,"
unfoldable pub unaligned_size : ℕ → Bool
unaligned_size n = eqb n 4 || eqb n 8

-- ---- "each done as single-byte accesses from the lowest address up, the server being the highest of theirs."
abbrev pub higher : ℕ → ℕ → ℕ
higher k l = cond (ltb k l) l k

-- an access, and one behind it in the state that it left
abbrev pub joined : Access → Access → Access
joined x y = access (higher x.server y.server) (x.bytes ++ y.bytes) y.next

-- the first k bytes from a on; no server is below 1, so that 0 is under all of them
unfoldable pub read_up : ℕ → ℕ → State → Access
read_up zero a z = access 0 [] z
read_up (suc k) a z = joined (read_up k a z) (read_access 1 (a + k) (read_up k a z).next)

-- the first k of the bytes bs, from a on
unfoldable pub write_up : ℕ → ℕ → List ℕ → State → Access
write_up zero a bs z = access 0 [] z
write_up (suc k) a bs z = joined (write_up k a bs z) (write_access (a + k) (get_or bs k 0 ∷ []) (write_up k a bs z).next)

-- ---- "All bytes are checked first, so a refusal moves nothing.": each of the k bytes from a on lies in SRAM or in
-- external memory (5). An address so high that they would pass FFFFFFFFh lies in neither. They do where all of them
-- together do: `placed-together` (Laws).
unfoldable pub bytes_placed : ℕ → ℕ → ℕ → ℕ → Bool
bytes_placed s e zero a = true
bytes_placed s e (suc k) a = bytes_placed s e k a && place_ok s e 1 (a + k)

-- ---- "Of U2's reports only the byte counts come back, added up."
abbrev pub added : Report → Report → Report
added q r = record { l1d_left = NoWay; l2_left = NoWay; read = q.read + r.read; written = q.written + r.written }

unfoldable pub read_up_report : ℕ → ℕ → State → Report
read_up_report zero a z = no_report
read_up_report (suc k) a z = added (read_up_report k a z) (read_report 1 (a + k) (read_up k a z).next)

unfoldable pub write_up_report : ℕ → ℕ → List ℕ → State → Report
write_up_report zero a bs z = no_report
write_up_report (suc k) a bs z =
    added (write_up_report k a bs z) (write_report (a + k) (get_or bs k 0 ∷ []) (write_up k a bs z).next)

-- ---- "They aren't in the trace.": no command has a code for them.
-- ---- "Check 4 doesn't apply, and 3 refuses sizes 1 and 2.": the lowest number due for n bytes at a, of value v (a
-- read's is 0)
unfoldable pub unaligned_due : ℕ → ℕ → ℕ → ℕ → ℕ → ℕ
unaligned_due s e n a v =
    lowest_due (unless (unaligned_size n) 3) (lowest_due (unless (bytes_placed s e n a) 5) (unless (value_ok n v) 6))
