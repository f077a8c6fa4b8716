-- 02, U13: "a writeback .. reached its external memory (for SRAM, its SRAM byte)", told from the chip's own steps: a
-- call is made of the steps of Access, Homes and Commands (crate model), and two of them send the bytes of a line out
-- to memory. Here is for each call whether one of its steps sends address a out, in the order in which they are done;
-- `sent-clean`, `in-sent-clean` and `out-sent-clean` (proofs/Sent) show that no dirty line has a afterwards.
use Rattle.std.specs.Prelude.{ℕ, ◌+◌, ◌*◌, ◌/◌, ◌%◌, Bool, false, not, cond, ◌&&◌, ◌||◌, ltb, leb, eqb}
use Rattle.model.specs.Basics.{each}
use Rattle.model.specs.Memories.{external_base}
use Rattle.model.specs.Lines.{l1d_kind, l1d_set_of, l2_line_length, l2_ways}
use Rattle.model.specs.Records.{State, mode0, l2_sets_of, l2_set_of, l1d_set_at, l1d_line_at, l2_line_at}
use Rattle.model.specs.Ways.{l1d_victim, l1d_way, l2_way, in_l1d, in_l2}
use Rattle.model.specs.Homes.{home_is_l2, l2_way_for, take_halves, writeback_l2, evict_l2}
use Rattle.model.specs.Access.{cacheable, evict_l1d}
use Rattle.model.specs.Commands.{lines_touched, at_l1d, at_l2, evict_all_l1d, l1d_writeback_invalidate_block}
use Rattle.model.specs.declared.Command.{Command}

-- address a is one of the n bytes at b
abbrev pub within : ℕ → ℕ → ℕ → Bool
within b n a = leb b a && ltb a (b + n)

-- ---- the two steps
-- "a dirty line there is written back to its home" (`evict_l1d` of set s, way w): 64 bytes, where the home is SRAM or
-- external memory itself; a line that goes into L2 has not reached its external memory
unfoldable pub l1d_sends : ℕ → ℕ → ℕ → State → Bool
l1d_sends a s w z =
    (l1d_line_at z.rec s w).valid && ((l1d_line_at z.rec s w).dirty &&
    (not (home_is_l2 z.rec (l1d_line_at z.rec s w).address) && within (l1d_line_at z.rec s w).address l1d_kind.line_length a))

-- "takes in the dirty halves that L1D holds, .. and it is written out if dirty" (`writeback_l2` and `evict_l2` of set t,
-- way v): all 128 bytes, the clean half too
abbrev pub out_of_l2 : ℕ
out_of_l2 = l2_line_length

unfoldable pub l2_sends : ℕ → ℕ → ℕ → State → Bool
l2_sends a t v z =
    (l2_line_at z.rec t v).valid && ((l2_line_at (take_halves t v (l2_line_at z.rec t v).address z).rec t v).dirty &&
    within (l2_line_at z.rec t v).address out_of_l2 a)

-- ---- accesses at address b
-- `fetch_l2`: the line in the way that is chosen leaves
unfoldable pub fetch_sends : ℕ → ℕ → State → Bool
fetch_sends a b z = home_is_l2 z.rec b && (not (in_l2 z b) && l2_sends a (l2_set_of z.rec b) (l2_way_for z b) z)

-- `read_thawed`: the line in the L1D way that is chosen goes home and the way is emptied, then L2 fetches
abbrev pub chosen : ℕ → State → ℕ
chosen b z = l1d_victim (l1d_set_at z.rec (l1d_set_of b))

unfoldable pub thawed_sends : ℕ → ℕ → State → Bool
thawed_sends a b z = l1d_sends a (l1d_set_of b) (chosen b z) z || fetch_sends a b (evict_l1d (l1d_set_of b) (chosen b z) z)

-- `read_miss`; 02, U11: frozen, only L2 acts
unfoldable pub miss_sends : ℕ → ℕ → State → Bool
miss_sends a b z = cond z.rec.frozen (fetch_sends a b z) (thawed_sends a b z)

unfoldable pub read_sends : ℕ → ℕ → State → Bool
read_sends a b z = cacheable z.rec b && (not (in_l1d z b) && miss_sends a b z)

-- 02, U4: what lies behind L1P does for a fetch: only L2 acts
unfoldable pub program_sends : ℕ → ℕ → State → Bool
program_sends a b z = cacheable z.rec b && fetch_sends a b z

-- `write_miss`
unfoldable pub write_sends : ℕ → ℕ → State → Bool
write_sends a b z = cacheable z.rec b && (not (in_l1d z b) && fetch_sends a b z)

-- ---- commands: the steps f 0, f 1, .. f (n - 1), of which f k sends a out of the state that it meets where s k says
-- so: how far they have come, and whether one of them did
pub record Going : Type 0 where
  pub reached : State
  pub sent : Bool

unfoldable pub go_on : (ℕ → State → State) → (ℕ → State → Bool) → ℕ → Going → Going
go_on f s k g = record { reached = f k g.reached; sent = g.sent || s k g.reached }

unfoldable pub one_sends : (ℕ → State → State) → (ℕ → State → Bool) → ℕ → State → Bool
one_sends f s n z = (each (go_on f s) n (record { reached = z; sent = false })).sent

-- each L2 line; each touched L2 line; each touched L1D line; f is what is done to it
unfoldable pub all_send : (ℕ → ℕ → State → State) → ℕ → State → Bool
all_send f a z =
    not (mode0 z.rec) &&
    one_sends (λ i. f (i / l2_ways) (i % l2_ways)) (λ i. l2_sends a (i / l2_ways) (i % l2_ways)) (l2_sets_of z.rec * l2_ways) z

abbrev pub line_of_block : ℕ → ℕ → ℕ → ℕ
line_of_block n b k = (b / n + k) * n

unfoldable pub touched_send : (ℕ → ℕ → State → State) → ℕ → ℕ → ℕ → State → Bool
touched_send f a b c z =
    not (mode0 z.rec) &&
    one_sends (λ k. at_l2 f (line_of_block l2_line_length b k))
    (λ k x. in_l2 x (line_of_block l2_line_length b k) &&
    l2_sends a (l2_set_of x.rec (line_of_block l2_line_length b k)) (l2_way x (line_of_block l2_line_length b k)) x)
    (lines_touched l2_line_length b c) z

unfoldable pub touched_l1d_send : ℕ → ℕ → ℕ → State → Bool
touched_l1d_send a b c z =
    one_sends (λ k. at_l1d evict_l1d (line_of_block l1d_kind.line_length b k))
    (λ k x. in_l1d x (line_of_block l1d_kind.line_length b k) &&
    l1d_sends a (l1d_set_of (line_of_block l1d_kind.line_length b k)) (l1d_way x (line_of_block l1d_kind.line_length b k)) x)
    (lines_touched l1d_kind.line_length b c) z

-- each L1D line
unfoldable pub all_l1d_send : ℕ → State → Bool
all_l1d_send a z =
    one_sends (λ i. evict_l1d (i / l1d_kind.ways) (i % l1d_kind.ways)) (λ i. l1d_sends a (i / l1d_kind.ways) (i % l1d_kind.ways)) (l1d_kind.sets * l1d_kind.ways) z

-- 02, U10: the L2 commands begin with L1D
unfoldable pub over_all_send : (ℕ → ℕ → State → State) → ℕ → State → Bool
over_all_send f a z = all_l1d_send a z || all_send f a (evict_all_l1d z)

unfoldable pub over_block_send : (ℕ → ℕ → State → State) → ℕ → ℕ → ℕ → State → Bool
over_block_send f a b c z = touched_l1d_send a b c z || touched_send f a b c (l1d_writeback_invalidate_block b c z)

-- ---- does an accepted command k, on state z, send address a out. (A mode change sends every dirty line home; it
-- counts as a writeback of every byte, in Dropped.)
unfoldable pub sends : Command → State → ℕ → Bool
sends k z a =
    cond (eqb k.code 0) (read_sends a k.second z)
    (cond (eqb k.code 1) (write_sends a k.second z)
    (cond (eqb k.code 2) (over_all_send writeback_l2 a z)
    (cond (eqb k.code 3) (over_all_send evict_l2 a z)
    (cond (eqb k.code 4) (over_block_send writeback_l2 a k.first k.second z)
    (cond (eqb k.code 5) (over_block_send evict_l2 a k.first k.second z)
    (cond (eqb k.code 7) (touched_l1d_send a k.first k.second z) false))))))

-- ---- 02, U1: does an accepted transfer of n bytes at b, in or out. "For SRAM, L1D lines the transfer touches first go
-- home if dirty": those that command 7 sends of n ÷ 4 words (`sent_home`). "For external memory no cache is looked at"
unfoldable pub transfer_sends : ℕ → ℕ → State → ℕ → Bool
transfer_sends b n z a = ltb b external_base && touched_l1d_send a b (n / 4) z
