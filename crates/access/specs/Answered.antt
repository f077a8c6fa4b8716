-- What contracts say of an access: the reply that an answer or a refusal gives, with the state behind it; what a read
-- or a write is answered; the way of L1D that was emptied for it.
use Rattle.std.specs.Prelude.{ℕ, ◌≤◌, ◌<◌, Bool, true, false, cond, ◌≡◌, [], eqb}
use Rattle.std.proofs.Common.{Option, Result, Ok, Err}
use Rattle.std.specs.Option.{is_some, IfSome}
use Rattle.kinds.specs.Numbers.{refusal_number, server_told}
use Rattle.kinds.specs.declared.Refusal.{Refusal}
use Rattle.kinds.specs.declared.Server.{Server}
use Rattle.model.specs.Bytes.{little, little_bytes}
use Rattle.model.specs.Records.{State, l1d_set_at}
use Rattle.model.specs.Ways.{l1d_victim}
use Rattle.model.specs.Homes.{memory_part, put_memory}
use Rattle.model.specs.Access.{Access, access, read_miss, write_miss}
use Rattle.model.specs.Calls.{Reply, replied}
use Rattle.model.specs.Reports.{Report, report, no_report, memory_moved, put_memory_moved, read_miss_report, write_miss_report}
use Rattle.model.specs.declared.Left.TheVariants.{NoWay}
use Rattle.model.specs.declared.Command.{Command}
use Rattle.l1d_writeback.specs.Going.{L1dGone}
use Rattle.access.specs.declared.Answer.{Answer}
use Rattle.access.specs.declared.Room.{Room}

-- an answer that reports nothing; what an answer reports
abbrev pub plain_answer : Option Server → ℕ → Answer
plain_answer k v = record { value = v; server = k; l1d_left = NoWay; l2_left = NoWay; read = 0; written = 0 }

abbrev pub reported : Answer → Report
reported r = record { l1d_left = r.l1d_left; l2_left = r.l2_left; read = r.read; written = r.written }

-- the reply that an accepted call gives, with the state behind it; that a call gives, which may be refused: then it has
-- but its number
abbrev pub accepted_of : Answer → State → Reply
accepted_of r z = replied 0 (server_told r.server) r.value (reported r) z

abbrev pub answer_of : Result Answer Refusal → State → Reply
answer_of (Ok r) z = accepted_of r z
answer_of (Err e) z = replied (refusal_number e) 0 0 no_report z

-- server and value, 0 where the call is refused
abbrev pub server_in : Result Answer Refusal → ℕ
server_in (Ok r) = server_told r.server
server_in (Err e) = 0

abbrev pub value_in : Result Answer Refusal → ℕ
value_in (Ok r) = r.value
value_in (Err e) = 0

-- what a command answers that is a write (y, reporting q) or a read (x, reporting p): as `write_done` and `read_done`
-- of Calls say it
abbrev pub answered : Command → Access → Report → Access → Report → Reply
answered c x p y q =
    cond (eqb c.code 1) (replied 0 y.server 0 q y.next) (replied 0 x.server (little x.bytes) p x.next)

-- .. that misses L1D; .. that goes past the caches
abbrev pub missed : Command → State → Reply
missed c z =
    answered c (read_miss c.first c.second z) (read_miss_report c.first c.second z)
    (write_miss c.second (little_bytes c.value c.first) z) (write_miss_report c.second (little_bytes c.value c.first) z)

abbrev pub passed : Command → State → Reply
passed c z =
    answered c (access 4 (memory_part c.second c.first z) z) (report NoWay NoWay (memory_moved c.second c.first z))
    (access 4 [] (put_memory c.second (little_bytes c.value c.first) z))
    (report NoWay NoWay (put_memory_moved c.second (little_bytes c.value c.first) z))

-- the way of L1D set i that a thawed read miss has emptied in state z (`none`: no way is chosen), and what is told of
-- it
abbrev pub RoomTold : Option Room → Bool → ℕ → State → Type 0
RoomTold r none i z =
    (is_some r ≡ true → none ≡ false) ×
    ((none ≡ false → is_some r ≡ true) ×
    IfSome r
    (λ m. ((m.way < 2) × (m.written ≤ 64)) × ((m.way ≡ l1d_victim (l1d_set_at z.rec i)) ×
    L1dGone (record { left = m.left; written = m.written }) i (l1d_victim (l1d_set_at z.rec i)) z)))
