-- Paper 01: one command, the fresh start, the run over a trace, the technician's view: what every contract of an
-- exported call cites. Last, the type of calls, one case for each kind, and what a call does to a state: what the
-- statements about lists of calls are about.
use Rattle.std.specs.Prelude.{ℕ, zero, suc, ◌+◌, ◌*◌, ◌≤◌, Bool, cond, ◌&&◌, List, [], ◌∷◌, length, drop, replicate, ltb, leb, eqb}
use Rattle.model.specs.Bytes.{stored, little, little_bytes}
use Rattle.model.specs.Memories.{l1d_length, legal_l2, legal_external}
use Rattle.model.specs.Records.{State, state, sram_of, fresh_record, fresh_state}
use Rattle.model.specs.Access.{read_access, write_access}
use Rattle.model.specs.Homes.{memory_part}
use Rattle.model.specs.Reports.{Report, no_report, read_report, write_report}
use Rattle.model.specs.Modes.{change_mode, change_mar, change_freeze}
use Rattle.model.specs.Commands.{l2_writeback_all, l2_writeback_invalidate_all, l2_writeback_block, l2_writeback_invalidate_block, l2_invalidate_block, l1d_writeback_invalidate_block, l1d_invalidate_block, l1d_invalidate_all}
use Rattle.model.specs.Refusals.{lent_due, view_due, access_due, block_due, mode_due, mar_due, freeze_due, unless}
use Rattle.model.specs.Unaligned.{read_up, write_up, read_up_report, write_up_report, unaligned_due}
use Rattle.model.specs.Transfers.{sent_home, transferred_in, transferred_out, transfer_due}
use Rattle.model.specs.Fetches.{fetch_length, fetch_access, fetch_report, fetch_due}
use Rattle.model.specs.Trace.{Decoded, decode}
use Rattle.model.specs.declared.Command.{Command}
use Rattle.model.specs.declared.Record.{Record}

-- what a call gives: number, server, value, the bytes that it hands back, what it reports (02, U2), and the state after
-- it
pub record Reply : Type 0 where
  pub number : ℕ
  pub server : ℕ
  pub value : ℕ
  pub bytes : List ℕ
  pub report : Report
  pub next : State

-- a reply that hands back no bytes: that of every call but the view, a transfer out and a fetch; and one that reports
-- nothing: that of every call but an accepted read, write or fetch
abbrev pub replied : ℕ → ℕ → ℕ → Report → State → Reply
replied n k v q z = record { number = n; server = k; value = v; bytes = []; report = q; next = z }

abbrev pub reply : ℕ → ℕ → ℕ → State → Reply
reply n k v z = replied n k v no_report z

-- "Value and server are 0 with it; the record comes back as given, and a refused direct call changes no lent byte."
abbrev pub refused : ℕ → State → Reply
refused n z = reply n 0 0 z

-- "0 for calls that aren't reads or writes. The value is 0 for all but accepted reads." (02, U4: "Its server is a data
-- read's": a fetch has one too.)
abbrev pub carried_out : State → Reply
carried_out z = reply 0 0 0 z

-- ---- one command: the number due by its code ("11 means an unknown code", which a trace never gives), and what it
-- does when none is
unfoldable pub command_due : Command → State → ℕ
command_due c z =
    cond (eqb c.code 0) (access_due (sram_of z.rec) z.rec.extlen c.first c.second 0)
    (cond (eqb c.code 1) (access_due (sram_of z.rec) z.rec.extlen c.first c.second c.value)
    (cond (leb 4 c.code && leb c.code 8) (block_due c.first c.second)
    (cond (eqb c.code 10) (mode_due z.rec.l2len c.first)
    (cond (eqb c.code 11) (mar_due z.rec c.first c.second)
    (cond (eqb c.code 12) (freeze_due c.first) (unless (leb c.code 12) 11))))))

-- "little-endian": bytes are read as a value, and a value is written as bytes. 02, U2: "The trace's answers keep their
-- 10 bytes; the direct call carries the rest."
unfoldable pub read_done : ℕ → ℕ → State → Reply
read_done n a z =
    replied 0 (read_access n a z).server (little (read_access n a z).bytes) (read_report n a z) (read_access n a z).next

unfoldable pub write_done : ℕ → ℕ → ℕ → State → Reply
write_done n a v z =
    replied 0 (write_access a (little_bytes v n) z).server 0 (write_report a (little_bytes v n) z)
    (write_access a (little_bytes v n) z).next

-- the state after an accepted command that is neither a read nor a write (an unknown code is never accepted)
unfoldable pub command_state : Command → State → State
command_state c z =
    cond (eqb c.code 2) (l2_writeback_all z)
    (cond (eqb c.code 3) (l2_writeback_invalidate_all z)
    (cond (eqb c.code 4) (l2_writeback_block c.first c.second z)
    (cond (eqb c.code 5) (l2_writeback_invalidate_block c.first c.second z)
    (cond (eqb c.code 6) (l2_invalidate_block c.first c.second z)
    (cond (eqb c.code 7) (l1d_writeback_invalidate_block c.first c.second z)
    (cond (eqb c.code 8) (l1d_invalidate_block c.first c.second z)
    (cond (eqb c.code 9) (l1d_invalidate_all z)
    (cond (eqb c.code 10) (change_mode c.first z)
    (cond (eqb c.code 11) (change_mar c.first c.second z)
    (cond (eqb c.code 12) (change_freeze c.first z) z))))))))))

-- what an accepted command gives
unfoldable pub accepted : Command → State → Reply
accepted c z =
    cond (eqb c.code 0) (read_done c.first c.second z)
    (cond (eqb c.code 1) (write_done c.first c.second c.value z) (carried_out (command_state c z)))

-- one command on a state that passed checks 1 and 2
unfoldable pub step : Command → State → Reply
step c z = cond (eqb (command_due c z) 0) (accepted c z) (refused (command_due c z) z)

-- 02, U2: "neither exceeds 128 for one access", whatever the record. With non-aligned accesses, which are several, "the
-- bound .. becomes 256" (02, U6; `AtMost256` in Bytewise).
abbrev pub AtMost128 : Type 0
AtMost128 = (c : Command) (z : State) → ((step c z).report.read ≤ 128) × ((step c z).report.written ≤ 128)

-- ---- a direct call: "The lowest due number wins"
unfoldable pub call : Command → State → Reply
call c z = cond (eqb (lent_due z) 0) (step c z) (refused (lent_due z) z)

-- ---- 02, U6: a non-aligned read of n bytes at a, and a write of value v: accepted; behind checks 1 and 2; the call
unfoldable pub read_unaligned_done : ℕ → ℕ → State → Reply
read_unaligned_done n a z =
    replied 0 (read_up n a z).server (little (read_up n a z).bytes) (read_up_report n a z) (read_up n a z).next

unfoldable pub write_unaligned_done : ℕ → ℕ → ℕ → State → Reply
write_unaligned_done n a v z =
    replied 0 (write_up n a (little_bytes v n) z).server 0 (write_up_report n a (little_bytes v n) z)
    (write_up n a (little_bytes v n) z).next

abbrev pub unaligned_due_in : State → ℕ → ℕ → ℕ → ℕ
unaligned_due_in z n a v = unaligned_due (sram_of z.rec) z.rec.extlen n a v

unfoldable pub read_unaligned_step : ℕ → ℕ → State → Reply
read_unaligned_step n a z =
    cond (eqb (unaligned_due_in z n a 0) 0) (read_unaligned_done n a z) (refused (unaligned_due_in z n a 0) z)

unfoldable pub write_unaligned_step : ℕ → ℕ → ℕ → State → Reply
write_unaligned_step n a v z =
    cond (eqb (unaligned_due_in z n a v) 0) (write_unaligned_done n a v z) (refused (unaligned_due_in z n a v) z)

unfoldable pub read_unaligned_call : ℕ → ℕ → State → Reply
read_unaligned_call n a z = cond (eqb (lent_due z) 0) (read_unaligned_step n a z) (refused (lent_due z) z)

unfoldable pub write_unaligned_call : ℕ → ℕ → ℕ → State → Reply
write_unaligned_call n a v z = cond (eqb (lent_due z) 0) (write_unaligned_step n a v z) (refused (lent_due z) z)

-- ---- 02, U1: a transfer in of the bytes bs at a, and one out into the buffer o: accepted; behind checks 1 and 2; the
-- call. No server, no value, nothing reported; one out hands back the buffer, which a refused one leaves as it was.
abbrev pub transfer_due_in : State → ℕ → ℕ → ℕ
transfer_due_in z n a = transfer_due (sram_of z.rec) z.rec.extlen n a

unfoldable pub transfer_in_step : ℕ → List ℕ → State → Reply
transfer_in_step a bs z =
    cond (eqb (transfer_due_in z (length bs) a) 0) (carried_out (transferred_in a bs z))
    (refused (transfer_due_in z (length bs) a) z)

unfoldable pub transfer_in_call : ℕ → List ℕ → State → Reply
transfer_in_call a bs z = cond (eqb (lent_due z) 0) (transfer_in_step a bs z) (refused (lent_due z) z)

abbrev pub handed_back : ℕ → List ℕ → State → Reply
handed_back n bs z = record { number = n; server = 0; value = 0; bytes = bs; report = no_report; next = z }

unfoldable pub transfer_out_step : ℕ → List ℕ → State → Reply
transfer_out_step a o z =
    cond (eqb (transfer_due_in z (length o) a) 0)
    (handed_back 0 (transferred_out a (length o) z) (sent_home a (length o) z))
    (handed_back (transfer_due_in z (length o) a) o z)

unfoldable pub transfer_out_call : ℕ → List ℕ → State → Reply
transfer_out_call a o z = cond (eqb (lent_due z) 0) (transfer_out_step a o z) (handed_back (lent_due z) o z)

-- ---- 02, U4: what lies behind L1P does for a fetch of the line at a: accepted; behind checks 1 and 2; as a call. "A
-- refused fetch returns 32 zero bytes."
abbrev pub fetch_due_in : State → ℕ → ℕ
fetch_due_in z a = fetch_due (sram_of z.rec) z.rec.extlen a

unfoldable pub fetch_behind_done : ℕ → State → Reply
fetch_behind_done a z =
    record {
      number = 0;
      server = (fetch_access a z).server;
      value = 0;
      bytes = (fetch_access a z).bytes;
      report = fetch_report a z;
      next = (fetch_access a z).next;
    }

abbrev pub no_fetch : ℕ → State → Reply
no_fetch n z = handed_back n (replicate fetch_length 0) z

unfoldable pub fetch_behind_step : ℕ → State → Reply
fetch_behind_step a z = cond (eqb (fetch_due_in z a) 0) (fetch_behind_done a z) (no_fetch (fetch_due_in z a) z)

unfoldable pub fetch_behind_call : ℕ → State → Reply
fetch_behind_call a z = cond (eqb (lent_due z) 0) (fetch_behind_step a z) (no_fetch (lent_due z) z)

-- ---- the fresh start: "A fresh start can meet only 1, and then returns the record of L = 32,768, E = 128."
unfoldable pub fresh_ok : List ℕ → List ℕ → List ℕ → Bool
fresh_ok d m e = eqb (length d) l1d_length && (legal_l2 (length m) && legal_external (length e))

unfoldable pub fresh_call : List ℕ → List ℕ → List ℕ → Reply
fresh_call d m e = cond (fresh_ok d m e) (carried_out (fresh_state (length m) e)) (refused 1 (state (fresh_record 32768 128) d m e))

-- ---- the run: "It returns the record, bytes consumed, the count of answers, stop number (0 at the end). Later
-- answer bytes are unchanged."
pub record Run : Type 0 where
  pub next : State
  pub consumed : ℕ
  pub count : ℕ
  pub stop : ℕ
  pub answers : List ℕ

abbrev pub ran : State → ℕ → ℕ → ℕ → List ℕ → Run
ran z i k n o = record { next = z; consumed = i; count = k; stop = n; answers = o }

-- "Each answer is 10 bytes: number, server, value (8 bytes, little-endian).": the k-th answer
unfoldable pub put_answer : List ℕ → ℕ → ℕ → ℕ → ℕ → List ℕ
put_answer o k n s v = stored o (k * 10) (n ∷ s ∷ little_bytes v 8)

-- "Then it carries out commands. .. Refusals 3 to 10 are answered and the run goes on. 11, then 12, stop it before
-- that command". 02, U11: 17 is "answered in a trace as 3 to 10 are".
-- "in a trace 11, then 12, come before 3 to 10". t: the trace, i: the byte it has come to, k: the answers so far, o:
-- their bytes.
-- The number of turns is no limit: each command takes a byte at least, so that as many turns as bytes are left are
-- enough, and more change nothing (`TurnsSuffice` in Traces).
abbrev pub command_at : List ℕ → ℕ → Decoded
command_at t i = decode (drop i t)

abbrev pub put_reply : List ℕ → ℕ → Reply → List ℕ
put_reply o k x = put_answer o k x.number x.server x.value

unfoldable pub run_from : List ℕ → ℕ → ℕ → State → ℕ → List ℕ → Run
run_from t zero i z k o = ran z i k 0 o
run_from t (suc turns) i z k o =
    cond (ltb i (length t))
    (cond (command_at t i).ok
    (cond (leb (k * 10 + 10) (length o))
    (run_from t turns (i + (command_at t i).used) (step (command_at t i).found z).next (suc k) (put_reply o k (step (command_at t i).found z)))
    (ran z i k 12 o))
    (ran z i k 11 o))
    (ran z i k 0 o)

-- "A run checks 1 and 2 first; either one stops it with nothing consumed, answered or changed."
unfoldable pub run_call : List ℕ → List ℕ → State → Run
run_call t o z =
    cond (eqb (lent_due z) 0) (run_from t (length t) 0 z 0 o) (ran z 0 0 (lent_due z) o)

-- ---- "Looking behind L1D": "the bytes of SRAM or of external memory themselves .. never the L2 cache's copy. A
-- refusal returns the empty part"
unfoldable pub view_call : Record → List ℕ → List ℕ → ℕ → List ℕ
view_call r m e a = cond (eqb (view_due r m e a) 0) (memory_part a 64 (state r [] m e)) []

-- "a second call with the same arguments returns the number, 0 when accepted.": both together; nothing is changed
unfoldable pub view_done : ℕ → State → Reply
view_done a z = handed_back (view_due z.rec z.l2 z.ext a) (view_call z.rec z.l2 z.ext a) z

-- ---- the calls, of every kind: a command, the fresh start, the technician's view of the line at an address, the
-- non-aligned accesses (size, address; size, address, value), the transfers (address, the bytes of the lent buffer),
-- the data side's part of a fetch that L1P does not serve (address). Lists of calls hold these.
pub data Call : Type 0 where
  one_command : Command → Call
  fresh_start : Call
  look : ℕ → Call
  read_unaligned : ℕ → ℕ → Call
  write_unaligned : ℕ → ℕ → ℕ → Call
  transfer_in : ℕ → List ℕ → Call
  transfer_out : ℕ → List ℕ → Call
  fetch_behind : ℕ → Call

-- what a call gives on a state
abbrev pub called : Call → State → Reply
called (one_command c) z = call c z
called fresh_start z = fresh_call z.l1d z.l2 z.ext
called (look a) z = view_done a z
called (read_unaligned n a) z = read_unaligned_call n a z
called (write_unaligned n a v) z = write_unaligned_call n a v z
called (transfer_in a bs) z = transfer_in_call a bs z
called (transfer_out a o) z = transfer_out_call a o z
called (fetch_behind a) z = fetch_behind_call a z

-- the state after calls, one after another
unfoldable pub after : List Call → State → State
after [] z = z
after (c ∷ cs) z = after cs (called c z).next

-- commands as calls
abbrev pub commands : List Command → List Call
commands [] = []
commands (c ∷ cs) = one_command c ∷ commands cs
