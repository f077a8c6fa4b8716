-- 02, U4: what a fetch does, on a chip that passed checks 1 and 2. What lies behind L1P does for it is the data side's
-- (model/specs/Fetches).
use Rattle.std.specs.Prelude.{ℕ, false, cond, List, set, replicate, eqb}
use Rattle.model.specs.Bytes.{part, stored}
use Rattle.model.specs.Lines.{line_of}
use Rattle.model.specs.Records.{State}
use Rattle.model.specs.Access.{cacheable}
use Rattle.model.specs.Reports.{Report, no_report, left_by}
use Rattle.model.specs.Calls.{Reply, fetch_due_in, fetch_behind_done}
use Rattle.model.specs.declared.Line.{Line}
use Rattle.model.specs.declared.Left.{Left}
use Rattle.model.specs.declared.Left.TheVariants.{NoWay}
use Rattle.program.specs.L1p.{l1p_kind, l1p_set_of, l1p_data, l1p_at, in_l1p}

-- ---- the chip: the data side's state, and L1P: its lines, one for each set, and its bytes
pub record Chip : Type 0 where
  pub data_side : State
  pub lines : List Line
  pub bytes : List ℕ

abbrev pub chip : State → List Line → List ℕ → Chip
chip z ls bs = record { data_side = z; lines = ls; bytes = bs }

-- what a call of the chip gives: what a call of the data side gives, what left the L1P way that it chose, and the chip
-- after it
pub record ChipReply : Type 0 where
  pub number : ℕ
  pub server : ℕ
  pub value : ℕ
  pub bytes : List ℕ
  pub report : Report
  pub l1p_left : Left
  pub next : Chip

-- a reply of the data side, where a line left L1P or none did, with L1P as it is then
abbrev pub with_l1p : Left → List Line → List ℕ → Reply → ChipReply
with_l1p l ls bs r =
    record {
      number = r.number;
      server = r.server;
      value = r.value;
      bytes = r.bytes;
      report = r.report;
      l1p_left = l;
      next = chip r.next ls bs;
    }

-- one that leaves L1P alone
abbrev pub beside_l1p : Reply → Chip → ChipReply
beside_l1p r x = with_l1p NoWay x.lines x.bytes r

-- ---- "Its server is a data read's, with 5 for L1P,": a hit, which chooses no way and moves no byte, so that nothing
-- is reported of it; L1P has no order of use, so that nothing changes
unfoldable pub fetch_hit : ℕ → Chip → ChipReply
fetch_hit a x =
    record {
      number = 0;
      server = 5;
      value = 0;
      bytes = part x.bytes (l1p_data (l1p_set_of a)) l1p_kind.line_length;
      report = no_report;
      l1p_left = NoWay;
      next = x;
    }

-- a miss: what lies behind L1P serves it; the line comes to its set, clean, and the line that was there leaves it; "it
-- reports as U2's accesses do, its L1P way too." "L2 evictions leave L1P untouched.": no other set changes.
unfoldable pub fetch_miss : ℕ → Chip → ChipReply
fetch_miss a x =
    with_l1p (left_by (l1p_at x.lines (l1p_set_of a))) (set x.lines (l1p_set_of a) (line_of a false))
    (stored x.bytes (l1p_data (l1p_set_of a)) (fetch_behind_done a x.data_side).bytes) (fetch_behind_done a x.data_side)

-- "MAR bit 0 bypasses L1P.": nothing is looked for there, nothing comes there, and no way of it is reported
unfoldable pub fetch_done : ℕ → Chip → ChipReply
fetch_done a x =
    cond (cacheable x.data_side.rec a) (cond (in_l1p x.lines a) (fetch_hit a x) (fetch_miss a x))
    (beside_l1p (fetch_behind_done a x.data_side) x)

-- ---- "A refused fetch returns 32 zero bytes."
abbrev pub refused_fetch : ℕ → Chip → ChipReply
refused_fetch n x =
    record {
      number = n;
      server = 0;
      value = 0;
      bytes = replicate l1p_kind.line_length 0;
      report = no_report;
      l1p_left = NoWay;
      next = x;
    }

-- behind checks 1 and 2: "Errors: 15 for a fetch address not a multiple of 32, after 2 and before 5." (`fetch_due` in
-- model/specs/Fetches)
unfoldable pub fetch_step : ℕ → Chip → ChipReply
fetch_step a x = cond (eqb (fetch_due_in x.data_side a) 0) (fetch_done a x) (refused_fetch (fetch_due_in x.data_side a) x)
