-- `frame_rows::add_up` meets its contract: before each turn the rows in front are read and added up; each turn is one
-- row more (specs/Sums), of a state that is well formed and has E as it was (specs/Rows). No sum wraps: each is one of
-- at most 48 bytes.
use Rattle.std.proofs.Common.{◌*◌, ◌≡◌, length}
use Rattle.tags.specs.Words.{state_in}
use Rattle.frame_rows.specs.Reads.{reads_to, byte_given}
use Rattle.frame_rows.specs.Sums.{Columns}
use Rattle.frame_rows.proofs.add_up.Given as goal

abbrev pub invariant-loop-row : goal.invariant-loop-row
invariant-loop-row l =
    record {
      sums_long : length l.sums ≡ 64;
      read : state_in l.tags l.l1d l.l2 l.ext
          ≡ reads_to l.place (l.row * 64) (state_in l.fn.tags l.fn.l1d l.fn.l2 l.fn.ext);
      added : Columns (byte_given l.place (state_in l.fn.tags l.fn.l1d l.fn.l2 l.fn.ext)) l.row l.sums;
    }
