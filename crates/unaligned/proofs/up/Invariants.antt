-- `unaligned::up` meets its contract: before each turn the bytes below k are done (`up_to`); each turn is one command
-- more. Its sums cannot wrap: no command reports more than 128 bytes, and there are at most eight.
use Rattle.std.proofs.Common.{◌*◌, ◌≤◌, ◌≡◌, length, take}
use Rattle.kinds.specs.Numbers.{server_told}
use Rattle.tags.specs.Words.{state_in}
use Rattle.unaligned.specs.Upwards.{rest_at, byte_of, sofar, up_to, counts}
use Rattle.unaligned.proofs.up.Given as goal

abbrev pub invariant-loop-k : goal.invariant-loop-k
invariant-loop-k l =
    record {
      few : l.size ≤ 8;
      bytes_long : length l.bytes ≡ 8;
      reads : l.read ≤ l.k * 128;
      writes : l.written ≤ l.k * 128;
      rests : l.rest ≡ rest_at l.value l.k;
      so : sofar (server_told l.server) (take l.k l.bytes) (counts l.read l.written) (state_in l.tags l.l1d l.l2 l.ext)
          ≡ up_to (byte_of l.code l.address l.value) l.k (state_in l.fn.tags l.fn.l1d l.fn.l2 l.fn.ext);
    }
