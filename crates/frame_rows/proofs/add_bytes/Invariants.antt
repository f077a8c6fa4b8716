-- `frame_rows::add_bytes` meets its contract: before column c those in front of it are done. No sum wraps: what is
-- added is a byte.
use Rattle.std.proofs.Common.{ℕ, ◌+◌, ◌<◌, ◌≤◌, ◌≡◌, get_or}
use Rattle.frame_rows.proofs.add_bytes.Given as goal

abbrev pub invariant-loop-c : goal.invariant-loop-c
invariant-loop-c l =
    record {
      done : (k : ℕ) → l.from ≤ k → k < l.c → get_or l.sums k 0 ≡ get_or l.fn.sums k 0 + get_or l.bytes (l.at + k) 0;
      front : (k : ℕ) → k < l.from → get_or l.sums k 0 ≡ get_or l.fn.sums k 0;
      rest : (k : ℕ) → l.c ≤ k → get_or l.sums k 0 ≡ get_or l.fn.sums k 0;
    }
