use Rattle.std.proofs.Common.{◌≤◌}
use Rattle.bench_load.proofs.number_in.Given as goal

abbrev pub invariant-loop-byte : goal.invariant-loop-byte
invariant-loop-byte l = l.value ≤ l.most
