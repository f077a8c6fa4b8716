-- The bytes are taken in from the high one down: so far the value is that of the last i of them.
use Rattle.std.proofs.Common.{◌≡◌, ◌+◌, ◌-◌, ◌<◌}
use Rattle.model.specs.Bytes.{part, little}
use Rattle.memory.specs.Values.{power}
use Rattle.memory.proofs.load_bytes.Given as goal

abbrev pub invariant-loop-i : goal.invariant-loop-i
invariant-loop-i g l = (l.value ≡ little (part l.m (l.a + (g.row.N - l.i)) l.i)) × (l.value < power l.i)
