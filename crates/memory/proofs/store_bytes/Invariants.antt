-- The low byte is put down first: so far i of the value's bytes stand at a, and the rest is what they leave of it.
use Rattle.std.proofs.Common.{◌≡◌, ◌/◌}
use Rattle.model.specs.Bytes.{stored, little_bytes}
use Rattle.memory.specs.Values.{power}
use Rattle.memory.proofs.store_bytes.Given as goal

abbrev pub invariant-loop-i : goal.invariant-loop-i
invariant-loop-i g l = (l.m ≡ stored l.initial.m l.a (little_bytes l.v l.i)) × (l.rest ≡ l.v / power l.i)
