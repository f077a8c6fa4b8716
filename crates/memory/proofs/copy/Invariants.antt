-- The bytes are replaced one by one: so far the first i of them.
use Rattle.std.proofs.Common.{◌≡◌, length}
use Rattle.memory.specs.Copied.{copied}
use Rattle.memory.proofs.copy.Given as goal

abbrev pub invariant-loop-i : goal.invariant-loop-i
invariant-loop-i l = (length l.dst ≡ length l.initial.dst) × (l.dst ≡ copied l.initial.dst l.src l.i)
