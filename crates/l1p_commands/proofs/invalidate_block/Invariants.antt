-- After k turns the first k touched lines are dropped.
use Rattle.std.specs.Prelude.{◌+◌, ◌*◌, ◌/◌}
use Rattle.program.specs.L1p.{drop_l1p}
use Rattle.l1p_commands.specs.Dropping.{Dropping}
use Rattle.l1p_commands.proofs.invalidate_block.Given as goal

abbrev pub invariant-loop-k : goal.invariant-loop-k
invariant-loop-k l = Dropping (λ i. drop_l1p ((l.base / 32 + i) * 32)) l.initial.words l.k l.words
