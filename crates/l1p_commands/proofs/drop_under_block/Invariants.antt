-- After k turns the lines under the first k touched L2 lines are dropped.
use Rattle.std.specs.Prelude.{◌+◌, ◌*◌, ◌/◌}
use Rattle.program.specs.L1p.{drop_under_line}
use Rattle.l1p_commands.specs.Dropping.{Dropping, bare}
use Rattle.l1p_commands.proofs.drop_under_block.Given as goal

abbrev pub invariant-loop-k : goal.invariant-loop-k
invariant-loop-k l =
    Dropping (λ i. drop_under_line (bare l.initial.words) ((l.base / 128 + i) * 128)) l.initial.words l.k l.words
