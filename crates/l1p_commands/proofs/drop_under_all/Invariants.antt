-- After k turns the lines under the first k ways are dropped.
use Rattle.std.specs.Prelude.{◌/◌, ◌%◌}
use Rattle.program.specs.L1p.{drop_under_way}
use Rattle.l1p_commands.specs.Dropping.{Dropping, bare}
use Rattle.l1p_commands.proofs.drop_under_all.Given as goal

abbrev pub invariant-loop-k : goal.invariant-loop-k
invariant-loop-k l = Dropping (λ i. drop_under_way (bare l.initial.words) (i / 4) (i % 4)) l.initial.words l.k l.words
