-- After k turns the state is that of the first k ways.
use Rattle.std.specs.Prelude.{◌/◌, ◌%◌}
use Rattle.kinds.specs.Numbers.{l2_operation_code}
use Rattle.sweeps.specs.Loop.{Swept}
use Rattle.l2_commands.specs.Steps.{l2_operation}
use Rattle.l2_commands.proofs.l2_all.Given as goal

abbrev pub invariant-loop-k : goal.invariant-loop-k
invariant-loop-k l =
    Swept (λ i. l2_operation (l2_operation_code l.what) (i / 4) (i % 4)) l.split.sram l.split.sets
    l.initial.tags l.l1d l.initial.l2 l.initial.ext l.k l.tags l.l2 l.ext
