-- After k turns the state is that of the first k ways.
use Rattle.std.specs.Prelude.{◌/◌, ◌%◌}
use Rattle.kinds.specs.Numbers.{l1d_operation_code}
use Rattle.sweeps.specs.Loop.{Swept}
use Rattle.l1d_commands.specs.Steps.{l1d_operation}
use Rattle.l1d_commands.proofs.l1d_all.Given as goal

abbrev pub invariant-loop-k : goal.invariant-loop-k
invariant-loop-k l =
    Swept (λ i. l1d_operation (l1d_operation_code l.what) (i / 2) (i % 2)) l.split.sram l.split.sets
    l.initial.tags l.l1d l.initial.l2 l.initial.ext l.k l.tags l.l2 l.ext
