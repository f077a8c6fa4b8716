-- After k turns the state is that of the first k touched lines.
use Rattle.std.specs.Prelude.{◌+◌, ◌*◌, ◌/◌}
use Rattle.model.specs.Commands.{at_l2}
use Rattle.kinds.specs.Numbers.{l2_operation_code}
use Rattle.sweeps.specs.Loop.{Swept}
use Rattle.l2_commands.specs.Steps.{l2_operation}
use Rattle.l2_commands.proofs.l2_block.Given as goal

abbrev pub invariant-loop-k : goal.invariant-loop-k
invariant-loop-k l =
    Swept (λ i. at_l2 (l2_operation (l2_operation_code l.what)) ((l.base / 128 + i) * 128)) l.split.sram l.split.sets
    l.initial.tags l.l1d l.initial.l2 l.initial.ext l.k l.tags l.l2 l.ext
