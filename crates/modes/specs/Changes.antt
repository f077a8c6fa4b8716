-- The dirty lines that a mode change writes back, of L1D and then of L2, from what the two loops ensure.
use Rattle.std.specs.Prelude.{◌/◌, ◌%◌, ◌≡◌}
use Rattle.std.proofs.Common.{ap, ◌∙◌}
use Rattle.model.specs.Basics.{each}
use Rattle.model.specs.Records.{State}
use Rattle.model.specs.Modes.{flush_l1d, flush_l2}
use Rattle.model.specs.Commands.{each_l2}
use Rattle.l1d_commands.specs.Steps.{l1d_operation}
use Rattle.l2_commands.specs.Steps.{l2_operation}

pub flushed : (z y x : State) → y ≡ each (λ k. l1d_operation 10 (k / 2) (k % 2)) 256 z →
    x ≡ each_l2 (l2_operation 10) y → x ≡ flush_l2 (flush_l1d z)
unfolding l1d_operation l2_operation each_l2 flush_l1d flush_l2
flushed z y x e f = f ∙ ap flush_l2 e
