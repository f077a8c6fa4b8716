-- The two steps of `clear_l2`.
use Rattle.std.specs.Prelude.{refl}
use Rattle.model.specs.Ways.{empty_l2}
use Rattle.sweeps.specs.Emptied.{clear_l2}
use Rattle.l2_commands.proofs.clear_l2.Goals as goal

pub returns : goal.returns
unfolding clear_l2 empty_l2
returns c = λ d. rw (← c.write_out_l2.ensures.by_index d, ← c.empty_line.ensures, c.put.ensures) refl
