-- Lower half, upper half, line.
use Rattle.std.specs.Prelude.{refl}
use Rattle.model.specs.Commands.{drop_l2}
use Rattle.model.specs.Ways.{empty_l2}
use Rattle.l2_commands.proofs.drop_l2.Goals as goal

pub returns : goal.returns
unfolding drop_l2 empty_l2
returns c =
    λ d m e. rw (
      ← c.line-x.ensures,
      ← c.upper_half.ensures,
      ← c.drop_half.ensures d m e,
      ← c.drop_half-2.ensures d m e,
      ← c.empty_line.ensures,
      c.put.ensures,
    ) refl
