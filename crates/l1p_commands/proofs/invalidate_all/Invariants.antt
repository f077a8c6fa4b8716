-- After s turns the first s sets are empty.
use Rattle.program.specs.L1p.{empty_l1p}
use Rattle.l1p_commands.specs.Dropping.{Dropping}
use Rattle.l1p_commands.proofs.invalidate_all.Given as goal

abbrev pub invariant-loop-s : goal.invariant-loop-s
invariant-loop-s l = Dropping (λ i. empty_l1p i) l.initial.words l.s l.words
