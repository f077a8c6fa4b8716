-- The way has a valid line, whose four lines are dropped, or has none. The data side's words are lent as a part, whose
-- record is that of all words (`lent-record`).
use Rattle.std.proofs.Common.{sym, arith}
use Rattle.program.specs.L1p.{drop_under_way}
use Rattle.l1p_tags.specs.Lines.{lent-record, lent_length}
use Rattle.l1p_commands.proofs.drop_under_way.Goals as goal

pub slice_bounds-line-end-2 : goal.slice_bounds-line-end-2
slice_bounds-line-end-2 c = sym (lent_length _ c.requires.1)

pub line-x-requires : goal.line-x-requires
line-x-requires c = (c.requires.0, lent_length _ c.requires.1)

pub returns-then-x-clause-by_index : goal.returns-then-x-clause-by_index
unfolding drop_under_way
returns-then-x-clause-by_index c = λ d m e. grind (arith, lent-record)

pub returns-else-x-clause-by_index : goal.returns-else-x-clause-by_index
unfolding drop_under_way
returns-else-x-clause-by_index c = λ d m e. grind (arith, lent-record)
