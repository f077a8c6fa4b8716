-- L2 has the line, whose four lines of L1P are dropped, or has it not (`found_in`). The data side's words are lent as a
-- part, whose record is that of all words (`lent-record`).
use Rattle.std.specs.Prelude.{◌≡◌, List, ℕ, is_some, refl}
use Rattle.std.proofs.Common.{sym}
use Rattle.model.specs.Ways.{in_l2}
use Rattle.tags.specs.Words.{state_in}
use Rattle.program.specs.L1p.{drop_under_line}
use Rattle.l1p_tags.specs.Lines.{lent_length}
use Rattle.l1p_commands.specs.Dropping.{found_in}
use Rattle.l1p_commands.proofs.drop_under_line.Goals as goal
use Rattle.l1p_commands.proofs.drop_under_line.Goals.{After-is_some}

pub slice_bounds-find-end-2 : goal.slice_bounds-find-end-2
slice_bounds-find-end-2 c = sym (lent_length _ c.requires.sets_value.1)

pub find-held-requires : goal.find-held-requires
find-held-requires c = (c.set_of.ensures.1, lent_length _ c.requires.sets_value.1)

has : (c : After-is_some) (d m e : List ℕ) →
    in_l2 (state_in c.args.words.now d m e) c.args.a ≡ is_some c.find-held.result
has c d m e =
    let found = c.find-held.ensures in
    found_in _ d m e _ _ _ _ _ c.requires.sets_nonzero c.requires.sets_value.0 c.set_of.ensures.0 c.line_of.ensures
    found.found found.within

pub returns-then-is_some-clause-by_index : goal.returns-then-is_some-clause-by_index
unfolding drop_under_line
returns-then-is_some-clause-by_index c =
    λ d m e. rw (has _ d m e, ← c.if-is_some.ensures) c.drop_inside.ensures.words_after

pub returns-else-is_some-clause-by_index : goal.returns-else-is_some-clause-by_index
unfolding drop_under_line
returns-else-is_some-clause-by_index c = λ d m e. rw (has _ d m e, ← c.if-is_some.ensures) refl
