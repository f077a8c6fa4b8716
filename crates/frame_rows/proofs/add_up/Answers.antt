-- `frame_rows::add_up` meets its contract (specs/Rows, specs/Sums).
use Rattle.frame_rows.specs.Rows.{next_row}
use Rattle.frame_rows.specs.Sums.{room-left}
use Rattle.frame_rows.proofs.add_up.Goals as goal

pub add_row-requires-clause-row_at : goal.add_row-requires-clause-row_at
add_row-requires-clause-row_at c =
    next_row _ _ _ _ c.requires.ext_value _ c.requires.place_at _ _ _ _ _ c.loop-row-test.true c.loop-row.invariant.read

pub add_row-requires-clause-by_index : goal.add_row-requires-clause-by_index
add_row-requires-clause-by_index c =
    let l = c.loop-row in room-left c.args.place _ l.row l.sums c.loop-row-test.true l.invariant.added
