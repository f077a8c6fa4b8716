-- `access_calls::unaligned` meets its contract: behind checks 1 and 2 it is the access on the words in front, behind
-- which L1P's stay as they were (`front-done`).
use Rattle.std.proofs.Common.{sym, arith}
use Rattle.model.specs.Calls.{read_unaligned, read_unaligned_call, write_unaligned, write_unaligned_call}
use Rattle.access.specs.Answered.{answer_of}
use Rattle.chip_answers.specs.Front.{on_front, front-done, front-kept}
use Rattle.access_calls.proofs.unaligned.Goals as goal

pub returns-clause-reads : goal.returns-clause-reads
unfolding read_unaligned_call
returns-clause-reads c = λ ec ev.
    front-done _ _ _ _ _ _ _ _ _ (sym c.in_ok-lent_due.ensures) (read_unaligned _ _) (answer_of c.carry_out.result) (grind (arith, on_front)) (grind (arith, on_front))

pub returns-clause-writes : goal.returns-clause-writes
unfolding write_unaligned_call
returns-clause-writes c = λ ec.
    front-done _ _ _ _ _ _ _ _ _ (sym c.in_ok-lent_due.ensures) (write_unaligned _ _ _) (answer_of c.carry_out.result) (grind (arith, on_front)) (grind (arith, on_front))

pub returns-clause-refused : goal.returns-clause-refused
returns-clause-refused c = front-kept _ _ _ c.carry_out.ensures.refused
