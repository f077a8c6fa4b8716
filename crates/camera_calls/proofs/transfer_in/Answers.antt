-- `camera_calls::transfer_in` meets its contract: behind checks 1 and 2 it is the transfer on the words in front, refused or
-- done, behind which L1P's stay as they were (`front-done`).
use Rattle.std.proofs.Common.{sym, arith, take-append-drop}
use Rattle.kinds.specs.Numbers.{refusal_number}
use Rattle.model.specs.Calls.{reply, transfer_in, transfer_in_call}
use Rattle.chip_answers.specs.Passed.{exit-refusal}
use Rattle.chip_answers.specs.Front.{on_front, front-done}
use Rattle.camera_calls.proofs.transfer_in.Goals as goal

pub returns-in_err-transfer_in : goal.returns-in_err-transfer_in
unfolding transfer_in_call
returns-in_err-transfer_in c =
    rw (exit-refusal _ _ c.from_residual-in_err-transfer_in.ensures.1)
    (record {
      l1p_after = front-done _ _ _ _ _ _ _ _ _ (sym c.in_ok-lent_due.ensures) (transfer_in _ _) (reply (refusal_number c.in_err-transfer_in.field-0.0) 0 0) (grind (arith, on_front)) (grind (arith, on_front));
      refused = rw c.in_err-transfer_in.ensures.refused (take-append-drop 5253 _);
    })

pub returns-clause-l1p_after : goal.returns-clause-l1p_after
unfolding transfer_in_call
returns-clause-l1p_after c =
    rw c.done.ensures (front-done _ _ _ _ _ _ _ _ _ (sym c.in_ok-lent_due.ensures) (transfer_in _ _) (reply 0 0 0) (grind (arith, on_front)) (grind (arith, on_front)))
