-- `camera_calls::transfer_out` meets its contract: behind checks 1 and 2 it is the transfer on the words in front, refused or
-- done, behind which L1P's stay as they were (`front-done`).
use Rattle.std.proofs.Common.{sym, arith, take-append-drop}
use Rattle.kinds.specs.Numbers.{refusal_number}
use Rattle.model.specs.Calls.{handed_back, transfer_out, transfer_out_call}
use Rattle.chip_answers.specs.Passed.{exit-refusal}
use Rattle.chip_answers.specs.Front.{on_front, front-done}
use Rattle.camera_calls.proofs.transfer_out.Goals as goal

pub returns-in_err-transfer_out : goal.returns-in_err-transfer_out
unfolding transfer_out_call
returns-in_err-transfer_out c =
    rw (exit-refusal _ _ c.from_residual-in_err-transfer_out.ensures.1)
    (record {
      buffer_after = front-done _ _ _ _ _ _ _ _ _ (sym c.in_ok-lent_due.ensures) (transfer_out _ _) (handed_back (refusal_number c.in_err-transfer_out.field-0.0) c.transfer_out.new.buffer) (grind (arith, on_front)) (grind (arith, on_front));
      refused = rw c.in_err-transfer_out.ensures.refused (take-append-drop 5253 _);
    })

pub returns-clause-buffer_after : goal.returns-clause-buffer_after
unfolding transfer_out_call
returns-clause-buffer_after c =
    rw c.done.ensures (front-done _ _ _ _ _ _ _ _ _ (sym c.in_ok-lent_due.ensures) (transfer_out _ _) (handed_back 0 c.transfer_out.new.buffer) (grind (arith, on_front)) (grind (arith, on_front)))
