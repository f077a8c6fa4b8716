-- `camera_calls::frame` meets its contract: refused by check 1 or 2, or by the frame's own number, with all as it was;
-- or L1P's lines are dropped by the record as it was, and then the data side's frame goes to the words in front
-- (`frame-done`); its number is 0, so that it is no refusal.
use Rattle.std.proofs.Common.{sym, arith}
use Rattle.program.specs.Runs.{chip_frame_call, chip_frame_step}
use Rattle.tags.specs.Words.{state_in}
use Rattle.chip_answers.specs.Front.{on_front}
use Rattle.camera_calls.specs.Frames.{frame-done}
use Rattle.camera_calls.proofs.frame.Goals as goal

pub returns-in-Err-clause-l1p_after : goal.returns-in-Err-clause-l1p_after
unfolding chip_frame_call
returns-in-Err-clause-l1p_after c =
    let a = c.args in let r = c.refused.ensures (state_in a.words.now a.l1d.now a.l2.now a.ext.now) in grind (arith, on_front)

pub returns-in-Err-due_for-clause-l1p_after : goal.returns-in-Err-due_for-clause-l1p_after
unfolding chip_frame_call chip_frame_step
returns-in-Err-due_for-clause-l1p_after c =
    let a = c.args in let r = c.refused-in-Err-due_for.ensures (state_in a.words.now a.l1d.now a.l2.now a.ext.now) in grind (arith, on_front)

pub returns : goal.returns
returns c =
    let a = c.args in let r = c.drop_under_block in
    let h = frame-done _ r.new.words _ _ _ _ _ _ (sym c.in_default.ensures) (grind (arith, on_front)) r.ensures.rest (grind arith) _ _ _ _ _ (grind (arith, on_front)) c.frame.ensures.ext_after in
    record { l1p_after = h.0; refused = λ n. absurd (n h.1) }
