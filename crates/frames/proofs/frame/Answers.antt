-- `frames::frame` meets its contract: refused by the number due, or placed, then read and added up (specs/Done). The
-- pixels that are lent are bytes.
use Rattle.std.specs.Prelude.{ℕ}
use Rattle.std.proofs.Common.{sym, ap, ◌∙◌}
use Rattle.agreement.specs.Frames.{refused_frame}
use Rattle.tags.specs.Words.{state_in}
use Rattle.frames.specs.Done.{frame_refused, put_place, frame_done}
use Rattle.frames.proofs.frame.Goals as goal

pub returns-in-Err-clause-ext_after : goal.returns-in-Err-clause-ext_after
returns-in-Err-clause-ext_after c =
    let a = c.args in
    let z = state_in a.tags.now a.l1d.now a.l2.now a.ext.now in
    c.refused.ensures z ∙ ap (λ (n : ℕ). refused_frame n a.turn z) c.number.ensures.0
    ∙ frame_refused a.turn a.pixels.now z c.in-Err.refusal (rw c.extlen_of.ensures at c.in-Err.ensures)

pub add_up-sums-requires-clause-place_at : goal.add_up-sums-requires-clause-place_at
add_up-sums-requires-clause-place_at c =
    put_place _ _ _ _ c.requires.ext_value c.args.turn c.args.pixels.now (sym (rw c.extlen_of.ensures at c.in_default.ensures)) _ _ _ _ _
    c.place_of-place.ensures c.put.ensures c.put.auto.ext

pub returns-clause-ext_after : goal.returns-clause-ext_after
returns-clause-ext_after c =
    let s = c.add_up-sums in
    frame_done _ _ _ _ c.requires.ext_value c.args.turn c.args.pixels.now (sym (rw c.extlen_of.ensures at c.in_default.ensures)) _ _ _ _ _
    c.place_of-place.ensures c.put.ensures c.type_inv.pixels _ _ _ c.next_turn.ensures s.ensures.ext_after s.ensures.told
