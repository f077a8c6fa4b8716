-- What the search of a set keeps: the ways from the one that is asked next on give what all ways give.
use Rattle.std.proofs.Common.{◌≡◌, ◌-◌}
use Rattle.model.specs.Ways.{lowest_invalid}
use Rattle.tags.specs.Words.{word, record_in}
use Rattle.tags.proofs.victim.Given as goal

abbrev pub invariant-loop-w : goal.invariant-loop-w
invariant-loop-w g l =
    let m = g.C.Level in
    lowest_invalid (m.line_at (record_in l.tags) l.s) (m.WAYS - l.w) l.w (m.last (word l.tags (m.order_place l.s)))
    ≡ m.chosen (record_in l.tags) l.s
