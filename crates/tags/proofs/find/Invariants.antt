-- What the search of a set keeps: the ways from the one that is asked next on give what all ways give.
use Rattle.std.proofs.Common.{◌≡◌, ◌-◌}
use Rattle.model.specs.Ways.{way_holding}
use Rattle.tags.specs.Words.{record_in}
use Rattle.tags.proofs.find.Given as goal

abbrev pub invariant-loop-w : goal.invariant-loop-w
invariant-loop-w g l =
    let m = g.C.Level in way_holding (m.line_at (record_in l.tags) l.s) (m.WAYS - l.w) l.w l.b ≡ m.found (record_in l.tags) l.s l.b
