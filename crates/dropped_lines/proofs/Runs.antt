-- U13 for runs over traces holds (`runs-dropped-lines`). A run is its commands called one after another (`run-calls` of
-- crate agreement), and the list of these calls is one of which U13 speaks: every code may stand in it. So the
-- sentences hold at each of its places, and behind the run the next one begins where these calls end.
use mathlib.Core.Bool.{true}
use mathlib.Core.Path.{◌≡◌, refl}
use mathlib.Core.List.{List, [], ◌∷◌}
use lib.ListN.{length}
use Rattle.model.specs.Records.{State, fresh_state}
use Rattle.model.specs.Flat.{Flat, fresh_flat, flat_step, flat_after}
use Rattle.model.specs.Calls.{call, run_call, one_command, after, commands}
use Rattle.agreement.specs.Traces.{Piece, piece_commands}
use Rattle.model.specs.declared.Command.{Command}
use Rattle.agreement.proofs.Good.{good-well}
use Rattle.agreement.proofs.Agreement.{fresh-accepted}
use Rattle.agreement.proofs.TraceAgreement.{run-calls}
use Rattle.dropped_lines.specs.Dropped.{listed, History, at_first, history_after}
use Rattle.dropped_lines.specs.Runs.{history_along, RunsHold, RunsDroppedLines, end, next}
use Rattle.dropped_lines.proofs.Held.{Seen}
use Rattle.dropped_lines.proofs.Words.{Stands, stands_after, along, at_first_lem}

-- commands of every code are listed
all_listed : (cs : List Command) → listed (commands cs) ≡ true
unfolding listed
all_listed [] = refl
all_listed (c ∷ cs) = all_listed cs

stands-along : (cs : List Command) (z : State) (f : Flat) (y : History) → Stands z f y →
    Stands (after (commands cs) z) (flat_after (commands cs) f) (history_along (commands cs) z y)
unfolding after flat_after history_along
stands-along [] z f y p = p
stands-along (c ∷ cs) z f y p =
    stands-along cs (call c z).next (flat_step c f).next (history_after (one_command c) z (call c z) y) (stands_after (one_command c) z f y refl p)

runs-hold : (ps : List Piece) (z : State) (f : Flat) (y : History) → Stands z f y → RunsHold ps z f y
runs-hold [] z f y p = end
runs-hold (q ∷ qs) z f y p =
    let cs = piece_commands q in
    let r = run-calls q.trace q.answers z (good-well z (Seen p.g p.h) p.follows.good) in
    let e = r.next in
    let p' : Stands (run_call q.trace q.answers z).next (flat_after (commands cs) f) (history_along (commands cs) z y) = rw e (stands-along cs z f y p) in
    next (record { run = r; places = along (commands cs) z f y (all_listed cs) p })
    (runs-hold qs (run_call q.trace q.answers z).next (flat_after (commands cs) f) (history_along (commands cs) z y) p')

pub runs-dropped-lines : RunsDroppedLines
runs-dropped-lines d m e h ps =
    let p = fresh-accepted d m e h in let s = p.2 in
    rw s (runs-hold ps (fresh_state (length m) e) (fresh_flat (length m) e) (at_first (fresh_state (length m) e)) (at_first_lem (length m) e p.0 p.1))
