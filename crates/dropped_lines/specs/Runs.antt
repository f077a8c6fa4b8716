-- 02, U13 for runs over traces; `runs-dropped-lines` (proofs/Runs) shows it. A run is its commands, called one after
-- another (`RunIsCalls`: its answers and the state behind it), and the sentences hold at each of these calls, in one
-- run or in several.
use Rattle.std.specs.Prelude.{ℕ, ◌≡◌, List, [], ◌∷◌, length}
use Rattle.model.specs.Records.{State}
use Rattle.model.specs.Flat.{Flat, fresh_flat, flat_after}
use Rattle.model.specs.Calls.{fresh_call, run_call, Call, called, commands}
use Rattle.agreement.specs.Traces.{RunIsCalls, Piece, piece_commands}
use Rattle.dropped_lines.specs.Dropped.{History, at_first, history_after, Holds}

unfoldable pub history_along : List Call → State → History → History
history_along [] z y = y
history_along (c ∷ cs) z y = history_along cs (called c z).next (history_after c z (called c z) y)

pub record RunHolds (p : Piece) (z : State) (f : Flat) (y : History) : Type 0 where
  pub run : RunIsCalls p.trace p.answers z
  pub places : Holds (commands (piece_commands p)) z f y

pub data RunsHold : List Piece → State → Flat → History → Type 0 where
  end : {z : State} {f : Flat} {y : History} → RunsHold [] z f y
  next : {p : Piece} {ps : List Piece} {z : State} {f : Flat} {y : History} →
      RunHolds p z f y →
      RunsHold ps (run_call p.trace p.answers z).next (flat_after (commands (piece_commands p)) f) (history_along (commands (piece_commands p)) z y) →
      RunsHold (p ∷ ps) z f y

abbrev pub RunsDroppedLines : Type 0
RunsDroppedLines =
    (d m e : List ℕ) → (fresh_call d m e).number ≡ 0 →
    (ps : List Piece) → RunsHold ps (fresh_call d m e).next (fresh_flat (length m) e) (at_first (fresh_call d m e).next)
