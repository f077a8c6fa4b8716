-- `short_runs::place_of` meets its contract: each turn passes the runs of one length.
use Rattle.short_runs.specs.Digits.{Placing}
use Rattle.short_runs.proofs.place_of.Given as goal

abbrev pub invariant-loop-runs : goal.invariant-loop-runs
invariant-loop-runs l = Placing l.number l.length l.value l.runs

abbrev pub decreases-loop-runs : goal.decreases-loop-runs
decreases-loop-runs l = l.value
