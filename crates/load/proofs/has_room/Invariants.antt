-- `load::has_room` meets its contract: each turn takes the bytes of one access from the room that is left.
use Rattle.std.proofs.Common.{◌≡◌, ℕ, ◌+◌, length}
use Rattle.traces.specs.Load.{load_bytes}
use Rattle.traces.proofs.Load.{Legal}
use Rattle.load.specs.Ring.{Ring}
use Rattle.load.proofs.has_room.Given as goal

abbrev pub invariant-loop : goal.invariant-loop
invariant-loop l = record {
  held : Ring l.seed (55 + l.counter) l.words.ring l.words.at;
  spent : (e : ℕ) → Legal e → length (load_bytes l.seed e l.counter) + l.left ≡ l.room;
}
