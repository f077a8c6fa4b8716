-- `load::write_accesses` meets its contract: each turn puts one access behind the point.
use Rattle.std.proofs.Common.{◌≡◌, ◌+◌, length}
use Rattle.model.specs.Bytes.{stored}
use Rattle.traces.specs.Load.{load_bytes}
use Rattle.load.specs.Ring.{Ring}
use Rattle.load.proofs.write_accesses.Given as goal

abbrev pub invariant-loop : goal.invariant-loop
invariant-loop l = record {
  held : Ring l.seed (55 + l.counter) l.words.ring l.words.at;
  reached : l.point ≡ length (load_bytes l.seed l.extlen l.counter);
  put : l.out ≡ stored l.initial.out 0 (load_bytes l.seed l.extlen l.counter);
}
