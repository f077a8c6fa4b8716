-- `load::load_trace` meets its contract: where E is legal, the trace has the room that was asked for.
use Rattle.std.proofs.Common.{◌≡◌, true, arith}
use Rattle.std.proofs.lemmas.Bool.Decides.{nat_tests}
use Rattle.model.specs.Memories.{legal_external}
use Rattle.traces.proofs.Load.{legal}
use Rattle.load.proofs.load_trace.Goals as goal

pub write_accesses-length-requires : goal.write_accesses-length-requires
write_accesses-length-requires c =
    let e : legal_external c.args.extlen ≡ true = grind arith in
    let l = legal c.args.extlen e in
    (l, grind (arith, nat_tests, c.has_room.ensures c.args.extlen l))
