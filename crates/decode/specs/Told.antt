-- What `next_command` tells, in the model's terms.
use Rattle.std.specs.Prelude.{true}
use Rattle.std.proofs.Common.{Option, None, Some}
use Rattle.model.specs.Trace.{Decoded, damaged}
use Rattle.decode.specs.declared.Decoded.{Decoded as Answer}

abbrev pub told : Option Answer → Decoded
told None = damaged
told (Some r) = record { ok = true; found = r.command; used = r.used }
