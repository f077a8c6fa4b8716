-- What this crate's answer tells, in the model's terms.
use Rattle.std.specs.Prelude.{true, false}
use Rattle.std.proofs.Common.{Option, None, Some}
use Rattle.model.specs.Trace.{Number}
use Rattle.numbers.specs.declared.Number.{Number as Answer}

abbrev pub told : Option Answer → Number
told None = record { ok = false; value = 0; used = 0 }
told (Some n) = record { ok = true; value = n.value; used = n.used }
