-- What this crate's answer tells, in the model's terms: the answer with the output behind it.
use Rattle.std.specs.Prelude.{ℕ, List}
use Rattle.traces.specs.Load.{Loaded}
use Rattle.load.specs.declared.Load.{Load}

abbrev pub told_load : Load → List ℕ → Loaded
told_load r m = record { number = r.number; length = r.length; out = m }
