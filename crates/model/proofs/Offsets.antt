-- Where the fields of a struct begin, as the language's machine lays it out.
use Prim.Native.Nat.{ℕ}
use mathlib.Core.Option.{Option, none, some}
use mir.Syntax.{Ty}
use prog.Memory.{field_of}

abbrev beginning : Option (Ty × ℕ) → ℕ
beginning none = 0
beginning (some p) = p.1

-- where field k of a struct begins
abbrev pub offset : Ty → ℕ → ℕ
offset t k = beginning (field_of t k)
