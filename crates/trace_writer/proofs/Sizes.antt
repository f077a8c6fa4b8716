-- What a write returns to C, as the language's machine lays it out: its size, and where the number begins.
-- include/c64x.h asserts the same numbers for C, and compare/ for its declarations.
use mathlib.Core.List.{[], ◌∷◌}
use mathlib.Core.Path.{◌≡◌, refl}
use prog.Memory.{size}
use Rattle.model.proofs.Offsets.{offset}
use Rattle.trace_writer.proofs.Put.TheLaws as put

pub put_is : size put.mir ∷ offset put.mir 1 ∷ [] ≡ 16 ∷ 8 ∷ []
put_is = refl
