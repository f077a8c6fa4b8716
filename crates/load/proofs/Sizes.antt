-- What the call returns to C, as the language's machine lays it out: its size, and where the number begins.
-- include/c64x.h asserts the same numbers for C, and compare/ for its declarations.
use Rattle.std.proofs.Common.{◌≡◌, [], ◌∷◌, refl}
use prog.Memory.{size}
use Rattle.model.proofs.Offsets.{offset}
use Rattle.load.proofs.Load.TheLaws as load

pub load_is : size load.mir ∷ offset load.mir 1 ∷ [] ≡ 16 ∷ 8 ∷ []
load_is = refl
