-- What the two calls return to C, as the language's machine lays it out: the size of each struct, and where each field
-- begins. include/c64x.h asserts the same numbers for C, and compare/ for its declarations.
use mathlib.Core.List.{[], ◌∷◌}
use mathlib.Core.Path.{◌≡◌, refl}
use prog.Memory.{size}
use Rattle.model.proofs.Offsets.{offset}
use Rattle.short_runs.proofs.RunNumber.TheLaws as number
use Rattle.short_runs.proofs.ShortRun.TheLaws as run

-- length, digits
pub run_is : size run.mir ∷ offset run.mir 1 ∷ offset run.mir 2 ∷ [] ≡ 6 ∷ 1 ∷ 2 ∷ []
run_is = refl

-- run
pub number_is : size number.mir ∷ offset number.mir 1 ∷ [] ≡ 8 ∷ 4 ∷ []
number_is = refl
