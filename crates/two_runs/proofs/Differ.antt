-- What the second sentence leaves out does differ, shown by computing (`differs`): from two fresh starts whose external
-- memories differ in their first byte, 0 and 7, with MAR 128 set, that byte is read, and L1D is invalidated. The read's
-- value and the byte of the valid L1D line stand for the address; what is left in L1D once the line was dropped stands
-- for none (`leftovers`). So the sentence could say no more of any of the three.
use Prim.Native.Nat.{ℕ}
use mathlib.Core.List.{[], ◌∷◌, map}
use mathlib.Core.Path.{◌≡◌, refl}
use lib.ListN.{replicate, get_or}
use Rattle.model.specs.Records.{State, fresh_state}
use Rattle.model.specs.Trace.{command}
use Rattle.model.specs.Calls.{Call, one_command, called, after}
use Rattle.model.specs.Opened.{opened}

abbrev start : ℕ → State
start c = fresh_state 32768 (c ∷ replicate 127 0)

abbrev mar128 : Call
mar128 = one_command (command 11 128 1 0)

abbrev reading : Call
reading = one_command (command 0 1 0x80000000 0)

abbrev invalidating : Call
invalidating = one_command (command 9 0 0 0)

-- ---- the value read; the byte in L1D while the line is held; the byte there, of no valid line, once it was dropped
abbrev answers : ℕ → ℕ
answers c = (called reading (after (mar128 ∷ []) (start c))).value

abbrev held : ℕ → ℕ
held c = get_or (after (mar128 ∷ reading ∷ []) (start c)).l1d 0 0

abbrev leftovers : ℕ → ℕ
leftovers c = get_or (after (mar128 ∷ reading ∷ invalidating ∷ []) (start c)).l1d 0 0

pub differs : map (λ (c : ℕ). answers c ∷ held c ∷ leftovers c ∷ []) (0 ∷ 7 ∷ []) ≡ (0 ∷ 0 ∷ 0 ∷ []) ∷ (7 ∷ 7 ∷ 7 ∷ []) ∷ []
unfolding opened
differs = refl
