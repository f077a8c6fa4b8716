-- A fresh start as the code makes it is the chip's: L1D, L2 and L1P cleared from their first byte on, or all bytes as
-- they were.
use Rattle.std.specs.Prelude.{ℕ, ◌-◌, ◌≤◌, Bool, true, false, ◌&&◌, List, ◌≡◌, refl, length, replicate, eqb}
use Rattle.std.proofs.Common.{arith, eqb-true}
use Rattle.std.proofs.lemmas.Bool.Decides.{nat_tests}
use Rattle.model.specs.Bytes.{zero_from}
use Rattle.model.specs.Memories.{legal_l2, legal_external}
use Rattle.model.specs.Records.{state, fresh_record, fresh_state}
use Rattle.model.specs.Calls.{reply, refused, fresh_ok, fresh_call}
use Rattle.model.specs.Laws.{both_true}
use Rattle.model.specs.declared.Left.TheVariants.{NoWay}
use Rattle.program.specs.L1p.{l1p_length, fresh_l1p}
use Rattle.program.specs.Fetches.{Chip, with_l1p}
use Rattle.program.specs.Chip.{chip_fresh}

-- a memory cleared from its first byte on
abbrev all_zero : List ℕ → List ℕ
all_zero m = zero_from 0 m (length m)

cleared : (m : List ℕ) (n : ℕ) → length m ≡ n → all_zero m ≡ replicate n 0
unfolding zero_from
cleared m n e = let z : length m - 0 ≡ length m = omega arith in rw (z, e) refl

abbrev pub chip_fresh_ok : List ℕ → List ℕ → List ℕ → List ℕ → Bool
chip_fresh_ok d m e p = eqb (length p) l1p_length && fresh_ok d m e

pub fresh-refused : (x : Chip) → chip_fresh_ok x.data_side.l1d x.data_side.l2 x.data_side.ext x.bytes ≡ false →
    chip_fresh x ≡ with_l1p NoWay fresh_l1p x.bytes (refused 1 (state (fresh_record 32768 128) x.data_side.l1d x.data_side.l2 x.data_side.ext))
unfolding chip_fresh
fresh-refused x h = rw h refl

pub fresh-done : (x : Chip) → chip_fresh_ok x.data_side.l1d x.data_side.l2 x.data_side.ext x.bytes ≡ true →
    chip_fresh x ≡
    with_l1p NoWay fresh_l1p (all_zero x.bytes)
    (reply 0 0 0
    (state (fresh_record (length x.data_side.l2) (length x.data_side.ext)) (all_zero x.data_side.l1d) (all_zero x.data_side.l2) x.data_side.ext))
unfolding chip_fresh fresh_call fresh_state fresh_ok
fresh-done x h =
    let d = x.data_side.l1d in let m = x.data_side.l2 in let e = x.data_side.ext in
    let q = both_true (eqb (length x.bytes) l1p_length) (fresh_ok d m e) h in
    let l = both_true (eqb (length d) 16384) (legal_l2 (length m) && legal_external (length e)) q.1 in
    rw (h, q.1, cleared d 16384 (eqb-true _ _ l.0), cleared m (length m) refl, cleared x.bytes l1p_length (eqb-true _ _ q.0)) refl

-- lengths that a fresh start accepts are numbers of 32 bits
pub fresh-lengths : (d m e p : List ℕ) → chip_fresh_ok d m e p ≡ true → (length m ≤ 262144) × (length e ≤ 33554432)
unfolding fresh_ok legal_l2 legal_external
fresh-lengths d m e p h = grind (arith, nat_tests)

pub ruleset fresh_steps = (fresh-refused, fresh-done, fresh-lengths)
