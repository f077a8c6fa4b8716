-- What two of the numbers rest on besides their definitions.
use Rattle.std.specs.Prelude.{ℕ, suc, ◌+◌, ◌-◌, ◌≤◌, true, ◌≡◌}
use Rattle.std.proofs.Common.{arith}
use Rattle.std.proofs.lemmas.Bool.Decides.{nat_tests}
use Rattle.model.specs.Memories.{external_base}
use Rattle.model.specs.Unaligned.{unaligned_size, bytes_placed}
use Rattle.model.specs.Transfers.{transfer_length}
use Rattle.model.specs.Laws.{placed-together}
use Rattle.model.specs.Refusals.{place_ok}

-- the bytes of a non-aligned access lie in memory one by one where they do together
pub together : (s e n a : ℕ) → s + 8 ≤ external_base → unaligned_size n ≡ true → bytes_placed s e n a ≡ place_ok s e n a
unfolding unaligned_size
together s e n a low h =
    let l : (1 ≤ n) × (n ≤ 8) = grind (arith, nat_tests) in
    let i : n ≡ suc (n - 1) = omega (arith, l.0) in rw i (placed-together s e (n - 1) a (omega (arith, l.1)))

-- a length that 13 lets pass is small
pub short : (n : ℕ) → transfer_length n ≡ true → n ≤ 262140
unfolding transfer_length
short n h = grind (arith, nat_tests)
