-- Arithmetic of blocks: the lines that a block touches have 32-bit addresses. The line length is a variable, so that
-- a quotient by it is no linear term; the laws of quotients say what is needed.
use Rattle.std.specs.Prelude.{ℕ, ◌+◌, ◌*◌, ◌-◌, ◌/◌, ◌≤◌, ◌<◌, ◌≡◌, ◌≢◌, leb, eqb}
use Rattle.std.proofs.Math.Path.{refl}
use native.Mathlib.Omega.{arith}
use Rattle.std.proofs.Common.{mul-le-mul_left, div-le_self, le-div_iff_mul-le}
use Rattle.std.proofs.Math.Nat.{mul-le-mul_right, div-mul-le_self}
use borrow.Author.Tests.{leb-true, eqb-false}
use Rattle.model.specs.Modes.{smaller}
use Rattle.model.specs.Commands.{block_end, lines_touched}
use Rattle.model.specs.Laws.{bool}

-- the k-th line of n bytes from the line of the base address on
abbrev pub line_after : ℕ → ℕ → ℕ → ℕ
line_after n b k = (b / n + k) * n

div-le : (x y n : ℕ) → 0 < n → x ≤ y → x / n ≤ y / n
div-le x y n h k = let d = div-mul-le_self x n in let g : x / n * n ≤ y = omega arith in (le-div_iff_mul-le h).1 g

-- the end of a block that is not empty: after its base, and at most 100000000h
pub end-bounds : (b c : ℕ) → b < 4294967296 → c ≢ 0 → (b < block_end b c) × (block_end b c ≤ 4294967296)
unfolding block_end smaller
end-bounds b c h n =
    bool (leb (b + c * 4) 4294967296)
    (λ e. let f = leb-true (b + c * 4) 4294967296 e in rw e (omega arith, f))
    (λ e. rw e (h, omega arith))

module _ (n b c : ℕ) (some : 0 < n) (low : b < 4294967296) where
  -- the last line of the block is at or after its first
  pub first-last : (y : ℕ) → c ≢ 0 → y ≡ block_end b c → (b / n ≤ (y - 1) / n) × ((y - 1) / n ≤ y)
  first-last y h e =
      let p = end-bounds b c low h in let q : b ≤ y - 1 = omega arith in
      let d = div-le_self (y - 1) n in (div-le b (y - 1) n some q, omega arith)

  pub touched-small : (k : ℕ) → k < lines_touched n b c → line_after n b k < 4294967296
  unfolding lines_touched
  touched-small k h =
      bool (eqb c 0)
      (λ e. let z : k < 0 = rw e at h in absurd (omega arith))
      (λ e. let u : k < (block_end b c - 1) / n - b / n + 1 = rw e at h in
      let g = eqb-false c 0 e in
      let f = first-last (block_end b c) g refl in
      let s : b / n + k ≤ (block_end b c - 1) / n = omega arith in
      let m = mul-le-mul_right n s in
      let d = div-mul-le_self (block_end b c - 1) n in
      let p = end-bounds b c low g in
      omega arith)

  pub number_small : (k : ℕ) → k < lines_touched n b c → b / n + k < 4294967296
  number_small k h = let t = touched-small k h in let m : (b / n + k) * 1 ≤ (b / n + k) * n = mul-le-mul_left (b / n + k) some in omega arith
