-- Columns added up row by row: one row more in each column is the column sum of one row more (`row-added`), and after
-- the last row the 64 sums are those of 02, U14 (`summed`). A sum of bytes has room for one more (`room-left`).
use Prim.Native.Nat.{ℕ, zero, suc, ◌+◌, ◌*◌, ◌≤◌, ◌<◌}
use Rattle.std.specs.Prelude.{◌≡◌, List, [], ◌∷◌, length, get_or, replicate, ltb}
use Rattle.std.proofs.Math.Path.{refl, ap}
use Rattle.std.proofs.Common.{sym, ◌∙◌, mod-lt, ext_get_or}
use native.Mathlib.Omega.{arith}
use Rattle.std.proofs.Math.Numerals.{add-one}
use Rattle.std.proofs.lemmas.List.{get_or-replicate}
use borrow.Author.Tests.{ltb-true, ltb-false}
use Rattle.model.specs.Records.{State}
use Rattle.model.specs.Calls.{step}
use Rattle.model.specs.Bytewise.{byte_read}
use Rattle.agreement.specs.Frames.{column_sum, column_sums, sums_of}
use Rattle.model.specs.Laws.{bool}
use Rattle.frame_rows.specs.Reads.{reads_to, byte_given, reads-join, byte-join}

-- ---- each of 64 sums is its column's, of r rows
abbrev pub Columns : (ℕ → ℕ) → ℕ → List ℕ → Type 0
Columns f r ss = (c : ℕ) → c < 64 → get_or ss c 0 ≡ column_sum f c r

pub no_rows : (f : ℕ → ℕ) → Columns f 0 (replicate 64 0)
unfolding column_sum
no_rows f c h = get_or-replicate 64 c 0 0 h

-- ---- bytes added up: a sum has room for one more
sum-small : (f : ℕ → ℕ) → ((i : ℕ) → f i < 256) → (c r : ℕ) → column_sum f c r ≤ r * 255
unfolding column_sum
sum-small f h c zero = omega arith
sum-small f h c (suc r) = let a = sum-small f h c r in let b = h (r * 64 + c) in omega arith

pub room-left : (p : ℕ) (z : State) (r : ℕ) (ss : List ℕ) → r < 48 → Columns (byte_given p z) r ss →
    (c : ℕ) → c < 64 → get_or ss c 0 + 255 < 4294967296
room-left p z r ss h s c l =
    let e = s c l in
    let k = sum-small (byte_given p z) (λ i. mod-lt (step (byte_read p i) (reads_to p i z)).value (omega arith)) c r in omega arith

-- ---- bytes f c are added to 64 sums, from column i on
pub record Added (i : ℕ) (f : ℕ → ℕ) (ss ss' : List ℕ) : Type 0 where
  pub added : (c : ℕ) → i ≤ c → c < 64 → get_or ss' c 0 ≡ get_or ss c 0 + f c
  pub front : (c : ℕ) → c < i → get_or ss' c 0 ≡ get_or ss c 0

-- ---- one row more, in the state behind r rows
module _ (p : ℕ) (z : State) (r : ℕ) (y : State) (ey : y ≡ reads_to p (r * 64) z) where
  pub row_read : (y' : State) → y' ≡ reads_to (p + r * 64) 64 y → y' ≡ reads_to p ((r + 1) * 64) z
  row_read y' e =
      let n : (r + 1) * 64 ≡ r * 64 + 64 = omega arith in
      e ∙ ap (reads_to (p + r * 64) 64) ey ∙ reads-join p (r * 64) z 64 ∙ rw n refl

  pub row-added : (ss ss' : List ℕ) → Added 0 (byte_given (p + r * 64) y) ss ss' → Columns (byte_given p z) r ss → Columns (byte_given p z) (r + 1) ss'
  unfolding column_sum
  row-added ss ss' a s c h =
      let b : byte_given (p + r * 64) y c ≡ byte_given p z (r * 64 + c) = ap (λ (u : State). byte_given (p + r * 64) u c) ey ∙ byte-join p (r * 64) z c in
      rw add-one (a.added c (omega arith) h ∙ (λ i. s c h i + b i))

-- ---- the list of the sums
module _ (f : ℕ → ℕ) where
  sums-long : (n : ℕ) (cs : List ℕ) → length (column_sums f n cs) ≡ n + length cs
  unfolding column_sums
  sums-long zero cs = omega arith
  sums-long (suc n) cs = let e = sums-long n (column_sum f n 48 ∷ cs) in omega arith

  sums-behind : (n : ℕ) (cs : List ℕ) (j : ℕ) → get_or (column_sums f n cs) (n + j) 0 ≡ get_or cs j 0
  unfolding column_sums
  sums-behind zero cs j = let e : 0 + j ≡ j = omega arith in rw e refl
  sums-behind (suc n) cs j = let e : suc n + j ≡ n + suc j = omega arith in rw e (sums-behind n (column_sum f n 48 ∷ cs) (suc j))

  sums_at : (n : ℕ) (cs : List ℕ) (c : ℕ) → c < n → get_or (column_sums f n cs) c 0 ≡ column_sum f c 48
  unfolding column_sums
  sums_at zero cs c h = absurd (omega arith)
  sums_at (suc n) cs c h =
      bool (ltb c n) (λ t. sums_at n (column_sum f n 48 ∷ cs) c (ltb-true c n t))
      (λ t. let g = ltb-false c n t in let e : c ≡ n + 0 = omega arith in let e' : n + 0 ≡ n = omega arith in
      rw e (sums-behind n (column_sum f n 48 ∷ cs) 0 ∙ rw e' refl))

  pub summed : (ss : List ℕ) → length ss ≡ 64 → Columns f 48 ss → ss ≡ sums_of f
  summed ss l s =
      let n = sums-long 64 [] in
      ext_get_or 0 ss (sums_of f) (omega arith) (λ c h. s c (omega arith) ∙ sym (sums_at 64 [] c (omega arith)))
