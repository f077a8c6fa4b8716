-- Arithmetic of the L2 cache's geometry: the cache size is 512 bytes for each set, and a way's place among all ways
-- is bounded. A product of the way and the number of sets is no linear term; with the way by cases it is.
use Rattle.std.specs.Prelude.{ℕ, zero, suc, ◌+◌, ◌*◌, ◌≤◌, ◌<◌, not, ◌≡◌, refl, ◌≢◌, ltb, leb, eqb}
use Rattle.std.proofs.Common.{arith, ne_eqb, ltb-true, ltb-false, le-leb}
use Rattle.std.proofs.lemmas.Bool.{lt-leb}
use Rattle.model.specs.Memories.{cache_size}
use Rattle.model.specs.Lines.{l2_sets}
use Rattle.model.specs.Laws.{bool}

pub four-ways {ℓ} : (P : ℕ → Type ℓ) → P 0 → P 1 → P 2 → P 3 → (w : ℕ) → w < 4 → P w
four-ways P a b c d zero h = a
four-ways P a b c d (suc zero) h = b
four-ways P a b c d (suc (suc zero)) h = c
four-ways P a b c d (suc (suc (suc zero))) h = d
four-ways P a b c d (suc (suc (suc (suc w)))) h = absurd (omega arith)

pub slot-bound : (n s w : ℕ) → w < 4 → (w * n ≤ 3 * n) × (w * n + s ≤ 3 * n + s)
slot-bound n s w hw = four-ways (λ (k : ℕ). (k * n ≤ 3 * n) × (k * n + s ≤ 3 * n + s)) (omega arith) (omega arith) (omega arith) (omega arith) w hw

pub cache-sets : (m : ℕ) → cache_size m ≡ l2_sets m * 512
unfolding cache_size
cache-sets m =
    bool (eqb m 1) (λ e₁. rw e₁ refl)
    (λ e₁. bool (eqb m 2) (λ e₂. rw (e₁, e₂) refl)
    (λ e₂. bool (eqb m 3) (λ e₃. rw (e₁, e₂, e₃) refl)
    (λ e₃. bool (eqb m 7) (λ e₇. rw (e₁, e₂, e₃, e₇) refl) (λ e₇. rw (e₁, e₂, e₃, e₇) refl))))

pub below-not : (a b : ℕ) → ltb a b ≡ not (leb b a)
below-not a b =
    bool (ltb a b)
    (λ e. let h = ltb-true a b e in rw (e, lt-leb b a h) refl)
    (λ e. let h = ltb-false a b e in rw (e, le-leb b a h) refl)

-- a number that is none of the modes with a cache has none
pub no-cache : (m : ℕ) → m ≢ 1 → m ≢ 2 → m ≢ 3 → m ≢ 7 → cache_size m ≡ 0
unfolding cache_size
no-cache m a b c d = rw (ne_eqb m 1 a, ne_eqb m 2 b, ne_eqb m 3 c, ne_eqb m 7 d) refl
