-- What a number 0 tells: an access that is not refused has a legal size, is aligned and lies in SRAM or external
-- memory; a mode that is not refused is one and fits; a MAR change that is not refused sets a bit, or no line of its
-- range is held. Each refusal is `lowest_due (unless test n) ..`, so that one lemma (`lowest_due-none`) takes them
-- apart.
use Prim.Native.Nat.{ℕ, suc, ◌+◌, ◌-◌, ◌/◌, ◌%◌, ◌≤◌, ◌<◌}
use mathlib.Core.Bool.{Bool, true, false, not, ◌&&◌, ◌||◌}
use mathlib.Core.Path.{◌≡◌, refl, sym, ◌∙◌, subst}
use mathlib.Core.Logic.{◌≢◌, ◌⊎◌, inl, inr}
use native.Mathlib.Omega.{arith}
use lib.Dec.{leb, eqb}
use borrow.Author.Tests.{lt-ltb, le-ltb, leb-true, eqb-true, eqb-false}
use Rattle.model.specs.Bytes.{little_bytes}
use Rattle.model.specs.Memories.{external_base, cache_size, is_mode}
use Rattle.model.specs.Records.{State, sram_of}
use Rattle.model.specs.Access.{read_access, write_access}
use Rattle.model.specs.Refusals.{holds_range, lowest_due, unless, size_ok, place_ok, value_ok, access_due, mode_due, mar_due}
use Rattle.model.specs.Laws.{bool, false-true, both_true, length-little_bytes, lowest_due-none, unless-none}
use Rattle.model.specs.declared.Record.{Record}
use Rattle.agreement.proofs.Invariant.{Allowed}
use Rattle.agreement.proofs.Memory.{Written}
use Rattle.agreement.proofs.Good.{layout_of, Good}
use Rattle.agreement.proofs.Fetch.{AccessFits}
use Rattle.agreement.proofs.ReadWrite.{ReadGood, read-good, Step, write-good}

not_yes : (b : Bool) → not b ≡ true → b ≡ false
not_yes true h = false-true h
not_yes false h = refl

either-elim {ℓ} : {A : Type ℓ} (a b : Bool) → (a || b) ≡ true → (a ≡ true → A) → (b ≡ true → A) → A
either-elim true b e f g = f refl
either-elim false b e f g = g e

-- ---- accesses
size-elim : (P : ℕ → Type 0) → P 1 → P 2 → P 4 → P 8 → (n : ℕ) → size_ok n ≡ true → P n
unfolding size_ok
size-elim P a b c d n e =
    either-elim (eqb n 1) (eqb n 2 || (eqb n 4 || eqb n 8)) e (λ t. rw (eqb-true n 1 t) a)
    (λ e₁. either-elim (eqb n 2) (eqb n 4 || eqb n 8) e₁ (λ t. rw (eqb-true n 2 t) b)
    (λ e₂. either-elim (eqb n 4) (eqb n 8) e₂ (λ t. rw (eqb-true n 4 t) c) (λ t. rw (eqb-true n 8 t) d)))

-- it has bytes, they lie in one L1D line, and in SRAM or external memory
pub record Accepted (s e n a : ℕ) : Type 0 where
  pub more : n ≡ suc (n - 1)
  pub row : a % 64 + suc (n - 1) ≤ 64
  pub low : a < external_base → a + suc (n - 1) ≤ s
  pub high : external_base ≤ a → a + suc (n - 1) ≤ external_base + e

pub access-tells : (s e n a v : ℕ) → access_due s e n a v ≡ 0 → Accepted s e n a
unfolding access_due place_ok
access-tells s e n a v d =
    let d₁ = lowest_due-none (size_ok n) 2 (lowest_due (unless (eqb (a % n) 0) 4) (lowest_due (unless (place_ok s e n a) 5) (unless (value_ok n v) 6))) d in
    let d₂ = lowest_due-none (eqb (a % n) 0) 3 (lowest_due (unless (place_ok s e n a) 5) (unless (value_ok n v) 6)) d₁.1 in
    let d₃ = lowest_due-none (place_ok s e n a) 4 (unless (value_ok n v) 6) d₂.1 in
    let z = size-elim (λ (k : ℕ). a % k ≡ 0 → (k ≡ suc (k - 1)) × (a % 64 + suc (k - 1) ≤ 64))
    (λ y. (refl, omega arith)) (λ y. (refl, omega arith)) (λ y. (refl, omega arith)) (λ y. (refl, omega arith)) n d₁.0 (eqb-true (a % n) 0 d₂.0)
    in
    let z₀ = z.0 in
    record {
      more = z.0;
      row = z.1;
      low = λ h. let g = leb-true (a + n) s (rw (lt-ltb a external_base h) at d₃.0) in omega arith;
      high = λ h. let g = leb-true (a + n) (external_base + e) (rw (le-ltb a external_base h) at d₃.0) in omega arith;
    }

-- an accepted read, and an accepted write, on a good state
module _ (z : State) (F : Allowed) (q : Good z F) (n a : ℕ) where
  pub accepted-fits : (v : ℕ) → access_due (sram_of z.rec) z.rec.extlen n a v ≡ 0 → AccessFits (layout_of z.rec) a (suc (n - 1))
  accepted-fits v d = let k = access-tells (sram_of z.rec) z.rec.extlen n a v d in record { low = k.low; high = k.high }

  pub accepted-read : access_due (sram_of z.rec) z.rec.extlen n a 0 ≡ 0 → ReadGood z F a n (read_access n a z)
  accepted-read d =
      let k = access-tells (sram_of z.rec) z.rec.extlen n a 0 d in
      subst (λ (m : ℕ). ReadGood z F a m (read_access m a z)) (sym k.more) (read-good z F q a (n - 1) (accepted-fits 0 d) k.row)

  pub accepted-write : (F' : Allowed) (v : ℕ) → Written F F' a (little_bytes v n) → access_due (sram_of z.rec) z.rec.extlen n a v ≡ 0 →
      Step z F' (write_access a (little_bytes v n) z).next
  accepted-write F' v wr d =
      let k = access-tells (sram_of z.rec) z.rec.extlen n a v d in
      let more = k.more in
      write-good z F F' q a (n - 1) (little_bytes v n) (length-little_bytes v n ∙ more) wr k.row (accepted-fits v d)

-- ---- modes
pub mode-tells : (l m : ℕ) → mode_due l m ≡ 0 → (is_mode m ≡ true) × (cache_size m ≤ l)
unfolding mode_due
mode-tells l m d =
    let p = both_true (is_mode m) (leb (cache_size m) l) (unless-none (is_mode m && leb (cache_size m) l) 7 d) in
    (p.0, leb-true (cache_size m) l p.1)

-- every mode but 0 has L2 sets
pub mode-sets : (m : ℕ) → is_mode m ≡ true → m ≢ 0 → cache_size m / 512 ≢ 0
unfolding is_mode cache_size
mode-sets m h n =
    bool (eqb m 1) (λ t₁. rw t₁ (λ e. absurd (omega arith)))
    (λ t₁. bool (eqb m 2) (λ t₂. rw (t₁, t₂) (λ e. absurd (omega arith)))
    (λ t₂. bool (eqb m 3) (λ t₃. rw (t₁, t₂, t₃) (λ e. absurd (omega arith)))
    (λ t₃. either-elim (leb m 3) (eqb m 7) h
    (λ t₄. let a = eqb-false m 1 t₁ in let b = eqb-false m 2 t₂ in let c = eqb-false m 3 t₃ in let d = leb-true m 3 t₄ in absurd (n (omega arith)))
    (λ t₄. rw (t₁, t₂, t₃, t₄) (λ e. absurd (omega arith))))))

-- ---- MAR
pub mar-tells : (r : Record) (n b : ℕ) → mar_due r n b ≡ 0 → (b ≡ 1) ⊎ (holds_range n r ≡ false)
unfolding mar_due
mar-tells r n b d =
    let p = lowest_due-none ((eqb n 128 || eqb n 129) && leb b 1) 8 (unless (not (eqb b 0 && holds_range n r)) 10) d in
    let l = leb-true b 1 (both_true (eqb n 128 || eqb n 129) (leb b 1) p.0).1 in
    let t = not_yes (eqb b 0 && holds_range n r) (unless-none (not (eqb b 0 && holds_range n r)) 9 p.1) in
    bool (eqb b 0) (λ y. inr (rw y at t)) (λ y. let y' = eqb-false b 0 y in inl (omega arith))
