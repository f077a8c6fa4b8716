-- The ring of 55 words: which words it holds, and where. The next word comes to the place `at`, which holds the word 55
-- places back; the one before it holds the word that was made last. Seeding and later words go on by one law.
use Rattle.std.specs.Prelude.{◌≡◌, ℕ, zero, suc, ◌+◌, ◌-◌, ◌%◌, ◌<◌, ◌≤◌, List, length, slice_index, slice_set}
use Rattle.std.proofs.Common.{refl, add-one, length-set, arith}
use Rattle.std.proofs.Math.Seq.{get_or-set_same, get_or-set_other}
use Rattle.std.proofs.lemmas.Bool.Decides.{nat_tests}
use Rattle.traces.specs.Load.{sum32, places_back, next_word, words, word}
use Rattle.traces.proofs.Load.{words-length}

-- where the word j places back stands; where the word behind the next one will
abbrev pub place_back : ℕ → ℕ → ℕ
place_back at j = (at + 55 - j) % 55

abbrev pub place_after : ℕ → ℕ
place_after at = (at + 1) % 55

-- of the first k words the ring holds the last 55, or all
pub record Ring (seed k : ℕ) (ring : List ℕ) (at : ℕ) : Type 0 where
  pub full : length ring ≡ 55
  pub holds : (j : ℕ) → 1 ≤ j → j ≤ k → j ≤ 55 → slice_index ring (place_back at j) ≡ places_back j (words seed k)

pub ring-empty : (seed at : ℕ) (ring : List ℕ) → length ring ≡ 55 → Ring seed 0 ring at
ring-empty seed at ring f = record { full = f; holds = λ j l (h : j ≤ 0) g. absurd (omega arith) }

module _ {seed k at : ℕ} {ring : List ℕ} (r : Ring seed k ring at) where
  -- one word more: it stands before the next place; what lies further back stays where it was, and that was elsewhere
  pub ring-on : {x to : ℕ} → at < 55 → x ≡ next_word seed (words seed k) → to ≡ place_after at →
      Ring seed (k + 1) (slice_set ring at x) to
  unfolding words
  ring-on {x} {to} i e q = record { full = simp length-set r.full; holds = rw (q, add-one k) back }
    where
      back : (j : ℕ) → 1 ≤ j → j ≤ suc k → j ≤ 55 →
          slice_index (slice_set ring at x) (place_back (place_after at) j) ≡ places_back j (words seed (suc k))
      back zero l h g = absurd (omega arith)
      back (suc zero) l h g =
          let f = r.full in
          let p : place_back (place_after at) 1 ≡ at = omega arith in
          rw (p, get_or-set_same ring at x 0 (omega arith)) e
      back (suc (suc j)) l h g =
          let p : place_back (place_after at) (suc (suc j)) ≡ place_back at (suc j) = omega arith in
          let a : suc (suc j) - 1 ≡ suc j = omega arith in
          let b : suc j - 1 ≡ j = omega arith in
          rw (p, a, get_or-set_other ring at (place_back at (suc j)) x 0 (omega arith))
          (rw b at (r.holds (suc j) (omega arith) (omega arith) (omega arith)))

  -- a seeded word is the one before plus 9E3779B9h; a later one the sum of those 24 and 55 places back
  pub seeded-next : at < 55 → 1 ≤ k → k < 55 →
      sum32 (slice_index ring (place_back at 1)) 0x9E3779B9 ≡ next_word seed (words seed k)
  unfolding next_word
  seeded-next i h g =
      let n = words-length seed k in
      let a = r.holds 1 (omega arith) h (omega arith) in
      grind (arith, nat_tests)

  pub summed-next : 55 ≤ k →
      sum32 (slice_index ring (place_back at 24)) (slice_index ring (place_back at 55))
      ≡ next_word seed (words seed k)
  unfolding next_word
  summed-next h =
      let n = words-length seed k in
      let a = r.holds 24 (omega arith) (omega arith) (omega arith) in
      let b = r.holds 55 (omega arith) h (omega arith) in
      grind (arith, nat_tests)

-- the words from the 56th on
pub word-made : (seed made : ℕ) → next_word seed (words seed (55 + made)) ≡ word seed (56 + made)
unfolding words
word-made seed made = let z : 56 + made ≡ suc (55 + made) = omega arith in rw z refl
