-- 02, U12: "Each run has exactly one number." Shown for b digits and runs of any length, then cited at 8 and 4.
-- The digits of a run of length k are worth less than b ^ k, so that runs of one length have the numbers from
-- `shorter_runs b k` up to the first run that is longer, and the first digit in which two of them differ decides.
use Prim.Native.Nat.{ℕ, zero, suc, ◌+◌, ◌*◌, ◌-◌, ◌^◌, ◌/◌, ◌%◌, ◌<◌, ◌≤◌}
use mathlib.Core.Bool.{true, false}
use mathlib.Core.List.{List, [], ◌∷◌}
use mathlib.Core.Logic.{inl, inr}
use mathlib.Core.Path.{◌≡◌, refl, sym, ap, ◌∙◌}
use native.Mathlib.Omega.{arith}
use native.Mathlib.Nat.{pow-zero, pow-suc, pow-le-pow_right, mul_comm, add-mul, mul-le-mul_right}
use native.Mathlib.Nat.{mod-lt, mod-eq_of_lt, div-eq_of_lt, div-add-mod', div-lt_iff_lt-mul}
use native.Mathlib.Nat.{mul-add-div_right, mul-add-mod_self_right}
use lib.ListN.{length}
use lib.Dec.{ltb, leb, eqb}
use borrow.Author.Tests.{ltb-true, ltb-false, lt-ltb, le-ltb, leb-true, le-leb, eqb-true, eqb-false}
use Rattle.traces.specs.ShortRuns.{shorter_runs, digits_value, digits_number, digits_of_value, digits_from}
use Rattle.traces.specs.ShortRuns.{run_of, number_of, last_run, earlier_digits, EarlierRun, all_below, is_run}
use Rattle.model.specs.Laws.{bool, both_true}

-- a run of up to k + more digits, the n-th from the first of k digits on
pub record Counted (b k more n : ℕ) (ds : List ℕ) : Type 0 where
  pub short : length ds ≤ k + more
  pub below : all_below b ds ≡ true
  pub number : digits_number b ds ≡ shorter_runs b k + n

module _ (b : ℕ) (some : 0 < b) where
  pow-some : (k : ℕ) → 0 < b ^ k
  pow-some k = let p : b ^ 0 ≤ b ^ k = pow-le-pow_right some (omega arith) in omega (arith, pow-zero b)

  -- ---- the digits of one length
  -- a digit below b in front: the value stays below what one digit more can say
  front_below : (d p v : ℕ) → d < b → v < p → d * p + v < p * b
  front_below d p v h k =
      let q : (d + 1) * p ≤ b * p = mul-le-mul_right p (omega arith) in
      omega (arith, q, add-mul d 1 p, mul_comm b p)

  pub value-below : (ds : List ℕ) → all_below b ds ≡ true → digits_value b ds < b ^ length ds
  unfolding digits_value all_below
  value-below [] h = rw (pow-zero b) (omega arith)
  value-below (d ∷ ds) h =
      let t = both_true (ltb d b) (all_below b ds) h in
      rw (pow-suc b (length ds))
      (front_below d (b ^ length ds) (digits_value b ds) (ltb-true d b t.0) (value-below ds t.1))

  pub digits-length : (k v : ℕ) → length (digits_of_value b k v) ≡ k
  unfolding digits_of_value
  digits-length zero v = refl
  digits-length (suc k) v = ap suc (digits-length k (v % b ^ k))

  pub digits-below : (k v : ℕ) → v < b ^ k → all_below b (digits_of_value b k v) ≡ true
  unfolding digits_of_value all_below
  digits-below zero v h = refl
  digits-below (suc k) v h =
      let p : 0 < b ^ k = pow-some k in
      rw (lt-ltb (v / b ^ k) b ((div-lt_iff_lt-mul p).1 (rw (← mul_comm (b ^ k) b, ← pow-suc b k) h)))
      (digits-below k (v % b ^ k) (mod-lt v p))

  pub digits_value_lem : (k v : ℕ) → v < b ^ k → digits_value b (digits_of_value b k v) ≡ v
  unfolding digits_of_value digits_value
  digits_value_lem zero v h = omega (arith, pow-zero b)
  digits_value_lem (suc k) v h =
      rw (digits-length k (v % b ^ k), digits_value_lem k (v % b ^ k) (mod-lt v (pow-some k))) (div-add-mod' v (b ^ k))

  pub value-digits : (ds : List ℕ) → all_below b ds ≡ true → digits_of_value b (length ds) (digits_value b ds) ≡ ds
  unfolding digits_of_value digits_value all_below
  value-digits [] h = refl
  value-digits (d ∷ ds) h =
      let t = both_true (ltb d b) (all_below b ds) h in
      let v = value-below ds t.1 in
      rw (
        mul-add-div_right (pow-some (length ds)) d (digits_value b ds),
        div-eq_of_lt v,
        mul-add-mod_self_right d (b ^ length ds) (digits_value b ds),
        mod-eq_of_lt v,
        value-digits ds t.1,
      ) (ap (λ (x : ℕ). x ∷ ds) (omega arith))

  -- ---- the numbers of one length: from `shorter_runs b k` up to the first run that is longer
  shorter-grows : (k j : ℕ) → k ≤ j → shorter_runs b k ≤ shorter_runs b j
  unfolding shorter_runs
  shorter-grows k zero h = let e : k ≡ 0 = omega arith in rw e (omega arith)
  shorter-grows k (suc j) h =
      bool (ltb k (suc j))
      (λ e. let l = ltb-true k (suc j) e in let r = shorter-grows k j (omega arith) in omega arith)
      (λ e. let l = ltb-false k (suc j) e in let z : k ≡ suc j = omega arith in rw z (omega arith))

  number-below : (ds : List ℕ) → all_below b ds ≡ true → digits_number b ds < shorter_runs b (suc (length ds))
  unfolding digits_number shorter_runs
  number-below ds h = let v = value-below ds h in omega arith

  number-from : (ds : List ℕ) → shorter_runs b (length ds) ≤ digits_number b ds
  unfolding digits_number
  number-from ds = omega arith

  -- the longer run has the greater number
  longer-greater : (ds es : List ℕ) → all_below b ds ≡ true → length ds < length es →
      digits_number b ds < digits_number b es
  longer-greater ds es h l =
      let n = number-below ds h in
      let m = number-from es in
      let g = shorter-grows (suc (length ds)) (length es) (omega arith) in
      omega arith

  -- ---- a number gives a run, and the run gives the number back
  pub from-here : (k more n : ℕ) → n < b ^ k → digits_from b k more n ≡ digits_of_value b k n
  unfolding digits_from
  from-here k zero n h = refl
  from-here k (suc more) n h = rw (lt-ltb n (b ^ k) h) refl

  pub from_on : (k more n : ℕ) → b ^ k ≤ n → digits_from b k (suc more) n ≡ digits_from b (suc k) more (n - b ^ k)
  unfolding digits_from
  from_on k more n h = rw (le-ltb n (b ^ k) h) refl

  here : (k more n : ℕ) → n < b ^ k → Counted b k more n (digits_from b k more n)
  unfolding digits_number
  here k more n h =
      rw (from-here k more n h) (record {
        short = rw (digits-length k n) (omega arith);
        below = digits-below k n h;
        number = rw (digits-length k n, digits_value_lem k n h) refl;
      })

  pub from-number : (k more n : ℕ) → shorter_runs b k + n < shorter_runs b (suc (k + more)) →
      Counted b k more n (digits_from b k more n)
  unfolding shorter_runs
  from-number k zero n h =
      let e : k + 0 ≡ k = omega arith in
      let g : shorter_runs b k + n < shorter_runs b k + b ^ k = rw e at h in
      here k 0 n (omega (arith, g))
  from-number k (suc more) n h =
      bool (ltb n (b ^ k))
      (λ e. here k (suc more) n (ltb-true n (b ^ k) e))
      (λ e.
      let l = ltb-false n (b ^ k) e in
      let z : suc k + more ≡ k + suc more = omega arith in
      let c = from-number (suc k) more (n - b ^ k) (rw z (omega arith)) in
      let s = c.short in
      rw (from_on k more n l) (record { short = omega arith; below = c.below; number = c.number ∙ omega arith }))

  -- ---- a run gives a number, and the number gives the run back
  module _ (ds : List ℕ) (h : all_below b ds ≡ true) (k n : ℕ) (l : k ≤ length ds)
      (e : shorter_runs b k + n ≡ digits_number b ds) where
    -- whether the run has k digits or more is told by n
    is-length : n < b ^ k → k ≡ length ds
    unfolding shorter_runs
    is-length s =
        bool (ltb k (length ds))
        (λ t.
        let g = shorter-grows (suc k) (length ds) (ltb-true k (length ds) t) in
        let m = number-from ds in
        absurd (omega arith))
        (λ t. let r = ltb-false k (length ds) t in omega arith)

    has-length : k ≡ length ds → n < b ^ k
    unfolding shorter_runs
    has-length z =
        let m : digits_number b ds < shorter_runs b (suc k) = rw z (number-below ds h) in
        omega (arith, m)

    is-longer : b ^ k ≤ n → suc k ≤ length ds
    is-longer s =
        bool (ltb k (length ds))
        (λ t. ltb-true k (length ds) t)
        (λ t.
        let r = ltb-false k (length ds) t in
        let m = has-length (omega arith) in
        absurd (omega arith))

    of_length : k ≡ length ds → digits_of_value b k n ≡ ds
    unfolding digits_number
    of_length z =
        let f : shorter_runs b (length ds) + n ≡ shorter_runs b (length ds) + digits_value b ds =
        ap (λ (x : ℕ). shorter_runs b x + n) (sym z) ∙ e in
        let v : n ≡ digits_value b ds = omega (arith, f) in
        rw (z, v) (value-digits ds h)

  pub from-run : (ds : List ℕ) → all_below b ds ≡ true → (k more n : ℕ) → k ≤ length ds → length ds ≤ k + more →
      shorter_runs b k + n ≡ digits_number b ds → digits_from b k more n ≡ ds
  unfolding shorter_runs
  from-run ds h k zero n l u e =
      let z : k ≡ length ds = omega arith in
      from-here k 0 n (has-length ds h k n l e z) ∙ of_length ds h k n l e z
  from-run ds h k (suc more) n l u e =
      bool (ltb n (b ^ k))
      (λ t.
      let s = ltb-true n (b ^ k) t in
      from-here k (suc more) n s ∙ of_length ds h k n l e (is-length ds h k n l e s))
      (λ t.
      let s = ltb-false n (b ^ k) t in
      from_on k more n s
      ∙ from-run ds h (suc k) more (n - b ^ k) (is-longer ds h k n l e s) (omega arith) (omega arith))

  -- ---- the order: among runs of one length the smaller value differs first in a smaller digit
  -- a digit in front decides, whatever follows it
  decides : (d e p v w : ℕ) → e < d → w < p → d * p + v < e * p + w → ⊥
  decides d e p v w h k l =
      let q : (e + 1) * p ≤ d * p = mul-le-mul_right p (omega arith) in
      omega (arith, q, add-mul e 1 p)

  smaller-earlier : (ds es : List ℕ) → length ds ≡ length es → all_below b es ≡ true →
      digits_value b ds < digits_value b es → earlier_digits ds es
  unfolding digits_value all_below earlier_digits
  smaller-earlier [] [] z h l = absurd (omega arith)
  smaller-earlier [] (e ∷ es) z h l = absurd (omega arith)
  smaller-earlier (d ∷ ds) [] z h l = absurd (omega arith)
  smaller-earlier (d ∷ ds) (e ∷ es) z h l =
      let t = both_true (ltb e b) (all_below b es) h in
      let y : length ds ≡ length es = omega arith in
      let p = b ^ length es in
      let g : d * p + digits_value b ds < e * p + digits_value b es = rw y at l in
      bool (ltb d e)
      (λ q. inl (ltb-true d e q))
      (λ q.
      let m = ltb-false d e q in
      bool (eqb d e)
      (λ r.
      let s = eqb-true d e r in
      let f : e * p + digits_value b ds < e * p + digits_value b es = rw s at g in
      inr (s, smaller-earlier ds es y t.1 (omega (arith, f))))
      (λ r.
      let s = eqb-false d e r in
      absurd (decides d e p (digits_value b ds) (digits_value b es) (omega arith) (value-below es t.1) g)))

  as_long : (ds es : List ℕ) → length ds ≡ length es → digits_number b ds < digits_number b es →
      digits_value b ds < digits_value b es
  unfolding digits_number
  as_long ds es z l =
      let p = shorter_runs b (length es) in
      let f : p + digits_value b ds < p + digits_value b es = rw z at l in
      omega (arith, f)

  pub ordered : (ds es : List ℕ) → all_below b ds ≡ true → all_below b es ≡ true →
      digits_number b ds < digits_number b es → EarlierRun ds es
  ordered ds es h g l =
      bool (ltb (length ds) (length es))
      (λ q. inl (ltb-true (length ds) (length es) q))
      (λ q.
      let m = ltb-false (length ds) (length es) q in
      bool (ltb (length es) (length ds))
      (λ r. let w = longer-greater es ds g (ltb-true (length es) (length ds) r) in absurd (omega arith))
      (λ r.
      let s = ltb-false (length es) (length ds) r in
      let z : length ds ≡ length es = omega arith in
      inr (z, smaller-earlier ds es z g (as_long ds es z l))))

-- ---- "4,681 runs": eight digits, up to four of them
pub runs-counted : shorter_runs 8 5 ≡ last_run + 1
unfolding shorter_runs
runs-counted = refl

-- five digits are no run
five-refused : is_run (0 ∷ 0 ∷ 0 ∷ 0 ∷ 0 ∷ []) ≡ false
unfolding is_run
five-refused = refl

-- a run is what passes the check; each has a number up to the last, and the numbers up to the last are those of runs
pub record EachRunOneNumber : Type 0 where
  pub run-of-number : (n : ℕ) → n ≤ last_run → (is_run (run_of n) ≡ true) × (number_of (run_of n) ≡ n)
  pub number-of-run : (ds : List ℕ) → is_run ds ≡ true → (number_of ds ≤ last_run) × (run_of (number_of ds) ≡ ds)
  pub in_order : (m n : ℕ) → m < n → n ≤ last_run → EarlierRun (run_of m) (run_of n)
  pub empty-first : number_of [] ≡ 0

-- the run of an accepted number, in terms of b and k
the-run : (n : ℕ) → n ≤ last_run → Counted 8 0 4 n (run_of n)
unfolding shorter_runs
the-run n h = from-number 8 (omega arith) 0 4 n (let c = runs-counted in omega arith)

pub each-run-one-number : EachRunOneNumber
unfolding is_run shorter_runs digits_number digits_value
each-run-one-number =
    record {
      run-of-number = λ n h.
          let r = the-run n h in
          (rw (le-leb (length (run_of n)) 4 r.short) r.below, r.number ∙ omega arith);
      number-of-run = λ ds h.
          let t = both_true (leb (length ds) 4) (all_below 8 ds) h in
          let l = leb-true (length ds) 4 t.0 in
          let m = number-below 8 (omega arith) ds t.1 in
          let g = shorter-grows 8 (omega arith) (suc (length ds)) 5 (omega arith) in
          let c = runs-counted in
          (omega arith, from-run 8 (omega arith) ds t.1 0 4 (number_of ds) (omega arith) l (omega arith));
      in_order = λ m n h l.
          let r = the-run m (omega arith) in
          let s = the-run n l in
          let e = r.number in
          let f = s.number in
          ordered 8 (omega arith) (run_of m) (run_of n) r.below s.below (omega (arith, e, f));
      empty-first = refl;
    }
