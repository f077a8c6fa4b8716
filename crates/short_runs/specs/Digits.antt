-- How the three loops come to a run and to a number: each loop keeps one record of facts, and goes on by a law over it.
use Rattle.std.specs.Prelude.{ℕ, zero, suc, ◌+◌, ◌*◌, ◌-◌, ◌^◌, ◌/◌, ◌%◌, ◌<◌, ◌≤◌, true, cond, ◌&&◌, List, [], ◌∷◌}
use Rattle.std.specs.Prelude.{◌++◌, ◌≡◌, length, take, drop, replicate, leb, ltb}
use Rattle.std.proofs.Common.{refl, sym, ap, drop-drop, drop-set-lt, ◌∙◌, arith, set, get_or, add-one, pow-suc}
use Rattle.std.proofs.Common.{append-nil, append_assoc, div-lt_iff_lt-mul, mul-div_cancel, take-append-drop, drop-cons}
use Rattle.std.proofs.Common.{drop_of_length-le, length-set, length-drop}
use Rattle.std.proofs.Math.Nat.{pow-le-pow_right, mod-lt}
use Rattle.std.proofs.lemmas.Bool.Decides.{nat_tests}
use Rattle.std.proofs.lemmas.Grind.{common_steps}
use Rattle.std.proofs.lemmas.List.{drop-replicate}
use Rattle.traces.specs.ShortRuns.{digits_value, digits_number, digits_of_value, digits_from, run_of, all_below, is_run}
use Rattle.traces.specs.ShortRuns.{shorter_runs, run_number, short_run, short_run_of, short_run_number}
use Rattle.traces.proofs.ShortRuns.{digits-length, from-here, from_on}

eight : 0 < 8
eight = omega arith

pub pow_four : (k : ℕ) → k ≤ 4 → 8 ^ k ≤ 4096
pow_four k h = let u : 8 ^ k ≤ 8 ^ 4 = pow-le-pow_right eight h in u

pub pow_some : (k : ℕ) → 1 ≤ k → 8 ≤ 8 ^ k
pow_some k h = let u : 8 ^ 1 ≤ 8 ^ k = pow-le-pow_right eight h in u

-- ---- `place_of`: the number is counted from the first run of k digits on, and there may be `more` digits
pub record Placing (number k value same : ℕ) : Type 0 where
  pub more : ℕ
  pub rest : digits_from 8 k more value ≡ run_of number
  pub few : k + more ≡ 4
  pub power : same ≡ 8 ^ k
  -- the shorter runs are a seventh of `same` less 1
  pub count : 7 * value + same ≡ 7 * number + 1

pub placing_starts : (number : ℕ) → Placing number 0 number 1
placing_starts number = record { more = 4; rest = refl; few = refl; power = refl; count = omega arith }

pub placing_on : {number k value same : ℕ} → Placing number k value same → number ≤ 4680 → same ≤ value →
    Placing number (k + 1) (value - same) (same * 8)
placing_on {number} {k} {value} {same} p h l =
    let m = p.more - 1 in
    let e = some p.more k p.few p.power p.count in
    let r : digits_from 8 k (suc m) value ≡ run_of number = rw e at p.rest in
    let g : 8 ^ k ≤ value = rw p.power at l in
    record {
      more = m;
      few = omega (arith, e, p.few);
      power = rw (p.power, add-one, pow-suc 8 k) refl;
      count = omega (arith, p.count);
      rest = rw (add-one, p.power) (sym (from_on 8 eight k m value g) ∙ r);
    }
  where
    some : (more k : ℕ) → k + more ≡ 4 → same ≡ 8 ^ k → 7 * value + same ≡ 7 * number + 1 → more ≡ suc (more - 1)
    some zero k f w c =
        let z : k ≡ 4 = omega arith in
        let v : same ≡ 8 ^ 4 = rw z at w in
        absurd (omega arith)
    some (suc more) k f w c = omega arith

pub ruleset places = (placing_starts, placing_on, from-here)

-- ---- `digits_of`: i digits of the k are in place, and `rest` is the value of the `more` that follow
pub record Filling (k value : ℕ) (digits : List ℕ) (weight rest i : ℕ) : Type 0 where
  pub more : ℕ
  pub left : i + more ≡ k
  pub power : weight ≡ 8 ^ more
  pub small : rest < weight
  pub four : length digits ≡ 4
  pub zeros : drop i digits ≡ replicate (4 - i) 0
  pub done : take i digits ++ digits_of_value 8 more rest ≡ digits_of_value 8 k value

pub filling_on : {k value weight rest i : ℕ} {digits : List ℕ} → Filling k value digits weight rest i → k ≤ 4 → i < k →
    Filling k value (set digits i (rest / (weight / 8))) (weight / 8) (rest % (weight / 8)) (i + 1)
unfolding digits_of_value
filling_on {k} {value} {weight} {rest} {i} {digits} f h l =
    let m = f.more - 1 in
    let e : f.more ≡ suc m = omega (arith, f.left) in
    let p : weight ≡ 8 ^ suc m = rw e at f.power in
    let w : weight / 8 ≡ 8 ^ m = rw (p, pow-suc 8 m) (mul-div_cancel (8 ^ m) eight) in
    let s : 8 ≤ weight = omega (arith, f.power, f.left, pow_some f.more) in
    let d : take i digits ++ (rest / 8 ^ m ∷ digits_of_value 8 m (rest % 8 ^ m)) ≡ digits_of_value 8 k value =
    rw e at f.done in
    record {
      more = m;
      left = omega (arith, f.left);
      power = w;
      small = mod-lt rest (omega arith);
      four = simp length-set f.four;
      zeros =
          drop-set-lt (i + 1) digits i (rest / (weight / 8)) (omega arith) ∙ sym (drop-drop 1 i digits)
          ∙ rw (f.zeros, drop-replicate) (ap (λ (n : ℕ). replicate n 0) (omega arith));
      done = rw w (grind (arith, common_steps, d, f.four));
    }

pub digits_none : (v : ℕ) → digits_of_value 8 0 v ≡ []
unfolding digits_of_value
digits_none v = refl

-- the digits in two parts; the first equation shows the front, by which a call finds it
pub both_parts : (digits : List ℕ) (i : ℕ) → (take i digits ≡ take i digits) × (take i digits ++ drop i digits ≡ digits)
both_parts digits i = (refl, take-append-drop i digits)

pub ruleset fillings = (filling_on, pow_some, digits_none, both_parts, append-nil)

-- ---- `run_of`
pub run_told : (number : ℕ) →
    short_run_of number ≡ cond (leb number 4680) (short_run 0 (run_of number)) (short_run 18 [])
unfolding short_run_of
run_told number = refl

pub ruleset runs = (run_told, digits-length)

-- ---- `number_of`: the digits of ds up to i are passed, and are digits; the others follow
pub record Counting (ds : List ℕ) (shorter same value i : ℕ) : Type 0 where
  pub counted : shorter ≡ shorter_runs 8 i
  pub power : same ≡ 8 ^ i
  pub fewer : shorter < same
  pub small : value < same
  pub below : all_below 8 (drop i ds) ≡ all_below 8 ds
  pub worth : value * 8 ^ length (drop i ds) + digits_value 8 (drop i ds) ≡ digits_value 8 ds

pub number_told : (ds : List ℕ) → short_run_number ds ≡ cond (leb (length ds) 4 && all_below 8 ds)
    (run_number 0 (shorter_runs 8 (length ds) + digits_value 8 ds)) (run_number 18 0)
unfolding short_run_number is_run digits_number
number_told ds = refl

-- the digit that is next
pub below_next : (ds : List ℕ) (i : ℕ) → i < length ds →
    all_below 8 (drop i ds) ≡ (ltb (get_or ds i 0) 8 && all_below 8 (drop (i + 1) ds))
unfolding all_below
below_next ds i h = rw (drop-cons ds i 0 h, add-one) refl

value-next : (ds : List ℕ) (i value : ℕ) → i < length ds →
    (value * 8 + get_or ds i 0) * 8 ^ length (drop (i + 1) ds) + digits_value 8 (drop (i + 1) ds)
    ≡ value * 8 ^ length (drop i ds) + digits_value 8 (drop i ds)
unfolding digits_value
value-next ds i value h = rw (drop-cons ds i 0 h, add-one, pow-suc) (grind arith)

pub counting_starts : (ds : List ℕ) → Counting ds 0 1 0 0
unfolding shorter_runs
counting_starts ds =
    record {
      counted = refl;
      power = refl;
      fewer = omega arith;
      small = omega arith;
      below = refl;
      worth = omega arith;
    }

pub counting_on : {ds : List ℕ} {shorter same value i : ℕ} → Counting ds shorter same value i → i < length ds →
    get_or ds i 0 ≤ 7 → Counting ds (shorter + same) (same * 8) (value * 8 + get_or ds i 0) (i + 1)
unfolding shorter_runs
counting_on {ds} {shorter} {same} {value} {i} c l h =
    record {
      counted = rw (add-one, c.counted, c.power) refl;
      power = rw (add-one, c.power, pow-suc 8 i) refl;
      fewer = omega (arith, c.fewer);
      small = omega (arith, c.small);
      below = grind (arith, nat_tests, c.below, below_next);
      worth = value-next ds i value l ∙ c.worth;
    }

-- no digit is left
pub counting_ends : {ds : List ℕ} {shorter same value i : ℕ} → Counting ds shorter same value i → length ds ≤ i →
    (all_below 8 ds ≡ true) × (value ≡ digits_value 8 ds)
unfolding all_below digits_value
counting_ends {ds} {shorter} {same} {value} {i} c l =
    let n = drop_of_length-le ds l in
    let w : value * 8 ^ 0 + 0 ≡ digits_value 8 ds = rw n at c.worth in
    (sym (rw n at c.below), omega (arith, w))

pub ruleset numbers = (number_told, below_next, pow_four, nat_tests)
