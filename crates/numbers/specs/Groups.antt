-- How a loop reads a number off a trace: what the groups read so far make of the groups that follow. Numbers of both
-- widths go by these laws: k groups fit any bits, and the group behind them has to stay below m, where the limit is m
-- * 128 ^ k.
use Rattle.std.specs.Prelude.{ℕ, zero, suc, ◌+◌, ◌*◌, ◌-◌, ◌^◌, ◌≤◌, ◌<◌, Bool, false, List, [], ◌∷◌, ◌≡◌, length, get_or, drop, ltb, eqb}
use Rattle.std.proofs.Math.Bool.{true, cond}
use Rattle.std.proofs.Math.Path.{refl, ap}
use Rattle.std.proofs.Common.{◌∙◌, arith, add-one, mul-add, mul_assoc, add_assoc, pow-suc, drop_of_length-le}
use Rattle.std.proofs.Math.Nat.{mul_comm, pow-le-pow_right, mul-le-mul_right}
use Rattle.std.proofs.Math.Seq.{drop-cons}
use borrow.Author.Tests.{lt-ltb, le-ltb, ne_eqb}
use Rattle.model.specs.Trace.{Number, number, no_number, groups, more_groups, number_below}
use Rattle.model.specs.Laws.{bool, false-true}

-- i groups of value v, each with its top bit set, before a number n of further groups; s is the weight of the first
-- of these
unfoldable pub grown : ℕ → ℕ → ℕ → Number → Number
grown v s i n = cond n.ok (number (v + s * n.value) (i + n.used)) no_number

-- ---- the group at a place of a trace
module _ (t : List ℕ) (p : ℕ) where
  more-end : length t ≤ p → more_groups (drop p t) ≡ no_number
  unfolding more_groups
  more-end h = rw (drop_of_length-le t h)

  more-overlong : p < length t → get_or t p 0 ≡ 0 → more_groups (drop p t) ≡ no_number
  unfolding more_groups
  more-overlong h e = rw (drop-cons t p 0 h, e)

  more-last : p < length t → get_or t p 0 < 128 → (get_or t p 0 ≡ 0 → ⊥) → more_groups (drop p t) ≡ number (get_or t p 0) 1
  unfolding more_groups
  more-last h b n = rw (drop-cons t p 0 h, lt-ltb (get_or t p 0) 128 b, ne_eqb (get_or t p 0) 0 n)

  more-on : p < length t → 128 ≤ get_or t p 0 → more_groups (drop p t) ≡ grown (get_or t p 0 - 128) 128 1 (more_groups (drop (p + 1) t))
  unfolding more_groups grown
  more-on h b = rw (add-one, drop-cons t p 0 h, le-ltb (get_or t p 0) 128 b) (one (more_groups (drop (suc p) t)))
    where
      one : (n : Number) → cond n.ok (number (get_or t p 0 - 128 + 128 * n.value) (suc n.used)) no_number
          ≡ cond n.ok (number (get_or t p 0 - 128 + 128 * n.value) (1 + n.used)) no_number
      one n = ap (λ (k : ℕ). cond n.ok (number (get_or t p 0 - 128 + 128 * n.value) k) no_number) (omega arith)

  same : p < length t → 128 ≤ get_or t p 0 → groups (drop p t) ≡ more_groups (drop p t)
  unfolding groups more_groups
  same h b = rw (drop-cons t p 0 h, le-ltb (get_or t p 0) 128 b)

  first-last : p < length t → get_or t p 0 < 128 → groups (drop p t) ≡ number (get_or t p 0) 1
  unfolding groups
  first-last h b = rw (drop-cons t p 0 h, lt-ltb (get_or t p 0) 128 b)

  first_on : p < length t → 128 ≤ get_or t p 0 → groups (drop p t) ≡ grown (get_or t p 0 - 128) 128 1 (more_groups (drop (p + 1) t))
  first_on h b = same h b ∙ more-on h b

  first-end : length t ≤ p → groups (drop p t) ≡ no_number
  unfolding groups
  first-end h = rw (drop_of_length-le t h)

-- ---- "shortest form only": further groups, where they are a number at all, make 1 at least; m at least where the
-- first of them is
least-of : (m b : ℕ) (n : Number) → m ≤ 128 → m ≤ b → (n.ok ≡ true → 1 ≤ n.value) →
    (x y : Bool) → ltb b 128 ≡ x → eqb b 0 ≡ y →
    (cond x (cond y no_number (number b 1)) (cond n.ok (number (b - 128 + 128 * n.value) (suc n.used)) no_number)).ok ≡ true →
    m ≤ (cond x (cond y no_number (number b 1)) (cond n.ok (number (b - 128 + 128 * n.value) (suc n.used)) no_number)).value
least-of m b n small h f true true e g k = false-true k
least-of m b n small h f true false e g k = h
least-of m b n small h f false y e g k =
    bool n.ok
    (λ o. let l = f o in rw o (omega arith))
    (λ o. false-true (rw o at k))

more-positive : (bs : List ℕ) → (more_groups bs).ok ≡ true → 1 ≤ (more_groups bs).value
unfolding more_groups
more-positive [] k = false-true k
more-positive (zero ∷ bs) k = false-true k
more-positive (suc b ∷ bs) k = least-of 1 (suc b) (more_groups bs) (omega arith) (omega arith) (more-positive bs) (ltb (suc b) 128) (eqb (suc b) 0)
    refl refl k

more-least : (t : List ℕ) (p m : ℕ) → m ≤ 128 → p < length t → m ≤ get_or t p 0 → (more_groups (drop p t)).ok ≡ true → m ≤ (more_groups (drop p t)).value
unfolding more_groups
more-least t p m small h b = rw (drop-cons t p 0 h) (go (get_or t p 0) (drop (suc p) t) b)
  where
    go : (b : ℕ) (bs : List ℕ) → m ≤ b → (more_groups (b ∷ bs)).ok ≡ true → m ≤ (more_groups (b ∷ bs)).value
    go b bs h = least-of m b (more_groups bs) small h (more-positive bs) (ltb b 128) (eqb b 0) refl refl

-- ---- a number of more groups
grown-on : (v s i b : ℕ) (n : Number) → grown v s i (grown b 128 1 n) ≡ grown (v + b * s) (s * 128) (i + 1) n
unfolding grown
grown-on v s i b n = go n.ok
  where
    go : (k : Bool) → cond (cond k (number (b + 128 * n.value) (1 + n.used)) no_number).ok
        (number (v + s * (cond k (number (b + 128 * n.value) (1 + n.used)) no_number).value)
        (i + (cond k (number (b + 128 * n.value) (1 + n.used)) no_number).used)) no_number
        ≡ cond k (number (v + b * s + s * 128 * n.value) (i + 1 + n.used)) no_number
    go true = ap (λ (x : ℕ). number x (i + (1 + n.used))) (rw (mul-add s b (128 * n.value), mul_comm s b, mul_assoc s 128 n.value) (omega arith))
        ∙ ap (number (v + b * s + s * 128 * n.value)) (omega arith)
    go false = refl

-- ---- a number below the limit
module _ (limit : ℕ) (bs : List ℕ) where
  below_none : groups bs ≡ no_number → no_number ≡ number_below limit bs
  unfolding number_below
  below_none e = rw e

  below-number : (v k : ℕ) → groups bs ≡ number v k → v < limit → number v k ≡ number_below limit bs
  unfolding number_below
  below-number v k e h = rw (e, lt-ltb v limit h)

  below-wide : ((groups bs).ok ≡ true → limit ≤ (groups bs).value) → no_number ≡ number_below limit bs
  unfolding number_below
  below-wide f = bool (groups bs).ok (λ e. rw (e, le-ltb (groups bs).value limit (f e))) (λ e. rw e)

-- ---- the loop: i groups are read, each with its top bit set; they have the value v, and s is the weight of the next
-- group. Sums stay below the limit m * 128 ^ k
pub record Reading (t : List ℕ) (at k m v s i : ℕ) : Type 0 where
  pub weight : s ≡ 128 ^ i
  pub small : v < s
  pub room : i < k → 256 * s ≤ m * 128 ^ k
  pub last_room : i ≡ k → m * s ≡ m * 128 ^ k
  pub rest : groups (drop at t) ≡ grown v s i (more_groups (drop (at + i) t))

-- group i leaves room below the limit, if others may follow
pub room-at : (k m i : ℕ) → 2 ≤ m → i < k → 256 * 128 ^ i ≤ m * 128 ^ k
room-at k m i two h =
    let p : 128 ^ suc i ≤ 128 ^ k = pow-le-pow_right (omega arith) h in
    let q : 2 * 128 ^ k ≤ m * 128 ^ k = mul-le-mul_right (128 ^ k) two in
    let e = pow-suc 128 i in
    omega arith

module _ (t : List ℕ) (at k m : ℕ) where
  pub number-end : length t ≤ at → no_number ≡ number_below (m * 128 ^ k) (drop at t)
  number-end h = below_none (m * 128 ^ k) (drop at t) (first-end t at h)

  pub number-one : at < length t → get_or t at 0 < 128 → 1 ≤ k → 2 ≤ m →
      number (get_or t at 0) 1 ≡ number_below (m * 128 ^ k) (drop at t)
  number-one h b one two =
      let l = room-at k m 0 two one in
      below-number (m * 128 ^ k) (drop at t) (get_or t at 0) 1 (first-last t at h b) (omega arith)

  pub reading-starts : at < length t → 128 ≤ get_or t at 0 → get_or t at 0 < 256 → 2 ≤ m →
      Reading t at k m (get_or t at 0 - 128) 128 1
  reading-starts h b u two =
      record {
        weight = refl;
        small = omega arith;
        room = room-at k m 1 two;
        last_room = ap (λ (x : ℕ). m * 128 ^ x);
        rest = first_on t at h b;
      }

module _ {t : List ℕ} {at k m v s i : ℕ} (r : Reading t at k m v s i) where
  -- the groups stop here, or in an overlong form
  pub reading-ends : length t ≤ at + i → no_number ≡ number_below (m * 128 ^ k) (drop at t)
  unfolding grown
  reading-ends h = below_none (m * 128 ^ k) (drop at t) (r.rest ∙ rw (more-end t (at + i) h) refl)

  pub reading-overlong : at + i < length t → get_or t (at + i) 0 ≡ 0 →
      no_number ≡ number_below (m * 128 ^ k) (drop at t)
  unfolding grown
  reading-overlong h e = below_none (m * 128 ^ k) (drop at t) (r.rest ∙ rw (more-overlong t (at + i) h e) refl)

  -- the last group
  reading-last : at + i < length t → get_or t (at + i) 0 < 128 → (get_or t (at + i) 0 ≡ 0 → ⊥) →
      groups (drop at t) ≡ number (v + get_or t (at + i) 0 * s) (i + 1)
  unfolding grown
  reading-last h u n = r.rest ∙ rw (more-last t (at + i) h u n, mul_comm s (get_or t (at + i) 0)) refl

  pub reading-done : i < k → at + i < length t → get_or t (at + i) 0 < 128 → (get_or t (at + i) 0 ≡ 0 → ⊥) →
      number (v + get_or t (at + i) 0 * s) (i + 1) ≡ number_below (m * 128 ^ k) (drop at t)
  reading-done less h u n =
      let l = r.small in let f = r.room less in
      let b : get_or t (at + i) 0 * s ≤ 127 * s = mul-le-mul_right s (omega arith) in
      below-number (m * 128 ^ k) (drop at t) (v + get_or t (at + i) 0 * s) (i + 1) (reading-last h u n) (omega arith)

  pub reading-goes-on : 2 ≤ m → at + i < length t → 128 ≤ get_or t (at + i) 0 →
      get_or t (at + i) 0 < 256 → Reading t at k m (v + (get_or t (at + i) 0 - 128) * s) (s * 128) (i + 1)
  reading-goes-on two h l u =
      let w = r.weight in let z = r.small in
      let q : (get_or t (at + i) 0 - 128) * s ≤ 127 * s = mul-le-mul_right s (omega arith) in
      let e : s * 128 ≡ 128 ^ (i + 1) = rw (w, add-one, pow-suc 128 i) refl in
      record {
        weight = e;
        small = omega arith;
        room = rw e (room-at k m (i + 1) two);
        last_room = λ a. rw (e, a) refl;
        rest =
            r.rest
            ∙ rw (
              more-on t (at + i) h,
              grown-on v s i (get_or t (at + i) 0 - 128) (more_groups (drop (at + i + 1) t)),
              add_assoc at i 1,
            ) refl;
      }

-- the group behind k others: below m it is the last, else the number is too wide, whether groups follow or not
module _ {t : List ℕ} {at k m v s i : ℕ} (r : Reading t at k m v s i) (all : i ≡ k) (narrow : m ≤ 128)
    (h : at + k < length t) where
  read : Reading t at k m v s k
  read = rw all at r

  pub reading-full : get_or t (at + k) 0 < m → (get_or t (at + k) 0 ≡ 0 → ⊥) →
      number (v + get_or t (at + k) 0 * s) (k + 1) ≡ number_below (m * 128 ^ k) (drop at t)
  reading-full u n =
      let l = read.small in
      let q : (get_or t (at + k) 0 + 1) * s ≤ m * s = mul-le-mul_right s (omega arith) in
      below-number (m * 128 ^ k) (drop at t) (v + get_or t (at + k) 0 * s) (k + 1)
      (reading-last read h (omega arith) n)
      (rw (← read.weight) (omega arith))

  pub reading-wide : m ≤ get_or t (at + k) 0 → no_number ≡ number_below (m * 128 ^ k) (drop at t)
  unfolding grown
  reading-wide u =
      below-wide (m * 128 ^ k) (drop at t)
      (rw (read.rest, ← read.weight) (go (more_groups (drop (at + k) t)) (more-least t (at + k) m narrow h u)))
    where
      go : (n : Number) → (n.ok ≡ true → m ≤ n.value) → (grown v s k n).ok ≡ true → m * s ≤ (grown v s k n).value
      go n f = bool n.ok
          (λ o. let q : m * s ≤ n.value * s = mul-le-mul_right s (f o) in rw o (λ _. omega (arith, mul_comm s n.value)))
          (λ o. rw o (λ x. false-true x))
