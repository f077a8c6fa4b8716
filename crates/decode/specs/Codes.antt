-- The command at a place of a trace, as the code comes to it: how many numbers follow the code byte, then number by
-- number. Every end of the reading is one law over what was read up to there.
use Rattle.std.specs.Prelude.{ℕ, suc, ◌+◌, ◌-◌, ◌≤◌, ◌<◌, Bool, true, cond, ◌||◌, ◌&&◌, List, ◌≡◌, length, get_or, drop, leb, eqb}
use Rattle.std.proofs.Math.Bool.{false}
use Rattle.std.proofs.Math.Path.{refl, ap}
use Rattle.std.specs.Option.{IfSome}
use Rattle.std.proofs.Common.{Option, None, Some, sym, ◌∙◌, add-one, drop_of_length-le}
use native.Mathlib.Omega.{arith}
use Rattle.std.proofs.Math.Seq.{drop-cons, drop-drop}
use borrow.Author.Tests.{le-leb, lt-leb, ne_eqb}
use Rattle.model.specs.Trace.{Number, number, no_number, number32, number64, Decoded, decoded, damaged, command, one_number, second_number, two_numbers, value_number, three_numbers, decode_after, decode}
use Rattle.model.specs.Laws.{cond-elim}
use Rattle.model.specs.declared.Command.{Command}
use Rattle.decode.specs.declared.Decoded.{Decoded as Answer}
use Rattle.decode.specs.Told.{told}

-- what `next_command` gives: the command of the model, which lies in the trace and takes a byte at least
pub record DecodedAt (t : List ℕ) (at : ℕ) (r : Option Answer) : Type 0 where
  pub same : told r ≡ decode (drop at t)
  pub within : IfSome r (λ d. (1 ≤ d.used) × (at + d.used ≤ length t))

-- how many numbers follow a code; 4: there is no such code
unfoldable pub numbers_behind : ℕ → ℕ
numbers_behind c =
    cond (eqb c 1) 3
    (cond (eqb c 0 || ((leb 4 c && leb c 8) || eqb c 11)) 2
    (cond (eqb c 10 || eqb c 12) 1 (cond (eqb c 2 || (eqb c 3 || eqb c 9)) 0 4)))

pub behind-none : (c : ℕ) → 8 < c → (c ≡ 9 → ⊥) → (c ≡ 10 → ⊥) → (c ≡ 11 → ⊥) → (c ≡ 12 → ⊥) → 4 ≡ numbers_behind c
unfolding numbers_behind
behind-none c h n9 n10 n11 n12 =
    let above : (k : ℕ) → k < 8 → c ≡ k → ⊥ = λ k l e. omega (arith, h) in
    let big : 4 ≤ c = omega arith in
    rw (
      ne_eqb c 1 (above 1 (omega arith)),
      ne_eqb c 0 (above 0 (omega arith)),
      le-leb 4 c big,
      lt-leb c 8 h,
      ne_eqb c 11 n11,
      ne_eqb c 10 n10,
      ne_eqb c 12 n12,
      ne_eqb c 2 (above 2 (omega arith)),
      ne_eqb c 3 (above 3 (omega arith)),
      ne_eqb c 9 n9,
    ) refl

-- ---- the numbers, one by one: bs is what follows the code byte
-- by how many numbers follow
unfoldable pub by_numbers : ℕ → ℕ → List ℕ → Decoded
by_numbers n c bs =
    cond (eqb n 0) (decoded (command c 0 0 0) 1)
    (cond (eqb n 4) damaged (cond (eqb n 1) (one_number c bs) (cond (eqb n 2) (two_numbers c bs) (three_numbers c bs))))

after-numbers : (c : ℕ) (bs : List ℕ) → decode_after c bs ≡ by_numbers (numbers_behind c) c bs
unfolding decode_after by_numbers numbers_behind
after-numbers c bs = go (eqb c 1) (eqb c 0 || ((leb 4 c && leb c 8) || eqb c 11)) (eqb c 10 || eqb c 12)
    (eqb c 2 || (eqb c 3 || eqb c 9))
  where
    at : ℕ → Decoded
    at n = cond (eqb n 0) (decoded (command c 0 0 0) 1)
        (cond (eqb n 4) damaged (cond (eqb n 1) (one_number c bs) (cond (eqb n 2) (two_numbers c bs) (three_numbers c bs))))

    go : (x y z w : Bool) →
        cond x (three_numbers c bs) (cond y (two_numbers c bs) (cond z (one_number c bs) (cond w (decoded (command c 0 0 0) 1) damaged)))
        ≡ at (cond x 3 (cond y 2 (cond z 1 (cond w 0 4))))
    go true y z w = refl
    go false true z w = refl
    go false false true w = refl
    go false false false true = refl
    go false false false false = refl

-- ---- what the reading gives, number by number
lost : (t : List ℕ) (at : ℕ) → decode (drop at t) ≡ damaged → DecodedAt t at None
lost t at e = record { same = sym e; within = tt }

found : (t : List ℕ) (at u : ℕ) (c : Command) → decode (drop at t) ≡ decoded c u → 1 ≤ u → at + u ≤ length t →
    DecodedAt t at (Some (record { command = c; used = u }))
found t at u c e o h = record { same = sym e; within = (o, h) }

pub decode-end : {t : List ℕ} {at : ℕ} → length t ≤ at → DecodedAt t at None
unfolding decode
decode-end {t} {at} h = lost t at (rw (drop_of_length-le t h) refl)

-- .. the code byte, and how many numbers follow it
module _ (t : List ℕ) (at : ℕ) (h : at < length t) where
  decode-by : (n : ℕ) → n ≡ numbers_behind (get_or t at 0) →
      decode (drop at t) ≡ by_numbers n (get_or t at 0) (drop (at + 1) t)
  unfolding decode
  decode-by n e = rw (add-one, drop-cons t at 0 h, e) (after-numbers (get_or t at 0) (drop (suc at) t))

  -- .. and some of them
  module _ (a u : ℕ) (first : number a u ≡ number32 (drop (at + 1) t)) where
    two-by : (s : Number) → s ≡ number32 (drop (at + 1 + u) t) → two_numbers (get_or t at 0) (drop (at + 1) t)
        ≡ cond s.ok (decoded (command (get_or t at 0) a s.value 0) (1 + u + s.used)) damaged
    unfolding two_numbers second_number
    two-by s e = rw (← first, drop-drop u (at + 1) t, ← e) refl

    three-by : (b w : ℕ) → number b w ≡ number32 (drop (at + 1 + u) t) → (v : Number) →
        v ≡ number64 (drop (at + 1 + u + w) t) → 3 ≡ numbers_behind (get_or t at 0) →
        decode (drop at t) ≡ cond v.ok (decoded (command (get_or t at 0) a b v.value) (1 + u + w + v.used)) damaged
    unfolding by_numbers three_numbers value_number
    three-by b w second v third e =
        let s : at + 1 + (1 + u + w - 1) ≡ at + 1 + u + w = omega arith in
        let p : drop (1 + u + w - 1) (drop (at + 1) t) ≡ drop (at + 1 + u + w) t
        = drop-drop (1 + u + w - 1) (at + 1) t ∙ ap (λ (x : ℕ). drop x t) s in
        rw (decode-by 3 e, two-by (number b w) second, p, ← third) refl

module _ {t : List ℕ} {at n : ℕ} (h : at < length t) (e : n ≡ numbers_behind (get_or t at 0)) where
  pub decode-no-code : n ≡ 4 → DecodedAt t at None
  unfolding by_numbers
  decode-no-code z = lost t at (rw (decode-by t at h n e, z) refl)

  pub decode-no-numbers : n ≡ 0 → DecodedAt t at (Some (record { command = command (get_or t at 0) 0 0 0; used = 1 }))
  unfolding by_numbers
  decode-no-numbers z = found t at _ _ (rw (decode-by t at h n e, z) refl) (omega arith) (omega arith)

  -- the first number is damaged: so is the command, by whatever number of numbers
  pub decode-no-first : (n ≡ 0 → ⊥) → n ≤ 3 → no_number ≡ number32 (drop (at + 1) t) → DecodedAt t at None
  unfolding by_numbers one_number two_numbers three_numbers
  decode-no-first some most bad =
      lost t at (rw (decode-by t at h n e, ne_eqb n 0 some, ne_eqb n 4 (λ f. omega arith), ← bad)
      (cond-elim (λ (x : Decoded). x ≡ damaged) (eqb n 1) damaged (cond (eqb n 2) damaged damaged) (λ _. refl)
      (λ _. cond-elim (λ (x : Decoded). x ≡ damaged) (eqb n 2) damaged damaged (λ _. refl) (λ _. refl))))

  module _ {a u : ℕ} (first : number a u ≡ number32 (drop (at + 1) t)) where
    pub decode-one : n ≡ 1 → at + 1 + u ≤ length t →
        DecodedAt t at (Some (record { command = command (get_or t at 0) a 0 0; used = 1 + u }))
    unfolding by_numbers one_number
    decode-one z l = found t at _ _ (rw (decode-by t at h n e, z, ← first) refl) (omega arith) (omega arith)

    pub decode-no-second : (n ≡ 0 → ⊥) → (n ≡ 1 → ⊥) → n ≤ 3 → no_number ≡ number32 (drop (at + 1 + u) t) →
        DecodedAt t at None
    unfolding by_numbers three_numbers
    decode-no-second some more most bad =
        lost t at (rw (
          decode-by t at h n e,
          ne_eqb n 0 some,
          ne_eqb n 4 (λ f. omega arith),
          ne_eqb n 1 more,
          two-by t at h a u first no_number bad,
        ) (cond-elim (λ (x : Decoded). x ≡ damaged) (eqb n 2) damaged damaged (λ _. refl) (λ _. refl)))

    module _ {b w : ℕ} (second : number b w ≡ number32 (drop (at + 1 + u) t)) where
      pub decode-two : n ≡ 2 → at + 1 + u + w ≤ length t →
          DecodedAt t at (Some (record { command = command (get_or t at 0) a b 0; used = 1 + u + w }))
      unfolding by_numbers
      decode-two z l =
          found t at _ _ (rw (decode-by t at h n e, z, two-by t at h a u first (number b w) second) refl)
          (omega arith) (omega arith)

      pub decode-no-value : n ≡ 3 → no_number ≡ number64 (drop (at + 1 + u + w) t) → DecodedAt t at None
      decode-no-value z bad = lost t at (three-by t at h a u first b w second no_number bad (rw z at e))

      pub decode-three : {v x : ℕ} → n ≡ 3 → number v x ≡ number64 (drop (at + 1 + u + w) t) →
          at + 1 + u + w + x ≤ length t →
          DecodedAt t at (Some (record { command = command (get_or t at 0) a b v; used = 1 + u + w + x }))
      decode-three {v} {x} z third l =
          found t at _ _ (three-by t at h a u first b w second (number v x) third (rw z at e)) (omega arith) (omega arith)
