-- Reading a command looks at its own bytes only, and takes one at least (`decode-stable`).
-- Why: a number ends at its first group without a top bit, and a command has as many numbers as its code byte says.
use Prim.Native.Nat.{ℕ, ◌+◌, ◌-◌, ◌≤◌}
use mathlib.Core.Bool.{true, ◌||◌, ◌&&◌}
use mathlib.Core.Path.{◌≡◌, refl}
use mathlib.Core.List.{List, [], ◌∷◌, ◌++◌}
use native.Mathlib.Omega.{arith}
use lib.ListN.{length, drop, length-drop}
use lib.Seq.{drop-append-le}
use lib.Dec.{ltb, leb, eqb}
use Rattle.model.specs.Trace.{Number, more_groups, groups, number_below, number32, number64, Decoded, one_number, second_number, two_numbers, value_number, three_numbers, decode_after, decode}
use Rattle.model.specs.Laws.{bool, false-true, both_true}

-- ---- numbers: a number that is read stays the same whatever stands behind it, and lies in what was read
record NumberStable (f : List ℕ → Number) (xs ys : List ℕ) : Type 0 where
  same : f (xs ++ ys) ≡ f xs
  inside : (f xs).used ≤ length xs

more-stable : (xs ys : List ℕ) → (more_groups xs).ok ≡ true → NumberStable more_groups xs ys
unfolding more_groups
more-stable [] ys h = false-true h
more-stable (b ∷ bs) ys h =
    bool (ltb b 128)
    (λ t. bool (eqb b 0)
    (λ u. false-true (rw (t, u) at h))
    (λ u. record { same = rw (t, u) refl; inside = rw (t, u) (omega arith) }))
    (λ t. bool (more_groups bs).ok
    (λ u. let r = more-stable bs ys u in let s = r.same in let i = r.inside in
    record { same = rw (t, s, u) refl; inside = rw (t, u) (omega arith) })
    (λ u. false-true (rw (t, u) at h)))

groups-stable : (xs ys : List ℕ) → (groups xs).ok ≡ true → NumberStable groups xs ys
unfolding groups
groups-stable [] ys h = false-true h
groups-stable (b ∷ bs) ys h =
    bool (ltb b 128)
    (λ t. record { same = rw t refl; inside = rw t (omega arith) })
    (λ t. bool (more_groups bs).ok
    (λ u. let r = more-stable bs ys u in let s = r.same in let i = r.inside in
    record { same = rw (t, s, u) refl; inside = rw (t, u) (omega arith) })
    (λ u. false-true (rw (t, u) at h)))

below-stable : (limit : ℕ) (xs ys : List ℕ) → (number_below limit xs).ok ≡ true → NumberStable (number_below limit) xs ys
unfolding number_below
below-stable limit xs ys h =
    bool ((groups xs).ok && ltb (groups xs).value limit)
    (λ t. let r = groups-stable xs ys (both_true (groups xs).ok (ltb (groups xs).value limit) t).0 in
    let s = r.same in let i = r.inside in
    record { same = rw (s, t) refl; inside = rw t i })
    (λ t. false-true (rw t at h))

-- ---- commands: used counts k bytes that stand before xs
record CommandStable (f : List ℕ → Decoded) (k : ℕ) (xs ys : List ℕ) : Type 0 where
  same : f (xs ++ ys) ≡ f xs
  least : k ≤ (f xs).used
  most : (f xs).used ≤ k + length xs

one-stable : (c : ℕ) (xs ys : List ℕ) → (one_number c xs).ok ≡ true → CommandStable (one_number c) 1 xs ys
unfolding one_number
one-stable c xs ys h =
    bool (number32 xs).ok
    (λ t. let r = below-stable 4294967296 xs ys t in let s = r.same in let i = r.inside in
    record { same = rw (s, t) refl; least = rw t (omega arith); most = rw t (omega arith) })
    (λ t. false-true (rw t at h))

second-stable : (c a k : ℕ) (xs ys : List ℕ) → (second_number c a k xs).ok ≡ true → CommandStable (second_number c a k) k xs ys
unfolding second_number
second-stable c a k xs ys h =
    bool (number32 xs).ok
    (λ t. let r = below-stable 4294967296 xs ys t in let s = r.same in let i = r.inside in
    record { same = rw (s, t) refl; least = rw t (omega arith); most = rw t (omega arith) })
    (λ t. false-true (rw t at h))

two-stable : (c : ℕ) (xs ys : List ℕ) → (two_numbers c xs).ok ≡ true → CommandStable (two_numbers c) 1 xs ys
unfolding two_numbers
two-stable c xs ys h =
    bool (number32 xs).ok
    (λ t. let r = below-stable 4294967296 xs ys t in let s = r.same in let i = r.inside in
    let u = (number32 xs).used in
    let q = second-stable c (number32 xs).value (1 + u) (drop u xs) ys (rw t at h) in
    let q₀ = q.same in let q₁ = q.least in let q₂ = q.most in let l = length-drop u xs in
    record { same = rw (s, t, drop-append-le u xs ys i, q₀) refl; least = rw t (omega arith); most = rw t (omega arith) })
    (λ t. false-true (rw t at h))

value-stable : (d : Decoded) (xs ys : List ℕ) → (value_number d xs).ok ≡ true → CommandStable (value_number d) d.used xs ys
unfolding value_number
value-stable d xs ys h =
    bool (number64 xs).ok
    (λ t. let r = below-stable 18446744073709551616 xs ys t in let s = r.same in let i = r.inside in
    record { same = rw (s, t) refl; least = rw t (omega arith); most = rw t (omega arith) })
    (λ t. false-true (rw t at h))

three-stable : (c : ℕ) (xs ys : List ℕ) → (three_numbers c xs).ok ≡ true → CommandStable (three_numbers c) 1 xs ys
unfolding three_numbers two_numbers
three-stable c xs ys h =
    bool (two_numbers c xs).ok
    (λ t. let r = two-stable c xs ys t in let s = r.same in let a = r.least in let b = r.most in
    let u = (two_numbers c xs).used - 1 in
    let i : u ≤ length xs = omega arith in
    let q = value-stable (two_numbers c xs) (drop u xs) ys (rw t at h) in
    let q₀ = q.same in let q₁ = q.least in let q₂ = q.most in let l = length-drop u xs in
    record { same = rw (s, t, drop-append-le u xs ys i, q₀) refl; least = rw t (omega arith); most = rw t (omega arith) })
    (λ t. false-true (rw t at h))

after-stable : (c : ℕ) (xs ys : List ℕ) → (decode_after c xs).ok ≡ true → CommandStable (decode_after c) 1 xs ys
unfolding decode_after
after-stable c xs ys h =
    bool (eqb c 1)
    (λ t. let r = three-stable c xs ys (rw t at h) in record { same = rw t r.same; least = rw t r.least; most = rw t r.most })
    (λ t. bool (eqb c 0 || ((leb 4 c && leb c 8) || eqb c 11))
    (λ u. let r = two-stable c xs ys (rw (t, u) at h) in record {
      same = rw (t, u) r.same;
      least = rw (t, u) r.least;
      most = rw (t, u) r.most;
    })
    (λ u. bool (eqb c 10 || eqb c 12)
    (λ v. let r = one-stable c xs ys (rw (t, u, v) at h) in
    record { same = rw (t, u, v) r.same; least = rw (t, u, v) r.least; most = rw (t, u, v) r.most })
    (λ v. bool (eqb c 2 || (eqb c 3 || eqb c 9))
    (λ w. record { same = rw (t, u, v, w) refl; least = rw (t, u, v, w) (omega arith); most = rw (t, u, v, w) (omega arith) })
    (λ w. false-true (rw (t, u, v, w) at h)))))

-- ---- a command that is read stays the same whatever stands behind it; it takes a byte at least, and none behind
-- what was read
pub record Read (t : List ℕ) : Type 0 where
  pub same : (ys : List ℕ) → decode (t ++ ys) ≡ decode t
  pub least : 1 ≤ (decode t).used
  pub most : (decode t).used ≤ length t

pub decode-stable : (t : List ℕ) → (decode t).ok ≡ true → Read t
unfolding decode
decode-stable [] h = false-true h
decode-stable (c ∷ xs) h =
    let r = after-stable c xs [] h in let a = r.most in
    record { same = λ ys. (after-stable c xs ys h).same; least = r.least; most = omega arith }
