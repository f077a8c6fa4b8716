-- 02, U7: "Reading what it wrote gives the commands back, and each trace accepted by the reader is what the writer,
-- given room, makes of its commands." Both ways go by one law of numbers, whatever their width: what stands behind a
-- number's bytes is not read, and a number that is read stands in the shortest form, the only one that is written.
use Prim.Native.Nat.{ℕ, zero, suc, ◌+◌, ◌*◌, ◌-◌, ◌^◌, ◌/◌, ◌%◌, ◌<◌, ◌≤◌}
use mathlib.Core.Bool.{Bool, true, ◌&&◌, ◌||◌}
use mathlib.Core.List.{List, [], ◌∷◌, ◌++◌, map, append_assoc}
use mathlib.Core.Path.{◌≡◌, refl, sym, ap, ◌∙◌, subst}
use native.Mathlib.Omega.{arith}
use native.Mathlib.Nat.{pow-suc, div-lt_iff_lt-mul}
use lib.ListN.{length, get_or, take, drop, length-append, take-append-drop}
use lib.Seq.{drop-append_seam, drop_at, take_at, take-add, get_or-drop, drop-drop, drop-append-add, take-append_seam}
use lib.Seq.{length-take-le}
use lib.Dec.{ltb, leb, eqb}
use borrow.Author.Tests.{ltb-true, ltb-false, lt-ltb, le-ltb, leb-true, le-leb, ne_eqb, eqb-true, eqb-false}
use Rattle.model.specs.Trace.{Number, number, groups, more_groups, number_below, number32, number64}
use Rattle.model.specs.Trace.{Decoded, decoded, command, one_number, second_number, two_numbers, value_number}
use Rattle.model.specs.Trace.{three_numbers, decode_after, decode}
use Rattle.traces.specs.Writing.{groups_of, number_bytes, numbers_taken, first_numbers, command_bytes, only_first}
use Rattle.traces.specs.Writing.{without_spare, narrow, writable, write_due, written, write_command, write_all}
use Rattle.traces.specs.Writing.{trace_bytes}
use Rattle.model.specs.Bytes.{part, stored, splice}
use Rattle.model.specs.Laws.{bool, both_true, false-true, part-inside, stored-inside, stored-none}
use Rattle.model.specs.Laws.{length-stored}
use Rattle.model.specs.declared.Command.{Command}
use Rattle.model.specs.Trace.{Whole, none, one}

-- ---- the shortest form, at the border and behind it
shortest-worked : (number_bytes 300 ≡ 0xAC ∷ 0x02 ∷ []) × (number_bytes 127 ≡ 0x7F ∷ [])
unfolding groups_of
shortest-worked = (refl, refl)

-- and a command of one number (02, U11)
freeze-worked : command_bytes (command 12 1 0 0) ≡ 12 ∷ 1 ∷ []
unfolding command_bytes first_numbers numbers_taken groups_of
freeze-worked = refl

-- ---- a number that was written is read, whatever stands behind it
small-rest : (more v : ℕ) → v < 128 ^ suc (suc more) → v / 128 < 128 ^ suc more
small-rest more v h =
    (div-lt_iff_lt-mul {k = 128} (omega arith)).1 (subst (λ (x : ℕ). v < x) (pow-suc 128 (suc more)) h)

-- one group, the last; one group before others
more-one : (v : ℕ) (bs : List ℕ) → 1 ≤ v → v < 128 → more_groups (v ∷ bs) ≡ number v 1
unfolding more_groups
more-one v bs p h = rw (lt-ltb v 128 h, ne_eqb v 0 (omega arith)) refl

one-before : (v n : ℕ) (bs : List ℕ) → more_groups bs ≡ number (v / 128) n →
    more_groups ((v % 128 + 128) ∷ bs) ≡ number v (suc n)
unfolding more_groups
one-before v n bs e =
    let z : v % 128 + 128 - 128 + 128 * (v / 128) ≡ v = omega arith in
    rw (le-ltb (v % 128 + 128) 128 (omega arith), e, z) refl

more-back : (more v : ℕ) (rest : List ℕ) → 1 ≤ v → v < 128 ^ suc more →
    more_groups (groups_of more v ++ rest) ≡ number v (length (groups_of more v))
unfolding groups_of
more-back zero v rest p h = more-one v rest p h
more-back (suc more) v rest p h =
    bool (ltb v 128)
    (λ t. rw t (more-one v rest p (ltb-true v 128 t)))
    (λ t.
    let l = ltb-false v 128 t in
    rw t (one-before v _ _ (more-back more (v / 128) rest (omega arith) (small-rest more v h))))

first-before : (v n : ℕ) (bs : List ℕ) → more_groups bs ≡ number (v / 128) n →
    groups ((v % 128 + 128) ∷ bs) ≡ number v (suc n)
unfolding groups
first-before v n bs e =
    let z : v % 128 + 128 - 128 + 128 * (v / 128) ≡ v = omega arith in
    rw (le-ltb (v % 128 + 128) 128 (omega arith), e, z) refl

groups-back : (more v : ℕ) (rest : List ℕ) → v < 128 ^ suc more →
    groups (groups_of more v ++ rest) ≡ number v (length (groups_of more v))
unfolding groups_of groups
groups-back zero v rest h = rw (lt-ltb v 128 h) refl
groups-back (suc more) v rest h =
    bool (ltb v 128)
    (λ t. rw (t, t) refl)
    (λ t.
    let l = ltb-false v 128 t in
    rw t (first-before v _ _ (more-back more (v / 128) rest (omega arith) (small-rest more v h))))

-- for every width up to ten groups
pub number-back : (limit v : ℕ) (rest : List ℕ) → limit ≤ 128 ^ 10 → v < limit →
    number_below limit (number_bytes v ++ rest) ≡ number v (length (number_bytes v))
unfolding number_below
number-back limit v rest w h = rw (groups-back 9 v rest (omega arith), lt-ltb v limit h) refl

-- ---- a number that is read stands in the shortest form
-- what a lent slice holds
abbrev pub Bytes : List ℕ → Type 0
Bytes t = (i : ℕ) → get_or t i 0 < 256

more-positive : (bs : List ℕ) → (more_groups bs).ok ≡ true → 1 ≤ (more_groups bs).value
unfolding more_groups
more-positive [] h = false-true h
more-positive (b ∷ bs) h =
    bool (ltb b 128)
    (λ t. bool (eqb b 0)
    (λ u. false-true (rw (t, u) at h))
    (λ u. let n = eqb-false b 0 u in rw (t, u) (omega arith)))
    (λ t. bool (more_groups bs).ok
    (λ u. let p = more-positive bs u in rw (t, u) (omega arith))
    (λ u. false-true (rw (t, u) at h)))

-- one group that is the last, whatever the width; one group before others
pub shortest-one : (more b : ℕ) → b < 128 → b ∷ [] ≡ groups_of more b
unfolding groups_of
shortest-one zero b h = refl
shortest-one (suc more) b h = rw (lt-ltb b 128 h) refl

shortest-before : (more b v : ℕ) (bs : List ℕ) → 128 ≤ b → b < 256 → 1 ≤ v → b - 128 + 128 * v < 128 ^ suc more →
    ((m : ℕ) → v < 128 ^ suc m → bs ≡ groups_of m v) → b ∷ bs ≡ groups_of more (b - 128 + 128 * v)
unfolding groups_of
shortest-before zero b v bs l u p h f = absurd (omega arith)
shortest-before (suc more) b v bs l u p h f =
    let w = b - 128 + 128 * v in
    let d : w / 128 ≡ v = omega arith in
    let r : w % 128 + 128 ≡ b = omega arith in
    rw (le-ltb w 128 (omega arith), d, r) (ap (λ (x : List ℕ). b ∷ x) (f more (rw d at (small-rest more w h))))

more-shortest : (bs : List ℕ) → Bytes bs → (more_groups bs).ok ≡ true → (more : ℕ) →
    (more_groups bs).value < 128 ^ suc more →
    take (more_groups bs).used bs ≡ groups_of more (more_groups bs).value
unfolding more_groups
more-shortest [] y h more l = false-true h
more-shortest (b ∷ bs) y h more l =
    bool (ltb b 128)
    (λ t. bool (eqb b 0)
    (λ u. false-true (rw (t, u) at h))
    (λ u. rw (t, u) (shortest-one more b (ltb-true b 128 t))))
    (λ t. bool (more_groups bs).ok
    (λ u.
    let g : b - 128 + 128 * (more_groups bs).value < 128 ^ suc more = rw (t, u) at l in
    rw (t, u) (shortest-before more b (more_groups bs).value (take (more_groups bs).used bs) (ltb-false b 128 t) (y 0)
    (more-positive bs u) g (more-shortest bs (λ i. y (suc i)) u)))
    (λ u. false-true (rw (t, u) at h)))

groups-shortest : (bs : List ℕ) → Bytes bs → (groups bs).ok ≡ true → (more : ℕ) → (groups bs).value < 128 ^ suc more →
    take (groups bs).used bs ≡ groups_of more (groups bs).value
unfolding groups
groups-shortest [] y h more l = false-true h
groups-shortest (b ∷ bs) y h more l =
    bool (ltb b 128)
    (λ t. rw t (shortest-one more b (ltb-true b 128 t)))
    (λ t. bool (more_groups bs).ok
    (λ u.
    let g : b - 128 + 128 * (more_groups bs).value < 128 ^ suc more = rw (t, u) at l in
    rw (t, u) (shortest-before more b (more_groups bs).value (take (more_groups bs).used bs) (ltb-false b 128 t) (y 0)
    (more-positive bs u) g (more-shortest bs (λ i. y (suc i)) u)))
    (λ u. false-true (rw (t, u) at h)))

-- for every width up to ten groups: its bytes are those that are written of its value, which is below the limit
pub record Shortest (limit : ℕ) (bs : List ℕ) (n : Number) : Type 0 where
  pub form : take n.used bs ≡ number_bytes n.value
  pub small : n.value < limit

pub number-shortest : (limit : ℕ) (bs : List ℕ) → limit ≤ 128 ^ 10 → Bytes bs → (number_below limit bs).ok ≡ true →
    Shortest limit bs (number_below limit bs)
unfolding number_below
number-shortest limit bs w y h =
    bool ((groups bs).ok && ltb (groups bs).value limit)
    (λ t.
    let p = both_true (groups bs).ok (ltb (groups bs).value limit) t in
    let l = ltb-true (groups bs).value limit p.1 in
    rw t (record { form = groups-shortest bs y p.0 9 (omega arith); small = l }))
    (λ t. false-true (rw t at h))

-- ---- a command that was written is read, whatever stands behind it
abbrev w32 : ℕ
w32 = 0x100000000

abbrev w64 : ℕ
w64 = 0x10000000000000000

module _ (c a : ℕ) (small : a < w32) where
  one-back : (rest : List ℕ) →
      one_number c (number_bytes a ++ rest) ≡ decoded (command c a 0 0) (suc (length (number_bytes a)))
  unfolding one_number
  one-back rest = rw (number-back w32 a rest (omega arith) small) (ap (decoded (command c a 0 0)) (omega arith))

  module _ (b : ℕ) (narrow : b < w32) where
    two_at : (rest : List ℕ) → two_numbers c (number_bytes a ++ (number_bytes b ++ rest))
        ≡ decoded (command c a b 0) (1 + length (number_bytes a) + length (number_bytes b))
    unfolding two_numbers second_number
    two_at rest =
        rw (
          number-back w32 a (number_bytes b ++ rest) (omega arith) small,
          drop-append_seam (number_bytes a) (number_bytes b ++ rest),
          number-back w32 b rest (omega arith) narrow,
        ) refl

    two_back : (rest : List ℕ) → two_numbers c ((number_bytes a ++ number_bytes b) ++ rest)
        ≡ decoded (command c a b 0) (suc (length (number_bytes a ++ number_bytes b)))
    two_back rest =
        ap (two_numbers c) (append_assoc (number_bytes a) (number_bytes b) rest) ∙ two_at rest
        ∙ ap (decoded (command c a b 0)) (omega (arith, length-append (number_bytes a) (number_bytes b)))

    three_back : (v : ℕ) → v < w64 → (rest : List ℕ) →
        three_numbers c ((number_bytes a ++ (number_bytes b ++ number_bytes v)) ++ rest)
        ≡ decoded (command c a b v) (suc (length (number_bytes a ++ (number_bytes b ++ number_bytes v))))
    unfolding three_numbers value_number
    three_back v fits rest =
        let xs = number_bytes a in
        let ys = number_bytes b in
        let zs = number_bytes v in
        let e : (xs ++ (ys ++ zs)) ++ rest ≡ xs ++ (ys ++ (zs ++ rest)) = simp append_assoc in
        let n : length (xs ++ ys) ≡ 1 + length xs + length ys - 1 = omega (arith, length-append xs ys) in
        let d : drop (1 + length xs + length ys - 1) (xs ++ (ys ++ (zs ++ rest))) ≡ zs ++ rest =
        ap (drop (1 + length xs + length ys - 1)) (sym (append_assoc xs ys (zs ++ rest)))
        ∙ drop_at (xs ++ ys) (zs ++ rest) (1 + length xs + length ys - 1) n in
        rw (e, two_at (zs ++ rest), d, number-back w64 v rest (omega arith) fits)
        (ap (decoded (command c a b v)) (omega (arith, length-append xs (ys ++ zs), length-append ys zs)))

pub command-back : (k : Command) (rest : List ℕ) → writable k ≡ true →
    decode (command_bytes k ++ rest) ≡ decoded (without_spare k) (length (command_bytes k))
unfolding decode decode_after command_bytes first_numbers numbers_taken only_first writable narrow
command-back k rest h =
    bool (eqb k.code 1)
    (λ t.
    let p = both_true (ltb k.first w32) (ltb k.second w32 && ltb k.value w64) (rw t at h) in
    let q = both_true (ltb k.second w32) (ltb k.value w64) p.1 in
    rw t (three_back k.code k.first (ltb-true k.first w32 p.0) k.second (ltb-true k.second w32 q.0)
    k.value (ltb-true k.value w64 q.1) rest))
    (λ t. bool (eqb k.code 0 || ((leb 4 k.code && leb k.code 8) || eqb k.code 11))
    (λ u.
    let p = both_true (ltb k.first w32) (ltb k.second w32 && true) (rw (t, u) at h) in
    let q = both_true (ltb k.second w32) true p.1 in
    rw (t, u) (two_back k.code k.first (ltb-true k.first w32 p.0) k.second
    (ltb-true k.second w32 q.0) rest))
    (λ u. bool (eqb k.code 10 || eqb k.code 12)
    (λ x.
    let p = both_true (ltb k.first w32) true (rw (t, u, x) at h) in
    rw (t, u, x) (one-back k.code k.first (ltb-true k.first w32 p.0) rest))
    (λ x. bool (eqb k.code 2 || (eqb k.code 3 || eqb k.code 9))
    (λ y. rw (t, u, x, y) refl)
    (λ y. false-true (rw (t, u, x, y) at h)))))

-- ---- a command that is read stands as it is written: d was read of bs, behind the code c, with n numbers
record Form (c n : ℕ) (bs : List ℕ) (d : Decoded) : Type 0 where
  least : 1 ≤ d.used
  code : d.found.code ≡ c
  form : take (d.used - 1) bs ≡ first_numbers n d.found
  fits : narrow n d.found ≡ true

bytes-behind : (bs : List ℕ) (u : ℕ) → Bytes bs → Bytes (drop u bs)
bytes-behind bs u y i = rw (get_or-drop u bs i 0) (y (u + i))

none-form : (c : ℕ) (bs : List ℕ) → Form c 0 bs (decoded (command c 0 0 0) 1)
unfolding first_numbers narrow
none-form c bs = record { least = omega arith; code = refl; form = refl; fits = refl }

one_form : (c : ℕ) (bs : List ℕ) → Bytes bs → (one_number c bs).ok ≡ true → Form c 1 bs (one_number c bs)
unfolding one_number first_numbers narrow
one_form c bs y h =
    bool (number32 bs).ok
    (λ t.
    let s = number-shortest w32 bs (omega arith) y t in
    let e : 1 + (number32 bs).used - 1 ≡ (number32 bs).used = omega arith in
    rw t (record {
      least = omega arith;
      code = refl;
      form = rw e s.form;
      fits = rw (lt-ltb (number32 bs).value w32 s.small) refl;
    }))
    (λ t. false-true (rw t at h))

two-form : (c : ℕ) (bs : List ℕ) → Bytes bs → (two_numbers c bs).ok ≡ true → Form c 2 bs (two_numbers c bs)
unfolding two_numbers second_number first_numbers narrow
two-form c bs y h =
    bool (number32 bs).ok
    (λ t.
    let u = (number32 bs).used in
    bool (number32 (drop u bs)).ok
    (λ x.
    let s = number-shortest w32 bs (omega arith) y t in
    let r = number-shortest w32 (drop u bs) (omega arith) (bytes-behind bs u y) x in
    let v = (number32 (drop u bs)).used in
    let e : 1 + u + v - 1 ≡ u + v = omega arith in
    rw (t, x) (record {
      least = omega arith;
      code = refl;
      form = rw (e, take-add u v bs, s.form, r.form) refl;
      fits =
          rw (
            lt-ltb (number32 bs).value w32 s.small,
            lt-ltb (number32 (drop u bs)).value w32 r.small,
          ) refl;
    }))
    (λ x. false-true (rw (t, x) at h)))
    (λ t. false-true (rw t at h))

three-form : (c : ℕ) (bs : List ℕ) → Bytes bs → (three_numbers c bs).ok ≡ true → Form c 3 bs (three_numbers c bs)
unfolding three_numbers value_number first_numbers narrow
three-form c bs y h =
    bool (two_numbers c bs).ok
    (λ t.
    let d = two_numbers c bs in
    let rest = drop (d.used - 1) bs in
    bool (number64 rest).ok
    (λ x.
    let f = two-form c bs y t in
    let l = f.least in
    let s = number-shortest w64 rest (omega arith) (bytes-behind bs (d.used - 1) y) x in
    let e : d.used + (number64 rest).used - 1 ≡ d.used - 1 + (number64 rest).used = omega arith in
    let p = both_true (ltb d.found.first w32) (ltb d.found.second w32 && true) f.fits in
    let q = both_true (ltb d.found.second w32) true p.1 in
    rw (t, x) (record {
      least = omega arith;
      code = f.code;
      form =
          rw (e, take-add (d.used - 1) (number64 rest).used bs, f.form, s.form)
          (append_assoc (number_bytes d.found.first) (number_bytes d.found.second)
          (number_bytes (number64 rest).value));
      fits = rw (p.0, q.0, lt-ltb (number64 rest).value w64 s.small) refl;
    }))
    (λ x. false-true (rw (t, x) at h)))
    (λ t. false-true (rw t at h))

-- what is read can be written, and stands as it is written
pub record AsWritten (t : List ℕ) (d : Decoded) : Type 0 where
  pub ready : writable d.found ≡ true
  pub bytes : take d.used t ≡ command_bytes d.found

as_written : (c n : ℕ) (bs : List ℕ) (d : Decoded) → Form c n bs d → n ≡ numbers_taken c → ltb n 4 ≡ true →
    AsWritten (c ∷ bs) d
unfolding writable command_bytes
as_written c n bs d f e g =
    let l = f.least in
    let z : d.used ≡ suc (d.used - 1) = omega arith in
    let k : numbers_taken d.found.code ≡ n = ap numbers_taken f.code ∙ sym e in
    record {
      ready = rw (k, g) f.fits;
      bytes = rw (z, f.form, k, f.code) refl;
    }

after-written : (c : ℕ) (bs : List ℕ) → Bytes bs → (decode_after c bs).ok ≡ true → AsWritten (c ∷ bs) (decode_after c bs)
unfolding decode_after numbers_taken
after-written c bs y h =
    bool (eqb c 1)
    (λ t. rw t (as_written c 3 bs (three_numbers c bs) (three-form c bs y (rw t at h)) (rw t refl) refl))
    (λ t. bool (eqb c 0 || ((leb 4 c && leb c 8) || eqb c 11))
    (λ u. rw (t, u) (as_written c 2 bs (two_numbers c bs) (two-form c bs y (rw (t, u) at h)) (rw (t, u) refl) refl))
    (λ u. bool (eqb c 10 || eqb c 12)
    (λ x. rw (t, u, x)
    (as_written c 1 bs (one_number c bs) (one_form c bs y (rw (t, u, x) at h)) (rw (t, u, x) refl) refl))
    (λ x. bool (eqb c 2 || (eqb c 3 || eqb c 9))
    (λ z. rw (t, u, x, z)
    (as_written c 0 bs (decoded (command c 0 0 0) 1) (none-form c bs) (rw (t, u, x, z) refl) refl))
    (λ z. false-true (rw (t, u, x, z) at h)))))

pub command-written : (t : List ℕ) → Bytes t → (decode t).ok ≡ true → AsWritten t (decode t)
unfolding decode
command-written [] y h = false-true h
command-written (c ∷ bs) y h = after-written c bs (λ i. y (suc i)) h

-- ---- whole traces
unfoldable pub all_writable : List Command → Bool
all_writable [] = true
all_writable (k ∷ ks) = writable k && all_writable ks

-- read of what was written
whole-next : (t : List ℕ) (d : Decoded) (cs : List Command) → decode t ≡ d → d.ok ≡ true →
    Whole (drop d.used t) cs → Whole t (d.found ∷ cs)
whole-next t d cs e h w =
    subst (λ (x : Decoded). x.ok ≡ true → Whole (drop x.used t) cs → Whole t (x.found ∷ cs)) e (λ k r. one k r) h w

pub written-whole : (ks : List Command) → all_writable ks ≡ true → Whole (trace_bytes ks) (map without_spare ks)
unfolding trace_bytes all_writable
written-whole [] h = none
written-whole (k ∷ ks) h =
    let p = both_true (writable k) (all_writable ks) h in
    whole-next (command_bytes k ++ trace_bytes ks) (decoded (without_spare k) (length (command_bytes k)))
    (map without_spare ks)
    (command-back k (trace_bytes ks) p.0) refl
    (rw (drop-append_seam (command_bytes k) (trace_bytes ks)) (written-whole ks p.1))

-- written of what was read
pub whole-written : {t : List ℕ} {cs : List Command} → Whole t cs → Bytes t →
    (all_writable cs ≡ true) × (trace_bytes cs ≡ t)
unfolding trace_bytes all_writable
whole-written none y = (refl, refl)
whole-written (one {t} {cs} h r) y =
    let w = command-written t y h in
    let rest = whole-written r (bytes-behind t (decode t).used y) in
    (rw w.ready rest.0, rw (rest.1, ← w.bytes) (take-append-drop (decode t).used t))

-- ---- the output: bytes put behind bytes that were put; what was put is there
module _ (m xs ys : List ℕ) (at : ℕ) (fits : at + length xs + length ys ≤ length m) where
  abbrev front : List ℕ
  front = take at m ++ xs

  front_length : length front ≡ at + length xs
  front_length = length-append (take at m) xs ∙ ap (λ (n : ℕ). n + length xs) (length-take-le at m (omega arith))

  pub stored-join : stored (stored m at xs) (at + length xs) ys ≡ stored m at (xs ++ ys)
  unfolding splice
  stored-join =
      let l = length-append xs ys in
      let n = length-stored m xs at in
      let p : stored m at xs ≡ front ++ drop (at + length xs) m =
      stored-inside m at xs (omega arith) ∙ sym (append_assoc (take at m) xs (drop (at + length xs) m)) in
      let e : at + length xs + length ys ≡ at + length (xs ++ ys) = omega arith in
      let d : drop (at + length xs + length ys) (front ++ drop (at + length xs) m) ≡ drop (at + length (xs ++ ys)) m =
      ap (λ (n : ℕ). drop (n + length ys) (front ++ drop (at + length xs) m)) (sym front_length)
      ∙ drop-append-add front (drop (at + length xs) m) (length ys)
      ∙ drop-drop (length ys) (at + length xs) m
      ∙ ap (λ (n : ℕ). drop n m) e in
      stored-inside (stored m at xs) (at + length xs) ys (omega arith)
      ∙ rw (p, take_at front (drop (at + length xs) m) (at + length xs) front_length, d)
      (simp append_assoc refl)
      ∙ sym (stored-inside m at (xs ++ ys) (omega arith))

pub part-stored : (m xs : List ℕ) (at : ℕ) → at + length xs ≤ length m → part (stored m at xs) at (length xs) ≡ xs
unfolding splice
part-stored m xs at h =
    let n = length-stored m xs at in
    let rest = drop (at + length xs) m in
    part-inside (stored m at xs) at (length xs) (omega arith)
    ∙ rw (stored-inside m at xs h, drop_at (take at m) (xs ++ rest) at (length-take-le at m (omega arith)))
    (take-append_seam xs rest)

-- ---- one command, then a list of them, on the output
module _ (m : List ℕ) (at : ℕ) (k : Command) where
  pub write-accepted : writable k ≡ true → at + length (command_bytes k) ≤ length m →
      write_command m at k ≡ written 0 (at + length (command_bytes k)) (stored m at (command_bytes k))
  unfolding write_command write_due
  write-accepted w h = rw (w, le-leb (at + length (command_bytes k)) (length m) h) refl

  accepted-fits : (write_command m at k).number ≡ 0 → (writable k ≡ true) × (at + length (command_bytes k) ≤ length m)
  unfolding write_command write_due
  accepted-fits h =
      bool (writable k)
      (λ t. bool (leb (at + length (command_bytes k)) (length m))
      (λ u. (t, leb-true (at + length (command_bytes k)) (length m) u))
      (λ u. absurd (let z : ◌≡◌ {A = ℕ} 16 0 = rw (t, u) at h in omega arith)))
      (λ t. absurd (let z : ◌≡◌ {A = ℕ} 11 0 = rw t at h in omega arith))

-- an accepted list can be written, has room, and is there
pub record AllWritten (m : List ℕ) (at : ℕ) (ks : List Command) : Type 0 where
  pub ready : all_writable ks ≡ true
  pub room : length (trace_bytes ks) ≤ length m - at
  pub done : write_all m at ks ≡ written 0 (at + length (trace_bytes ks)) (stored m at (trace_bytes ks))

-- a command in front of a list that is there
written_next : (m : List ℕ) (at : ℕ) (k : Command) (ks : List Command) → writable k ≡ true →
    at + length (command_bytes k) ≤ length m →
    AllWritten (stored m at (command_bytes k)) (at + length (command_bytes k)) ks →
    AllWritten m at (k ∷ ks)
unfolding write_all trace_bytes all_writable
written_next m at k ks w h r =
    let l = length-append (command_bytes k) (trace_bytes ks) in
    let n = length-stored m (command_bytes k) at in
    let f = r.room in
    record {
      ready = rw w r.ready;
      room = omega arith;
      done =
          rw (write-accepted m at k w h) (r.done
          ∙ rw (stored-join m (command_bytes k) (trace_bytes ks) at (omega arith))
          (ap (λ (x : ℕ). written 0 x (stored m at (command_bytes k ++ trace_bytes ks))) (omega arith)));
    }

none_written : (m : List ℕ) (at : ℕ) → AllWritten m at []
unfolding write_all trace_bytes all_writable
none_written m at =
    record {
      ready = refl;
      room = omega arith;
      done = rw (stored-none m at) (ap (λ (x : ℕ). written 0 x m) (omega arith));
    }

pub accepted-written : (m : List ℕ) (at : ℕ) (ks : List Command) → (write_all m at ks).number ≡ 0 → AllWritten m at ks
unfolding write_all
accepted-written m at [] h = none_written m at
accepted-written m at (k ∷ ks) h =
    bool (eqb (write_command m at k).number 0)
    (λ t.
    let p = accepted-fits m at k (eqb-true (write_command m at k).number 0 t) in
    let e = write-accepted m at k p.0 p.1 in
    let r : (write_all (stored m at (command_bytes k)) (at + length (command_bytes k)) ks).number ≡ 0 = rw e at h in
    written_next m at k ks p.0 p.1
    (accepted-written (stored m at (command_bytes k)) (at + length (command_bytes k)) ks r))
    (λ t. absurd (eqb-false (write_command m at k).number 0 t (rw t at h)))

pub given-room : (m : List ℕ) (at : ℕ) (ks : List Command) → all_writable ks ≡ true →
    at + length (trace_bytes ks) ≤ length m →
    AllWritten m at ks
unfolding trace_bytes all_writable
given-room m at [] w h = none_written m at
given-room m at (k ∷ ks) w h =
    let p = both_true (writable k) (all_writable ks) w in
    let l = length-append (command_bytes k) (trace_bytes ks) in
    let n = length-stored m (command_bytes k) at in
    written_next m at k ks p.0 (omega arith)
    (given-room (stored m at (command_bytes k)) (at + length (command_bytes k)) ks p.1 (omega arith))

-- ---- 02, U7
pub record WritingTraces : Type 0 where
  -- "Reading what it wrote gives the commands back": from the point where it began up to the one it has reached
  pub read_back : (m : List ℕ) (at : ℕ) (ks : List Command) → (write_all m at ks).number ≡ 0 →
      Whole (part (write_all m at ks).out at ((write_all m at ks).at - at)) (map without_spare ks)
  -- "each trace accepted by the reader is what the writer, given room, makes of its commands."
  pub made-of-commands : (t m : List ℕ) (at : ℕ) (ks : List Command) → Bytes t → Whole t ks → at + length t ≤ length m →
      write_all m at ks ≡ written 0 (at + length t) (stored m at t)

part-there : (m t : List ℕ) (at : ℕ) → length t ≤ length m - at → part (stored m at t) at (length t) ≡ t
unfolding part
part-there m [] at h = bool (leb (at + length {A = ℕ} []) (length (stored m at []))) (λ e. rw e refl) (λ e. rw e refl)
part-there m (b ∷ t) at h = part-stored m (b ∷ t) at (omega arith)

pub writing-traces : WritingTraces
writing-traces =
    record {
      read_back = λ m at ks h.
          let w = accepted-written m at ks h in
          let e : at + length (trace_bytes ks) - at ≡ length (trace_bytes ks) = omega arith in
          rw (w.done, e, part-there m (trace_bytes ks) at w.room) (written-whole ks w.ready);
      made-of-commands = λ t m at ks y w h.
          let f = whole-written w y in
          let e = f.1 in
          rw ((given-room m at ks f.0 (rw e h)).done, e) refl;
    }
