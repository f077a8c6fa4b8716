-- Laws of the definitions, which callers cite in place of their text: choices and tests, parts of a memory and bytes
-- stored in it, numbers due, MAR bits, the order of use, the way that is chosen, counts, mode 0, the lines that a block
-- touches, replies. No definition of paper 01 stands here.
use Rattle.std.specs.Prelude.{ℕ, zero, suc, ◌<◌, ◌≤◌, ◌%◌, ◌/◌, ◌+◌, ◌*◌, ◌-◌, ◌^◌, Bool, true, false, ◌&&◌, List, [], ◌∷◌, map, ◌++◌, ◌≢◌, ◌↔◌, ◌⊎◌, ◌≡◌, take, ltb, leb, eqb}
use Rattle.std.proofs.Math.Bool.{cond}
use Rattle.std.proofs.Common.{inl, inr, sym, ◌∙◌, subst, mul_assoc, add-sub_of_le, le-div_iff_mul-le, length-append, length-take, length-drop, take-append-drop, get_or-append-add, length-take-le}
use Rattle.std.proofs.Math.Logic.{⊎_elim}
use Rattle.std.proofs.Math.Path.{refl, ap}
use native.Mathlib.Omega.{arith}
use Rattle.std.proofs.Math.Nat.{pow-succ', div-div-eq-div-mul, eq_of_mul-eq-mul_right, mul-le-mul_right, div-mul-le_self, lt-div-mul-add, mul-div_cancel}
use Rattle.std.proofs.Math.ListN.{length, get_or, drop, get_or-append}
use Rattle.std.proofs.lemmas.List.{length-map}
use Rattle.std.proofs.Math.Seq.{get_or-take, get_or-drop}
use borrow.Author.Tests.{ltb-true, ltb-false, lt-ltb, le-ltb, leb-true, leb-false, le-leb, lt-leb, eqb-true, eqb-false, eq-eqb, ne_eqb}
use Rattle.model.specs.Basics.{each}
use Rattle.model.specs.Bytes.{splice, part, stored, little, little_bytes}
use Rattle.model.specs.Memories.{external_base, cache_size, is_mode}
use Rattle.model.specs.Lines.{Permutation2, Permutation4, in_front, without, used2, used4, l1d_get, l2_get}
use Rattle.model.specs.Records.{State, l2_sets_of, mode0, covers, mar_bit, counted}
use Rattle.model.specs.Ways.{lowest_invalid, l1d_victim, l2_victim}
use Rattle.model.specs.Modes.{smaller}
use Rattle.model.specs.Refusals.{lowest_due, unless, place_ok, lent_due}
use Rattle.model.specs.Unaligned.{bytes_placed}
use Rattle.model.specs.Transfers.{transferred_in}
use Rattle.model.specs.Commands.{block_end, lines_touched, each_l2, unless_mode0}
use Rattle.model.specs.Calls.{Reply, replied, refused, carried_out, command_due, read_done, write_done, command_state, accepted, step, call, unaligned_due_in, read_unaligned_done, write_unaligned_done, read_unaligned_step, write_unaligned_step, read_unaligned_call, write_unaligned_call, transfer_due_in, transfer_in_step, transfer_in_call}
use Rattle.model.specs.declared.Command.{Command}
use Rattle.model.specs.declared.L1dSet.{L1dSet}
use Rattle.model.specs.declared.L2Set.{L2Set}
use Rattle.model.specs.declared.Order2.{Order2}
use Rattle.model.specs.declared.Order4.{Order4}
use Rattle.model.specs.declared.Record.{Record}

-- ---- choices and tests
pub false-true {ℓ} : {A : Type ℓ} → false ≡ true → A
false-true e = let z : ◌≡◌ {A = ℕ} 0 1 = cc in absurd (omega arith)

-- each of two tests that hold together holds
pub both_true : (a b : Bool) → (a && b) ≡ true → (a ≡ true) × (b ≡ true)
both_true true b e = (refl, e)
both_true false b e = false-true e

-- each test is one of the two
pub bool {ℓ} : {A : Type ℓ} (b : Bool) → (b ≡ true → A) → (b ≡ false → A) → A
bool true f g = f refl
bool false f g = g refl

-- what holds of each branch, under its test, holds of the choice
pub cond-elim {ℓ κ} : {A : Type ℓ} (P : A → Type κ) (b : Bool) (x y : A) → (b ≡ true → P x) → (b ≡ false → P y) → P (cond b x y)
cond-elim P true x y f g = f refl
cond-elim P false x y f g = g refl

-- the same of two choices by one test
pub cond_both {ℓ κ μ} : {A : Type ℓ} {B : Type κ} (R : A → B → Type μ) (b : Bool) (x y : A) (u v : B) → (b ≡ true → R x u) → (b ≡ false → R y v) →
    R (cond b x y) (cond b u v)
cond_both R true x y u v f g = f refl
cond_both R false x y u v f g = g refl

pub cond-true {ℓ} : {A : Type ℓ} (b : Bool) (x y : A) → b ≡ true → x ≡ cond b x y
cond-true b x y e = rw e refl

pub cond-false {ℓ} : {A : Type ℓ} (b : Bool) (x y : A) → b ≡ false → y ≡ cond b x y
cond-false b x y e = rw e refl

-- a list is as long as what a map makes of it: what is known of an array of structs is known of its mapped list
pub unmapped {ℓ κ} : {A : Type ℓ} {B : Type κ} (f : A → B) (xs : List A) (n : ℕ) → length (map f xs) ≡ n → length xs ≡ n
unmapped f xs n h = sym (length-map xs f) ∙ h

-- ---- laws of the guards
pub part-inside : (m : List ℕ) (a n : ℕ) → a + n ≤ length m → part m a n ≡ take n (drop a m)
unfolding part
part-inside m a n h = rw (le-leb (a + n) (length m) h) refl

pub stored-inside : (m : List ℕ) (a : ℕ) (bs : List ℕ) → a + length bs ≤ length m → stored m a bs ≡ splice m a bs
unfolding stored
stored-inside m a bs h = rw (le-leb (a + length bs) (length m) h) refl

pub stored-outside : (m : List ℕ) (a : ℕ) (bs : List ℕ) → length m < a + length bs → stored m a bs ≡ m
unfolding stored
stored-outside m a bs h = rw (lt-leb (a + length bs) (length m) h) refl

pub length_part : (m : List ℕ) (a n : ℕ) → a + n ≤ length m → length (part m a n) ≡ n
length_part m a n h = rw (part-inside m a n h) (simp (length-take, length-drop) (omega arith))

pub length-splice : (m bs : List ℕ) (a : ℕ) → a + length bs ≤ length m → length (splice m a bs) ≡ length m
unfolding splice
length-splice m bs a h = simp (length-append, length-take, length-drop) (omega arith)

pub length-stored : (m bs : List ℕ) (a : ℕ) → length (stored m a bs) ≡ length m
unfolding stored
length-stored m bs a =
    bool (leb (a + length bs) (length m))
    (λ e. rw e (length-splice m bs a (leb-true (a + length bs) (length m) e)))
    (λ e. rw e refl)

pub length-little_bytes : (v n : ℕ) → length (little_bytes v n) ≡ n
unfolding little_bytes
length-little_bytes v zero = refl
length-little_bytes v (suc n) = ap suc (length-little_bytes (v / 256) n)

-- nothing stored changes nothing
pub stored-none : (m : List ℕ) (a : ℕ) → stored m a [] ≡ m
unfolding stored splice
stored-none m a =
    bool (leb (a + length {A = ℕ} []) (length m))
    (λ e. let h = leb-true (a + length {A = ℕ} []) (length m) e in
    let z : a + length {A = ℕ} [] ≡ a = omega arith in
    rw (e, z) (take-append-drop a m))
    (λ e. rw e refl)

-- ---- what each byte is after bytes were put into a memory, and in a part of it
get_d_past : (xs ys : List ℕ) (i : ℕ) → length xs ≤ i → get_or (xs ++ ys) i 0 ≡ get_or ys (i - length xs) 0
get_d_past xs ys i h = ap (λ (k : ℕ). get_or (xs ++ ys) k 0) (sym (add-sub_of_le h)) ∙ get_or-append-add xs ys (i - length xs) 0

module _ (m bs : List ℕ) (a i : ℕ) (fits : a + length bs ≤ length m) where
  front : length (take a m) ≡ a
  front = length-take-le a m (omega arith)

  pub stored-before : i < a → get_or (stored m a bs) i 0 ≡ get_or m i 0
  unfolding splice
  stored-before h =
      let f = front in
      rw (stored-inside m a bs fits) (get_or-append (take a m) (bs ++ drop (a + length bs) m) 0 i (omega arith) ∙ get_or-take a m i 0 h)

  pub stored-in : a ≤ i → i < a + length bs → get_or (stored m a bs) i 0 ≡ get_or bs (i - a) 0
  unfolding splice
  stored-in h k =
      let f = front in
      rw (stored-inside m a bs fits)
      (get_d_past (take a m) (bs ++ drop (a + length bs) m) i (omega arith)
      ∙ rw front (get_or-append bs (drop (a + length bs) m) 0 (i - a) (omega arith)))

  pub stored-after : a + length bs ≤ i → get_or (stored m a bs) i 0 ≡ get_or m i 0
  unfolding splice
  stored-after h =
      let f = front in
      rw (stored-inside m a bs fits)
      (get_d_past (take a m) (bs ++ drop (a + length bs) m) i (omega arith)
      ∙ rw front (get_d_past bs (drop (a + length bs) m) (i - a) (omega arith))
      ∙ get_or-drop (a + length bs) m (i - a - length bs) 0
      ∙ ap (λ (k : ℕ). get_or m k 0) (omega arith))

pub part_at : (m : List ℕ) (a n i : ℕ) → a + n ≤ length m → i < n → get_or (part m a n) i 0 ≡ get_or m (a + i) 0
part_at m a n i f h = rw (part-inside m a n f) (get_or-take n (drop a m) i 0 h ∙ get_or-drop a m i 0)

-- ---- no number is due: the test of each holds
pub lowest_due-none : (b : Bool) (n k : ℕ) → lowest_due (unless b (suc n)) k ≡ 0 → (b ≡ true) × (k ≡ 0)
lowest_due-none true n k e = (refl, e)
lowest_due-none false n k e = absurd (omega arith)

pub unless-none : (b : Bool) (n : ℕ) → unless b (suc n) ≡ 0 → b ≡ true
unless-none true n e = refl
unless-none false n e = absurd (omega arith)

-- ---- the bit of an external address, as the code asks for it: in the first 16 MiB or behind them
pub mar-bit : (r : Record) (a : ℕ) → external_base ≤ a → mar_bit r a ≡ cond (ltb a (129 * 0x1000000)) r.mar128 r.mar129
unfolding mar_bit covers
mar-bit r a h =
    bool (ltb a (129 * 0x1000000))
    (λ t. let l = ltb-true a (129 * 0x1000000) t in rw (t, eq-eqb (a / 0x1000000) 128 (omega arith)) refl)
    (λ t. let l = ltb-false a (129 * 0x1000000) t in rw (t, ne_eqb (a / 0x1000000) 128 (omega arith)) refl)

-- ---- laws of the order: the cases by which the code moves a way to the front, whatever the order
pub used2-cases : (o : Order2) (w : ℕ) → used2 o w ≡ cond (eqb o.first w) o (record { first = w; second = o.first })
unfolding used2 in_front without
used2-cases o w =
    bool (eqb o.first w) (λ e. let m = eqb-true o.first w e in rw (e, ← m) refl)
    (λ e. rw e refl)

pub used4-cases : (o : Order4) (w : ℕ) → used4 o w ≡
    cond (eqb o.first w) o
    (cond (eqb o.second w) (record { first = w; second = o.first; third = o.third; fourth = o.fourth })
    (cond (eqb o.third w) (record { first = w; second = o.first; third = o.second; fourth = o.fourth })
    (record { first = w; second = o.first; third = o.second; fourth = o.third })))
unfolding used4 in_front without
used4-cases o w =
    bool (eqb o.first w) (λ e. let m = eqb-true o.first w e in rw (e, ← m) refl)
    (λ e. bool (eqb o.second w) (λ f. rw (e, f) refl)
    (λ f. bool (eqb o.third w) (λ g. rw (e, f, g) refl)
    (λ g. rw (e, f, g) refl)))

-- a permutation stays one
pub used2-permutation : (o : Order2) (w : ℕ) → w < 2 → Permutation2 o → Permutation2 (used2 o w)
used2-permutation o w h p = rw (used2-cases o w) (go (eqb o.first w) refl)
  where
    go : (b : Bool) → eqb o.first w ≡ b → Permutation2 (cond b o (record { first = w; second = o.first }))
    go true e = p
    go false e = let n = eqb-false o.first w e in omega arith

-- a way put in front of three others, all apart
in-front : (w a b c : ℕ) → w < 4 → a < 4 → b < 4 → c < 4 → a ≢ w → b ≢ w → c ≢ w → a ≢ b → a ≢ c → b ≢ c →
    Permutation4 (record { first = w; second = a; third = b; fourth = c })
in-front w a b c hw ha hb hc aw bw cw ab ac bc =
    record {
      below1 = hw;
      below2 = ha;
      below3 = hb;
      below4 = hc;
      apart12 = λ q. aw (sym q);
      apart13 = λ q. bw (sym q);
      apart14 = λ q. cw (sym q);
      apart23 = ab;
      apart24 = ac;
      apart34 = bc;
    }

pub used4-permutation : (o : Order4) (w : ℕ) → w < 4 → Permutation4 o → Permutation4 (used4 o w)
used4-permutation o w h p = rw (used4-cases o w) (go (eqb o.first w) refl (eqb o.second w) refl (eqb o.third w) refl)
  where
    go : (x : Bool) → eqb o.first w ≡ x → (y : Bool) → eqb o.second w ≡ y → (z : Bool) → eqb o.third w ≡ z →
        Permutation4 (cond x o
        (cond y (record { first = w; second = o.first; third = o.third; fourth = o.fourth })
        (cond z (record { first = w; second = o.first; third = o.second; fourth = o.fourth })
        (record { first = w; second = o.first; third = o.second; fourth = o.third }))))
    go true e y f z g = p
    go false e true f z g =
        let m = eqb-true o.second w f in
        in-front w o.first o.third o.fourth h p.below1 p.below3 p.below4
        (eqb-false o.first w e) (λ q. p.apart23 (m ∙ sym q)) (λ q. p.apart24 (m ∙ sym q)) p.apart13 p.apart14 p.apart34
    go false e false f true g =
        let k = eqb-true o.third w g in
        in-front w o.first o.second o.fourth h p.below1 p.below2 p.below4
        (eqb-false o.first w e) (eqb-false o.second w f) (λ q. p.apart34 (k ∙ sym q)) p.apart12 p.apart14 p.apart24
    go false e false f false g =
        in-front w o.first o.second o.third h p.below1 p.below2 p.below3
        (eqb-false o.first w e) (eqb-false o.second w f) (eqb-false o.third w g) p.apart12 p.apart13 p.apart23

-- what `touch` ensures, from the equation alone
pub kept2 : {o r : Order2} {w : ℕ} → r ≡ used2 o w → (r ≡ used2 o w) × (w < 2 → Permutation2 o → Permutation2 r)
kept2 {o} {r} {w} e = (e, λ h p. subst Permutation2 (sym e) (used2-permutation o w h p))

pub kept4 : {o r : Order4} {w : ℕ} → r ≡ used4 o w → (r ≡ used4 o w) × (w < 4 → Permutation4 o → Permutation4 r)
kept4 {o} {r} {w} e = (e, λ h p. subst Permutation4 (sym e) (used4-permutation o w h p))

-- of a permutation the remainder in the two victims says nothing: "else the last in order"
pub l1d-victim : (v : L1dSet) → Permutation2 v.order → l1d_victim v ≡ lowest_invalid (l1d_get v) 2 0 v.order.second
unfolding l1d_victim
l1d-victim v p = let h = p.below2 in let e : v.order.second % 2 ≡ v.order.second = omega arith in rw e refl

pub l2-victim : (v : L2Set) → Permutation4 v.order → l2_victim v ≡ lowest_invalid (l2_get v) 4 0 v.order.fourth
unfolding l2_victim
l2-victim v p = let h = p.below4 in let e : v.order.fourth % 4 ≡ v.order.fourth = omega arith in rw e refl

-- ---- the count of dirty lines by cases: a line that stays dirty or clean, one that becomes clean, one that becomes
-- dirty
module _ (most n : ℕ) (d e : Bool) where
  pub counted_same : d ≡ e → counted most d e n ≡ n
  unfolding counted
  counted_same q = rw q (bool e (λ t. rw t refl) (λ t. rw t refl))

  pub counted-less : d ≡ true → e ≡ false → counted most d e n ≡ n - 1
  unfolding counted
  counted-less q r = rw (q, r) refl

  pub counted-more : d ≡ false → e ≡ true → n < most → counted most d e n ≡ n + 1
  unfolding counted
  counted-more q r h = rw (q, r, lt-ltb n most h) refl

  pub counted-full : d ≡ false → e ≡ true → most ≤ n → counted most d e n ≡ n
  unfolding counted
  counted-full q r h = rw (q, r, le-ltb n most h) refl

-- ---- L2 has no sets in mode 0, and some in every other
mode0-of : (m : ℕ) → cond (is_mode m) (eqb m 0) true ≡ eqb (cache_size m / 512) 0
unfolding is_mode cache_size
mode0-of m =
    bool (eqb m 1) (λ t. rw (eqb-true m 1 t) refl)
    (λ n₁. bool (eqb m 2) (λ t. rw (eqb-true m 2 t) refl)
    (λ n₂. bool (eqb m 3) (λ t. rw (eqb-true m 3 t) refl)
    (λ n₃. bool (eqb m 7) (λ t. rw (eqb-true m 7 t) refl)
    (λ n₇. bool (leb m 3)
    (λ t. let a = eqb-false m 1 n₁ in let b = eqb-false m 2 n₂ in let c = eqb-false m 3 n₃ in let l = leb-true m 3 t in
    let e : m ≡ 0 = omega arith in rw e refl)
    (λ t. rw (n₁, n₂, n₃, n₇, t) refl)))))

pub mode0-sets : (r : Record) → mode0 r ≡ eqb (l2_sets_of r) 0
unfolding mode0
mode0-sets r = mode0-of r.mode

-- so the ways that a loop goes through are none in mode 0
pub no-ways : (f : ℕ → ℕ → State → State) (z : State) → unless_mode0 (each_l2 f) z ≡ each_l2 f z
unfolding unless_mode0 each_l2 each
no-ways f z =
    bool (mode0 z.rec)
    (λ e. let n = eqb-true (l2_sets_of z.rec) 0 (sym (mode0-sets z.rec) ∙ e) in rw (e, n) refl) (λ e. rw e refl)

-- ---- "It touches each line with a byte in it": the lines that `each_touched` goes through are those and no others
abbrev pub GoneThrough : (n b c l : ℕ) → Type 0
GoneThrough n b c l = (k : ℕ) × (k < lines_touched n b c) × (l * n ≡ (b / n + k) * n)

abbrev pub HasByte : (n b c l : ℕ) → Type 0
HasByte n b c l = (x : ℕ) × (b ≤ x) × (x < block_end b c) × (x / n ≡ l)

-- a block of no words has no byte; the end of any other lies after its base
block-end : (b c : ℕ) → b < 0x100000000 → ((c ≡ 0) × (block_end b c ≡ b)) ⊎ ((c ≢ 0) × (b < block_end b c))
unfolding block_end smaller
block-end b c low =
    bool (eqb c 0)
    (λ t. let e = eqb-true c 0 t in
    let f : b + c * 4 ≡ b = omega arith in
    let g : leb b 0x100000000 ≡ true = le-leb b 0x100000000 (omega arith) in
    inl (e, rw (f, g) refl))
    (λ t. let e = eqb-false c 0 t in
    let more : b < cond (leb (b + c * 4) 0x100000000) (b + c * 4) 0x100000000 =
    cond-elim (λ (y : ℕ). b < y) (leb (b + c * 4) 0x100000000) (b + c * 4) 0x100000000 (λ _. omega arith) (λ _. low) in
    inr (e, more))

module _ (n b c l : ℕ) (some : 0 < n) (low : b < 0x100000000) where
  quotient_le : (x y : ℕ) → x ≤ y → x / n ≤ y / n
  quotient_le x y k = let d = div-mul-le_self x n in let g : x / n * n ≤ y = omega arith in (le-div_iff_mul-le some).1 g

  byte-in : (k : ℕ) → k < lines_touched n b c → l ≡ b / n + k → HasByte n b c l
  unfolding lines_touched
  byte-in k h e =
      ⊎_elim
      (λ p. let z : k < 0 = rw (eq-eqb c 0 p.0) at h in absurd (omega arith))
      (λ p. let u : k < (block_end b c - 1) / n - b / n + 1 = rw (ne_eqb c 0 p.0) at h in
      let g = p.1 in
      let last : b / n ≤ (block_end b c - 1) / n = quotient_le b (block_end b c - 1) (omega arith) in
      bool (eqb k 0)
      (λ t. let i = eqb-true k 0 t in (b, omega arith, g, omega arith))
      (λ t. let i = eqb-false k 0 t in
      let m : (b / n + 1) * n ≤ l * n = mul-le-mul_right n (omega arith) in
      let o : (b / n + 1) * n ≡ b / n * n + n = omega arith in
      let f = lt-div-mul-add {a = b} some in
      let m' : l * n ≤ (block_end b c - 1) / n * n = mul-le-mul_right n (omega arith) in
      let d = div-mul-le_self (block_end b c - 1) n in
      (l * n, omega arith, omega arith, mul-div_cancel l some)))
      (block-end b c low)

  pub touched-lines : GoneThrough n b c l ↔ HasByte n b c l
  unfolding lines_touched
  touched-lines = (
    λ g. byte-in g.0 g.1 (eq_of_mul-eq-mul_right n some l (b / n + g.0) g.2),
    λ g. let x = g.0 in let from = g.1 in let to = g.2 in let e = g.3 in
        ⊎_elim
        (λ p. let z = p.1 in absurd (omega arith))
        (λ p. let f = quotient_le b x from in
        let t = quotient_le x (block_end b c - 1) (omega arith) in
        let i : b / n + (l - b / n) ≡ l = omega arith in
        let u : l - b / n < cond (eqb c 0) 0 ((block_end b c - 1) / n - b / n + 1) = rw (ne_eqb c 0 p.0) (omega arith) in
        (l - b / n, u, rw i refl))
        (block-end b c low),
  )

-- 02, U1: the block of a transfer has the transfer's bytes and no others, so that it touches the lines that these do
pub transfer-block : (a n : ℕ) → n % 4 ≡ 0 → a + n ≤ 0x100000000 → block_end a (n / 4) ≡ a + n
unfolding block_end smaller
transfer-block a n w h =
    let e : a + n / 4 * 4 ≡ a + n = omega arith in rw (e, le-leb (a + n) 0x100000000 h) refl

-- ---- 02, U6: the bytes of a non-aligned access are placed one by one where they are placed together
one_more : (s e k a : ℕ) → s + suc (suc k) ≤ external_base →
    (place_ok s e (suc k) a && place_ok s e 1 (a + suc k)) ≡ place_ok s e (suc (suc k)) a
unfolding place_ok
one_more s e k a h =
    bool (ltb a external_base)
    (λ t. let t' = ltb-true a external_base t in
    bool (leb (a + suc (suc k)) s)
    (λ u. let u' = leb-true (a + suc (suc k)) s u in
    rw (t, u, le-leb (a + suc k) s (omega arith), lt-ltb (a + suc k) external_base (omega arith), le-leb (a + suc k + 1) s (omega arith)) refl)
    (λ u. let u' = leb-false (a + suc (suc k)) s u in
    bool (leb (a + suc k) s)
    (λ w. let w' = leb-true (a + suc k) s w in
    rw (t, u, w, lt-ltb (a + suc k) external_base (omega arith), lt-leb (a + suc k + 1) s (omega arith)) refl)
    (λ w. rw (t, u, w) refl)))
    (λ t. let t' = ltb-false a external_base t in
    bool (leb (a + suc (suc k)) (external_base + e))
    (λ u. let u' = leb-true (a + suc (suc k)) (external_base + e) u in
    rw (
      t,
      u,
      le-leb (a + suc k) (external_base + e) (omega arith),
      le-ltb (a + suc k) external_base (omega arith),
      le-leb (a + suc k + 1) (external_base + e) (omega arith),
    ) refl)
    (λ u. let u' = leb-false (a + suc (suc k)) (external_base + e) u in
    bool (leb (a + suc k) (external_base + e))
    (λ w. let w' = leb-true (a + suc k) (external_base + e) w in
    rw (t, u, w, le-ltb (a + suc k) external_base (omega arith), lt-leb (a + suc k + 1) (external_base + e) (omega arith)) refl)
    (λ w. rw (t, u, w) refl)))

pub placed-together : (s e k a : ℕ) → s + suc k ≤ external_base → bytes_placed s e (suc k) a ≡ place_ok s e (suc k) a
unfolding bytes_placed
placed-together s e zero a h = let j : a + 0 ≡ a = omega arith in rw j refl
placed-together s e (suc k) a h = rw (placed-together s e k a (omega arith)) (one_more s e k a h)

-- the value of bytes with one more behind them; byte k of a value
pub little-behind : (bs : List ℕ) (b : ℕ) → little (bs ++ (b ∷ [])) ≡ little bs + 256 ^ length bs * b
unfolding little
little-behind [] b = omega arith
little-behind (c ∷ bs) b =
    let e : 256 ^ suc (length bs) * b ≡ 256 * (256 ^ length bs * b) = rw (pow-succ' 256 (length bs)) (mul_assoc 256 (256 ^ length bs) b) in
    rw (little-behind bs b, e) (omega arith)

pub byte_of : (v n k : ℕ) → k < n → get_or (little_bytes v n) k 0 ≡ v / 256 ^ k % 256
unfolding little_bytes
byte_of v zero k h = absurd (omega arith)
byte_of v (suc n) zero h = omega arith
byte_of v (suc n) (suc k) h =
    byte_of (v / 256) n k (omega arith) ∙ rw (pow-succ' 256 k, div-div-eq-div-mul v 256 (256 ^ k)) refl

-- ---- a command hands back no bytes: its reply is its number, server, value, report and state
abbrev told : Reply → Reply
told r = replied r.number r.server r.value r.report r.next

pub step-told : (c : Command) (z : State) → told (step c z) ≡ step c z
unfolding step accepted read_done write_done
step-told c z =
    let P : Reply → Type 0 = λ r. told r ≡ r in
    cond-elim P (eqb (command_due c z) 0) _ (refused (command_due c z) z)
    (λ _. cond-elim P (eqb c.code 0) (read_done c.first c.second z) _ (λ _. refl)
    (λ _. cond-elim P (eqb c.code 1) (write_done c.first c.second c.value z) (carried_out (command_state c z))
    (λ _. refl) (λ _. refl)))
    (λ _. refl)

pub call-told : (c : Command) (z : State) → told (call c z) ≡ call c z
unfolding call
call-told c z =
    cond-elim (λ (r : Reply). told r ≡ r) (eqb (lent_due z) 0) (step c z) (refused (lent_due z) z)
    (λ _. step-told c z) (λ _. refl)

-- nor does a non-aligned access
pub read-unaligned-told : (n a : ℕ) (z : State) → told (read_unaligned_call n a z) ≡ read_unaligned_call n a z
unfolding read_unaligned_call read_unaligned_step read_unaligned_done
read-unaligned-told n a z =
    let P : Reply → Type 0 = λ r. told r ≡ r in let d = unaligned_due_in z n a 0 in
    cond-elim P (eqb (lent_due z) 0) (read_unaligned_step n a z) (refused (lent_due z) z)
    (λ _. cond-elim P (eqb d 0) (read_unaligned_done n a z) (refused d z) (λ _. refl) (λ _. refl)) (λ _. refl)

pub write-unaligned-told : (n a v : ℕ) (z : State) → told (write_unaligned_call n a v z) ≡ write_unaligned_call n a v z
unfolding write_unaligned_call write_unaligned_step write_unaligned_done
write-unaligned-told n a v z =
    let P : Reply → Type 0 = λ r. told r ≡ r in let d = unaligned_due_in z n a v in
    cond-elim P (eqb (lent_due z) 0) (write_unaligned_step n a v z) (refused (lent_due z) z)
    (λ _. cond-elim P (eqb d 0) (write_unaligned_done n a v z) (refused d z) (λ _. refl) (λ _. refl)) (λ _. refl)

-- nor does a transfer in
pub transfer-in-told : (a : ℕ) (bs : List ℕ) (z : State) → told (transfer_in_call a bs z) ≡ transfer_in_call a bs z
unfolding transfer_in_call transfer_in_step
transfer-in-told a bs z =
    let P : Reply → Type 0 = λ r. told r ≡ r in let d = transfer_due_in z (length bs) a in
    cond-elim P (eqb (lent_due z) 0) (transfer_in_step a bs z) (refused (lent_due z) z)
    (λ _. cond-elim P (eqb d 0) (carried_out (transferred_in a bs z)) (refused d z) (λ _. refl) (λ _. refl)) (λ _. refl)
