-- 02, U9: the trace of a load decodes to its n accesses; none of them is refused; behind the trace no byte changes,
-- and with a refusal none at all. Every access can be written, since its address lies in external memory and its word
-- has 32 bits; so, given room, the trace is what the writer makes of the accesses, and U7's theorem reads it back.
use Prim.Native.Nat.{ℕ, zero, suc, ◌+◌, ◌*◌, ◌-◌, ◌/◌, ◌%◌, ◌<◌, ◌≤◌}
use mathlib.Core.Bool.{true, false, ◌&&◌}
use mathlib.Core.List.{List, [], ◌∷◌, ◌++◌, map}
use mathlib.Core.Logic.{◌≢◌}
use mathlib.Core.Path.{◌≡◌, refl, ap, ◌∙◌}
use native.Mathlib.Omega.{arith}
use native.Mathlib.Nat.{mod-lt}
use lib.ListN.{length, get_or, replicate, length-append}
use lib.Dec.{ltb, leb, eqb}
use borrow.Author.Tests.{lt-ltb, le-ltb, leb-true, le-leb, eqb-true, eqb-false, eq-eqb, ne_eqb}
use Rattle.model.specs.Bytes.{part, stored, splice}
use Rattle.model.specs.Laws.{bool, both_true, stored-after}
use Rattle.model.specs.Memories.{legal_external}
use Rattle.model.specs.Refusals.{size_ok, place_ok, value_ok, access_due}
use Rattle.model.specs.Trace.{Whole, command}
use Rattle.traces.specs.Writing.{groups_of, number_bytes, numbers_taken, first_numbers, command_bytes, only_first}
use Rattle.traces.specs.Writing.{without_spare, narrow, writable, write_due, Written, written, write_command}
use Rattle.traces.specs.Writing.{write_all, trace_bytes}
use Rattle.traces.specs.Load.{sum32, places_back, next_word, words, word, load_address, access_of, accesses_from}
use Rattle.traces.specs.Load.{accesses, load_bytes, load_due, Loaded, loaded, load_trace}
use Rattle.traces.proofs.Writing.{all_writable, given-room, writing-traces}

-- ---- words worked out, and the first accesses of seed 0 with E = 128: two reads and a write. The numbers are those
-- that the sentences of 02 give (oracle/ has the same ones in its tests).
pub words-worked : map (word 0) (1 ∷ 2 ∷ 55 ∷ 56 ∷ 80 ∷ 111 ∷ 160 ∷ [])
    ≡ 0 ∷ 0x9E3779B9 ∷ 0x5FB3AD06 ∷ 0x28B7BD67 ∷ 0xFDEB26BF ∷ 0x212FE053 ∷ 0x3206B52D ∷ []
unfolding words next_word
words-worked = refl

pub accesses-worked : accesses 0 128 3
    ≡ command 0 4 0x8000001C 0 ∷ command 0 4 0x80000064 0 ∷ command 1 4 0x8000002C 0xA195A44B ∷ []
unfolding words next_word accesses_from access_of
accesses-worked = refl

-- its trace in an output of a byte more; 16 where there is a byte too few, and 1, which comes first
abbrev three : List ℕ
three =
    0 ∷ 4 ∷ 0x9C ∷ 0x80 ∷ 0x80 ∷ 0x80 ∷ 8 ∷ 0 ∷ 4 ∷ 0xE4 ∷ 0x80 ∷ 0x80 ∷ 0x80 ∷ 8 ∷ 1 ∷ 4 ∷ 0xAC ∷ 0x80 ∷ 0x80 ∷ 0x80
    ∷ 8 ∷ 0xCB ∷ 0xC8 ∷ 0xD6 ∷ 0x8C ∷ 10 ∷ []

pub loads-worked : map (λ (x : ℕ × ℕ × ℕ). load_trace 0 x.0 x.1 (replicate x.2 7))
    ((128, 3, 27) ∷ (128, 3, 25) ∷ (127, 3, 25) ∷ (128, 0, 0) ∷ [])
    ≡ loaded 0 26 (three ++ (7 ∷ [])) ∷ loaded 16 0 (replicate 25 7) ∷ loaded 1 0 (replicate 25 7) ∷ loaded 0 0 [] ∷ []
unfolding
    words next_word accesses_from access_of load_due load_trace legal_external stored splice
    write_all write_command write_due writable narrow trace_bytes command_bytes first_numbers numbers_taken groups_of
loads-worked = refl

-- ---- which access a word of 32 bits gives
pub read-access : (e w : ℕ) → w < 0x80000000 → command 0 4 (load_address e w) 0 ≡ access_of e w
unfolding access_of
read-access e w h = rw (ne_eqb (w / 0x80000000 % 2) 1 (omega arith)) refl

pub write-access : (e w : ℕ) → 0x80000000 ≤ w → w < 0x100000000 → command 1 4 (load_address e w) w ≡ access_of e w
unfolding access_of
write-access e w h g = rw (eq-eqb (w / 0x80000000 % 2) 1 (omega arith)) refl

-- ---- it lies in external memory
pub record Legal (e : ℕ) : Type 0 where
  pub low : 128 ≤ e
  pub high : e ≤ 33554432
  pub whole : e % 128 ≡ 0

pub legal : (e : ℕ) → legal_external e ≡ true → Legal e
unfolding legal_external
legal e h =
    let p = both_true (eqb (e % 128) 0) (leb 128 e && leb e 33554432) h in
    let q = both_true (leb 128 e) (leb e 33554432) p.1 in
    record {
      low = leb-true 128 e q.0;
      high = leb-true e 33554432 q.1;
      whole = eqb-true (e % 128) 0 p.0;
    }

module _ (e w : ℕ) (l : Legal e) where
  pub offset-inside : w % (e / 4) * 4 + 4 ≤ e
  offset-inside =
      let a = l.low in
      let b = l.whole in
      let q : 0 < e / 4 = omega arith in
      let r = mod-lt w q in
      omega arith

  pub address-small : load_address e w < 0x100000000
  address-small = let i = offset-inside in let h = l.high in omega arith

  -- ---- it can be written, and decodes to itself
  pub access-writable : w < 0x100000000 → writable (access_of e w) ≡ true
  unfolding access_of writable narrow numbers_taken
  access-writable h =
      bool (eqb (w / 0x80000000 % 2) 1)
      (λ t. rw (t, lt-ltb (load_address e w) 0x100000000 address-small, lt-ltb w 0x10000000000000000 (omega arith)) refl)
      (λ t. rw (t, lt-ltb (load_address e w) 0x100000000 address-small) refl)

  -- ---- no check of the chip refuses it, whatever S is
  pub access-accepted : (s : ℕ) → w < 0x100000000 →
      access_due s e (access_of e w).first (access_of e w).second (access_of e w).value ≡ 0
  unfolding access_due size_ok place_ok value_ok access_of
  access-accepted s h =
      let i = offset-inside in
      let a = load_address e w in
      let z : eqb (a % 4) 0 ≡ true = eq-eqb (a % 4) 0 (omega arith) in
      let u : ltb a 0x80000000 ≡ false = le-ltb a 0x80000000 (omega arith) in
      let v : leb (a + 4) (0x80000000 + e) ≡ true = le-leb (a + 4) (0x80000000 + e) (omega arith) in
      bool (eqb (w / 0x80000000 % 2) 1)
      (λ t. rw (t, z, u, v, lt-ltb w 0x100000000 h) refl)
      (λ t. rw (t, z, u, v) refl)

pub access-itself : (e w : ℕ) → without_spare (access_of e w) ≡ access_of e w
unfolding access_of numbers_taken only_first
access-itself e w = bool (eqb (w / 0x80000000 % 2) 1) (λ t. rw t refl) (λ t. rw t refl)

-- ---- how many bytes it has: an address from 80000000h on, and a word whose bit 31 is set, have five groups
five-groups : (v : ℕ) → 0x10000000 ≤ v → v < 0x800000000 → length (number_bytes v) ≡ 5
unfolding groups_of
five-groups v h g =
    rw (
      le-ltb v 128 (omega arith),
      le-ltb (v / 128) 128 (omega arith),
      le-ltb (v / 128 / 128) 128 (omega arith),
      le-ltb (v / 128 / 128 / 128) 128 (omega arith),
      lt-ltb (v / 128 / 128 / 128 / 128) 128 (omega arith),
    ) refl

size-group : length (number_bytes 4) ≡ 1
unfolding groups_of
size-group = refl

module _ (e w : ℕ) (l : Legal e) where
  abbrev front : List ℕ
  front = number_bytes (load_address e w)

  front_length : length front ≡ 5
  front_length = five-groups (load_address e w) (omega arith) (omega (arith, address-small e w l))

  pub read_length : w < 0x80000000 → length (command_bytes (access_of e w)) ≡ 7
  unfolding command_bytes first_numbers numbers_taken
  read_length h = rw (← read-access e w h, length-append (number_bytes 4) front, size-group, front_length) refl

  pub write-length : 0x80000000 ≤ w → w < 0x100000000 → length (command_bytes (access_of e w)) ≡ 12
  unfolding command_bytes first_numbers numbers_taken
  write-length h g =
      rw (
        ← write-access e w h g,
        length-append (number_bytes 4) (front ++ number_bytes w),
        length-append front (number_bytes w),
        size-group,
        front_length,
        five-groups w (omega arith) (omega arith),
      ) refl

-- ---- the accesses from the 56th word on
pub words-length : (seed k : ℕ) → length (words seed k) ≡ k
unfolding words
words-length seed zero = refl
words-length seed (suc k) = ap suc (words-length seed k)

-- from there on a word is a sum of two that lie back
pub word-later : (seed k : ℕ) → 55 ≤ k →
    word seed (suc k) ≡ sum32 (places_back 24 (words seed k)) (places_back 55 (words seed k))
unfolding words next_word
word-later seed k h =
    let n = words-length seed k in
    rw (ne_eqb (length (words seed k)) 0 (omega arith), le-ltb (length (words seed k)) 55 (omega arith)) refl

pub word_small : (seed k : ℕ) → 55 ≤ k → word seed (suc k) < 0x100000000
word_small seed k h = rw (word-later seed k h) (omega arith)

module _ (seed e : ℕ) (l : Legal e) where
  all-writable : (k n : ℕ) → 55 ≤ k → all_writable (accesses_from seed e (suc k) n) ≡ true
  unfolding accesses_from all_writable
  all-writable k zero h = refl
  all-writable k (suc n) h =
      rw (access-writable e (word seed (suc k)) l (word_small seed k h)) (all-writable (suc k) n (omega arith))

  pub trace-written : (n : ℕ) (m : List ℕ) → length (load_bytes seed e n) ≤ length m →
      write_all m 0 (accesses seed e n)
      ≡ written 0 (length (load_bytes seed e n)) (stored m 0 (load_bytes seed e n))
  trace-written n m h =
      let ks = accesses seed e n in
      (given-room m 0 ks (all-writable 55 n (omega arith)) (omega arith)).done
      ∙ ap (λ (x : ℕ). written 0 x (stored m 0 (trace_bytes ks))) (omega arith)

all-themselves : (seed e k n : ℕ) → map without_spare (accesses_from seed e k n) ≡ accesses_from seed e k n
unfolding accesses_from
all-themselves seed e k zero = refl
all-themselves seed e k (suc n) = rw (access-itself e (word seed k), all-themselves seed e (suc k) n) refl

-- ---- what was accepted: E is legal, the trace has room, and is there
pub record Accepted (seed e n : ℕ) (m : List ℕ) : Type 0 where
  pub size : legal_external e ≡ true
  pub room : length (load_bytes seed e n) ≤ length m

accepted-load : (seed e n : ℕ) (m : List ℕ) → load_due seed e n m ≡ 0 → Accepted seed e n m
unfolding load_due
accepted-load seed e n m h =
    bool (legal_external e)
    (λ t. bool (leb (length (load_bytes seed e n)) (length m))
    (λ u. record { size = t; room = leb-true (length (load_bytes seed e n)) (length m) u })
    (λ u. absurd (let z : ◌≡◌ {A = ℕ} 16 0 = rw (t, u) at h in omega arith)))
    (λ t. absurd (let z : ◌≡◌ {A = ℕ} 1 0 = rw t at h in omega arith))

load-cases : (P : Loaded → Type 0) (seed e n : ℕ) (m : List ℕ) →
    (Accepted seed e n m → P (loaded 0 (length (load_bytes seed e n)) (stored m 0 (load_bytes seed e n)))) →
    (load_due seed e n m ≢ 0 → P (loaded (load_due seed e n m) 0 m)) → P (load_trace seed e n m)
unfolding load_trace
load-cases P seed e n m f g =
    bool (eqb (load_due seed e n m) 0)
    (λ t.
    let a = accepted-load seed e n m (eqb-true (load_due seed e n m) 0 t) in
    rw (t, trace-written seed e (legal e a.size) n m a.room) (f a))
    (λ t. rw t (g (eqb-false (load_due seed e n m) 0 t)))

-- ---- 02, U9
pub record LoadToRepeat : Type 0 where
  -- the trace that was written decodes to the n accesses
  pub read_back : (seed e n : ℕ) (m : List ℕ) → (load_trace seed e n m).number ≡ 0 →
      Whole (part (load_trace seed e n m).out 0 (load_trace seed e n m).length) (accesses seed e n)
  pub as_many : (seed e n : ℕ) → length (accesses seed e n) ≡ n
  -- no access of it is refused by the checks of the chip, whatever S is
  pub accepted : (s seed e k : ℕ) → legal_external e ≡ true → 56 ≤ k → let c = access_of e (word seed k) in
      access_due s e c.first c.second c.value ≡ 0
  -- later bytes stay as they were, with a refusal all of them
  pub later : (seed e n i : ℕ) (m : List ℕ) → (load_trace seed e n m).length ≤ i →
      get_or (load_trace seed e n m).out i 0 ≡ get_or m i 0

count-from : (seed e k n : ℕ) → length (accesses_from seed e k n) ≡ n
unfolding accesses_from
count-from seed e k zero = refl
count-from seed e k (suc n) = ap suc (count-from seed e (suc k) n)

pub load-to-repeat : LoadToRepeat
load-to-repeat =
    record {
      read_back = λ seed e n m.
          load-cases (λ (x : Loaded). x.number ≡ 0 → Whole (part x.out 0 x.length) (accesses seed e n)) seed e n
          m
          (λ a z.
          let w = trace-written seed e (legal e a.size) n m a.room in
          let r = writing-traces.read_back m 0 (accesses seed e n) (ap (λ (x : Written). x.number) w) in
          let d : length (load_bytes seed e n) - 0 ≡ length (load_bytes seed e n) = omega arith in
          rw (w, d, all-themselves seed e 56 n) at r)
          (λ d z. absurd (d z));
      as_many = λ seed e n. count-from seed e 56 n;
      accepted = λ s seed e k g h.
          let z : suc (k - 1) ≡ k = omega arith in
          let w = word_small seed (k - 1) (omega arith) in
          access-accepted e (word seed k) (legal e g) s (rw z at w);
      later = λ seed e n i m.
          load-cases (λ (x : Loaded). x.length ≤ i → get_or x.out i 0 ≡ get_or m i 0) seed e n m
          (λ a h. stored-after m (load_bytes seed e n) 0 i (omega (arith, a.room)) (omega (arith, h)))
          (λ d h. refl);
    }
