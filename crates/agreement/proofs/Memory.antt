-- Bytes put into a lent memory, and SRAM and external memory seen as one by address: SRAM from 0, external memory
-- from 80000000h.
-- Shown: what each byte is after bytes were put at an address, after a line was copied, after half a line went into a
-- slot; and what may stand where (`Written`) after a write. All of it rests on the laws of `stored` and `part`
-- (Bytes), so that nothing above this file opens them.
use Prim.Native.Nat.{ℕ, ◌+◌, ◌*◌, ◌-◌, ◌/◌, ◌%◌, ◌≤◌, ◌<◌}
use mathlib.Core.Bool.{cond}
use mathlib.Core.Path.{◌≡◌, refl, sym, ◌∙◌, subst}
use mathlib.Core.Logic.{◌≢◌, ◌⊎◌, ⊎_elim}
use mathlib.Core.List.{List}
use native.Mathlib.Omega.{arith}
use lib.ListN.{length, get_or}
use lib.Dec.{ltb}
use borrow.Author.Tests.{ltb-true, ltb-false, lt-ltb, le-ltb}
use Rattle.model.specs.Bytes.{stored, part}
use Rattle.model.specs.Memories.{external_base}
use Rattle.model.specs.Laws.{bool, cond-elim, length-stored, length_part, stored-before, stored-in, stored-after, part_at}
use Rattle.agreement.proofs.Invariant.{Allowed, Grows, seen_only}

-- ---- stored, said once: a byte inside is that of the bytes put there, a byte outside is what it was
module _ (m bs : List ℕ) (p : ℕ) (fits : p + length bs ≤ length m) where
  pub stored_at : (j : ℕ) → p ≤ j → j < p + length bs → get_or (stored m p bs) j 0 ≡ get_or bs (j - p) 0
  stored_at j h k = stored-in m bs p j fits h k

  pub stored-elsewhere : (j : ℕ) → (p ≤ j → p + length bs ≤ j) → get_or (stored m p bs) j 0 ≡ get_or m j 0
  stored-elsewhere j h =
      bool (ltb j p)
      (λ e. stored-before m bs p j fits (ltb-true j p e))
      (λ e. stored-after m bs p j fits (h (ltb-false j p e)))

-- a line copied from one memory into another
module _ (m d : List ℕ) (p o n : ℕ) (fits : p + n ≤ length m) (src : o + n ≤ length d) where
  abbrev to : List ℕ
  to = stored m p (part d o n)

  pub copied-in : (i : ℕ) → i < n → get_or to (p + i) 0 ≡ get_or d (o + i) 0
  copied-in i h =
      let k = length_part d o n src in
      let j : p + i - p ≡ i = omega arith in
      stored_at m (part d o n) p (omega arith) (p + i) (omega arith) (omega arith) ∙ rw j (part_at d o n i src h)

  pub copied-out : (j : ℕ) → (p ≤ j → p + n ≤ j) → get_or to j 0 ≡ get_or m j 0
  copied-out j h = let k = length_part d o n src in stored-elsewhere m (part d o n) p (omega arith) j (λ e. let t = h e in omega arith)

-- bytes put into one slot of n bytes leave another slot as it was
pub other-slot : (n : ℕ) (m bs : List ℕ) (p p' o : ℕ) → p + n ≤ length m → (p + n ≤ p') ⊎ (p' + n ≤ p) → o + length bs ≤ n →
    (i : ℕ) → i < n → get_or (stored m (p + o) bs) (p' + i) 0 ≡ get_or m (p' + i) 0
other-slot n m bs p p' o f c h i k =
    ⊎_elim
    (λ g. stored-elsewhere m bs (p + o) (omega arith) (p' + i) (λ _. omega arith))
    (λ g. stored-elsewhere m bs (p + o) (omega arith) (p' + i) (λ j. absurd (omega arith)))
    c

-- ---- the two memories as one
unfoldable pub memory_byte : List ℕ → List ℕ → ℕ → ℕ
memory_byte m e a = cond (ltb a external_base) (get_or m a 0) (get_or e (a - external_base) 0)

pub memory-low : (m e : List ℕ) (a : ℕ) → a < external_base → memory_byte m e a ≡ get_or m a 0
unfolding memory_byte
memory-low m e a h = rw (lt-ltb a external_base h)

pub memory-high : (m e : List ℕ) (a : ℕ) → external_base ≤ a → memory_byte m e a ≡ get_or e (a - external_base) 0
unfolding memory_byte
memory-high m e a h = rw (le-ltb a external_base h)

-- bytes put at an address: into the memory that it lies in
unfoldable pub low_stored : List ℕ → ℕ → List ℕ → List ℕ
low_stored m a bs = cond (ltb a external_base) (stored m a bs) m

unfoldable pub high_stored : List ℕ → ℕ → List ℕ → List ℕ
high_stored e a bs = cond (ltb a external_base) e (stored e (a - external_base) bs)

pub low-length : (m bs : List ℕ) (a : ℕ) → length (low_stored m a bs) ≡ length m
unfolding low_stored
low-length m bs a = bool (ltb a external_base) (λ t. rw t (length-stored m bs a)) (λ t. rw t refl)

pub high-length : (e bs : List ℕ) (a : ℕ) → length (high_stored e a bs) ≡ length e
unfolding high_stored
high-length e bs a = bool (ltb a external_base) (λ t. rw t refl) (λ t. rw t (length-stored e bs (a - external_base)))

-- n bytes at a lie in the one memory or in the other
pub record Fits (m e : List ℕ) (a n : ℕ) : Type 0 where
  pub low : a < external_base → a + n ≤ length m
  pub high : external_base ≤ a → a + n ≤ external_base + length e

-- the n bytes at a, read: so many, and each the byte of its address
module _ (m e : List ℕ) (a n : ℕ) (r : Fits m e a n) where
  abbrev read : List ℕ
  read = cond (ltb a external_base) (part m a n) (part e (a - external_base) n)

  pub read_length : length read ≡ n
  read_length =
      cond-elim (λ (l : List ℕ). length l ≡ n) (ltb a external_base) (part m a n) (part e (a - external_base) n)
      (λ t. length_part m a n (r.low (ltb-true a external_base t)))
      (λ t. let h = ltb-false a external_base t in let f = r.high h in length_part e (a - external_base) n (omega arith))

  pub read_at : length m ≤ external_base → (j : ℕ) → j < n → get_or read j 0 ≡ memory_byte m e (a + j)
  read_at hm j h =
      cond-elim (λ (l : List ℕ). get_or l j 0 ≡ memory_byte m e (a + j)) (ltb a external_base) (part m a n) (part e (a - external_base) n)
      (λ t. let l = ltb-true a external_base t in let f = r.low l in part_at m a n j f h ∙ sym (memory-low m e (a + j) (omega arith)))
      (λ t. let l = ltb-false a external_base t in let f = r.high l in
      let i : a + j - external_base ≡ a - external_base + j = omega arith in
      part_at e (a - external_base) n j (omega arith) h ∙ sym (memory-high m e (a + j) (omega arith) ∙ rw i refl))

module _ (m e bs : List ℕ) (a : ℕ) (r : Fits m e a (length bs)) where
  pub memory-in : length m ≤ external_base → (b : ℕ) → a ≤ b → b < a + length bs →
      memory_byte (low_stored m a bs) (high_stored e a bs) b ≡ get_or bs (b - a) 0
  unfolding low_stored high_stored
  memory-in hm b h k =
      bool (ltb a external_base)
      (λ t. let l = ltb-true a external_base t in let f = r.low l in
      memory-low (low_stored m a bs) (high_stored e a bs) b (omega arith) ∙ rw t (stored_at m bs a f b h k))
      (λ t. let l = ltb-false a external_base t in let f = r.high l in
      let j : b - external_base - (a - external_base) ≡ b - a = omega arith in
      memory-high (low_stored m a bs) (high_stored e a bs) b (omega arith)
      ∙ rw t (stored_at e bs (a - external_base) (omega arith) (b - external_base) (omega arith) (omega arith) ∙ rw j refl))

  pub memory-out : (b : ℕ) → (a ≤ b → a + length bs ≤ b) → memory_byte (low_stored m a bs) (high_stored e a bs) b ≡ memory_byte m e b
  unfolding low_stored high_stored
  memory-out b h =
      bool (ltb a external_base)
      (λ t. let l = ltb-true a external_base t in let f = r.low l in
      bool (ltb b external_base)
      (λ t'. let l' = ltb-true b external_base t' in
      memory-low (low_stored m a bs) (high_stored e a bs) b l' ∙ rw t (stored-elsewhere m bs a f b h) ∙ sym (memory-low m e b l'))
      (λ t'. let l' = ltb-false b external_base t' in
      memory-high (low_stored m a bs) (high_stored e a bs) b l' ∙ rw t (sym (memory-high m e b l'))))
      (λ t. let l = ltb-false a external_base t in let f = r.high l in
      bool (ltb b external_base)
      (λ t'. let l' = ltb-true b external_base t' in
      memory-low (low_stored m a bs) (high_stored e a bs) b l' ∙ rw t (sym (memory-low m e b l')))
      (λ t'. let l' = ltb-false b external_base t' in
      memory-high (low_stored m a bs) (high_stored e a bs) b l'
      ∙ rw t (stored-elsewhere e bs (a - external_base) (omega arith) (b - external_base) (λ g. let g' = h (omega arith) in omega arith))
      ∙ sym (memory-high m e b l')))

-- ---- a memory, seen by address, before and after bytes were put at a
pub inside-or-not {ℓ} : {A : Type ℓ} (a c n : ℕ) → (a ≤ c → c < a + n → A) → ((a ≤ c → a + n ≤ c) → A) → A
inside-or-not a c n f g =
    bool (ltb c a)
    (λ e. let h = ltb-true c a e in g (λ k. absurd (omega arith)))
    (λ e. let h = ltb-false c a e in bool (ltb c (a + n)) (λ t. f h (ltb-true c (a + n) t)) (λ t. g (λ _. ltb-false c (a + n) t)))

pub record Wrote (F F' : ℕ → ℕ) (a : ℕ) (bs : List ℕ) : Type 0 where
  pub inside : (c : ℕ) → a ≤ c → c < a + length bs → F' c ≡ get_or bs (c - a) 0
  pub outside : (c : ℕ) → (a ≤ c → a + length bs ≤ c) → F' c ≡ F c

pub wrote-memory : (m e bs : List ℕ) (a : ℕ) → Fits m e a (length bs) → length m ≤ external_base →
    Wrote (memory_byte m e) (memory_byte (low_stored m a bs) (high_stored e a bs)) a bs
wrote-memory m e bs a r h = record { inside = memory-in m e bs a r h; outside = memory-out m e bs a r }

-- the same of what may stand where
pub record Puts (P P' : ℕ → ℕ → Type 0) (a : ℕ) (bs : List ℕ) : Type 0 where
  pub inside : (c : ℕ) → a ≤ c → c < a + length bs → P' c (get_or bs (c - a) 0)
  pub outside : (c : ℕ) → (a ≤ c → a + length bs ≤ c) → (d : ℕ) → P c d → P' c d

-- of what is right; and what was held still is, since lower places keep what they have
pub record Written (F F' : Allowed) (a : ℕ) (bs : List ℕ) : Type 0 where
  pub puts : Puts F.right F'.right a bs
  pub grows : Grows F F'

pub written_held : (F F' : Allowed) (a : ℕ) (bs : List ℕ) → Written F F' a bs → Puts F.held F'.held a bs
written_held F F' a bs w =
    record { inside = λ c h k. F'.right_held c (get_or bs (c - a) 0) (w.puts.inside c h k); outside = λ c _ d e. w.grows.held c d e }

pub written_same : (f f' : ℕ → ℕ) (a : ℕ) (bs : List ℕ) → Wrote f f' a bs → Written (seen_only (λ b c. c ≡ f b)) (seen_only (λ b c. c ≡ f' b)) a bs
written_same f f' a bs w =
    record {
      puts = record { inside = λ c h k. sym (w.inside c h k); outside = λ c h d e. e ∙ sym (w.outside c h) };
      grows = record { held = λ _ _ _. refl; alike = λ _ _ _. refl };
    }

module _ (P P' : ℕ → ℕ → Type 0) (a : ℕ) (bs : List ℕ) (k : Puts P P' a bs) where
  -- bytes inside one 64-byte line: every other line is as it was
  pub written-old : a % 64 + length bs ≤ 64 → (b : ℕ) → b / 64 * 64 ≢ a / 64 * 64 → (c : ℕ) → P b c → P' b c
  written-old h b n = k.outside b (λ g. let z = n in omega arith)

  -- what was right before is right after both were written
  pub written_both : (G G' : ℕ → ℕ) → Wrote G G' a bs → (b : ℕ) → P b (G b) → P' b (G' b)
  written_both G G' k' b e =
      inside-or-not a b (length bs) (λ h h'. subst (P' b) (sym (k'.inside b h h')) (k.inside b h h'))
      (λ h. subst (P' b) (sym (k'.outside b h)) (k.outside b h (G b) e))

  -- a slot at p of n bytes, with the line at b, which holds a at offset o
  pub written-slot : (m : List ℕ) (p n b o : ℕ) → b + o ≡ a → o + length bs ≤ n → p + n ≤ length m → (i : ℕ) → i < n →
      P (b + i) (get_or m (p + i) 0) → P' (b + i) (get_or (stored m (p + o) bs) (p + i) 0)
  written-slot m p n b o e h f i hi t =
      inside-or-not o i (length bs)
      (λ g g'. let j : p + i - (p + o) ≡ b + i - a = omega arith in
      subst (P' (b + i)) (sym (stored_at m bs (p + o) (omega arith) (p + i) (omega arith) (omega arith))) (rw j (k.inside (b + i) (omega arith) (omega arith))))
      (λ g. subst (P' (b + i)) (sym (stored-elsewhere m bs (p + o) (omega arith) (p + i) (λ c. let d = g (omega arith) in omega arith)))
      (k.outside (b + i) (λ c. let d = g (omega arith) in omega arith) (get_or m (p + i) 0) t))

-- a half line at address a goes into the slot at p with the line at b
module _ (m d : List ℕ) (p o a b : ℕ) (fits : p + 128 ≤ length m) (src : o + 64 ≤ length d) (al : a % 64 ≡ 0) (e : b ≡ a / 128 * 128) (i : ℕ) (hi : i < 128) where
  pub half_in : (b + i) / 64 * 64 ≡ a → get_or (stored m (p + a % 128) (part d o 64)) (p + i) 0 ≡ get_or d (o + i % 64) 0
  half_in h =
      let j : p + i ≡ p + a % 128 + i % 64 = omega arith in
      rw j (copied-in m d (p + a % 128) o 64 (omega arith) src (i % 64) (omega arith))

  pub half_out : (b + i) / 64 * 64 ≢ a → get_or (stored m (p + a % 128) (part d o 64)) (p + i) 0 ≡ get_or m (p + i) 0
  half_out n = copied-out m d (p + a % 128) o 64 (omega arith) src (p + i) (λ g. let z = n in omega arith)
