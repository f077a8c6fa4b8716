-- What may stand where, and what stands behind L1D. `Allowed` says which byte may stand at an address, `Layout` and
-- the records after it what a mode and the MAR bits fix and where a line may stand, `Behind` what is known of L2 and
-- the memory whether or not a dirty line hides them. Shown: it holds again when the memory changes where L2 holds
-- nothing (`behind-memory`), and when one L2 slot gets a line whose bytes are held and, if it is clean, are the
-- memory's (`behind-slot`). Why: the two facts are of single places, so only the place that changes is looked at. The
-- steps of a cache use these two lemmas: `Invariant`.
use Prim.Native.Nat.{ℕ, ◌+◌, ◌*◌, ◌/◌, ◌%◌, ◌≤◌, ◌<◌}
use mathlib.Core.Bool.{Bool, true, false}
use mathlib.Core.Path.{◌≡◌, refl}
use native.Mathlib.Omega.{arith}
use Rattle.model.specs.Memories.{external_base}
use Rattle.model.specs.declared.Line.{Line}
use Rattle.agreement.proofs.Level.{Level, Valid, Other, Replaced, same-slot, replaced-at}

-- Which byte c may stand at address a: where a program can come to see it as things are (right), and anywhere, behind
-- a dirty line too (held); and how the byte c of a clean L2 line goes with the byte d of external memory behind it
-- (alike). For flat memory f right is `c ≡ f a`; for a well-formed record alone all are anything.
pub record Allowed : Type 1 where
  pub right : ℕ → ℕ → Type 0
  pub held : ℕ → ℕ → Type 0
  pub alike : ℕ → ℕ → Type 0
  pub right_held : (a c : ℕ) → right a c → held a c
  pub copied : (c : ℕ) → alike c c

-- nothing is asked of what a dirty line hides
abbrev pub seen_only : (ℕ → ℕ → Type 0) → Allowed
seen_only R =
    record { right = R; held = λ _ _. ◌≡◌ {A = ℕ} 0 0; alike = λ _ _. ◌≡◌ {A = ℕ} 0 0; right_held = λ _ _ _. refl; copied = λ _. refl }

pub carry : (F : Allowed) {a c d : ℕ} → c ≡ d → F.right a d → F.right a c
carry F e p = rw e p

pub carry_held : (F : Allowed) {a c d : ℕ} → c ≡ d → F.held a d → F.held a c
carry_held F e p = rw e p

-- what could stand somewhere still can
pub record Grows (F F' : Allowed) : Type 0 where
  pub held : (a c : ℕ) → F.held a c → F'.held a c
  pub alike : (c d : ℕ) → F.alike c d → F'.alike c d

pub grows-refl : (F : Allowed) → Grows F F
grows-refl F = record { held = λ _ _ h. h; alike = λ _ _ h. h }

-- what does not change from call to call: S, E, the number of L2 sets (0 in mode 0), the MAR bit of an address
pub record Layout : Type 0 where
  pub sram : ℕ
  pub ext : ℕ
  pub sets : ℕ
  pub mar : ℕ → Bool

-- address a is in SRAM or in external memory
pub record Inside (g : Layout) (a : ℕ) : Type 0 where
  pub low : a < external_base → a < g.sram
  pub high : external_base ≤ a → a < external_base + g.ext

-- the line at b may stand in L1D slot s, w
pub record L1dPlaced (g : Layout) (s w b : ℕ) : Type 0 where
  pub aligned : b % 64 ≡ 0
  pub own_set : s ≡ b / 64 % 128
  pub way : w < 2
  pub low : b < external_base → b + 64 ≤ g.sram
  pub high : external_base ≤ b → b + 64 ≤ external_base + g.ext
  pub mar_set : external_base ≤ b → g.mar b ≡ true

-- the line at b may stand in L2 slot s, w
pub record L2Placed (g : Layout) (s w b : ℕ) : Type 0 where
  pub aligned : b % 128 ≡ 0
  pub own_set : s ≡ b / 128 % g.sets
  pub set_used : s < g.sets
  pub way : w < 4
  pub low : external_base ≤ b
  pub high : b + 128 ≤ external_base + g.ext
  pub mar_set : g.mar b ≡ true

-- some L2 line holds the L1D line at b
abbrev pub InL2Line : Level → ℕ → Type 0
InL2Line y b = (t : ℕ) × (v : ℕ) × Valid y t v × ((y.line t v).address ≡ b / 128 * 128)

-- what stands behind L1D, seen or not: each byte of L2 and of the memory is held, and a clean L2 line goes with the
-- memory behind it
pub record Behind (g : Layout) (y : Level) (mem : ℕ → ℕ) (F : Allowed) : Type 0 where
  pub l2_held : (t v : ℕ) → Valid y t v → (i : ℕ) → i < 128 → F.held ((y.line t v).address + i) (y.byte t v i)
  pub memory_held : (a : ℕ) → Inside g a → F.held a (mem a)
  pub l2_alike : (t v : ℕ) → Valid y t v → (y.line t v).dirty ≡ false → (i : ℕ) → i < 128 → F.alike (y.byte t v i) (mem ((y.line t v).address + i))

-- an address of an L2 line is in external memory
pub l2-inside : (g : Layout) (t v b i : ℕ) → L2Placed g t v b → i < 128 → Inside g (b + i)
l2-inside g t v b i p h = let lo = p.low in let hi = p.high in record { low = λ k. absurd (omega arith); high = λ k. omega arith }

-- ---- what stands behind: the memory changes, where L2 holds nothing; L2 slot t, v becomes l
module _ (g : Layout) (y y' : Level) (mem mem' : ℕ → ℕ) (F F' : Allowed) (q : Behind g y mem F) (gr : Grows F F') (inn : (a : ℕ) → Inside g a → F'.held a (mem' a)) where
  pub behind-memory : ((t v : ℕ) → Valid y t v → (i : ℕ) → i < 128 → mem' ((y.line t v).address + i) ≡ mem ((y.line t v).address + i)) → Behind g y mem' F'
  behind-memory out =
      record {
        l2_held = λ t v k i h. gr.held ((y.line t v).address + i) (y.byte t v i) (q.l2_held t v k i h);
        memory_held = inn;
        l2_alike = λ t v k d i h. rw (out t v k i h) (gr.alike (y.byte t v i) (mem ((y.line t v).address + i)) (q.l2_alike t v k d i h));
      }

  pub behind-slot : (t v : ℕ) (l : Line) → Replaced 128 y y' t v l →
      (l.valid ≡ true → (i : ℕ) → i < 128 → F'.held (l.address + i) (y'.byte t v i)) →
      (l.valid ≡ true → l.dirty ≡ false → (i : ℕ) → i < 128 → y'.byte t v i ≡ mem' (l.address + i)) →
      ((t' v' : ℕ) → Other t v t' v' → Valid y t' v' → (i : ℕ) → i < 128 → mem' ((y.line t' v').address + i) ≡ mem ((y.line t' v').address + i)) →
      Behind g y' mem' F'
  behind-slot t v l u held same out =
      record {
        l2_held = λ t' v' k i h. same-slot t v t' v'
            (λ z. let e = replaced-at 128 y y' t v l u t' v' z in rw (e, z.0, z.1) (held (rw e at k) i h))
            (λ z. let e = u.others t' v' z in
            let k₀ : Valid y t' v' = rw e at k in
            carry_held F' (u.bytes t' v' z k₀ i h) (rw e (gr.held ((y.line t' v').address + i) (y.byte t' v' i) (q.l2_held t' v' k₀ i h))));
        memory_held = inn;
        l2_alike = λ t' v' k d i h. same-slot t v t' v'
            (λ z. let e = replaced-at 128 y y' t v l u t' v' z in
            let c = same (rw e at k) (rw e at d) i h in rw (e, z.0, z.1, c) (F'.copied (mem' (l.address + i))))
            (λ z. let e = u.others t' v' z in
            let k₀ : Valid y t' v' = rw e at k in
            let d₀ : (y.line t' v').dirty ≡ false = rw e at d in
            let b = u.bytes t' v' z k₀ i h in
            let o = out t' v' z k₀ i h in
            rw (b, e, o) (gr.alike (y.byte t' v' i) (mem ((y.line t' v').address + i)) (q.l2_alike t' v' k₀ d₀ i h)));
      }
