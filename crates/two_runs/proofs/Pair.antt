-- Two states side by side (`Pair`): the same record, memories of the same lengths, each line where it may stand, and
-- bytes of SRAM, of external memory and of valid lines that P allows for the address they stand for. Nothing is said of
-- dirty or clean lines, nor of which copy is the newest: each place has an address of its own, whoever is newer.
-- Shown: each small step that changes a line, an order or bytes keeps it, in both runs at once.
-- Why: which step is taken goes by the record alone, and it moves each byte to a place that stands for the same
-- address.
use Prim.Native.Nat.{ℕ, ◌+◌, ◌*◌, ◌-◌, ◌%◌, ◌≤◌, ◌<◌}
use mathlib.Core.Bool.{true}
use mathlib.Core.Path.{◌≡◌, refl, sym, ◌∙◌, subst}
use mathlib.Core.Logic.{inl, inr, ⊎_elim}
use mathlib.Core.List.{List}
use native.Mathlib.Omega.{arith}
use lib.ListN.{length}
use lib.Dec.{ltb}
use borrow.Author.Tests.{ltb-true, ltb-false}
use Rattle.model.specs.Bytes.{stored, part}
use Rattle.model.specs.Memories.{external_base, legal_l2, legal_external, sram_length}
use Rattle.model.specs.Lines.{l1d_data, l2_sets, empty_line, l1d_use, l2_use}
use Rattle.model.specs.Records.{State, with_record, with_l1d, with_l2, with_external, sram_of, l2_sets_of, l2_data, l1d_line_at, l2_line_at, with_l1d_line, with_l2_line}
use Rattle.model.specs.Ways.{use_l1d, use_l2, empty_l1d, empty_l2}
use Rattle.model.specs.Homes.{memory_part, put_memory}
use Rattle.model.specs.Laws.{length-stored, cond_both}
use Rattle.model.specs.declared.Line.{Line}
use Rattle.model.specs.declared.Record.{Record}
use Rattle.agreement.proofs.Tables.{l1d_store, l2_store}
use Rattle.agreement.proofs.Good.{slot-bound, l1d-apart, l2-apart, l1d-used-line, l2-used-line}
use Rattle.two_runs.specs.TwoRuns.{SameButStored}
use Rattle.two_runs.proofs.Areas.{Pairing, Twins, Area, area-part, area-stored, area-elsewhere}
use Rattle.two_runs.proofs.Held.{replaces, Held, held_same, held-emptied, held-put}

-- ---- what only a mode change changes: S, the number of L2 sets, L, E
pub record Layout : Type 0 where
  pub sram : ℕ
  pub sets : ℕ
  pub l2 : ℕ
  pub ext : ℕ

abbrev pub layout_of : Record → Layout
layout_of r = record { sram = sram_of r; sets = l2_sets_of r; l2 = r.l2len; ext = r.extlen }

-- where the line at b may stand
pub record L1dOk (g : Layout) (s w b : ℕ) : Type 0 where
  pub set : s < 128
  pub aligned : b % 64 ≡ 0
  pub low : b < external_base → b + 64 ≤ g.sram
  pub high : external_base ≤ b → b + 64 ≤ external_base + g.ext

pub record L2Ok (g : Layout) (t v b : ℕ) : Type 0 where
  pub set : t < g.sets
  pub aligned : b % 128 ≡ 0
  pub low : external_base ≤ b
  pub high : b + 128 ≤ external_base + g.ext

-- the layout is the record's, whose L, E and mode are l, x and mode; both runs' memories have its lengths; and it is a
-- legal one
pub record Sizes (g : Layout) (l x mode : ℕ) (d m e d' m' e' : List ℕ) : Type 0 where
  pub sram : sram_length l mode ≡ g.sram
  pub sets : l2_sets mode ≡ g.sets
  pub l2len : l ≡ g.l2
  pub extlen : x ≡ g.ext
  pub l1d_length : length d ≡ 16384
  pub l1d_same : length d' ≡ length d
  pub l2_length : length m ≡ g.l2
  pub l2_same : length m' ≡ length m
  pub ext_length : length e ≡ g.ext
  pub ext_same : length e' ≡ length e
  pub below : g.sram ≤ external_base
  pub room : g.sram + g.sets * 512 ≤ g.l2
  pub sram_whole : g.sram % 64 ≡ 0
  pub ext_whole : g.ext % 128 ≡ 0
  pub l2_legal : legal_l2 g.l2 ≡ true
  pub ext_legal : legal_external g.ext ≡ true

pub record Pair (P : Pairing) (g : Layout) (z z' : State) : Type 0 where
  pub same : z.rec ≡ z'.rec
  pub sizes : Sizes g z.rec.l2len z.rec.extlen z.rec.mode z.l1d z.l2 z.ext z'.l1d z'.l2 z'.ext
  pub l1d : Held P (L1dOk g) 64 (l1d_line_at z.rec) l1d_data z.l1d z'.l1d
  pub l2 : Held P (L2Ok g) 128 (l2_line_at z.rec) (l2_data z.rec) z.l2 z'.l2
  pub sram : Area P 0 0 g.sram z.l2 z'.l2
  pub ext : Area P external_base 0 g.ext z.ext z'.ext

-- one record and memories of equal lengths
pub pair-stored : {P : Pairing} {g : Layout} {z z' : State} → Pair P g z z' → SameButStored z z'
pair-stored q = record { rec = q.same; l1d = sym q.sizes.l1d_same; l2 = sym q.sizes.l2_same; ext = sym q.sizes.ext_same }

-- a step that keeps it
abbrev pub Keeps : Pairing → Layout → (State → State) → Type 0
Keeps P g f = (z z' : State) → Pair P g z z' → Pair P g (f z) (f z')

-- ---- other lists of the same lengths
pub sizes-with : {g : Layout} {l x mode : ℕ} {d m e d' m' e' : List ℕ} → Sizes g l x mode d m e d' m' e' → (d₁ m₁ e₁ d₂ m₂ e₂ : List ℕ) →
    length d₁ ≡ length d → length d₂ ≡ length d' → length m₁ ≡ length m → length m₂ ≡ length m' → length e₁ ≡ length e → length e₂ ≡ length e' →
    Sizes g l x mode d₁ m₁ e₁ d₂ m₂ e₂
sizes-with h d₁ m₁ e₁ d₂ m₂ e₂ a a' b b' c c' =
    record {
      sram = h.sram;
      sets = h.sets;
      l2len = h.l2len;
      extlen = h.extlen;
      l1d_length = a ∙ h.l1d_length;
      l1d_same = a' ∙ h.l1d_same ∙ sym a;
      l2_length = b ∙ h.l2_length;
      l2_same = b' ∙ h.l2_same ∙ sym b;
      ext_length = c ∙ h.ext_length;
      ext_same = c' ∙ h.ext_same ∙ sym c;
      below = h.below;
      room = h.room;
      sram_whole = h.sram_whole;
      ext_whole = h.ext_whole;
      l2_legal = h.l2_legal;
      ext_legal = h.ext_legal;
    }

-- ---- the second run may be taken to have the first one's record itself: then every test and every choice of a way
-- computes to the same
abbrev pub twin : State → List ℕ → List ℕ → List ℕ → State
twin z d m e = with_external (with_l2 (with_l1d z d) m) e

pub one-record {ℓ} : {A : Type ℓ} (Q : State → State → Type 0) (R : A → A → Type 0) (f f' : State → A) (z : State) →
    ((d m e : List ℕ) → Q z (twin z d m e) → R (f z) (f' (twin z d m e))) → (z' : State) → z.rec ≡ z'.rec → Q z z' → R (f z) (f' z')
one-record Q R f f' z h z' s q =
    let e : twin z z'.l1d z'.l2 z'.ext ≡ z' = λ i. with_record z' (s i) in
    subst (λ (y : State). R (f z) (f' y)) e (h z'.l1d z'.l2 z'.ext (subst (λ (y : State). Q z y) (sym e) q))

pub lift {ℓ} : {P : Pairing} {g : Layout} {A : Type ℓ} (R : A → A → Type 0) (f : State → A) (z : State) →
    ((d m e : List ℕ) → Pair P g z (twin z d m e) → R (f z) (f (twin z d m e))) → (z' : State) → Pair P g z z' → R (f z) (f z')
lift {P} {g} R f z h z' q = one-record (Pair P g) R f f z h z' q.same q

module _ {P : Pairing} {g : Layout} {z : State} {d m e : List ℕ} (q : Pair P g z (twin z d m e)) where
  -- ---- a slot of L1D, and of L2, lies in its memory
  pub l1d-room : (s w : ℕ) → s < 128 → w < 2 → l1d_data s w + 64 ≤ length z.l1d
  l1d-room s w hs hw = let l = q.sizes.l1d_length in omega arith

  pub l2-room : (t v : ℕ) → t < g.sets → v < 4 → l2_data z.rec t v + 128 ≤ length z.l2
  l2-room t v ht hv =
      let h = q.sizes in let n = h.sets in let l = h.l2_length in let r = h.room in let s = h.sram in
      let b = slot-bound (l2_sets_of z.rec) t v hv (omega arith) in omega arith

  -- ---- a way used, a way emptied
  pub use_l1d-pair : (s w : ℕ) → Pair P g (use_l1d s w z) (use_l1d s w (twin z d m e))
  unfolding use_l1d l1d_use
  use_l1d-pair s w =
      record {
        same = refl;
        sizes = q.sizes;
        l1d = held_same q.l1d (l1d_line_at (use_l1d s w z).rec) (l1d-used-line z s w);
        l2 = q.l2;
        sram = q.sram;
        ext = q.ext;
      }

  pub use_l2-pair : (t v : ℕ) → Pair P g (use_l2 t v z) (use_l2 t v (twin z d m e))
  unfolding use_l2 l2_use
  use_l2-pair t v =
      record {
        same = refl;
        sizes = q.sizes;
        l1d = q.l1d;
        l2 = held_same q.l2 (l2_line_at (use_l2 t v z).rec) (l2-used-line z t v);
        sram = q.sram;
        ext = q.ext;
      }

  pub empty_l1d-pair : (s w : ℕ) → Pair P g (empty_l1d s w z) (empty_l1d s w (twin z d m e))
  unfolding empty_l1d with_l1d_line
  empty_l1d-pair s w =
      record {
        same = refl;
        sizes = q.sizes;
        l1d = held-emptied q.l1d (l1d_line_at (empty_l1d s w z).rec) s w (replaces l1d_store z.rec.l1d s w empty_line);
        l2 = q.l2;
        sram = q.sram;
        ext = q.ext;
      }

  pub empty_l2-pair : (t v : ℕ) → Pair P g (empty_l2 t v z) (empty_l2 t v (twin z d m e))
  unfolding empty_l2 with_l2_line
  empty_l2-pair t v =
      record {
        same = refl;
        sizes = q.sizes;
        l1d = q.l1d;
        l2 = held-emptied q.l2 (l2_line_at (empty_l2 t v z).rec) t v (replaces l2_store z.rec.l2 t v empty_line);
        sram = q.sram;
        ext = q.ext;
      }

  -- ---- one slot of L1D gets line x, and k bytes put o bytes into it
  pub l1d-put : (s w o : ℕ) {i a k : ℕ} (x : Line) {bs bs' : List ℕ} → s < 128 → w < 2 → o + k ≤ 64 → l1d_data s w + o ≡ i → Twins P a k bs bs' →
      ((l1d_line_at (with_l1d_line z.rec s w x) s w).valid ≡ true → L1dOk g s w x.address) →
      ((l1d_line_at (with_l1d_line z.rec s w x) s w).valid ≡ true → Area P x.address (l1d_data s w) 64 (stored z.l1d i bs) (stored d i bs')) →
      Pair P g (with_l1d (with_record z (with_l1d_line z.rec s w x)) (stored z.l1d i bs))
      (with_l1d (with_record (twin z d m e) (with_l1d_line z.rec s w x)) (stored d i bs'))
  unfolding with_l1d_line
  l1d-put s w o {i} {a} {k} x {bs} {bs'} hs hw f j t ok new =
      let d₁ = stored z.l1d i bs in let d₂ = stored d i bs' in let r = l1d-room s w hs hw in
      record {
        same = refl;
        sizes = sizes-with q.sizes d₁ z.l2 z.ext d₂ m e (length-stored z.l1d bs i) (length-stored d bs' i) refl refl refl refl;
        l1d = held-put q.l1d (l1d_line_at (with_l1d_line z.rec s w x)) s w x (replaces l1d_store z.rec.l1d s w x) d₁ d₂ ok new
            (λ s' w' n v. area-elsewhere (q.l1d.bytes s' w' v) q.sizes.l1d_same t (omega arith)
            (⊎_elim (λ c. inl (omega arith)) (λ c. inr (omega arith)) (l1d-apart s w s' w' hs (q.l1d.placed s' w' v).set n)));
        l2 = q.l2;
        sram = q.sram;
        ext = q.ext;
      }

  -- the same of L2, whose slots lie behind SRAM
  pub l2-put : (t v o : ℕ) {i a k : ℕ} (x : Line) {bs bs' : List ℕ} → t < g.sets → v < 4 → o + k ≤ 128 → l2_data z.rec t v + o ≡ i → Twins P a k bs bs' →
      ((l2_line_at (with_l2_line z.rec t v x) t v).valid ≡ true → L2Ok g t v x.address) →
      ((l2_line_at (with_l2_line z.rec t v x) t v).valid ≡ true → Area P x.address (l2_data z.rec t v) 128 (stored z.l2 i bs) (stored m i bs')) →
      Pair P g (with_l2 (with_record z (with_l2_line z.rec t v x)) (stored z.l2 i bs))
      (with_l2 (with_record (twin z d m e) (with_l2_line z.rec t v x)) (stored m i bs'))
  unfolding with_l2_line
  l2-put t v o {i} {a} {k} x {bs} {bs'} ht hv f j tw ok new =
      let m₁ = stored z.l2 i bs in let m₂ = stored m i bs' in
      let r = l2-room t v ht hv in let g₀ = q.sizes.sram in let g₁ = q.sizes.sets in
      record {
        same = refl;
        sizes = sizes-with q.sizes z.l1d m₁ z.ext d m₂ e refl refl (length-stored z.l2 bs i) (length-stored m bs' i) refl refl;
        l1d = q.l1d;
        l2 = held-put q.l2 (l2_line_at (with_l2_line z.rec t v x)) t v x (replaces l2_store z.rec.l2 t v x) m₁ m₂ ok new
            (λ t' v' n y. let ht' = (q.l2.placed t' v' y).set in
            area-elsewhere (q.l2.bytes t' v' y) q.sizes.l2_same tw (omega arith)
            (⊎_elim (λ c. inl (omega arith)) (λ c. inr (omega arith))
            (l2-apart (sram_of z.rec) (l2_sets_of z.rec) t v t' v' (omega arith) (omega arith) n)));
        sram = area-elsewhere q.sram q.sizes.l2_same tw (omega arith) (inr (omega arith));
        ext = q.ext;
      }

  -- ---- bytes of SRAM and of external memory
  pub memory-twins : (a n : ℕ) → (a < external_base → a + n ≤ g.sram) → (external_base ≤ a → a + n ≤ external_base + g.ext) →
      Twins P a n (memory_part a n z) (memory_part a n (twin z d m e))
  unfolding memory_part
  memory-twins a n lo hi =
      let h = q.sizes in let l = h.l2_length in let r = h.room in let x = h.ext_length in
      cond_both (Twins P a n) (ltb a external_base) (part z.l2 a n) (part z.ext (a - external_base) n) (part m a n) (part e (a - external_base) n)
      (λ t. let c = lo (ltb-true a external_base t) in area-part q.sram h.l2_same (omega arith) a c (omega arith) (omega arith))
      (λ t. let c = ltb-false a external_base t in let c' = hi c in
      area-part q.ext h.ext_same (omega arith) (a - external_base) (omega arith) (omega arith) (omega arith))

  -- bytes put into SRAM, into external memory, into either by the address
  low-pair : {a k : ℕ} {bs bs' : List ℕ} → Twins P a k bs bs' → a + k ≤ g.sram →
      Pair P g (with_l2 z (stored z.l2 a bs)) (with_l2 (twin z d m e) (stored m a bs'))
  low-pair {a} {k} {bs} {bs'} t f =
      let h = q.sizes in let l = h.l2_length in let r = h.room in let s = h.sram in
      let m₁ = stored z.l2 a bs in let m₂ = stored m a bs' in
      record {
        same = refl;
        sizes = sizes-with h z.l1d m₁ z.ext d m₂ e refl refl (length-stored z.l2 bs a) (length-stored m bs' a) refl refl;
        l1d = q.l1d;
        l2 = record {
          placed = q.l2.placed;
          bytes = λ t' v' y. area-elsewhere (q.l2.bytes t' v' y) h.l2_same t (omega arith) (inl (omega arith));
        };
        sram = area-stored q.sram h.l2_same (omega arith) t a f (omega arith) (omega arith);
        ext = q.ext;
      }

  pub high-pair : {a k : ℕ} {bs bs' : List ℕ} → Twins P a k bs bs' → external_base ≤ a → a + k ≤ external_base + g.ext →
      Pair P g (with_external z (stored z.ext (a - external_base) bs)) (with_external (twin z d m e) (stored e (a - external_base) bs'))
  high-pair {a} {k} {bs} {bs'} t b f =
      let h = q.sizes in let x = h.ext_length in let i = a - external_base in
      record {
        same = refl;
        sizes = sizes-with h z.l1d z.l2 (stored z.ext i bs) d m (stored e i bs') refl refl refl refl (length-stored z.ext bs i)
            (length-stored e bs' i);
        l1d = q.l1d;
        l2 = q.l2;
        sram = q.sram;
        ext = area-stored q.ext h.ext_same (omega arith) t i (omega arith) (omega arith) (omega arith);
      }

  pub put_memory-pair : {a k : ℕ} {bs bs' : List ℕ} → Twins P a k bs bs' → (a < external_base → a + k ≤ g.sram) →
      (external_base ≤ a → a + k ≤ external_base + g.ext) →
      Pair P g (put_memory a bs z) (put_memory a bs' (twin z d m e))
  unfolding put_memory
  put_memory-pair {a} {k} {bs} {bs'} t lo hi =
      cond_both (Pair P g) (ltb a external_base) (with_l2 z (stored z.l2 a bs)) (with_external z (stored z.ext (a - external_base) bs))
      (with_l2 (twin z d m e) (stored m a bs')) (with_external (twin z d m e) (stored e (a - external_base) bs'))
      (λ u. low-pair t (lo (ltb-true a external_base u)))
      (λ u. let c = ltb-false a external_base u in high-pair t c (hi c))
