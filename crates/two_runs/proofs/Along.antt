-- What holds between the two states of the second sentence all along the list, whatever the record (`Along`): bytes for
-- one address are equal, but for address x, and they are bytes (`Byte x`). It asks for no well-formed record, so that a
-- refused call keeps it too. Shown: it holds at the start, it says what the sentence says of the states, and it is a
-- `Pair` before a call that checks 1 and 2 let pass, and after it.
use Prim.Native.Nat.{ℕ, ◌+◌, ◌≤◌, ◌<◌}
use mathlib.Core.Bool.{true, false}
use mathlib.Core.Path.{◌≡◌, refl, sym, ap, ◌∙◌}
use mathlib.Core.Logic.{◌≢◌}
use mathlib.Core.List.{List}
use native.Mathlib.Omega.{arith}
use lib.ListN.{length, get_or, get_or-eq_default}
use lib.Dec.{ltb}
use borrow.Author.Tests.{ltb-true, ltb-false}
use Rattle.model.specs.Memories.{external_base}
use Rattle.model.specs.Lines.{l1d_data}
use Rattle.model.specs.Records.{State, sram_of, l2_data, l1d_line_at, l2_line_at}
use Rattle.model.specs.Refusals.{lent_due}
use Rattle.model.specs.Calls.{fresh_ok}
use Rattle.model.specs.Laws.{bool, false-true}
use Rattle.two_runs.specs.TwoRuns.{SameButStored, SameButOneByte, SameStateBut}
use Rattle.two_runs.proofs.Areas.{Area}
use Rattle.two_runs.proofs.Pair.{Layout, layout_of, Pair, pair-stored}
use Rattle.two_runs.proofs.Calling.{start-pair}
use Rattle.two_runs.proofs.Behaviour.{pair-legal}

-- bytes c and d stand for address a
pub record Byte (x a c d : ℕ) : Type 0 where
  pub same : a ≢ x → c ≡ d
  pub below : c < 256
  pub below' : d < 256

pub zero-byte : (x a : ℕ) → Byte x a 0 0
zero-byte x a = record { same = λ _. refl; below = omega arith; below' = omega arith }

pub equal-byte : {x a c d : ℕ} → c ≡ d → c < 256 → Byte x a c d
equal-byte e h = record { same = λ _. e; below = h; below' = omega arith }

-- byte i is the same in both memories
abbrev pub SameAt : List ℕ → List ℕ → ℕ → Type 0
SameAt m m' i = (get_or m i 0 ≡ get_or m' i 0) × (get_or m i 0 < 256)

pub record Along (x : ℕ) (z z' : State) : Type 0 where
  pub external : external_base ≤ x
  pub stored : SameButStored z z'
  pub l1d : (s w : ℕ) → (l1d_line_at z.rec s w).valid ≡ true → Area (Byte x) (l1d_line_at z.rec s w).address (l1d_data s w) 64 z.l1d z'.l1d
  pub l2 : (t v : ℕ) → (l2_line_at z.rec t v).valid ≡ true → Area (Byte x) (l2_line_at z.rec t v).address (l2_data z.rec t v) 128 z.l2 z'.l2
  pub sram : (i : ℕ) → i < sram_of z.rec → SameAt z.l2 z'.l2 i
  pub ext : (i : ℕ) → Byte x (external_base + i) (get_or z.ext i 0) (get_or z'.ext i 0)
  -- where a length is illegal, so that no call is ever accepted, L2 is as it was lent
  pub lent : fresh_ok z.l1d z.l2 z.ext ≡ false → (i : ℕ) → SameAt z.l2 z'.l2 i

pub sram-area : {x : ℕ} {z z' : State} → Along x z z' → Area (Byte x) 0 0 (sram_of z.rec) z.l2 z'.l2
sram-area h = record { byte = λ i k. let j : 0 + i ≡ i = omega arith in let b = h.sram i k in rw j (equal-byte b.0 b.1) }

pub ext-area : {x : ℕ} {z z' : State} → Along x z z' → (n : ℕ) → Area (Byte x) external_base 0 n z.ext z'.ext
ext-area h n = record { byte = λ i _. let j : 0 + i ≡ i = omega arith in rw j (h.ext i) }

-- ---- at the start, and what it says
pub along-start : (x : ℕ) (z z' : State) → SameButOneByte x z z' → Along x z z'
along-start x z z' o =
    let d : (i : ℕ) → get_or z.l1d i 0 ≡ get_or z'.l1d i 0 = λ i. ap (λ (l : List ℕ). get_or l i 0) o.l1d in
    let m : (i : ℕ) → get_or z.l2 i 0 ≡ get_or z'.l2 i 0 = λ i. ap (λ (l : List ℕ). get_or l i 0) o.l2 in
    record {
      external = o.external;
      stored = record { rec = o.rec; l1d = ap length o.l1d; l2 = ap length o.l2; ext = o.ext.long };
      l1d = λ s w _. record { byte = λ i _. equal-byte (d (l1d_data s w + i)) (o.l1d_bytes (l1d_data s w + i)) };
      l2 = λ t v _. record { byte = λ i _. equal-byte (m (l2_data z.rec t v + i)) (o.l2_bytes (l2_data z.rec t v + i)) };
      sram = λ i _. (m i, o.l2_bytes i);
      ext = λ i. record { same = o.ext.byte i; below = o.ext_bytes i; below' = o.ext_bytes' i };
      lent = λ _ i. (m i, o.l2_bytes i);
    }

pub along-says : (x : ℕ) (z z' : State) → Along x z z' → SameStateBut x z z'
along-says x z z' h =
    record {
      ext = record { long = h.stored.ext; byte = λ i n. (h.ext i).same n };
      sram = λ i k. (h.sram i k).0;
      l1d = λ s w v k hk n. ((h.l1d s w v).byte k hk).same n;
      l2 = λ t v y k hk n. ((h.l2 t v y).byte k hk).same n;
    }

-- ---- a `Pair` before a call that checks 1 and 2 let pass, and after it
pub along-pair : (x : ℕ) (z z' : State) → Along x z z' → lent_due z ≡ 0 → Pair (Byte x) (layout_of z.rec) z z'
along-pair x z z' h u =
    let s = h.stored in
    start-pair (Byte x) z z' s.rec s.l1d s.l2 s.ext u h.l1d h.l2 (sram-area h) (ext-area h z.rec.extlen)

pub pair-along : {x : ℕ} {g : Layout} {z z' : State} → external_base ≤ x → Pair (Byte x) g z z' → Along x z z'
pair-along {x} {g} {z} {z'} b q =
    let h = q.sizes in let e = h.sram in let l = h.ext_length in let l' = h.ext_same in let lo = h.below in
    record {
      external = b;
      stored = pair-stored q;
      l1d = q.l1d.bytes;
      l2 = q.l2.bytes;
      sram = λ i k.
          let j : 0 + i ≡ i = omega arith in let c = q.sram.byte i (omega arith) in
          (rw j at (c.same (omega arith)), rw j at c.below);
      ext = λ i.
          bool (ltb i g.ext)
          (λ t. let j : 0 + i ≡ i = omega arith in rw j at (q.ext.byte i (ltb-true i g.ext t)))
          (λ t. let t' = ltb-false i g.ext t in
          rw (get_or-eq_default z.ext 0 {n = i} (omega arith), get_or-eq_default z'.ext 0 {n = i} (omega arith)) (zero-byte x (external_base + i)));
      lent = λ u. false-true (sym u ∙ pair-legal q);
    }
