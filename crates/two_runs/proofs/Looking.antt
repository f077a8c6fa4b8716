-- The view, in the two runs of the second sentence: each byte of the line shown that does not stand for address x is
-- the same in both. Why: a view that is not refused shows a stretch of SRAM or of external memory (`look-tells`), and
-- both are areas.
use Prim.Native.Nat.{ℕ, zero, suc, ◌+◌, ◌-◌, ◌≤◌, ◌<◌}
use mathlib.Core.Bool.{◌&&◌}
use mathlib.Core.Path.{◌≡◌, refl, sym, ◌∙◌}
use mathlib.Core.Logic.{◌≢◌}
use mathlib.Core.List.{List, []}
use native.Mathlib.Omega.{arith}
use lib.ListN.{length, get_or-eq_default}
use lib.Dec.{ltb, eqb}
use borrow.Author.Tests.{ltb-true, ltb-false, leb-true, eqb-true, lt-ltb, le-ltb}
use Rattle.model.specs.Bytes.{part}
use Rattle.model.specs.Memories.{external_base, legal_l2, legal_external}
use Rattle.model.specs.Records.{State, with_l1d, sram_of, well_formed}
use Rattle.model.specs.Homes.{memory_part}
use Rattle.model.specs.Refusals.{lowest_due, unless, multiple_of, lent_l2, lent_external, view_lent_due, place_ok, view_due}
use Rattle.model.specs.Calls.{view_call}
use Rattle.model.specs.Laws.{bool, both_true, lowest_due-none, unless-none, cond_both}
use Rattle.model.specs.declared.Record.{Record}
use Rattle.two_runs.specs.TwoRuns.{SameBytesBut, LineFor}
use Rattle.two_runs.proofs.Areas.{Pairing, Twins, area-part}
use Rattle.two_runs.proofs.Pair.{twin, one-record}
use Rattle.two_runs.proofs.Behaviour.{view-due}
use Rattle.two_runs.proofs.Along.{Byte, Along, sram-area, ext-area}

pub none-due : (n k : ℕ) → lowest_due n k ≡ 0 → (n ≡ 0) × (k ≡ 0)
none-due zero k e = (refl, e)
none-due (suc n) k e = absurd (omega arith)

-- ---- a view that is not refused: the line lies in SRAM, which lies in L2, or in external memory
record Looked (r : Record) (m e : List ℕ) (a : ℕ) : Type 0 where
  low : a < external_base → a + 64 ≤ sram_of r
  high : external_base ≤ a → a + 64 ≤ external_base + r.extlen
  l2_room : sram_of r ≤ length m
  ext_room : r.extlen ≡ length e

look-tells : (r : Record) (m e : List ℕ) (a : ℕ) → view_due r m e a ≡ 0 → Looked r m e a
unfolding view_due view_lent_due lent_l2 lent_external place_ok
look-tells r m e a u =
    let p = none-due (view_lent_due r m e) (lowest_due (unless (multiple_of 64 a) 4) (unless (place_ok (sram_of r) r.extlen 64 a) 5)) u in
    let l = (lowest_due-none (lent_l2 r m && lent_external r e) 0 (unless (well_formed r) 2) p.0).0 in
    let l₀ = both_true (lent_l2 r m) (lent_external r e) l in
    let m₀ = eqb-true (length m) r.l2len (both_true (legal_l2 (length m)) (eqb (length m) r.l2len) l₀.0).1 in
    let e₀ = eqb-true (length e) r.extlen (both_true (legal_external (length e)) (eqb (length e) r.extlen) l₀.1).1 in
    let g = unless-none (place_ok (sram_of r) r.extlen 64 a) 4 (lowest_due-none (multiple_of 64 a) 3 (unless (place_ok (sram_of r) r.extlen 64 a) 5) p.1).1 in
    record {
      low = λ h. leb-true (a + 64) (sram_of r) (rw (lt-ltb a external_base h) at g);
      high = λ h. leb-true (a + 64) (external_base + r.extlen) (rw (le-ltb a external_base h) at g);
      l2_room = omega arith;
      ext_room = sym e₀;
    }

-- ---- the bytes at a, equal where they do not stand for x
abbrev pub But : ℕ → Pairing
But x a c d = a ≢ x → c ≡ d

pub but-twins : {x a n : ℕ} {bs bs' : List ℕ} → Twins (Byte x) a n bs bs' → Twins (But x) a n bs bs'
but-twins t = record { long = t.long; long' = t.long'; byte = λ k h. (t.byte k h).same }

pub twins-but : (x a n : ℕ) (bs bs' : List ℕ) → Twins (But x) a n bs bs' → SameBytesBut (LineFor a x) bs bs'
twins-but x a n bs bs' t =
    let l = t.long in let l' = t.long' in
    record {
      long = l ∙ sym l';
      byte = λ k h. bool (ltb k n) (λ y. t.byte k (ltb-true k n y) h)
          (λ y. let y' = ltb-false k n y in
          get_or-eq_default bs 0 {n = k} (omega arith) ∙ sym (get_or-eq_default bs' 0 {n = k} (omega arith)));
    }

module _ (x : ℕ) (z : State) (d m e : List ℕ) (h : Along x z (twin z d m e)) (a : ℕ) where
  look-accepted : view_due z.rec z.l2 z.ext a ≡ 0 →
      SameBytesBut (LineFor a x) (memory_part a 64 (with_l1d z [])) (memory_part a 64 (with_l1d (twin z d m e) []))
  unfolding memory_part
  look-accepted u =
      let k = look-tells z.rec z.l2 z.ext a u in let s = h.stored in let r₂ = k.l2_room in let r₃ = k.ext_room in
      cond_both (SameBytesBut (LineFor a x)) (ltb a external_base) (part z.l2 a 64) (part z.ext (a - external_base) 64) (part m a 64)
      (part e (a - external_base) 64)
      (λ t. let g = k.low (ltb-true a external_base t) in
      twins-but x a 64 (part z.l2 a 64) (part m a 64)
      (but-twins (area-part (sram-area h) (sym s.l2) (omega arith) a g (omega arith) (omega arith))))
      (λ t. let g = ltb-false a external_base t in let g' = k.high g in
      twins-but x a 64 (part z.ext (a - external_base) 64) (part e (a - external_base) 64)
      (but-twins (area-part (ext-area h (length z.ext)) (sym s.ext) (omega arith) (a - external_base) (omega arith) (omega arith) (omega arith))))

  look-twin : SameBytesBut (LineFor a x) (view_call z.rec z.l2 z.ext a) (view_call z.rec m e a)
  unfolding view_call
  look-twin =
      rw (← (view-due z (twin z d m e) h.stored a))
      (cond_both (SameBytesBut (LineFor a x)) (eqb (view_due z.rec z.l2 z.ext a) 0) (memory_part a 64 (with_l1d z [])) []
      (memory_part a 64 (with_l1d (twin z d m e) [])) [] (λ t. look-accepted (eqb-true (view_due z.rec z.l2 z.ext a) 0 t))
      (λ _. record { long = refl; byte = λ _ _. refl }))

pub look_bytes : (x : ℕ) (z z' : State) → Along x z z' → (a : ℕ) →
    SameBytesBut (LineFor a x) (view_call z.rec z.l2 z.ext a) (view_call z'.rec z'.l2 z'.ext a)
look_bytes x z z' h a =
    one-record (Along x) (SameBytesBut (LineFor a x)) (λ y. view_call y.rec y.l2 y.ext a) (λ y. view_call y.rec y.l2 y.ext a) z
    (λ d m e h₁. look-twin x z d m e h₁ a) z' h.stored.rec h
