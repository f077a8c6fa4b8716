-- L1P's lines stay as they may stand (`L1pTidy`) through every command. Why: only a mode change and a change of a MAR
-- bit change what fixes where lines may stand (`layout-kept`); the first drops them all, and a bit is cleared only
-- where no line of its range is held (`tidy-mar`). And the test of check 2 is this (`tidy-tells`, `tidy-makes`).
use Prim.Native.Nat.{ℕ, zero, suc, ◌+◌, ◌/◌, ◌%◌, ◌≤◌, ◌<◌}
use mathlib.Core.Bool.{Bool, true, false, not, cond}
use mathlib.Core.Path.{◌≡◌, refl, sym, ap, ◌∙◌}
use mathlib.Core.Logic.{◌⊎◌, ⊎_elim}
use mathlib.Core.List.{List, [], ◌∷◌}
use native.Mathlib.Omega.{arith}
use lib.ListN.{length}
use lib.Dec.{ltb, leb, eqb}
use borrow.Author.Tests.{eqb-true, eqb-false, eq-eqb, lt-ltb, le-ltb, ltb-true, ltb-false, leb-true, le-leb}
use Rattle.model.specs.Basics.{any_of}
use Rattle.model.specs.Bytes.{little_bytes}
use Rattle.model.specs.Memories.{external_base}
use Rattle.model.specs.Lines.{empty_line}
use Rattle.model.specs.Records.{State, sram_of, covers, mar_bit, in_sram, in_cacheable, empty_way}
use Rattle.model.specs.Modes.{change_mar, change_freeze}
use Rattle.model.specs.Commands.{l2_writeback_block, l2_writeback_invalidate_block, l1d_writeback_invalidate_block}
use Rattle.model.specs.Refusals.{in_range, access_due, block_due, freeze_due}
use Rattle.model.specs.Trace.{command}
use Rattle.model.specs.Calls.{Reply, refused, carried_out, command_due, read_done, write_done, command_state, accepted, step}
use Rattle.model.specs.Laws.{bool, cond-elim, both_true, false-true}
use Rattle.model.specs.declared.Line.{Line}
use Rattle.model.specs.declared.Command.{Command}
use Rattle.model.specs.declared.Record.{Record}
use Rattle.agreement.proofs.Good.{layout_of, Anything, Well}
use Rattle.agreement.proofs.Due.{accepted-read, accepted-write}
use Rattle.agreement.proofs.Steps.{codes, dropped-6, dropped-8, dropped-9, other-code}
use Rattle.agreement.proofs.Sweeps.{l2_writeback_all-good, l2_writeback_invalidate_all-good, l2_writeback_block-good, l2_writeback_invalidate_block-good, l1d_writeback_invalidate_block-good}
use Rattle.agreement.proofs.Tested.{all-tells, all_build}
use Rattle.agreement.proofs.Unaligned.{anything-written}
use Rattle.program.specs.L1p.{l1p_at, own_l1p_set, l1p_region, l1p_line_ok, l1p_ok, l1p_holds_range}
use Rattle.program.proofs.L1pLines.{L1pPlaced, LineFits, L1pTidy}

-- ---- booleans
not-tells : (b : Bool) → not b ≡ true → b ≡ false
not-tells false e = refl
not-tells true e = false-true e

-- ---- the test of one line
module _ (r : Record) (s : ℕ) (x : Line) where
  region-tells : (a : ℕ) → l1p_region r a ≡ true → (a < external_base → a + 32 ≤ sram_of r) × (external_base ≤ a → (a + 32 ≤ external_base + r.extlen) × (mar_bit r a ≡ true))
  unfolding l1p_region in_sram in_cacheable
  region-tells a e = (
    λ l. leb-true (a + 32) (sram_of r) (rw (lt-ltb a external_base l) at e),
    λ l. let p = both_true (leb (a + 32) (external_base + r.extlen)) (mar_bit r a) (rw (le-ltb a external_base l) at e) in (leb-true (a + 32) (external_base + r.extlen) p.0, p.1),
  )

  region-makes : (a : ℕ) → (a < external_base → a + 32 ≤ sram_of r) → (external_base ≤ a → a + 32 ≤ external_base + r.extlen) → (external_base ≤ a → mar_bit r a ≡ true) → l1p_region r a ≡ true
  unfolding l1p_region in_sram in_cacheable
  region-makes a low high mar =
      bool (ltb a external_base) (λ t. rw t (le-leb (a + 32) (sram_of r) (low (ltb-true a external_base t))))
      (λ t. let l = ltb-false a external_base t in rw (t, le-leb (a + 32) (external_base + r.extlen) (high l), mar l) refl)

  line-tells : l1p_line_ok r s x ≡ true → LineFits (layout_of r) s x
  unfolding l1p_line_ok own_l1p_set empty_way
  line-tells e =
      bool x.valid
      (λ t. let p = both_true (not x.dirty) _ (rw t at e) in let p₂ = both_true _ (l1p_region r x.address) p.1 in
      let p₃ = both_true (eqb (x.address % 32) 0) (eqb s (x.address / 32 % 512)) p₂.0 in let g = region-tells x.address p₂.1 in
      record {
        clean = not-tells x.dirty p.0;
        placed = λ _. record {
          aligned = eqb-true (x.address % 32) 0 p₃.0;
          own_set = eqb-true s (x.address / 32 % 512) p₃.1;
          low = g.0;
          high = λ l. (g.1 l).0;
          mar_set = λ l. (g.1 l).1;
        };
        empty = λ n. false-true (sym n ∙ t);
      })
      (λ t. let p = both_true (not x.dirty) (eqb x.address 0) (rw t at e) in
      record { clean = not-tells x.dirty p.0; placed = λ y. false-true (sym t ∙ y); empty = λ _. eqb-true x.address 0 p.1 })

  line-makes : LineFits (layout_of r) s x → l1p_line_ok r s x ≡ true
  unfolding l1p_line_ok own_l1p_set empty_way
  line-makes f =
      let c = f.clean in
      bool x.valid
      (λ t. let p = f.placed t in let g = region-makes x.address p.low p.high p.mar_set in
      rw (t, c, eq-eqb (x.address % 32) 0 p.aligned, eq-eqb s (x.address / 32 % 512) p.own_set, g) refl)
      (λ t. rw (t, c, eq-eqb x.address 0 (f.empty t)) refl)

pub tidy-tells : (r : Record) (ls : List Line) → length ls ≡ 512 → l1p_ok r ls ≡ true → L1pTidy (layout_of r) ls
unfolding l1p_ok
tidy-tells r ls l e = record { long = l; fits = λ s h. line-tells r s (l1p_at ls s) (all-tells (l1p_line_ok r) empty_line ls e s (rw l h)) }

pub tidy-makes : (r : Record) (ls : List Line) → L1pTidy (layout_of r) ls → l1p_ok r ls ≡ true
unfolding l1p_ok
tidy-makes r ls t =
    let l = t.long in all_build (l1p_line_ok r) empty_line ls 0 (λ j h. let e : 0 + j ≡ j = omega arith in rw e (line-makes r j (l1p_at ls j) (t.fits j (rw l at h))))

-- ---- what fixes where lines may stand is as it was
module _ (z : State) (q : Well z) (a b v : ℕ) where
  abbrev Kept : ℕ → Type 0
  Kept k = layout_of (step (command k a b v) z).next.rec ≡ layout_of z.rec

  kept-unless : (d : ℕ) (r : Reply) → (d ≡ 0 → layout_of r.next.rec ≡ layout_of z.rec) → layout_of (cond (eqb d 0) r (refused d z)).next.rec ≡ layout_of z.rec
  kept-unless d r f = cond-elim (λ (x : Reply). layout_of x.next.rec ≡ layout_of z.rec) (eqb d 0) r (refused d z) (λ t. f (eqb-true d 0 t)) (λ _. refl)

  kept-0 : Kept 0
  unfolding step command_due accepted read_done
  kept-0 = kept-unless (access_due (sram_of z.rec) z.rec.extlen a b 0) (read_done a b z) (λ d. (accepted-read z Anything q a b d).kept.layout)

  kept-1 : Kept 1
  unfolding step command_due accepted write_done
  kept-1 =
      kept-unless (access_due (sram_of z.rec) z.rec.extlen a b v) (write_done a b v z)
      (λ d. (accepted-write z Anything q a b Anything v (anything-written b (little_bytes v a)) d).kept.layout)

  kept-2 : Kept 2
  unfolding step command_due accepted command_state
  kept-2 = (l2_writeback_all-good z Anything q).step.kept.layout

  kept-3 : Kept 3
  unfolding step command_due accepted command_state
  kept-3 = (l2_writeback_invalidate_all-good z Anything q).step.kept.layout

  kept-4 : Kept 4
  unfolding step command_due accepted command_state
  kept-4 = kept-unless (block_due a b) (carried_out (l2_writeback_block a b z)) (λ _. (l2_writeback_block-good z Anything q a b).kept.layout)

  kept-5 : Kept 5
  unfolding step command_due accepted command_state
  kept-5 = kept-unless (block_due a b) (carried_out (l2_writeback_invalidate_block a b z)) (λ _. (l2_writeback_invalidate_block-good z Anything q a b).kept.layout)

  kept-7 : Kept 7
  unfolding step command_due accepted command_state
  kept-7 = kept-unless (block_due a b) (carried_out (l1d_writeback_invalidate_block a b z)) (λ _. (l1d_writeback_invalidate_block-good z Anything q a b).kept.layout)

  kept-12 : Kept 12
  unfolding step command_due accepted command_state change_freeze mar_bit
  kept-12 = kept-unless (freeze_due a) (carried_out (change_freeze a z)) (λ _. refl)

  kept-other : (k : ℕ) → 13 ≤ k → Kept k
  kept-other k h = ap (λ (r : Reply). layout_of r.next.rec) (other-code k a b v z h)

pub layout-kept : (c : Command) (z : State) → Well z → eqb c.code 10 ≡ false → eqb c.code 11 ≡ false → layout_of (step c z).next.rec ≡ layout_of z.rec
layout-kept c z q =
    let a = c.first in let b = c.second in let v = c.value in
    codes (λ (k : ℕ). eqb k 10 ≡ false → eqb k 11 ≡ false → Kept z q a b v k)
    (λ _ _. kept-0 z q a b v) (λ _ _. kept-1 z q a b v) (λ _ _. kept-2 z q a b v) (λ _ _. kept-3 z q a b v) (λ _ _. kept-4 z q a b v) (λ _ _. kept-5 z q a b v)
    (λ _ _. (dropped-6 z q a b v).step.kept.layout) (λ _ _. kept-7 z q a b v) (λ _ _. (dropped-8 z q a b v).step.kept.layout) (λ _ _. (dropped-9 z q a b v).step.kept.layout)
    (λ n _. false-true (sym n)) (λ _ n. false-true (sym n)) (λ _ _. kept-12 z q a b v) (λ k h _ _. kept-other z q a b v k h)
    c.code

-- ---- a MAR bit is set, or no line of its range is held
any_at : (p : Line → Bool) (ls : List Line) (s : ℕ) → s < length ls → p (l1p_at ls s) ≡ true → any_of p ls ≡ true
unfolding any_of
any_at p [] s h e = absurd (omega arith)
any_at p (x ∷ ls) zero h e = rw e refl
any_at p (x ∷ ls) (suc s) h e = bool (p x) (λ t. rw t refl) (λ t. rw t (any_at p ls s (omega arith) e))

-- the bit of MAR n that a line of its range has
mar-set : (n b a s : ℕ) (ls : List Line) → s < length ls → (l1p_at ls s).valid ≡ true → (l1p_at ls s).address ≡ a → covers n a ≡ true →
    (b ≡ 1) ⊎ (l1p_holds_range n ls ≡ false) → eqb b 1 ≡ true
unfolding l1p_holds_range in_range
mar-set n b a s ls h v ea c d =
    ⊎_elim (λ e. eq-eqb b 1 e) (λ e. false-true (sym e ∙ any_at (in_range n) ls s h (rw (v, ea, c) refl))) d

module _ (z : State) (q : Well z) (n b : ℕ) (ls : List Line) (t : L1pTidy (layout_of z.rec) ls) (d : (b ≡ 1) ⊎ (l1p_holds_range n ls ≡ false)) where
  abbrev z' : State
  z' = change_mar n b z

  bit-stays : (s : ℕ) → s < 512 → (l1p_at ls s).valid ≡ true → external_base ≤ (l1p_at ls s).address → mar_bit z'.rec (l1p_at ls s).address ≡ true
  unfolding change_mar mar_bit covers
  bit-stays s h v l =
      let a = (l1p_at ls s).address in let p = (t.fits s h).placed v in let hi = p.high l in let most = q.tidy.sizes.ext_most in let old = p.mar_set l in let lo = t.long in
      bool (eqb (a / 0x1000000) 128)
      (λ c. bool (eqb n 128)
      (λ i. rw (c, i) (mar-set n b a s ls (omega arith) v refl (let j = eqb-true n 128 i in rw j c) d))
      (λ i. rw (c, i) (rw c at old)))
      (λ c. let c₁ = eqb-false (a / 0x1000000) 128 c in let k : a / 0x1000000 ≡ 129 = omega arith in
      bool (eqb n 129)
      (λ i. rw (c, i) (mar-set n b a s ls (omega arith) v refl (let j = eqb-true n 129 i in rw j (eq-eqb (a / 0x1000000) 129 k)) d))
      (λ i. rw (c, i) (rw c at old)))

  pub tidy-mar : L1pTidy (layout_of z'.rec) ls
  unfolding change_mar
  tidy-mar =
      record {
        long = t.long;
        fits = λ s h. let f = t.fits s h in
            record {
              clean = f.clean;
              placed = λ v. let p = f.placed v in record { aligned = p.aligned; own_set = p.own_set; low = lower p; high = higher p; mar_set = λ l. bit-stays s h v l };
              empty = f.empty;
            };
      }
    where
      lower : {s a : ℕ} → L1pPlaced (layout_of z.rec) s a → a < external_base → a + 32 ≤ sram_of z'.rec
      lower p = p.low

      higher : {s a : ℕ} → L1pPlaced (layout_of z.rec) s a → external_base ≤ a → a + 32 ≤ external_base + z'.rec.extlen
      higher p = p.high
