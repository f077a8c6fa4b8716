-- An L2 line goes out to external memory, is written back with its halves, leaves, or comes in. Shown: the state
-- stays good, and what each step leaves.
-- Why: once L1D holds nothing of the line (its halves were taken in), the L2 bytes are right, so external memory is
-- right after they went there, and a clean line may leave. A line that comes in is right because no dirty line held
-- it.
use Prim.Native.Nat.{ℕ, ◌+◌, ◌-◌, ◌≤◌, ◌<◌}
use mathlib.Core.Bool.{false, cond}
use mathlib.Core.Path.{◌≡◌, refl, sym, ap, ◌∙◌}
use mathlib.Core.Logic.{◌≢◌}
use mathlib.Core.List.{List}
use native.Mathlib.Omega.{arith}
use lib.ListN.{length, get_or}
use lib.Dec.{ltb}
use borrow.Author.Tests.{ltb-true, ltb-false}
use Rattle.model.specs.Bytes.{stored, part}
use Rattle.model.specs.Memories.{external_base}
use Rattle.model.specs.Lines.{empty_line, line_of}
use Rattle.model.specs.Records.{State, with_record, with_external, l2_sets_of, l2_data, mar_bit, no_l1d_set, l1d_line_at, l2_line_at, with_l2_line}
use Rattle.model.specs.Ways.{empty_l2}
use Rattle.model.specs.Homes.{take_halves, write_out_l2, writeback_l2, evict_l2, fill_l2}
use Rattle.model.specs.Laws.{bool, false-true, cond-elim, length-stored, length_part}
use Rattle.model.specs.declared.Line.{Line}
use Rattle.model.specs.declared.L1dSet.{L1dSet}
use Rattle.model.specs.declared.Record.{Record}
use Rattle.agreement.proofs.Level.{Valid, Other, Replaced, kept-valid, kept-address}
use Rattle.agreement.proofs.Invariant.{Allowed, L2Placed, Invariant, invariant-same, l2-cleaned, l2-dropped, l2-filled}
use Rattle.agreement.proofs.Memory.{memory-low, memory-high, copied-in, copied-out}
use Rattle.agreement.proofs.Good.{layout_of, l1d_level, l2_level, memory_of, Good, Kept, kept_refl, kept_trans, l2-fits, l2-rest, l2-replaced, l2-tidy}
use Rattle.agreement.proofs.Evict.{Clear, l2-keeps-memory, take_halves-good}

-- ---- an L2 line goes out if it is dirty, and stays, clean
pub record WrittenOut (z : State) (F : Allowed) (t v : ℕ) (z' : State) : Type 0 where
  pub good : Good z' F
  pub kept : Kept z z'
  pub lines : z'.rec.l1d ≡ z.rec.l1d
  pub valid : (t' v' : ℕ) → (l2_line_at z'.rec t' v').valid ≡ (l2_line_at z.rec t' v').valid
  pub address : (t' v' : ℕ) → (l2_line_at z'.rec t' v').address ≡ (l2_line_at z.rec t' v').address
  pub others : (t' v' : ℕ) → Other t v t' v' → l2_line_at z'.rec t' v' ≡ l2_line_at z.rec t' v'
  pub clean : Valid (l2_level z') t v → (l2_line_at z'.rec t v).dirty ≡ false

module _ (z : State) (F : Allowed) (q : Good z F) (t v : ℕ) (ht : t < l2_sets_of z.rec) (hv : v < 4) where
  abbrev b : ℕ
  b = (l2_line_at z.rec t v).address

  abbrev cleaned : State
  cleaned =
      with_external (with_record z (with_l2_line z.rec t v (line_of (l2_line_at z.rec t v).address false)))
      (stored z.ext (b - external_base) (part z.l2 (l2_data z.rec t v) 128))

  out-dirty : Valid (l2_level z) t v → Clear z t v → WrittenOut z F t v cleaned
  unfolding with_l2_line mar_bit
  out-dirty k c =
      let p = q.inv.l2_sound.place t v k in
      let al = p.aligned in let lo = p.low in let hi = p.high in let le = q.tidy.sizes.ext_length in
      let l = line_of (l2_line_at z.rec t v).address false in
      let e' = stored z.ext (b - external_base) (part z.l2 (l2_data z.rec t v) 128) in
      let z' = cleaned in
      let f₂ = l2-fits z q.tidy t v ht hv in
      let fe : b - external_base + 128 ≤ length z.ext = omega arith in
      let u : Replaced 128 (l2_level z) (l2_level z') t v l = l2-replaced z q.tidy t v l z.l1d z.l2 e' ht hv (λ _ _ _ _ _ _. refl) in
      record {
        good = record {
          tidy = l2-tidy z q.tidy t v l z.l1d z.l2 e' ht hv (λ x. false-true (sym x)) refl refl
              (length-stored z.ext (part z.l2 (l2_data z.rec t v) 128) (b - external_base));
          inv = l2-cleaned (layout_of z.rec) (l1d_level z) (l2_level z) (memory_of z) F q.inv (l2_level z') t v (memory_of z') k u (λ _ _. refl)
              (λ i h s w k' _ e. let a = (q.inv.l1d_sound.place s w k').aligned in c s w k' (omega arith))
              (λ i h. let j : b + i - external_base ≡ b - external_base + i = omega arith in
              memory-high z.l2 e' (b + i) (omega arith) ∙ rw j (copied-in z.ext z.l2 (b - external_base) (l2_data z.rec t v) 128 fe f₂ i h))
              (λ a l' n. bool (ltb a external_base)
              (λ x. let x' = ltb-true a external_base x in memory-low z.l2 e' a x' ∙ sym (memory-low z.l2 z.ext a x'))
              (λ x. let x' = ltb-false a external_base x in
              memory-high z.l2 e' a x'
              ∙ copied-out z.ext z.l2 (b - external_base) (l2_data z.rec t v) 128 fe f₂ (a - external_base) (λ g. omega arith)
              ∙ sym (memory-high z.l2 z.ext a x')));
        };
        kept = record { mode = refl; layout = refl; l2len = refl };
        lines = refl;
        valid = kept-valid 128 (l2_level z) (l2_level z') t v false k u;
        address = kept-address 128 (l2_level z) (l2_level z') t v false k u;
        others = u.others;
        clean = λ _. ap (λ (r : Line). r.dirty) u.here;
      }

  out-same : (Valid (l2_level z) t v → (l2_line_at z.rec t v).dirty ≡ false) → WrittenOut z F t v z
  out-same c = record { good = q; kept = kept_refl z; lines = refl; valid = λ _ _. refl; address = λ _ _. refl; others = λ _ _ _. refl; clean = c }

  pub write_out_l2-good : (Valid (l2_level z) t v → Clear z t v) → WrittenOut z F t v (write_out_l2 t v z)
  unfolding write_out_l2
  write_out_l2-good c =
      cond-elim (WrittenOut z F t v) (l2_line_at z.rec t v).valid (cond (l2_line_at z.rec t v).dirty cleaned z) z
      (λ k. cond-elim (WrittenOut z F t v) (l2_line_at z.rec t v).dirty cleaned z (λ d. out-dirty k (c k)) (λ d. out-same (λ _. d)))
      (λ k. out-same (λ k'. false-true (sym k ∙ k')))

-- ---- writeback of an L2 slot, with or without invalidation: it is done, clean or empty, and L1D holds nothing of it
abbrev pub Done : State → ℕ → ℕ → Type 0
Done z t v = Valid (l2_level z) t v → ((l2_line_at z.rec t v).dirty ≡ false) × Clear z t v

pub record Swept (z : State) (F : Allowed) (t v : ℕ) (z' : State) : Type 0 where
  pub good : Good z' F
  pub kept : Kept z z'
  pub fewer : (s w : ℕ) → Valid (l1d_level z') s w → l1d_line_at z'.rec s w ≡ l1d_line_at z.rec s w
  pub valid : (t' v' : ℕ) → Other t v t' v' → (l2_line_at z'.rec t' v').valid ≡ (l2_line_at z.rec t' v').valid
  pub address : (t' v' : ℕ) → Other t v t' v' → (l2_line_at z'.rec t' v').address ≡ (l2_line_at z.rec t' v').address
  pub unsoiled : (t' v' : ℕ) → Other t v t' v' → Clear z t' v' → (l2_line_at z'.rec t' v').dirty ≡ (l2_line_at z.rec t' v').dirty
  pub done : Done z' t v

same_lines : (r r' : Record) → r'.l1d ≡ r.l1d → (s w : ℕ) → l1d_line_at r' s w ≡ l1d_line_at r s w
same_lines r r' e s w = ap (λ (l : List L1dSet). get_or (get_or l s no_l1d_set).lines w empty_line) e

pub record L2Evicted (z : State) (F : Allowed) (t v : ℕ) (z' : State) : Type 0 where
  pub swept : Swept z F t v z'
  pub gone : l2_line_at z'.rec t v ≡ empty_line

module _ (z : State) (F : Allowed) (q : Good z F) (t v : ℕ) (ht : t < l2_sets_of z.rec) (hv : v < 4) where
  writeback-valid : Valid (l2_level z) t v → Swept z F t v (write_out_l2 t v (take_halves t v (l2_line_at z.rec t v).address z))
  writeback-valid k =
      let b = (l2_line_at z.rec t v).address in
      let z₁ = take_halves t v b z in
      let h = take_halves-good z F q t v b k refl in
      let l = h.left in
      let c : Clear z₁ t v = λ s w k' e. h.none s w k' (e ∙ l.address t v) in
      let o = write_out_l2-good z₁ F l.good t v (rw l.kept.mode ht) hv (λ _. c) in
      let z' = write_out_l2 t v z₁ in
      let same : (s w : ℕ) → l1d_line_at z'.rec s w ≡ l1d_line_at z₁.rec s w = same_lines z₁.rec z'.rec o.lines in
      record {
        good = o.good;
        kept = kept_trans z z₁ z' l.kept o.kept;
        fewer = λ s w k'. let e = same s w in e ∙ l.fewer s w (rw e at k');
        valid = λ t' v' _. o.valid t' v' ∙ l.valid t' v';
        address = λ t' v' _. o.address t' v' ∙ l.address t' v';
        unsoiled = λ t' v' n f. ap (λ (r : Line). r.dirty) (o.others t' v' n) ∙ l.unsoiled t' v' f;
        done = λ k₁. (o.clean k₁, λ s w k' e. let x = same s w in c s w (rw x at k') (rw (x, o.address t v) at e));
      }

  pub writeback_l2-good : Swept z F t v (writeback_l2 t v z)
  unfolding writeback_l2
  writeback_l2-good =
      cond-elim (Swept z F t v) (l2_line_at z.rec t v).valid (write_out_l2 t v (take_halves t v (l2_line_at z.rec t v).address z)) z
      writeback-valid
      (λ k. record {
        good = q;
        kept = kept_refl z;
        fewer = λ _ _ _. refl;
        valid = λ _ _ _. refl;
        address = λ _ _ _. refl;
        unsoiled = λ _ _ _ _. refl;
        done = λ k'. false-true (sym k ∙ k');
      })

  pub evict_l2-good : L2Evicted z F t v (evict_l2 t v z)
  unfolding evict_l2 empty_l2 with_l2_line mar_bit
  evict_l2-good =
      let g = writeback_l2-good in
      let z₁ = writeback_l2 t v z in
      let z' = empty_l2 t v z₁ in
      let ht₁ : t < l2_sets_of z₁.rec = rw g.kept.mode ht in
      let u : Replaced 128 (l2_level z₁) (l2_level z') t v empty_line =
      l2-replaced z₁ g.good.tidy t v empty_line z₁.l1d z₁.l2 z₁.ext ht₁ hv (λ _ _ _ _ _ _. refl) in
      record {
        swept = record {
          good = record {
            tidy = l2-tidy z₁ g.good.tidy t v empty_line z₁.l1d z₁.l2 z₁.ext ht₁ hv (λ _. refl) refl refl refl;
            inv = l2-dropped (layout_of z₁.rec) (l1d_level z₁) (l2_level z₁) (memory_of z₁) F g.good.inv (l2_level z') t v u
                (λ k. (g.done k).0) (λ k. (g.done k).1);
          };
          kept = record { mode = g.kept.mode; layout = g.kept.layout; l2len = g.kept.l2len };
          fewer = g.fewer;
          valid = λ t' v' n. ap (λ (r : Line). r.valid) (u.others t' v' n) ∙ g.valid t' v' n;
          address = λ t' v' n. ap (λ (r : Line). r.address) (u.others t' v' n) ∙ g.address t' v' n;
          unsoiled = λ t' v' n f. ap (λ (r : Line). r.dirty) (u.others t' v' n) ∙ g.unsoiled t' v' n f;
          done = λ k. false-true (sym (ap (λ (r : Line). r.valid) u.here) ∙ k);
        };
        gone = u.here;
      }

-- ---- line b comes into an empty L2 way from external memory
pub record L2Filled (z : State) (F : Allowed) (t v b : ℕ) (z' : State) : Type 0 where
  pub good : Good z' F
  pub kept : Kept z z'
  pub lines : z'.rec.l1d ≡ z.rec.l1d
  pub here : l2_line_at z'.rec t v ≡ line_of b false

pub fill_l2-good : (z : State) (F : Allowed) → Good z F → (t v b : ℕ) → (Valid (l2_level z) t v → ⊥) → L2Placed (layout_of z.rec) t v b →
    ((t' v' : ℕ) → Valid (l2_level z) t' v' → (l2_line_at z.rec t' v').address ≢ b) → L2Filled z F t v b (fill_l2 t v b z)
unfolding fill_l2 with_l2_line mar_bit
fill_l2-good z F q t v b room p none =
    let ht = p.set_used in let hv = p.way in
    let al = p.aligned in let lo = p.low in let hi = p.high in let le = q.tidy.sizes.ext_length in
    let l = line_of b false in
    let bs = part z.ext (b - external_base) 128 in
    let m' = stored z.l2 (l2_data z.rec t v) bs in
    let z' = fill_l2 t v b z in
    let f₂ = l2-fits z q.tidy t v ht hv in
    let fe : b - external_base + 128 ≤ length z.ext = omega arith in
    let n = length_part z.ext (b - external_base) 128 fe in
    let o : l2_data z.rec t v + 0 ≡ l2_data z.rec t v = omega arith in
    let r : (s' w' : ℕ) → Other t v s' w' → Valid (l2_level z) s' w' → (i : ℕ) → i < 128 →
    get_or m' (l2_data z.rec s' w' + i) 0 ≡ get_or z.l2 (l2_data z.rec s' w' + i) 0 =
    rw o at (l2-rest z q.tidy F q t v 0 bs ht hv (omega arith)) in
    let u : Replaced 128 (l2_level z) (l2_level z') t v l = l2-replaced z q.tidy t v l z.l1d m' z.ext ht hv r in
    let i₁ : Invariant (layout_of z.rec) (l1d_level z) (l2_level z') (memory_of z) F =
    l2-filled (layout_of z.rec) (l1d_level z) (l2_level z) (memory_of z) F q.inv (l2_level z') t v b u room p none
    (λ i h. let j : b - external_base + i ≡ b + i - external_base = omega arith in
    copied-in z.l2 z.ext (l2_data z.rec t v) (b - external_base) 128 f₂ fe i h
    ∙ rw j (sym (memory-high z.l2 z.ext (b + i) (omega arith)))) in
    record {
      good = record {
        tidy = l2-tidy z q.tidy t v l z.l1d m' z.ext ht hv (λ x. false-true (sym x)) refl (length-stored z.l2 bs (l2_data z.rec t v)) refl;
        inv = invariant-same (layout_of z.rec) (l1d_level z) (l2_level z') (memory_of z) F i₁ (l1d_level z') (l2_level z') (memory_of z')
            (λ _ _. refl) (λ _ _ _ _ _. refl) (λ _ _. refl) (λ _ _ _ _ _. refl)
            (λ a l'. l2-keeps-memory z F q (l2_data z.rec t v) bs (omega arith) (omega arith) a l');
      };
      kept = record { mode = refl; layout = refl; l2len = refl };
      lines = refl;
      here = u.here;
    }
