-- The step that a code asks for at one way of L2: it leaves S and the number of L2 sets, and a line at which there is
-- nothing to do.
use Rattle.std.specs.Prelude.{ℕ, cond, ◌≡◌, ◌≢◌, eqb}
use Rattle.std.proofs.Math.Bool.{false}
use Rattle.std.proofs.Math.Path.{refl, ap}
use Rattle.std.proofs.Common.{sym, ◌∙◌, eqb-true, ne_eqb}
use mathlib.Core.List.{List}
use Rattle.std.proofs.Math.ListN.{set}
use Rattle.std.proofs.Math.Seq.{set-get_or}
use Rattle.std.proofs.lemmas.Bool.{eqb-false}
use Rattle.model.specs.Lines.{empty_line, l2_put}
use Rattle.model.specs.Records.{State, state, l2_set_at, l2_line_at, with_l2_sets, with_l2_set, with_counts, l2_lines, with_l2_line, no_l2_set}
use Rattle.model.specs.Ways.{empty_l2}
use Rattle.model.specs.Homes.{write_out_l2, writeback_l2, evict_l2}
use Rattle.model.specs.Commands.{drop_l2}
use Rattle.model.specs.Laws.{bool, counted_same}
use Rattle.model.specs.declared.Line.{Line}
use Rattle.model.specs.declared.L2Set.{L2Set}
use Rattle.tags.specs.Sizes.{same-trans, same-empty-l2, same-write-out-l2, same-writeback-l2, same-evict-l2}
use Rattle.kinds.specs.Numbers.{l2_operation_code, l2_of_code}
use Rattle.sweeps.specs.Fixed.{Fixed, drop-l2}
use Rattle.sweeps.specs.Emptied.{clear_l2}
use Rattle.sweeps.specs.Rests.{Rests}

-- ---- the definition that a code asks for at a way of L2: 6 block invalidate, 4 block writeback, 10 and 11 writeback
-- and writeback-invalidate where L1D holds nothing, else writeback-invalidate
unfoldable pub l2_operation : ℕ → ℕ → ℕ → State → State
l2_operation code =
    cond (eqb code 6) drop_l2
    (cond (eqb code 10) write_out_l2 (cond (eqb code 11) clear_l2 (cond (eqb code 4) writeback_l2 evict_l2)))

-- an operation made of a code is that code's, whatever code it is
pub l2_operation-of_code : (k : ℕ) → l2_operation (l2_operation_code (l2_of_code k)) ≡ l2_operation k
unfolding l2_operation
l2_operation-of_code k =
    bool (eqb k 6) (λ e. let c = eqb-true k 6 e in rw c refl)
    (λ e. bool (eqb k 10) (λ f. let c = eqb-true k 10 f in rw c refl)
    (λ f. bool (eqb k 11) (λ g. let c = eqb-true k 11 g in rw c refl)
    (λ g. bool (eqb k 4) (λ h. let c = eqb-true k 4 h in rw c refl) (λ h. rw (e, f, g, h) refl))))

same-clear : (t v : ℕ) → Fixed (clear_l2 t v)
unfolding clear_l2
same-clear t v z =
    let y = write_out_l2 t v z in same-trans (empty_l2 t v y) y z (same-empty-l2 t v y) (same-write-out-l2 t v z)

pub act-fixed : (code t v : ℕ) → Fixed (l2_operation code t v)
unfolding l2_operation
act-fixed code t v =
    bool (eqb code 6) (λ e. rw e (drop-l2 t v))
    (λ e. bool (eqb code 10) (λ f. rw (e, f) (same-write-out-l2 t v))
    (λ f. bool (eqb code 11) (λ g. rw (e, f, g) (same-clear t v))
    (λ g. bool (eqb code 4) (λ h. rw (e, f, g, h) (same-writeback-l2 t v)) (λ h. rw (e, f, g, h) (same-evict-l2 t v)))))

-- ---- an empty way stays as it is, but for block invalidate, which looks for halves; and so does a clean line that
-- would be written out only
module _ (z : State) (t v : ℕ) (empty : l2_line_at z.rec t v ≡ empty_line) where
  invalid : (l2_line_at z.rec t v).valid ≡ false
  invalid = ap (λ (x : Line). x.valid) empty

  empty-out : write_out_l2 t v z ≡ z
  unfolding write_out_l2
  empty-out = rw invalid refl

  empty_back : writeback_l2 t v z ≡ z
  unfolding writeback_l2
  empty_back = rw invalid refl

  empty-empty : empty_l2 t v z ≡ z
  unfolding empty_l2 with_l2_line l2_put
  empty-empty =
      let s = l2_set_at z.rec t in
      let line : set s.lines v empty_line ≡ s.lines =
      ap (set s.lines v) (sym empty) ∙ set-get_or s.lines v empty_line in
      let clean = ap (λ (x : Line). x.dirty) empty in
      let n = counted_same l2_lines z.rec.dirty_l2 (l2_line_at z.rec t v).dirty false clean in
      ap (λ (m : ℕ). state (with_counts (with_l2_set z.rec t (l2_put s v empty_line)) z.rec.dirty_l1d m)
      z.l1d z.l2 z.ext) n
      ∙ ap (λ (l : List Line). state (with_l2_set z.rec t (record { lines = l; order = s.order })) z.l1d z.l2 z.ext)
      line
      ∙ ap (λ (l : List L2Set). state (with_l2_sets z.rec l) z.l1d z.l2 z.ext) (set-get_or z.rec.l2 t no_l2_set)

  act-empty : (code : ℕ) → code ≢ 6 → z ≡ l2_operation code t v z
  unfolding l2_operation evict_l2 clear_l2
  act-empty code h =
      bool (eqb code 10) (λ f. rw (ne_eqb code 6 h, f) (sym empty-out))
      (λ f. bool (eqb code 11) (λ g. rw (ne_eqb code 6 h, f, g) (sym (ap (empty_l2 t v) empty-out ∙ empty-empty)))
      (λ g. bool (eqb code 4) (λ i. rw (ne_eqb code 6 h, f, g, i) (sym empty_back))
      (λ i. rw (ne_eqb code 6 h, f, g, i) (sym (ap (empty_l2 t v) empty_back ∙ empty-empty)))))

-- a clean line is not written out
clean-out : (z : State) (t v : ℕ) → (l2_line_at z.rec t v).dirty ≡ false → write_out_l2 t v z ≡ z
unfolding write_out_l2
clean-out z t v d = bool (l2_line_at z.rec t v).valid (λ e. rw (e, d) refl) (λ e. rw e refl)

pub act-rests : (z : State) (t v code : ℕ) (x : Line) → x ≡ l2_line_at z.rec t v → code ≢ 6 → Rests code x →
    z ≡ l2_operation code t v z
unfolding l2_operation
act-rests z t v code x ex h r =
    bool (eqb code 10)
    (λ e. let c = eqb-true code 10 e in
    rw (ne_eqb code 6 h, e) (sym (clean-out z t v (sym (ap (λ (y : Line). y.dirty) ex) ∙ r.0 c))))
    (λ e. act-empty z t v (sym ex ∙ r.1 (eqb-false code 10 e)) code h)
