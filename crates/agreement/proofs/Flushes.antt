-- A mode change writes back all dirty lines of L1D and L2 and then makes every line invalid (`change_mode`). That it
-- keeps the invariant is shown by steps which empty each L1D line as soon as it went home (`swept_l1d`). Shown here:
-- after the change both are the same state (`change-swept`). What differs on the way, the lines of L1D and how many are
-- dirty, nothing looks at but the write-back of the line itself, and that one is still there; in the end the change
-- replaces them all.
use Prim.Native.Nat.{ℕ, zero, suc, ◌*◌, ◌/◌, ◌%◌, ◌≤◌}
use mathlib.Core.Bool.{false, cond}
use mathlib.Core.List.{List}
use mathlib.Core.Path.{◌≡◌, refl, sym, ap, ◌∙◌}
use native.Mathlib.Omega.{arith}
use lib.Dec.{ltb, eqb}
use borrow.Author.Tests.{eqb-true, eqb-false}
use Rattle.model.specs.Basics.{each}
use Rattle.model.specs.Bytes.{part}
use Rattle.model.specs.Memories.{external_base}
use Rattle.model.specs.Lines.{l1d_data, empty_line}
use Rattle.model.specs.Records.{State, with_record, with_l1d_sets, with_counts, l1d_lines, counted, l2_sets_of, mode0, l1d_line_at, l2_line_at, with_l1d_line, with_l2_line}
use Rattle.model.specs.Ways.{in_l2, l2_way, empty_l1d}
use Rattle.model.specs.Access.{writeback_l1d, evict_l1d}
use Rattle.model.specs.Homes.{home_is_l2, put_memory, put_l2, put_home, write_out_l2}
use Rattle.model.specs.Modes.{flush_l1d, flush_l2, new_mode, change_mode}
use Rattle.model.proofs.Emptied.{back-lines}
use Rattle.model.specs.Laws.{bool}
use Rattle.model.specs.declared.Line.{Line}
use Rattle.model.specs.declared.L1dSet.{L1dSet}
use Rattle.agreement.proofs.Tables.{l1d_store, line_in, with_line, line-other-set, line-other-way}

abbrev pub swept_l1d : State → State
swept_l1d z = each (λ k. evict_l1d (k / 2) (k % 2)) 256 z

-- ---- a state with other lines of L1D, n of them dirty: what looks at none of them does the same to it
abbrev relined : ℕ → List L1dSet → State → State
relined n xs z = with_record z (with_counts (with_l1d_sets z.rec xs) n z.rec.dirty_l2)

-- the write-back of a line looks at that line only
abbrev written : Line → ℕ → ℕ → State → State
written x s w z = cond x.valid (cond x.dirty (put_home x.address (part z.l1d (l1d_data s w) 64) z) z) z

module _ (n : ℕ) (xs : List L1dSet) where
  put-relined : (a : ℕ) (bs : List ℕ) (z : State) → put_home a bs (relined n xs z) ≡ relined n xs (put_home a bs z)
  unfolding put_home home_is_l2 mode0 in_l2 l2_way put_l2 put_memory with_l2_line
  put-relined a bs z =
      bool (ltb a external_base) (λ l. rw l refl)
      (λ l. bool (mode0 z.rec) (λ n. rw (l, n) refl)
      (λ n. bool (in_l2 z a) (λ i. rw (l, n, i) refl) (λ i. rw (l, n, i) refl)))

  out-relined : (t v : ℕ) (z : State) → write_out_l2 t v (relined n xs z) ≡ relined n xs (write_out_l2 t v z)
  unfolding write_out_l2 with_l2_line
  out-relined t v z =
      bool (l2_line_at z.rec t v).valid
      (λ y. bool (l2_line_at z.rec t v).dirty (λ d. rw (y, d) refl) (λ d. rw (y, d) refl))
      (λ y. rw y refl)

  each-relined : (k : ℕ) (z : State) →
      each (λ i. write_out_l2 (i / 4) (i % 4)) k (relined n xs z) ≡ relined n xs (each (λ i. write_out_l2 (i / 4) (i % 4)) k z)
  unfolding each
  each-relined zero z = refl
  each-relined (suc k) z =
      ap (write_out_l2 (k / 4) (k % 4)) (each-relined k z) ∙ out-relined (k / 4) (k % 4) (each (λ i. write_out_l2 (i / 4) (i % 4)) k z)

  change-relined : (m : ℕ) (z : State) → new_mode m (flush_l2 (relined n xs z)) ≡ new_mode m (flush_l2 z)
  unfolding flush_l2 new_mode
  change-relined m z = ap (new_mode m) (each-relined (l2_sets_of z.rec * 4) z)

  written-relined : (x : Line) (s w : ℕ) (z : State) → written x s w (relined n xs z) ≡ relined n xs (written x s w z)
  written-relined x s w z =
      bool x.valid
      (λ v. bool x.dirty (λ d. rw (v, d) (put-relined x.address (part z.l1d (l1d_data s w) 64) z)) (λ d. rw (v, d) refl))
      (λ v. rw v refl)

  back-relined : (s w : ℕ) (z : State) → line_in l1d_store xs s w ≡ l1d_line_at z.rec s w →
      writeback_l1d s w (relined n xs z) ≡ relined n xs (writeback_l1d s w z)
  unfolding writeback_l1d
  back-relined s w z e = ap (λ (x : Line). written x s w (relined n xs z)) e ∙ written-relined (l1d_line_at z.rec s w) s w z

-- ---- the lines of L1D with the first k ways emptied: the others are as they were
abbrev emptied : ℕ → List L1dSet → List L1dSet
emptied k xs = each (λ i ys. with_line l1d_store ys (i / 2) (i % 2) empty_line) k xs

later : (xs : List L1dSet) (k j : ℕ) → k ≤ j → line_in l1d_store (emptied k xs) (j / 2) (j % 2) ≡ line_in l1d_store xs (j / 2) (j % 2)
unfolding each
later xs zero j h = refl
later xs (suc k) j h =
    bool (eqb (j / 2) (k / 2))
    (λ e. let s = eqb-true (j / 2) (k / 2) e in
    line-other-way l1d_store (emptied k xs) (k / 2) (k % 2) empty_line (j / 2) (j % 2) (λ q. absurd (omega arith)))
    (λ e. line-other-set l1d_store (emptied k xs) (k / 2) (k % 2) empty_line (j / 2) (j % 2) (eqb-false (j / 2) (k / 2) e))
    ∙ later xs k j (omega arith)

-- ---- the sweep is the write-backs, with the ways that were gone through emptied
abbrev backs : ℕ → State → State
backs k z = each (λ i. writeback_l1d (i / 2) (i % 2)) k z

backs-lines : (k : ℕ) (z : State) → (backs k z).rec.l1d ≡ z.rec.l1d
unfolding each
backs-lines zero z = refl
backs-lines (suc k) z = back-lines (k / 2) (k % 2) (backs k z) ∙ backs-lines k z

swept-back : (k : ℕ) (z : State) → (n : ℕ) × (each (λ i. evict_l1d (i / 2) (i % 2)) k z ≡ relined n (emptied k z.rec.l1d) (backs k z))
unfolding each evict_l1d empty_l1d with_l1d_line
swept-back zero z = (z.rec.dirty_l1d, refl)
swept-back (suc k) z =
    let xs = emptied k z.rec.l1d in
    let before = swept-back k z in let n = before.0 in
    let same : line_in l1d_store xs (k / 2) (k % 2) ≡ l1d_line_at (backs k z).rec (k / 2) (k % 2) =
    later z.rec.l1d k k (omega arith) ∙ ap (λ (ys : List L1dSet). line_in l1d_store ys (k / 2) (k % 2)) (sym (backs-lines k z)) in (
      counted l1d_lines (line_in l1d_store xs (k / 2) (k % 2)).dirty false n,
      ap (evict_l1d (k / 2) (k % 2)) before.1 ∙ ap (empty_l1d (k / 2) (k % 2)) (back-relined n xs (k / 2) (k % 2) (backs k z) same),
    )

-- ---- so the change is the same
pub change-swept : (m : ℕ) (z : State) → change_mode m z ≡ new_mode m (flush_l2 (swept_l1d z))
unfolding change_mode flush_l1d
change-swept m z =
    let e = swept-back 256 z in
    sym (ap (λ (x : State). new_mode m (flush_l2 x)) e.1 ∙ change-relined e.0 (emptied 256 z.rec.l1d) m (backs 256 z))
