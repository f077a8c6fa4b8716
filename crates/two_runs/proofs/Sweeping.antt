-- Commands over many lines, and mode and MAR changes, in two runs at once. Shown: each keeps `Pair`, with the sizes of
-- the new mode after a mode change. Why: the lines that a loop goes through go by the record, and each turn keeps it.
use Prim.Native.Nat.{ℕ, zero, suc, ◌+◌, ◌*◌, ◌/◌, ◌%◌, ◌≤◌, ◌<◌}
use mathlib.Core.Path.{◌≡◌, refl, sym, ap, ◌∙◌}
use mathlib.Core.List.{List}
use native.Mathlib.Omega.{arith}
use lib.ListN.{length}
use lib.Dec.{ltb}
use borrow.Author.Tests.{ltb-true, ltb-false}
use Rattle.model.specs.Basics.{each}
use Rattle.model.specs.Memories.{cache_size, sram_length}
use Rattle.model.specs.Lines.{l1d_set_of, l2_sets, upper_half}
use Rattle.model.specs.Records.{State, mode0, sram_of, l2_sets_of, l2_set_of, l2_line_at, fresh_l1d_set, fresh_l2_set}
use Rattle.model.specs.Ways.{l1d_way, l2_way, in_l1d, in_l2, empty_l1d}
use Rattle.model.specs.Homes.{write_out_l2, writeback_l2, evict_l2}
use Rattle.model.specs.Access.{writeback_l1d, evict_l1d}
use Rattle.model.specs.Modes.{smaller, flush_l1d, flush_l2, new_mode, change_mode, change_mar, change_freeze}
use Rattle.model.specs.Commands.{lines_touched, each_touched, each_l2, at_l2, at_l1d, unless_mode0, evict_all_l1d, l2_writeback_all, l2_writeback_invalidate_all, l2_writeback_block, l2_writeback_invalidate_block, drop_l2, l2_invalidate_block, l1d_writeback_invalidate_block, l1d_invalidate_block, l1d_invalidate_all}
use Rattle.model.specs.Laws.{bool, cond_both}
use Rattle.agreement.proofs.Tables.{l1d_store, l2_store, fresh-line}
use Rattle.agreement.proofs.Good.{l1d-hit, l2-hit, cache-whole}
use Rattle.agreement.proofs.Tested.{legal_l2-tells}
use Rattle.agreement.proofs.Changes.{zero-length, zero-below, zero-above, smaller-bound, l1d-fresh, l2-fresh}
use Rattle.two_runs.proofs.Areas.{Pairing, moved}
use Rattle.two_runs.proofs.Held.{held_none}
use Rattle.two_runs.proofs.Pair.{Layout, Pair, Keeps, twin, lift}
use Rattle.two_runs.proofs.Leaving.{empty_l1d-both, empty_l2-both, writeback_l1d-both, evict_l1d-both, write_out_l2-both, writeback_l2-both, evict_l2-both}

-- ---- a loop keeps what each of its turns keeps
pub each_both : (R : State → State → Type 0) (f : ℕ → State → State) → ((k : ℕ) (z z' : State) → R z z' → R (f k z) (f k z')) →
    (n : ℕ) (z z' : State) → R z z' → R (each f n z) (each f n z')
unfolding each
each_both R f h zero z z' q = q
each_both R f h (suc n) z z' q = h n (each f n z) (each f n z') (each_both R f h n z z' q)

-- what a step at slot s, w keeps, w being below the number of ways
abbrev AtSlot : Pairing → Layout → ℕ → (ℕ → ℕ → State → State) → Type 0
AtSlot P g ways f = (s w : ℕ) → w < ways → Keeps P g (f s w)

module _ {P : Pairing} {g : Layout} where
  -- ---- at the way that holds a line; at each L2 way; at each touched line; in no mode 0
  at_l1d-both : (f : ℕ → ℕ → State → State) → AtSlot P g 2 f → (a : ℕ) → Keeps P g (at_l1d f a)
  unfolding at_l1d in_l1d l1d_way
  at_l1d-both f h a z =
      lift (Pair P g) (at_l1d f a) z
      (λ d m e q. let z' = twin z d m e in
      cond_both (Pair P g) (in_l1d z a) (f (l1d_set_of a) (l1d_way z a) z) z (f (l1d_set_of a) (l1d_way z a) z') z'
      (λ t. h (l1d_set_of a) (l1d_way z a) (l1d-hit z a t).way z z' q) (λ _. q))

  at_l2-both : (f : ℕ → ℕ → State → State) → AtSlot P g 4 f → (a : ℕ) → Keeps P g (at_l2 f a)
  unfolding at_l2 in_l2 l2_way
  at_l2-both f h a z =
      lift (Pair P g) (at_l2 f a) z
      (λ d m e q. let z' = twin z d m e in
      cond_both (Pair P g) (in_l2 z a) (f (l2_set_of z.rec a) (l2_way z a) z) z (f (l2_set_of z.rec a) (l2_way z a) z') z'
      (λ t. h (l2_set_of z.rec a) (l2_way z a) (l2-hit z a t).way z z' q) (λ _. q))

  each_l2-both : (f : ℕ → ℕ → State → State) → AtSlot P g 4 f → Keeps P g (each_l2 f)
  unfolding each_l2
  each_l2-both f h z =
      lift (Pair P g) (each_l2 f) z
      (λ d m e q. each_both (Pair P g) (λ k. f (k / 4) (k % 4)) (λ k y y'. h (k / 4) (k % 4) (omega arith) y y') (l2_sets_of z.rec * 4) z (twin z d m e) q)

  touched-both : (n : ℕ) (f : ℕ → State → State) → ((a : ℕ) → Keeps P g (f a)) →
      (b c : ℕ) → Keeps P g (each_touched n f b c)
  unfolding each_touched
  touched-both n f h b c = each_both (Pair P g) (λ k. f ((b / n + k) * n)) (λ k. h ((b / n + k) * n)) (lines_touched n b c)

  unless-both : (f : State → State) → (Keeps P g f) → Keeps P g (unless_mode0 f)
  unfolding unless_mode0
  unless-both f h z =
      lift (Pair P g) (unless_mode0 f) z
      (λ d m e q. let z' = twin z d m e in cond_both (Pair P g) (mode0 z.rec) z (f z) z' (f z') (λ _. q) (λ _. h z z' q))

  -- ---- a line and its halves dropped
  drop-both : AtSlot P g 4 drop_l2
  unfolding drop_l2
  drop-both t v hv z =
      let b = (l2_line_at z.rec t v).address in
      let half : (a : ℕ) (y y' : State) → Pair P g y y' → Pair P g (at_l1d empty_l1d a y) (at_l1d empty_l1d a y') =
      at_l1d-both empty_l1d (λ s w _. empty_l1d-both s w) in
      lift (Pair P g) (drop_l2 t v) z
      (λ d m e q. let z' = twin z d m e in
      empty_l2-both t v (at_l1d empty_l1d (upper_half b) (at_l1d empty_l1d b z)) (at_l1d empty_l1d (upper_half b) (at_l1d empty_l1d b z'))
      (half (upper_half b) (at_l1d empty_l1d b z) (at_l1d empty_l1d b z') (half b z z' q)))

  -- ---- the commands, by their codes; those of L1D first, with which those of L2 begin
  pub code-7 : (b c : ℕ) → Keeps P g (l1d_writeback_invalidate_block b c)
  unfolding l1d_writeback_invalidate_block
  code-7 = touched-both 64 (at_l1d evict_l1d) (at_l1d-both evict_l1d evict_l1d-both)

  pub code-8 : (b c : ℕ) → Keeps P g (l1d_invalidate_block b c)
  unfolding l1d_invalidate_block
  code-8 = touched-both 64 (at_l1d empty_l1d) (at_l1d-both empty_l1d (λ s w _. empty_l1d-both s w))

  pub code-9 : Keeps P g l1d_invalidate_all
  unfolding l1d_invalidate_all
  code-9 = each_both (Pair P g) (λ k. empty_l1d (k / 2) (k % 2)) (λ k. empty_l1d-both (k / 2) (k % 2)) 256

  emptied-both : Keeps P g evict_all_l1d
  unfolding evict_all_l1d
  emptied-both = each_both (Pair P g) (λ k. evict_l1d (k / 2) (k % 2)) (λ k. evict_l1d-both (k / 2) (k % 2) (omega arith)) 256

  -- over all lines of L2, over the touched ones; in no mode 0
  all : (f : ℕ → ℕ → State → State) → AtSlot P g 4 f → Keeps P g (λ z. unless_mode0 (each_l2 f) (evict_all_l1d z))
  all f h z z' q = unless-both (each_l2 f) (each_l2-both f h) (evict_all_l1d z) (evict_all_l1d z') (emptied-both z z' q)

  block : (f : ℕ → ℕ → State → State) → AtSlot P g 4 f → (b c : ℕ) → Keeps P g (unless_mode0 (each_touched 128 (at_l2 f) b c))
  block f h b c = unless-both (each_touched 128 (at_l2 f) b c) (touched-both 128 (at_l2 f) (at_l2-both f h) b c)

  pub code-2 : Keeps P g l2_writeback_all
  unfolding l2_writeback_all
  code-2 = all writeback_l2 writeback_l2-both

  pub code-3 : Keeps P g l2_writeback_invalidate_all
  unfolding l2_writeback_invalidate_all
  code-3 = all evict_l2 evict_l2-both

  pub code-4 : (b c : ℕ) → Keeps P g (l2_writeback_block b c)
  unfolding l2_writeback_block
  code-4 b c z z' q = block writeback_l2 writeback_l2-both b c (l1d_writeback_invalidate_block b c z) (l1d_writeback_invalidate_block b c z') (code-7 b c z z' q)

  pub code-5 : (b c : ℕ) → Keeps P g (l2_writeback_invalidate_block b c)
  unfolding l2_writeback_invalidate_block
  code-5 b c z z' q = block evict_l2 evict_l2-both b c (l1d_writeback_invalidate_block b c z) (l1d_writeback_invalidate_block b c z') (code-7 b c z z' q)

  pub code-6 : (b c : ℕ) → Keeps P g (l2_invalidate_block b c)
  unfolding l2_invalidate_block
  code-6 b c z z' q = block drop_l2 drop-both b c (l1d_invalidate_block b c z) (l1d_invalidate_block b c z') (code-8 b c z z' q)

  -- ---- a MAR bit
  pub code-11 : (n b : ℕ) → Keeps P g (change_mar n b)
  unfolding change_mar
  code-11 n b z =
      lift (Pair P g) (change_mar n b) z
      (λ d m e q. record { same = refl; sizes = q.sizes; l1d = q.l1d; l2 = q.l2; sram = q.sram; ext = q.ext })

  -- ---- the freeze
  pub code-12 : (b : ℕ) → Keeps P g (change_freeze b)
  unfolding change_freeze
  code-12 b z =
      lift (Pair P g) (change_freeze b) z
      (λ d m e q. record { same = refl; sizes = q.sizes; l1d = q.l1d; l2 = q.l2; sram = q.sram; ext = q.ext })

  -- ---- a mode: first everything dirty goes out
  flush-both : (z z' : State) → Pair P g z z' → Pair P g (flush_l2 (flush_l1d z)) (flush_l2 (flush_l1d z'))
  unfolding flush_l1d flush_l2
  flush-both z z' q =
      lift (Pair P g) flush_l2 (flush_l1d z)
      (λ d m e q₁. each_both (Pair P g) (λ k. write_out_l2 (k / 4) (k % 4)) (λ k. write_out_l2-both (k / 4) (k % 4) (omega arith))
      (l2_sets_of (flush_l1d z).rec * 4) (flush_l1d z) (twin (flush_l1d z) d m e) q₁)
      (flush_l1d z')
      (each_both (Pair P g) (λ k. writeback_l1d (k / 2) (k % 2)) (λ k. writeback_l1d-both (k / 2) (k % 2) (omega arith)) 256 z z' q)

-- the layout of another mode
abbrev pub in_mode : Layout → ℕ → Layout
in_mode g μ = record { sram = sram_length g.l2 μ; sets = l2_sets μ; l2 = g.l2; ext = g.ext }

module _ {P : Pairing} {g : Layout} (none : (a : ℕ) → P a 0 0) where
  -- then the lines are gone; SRAM keeps its bytes below the smaller of old and new S, and is zero from there on
  new_mode-pair : (μ : ℕ) → cache_size μ ≤ g.l2 → (z : State) (d m e : List ℕ) → Pair P g z (twin z d m e) →
      Pair P (in_mode g μ) (new_mode μ z) (new_mode μ (twin z d m e))
  unfolding new_mode
  new_mode-pair μ c z d m e q =
      let h = q.sizes in let r = z.rec in
      let k = smaller (sram_of r) (sram_length r.l2len μ) in
      let yb = smaller-bound (sram_of r) (sram_length r.l2len μ) in let y₀ = yb.0 in let y₁ = yb.1 in
      let ll = h.l2len in let l₁ = h.l2_length in let l₂ = h.l2_same in let w = cache-whole μ in let s₀ = h.sram in
      let ok = legal_l2-tells g.l2 h.l2_legal in let lm = ok.1 in let lw = ok.2 in
      let n₁ = zero-length k z.l2 (length z.l2) (omega arith) (omega arith) in
      let n₂ = zero-length k m (length m) (omega arith) (omega arith) in
      record {
        same = refl;
        sizes = record {
          sram = ap (λ (l : ℕ). sram_length l μ) ll;
          sets = refl;
          l2len = ll;
          extlen = h.extlen;
          l1d_length = h.l1d_length;
          l1d_same = h.l1d_same;
          l2_length = n₁ ∙ l₁;
          l2_same = n₂ ∙ l₂ ∙ sym n₁;
          ext_length = h.ext_length;
          ext_same = h.ext_same;
          below = omega arith;
          room = omega arith;
          sram_whole = omega arith;
          ext_whole = h.ext_whole;
          l2_legal = h.l2_legal;
          ext_legal = h.ext_legal;
        };
        l1d = held_none (fresh-line l1d_store fresh_l1d_set 128 l1d-fresh);
        l2 = held_none (fresh-line l2_store fresh_l2_set 512 l2-fresh);
        sram = record {
          byte = λ i hi.
              let j : 0 + i ≡ i = omega arith in
              bool (ltb i k)
              (λ t. let t' = ltb-true i k t in
              moved P refl (rw j (sym (zero-below k z.l2 (length z.l2) (omega arith) (omega arith) i t')))
              (rw j (sym (zero-below k m (length m) (omega arith) (omega arith) i t'))) (q.sram.byte i (omega arith)))
              (λ t. let t' = ltb-false i k t in
              moved P refl (sym (rw j (zero-above k z.l2 (length z.l2) (omega arith) (omega arith) i t')))
              (sym (rw j (zero-above k m (length m) (omega arith) (omega arith) i t'))) (none (0 + i)));
        };
        ext = q.ext;
      }

  pub code-10 : (μ : ℕ) → cache_size μ ≤ g.l2 → (z z' : State) → Pair P g z z' →
      Pair P (in_mode g μ) (change_mode μ z) (change_mode μ z')
  unfolding change_mode
  code-10 μ c z z' q =
      let y = flush_l2 (flush_l1d z) in
      lift (Pair P (in_mode g μ)) (new_mode μ) y (new_mode-pair μ c y) (flush_l2 (flush_l1d z')) (flush-both z z' q)
