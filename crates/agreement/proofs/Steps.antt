-- One command by its code: what `step` does to a good state. Shown: the commands that flat memory does not see (2 to
-- 5, 7, 11, 12), carried out or refused, leave the state good by the same F with L, E and the mode as they were; and
-- every command, of any code, leaves a well-formed state (`step-well`).
-- Why: the lemmas of the single commands, and a refused command changes nothing. At a written-out code the
-- definitions of `step` compute.
use Prim.Native.Nat.{ℕ, zero, suc, ◌≤◌}
use mathlib.Core.Bool.{cond, and-false}
use mathlib.Core.Path.{◌≡◌, refl, ap}
use native.Mathlib.Omega.{arith}
use lib.Dec.{leb, eqb}
use borrow.Author.Tests.{eqb-true, ne_eqb, lt-leb}
use Rattle.model.specs.Records.{State, sram_of}
use Rattle.model.specs.Modes.{flush_l2, new_mode, change_mode, change_mar, change_freeze}
use Rattle.model.specs.Commands.{l2_writeback_all, l2_writeback_invalidate_all, l2_writeback_block, l2_writeback_invalidate_block, l2_invalidate_block, l1d_writeback_invalidate_block, l1d_invalidate_block}
use Rattle.model.specs.Refusals.{access_due, block_due, mode_due, mar_due, freeze_due}
use Rattle.model.specs.Trace.{command}
use Rattle.model.specs.Calls.{Reply, refused, carried_out, command_due, read_done, write_done, command_state, accepted, step}
use Rattle.model.specs.Laws.{cond-elim}
use Rattle.model.specs.declared.Command.{Command}
use Rattle.agreement.proofs.Invariant.{Allowed, grows-refl, Layout}
use Rattle.agreement.proofs.Good.{Good, Anything, Well}
use Rattle.agreement.proofs.ReadWrite.{Step}
use Rattle.agreement.proofs.Sweeps.{l2_writeback_all-good, l2_writeback_invalidate_all-good, l2_writeback_block-good, l2_writeback_invalidate_block-good, l1d_writeback_invalidate_block-good, flush-good}
use Rattle.agreement.proofs.Changes.{new_mode-good, change_mar-good, change_freeze-good}
use Rattle.agreement.proofs.Due.{accepted-read, accepted-write, mode-tells, mar-tells}
use Rattle.agreement.proofs.Drops.{Dropped, dropped-refl, l1d_invalidate_all-dropped, l1d_invalidate_block-dropped, l2_invalidate_block-dropped}
use Rattle.agreement.proofs.Flushes.{swept_l1d, change-swept}

-- ---- a code is one of the thirteen, each written out, or a later number
pub codes {ℓ} : (P : ℕ → Type ℓ) → P 0 → P 1 → P 2 → P 3 → P 4 → P 5 → P 6 → P 7 → P 8 → P 9 → P 10 → P 11 → P 12 → ((k : ℕ) → 13 ≤ k → P k) → (k : ℕ) → P k
codes P a b c d e f g h i j k l m n zero = a
codes P a b c d e f g h i j k l m n (suc zero) = b
codes P a b c d e f g h i j k l m n (suc (suc zero)) = c
codes P a b c d e f g h i j k l m n (suc (suc (suc zero))) = d
codes P a b c d e f g h i j k l m n (suc (suc (suc (suc zero)))) = e
codes P a b c d e f g h i j k l m n (suc (suc (suc (suc (suc zero))))) = f
codes P a b c d e f g h i j k l m n (suc (suc (suc (suc (suc (suc zero)))))) = g
codes P a b c d e f g h i j k l m n (suc (suc (suc (suc (suc (suc (suc zero))))))) = h
codes P a b c d e f g h i j k l m n (suc (suc (suc (suc (suc (suc (suc (suc zero)))))))) = i
codes P a b c d e f g h i j k l m n (suc (suc (suc (suc (suc (suc (suc (suc (suc zero))))))))) = j
codes P a b c d e f g h i j k l m n (suc (suc (suc (suc (suc (suc (suc (suc (suc (suc zero)))))))))) = k
codes P a b c d e f g h i j k l m n (suc (suc (suc (suc (suc (suc (suc (suc (suc (suc (suc zero))))))))))) = l
codes P a b c d e f g h i j k l m n (suc (suc (suc (suc (suc (suc (suc (suc (suc (suc (suc (suc zero)))))))))))) = m
codes P a b c d e f g h i j k l m n (suc (suc (suc (suc (suc (suc (suc (suc (suc (suc (suc (suc (suc o))))))))))))) =
    n (suc (suc (suc (suc (suc (suc (suc (suc (suc (suc (suc (suc (suc o))))))))))))) (omega arith)

-- ---- commands that flat memory does not see
pub record Quiet (z : State) (F : Allowed) (z' : State) : Type 0 where
  pub good : Good z' F
  pub mode : z'.rec.mode ≡ z.rec.mode
  pub l2len : z'.rec.l2len ≡ z.rec.l2len
  pub extlen : z'.rec.extlen ≡ z.rec.extlen

pub quiet-refl : (z : State) (F : Allowed) → Good z F → Quiet z F z
quiet-refl z F q = record { good = q; mode = refl; l2len = refl; extlen = refl }

pub quiet_step : (z : State) (F : Allowed) (z' : State) → Step z F z' → Quiet z F z'
quiet_step z F z' s = record { good = s.good; mode = s.kept.mode; l2len = s.kept.l2len; extlen = ap (λ (g : Layout). g.ext) s.kept.layout }

module _ (z : State) (F : Allowed) (q : Good z F) (a b v : ℕ) where
  -- carried out where its number is 0, else refused
  quiet-unless : (d : ℕ) (z' : State) → (d ≡ 0 → Quiet z F z') → Quiet z F (cond (eqb d 0) (carried_out z') (refused d z)).next
  quiet-unless d z' h =
      cond-elim (λ (r : Reply). Quiet z F r.next) (eqb d 0) (carried_out z') (refused d z) (λ t. h (eqb-true d 0 t)) (λ _. quiet-refl z F q)

  pub quiet-2 : Quiet z F (step (command 2 a b v) z).next
  unfolding step command_due accepted command_state
  quiet-2 = quiet_step z F (l2_writeback_all z) (l2_writeback_all-good z F q).step

  pub quiet-3 : Quiet z F (step (command 3 a b v) z).next
  unfolding step command_due accepted command_state
  quiet-3 = quiet_step z F (l2_writeback_invalidate_all z) (l2_writeback_invalidate_all-good z F q).step

  pub quiet-4 : Quiet z F (step (command 4 a b v) z).next
  unfolding step command_due accepted command_state
  quiet-4 = quiet-unless (block_due a b) (l2_writeback_block a b z) (λ _. quiet_step z F (l2_writeback_block a b z) (l2_writeback_block-good z F q a b))

  pub quiet-5 : Quiet z F (step (command 5 a b v) z).next
  unfolding step command_due accepted command_state
  quiet-5 =
      quiet-unless (block_due a b) (l2_writeback_invalidate_block a b z)
      (λ _. quiet_step z F (l2_writeback_invalidate_block a b z) (l2_writeback_invalidate_block-good z F q a b))

  pub quiet-7 : Quiet z F (step (command 7 a b v) z).next
  unfolding step command_due accepted command_state
  quiet-7 =
      quiet-unless (block_due a b) (l1d_writeback_invalidate_block a b z)
      (λ _. quiet_step z F (l1d_writeback_invalidate_block a b z) (l1d_writeback_invalidate_block-good z F q a b))

  mar-quiet : mar_due z.rec a b ≡ 0 → Quiet z F (change_mar a b z)
  unfolding change_mar
  mar-quiet d = record { good = change_mar-good z F q a b (mar-tells z.rec a b d); mode = refl; l2len = refl; extlen = refl }

  pub quiet-11 : Quiet z F (step (command 11 a b v) z).next
  unfolding step command_due accepted command_state
  quiet-11 = quiet-unless (mar_due z.rec a b) (change_mar a b z) mar-quiet

  freeze-quiet : freeze_due a ≡ 0 → Quiet z F (change_freeze a z)
  unfolding change_freeze
  freeze-quiet d = record { good = change_freeze-good z F q a; mode = refl; l2len = refl; extlen = refl }

  pub quiet-12 : Quiet z F (step (command 12 a b v) z).next
  unfolding step command_due accepted command_state
  quiet-12 = quiet-unless (freeze_due a) (change_freeze a z) freeze-quiet

-- ---- the commands that drop lines; one that is refused drops none
module _ (z : State) (h : Well z) (a b v : ℕ) where
  dropped-unless : (z' : State) → Dropped z z' → Dropped z (cond (eqb (block_due a b) 0) (carried_out z') (refused (block_due a b) z)).next
  dropped-unless z' d =
      cond-elim (λ (y : Reply). Dropped z y.next) (eqb (block_due a b) 0) (carried_out z') (refused (block_due a b) z) (λ _. d) (λ _. dropped-refl z h)

  pub dropped-6 : Dropped z (step (command 6 a b v) z).next
  unfolding step command_due accepted command_state
  dropped-6 = dropped-unless (l2_invalidate_block a b z) (l2_invalidate_block-dropped z h a b)

  pub dropped-8 : Dropped z (step (command 8 a b v) z).next
  unfolding step command_due accepted command_state
  dropped-8 = dropped-unless (l1d_invalidate_block a b z) (l1d_invalidate_block-dropped z h a b)

  pub dropped-9 : Dropped z (step (command 9 a b v) z).next
  unfolding step command_due accepted command_state
  dropped-9 = l1d_invalidate_all-dropped z h

-- ---- every command keeps a well-formed state
module _ (z : State) (h : Well z) (a b v : ℕ) where
  -- any reply whose accepted form leaves a well-formed state
  well-unless : (d : ℕ) (r : Reply) → (d ≡ 0 → Well r.next) → Well (cond (eqb d 0) r (refused d z)).next
  well-unless d r f = cond-elim (λ (x : Reply). Well x.next) (eqb d 0) r (refused d z) (λ t. f (eqb-true d 0 t)) (λ _. h)

  well-0 : Well (step (command 0 a b v) z).next
  unfolding step command_due accepted read_done
  well-0 = well-unless (access_due (sram_of z.rec) z.rec.extlen a b 0) (read_done a b z) (λ d. (accepted-read z Anything h a b d).good)

  well-1 : Well (step (command 1 a b v) z).next
  unfolding step command_due accepted write_done
  well-1 =
      well-unless (access_due (sram_of z.rec) z.rec.extlen a b v) (write_done a b v z)
      (λ d. (accepted-write z Anything h a b Anything v (record { puts = record { inside = λ _ _ _. refl; outside = λ _ _ _ _. refl }; grows = grows-refl Anything }) d).good)

  well-10 : Well (step (command 10 a b v) z).next
  unfolding step command_due accepted command_state
  well-10 =
      well-unless (mode_due z.rec.l2len a) (carried_out (change_mode a z))
      (λ d. let o = flush-good z Anything h in
      let m = mode-tells z.rec.l2len a d in
      let g : Well (new_mode a (flush_l2 (swept_l1d z))) =
      new_mode-good (flush_l2 (swept_l1d z)) Anything Anything o.step.good a m.0 (rw o.step.kept.l2len m.1) o.l1d_none o.l2_clean
      (λ _ _ _ _ _. refl) (λ _ _ _. refl) (λ _ _ _ _. refl) in
      rw (change-swept a z) g)

-- an unknown code is refused with 11
pub other-code : (k a b v : ℕ) (z : State) → 13 ≤ k → step (command k a b v) z ≡ refused 11 z
unfolding step command_due
other-code k a b v z h =
    rw (
      ne_eqb k 0 (omega arith),
      ne_eqb k 1 (omega arith),
      lt-leb k 8 (omega arith),
      and-false (leb 4 k),
      ne_eqb k 10 (omega arith),
      ne_eqb k 11 (omega arith),
      ne_eqb k 12 (omega arith),
      lt-leb k 12 (omega arith),
    ) refl

pub step-well : (c : Command) (z : State) → Well z → Well (step c z).next
step-well c z h =
    let a = c.first in let b = c.second in let v = c.value in
    codes (λ (k : ℕ). Well (step (command k a b v) z).next)
    (well-0 z h a b v) (well-1 z h a b v) (quiet-2 z Anything h a b v).good (quiet-3 z Anything h a b v).good (quiet-4 z Anything h a b v).good
    (quiet-5 z Anything h a b v).good (dropped-6 z h a b v).step.good (quiet-7 z Anything h a b v).good (dropped-8 z h a b v).step.good
    (dropped-9 z h a b v).step.good (well-10 z h a b v)
    (quiet-11 z Anything h a b v).good (quiet-12 z Anything h a b v).good
    (λ k l. let e = other-code k a b v z l in rw e h)
    c.code
