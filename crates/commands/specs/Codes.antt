-- The L2 commands, over all lines and over a block, by their code, and what the loop over L1D's lines and that over
-- L2's lines come to, one behind the other. Last, a command as a step of paper 01.
use Rattle.std.specs.Prelude.{ℕ, ◌+◌, ◌/◌, ◌%◌, ◌≤◌, ◌<◌, cond, ◌≡◌, eqb}
use Rattle.std.proofs.Common.{ap, sym, ◌∙◌, arith, eqb-true}
use Rattle.std.proofs.lemmas.Bool.{eqb-false}
use Rattle.std.proofs.lemmas.Bool.Decides.{nat_tests}
use Rattle.model.specs.Basics.{each}
use Rattle.model.specs.Records.{State}
use Rattle.model.specs.Homes.{writeback_l2, evict_l2}
use Rattle.model.specs.Commands.{at_l2, at_l1d, each_touched, each_l2, unless_mode0, evict_all_l1d}
use Rattle.model.specs.Calls.{reply, command_due, command_state, accepted, step}
use Rattle.model.specs.Laws.{bool, no-ways}
use Rattle.model.specs.declared.Command.{Command}
use Rattle.model.proofs.Emptied.{Bare, evicted-all}
use Rattle.kinds.specs.Numbers.{refusal_number, refusal_some}
use Rattle.kinds.specs.declared.Refusal.{Refusal}
use Rattle.sweeps.specs.Emptied.{bare-writebacks, bare-evicts}
use Rattle.l1d_commands.specs.Steps.{l1d_operation}
use Rattle.l2_commands.specs.Steps.{l2_operation}

-- ---- the L2 commands over all lines, codes 2 and 3, by their code
unfoldable pub over_all : ℕ → State → State
over_all code z = unless_mode0 (each_l2 (cond (eqb code 2) writeback_l2 evict_l2)) (evict_all_l1d z)

-- ---- the L2 commands over a block, codes 4 to 6, by their code: the L1D command that each begins with, and all of it
unfoldable pub l1d_code : ℕ → ℕ
l1d_code code = cond (eqb code 6) 8 7

unfoldable pub over_block : ℕ → ℕ → ℕ → State → State
over_block code b n z =
    unless_mode0 (each_touched 128 (at_l2 (l2_operation code)) b n)
    (each_touched 64 (at_l1d (l1d_operation (l1d_code code))) b n z)

-- ---- a command over all lines: L1D holds nothing after the first loop, so that the second need not look for halves
pub over-all : (code : ℕ) → 2 ≤ code → code < 4 → (z y x : State) →
    y ≡ each (λ k. l1d_operation 7 (k / 2) (k % 2)) 256 z → x ≡ each_l2 (l2_operation (code + 8)) y →
    x ≡ over_all code z
unfolding evict_all_l1d over_all l1d_operation l2_operation
over-all code lo hi z y x e f =
    let bare : Bare y = rw e (evicted-all z) in
    bool (eqb code 2)
    (λ t. let q = eqb-true code 2 t in
    let out = rw q at f in
    rw q (out ∙ sym (bare-writebacks y bare) ∙ sym (no-ways writeback_l2 y)
    ∙ ap (unless_mode0 (each_l2 writeback_l2)) e))
    (λ t. let n = eqb-false code 2 t in
    let q : code ≡ 3 = omega arith in
    let out = rw q at f in
    rw q (out ∙ sym (bare-evicts y bare) ∙ sym (no-ways evict_l2 y) ∙ ap (unless_mode0 (each_l2 evict_l2)) e))

-- ---- a command is refused, or carried out
module _ (c : Command) (z : State) where
  pub refused-step : (e : Refusal) → refusal_number e ≡ command_due c z → reply (refusal_number e) 0 0 z ≡ step c z
  unfolding step
  refused-step e d = let some = refusal_some e in grind (arith, nat_tests)

  pub accepted-step : (y : State) → 2 ≤ c.code → 0 ≡ command_due c z → y ≡ command_state c z → reply 0 0 0 y ≡ step c z
  unfolding step accepted
  accepted-step y h d e = grind (arith, nat_tests)
