-- A command on the whole chip, by what its parts say: refused by the data side's number or by L1P's, or carried out
-- (`chip_step`).
use Rattle.std.specs.Prelude.{◌≤◌, ◌≡◌, List, refl}
use Rattle.std.proofs.Common.{arith}
use Rattle.std.proofs.lemmas.Bool.Decides.{nat_tests}
use Rattle.model.specs.Records.{State}
use Rattle.model.specs.Calls.{reply, command_due, command_state}
use Rattle.model.specs.declared.Command.{Command}
use Rattle.model.specs.declared.Line.{Line}
use Rattle.model.specs.declared.Left.TheVariants.{NoWay}
use Rattle.kinds.specs.Numbers.{refusal_number, refusal_some}
use Rattle.kinds.specs.declared.Refusal.{Refusal}
use Rattle.commands.specs.Codes.{accepted-step}
use Rattle.program.specs.Fetches.{Chip, with_l1p}
use Rattle.program.specs.Chip.{lines_after, chip_command_due, chip_step}

module _ (c : Command) (x : Chip) where
  -- the data side's number comes first
  pub due-data : (e : Refusal) → refusal_number e ≡ command_due c x.data_side → refusal_number e ≡ chip_command_due c x
  unfolding chip_command_due
  due-data e d = let some = refusal_some e in grind (arith, nat_tests)

  pub refused-chip : (e : Refusal) → refusal_number e ≡ chip_command_due c x →
      with_l1p NoWay x.lines x.bytes (reply (refusal_number e) 0 0 x.data_side) ≡ chip_step c x
  unfolding chip_step
  refused-chip e d = let some = refusal_some e in grind (arith, nat_tests)

  pub accepted-chip : (ls : List Line) (y : State) → 2 ≤ c.code → 0 ≡ command_due c x.data_side →
      0 ≡ chip_command_due c x → ls ≡ lines_after c x.data_side x.lines → y ≡ command_state c x.data_side →
      with_l1p NoWay ls x.bytes (reply 0 0 0 y) ≡ chip_step c x
  unfolding chip_step
  accepted-chip ls y h d n el ey =
      let s = accepted-step c x.data_side y h d ey in rw (← n, ← el, ← s) refl
