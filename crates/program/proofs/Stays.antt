-- A chip that passes checks 1 and 2 does so behind every call (`chip-stays-well-formed`), and a refused call changes
-- nothing (`refused-changes-nothing`). Why: what passes the checks is a well-formed chip (`due-well-chip`), which every
-- call leaves well formed (`chip-stays`); and each call gives its refusal beside the chip as it found it, while what it
-- gives where nothing is due has number 0.
use Prim.Native.Nat.{ℕ, zero, suc}
use mathlib.Core.Bool.{cond, ◌&&◌}
use mathlib.Core.Path.{◌≡◌, refl, sym, ap, subst}
use mathlib.Core.Logic.{◌≢◌}
use mathlib.Core.List.{List, [], ◌∷◌}
use native.Mathlib.Omega.{arith}
use lib.ListN.{length, replicate, length-replicate}
use lib.Dec.{eqb}
use borrow.Author.Tests.{eqb-true}
use Rattle.model.specs.Records.{State}
use Rattle.model.specs.Access.{cacheable}
use Rattle.model.specs.Refusals.{lowest_due, unless, lent_due, block_due}
use Rattle.model.specs.Calls.{Reply, refused, handed_back, command_due, read_done, write_done, command_state, carried_out, accepted, step, fresh_ok, fresh_call, view_done, unaligned_due_in, read_unaligned_done, read_unaligned_step, read_unaligned_call, write_unaligned_done, write_unaligned_step, write_unaligned_call, transfer_due_in, transfer_in_step, transfer_in_call, transfer_out_step, transfer_out_call, fetch_due_in, fetch_behind_done, no_fetch, fetch_behind_step, fetch_behind_call, Call, one_command, fresh_start, look, read_unaligned, write_unaligned, transfer_in, transfer_out, fetch_behind, called}
use Rattle.model.specs.Laws.{cond-elim, false-true, lowest_due-none, unless-none}
use Rattle.model.specs.declared.Command.{Command}
use Rattle.model.specs.declared.Left.TheVariants.{NoWay}
use Rattle.agreement.proofs.Good.{layout_of, Well}
use Rattle.agreement.proofs.Tested.{due-well}
use Rattle.agreement.proofs.Agreement.{fresh-accepted}
use Rattle.agreement.proofs.Stays.{fresh-well}
use Rattle.program.specs.L1p.{l1p_length, fresh_l1p, l1p_ok, in_l1p}
use Rattle.program.specs.Fetches.{Chip, chip, ChipReply, with_l1p, beside_l1p, fetch_hit, fetch_miss, fetch_done, fetch_step}
use Rattle.program.specs.Chip.{lines_after, chip_command_due, chip_step, chip_lent_due, chip_view_due, chip_fresh, chip_view, refused_call, behind_checks, fetch_call, l1p_block_call, l1p_all_call, ChipCall, on_data, fetch, l1p_block, l1p_all, chip_called}
use Rattle.program.specs.Runs.{chip_after}
use Rattle.program.specs.Stays.{ChipShape, ChipStaysWellFormed, RefusedChangesNothing}
use Rattle.program.proofs.L1pLines.{tidy-fresh}
use Rattle.program.proofs.L1pStays.{tidy-tells}
use Rattle.program.proofs.ChipStays.{ChipWell, well-passes, chip-stays}

-- ---- what number 0 tells
pub lowest-both : (d k : ℕ) → lowest_due d k ≡ 0 → (d ≡ 0) × (k ≡ 0)
lowest-both zero k e = (refl, e)
lowest-both (suc d) k e = (e, absurd (no e))
  where
    no : suc d ≡ 0 → ⊥
    no e = omega arith

pub due-well-chip : (x : Chip) → ChipShape x → chip_lent_due x ≡ 0 → ChipWell x
unfolding chip_lent_due
due-well-chip x s d =
    let p = lowest_due-none (eqb (length x.bytes) l1p_length) 0 (lowest_due (lent_due x.data_side) (unless (l1p_ok x.data_side.rec x.lines) 2)) d in
    let q = lowest-both (lent_due x.data_side) (unless (l1p_ok x.data_side.rec x.lines) 2) p.1 in
    record {
      data_side = due-well x.data_side s.data_side q.0;
      tidy = tidy-tells x.data_side.rec x.lines s.sets (unless-none (l1p_ok x.data_side.rec x.lines) 1 q.1);
      long = eqb-true (length x.bytes) 16384 p.0;
    }

pub after-well-chip : (cs : List ChipCall) (x : Chip) → ChipWell x → ChipWell (chip_after cs x)
unfolding chip_after
after-well-chip [] x w = w
after-well-chip (c ∷ cs) x w = after-well-chip cs (chip_called c x).next (chip-stays c x w)

-- the chip of an accepted fresh start
pub fresh-well-chip : (d m e : List ℕ) → (fresh_call d m e).number ≡ 0 → ChipWell (chip (fresh_call d m e).next fresh_l1p (replicate l1p_length 0))
fresh-well-chip d m e h =
    let f = fresh-accepted d m e h in let z = (fresh_call d m e).next in
    record {
      data_side = subst Well (sym f.2) (fresh-well (length m) e f.0 f.1);
      tidy = tidy-fresh (layout_of z.rec);
      long = length-replicate {A = ℕ} 16384 0;
    }

-- a fresh start that is accepted on chip y leaves it
pub fresh-started : (y : Chip) → (chip_called (on_data fresh_start) y).number ≡ 0 →
    let r = called fresh_start y.data_side in (r.number ≡ 0) × ((chip_called (on_data fresh_start) y).next ≡ chip r.next fresh_l1p (replicate l1p_length 0))
unfolding chip_fresh
fresh-started y =
    let z = y.data_side in let r = called fresh_start z in
    cond-elim (λ (q : ChipReply). q.number ≡ 0 → (r.number ≡ 0) × (q.next ≡ chip r.next fresh_l1p (replicate l1p_length 0)))
    (eqb (length y.bytes) l1p_length && fresh_ok z.l1d z.l2 z.ext) _ _ (λ _ o. (o, refl)) (λ _ o. absurd (omega arith))

pub chip-stays-well-formed : ChipStaysWellFormed
chip-stays-well-formed x s d cs = well-passes (chip_after cs x) (after-well-chip cs x (due-well-chip x s d))

-- ---- the data side: what is refused leaves the state
abbrev Leaves : State → Reply → Type 0
Leaves z r = r.number ≢ 0 → r.next ≡ z

-- what is done where nothing is due has number 0, the refusal leaves the state
leaves-unless : (z : State) (d : ℕ) (r s : Reply) → r.number ≡ 0 → s.next ≡ z → Leaves z (cond (eqb d 0) r s)
leaves-unless z d r s n e = cond-elim (Leaves z) (eqb d 0) r s (λ _ o. absurd (o n)) (λ _ _. e)

leaves-lent : (z : State) (d : ℕ) (r s : Reply) → Leaves z r → s.next ≡ z → Leaves z (cond (eqb d 0) r s)
leaves-lent z d r s h e = cond-elim (Leaves z) (eqb d 0) r s (λ _. h) (λ _ _. e)

accepted-number : (c : Command) (z : State) → (accepted c z).number ≡ 0
unfolding accepted read_done write_done
accepted-number c z =
    let N : Reply → Type 0 = λ r. r.number ≡ 0 in
    cond-elim N (eqb c.code 0) (read_done c.first c.second z) _ (λ _. refl)
    (λ _. cond-elim N (eqb c.code 1) (write_done c.first c.second c.value z) (carried_out (command_state c z)) (λ _. refl) (λ _. refl))

pub step-number : (c : Command) (z : State) → command_due c z ≡ 0 → (step c z).number ≡ 0
unfolding step
step-number c z d = rw d (accepted-number c z)

read-unaligned-leaves : (n a : ℕ) (z : State) → Leaves z (read_unaligned_call n a z)
unfolding read_unaligned_call read_unaligned_step read_unaligned_done
read-unaligned-leaves n a z =
    leaves-lent z (lent_due z) (read_unaligned_step n a z) (refused (lent_due z) z) (leaves-unless z (unaligned_due_in z n a 0) (read_unaligned_done n a z) _ refl refl) refl

write-unaligned-leaves : (n a v : ℕ) (z : State) → Leaves z (write_unaligned_call n a v z)
unfolding write_unaligned_call write_unaligned_step write_unaligned_done
write-unaligned-leaves n a v z =
    leaves-lent z (lent_due z) (write_unaligned_step n a v z) (refused (lent_due z) z) (leaves-unless z (unaligned_due_in z n a v) (write_unaligned_done n a v z) _ refl refl) refl

transfer-in-leaves : (a : ℕ) (bs : List ℕ) (z : State) → Leaves z (transfer_in_call a bs z)
unfolding transfer_in_call transfer_in_step
transfer-in-leaves a bs z =
    leaves-lent z (lent_due z) (transfer_in_step a bs z) (refused (lent_due z) z) (leaves-unless z (transfer_due_in z (length bs) a) _ _ refl refl) refl

transfer-out-leaves : (a : ℕ) (o : List ℕ) (z : State) → Leaves z (transfer_out_call a o z)
unfolding transfer_out_call transfer_out_step
transfer-out-leaves a o z =
    leaves-lent z (lent_due z) (transfer_out_step a o z) (handed_back (lent_due z) o z) (leaves-unless z (transfer_due_in z (length o) a) _ _ refl refl) refl

fetch-leaves : (a : ℕ) (z : State) → Leaves z (fetch_behind_call a z)
unfolding fetch_behind_call fetch_behind_step fetch_behind_done
fetch-leaves a z =
    leaves-lent z (lent_due z) (fetch_behind_step a z) (no_fetch (lent_due z) z) (leaves-unless z (fetch_due_in z a) (fetch_behind_done a z) _ refl refl) refl

-- ---- the chip
abbrev ChipLeaves : Chip → ChipReply → Type 0
ChipLeaves x r = r.number ≢ 0 → r.next ≡ x

module _ (x : Chip) where
  abbrev z : State
  z = x.data_side

  -- beside L1P as it was
  beside-leaves : (r : Reply) → Leaves z r → ChipLeaves x (beside_l1p r x)
  beside-leaves r h o = ap (λ (y : State). record { data_side = y; lines = x.lines; bytes = x.bytes }) (h o)

  behind-leaves : (c : Call) → Leaves z (called c z) → (refused_call c (chip_lent_due x) z).next ≡ z → ChipLeaves x (behind_checks c x)
  unfolding behind_checks
  behind-leaves c h e =
      cond-elim (ChipLeaves x) (eqb (chip_lent_due x) 0) _ _ (λ _. beside-leaves (called c z) h) (λ _. beside-leaves (refused_call c (chip_lent_due x) z) (λ _. e))

  command-leaves : (c : Command) → ChipLeaves x (chip_called (on_data (one_command c)) x)
  unfolding chip_step chip_command_due
  command-leaves c =
      cond-elim (ChipLeaves x) (eqb (chip_lent_due x) 0) (chip_step c x) _
      (λ _. cond-elim (ChipLeaves x) (eqb (chip_command_due c x) 0) (with_l1p NoWay (lines_after c z x.lines) x.bytes (step c z)) _
      (λ t o. absurd (o (step-number c z (lowest-both (command_due c z) _ (eqb-true (chip_command_due c x) 0 t)).0))) (λ _ _. refl))
      (λ _ _. refl)

  look-leaves : (a : ℕ) → ChipLeaves x (chip_view a x)
  unfolding chip_view view_done
  look-leaves a = cond-elim (ChipLeaves x) (eqb (chip_view_due a x) 0) _ _ (λ _ _. refl) (λ _ _. refl)

  done-number : (a : ℕ) → (fetch_done a x).number ≡ 0
  unfolding fetch_done fetch_hit fetch_miss fetch_behind_done
  done-number a =
      let N : ChipReply → Type 0 = λ r. r.number ≡ 0 in
      cond-elim N (cacheable z.rec a) _ _ (λ _. cond-elim N (in_l1p x.lines a) (fetch_hit a x) (fetch_miss a x) (λ _. refl) (λ _. refl)) (λ _. refl)

  fetched-leaves : (a : ℕ) → ChipLeaves x (fetch_call a x)
  unfolding fetch_call fetch_step
  fetched-leaves a =
      cond-elim (ChipLeaves x) (eqb (chip_lent_due x) 0) (fetch_step a x) _
      (λ _. cond-elim (ChipLeaves x) (eqb (fetch_due_in z a) 0) (fetch_done a x) _ (λ _ o. absurd (o (done-number a))) (λ _ _. refl)) (λ _ _. refl)

  block-leaves : (b c : ℕ) → ChipLeaves x (l1p_block_call b c x)
  unfolding l1p_block_call
  block-leaves b c = cond-elim (ChipLeaves x) (eqb (lowest_due (chip_lent_due x) (block_due b c)) 0) _ _ (λ _ o. absurd (o refl)) (λ _ _. refl)

  all-leaves : ChipLeaves x (l1p_all_call x)
  unfolding l1p_all_call
  all-leaves = cond-elim (ChipLeaves x) (eqb (chip_lent_due x) 0) _ _ (λ _ o. absurd (o refl)) (λ _ _. refl)

pub refused-changes-nothing : RefusedChangesNothing
refused-changes-nothing (on_data (one_command c)) x s = command-leaves x c
refused-changes-nothing (on_data fresh_start) x s = false-true (sym s)
refused-changes-nothing (on_data (look a)) x s = look-leaves x a
refused-changes-nothing (on_data (read_unaligned n a)) x s = behind-leaves x (read_unaligned n a) (read-unaligned-leaves n a x.data_side) refl
refused-changes-nothing (on_data (write_unaligned n a v)) x s = behind-leaves x (write_unaligned n a v) (write-unaligned-leaves n a v x.data_side) refl
refused-changes-nothing (on_data (transfer_in a bs)) x s = behind-leaves x (transfer_in a bs) (transfer-in-leaves a bs x.data_side) refl
refused-changes-nothing (on_data (transfer_out a o)) x s = behind-leaves x (transfer_out a o) (transfer-out-leaves a o x.data_side) refl
refused-changes-nothing (on_data (fetch_behind a)) x s = behind-leaves x (fetch_behind a) (fetch-leaves a x.data_side) refl
refused-changes-nothing (fetch a) x s = fetched-leaves x a
refused-changes-nothing (l1p_block b c) x s = block-leaves x b c
refused-changes-nothing l1p_all x s = all-leaves x
