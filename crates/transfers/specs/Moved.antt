-- The steps of a transfer as the code takes them are those of 02, U1: the number due; the L1D lines go home by the
-- command for a block; all of the buffer is put. A transfer out that is accepted has all its bytes there, since the
-- lent memories are as long as the record says (check 1).
use Rattle.std.specs.Prelude.{ℕ, ◌-◌, ◌/◌, ◌≤◌, cond, true, List, ◌≡◌, ltb}
use Rattle.std.proofs.Math.Path.{refl}
use Rattle.std.proofs.Common.{◌∙◌, arith}
use Rattle.std.proofs.Math.ListN.{length}
use Rattle.std.proofs.lemmas.Bool.Decides.{nat_tests}
use Rattle.model.specs.Bytes.{part, stored}
use Rattle.model.specs.Memories.{external_base}
use Rattle.model.specs.Records.{State, with_l2, with_external, sram_of}
use Rattle.model.specs.Homes.{memory_part, put_memory}
use Rattle.model.specs.Commands.{at_l1d, each_touched, l1d_writeback_invalidate_block}
use Rattle.model.specs.Refusals.{lent_due, lent_l2, lent_external, place_ok}
use Rattle.model.specs.Transfers.{sent_home, transferred_in, transferred_out, transfer_length, transfer_due}
use Rattle.model.specs.Calls.{reply, handed_back, transfer_due_in, transfer_in_step, transfer_out_step}
use Rattle.model.specs.Laws.{length_part}
use Rattle.memory.specs.Copied.{stored-whole, part-whole}
use Rattle.l1d_commands.specs.Steps.{l1d_operation}
use Rattle.kinds.specs.Numbers.{refusal_number, refusal_some}
use Rattle.kinds.specs.declared.Refusal.{Refusal}

-- ---- an accepted transfer has a length that 13 lets pass, and lies in one memory
module _ (s e n a : ℕ) (d : transfer_due s e n a ≡ 0) where
  pub short : n ≤ 262140
  unfolding transfer_due transfer_length
  short = grind (arith, nat_tests)

  placed : place_ok s e n a ≡ true
  unfolding transfer_due
  placed = grind (arith, nat_tests)

-- ---- the L1D lines go home; the bytes go to the memory of their address
module _ (a : ℕ) (z : State) where
  pub home_by_lines : (n : ℕ) → sent_home a n z ≡ cond (ltb a external_base) (each_touched 64 (at_l1d (l1d_operation 7)) a (n / 4) z) z
  unfolding sent_home l1d_writeback_invalidate_block l1d_operation
  home_by_lines n = refl

  pub put_whole : (bs : List ℕ) →
      put_memory a bs z
      ≡ cond (ltb a external_base) (with_l2 z (stored z.l2 a (part bs 0 (length bs))))
      (with_external z (stored z.ext (a - external_base) (part bs 0 (length bs))))
  unfolding put_memory
  put_whole bs = rw part-whole refl

-- ---- a transfer in
module _ (a : ℕ) (bs : List ℕ) (z : State) where
  pub in_refused : (e : Refusal) → refusal_number e ≡ transfer_due_in z (length bs) a →
      reply (refusal_number e) 0 0 z ≡ transfer_in_step a bs z
  unfolding transfer_in_step
  in_refused e d = grind (arith, nat_tests, refusal_some)

  pub in_done : 0 ≡ transfer_due_in z (length bs) a →
      transfer_in_step a bs z ≡ reply 0 0 0 (put_memory a bs (sent_home a (length bs) z))
  unfolding transfer_in_step transferred_in
  in_done d = rw (← d) refl

-- ---- a transfer out: checks 1 and 14 tell that its bytes are there
all_there : (a n : ℕ) (z y : State) → lent_due z ≡ 0 → place_ok (sram_of z.rec) z.rec.extlen n a ≡ true →
    length y.l2 ≡ length z.l2 → length y.ext ≡ length z.ext → length (memory_part a n y) ≡ n
unfolding lent_due lent_l2 lent_external place_ok memory_part
all_there a n z y h k l2 ext = grind (arith, nat_tests, length_part)

module _ (a : ℕ) (o : List ℕ) (z : State) where
  pub out_refused : (e : Refusal) → refusal_number e ≡ transfer_due_in z (length o) a →
      handed_back (refusal_number e) o z ≡ transfer_out_step a o z
  unfolding transfer_out_step
  out_refused e d = grind (arith, nat_tests, refusal_some)

  pub out_done : transfer_due_in z (length o) a ≡ 0 → lent_due z ≡ 0 → (y : State) (o' : List ℕ) → y ≡ sent_home a (length o) z →
      length y.l2 ≡ length z.l2 → length y.ext ≡ length z.ext →
      o' ≡ stored o 0 (memory_part a (length o) y) → handed_back 0 o' y ≡ transfer_out_step a o z
  unfolding transfer_out_step transferred_out
  out_done d w y o' ey l2 ext eo =
      let n = length o in
      let t = all_there a n z y w (placed (sram_of z.rec) z.rec.extlen n a d) l2 ext in
      rw (d, eo ∙ stored-whole o (memory_part a n y) t, ey) refl
