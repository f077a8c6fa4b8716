-- What the contracts of crate boundary say makes a call from C as specs/FromC and specs/FramesFromC have it: a
-- command's, a non-aligned access's, a transfer in's, L1P's invalidations' and the fresh start's, which hand back no
-- bytes; a transfer out's, in whose buffer they are; a fetch's, whose line C is given; a run's, a frame's; and the
-- view's, whose number and bytes C is given and which leaves words and bytes as they are.
use Prim.Native.Nat.{ℕ}
use mathlib.Core.Path.{◌≡◌, refl, sym, ap, ◌∙◌}
use mathlib.Core.Bool.{◌&&◌}
use mathlib.Core.List.{List, []}
use lib.ListN.{length}
use lib.Dec.{eqb}
use borrow.Author.Tests.{eqb-true}
use Rattle.model.specs.Refusals.{unless, block_due, lowest_due, view_lent_due, view_due}
use Rattle.model.specs.Laws.{cond-elim, step-told, read-unaligned-told, write-unaligned-told, transfer-in-told}
use Rattle.model.specs.Calls.{Reply, fresh_ok, fresh_call, view_done, Call, one_command, fresh_start, look, read_unaligned, write_unaligned, transfer_in, transfer_out, called}
use Rattle.model.specs.declared.Command.{Command}
use Rattle.program.specs.L1p.{l1p_length, l1p_ok}
use Rattle.program.specs.Fetches.{Chip, ChipReply}
use Rattle.program.specs.Chip.{chip_command_due, chip_step, chip_lent_due, chip_view_due, refused_call, behind_checks, chip_fresh, chip_view, l1p_block_call, l1p_all_call, on_data, fetch, l1p_block, l1p_all, chip_called}
use Rattle.program.specs.Runs.{ChipRun, chip_ran, chip_run_call, ChipFramed, chip_frame_call}
use Rattle.program.proofs.Stays.{lowest-both}
use Rattle.c_answers.specs.Told.{Tells, TellsFetch}
use Rattle.c_answers.specs.declared.CFetched.{CFetched}
use Rattle.c_answers.specs.declared.CAnswer.{CAnswer}
use Rattle.c_calls.specs.FromC.{Held, chip_of, Answered, answered_by, Gives, FromC}
use Rattle.c_calls.specs.FramesFromC.{ran_by, GivesRun, framed_by, GivesFrame}

-- ---- with the bytes that it hands back, and with none
abbrev pub handing : CAnswer → List ℕ → Answered
handing x bs = record { number = x.number; server = x.server; value = x.value; bytes = bs }

pub with-bytes : (r : ChipReply) (x : CAnswer) (bs : List ℕ) (k : Held) → Tells x (chip_of k) r → bs ≡ r.bytes → Gives r (handing x bs) k
with-bytes r x bs k t e = record { answer = λ i. handing (t.0 i) (e i); next = t.1 }

from-c : (r : ChipReply) (x : CAnswer) (k : Held) → r.bytes ≡ [] → Tells x (chip_of k) r → Gives r (handing x []) k
from-c r x k none t = with-bytes r x [] k t (sym none)

-- ---- which calls hand back none
abbrev NoBytes : ChipReply → Type 0
NoBytes r = r.bytes ≡ []

command-none : (c : Command) (y : Chip) → NoBytes (chip_called (on_data (one_command c)) y)
unfolding chip_step
command-none c y =
    cond-elim NoBytes (eqb (chip_lent_due y) 0) (chip_step c y) _
    (λ _. cond-elim NoBytes (eqb (chip_command_due c y) 0) _ _ (λ _. sym (ap (λ (r : Reply). r.bytes) (step-told c y.data_side))) (λ _. refl)) (λ _. refl)

behind-none : (c : Call) (y : Chip) → (called c y.data_side).bytes ≡ [] → (refused_call c (chip_lent_due y) y.data_side).bytes ≡ [] → NoBytes (behind_checks c y)
unfolding behind_checks
behind-none c y a b = cond-elim NoBytes (eqb (chip_lent_due y) 0) _ _ (λ _. a) (λ _. b)

fresh-none : (y : Chip) → NoBytes (chip_fresh y)
unfolding chip_fresh fresh_call
fresh-none y =
    let z = y.data_side in
    cond-elim NoBytes (eqb (length y.bytes) l1p_length && fresh_ok z.l1d z.l2 z.ext) _ _
    (λ _. cond-elim (λ (r : Reply). r.bytes ≡ []) (fresh_ok z.l1d z.l2 z.ext) _ _ (λ _. refl) (λ _. refl)) (λ _. refl)

block_none : (b c : ℕ) (y : Chip) → NoBytes (l1p_block_call b c y)
unfolding l1p_block_call
block_none b c y = cond-elim NoBytes (eqb (lowest_due (chip_lent_due y) (block_due b c)) 0) _ _ (λ _. refl) (λ _. refl)

all_none : (y : Chip) → NoBytes (l1p_all_call y)
unfolding l1p_all_call
all_none y = cond-elim NoBytes (eqb (chip_lent_due y) 0) _ _ (λ _. refl) (λ _. refl)

-- ---- each call from C
module _ (h k : Held) (x : CAnswer) where
  abbrev Told : ChipReply → Type 0
  Told r = Tells x (chip_of k) r

  pub command-from-c : (c : Command) → Told (chip_called (on_data (one_command c)) (chip_of h)) → FromC (on_data (one_command c)) h (handing x []) k
  command-from-c c t = from-c (chip_called (on_data (one_command c)) (chip_of h)) x k (command-none c (chip_of h)) t

  pub read-unaligned-from-c : (n a : ℕ) → Told (chip_called (on_data (read_unaligned n a)) (chip_of h)) → FromC (on_data (read_unaligned n a)) h (handing x []) k
  read-unaligned-from-c n a t =
      let y = chip_of h in
      from-c (chip_called (on_data (read_unaligned n a)) y) x k
      (behind-none (read_unaligned n a) y (sym (ap (λ (r : Reply). r.bytes) (read-unaligned-told n a y.data_side))) refl) t

  pub write-unaligned-from-c : (n a v : ℕ) → Told (chip_called (on_data (write_unaligned n a v)) (chip_of h)) → FromC (on_data (write_unaligned n a v)) h (handing x []) k
  write-unaligned-from-c n a v t =
      let y = chip_of h in
      from-c (chip_called (on_data (write_unaligned n a v)) y) x k
      (behind-none (write_unaligned n a v) y (sym (ap (λ (r : Reply). r.bytes) (write-unaligned-told n a v y.data_side))) refl) t

  pub transfer-in-from-c : (a : ℕ) (bs : List ℕ) → Told (chip_called (on_data (transfer_in a bs)) (chip_of h)) → FromC (on_data (transfer_in a bs)) h (handing x []) k
  transfer-in-from-c a bs t =
      let y = chip_of h in
      from-c (chip_called (on_data (transfer_in a bs)) y) x k
      (behind-none (transfer_in a bs) y (sym (ap (λ (r : Reply). r.bytes) (transfer-in-told a bs y.data_side))) refl) t

  pub transfer-out-from-c : (a : ℕ) (o bs : List ℕ) → Told (chip_called (on_data (transfer_out a o)) (chip_of h)) →
      bs ≡ (chip_called (on_data (transfer_out a o)) (chip_of h)).bytes → FromC (on_data (transfer_out a o)) h (handing x bs) k
  transfer-out-from-c a o bs t e = with-bytes (chip_called (on_data (transfer_out a o)) (chip_of h)) x bs k t e

  pub fresh-from-c : Told (chip_called (on_data fresh_start) (chip_of h)) → FromC (on_data fresh_start) h (handing x []) k
  fresh-from-c t = from-c (chip_called (on_data fresh_start) (chip_of h)) x k (fresh-none (chip_of h)) t

  pub l1p-block-from-c : (b c : ℕ) → Told (chip_called (l1p_block b c) (chip_of h)) → FromC (l1p_block b c) h (handing x []) k
  l1p-block-from-c b c t = from-c (chip_called (l1p_block b c) (chip_of h)) x k (block_none b c (chip_of h)) t

  pub l1p-all-from-c : Told (chip_called l1p_all (chip_of h)) → FromC l1p_all h (handing x []) k
  l1p-all-from-c t = from-c (chip_called l1p_all (chip_of h)) x k (all_none (chip_of h)) t

-- ---- a fetch, whose answer has its bytes beside it
pub fetch-from-c : (a : ℕ) (h k : Held) (x : CFetched) → TellsFetch x (chip_of k) (chip_called (fetch a) (chip_of h)) → FromC (fetch a) h (handing x.answer x.bytes) k
fetch-from-c a h k x t = with-bytes (chip_called (fetch a) (chip_of h)) x.answer x.bytes k t.0 t.1.1

-- ---- a run, with its answer bytes behind it; a frame
pub run-from-c : (t o : List ℕ) (h k : Held) (i n s : ℕ) (os : List ℕ) → chip_ran (chip_of k) i n s os ≡ chip_run_call t o (chip_of h) →
    GivesRun (chip_run_call t o (chip_of h)) (record { consumed = i; count = n; stop = s; answers = os }) k
run-from-c t o h k i n s os e = record { answer = ap ran_by e; next = ap (λ (r : ChipRun). r.next) e }

abbrev chip_framed : ℕ → ℕ → List ℕ → Chip → ChipFramed
chip_framed n v ss y = record { number = n; turn = v; sums = ss; next = y }

pub frame-from-c : (t : ℕ) (px : List ℕ) (h k : Held) (n v : ℕ) (ss : List ℕ) → chip_framed n v ss (chip_of k) ≡ chip_frame_call t px (chip_of h) →
    GivesFrame (chip_frame_call t px (chip_of h)) (record { number = n; turn = v; sums = ss }) k
frame-from-c t px h k n v ss e = record { answer = ap framed_by e; next = ap (λ (r : ChipFramed). r.next) e }

-- ---- the view
view-none : (a : ℕ) (y : Chip) → chip_view_due a y ≡ 0 → view_due y.data_side.rec y.data_side.l2 y.data_side.ext a ≡ 0
unfolding chip_view_due
view-none a y d =
    let z = y.data_side in let v = view_due z.rec z.l2 z.ext a in let l = unless (l1p_ok z.rec y.lines) 2 in
    (lowest-both l v (lowest-both (view_lent_due z.rec z.l2 z.ext) (lowest_due l v) d).1).1

view-reply : (a : ℕ) (y : Chip) →
    ((chip_view a y).next ≡ y) × (answered_by (chip_view a y) ≡ record { number = chip_view_due a y; server = 0; value = 0; bytes = (chip_view a y).bytes })
unfolding chip_view view_done
view-reply a y =
    let z = y.data_side in let d = chip_view_due a y in let v = view_due z.rec z.l2 z.ext a in
    cond-elim (λ (r : ChipReply). (r.next ≡ y) × (answered_by r ≡ record { number = d; server = 0; value = 0; bytes = r.bytes })) (eqb d 0) _ _
    (λ u. let o = eqb-true d 0 u in let e : v ≡ d = view-none a y o ∙ sym o in
    (refl, λ i. record { number = e i; server = 0; value = 0; bytes = (called (look a) z).bytes }))
    (λ _. (refl, refl))

pub view-from-c : (a : ℕ) (h : Held) (n : ℕ) (bs : List ℕ) → n ≡ chip_view_due a (chip_of h) → bs ≡ (chip_called (on_data (look a)) (chip_of h)).bytes →
    FromC (on_data (look a)) h (record { number = n; server = 0; value = 0; bytes = bs }) h
view-from-c a h n bs en eb =
    let p = view-reply a (chip_of h) in
    record { answer = (λ i. record { number = en i; server = 0; value = 0; bytes = eb i }) ∙ sym p.1; next = sym p.0 }
