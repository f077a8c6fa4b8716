-- Transfers (02, U1) on a good state. Shown: whatever its place, a transfer leaves a well-formed state
-- (`transfer-in-well`, `transfer-out-well`); and where no line of either cache has one of its bytes once the touched
-- lines of L1D have gone home, a transfer out reads right bytes, and one in takes a state that is good by F to one that
-- is good by F', F with its bytes written (`transferred-in-good`, `transferred-out-good`).
-- Why: to send lines home keeps the state good, as L1D block writeback-invalidate does. In SRAM no line is left then
-- (`sent-uncached`): L1D's have gone, and L2 holds none of SRAM. Memory that no line has is right, and may be written.
use Prim.Native.Nat.{ℕ, ◌+◌, ◌/◌, ◌%◌, ◌≤◌, ◌<◌}
use mathlib.Core.Bool.{◌&&◌, not}
use mathlib.Core.Path.{◌≡◌, refl}
use mathlib.Core.List.{List}
use native.Mathlib.Omega.{arith}
use lib.ListN.{length, get_or}
use lib.Dec.{ltb, leb, eqb}
use borrow.Author.Tests.{ltb-true, ltb-false, lt-ltb, le-ltb, leb-true, eqb-true}
use Rattle.model.specs.Memories.{external_base}
use Rattle.model.specs.Records.{State, with_l2, with_external, sram_of}
use Rattle.model.specs.Homes.{memory_part, put_memory}
use Rattle.model.specs.Commands.{block_end, l1d_writeback_invalidate_block}
use Rattle.model.specs.Refusals.{lowest_due, unless, place_ok}
use Rattle.model.specs.Transfers.{sent_home, transferred_in, transferred_out, transfer_length, transfer_due}
use Rattle.model.specs.Calls.{Reply, refused, carried_out, transfer_due_in, handed_back, transfer_in_step, transfer_in_call, transfer_out_step, transfer_out_call}
use Rattle.model.specs.Laws.{bool, both_true, cond-elim, lowest_due-none, unless-none, transfer-block}
use Rattle.agreement.proofs.Invariant.{Allowed, carry}
use Rattle.agreement.proofs.Memory.{low_stored, high_stored, Fits, low-length, high-length, read_length, read_at, Written}
use Rattle.agreement.proofs.Good.{layout_of, Good, Anything, Well, kept_trans, lists-tidy}
use Rattle.agreement.proofs.Evict.{put_memory-state}
use Rattle.agreement.proofs.Fetch.{AccessFits}
use Rattle.agreement.proofs.ReadWrite.{Step, Uncached, put_memory-good}
use Rattle.agreement.proofs.Drops.{well}
use Rattle.agreement.proofs.Sweeps.{step-refl, l1d_writeback_invalidate_block-good, l1d-block-gone}
use Rattle.agreement.proofs.Tested.{well-due}

-- ---- what number 0 tells
pub record TransferFits (s e n a : ℕ) : Type 0 where
  pub words : n % 4 ≡ 0
  pub most : n ≤ 262140
  pub low : a < external_base → a + n ≤ s
  pub high : external_base ≤ a → a + n ≤ external_base + e

pub transfer-tells : (s e n a : ℕ) → transfer_due s e n a ≡ 0 → TransferFits s e n a
unfolding transfer_due transfer_length place_ok
transfer-tells s e n a d =
    let p = lowest_due-none (eqb (a % 4) 0) 3 (lowest_due (unless (transfer_length n) 13) (unless (place_ok s e n a) 14)) d in
    let o = lowest_due-none (transfer_length n) 12 (unless (place_ok s e n a) 14) p.1 in
    let l = both_true (not (eqb n 0)) (eqb (n % 4) 0 && leb n 262140) o.0 in
    let m = both_true (eqb (n % 4) 0) (leb n 262140) l.1 in
    let k = unless-none (place_ok s e n a) 13 o.1 in
    record {
      words = eqb-true (n % 4) 0 m.0;
      most = leb-true n 262140 m.1;
      low = λ h. leb-true (a + n) s (rw (lt-ltb a external_base h) at k);
      high = λ h. leb-true (a + n) (external_base + e) (rw (le-ltb a external_base h) at k);
    }

pub transfer-fits : (z : State) (n a : ℕ) → transfer_due_in z n a ≡ 0 → AccessFits (layout_of z.rec) a n
transfer-fits z n a d = let t = transfer-tells (sram_of z.rec) z.rec.extlen n a d in record { low = t.low; high = t.high }

-- ---- touched lines go home
pub sent-good : (z : State) (F : Allowed) → Good z F → (a n : ℕ) → Step z F (sent_home a n z)
unfolding sent_home
sent-good z F q a n =
    cond-elim (Step z F) (ltb a external_base) (l1d_writeback_invalidate_block a (n / 4) z) z
    (λ _. l1d_writeback_invalidate_block-good z F q a (n / 4)) (λ _. step-refl z F q)

module _ (z : State) (F : Allowed) (q : Good z F) (n a : ℕ) (d : transfer_due_in z n a ≡ 0) where
  -- in SRAM no line has a byte of the transfer then; in external memory none has where none had
  pub sent-uncached : (external_base ≤ a → Uncached z a n) → Uncached (sent_home a n z) a n
  unfolding sent_home
  sent-uncached out =
      let t = transfer-tells (sram_of z.rec) z.rec.extlen n a d in
      let y = l1d_writeback_invalidate_block a (n / 4) z in
      cond-elim (λ (x : State). Uncached x a n) (ltb a external_base) y z
      (λ e b from to.
      let l = t.low (ltb-true a external_base e) in let most = q.tidy.sizes.l2_most in
      let end = transfer-block a n t.words (omega arith) in
      let to' : b < block_end a (n / 4) = rw end to in
      let g = (l1d_writeback_invalidate_block-good z F q a (n / 4)).good in (
        l1d-block-gone z F q a (n / 4) b (omega arith) from to',
        λ u v k i. let p = g.inv.l2_sound.place u v k in let lo = p.low in absurd (omega arith),
      ))
      (λ e. out (ltb-false a external_base e))

  sent-fits : AccessFits (layout_of (sent_home a n z).rec) a n
  sent-fits = rw (sent-good z F q a n).kept.layout (transfer-fits z n a d)

  -- ---- out
  pub record OutGood (bs : List ℕ) : Type 0 where
    pub long : length bs ≡ n
    pub right : (j : ℕ) → j < n → F.right (a + j) (get_or bs j 0)

  pub transferred-out-good : Uncached (sent_home a n z) a n → OutGood (transferred_out a n z)
  unfolding transferred_out memory_part
  transferred-out-good free =
      let x = sent_home a n z in let g = (sent-good z F q a n).good in let f = sent-fits in
      let m = g.tidy.sizes.l2_length in let e = g.tidy.sizes.ext_length in let mx = g.tidy.sizes.l2_most in
      let fits : Fits x.l2 x.ext a n = record { low = λ h. let k = f.low h in omega arith; high = λ h. let k = f.high h in omega arith } in
      record {
        long = read_length x.l2 x.ext a n fits;
        right = λ j h.
            let c = free (a + j) (omega arith) (omega arith) in
            carry F (read_at x.l2 x.ext a n fits (omega arith) j h)
            (g.inv.memory_right (a + j)
            (record { low = λ k. let r = f.low (omega arith) in omega arith; high = λ k. in-external j h k })
            (λ s w k _. c.0 s w k) (λ t v k _. c.1 t v k));
      }
    where
      in-external : (j : ℕ) → j < n → external_base ≤ a + j → a + j < external_base + (sent_home a n z).rec.extlen
      in-external j h k =
          let f = sent-fits in let l = (sent-good z F q a n).good.tidy.sizes.l2_most in
          bool (ltb a external_base)
          (λ t. let r = f.low (ltb-true a external_base t) in absurd (omega arith))
          (λ t. let r = f.high (ltb-false a external_base t) in omega arith)

-- ---- in
pub transferred-in-good : (z : State) (F F' : Allowed) → Good z F → (a : ℕ) (bs : List ℕ) → Written F F' a bs → transfer_due_in z (length bs) a ≡ 0 →
    Uncached (sent_home a (length bs) z) a (length bs) → Step z F' (transferred_in a bs z)
unfolding transferred_in
transferred-in-good z F F' q a bs wr d free =
    let n = length bs in let x = sent_home a n z in let s = sent-good z F q a n in
    let p = put_memory-good x F F' s.good a bs wr (sent-fits z F q n a d) free in
    record { good = p.good; kept = kept_trans z x (put_memory a bs x) s.kept p.kept }

-- ---- well-formed states: no byte of memory counts there
put-well : (z : State) → Well z → (a : ℕ) (bs : List ℕ) → Well (put_memory a bs z)
put-well z q a bs =
    let m = low_stored z.l2 a bs in let e = high_stored z.ext a bs in let v = q.inv in
    rw (put_memory-state a bs z)
    (well (with_external (with_l2 z m) e) (lists-tidy z q.tidy z.l1d m e refl (low-length z.l2 bs a) (high-length z.ext bs a))
    v.l1d_sound (record { once = v.l2_sound.once; place = v.l2_sound.place }) v.inclusion)

-- ---- the calls
pub transfer-in-step : (a : ℕ) (bs : List ℕ) (z : State) → Well z → transfer_in_call a bs z ≡ transfer_in_step a bs z
unfolding transfer_in_call
transfer-in-step a bs z h = rw (well-due z h) refl

pub transfer-out-step : (a : ℕ) (o : List ℕ) (z : State) → Well z → transfer_out_call a o z ≡ transfer_out_step a o z
unfolding transfer_out_call
transfer-out-step a o z h = rw (well-due z h) refl

pub transfer-in-well : (a : ℕ) (bs : List ℕ) (z : State) → Well z → Well (transfer_in_call a bs z).next
unfolding transfer_in_step transferred_in
transfer-in-well a bs z h =
    let e = transfer-in-step a bs z h in let d = transfer_due_in z (length bs) a in
    rw e (cond-elim (λ (r : Reply). Well r.next) (eqb d 0) (carried_out (transferred_in a bs z)) (refused d z)
    (λ _. put-well (sent_home a (length bs) z) (sent-good z Anything h a (length bs)).good a bs) (λ _. h))

pub transfer-out-well : (a : ℕ) (o : List ℕ) (z : State) → Well z → Well (transfer_out_call a o z).next
unfolding transfer_out_step
transfer-out-well a o z h =
    let e = transfer-out-step a o z h in let n = length o in let d = transfer_due_in z n a in
    rw e (cond-elim (λ (r : Reply). Well r.next) (eqb d 0) (handed_back 0 (transferred_out a n z) (sent_home a n z)) (handed_back d o z)
    (λ _. (sent-good z Anything h a n).good) (λ _. h))
