-- Transfers (02, U1), in two runs at once. Shown: on a `Pair` both are due the same number, leave a `Pair` again, and a
-- transfer out hands back bytes that stand for the same addresses (`sent-both`, `in_both`, `out_both`). Why: which
-- lines go home goes by the record, as for L1D block writeback-invalidate; SRAM and external memory are areas, out of
-- which and into which bytes go at the addresses that they stand for. In external memory lines that are held play no
-- part.
use Prim.Native.Nat.{ℕ, ◌+◌, ◌/◌, ◌≤◌, ◌<◌}
use mathlib.Core.Path.{◌≡◌}
use mathlib.Core.List.{List}
use native.Mathlib.Omega.{arith}
use lib.Dec.{ltb}
use Rattle.model.specs.Memories.{external_base}
use Rattle.model.specs.Records.{State, sram_of}
use Rattle.model.specs.Homes.{memory_part, put_memory}
use Rattle.model.specs.Commands.{l1d_writeback_invalidate_block}
use Rattle.model.specs.Transfers.{sent_home, transferred_in, transferred_out}
use Rattle.model.specs.Calls.{transfer_due_in}
use Rattle.model.specs.Laws.{cond_both}
use Rattle.agreement.proofs.Transfers.{transfer-tells}
use Rattle.two_runs.proofs.Areas.{Pairing, Twins}
use Rattle.two_runs.proofs.Pair.{Layout, Pair, Keeps, lift, one-record, memory-twins, put_memory-pair}
use Rattle.two_runs.proofs.Sweeping.{code-7}

-- the n bytes at a lie in SRAM or in external memory
record Inside (g : Layout) (a n : ℕ) : Type 0 where
  low : a < external_base → a + n ≤ g.sram
  high : external_base ≤ a → a + n ≤ external_base + g.ext

module _ {P : Pairing} {g : Layout} where
  inside : {z z' : State} → Pair P g z z' → (n a : ℕ) → transfer_due_in z n a ≡ 0 → Inside g a n
  inside {z} q n a u =
      let t = transfer-tells (sram_of z.rec) z.rec.extlen n a u in let s = q.sizes.sram in let x = q.sizes.extlen in
      record { low = λ l. let y = t.low l in omega arith; high = λ l. let y = t.high l in omega arith }

  pub sent-both : (a n : ℕ) → Keeps P g (sent_home a n)
  unfolding sent_home
  sent-both a n z z' q =
      let f = l1d_writeback_invalidate_block a (n / 4) in
      cond_both (Pair P g) (ltb a external_base) (f z) z (f z') z' (λ _. code-7 a (n / 4) z z' q) (λ _. q)

  module _ (a n : ℕ) (z z' : State) (q : Pair P g z z') (u : transfer_due_in z n a ≡ 0) where
    pub out_both : Twins P a n (transferred_out a n z) (transferred_out a n z')
    unfolding transferred_out
    out_both =
        let i = inside q n a u in
        lift (Twins P a n) (memory_part a n) (sent_home a n z) (λ d m e p. memory-twins p a n i.low i.high) (sent_home a n z') (sent-both a n z z' q)

    pub in_both : {bs bs' : List ℕ} → Twins P a n bs bs' → Pair P g (transferred_in a bs z) (transferred_in a bs' z')
    unfolding transferred_in
    in_both {bs} {bs'} t =
        let i = inside q n a u in let p = sent-both a n z z' q in
        rw (t.long, t.long')
        (one-record (Pair P g) (Pair P g) (put_memory a bs) (put_memory a bs') (sent_home a n z) (λ d m e r. put_memory-pair r t i.low i.high) (sent_home a n z')
        p.same p)
