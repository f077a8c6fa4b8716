-- The data side of a well-formed chip runs through the calls that the chip carries out on it, and their replies are the
-- chip's (`projects`, `projected`). Why: it does not see L1P, and checks 1 and 2 find nothing on either.
use Prim.Native.Nat.{ℕ, zero, suc}
use mathlib.Core.Bool.{false}
use mathlib.Core.Path.{◌≡◌, refl, ap, ◌∙◌}
use mathlib.Core.Logic.{◌≢◌, ◌⊎◌, inl, inr, ⊎_elim}
use mathlib.Core.List.{List, [], ◌∷◌}
use native.Mathlib.Omega.{arith}
use lib.ListN.{length, replicate, length-replicate}
use lib.Dec.{eqb}
use borrow.Author.Tests.{eqb-true, eqb-false, eq-eqb, ne_eqb}
use Rattle.model.specs.Records.{State, fresh_state}
use Rattle.model.specs.Access.{cacheable}
use Rattle.model.specs.Refusals.{lowest_due, block_due}
use Rattle.model.specs.Calls.{Reply, refused, command_due, accepted, step, fresh_call, fetch_due_in, fetch_behind_step, Call, one_command, fresh_start, look, read_unaligned, write_unaligned, transfer_in, transfer_out, fetch_behind, after}
use Rattle.model.specs.Flat.{fresh_flat}
use Rattle.model.specs.Laws.{bool, cond-elim, cond_both}
use Rattle.model.specs.declared.Command.{Command}
use Rattle.agreement.proofs.Good.{layout_of, good-well}
use Rattle.agreement.proofs.Tested.{call_step}
use Rattle.agreement.proofs.Fetches.{fetch-step}
use Rattle.agreement.proofs.Agreement.{Is, fresh-matches, fresh-accepted}
use Rattle.program.specs.L1p.{in_l1p, fresh_l1p, l1p_length}
use Rattle.program.specs.Fetches.{Chip, chip, ChipReply, beside_l1p, fetch_hit, fetch_miss, fetch_done, fetch_step}
use Rattle.program.specs.Chip.{chip_command_due, chip_step, chip_fresh, fetch_call, l1p_block_call, l1p_all_call, ChipCall, on_data, fetch, l1p_block, l1p_all, chip_called}
use Rattle.program.specs.Runs.{chip_after}
use Rattle.program.specs.Projected.{l1p_serves, l1p_refuses, all_data_calls, data_reply, Carried, Quiet, Projects, Projected}
use Rattle.program.proofs.L1pLines.{tidy-fresh}
use Rattle.program.proofs.ChipStays.{ChipWell, well-passes, well-fresh-ok, lowest-none, Beside, look-beside, read-unaligned-beside, write-unaligned-beside, transfer-in-beside, transfer-out-beside, fetch-behind-beside, chip-stays}

-- where another number than the first is due, a number is due
other-number : (d k : ℕ) → lowest_due d k ≢ d → eqb (lowest_due d k) 0 ≡ false
other-number zero k n = ne_eqb k 0 n
other-number (suc d) k n = ne_eqb (suc d) 0 (omega arith)

differs : (c : Command) (x : Chip) → chip_command_due c x ≢ command_due c x.data_side → (eqb (chip_command_due c x) 0 ≡ false) × (c.code ≡ 11)
unfolding chip_command_due
differs c x n =
    let d = command_due c x.data_side in
    (other-number d _ n, bool (eqb c.code 11) (λ t. eqb-true c.code 11 t) (λ t. absurd (n (rw t (lowest-none d)))))

module _ (x : Chip) (w : ChipWell x) where
  abbrev z : State
  z = x.data_side

  -- ---- a call of the data side: carried out, or refused by L1P alone
  pub record Hindered (c : Call) : Type 0 where
    pub given : Command
    pub is : c ≡ one_command given
    pub code : given.code ≡ 11
    pub quiet : Quiet (on_data c) x
    pub number : eqb (chip_called (on_data c) x).number 0 ≡ false

  step-reply : (c : Command) → chip_command_due c x ≡ command_due c z → data_reply (chip_step c x) ≡ step c z
  unfolding chip_step step
  step-reply c e =
      let d = command_due c z in
      rw e (cond_both (λ (r : ChipReply) (s : Reply). data_reply r ≡ s) (eqb d 0) _ (beside_l1p (refused d z) x) (accepted c z) (refused d z) (λ u. rw u refl) (λ _. refl))

  command-projects : (c : Command) → Carried (one_command c) (on_data (one_command c)) x ⊎ Hindered (one_command c)
  unfolding l1p_refuses chip_step
  command-projects c =
      let n = chip_command_due c x in let d = command_due c z in let p = well-passes x w in
      bool (eqb n d)
      (λ t. inl (record {
        calls = rw t refl;
        reply = rw (p, call_step c z w.data_side) (step-reply c (eqb-true n d t));
      }))
      (λ t. let o = differs c x (eqb-false n d t) in let u = o.0 in
      inr (record { given = c; is = refl; code = o.1; quiet = record { calls = rw t refl; next = rw (p, u) refl }; number = rw (p, u) u }))

  beside-carried : (c : Call) → l1p_refuses c x ≡ false → Beside c x → Carried c (on_data c) x
  beside-carried c n b = record { calls = rw n refl; reply = ap data_reply b.same }

  fresh-carried : Carried fresh_start (on_data fresh_start) x
  unfolding chip_fresh l1p_refuses
  fresh-carried = record { calls = refl; reply = rw (eq-eqb (length x.bytes) 16384 w.long, well-fresh-ok z w.data_side) refl }

  pub data-projects : (c : Call) → Carried c (on_data c) x ⊎ Hindered c
  unfolding l1p_refuses
  data-projects (one_command c) = command-projects c
  data-projects fresh_start = inl fresh-carried
  data-projects (look a) = inl (beside-carried (look a) refl (look-beside x w a))
  data-projects (read_unaligned n a) = inl (beside-carried (read_unaligned n a) refl (read-unaligned-beside x w n a))
  data-projects (write_unaligned n a v) = inl (beside-carried (write_unaligned n a v) refl (write-unaligned-beside x w n a v))
  data-projects (transfer_in a bs) = inl (beside-carried (transfer_in a bs) refl (transfer-in-beside x w a bs))
  data-projects (transfer_out a o) = inl (beside-carried (transfer_out a o) refl (transfer-out-beside x w a o))
  data-projects (fetch_behind a) = inl (beside-carried (fetch_behind a) refl (fetch-behind-beside x w a))

  -- ---- a fetch: a hit, or what lies behind L1P
  pub fetch-projects : (a : ℕ) → Carried (fetch_behind a) (fetch a) x ⊎ Quiet (fetch a) x
  unfolding l1p_serves fetch_call fetch_step fetch_done fetch_hit fetch_miss fetch_behind_step
  fetch-projects a =
      let d = fetch_due_in z a in let p = well-passes x w in let s = fetch-step a z w.data_side in
      bool (eqb d 0)
      (λ t. bool (cacheable z.rec a)
      (λ u. bool (in_l1p x.lines a) (λ y. inr (record { calls = rw (t, u, y) refl; next = rw (p, t, u, y) refl }))
      (λ y. inl (record { calls = rw (t, u, y) refl; reply = rw (p, s, t, u, y) refl })))
      (λ u. inl (record { calls = rw (t, u) refl; reply = rw (p, s, t, u) refl })))
      (λ t. inl (record { calls = rw t refl; reply = rw (p, s, t) refl }))

  -- ---- L1P's own invalidations
  pub block-quiet : (b c : ℕ) → Quiet (l1p_block b c) x
  unfolding l1p_block_call
  block-quiet b c =
      record { calls = refl; next = rw (well-passes x w) (cond-elim (λ (r : ChipReply). r.next.data_side ≡ z) (eqb (block_due b c) 0) _ _ (λ _. refl) (λ _. refl)) }

  pub all_quiet : Quiet l1p_all x
  unfolding l1p_all_call
  all_quiet = record { calls = refl; next = rw (well-passes x w) refl }

  pub projects : (c : ChipCall) → Projects c x
  projects (on_data c) = ⊎_elim (λ k. inl (c, k)) (λ k. inr k.quiet) (data-projects c)
  projects (fetch a) = ⊎_elim (λ k. inl (fetch_behind a, k)) (λ k. inr k) (fetch-projects a)
  projects (l1p_block b c) = inr (block-quiet b c)
  projects l1p_all = inr all_quiet

-- ---- a list
pub projected : (cs : List ChipCall) (x : Chip) → ChipWell x → Projected cs x
unfolding chip_after all_data_calls after
projected [] x w = refl
projected (c ∷ cs) x w =
    let y = (chip_called c x).next in let i = projected cs y (chip-stays c x w) in
    ⊎_elim
    (λ k. let e = k.1.calls in let r = ap (λ (u : Reply). u.next) k.1.reply in rw e (i ∙ ap (after (all_data_calls cs y)) r))
    (λ k. let e = k.calls in rw e (i ∙ ap (after (all_data_calls cs y)) k.next))
    (projects x w c)

-- ---- a fresh chip is well formed
pub fresh-chip-well : (d m e : List ℕ) → (fresh_call d m e).number ≡ 0 → ChipWell (chip (fresh_call d m e).next fresh_l1p (replicate l1p_length 0))
fresh-chip-well d m e o =
    let p = fresh-accepted d m e o in let s = p.2 in let z = fresh_state (length m) e in
    rw s (record {
      data_side = good-well z (Is (fresh_flat (length m) e)) (fresh-matches (length m) e p.0 p.1).good;
      tidy = tidy-fresh (layout_of z.rec);
      long = length-replicate {A = ℕ} 16384 0;
    })
