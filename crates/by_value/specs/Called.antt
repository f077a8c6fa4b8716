-- What the calls by value return, in the terms of program/specs; and what a fetch never reports.
use Rattle.std.specs.Prelude.{ℕ, cond, ◌≡◌, refl, List, eqb}
use Rattle.model.specs.Records.{State, state}
use Rattle.model.specs.Access.{cacheable}
use Rattle.model.specs.Reports.{Report, report, fetch_left, memory_moved, read_frozen_moved}
use Rattle.model.specs.Fetches.{fetch_length, fetch_report}
use Rattle.model.specs.Calls.{replied, fetch_due_in, fetch_behind_done}
use Rattle.model.specs.Laws.{cond-elim}
use Rattle.model.specs.declared.Left.TheVariants.{NoWay}
use Rattle.program.specs.declared.ChipRecord.{ChipRecord}
use Rattle.program.specs.L1p.{in_l1p}
use Rattle.program.specs.Fetches.{Chip, chip, ChipReply, with_l1p, beside_l1p, fetch_hit, fetch_miss, fetch_done, refused_fetch, fetch_step}
use Rattle.program.specs.Chip.{fetch_call, chip_lent_due}
use Rattle.program.specs.Runs.{ChipRun, chip_ran, ChipFramed}
use Rattle.by_value.specs.declared.Called.{Called}
use Rattle.by_value.specs.declared.FetchResult.{FetchResult}
use Rattle.by_value.specs.declared.FrameResult.{FrameResult}
use Rattle.by_value.specs.declared.RunResult.{RunResult}

-- the chip of a record by value and the four memories
abbrev pub chip_of : ChipRecord → List ℕ → List ℕ → List ℕ → List ℕ → Chip
chip_of r d m e p = chip (state r.data_side d m e) r.l1p p

unfoldable pub called_as : Called → List ℕ → List ℕ → List ℕ → List ℕ → ChipReply
called_as x d m e p =
    with_l1p NoWay x.«record».l1p p
    (replied x.number x.server x.value
    (record { l1d_left = x.l1d_left; l2_left = x.l2_left; read = x.external_read; written = x.external_written })
    (state x.«record».data_side d m e))

-- a fetch has no value, and L1D has no part in it
abbrev pub fetched_by : FetchResult → List ℕ → List ℕ → List ℕ → List ℕ → ChipReply
fetched_by x d m e p =
    record {
      number = x.number;
      server = x.server;
      value = 0;
      bytes = x.bytes;
      report = record { l1d_left = NoWay; l2_left = x.l2_left; read = x.external_read; written = x.external_written };
      l1p_left = x.l1p_left;
      next = chip_of x.«record» d m e p;
    }

abbrev pub framed_as : FrameResult → List ℕ → List ℕ → List ℕ → List ℕ → ChipFramed
framed_as x d m e p = record { number = x.number; turn = x.turn; sums = x.sums; next = chip_of x.«record» d m e p }

abbrev pub ran_as : RunResult → List ℕ → List ℕ → List ℕ → List ℕ → List ℕ → ChipRun
ran_as x d m e p o = chip_ran (chip_of x.«record» d m e p) x.consumed x.count x.stop o

-- ---- a fetch has no value, and reports no way of L1D
abbrev pub Plain : ChipReply → Type 0
Plain r = (r.value ≡ 0) × (r.report.l1d_left ≡ NoWay)

behind_plain : (a : ℕ) (z : State) → (fetch_report a z).l1d_left ≡ NoWay
unfolding fetch_report
behind_plain a z =
    cond-elim (λ (q : Report). q.l1d_left ≡ NoWay) (cacheable z.rec a) (report NoWay (fetch_left a z) (read_frozen_moved fetch_length a z))
    (report NoWay NoWay (memory_moved a fetch_length z)) (λ _. refl) (λ _. refl)

done_plain : (a : ℕ) (k : Chip) → Plain (fetch_done a k)
unfolding fetch_done fetch_hit fetch_miss fetch_behind_done
done_plain a k =
    let b = behind_plain a k.data_side in
    cond-elim Plain (cacheable k.data_side.rec a) (cond (in_l1p k.lines a) (fetch_hit a k) (fetch_miss a k)) (beside_l1p (fetch_behind_done a k.data_side) k)
    (λ _. cond-elim Plain (in_l1p k.lines a) (fetch_hit a k) (fetch_miss a k) (λ _. (refl, refl)) (λ _. (refl, b))) (λ _. (refl, b))

pub fetch_plain : (a : ℕ) (k : Chip) → Plain (fetch_call a k)
unfolding fetch_call fetch_step
fetch_plain a k =
    cond-elim Plain (eqb (chip_lent_due k) 0) (fetch_step a k) (refused_fetch (chip_lent_due k) k)
    (λ _. cond-elim Plain (eqb (fetch_due_in k.data_side a) 0) (fetch_done a k) (refused_fetch (fetch_due_in k.data_side a) k) (λ _. done_plain a k) (λ _. (refl, refl)))
    (λ _. (refl, refl))
