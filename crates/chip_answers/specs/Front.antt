-- A call of the data side on the words in front, on a chip that passed checks 1 and 2: the data side's own are passed
-- too, and L1P's words behind them stay as they were.
use Rattle.std.specs.Prelude.{ℕ, List, ◌++◌, ◌≡◌, length, refl, take, drop}
use Rattle.std.proofs.Common.{Result, ap, ◌∙◌, take-append-drop}
use Rattle.std.specs.Result.{OnErr}
use Rattle.std.proofs.lemmas.Result.{on_err_weaker}
use Rattle.kinds.specs.declared.Refusal.{Refusal}
use Rattle.model.specs.Records.{State, state}
use Rattle.model.specs.Calls.{Reply, Call, called}
use Rattle.model.specs.Refusals.{lent_due}
use Rattle.model.specs.declared.Record.{Record}
use Rattle.program.specs.Fetches.{beside_l1p}
use Rattle.program.specs.Chip.{chip_lent_due, behind_checks}
use Rattle.tags.specs.Words.{record_words, state_in}
use Rattle.l1p_tags.specs.Lines.{chip_in, lent_length, lent-record, back-record, back-lines}
use Rattle.chip_answers.specs.Passed.{checks, data-lent}

pub front-passed : (ws d m e p : List ℕ) → chip_lent_due (chip_in ws d m e p) ≡ 0 →
    (chip_lent_due (chip_in ws d m e p) ≡ 0) × ((lent_due (state_in ws d m e) ≡ 0) × (lent_due (state_in (take 5253 ws) d m e) ≡ 0))
front-passed ws d m e p h =
    let k = data-lent (chip_in ws d m e p) h in
    (h, (k, ap (λ (r : Record). lent_due (state r d m e)) (lent-record ws) ∙ k))

-- call c, done on the words in front, which left vs there and replies r
pub front-done : (ws d m e p vs d' m' e' : List ℕ) → chip_lent_due (chip_in ws d m e p) ≡ 0 → (c : Call) (r : State → Reply) →
    length vs ≡ record_words → r (state_in vs d' m' e') ≡ called c (state_in (take 5253 ws) d m e) →
    beside_l1p (r (state_in (vs ++ drop 5253 ws) d' m' e')) (chip_in (vs ++ drop 5253 ws) d' m' e' p) ≡ behind_checks c (chip_in ws d m e p)
unfolding behind_checks
front-done ws d m e p vs d' m' e' h c r l o = rw (back-record ws vs l, back-lines ws vs l, o, lent-record ws, h) refl

-- a refused call left the words in front as they were, and all of them with those
pub front-kept : {A : Type 0} (r : Result A Refusal) (ws vs : List ℕ) → OnErr r (vs ≡ take 5253 ws) → OnErr r (vs ++ drop 5253 ws ≡ ws)
front-kept r ws vs = on_err_weaker r (λ h. rw h (take-append-drop 5253 ws))

pub ruleset on_front = (checks, lent_length, lent-record, front-passed)
