-- A read or a write on the words in front: L1P's stay as they were, and S and the number of L2 sets, which the loop
-- keeps beside the words.
use Rattle.std.specs.Prelude.{ℕ, zero, suc, ◌≤◌, ◌<◌, false, ◌≡◌, List, ◌++◌, length, take, drop, eqb, refl, OnErr}
use Rattle.std.proofs.Common.{sym, ap, ◌∙◌, arith, Result, Ok, Err, take-append-drop}
use borrow.Author.Tests.{ne_eqb}
use Rattle.kinds.specs.declared.Refusal.{Refusal}
use Rattle.model.specs.Laws.{bool}
use Rattle.model.specs.Refusals.{lowest_due}
use Rattle.model.specs.Records.{State, state, sram_of, l2_sets_of}
use Rattle.model.specs.Calls.{Reply, command_due, step}
use Rattle.model.specs.declared.Command.{Command}
use Rattle.model.specs.declared.Line.{Line}
use Rattle.model.specs.declared.Record.{Record}
use Rattle.model.specs.declared.Left.TheVariants.{NoWay}
use Rattle.tags.specs.Words.{record_words, state_in}
use Rattle.tags.specs.Sizes.{same_step}
use Rattle.access.specs.Answered.{answer_of}
use Rattle.access.specs.declared.Answer.{Answer}
use Rattle.program.specs.Fetches.{Chip, with_l1p}
use Rattle.program.specs.Chip.{lines_after, chip_command_due, chip_step}
use Rattle.l1p_tags.specs.Lines.{chip_in, lent-record, back-record, back-lines}
use Rattle.l1p_tags.specs.Lent.{Sized}
use Rattle.run.specs.Turns.{held, Carried, answer-next}

lowest-none : (j : ℕ) → lowest_due j 0 ≡ j
lowest-none zero = refl
lowest-none (suc j) = refl

-- the chip's step is the data side's, beside the lines of L1P as they were
access-chip : (c : Command) (x : Chip) → c.code < 2 → (ls : List Line) → ls ≡ x.lines → (r : Reply) →
    r ≡ step c x.data_side → with_l1p NoWay ls x.bytes r ≡ chip_step c x
unfolding chip_step chip_command_due lines_after step
access-chip c x h ls el r er =
    let z = x.data_side in let d = command_due c z in
    let k : (n : ℕ) → 2 ≤ n → eqb c.code n ≡ false = λ n q. ne_eqb c.code n (λ i. absurd (omega arith)) in
    let k₁₁ = k 11 (omega arith) in let k₃ = k 3 (omega arith) in let k₅ = k 5 (omega arith) in
    let k₆ = k 6 (omega arith) in let k₁₀ = k 10 (omega arith) in
    let same : with_l1p NoWay ls x.bytes r ≡ with_l1p NoWay x.lines x.bytes (step c z)
    = λ i. with_l1p NoWay (el i) x.bytes (er i) in
    bool (eqb d 0)
    (λ t. rw (k₁₁, lowest-none d, t, k₃, k₅, k₆, k₁₀) (rw t at same))
    (λ t. rw (k₁₁, lowest-none d, t) (rw t at same))

on_err : (r : Result Answer Refusal) {P Q : Type 0} → (P → Q) → OnErr r P → OnErr r Q
on_err (Ok x) f h = h
on_err (Err e) f h = f h

-- the access left vs in front of ws
module _ (c : Command) (ws vs d m e d' m' e' : List ℕ) (r : Result Answer Refusal) (h : c.code < 2)
    (l : length vs ≡ record_words) (s : answer_of r (state_in vs d' m' e') ≡ step c (state_in (take 5253 ws) d m e)) where
  on-words : answer_of r (state_in (vs ++ drop 5253 ws) d' m' e') ≡ step c (state_in ws d m e)
  on-words =
      ap (λ (q : Record). answer_of r (state q d' m' e')) (back-record ws vs l) ∙ s
      ∙ ap (λ (q : Record). step c (state q d m e)) (lent-record ws)

  pub access-carried : OnErr r (vs ≡ take 5253 ws) → Carried c (held ws d m e) (held (vs ++ drop 5253 ws) d' m' e') r
  access-carried u =
      record {
        on_data = λ _. on-words;
        on_chip = λ _ p. access-chip c (chip_in ws d m e p) h _ (back-lines ws vs l) _ on-words;
        refused = on_err r (λ q. ap (λ (us : List ℕ). us ++ drop 5253 ws) q ∙ take-append-drop 5253 ws) u;
      }

  pub access-sized : (sram sets : ℕ) → Sized sram sets ws → Sized sram sets (vs ++ drop 5253 ws)
  access-sized sram sets z =
      let n : state_in (vs ++ drop 5253 ws) d' m' e' ≡ (step c (state_in ws d m e)).next
      = sym (answer-next r _) ∙ ap (λ (x : Reply). x.next) on-words in
      let q = same_step c (state_in ws d m e) h in (
        z.0,
        (
          z.1.0 ∙ sym (ap (λ (x : State). sram_of x.rec) n ∙ q.0),
          z.1.1 ∙ sym (ap (λ (x : State). l2_sets_of x.rec) n ∙ q.1),
        ),
      )
