-- A loop over lines on lent words: after k turns the state is that of the definition's first k turns. One law for
-- every sweep, whatever its step f, as long as f leaves S and the number of L2 sets, which the loop hands on.
use Rattle.std.specs.Prelude.{ℕ, ◌+◌, ◌≡◌, List, length}
use Rattle.std.proofs.Math.Path.{refl, ap}
use Rattle.std.proofs.Common.{◌∙◌, add-one}
use Rattle.model.specs.Basics.{each}
use Rattle.model.specs.Records.{State}
use Rattle.tags.specs.Words.{state_in}
use Rattle.tags.specs.Sizes.{Lent, lent-next}
use Rattle.sweeps.specs.Fixed.{Fixed}

-- what the loop keeps after k turns: ws, m, e are the words, L2 and external memory; ws₀, m₀, e₀ those of its start;
-- l is L1D
pub record Swept (f : ℕ → State → State) (sram sets : ℕ) (ws₀ l m₀ e₀ : List ℕ) (k : ℕ) (ws m e : List ℕ) : Type 0 where
  pub lent : Lent sram sets ws
  pub made : state_in ws l m e ≡ each f k (state_in ws₀ l m₀ e₀)

-- nothing at the start
pub begun : {f : ℕ → State → State} {sram sets : ℕ} {ws l m e : List ℕ} →
    Lent sram sets ws → Swept f sram sets ws l m e 0 ws m e
unfolding each
begun h = record { lent = h; made = refl }

-- one turn more
pub turned : {f : ℕ → State → State} {sram sets : ℕ} {ws₀ l m₀ e₀ : List ℕ} {k : ℕ} {ws m e vs m' e' : List ℕ} →
    Swept f sram sets ws₀ l m₀ e₀ k ws m e → ((i : ℕ) → Fixed (f i)) →
    length vs ≡ length ws → state_in vs l m' e' ≡ f k (state_in ws l m e) →
    Swept f sram sets ws₀ l m₀ e₀ (k + 1) vs m' e'
unfolding each
turned {f} {sram} {sets} {k = k} {ws} {vs = vs} h p n s =
    record { lent = lent-next sram sets ws vs _ _ h.lent n s refl (p k _); made = rw add-one (s ∙ ap (f k) h.made) }
