-- What a step on the chip's words asks of them: that S and the number of L2 sets are handed on with them; so their
-- front part is what a step of the data side asks for (`Lent` of crate tags).
use Rattle.std.specs.Prelude.{ℕ, ◌≤◌, ◌<◌, ◌≡◌, List, length, take}
use Rattle.std.proofs.Common.{sym, ap, ◌∙◌, length-take-le}
use Rattle.model.specs.Records.{sram_of, l2_sets_of}
use Rattle.model.specs.declared.Record.{Record}
use Rattle.tags.specs.Words.{record_words, record_in}
use Rattle.tags.specs.Sizes.{Lent}
use Rattle.l1p_tags.specs.Lines.{lent-record}

abbrev pub Sized : ℕ → ℕ → List ℕ → Type 0
Sized sram sets ws = ((sram < 4294967296) × (sets ≤ 512)) × ((sram ≡ sram_of (record_in ws)) × (sets ≡ l2_sets_of (record_in ws)))

-- words that stand for the same record
pub sized_same : (sram sets : ℕ) (ws vs : List ℕ) → record_in vs ≡ record_in ws → Sized sram sets ws → Sized sram sets vs
sized_same sram sets ws vs e h =
    (h.0, (h.1.0 ∙ sym (ap (λ (r : Record). sram_of r) e), h.1.1 ∙ sym (ap (λ (r : Record). l2_sets_of r) e)))

-- the front part, whether or not L1P's words stand behind it
pub front-lent : (sram sets : ℕ) (ws : List ℕ) → record_words ≤ length ws → Sized sram sets ws → Lent sram sets (take 5253 ws)
front-lent sram sets ws l h = (length-take-le 5253 ws l, sized_same sram sets ws (take 5253 ws) (lent-record ws) h)
