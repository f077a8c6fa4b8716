-- 02, U13 for lists of the whole chip's calls (U4): its three sentences where fetches and L1P's invalidations stand in
-- the list too; `chip-dropped-lines` (proofs/ChipWords) shows it. It has Dropped's form, whose words it takes over;
-- read that first. A fetch is no CPU data read and L1P's lines are always clean, so that L1P enters no sentence: what
-- is kept of each address goes by what the chip carries out on its data side (`data_calls`), where a fetch that L1P does
-- not serve may put a dirty line out.
use Rattle.std.specs.Prelude.{ℕ, zero, suc, Bool, true, false, ◌&&◌, ◌≡◌, List, [], ◌∷◌, length, replicate}
use Rattle.model.specs.Bytes.{little}
use Rattle.model.specs.Flat.{Flat, fresh_flat}
use Rattle.model.specs.Calls.{fresh_call, one_command, read_unaligned}
use Rattle.model.specs.declared.Command.{Command}
use Rattle.program.specs.L1p.{fresh_l1p, l1p_length}
use Rattle.program.specs.Fetches.{Chip, chip, ChipReply}
use Rattle.program.specs.Chip.{ChipCall, on_data, fetch, l1p_block, l1p_all, chip_called}
use Rattle.program.specs.Lists.{flat_chip}
use Rattle.program.specs.Projected.{data_calls, data_reply}
use Rattle.dropped_lines.specs.Dropped.{listed_call, one_byte, flat_byte_at, reads, may_change, History, at_first, last_or_held}
use Rattle.dropped_lines.specs.Runs.{history_along}

-- ---- the calls of a list: the data side's as before, "external transfers left out"; fetches and L1P's invalidations
abbrev pub listed_on_chip : ChipCall → Bool
listed_on_chip (on_data c) = listed_call c
listed_on_chip (fetch b) = true
listed_on_chip (l1p_block b c) = true
listed_on_chip l1p_all = true

unfoldable pub all_listed : List ChipCall → Bool
all_listed [] = true
all_listed (c ∷ cs) = listed_on_chip c && all_listed cs

-- ---- the byte of address a: what the chip gives for a CPU data read of that one byte; the n bytes from a on
unfoldable pub chip_byte_at : Chip → ℕ → ℕ
chip_byte_at x a = (chip_called (on_data (one_command (one_byte a))) x).value

unfoldable pub chip_bytes_at : Chip → ℕ → ℕ → List ℕ
chip_bytes_at x a zero = []
chip_bytes_at x a (suc n) = chip_byte_at x a ∷ chip_bytes_at x (suc a) n

-- ---- "each byte of a CPU data read"; "the next write to it, drop touching its line .., or mode change": neither a
-- fetch nor an invalidation of L1P is one of these
abbrev pub chip_reads : ChipCall → ChipReply → ℕ → Bool
chip_reads (on_data c) r a = reads c (data_reply r) a
chip_reads (fetch b) r a = false
chip_reads (l1p_block b c) r a = false
chip_reads l1p_all r a = false

abbrev pub chip_may_change : ChipCall → ChipReply → ℕ → Bool
chip_may_change (on_data c) r a = may_change c (data_reply r) a
chip_may_change (fetch b) r a = false
chip_may_change (l1p_block b c) r a = false
chip_may_change l1p_all r a = false

-- ---- the three sentences at one place of a list: x and f are the chip and flat memory before call c, y what is kept
pub record ChipHoldsAt (c : ChipCall) (x : Chip) (f : Flat) (y : History) : Type 0 where
  pub bytes : (k : Command) → c ≡ on_data (one_command k) → k.code ≡ 0 → (chip_called c x).number ≡ 0 →
      (chip_called c x).value ≡ little (chip_bytes_at x k.second k.first)
  pub bytes_unaligned : (n b : ℕ) → c ≡ on_data (read_unaligned n b) → (chip_called c x).number ≡ 0 → (chip_called c x).value ≡ little (chip_bytes_at x b n)
  pub sentence1 : (a : ℕ) → chip_reads c (chip_called c x) a ≡ true → last_or_held y a (chip_byte_at x a) ≡ true
  pub sentence2 : (a : ℕ) → chip_reads c (chip_called c x) a ≡ true → y.dropped a ≡ false → chip_byte_at x a ≡ flat_byte_at f a
  pub sentence3 : (a : ℕ) → chip_may_change c (chip_called c x) a ≡ false → chip_byte_at (chip_called c x).next a ≡ chip_byte_at x a

-- ---- along the whole list
pub data ChipHolds : List ChipCall → Chip → Flat → History → Type 0 where
  end : {x : Chip} {f : Flat} {y : History} → ChipHolds [] x f y
  next : {c : ChipCall} {cs : List ChipCall} {x : Chip} {f : Flat} {y : History} →
      ChipHoldsAt c x f y → ChipHolds cs (chip_called c x).next (flat_chip c f).next (history_along (data_calls c x) x.data_side y) → ChipHolds (c ∷ cs) x f y

-- ---- from an accepted fresh start, for every list
abbrev pub ChipDroppedLines : Type 0
ChipDroppedLines =
    (d m e : List ℕ) → (fresh_call d m e).number ≡ 0 → (cs : List ChipCall) → all_listed cs ≡ true →
    let x = chip (fresh_call d m e).next fresh_l1p (replicate l1p_length 0) in ChipHolds cs x (fresh_flat (length m) e) (at_first x.data_side)
