-- The part that the code returns is the view of paper 01: an accepted address has its 64 bytes in SRAM, or in
-- external memory.
use Rattle.std.specs.Prelude.{ℕ, zero, suc, ◌+◌, ◌-◌, ◌≤◌, ◌<◌, true, false, List, [], ◌≡◌, take, drop, ltb, eqb, length}
use Rattle.std.proofs.Common.{Result, Ok, Err, refl, sym, ◌∙◌, arith}
use Rattle.std.proofs.Math.Nat.{add-sub_cancel_left}
use Rattle.std.proofs.lemmas.Bool.Decides.{nat_tests}
use Rattle.std.specs.Bool.{MatchBool}
use Rattle.std.specs.Result.{is_err}
use borrow.Author.Tests.{eq-eqb, ne_eqb, lt-ltb, le-ltb}
use Rattle.kinds.specs.Numbers.{number_due, refusal_some}
use Rattle.kinds.specs.declared.Refusal.{Refusal}
use Rattle.model.specs.Memories.{external_base}
use Rattle.model.specs.Records.{state}
use Rattle.model.specs.Homes.{memory_part}
use Rattle.model.specs.Refusals.{view_due, view_lent_due, lent_l2, lent_external, place_ok, lowest_due}
use Rattle.model.specs.Calls.{view_call, view_done}
use Rattle.model.specs.Bytes.{part}
use Rattle.model.specs.Laws.{bool, part-inside}
use Rattle.model.specs.declared.Record.{Record}
use Rattle.model.specs.declared.Line.{Line}
use Rattle.program.specs.Fetches.{Chip, chip}
use Rattle.program.specs.Chip.{chip_view_due, chip_view}

pub record Seen (m e : List ℕ) (a : ℕ) : Type 0 where
  pub low : a < external_base → a + 64 ≤ length m
  pub high : external_base ≤ a → a - external_base + 64 ≤ length e

-- neither of two numbers is due
none-due : (n k : ℕ) → lowest_due n k ≡ 0 → (n ≡ 0) × (k ≡ 0)
none-due zero k e = (refl, e)
none-due (suc n) k e = absurd (omega arith)

pub view_tells : (r : Record) (m e : List ℕ) (a : ℕ) → view_due r m e a ≡ 0 → Seen m e a
unfolding view_due view_lent_due lent_l2 lent_external place_ok
view_tells r m e a h =
    record {
      low = λ g. grind (arith, nat_tests, none-due);
      high = λ g. grind (arith, nat_tests, none-due);
    }

-- ---- the chip: the number of its view is the number due
pub view-number : (a : ℕ) (x : Chip) → (chip_view a x).number ≡ chip_view_due a x
unfolding chip_view view_done chip_view_due
view-number a x = grind (arith, nat_tests, none-due)

-- L1D's bytes and L1P's are not looked at, so that [] stands for them
module _ (r : Record) (ls : List Line) (m e : List ℕ) (a : ℕ) where
  abbrev x : Chip
  x = chip (state r [] m e) ls []

  pub due-any : (d p : List ℕ) → chip_view_due a x ≡ chip_view_due a (chip (state r d m e) ls p)
  unfolding chip_view_due
  due-any d p = refl

  pub view-any : (d p : List ℕ) → (chip_view a x).bytes ≡ (chip_view a (chip (state r d m e) ls p)).bytes
  unfolding chip_view chip_view_due view_done
  view-any d p = bool (eqb (chip_view_due a x) 0) (λ t. rw t refl) (λ t. rw t refl)

  -- no number is due for the data side either
  pub accepted : chip_view_due a x ≡ 0 → view_due r m e a ≡ 0
  unfolding chip_view_due
  accepted h = grind (arith, none-due)

  pub view-refused : (chip_view_due a x ≡ 0 → ⊥) → [] ≡ (chip_view a x).bytes
  unfolding chip_view
  view-refused n = rw (ne_eqb (chip_view_due a x) 0 n) refl

  module _ (h : chip_view_due a x ≡ 0) where
    pub view-seen : Seen m e a
    view-seen = view_tells r m e a (accepted h)

    in_memory : (chip_view a x).bytes ≡ memory_part a 64 (state r [] m e)
    unfolding chip_view view_done view_call
    in_memory = rw (eq-eqb (chip_view_due a x) 0 h, eq-eqb (view_due r m e a) 0 (accepted h)) refl

    pub seen-sram : ltb a external_base ≡ true → part m a 64 ≡ (chip_view a x).bytes
    unfolding memory_part
    seen-sram g = sym (in_memory ∙ rw g refl)

    pub seen-external : ltb a external_base ≡ false → part e (a - external_base) 64 ≡ (chip_view a x).bytes
    unfolding memory_part
    seen-external g = sym (in_memory ∙ rw g refl)

    pub view-sram : a < external_base → take (a + 64 - a) (drop a m) ≡ (chip_view a x).bytes
    view-sram g =
        let f = view-seen.low g in
        rw (add-sub_cancel_left a 64, ← part-inside m a 64 f) (seen-sram (lt-ltb a external_base g))

    pub view-external : external_base ≤ a → (p : ℕ) → p ≡ a - external_base → take (p + 64 - p) (drop p e) ≡ (chip_view a x).bytes
    view-external g p q =
        let f = view-seen.high g in
        rw (q, add-sub_cancel_left (a - external_base) 64, ← part-inside e (a - external_base) 64 f) (seen-external (le-ltb a external_base g))

-- ---- a view that is refused has a number due, and one that is not has none
pub due_told : (r : Result Unit Refusal) → MatchBool (is_err r) (0 < number_due r) (number_due r ≡ 0)
due_told (Ok x) = refl
due_told (Err e) = refusal_some e

pub ruleset seen = (nat_tests, due_told, view-refused, view-seen, view-sram, view-external)
