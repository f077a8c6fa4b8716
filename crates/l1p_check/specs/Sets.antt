-- The lines of L1P in lent words, set by set; the number due.
use Rattle.std.specs.Prelude.{ℕ, ◌+◌, ◌*◌, ◌/◌, ◌%◌, ◌<◌, true, false, not, cond, ◌&&◌, ◌||◌, List, ◌≡◌, refl, length, take, ltb, leb, eqb}
use Rattle.std.proofs.Common.{arith, sym}
use Rattle.std.proofs.lemmas.Bool.Decides.{nat_tests}
use Rattle.std.proofs.lemmas.List.Recursion.{or_at, or_from_places}
use Rattle.model.specs.Basics.{any_of}
use Rattle.model.specs.Lines.{empty_line}
use Rattle.model.specs.Memories.{external_base}
use Rattle.model.specs.Records.{empty_way, sram_of, in_sram, in_cacheable}
use Rattle.model.specs.Refusals.{lowest_due, unless, lent_due, in_range}
use Rattle.model.specs.declared.Line.{Line}
use Rattle.model.specs.declared.Record.{Record}
use Rattle.tags.specs.Words.{word, line_in, record_in, state_in}
use Rattle.program.specs.L1p.{own_l1p_set, l1p_region, l1p_line_ok, l1p_ok, l1p_at, l1p_holds_range}
use Rattle.program.specs.Chip.{chip_lent_due}
pub use Rattle.l1p_tags.specs.Lines.{l1p_in, lines_in, line_at, chip_in, chip_words, length-lines, lent-record, lent_length}
use Rattle.record_check.specs.All.{all_ok, all_off}

-- ---- the line of a set, by its mark f and its address a
pub line_is : (r : Record) (s f a : ℕ) → l1p_line_ok r s (line_in f a) ≡ cond (eqb (f % 65536) 1 || eqb (f % 65536) 257)
    (not (ltb 1 (f % 65536)) && ((eqb (a % 32) 0 && eqb s (a / 32 % 512)) && cond (ltb a external_base) (leb (a + 32) (sram_of r)) (in_cacheable r 32 a)))
    (not (ltb 1 (f % 65536)) && eqb a 0)
unfolding l1p_line_ok line_in empty_way own_l1p_set l1p_region in_sram
line_is r s f a = refl

-- ---- all sets
module _ (ws : List ℕ) where
  abbrev line : ℕ → Line
  line s = l1p_at (lines_in ws) s

  pub place_is : (s : ℕ) → s < 512 → line s ≡ line_in (word ws (s * 2 + 5253)) (word ws (s * 2 + 5253 + 1))
  unfolding l1p_in
  place_is s l = line_at ws s l

  pub some_in_range : (n s : ℕ) → s < 512 → in_range n (line s) ≡ true → true ≡ l1p_holds_range n (lines_in ws)
  unfolding l1p_holds_range any_of
  some_in_range n s l e = sym (or_at (any_of (in_range n)) (in_range n) refl (λ _ _. refl) (lines_in ws) s empty_line (omega (arith, length-lines ws)) e)

  pub none_in_range : (n : ℕ) → ((s : ℕ) → s < 512 → in_range n (line s) ≡ false) → false ≡ l1p_holds_range n (lines_in ws)
  unfolding l1p_holds_range any_of
  none_in_range n h = sym (or_from_places (any_of (in_range n)) (in_range n) refl (λ _ _. refl) (lines_in ws) empty_line (λ s l. h s (omega (arith, length-lines ws))))

  pub some_off : (s : ℕ) → s < 512 → l1p_line_ok (record_in ws) s (line s) ≡ false → false ≡ l1p_ok (record_in ws) (lines_in ws)
  unfolding l1p_ok
  some_off s l e =
      let z : 0 + s ≡ s = omega arith in sym (all_off (l1p_line_ok (record_in ws)) empty_line 0 (lines_in ws) s (omega (arith, length-lines ws)) (rw z e))

  pub all_in_order : ((s : ℕ) → s < 512 → l1p_line_ok (record_in ws) s (line s) ≡ true) → true ≡ l1p_ok (record_in ws) (lines_in ws)
  unfolding l1p_ok
  all_in_order h =
      sym (all_ok (l1p_line_ok (record_in ws)) empty_line 0 (lines_in ws) (λ s l. let z : 0 + s ≡ s = omega arith in rw z (h s (omega (arith, length-lines ws)))))

-- ---- the number due, by that of the data side, whose words are lent as a part
pub due_is : (ws d m e p : List ℕ) → chip_lent_due (chip_in ws d m e p)
    ≡ lowest_due (unless (eqb (length p) 16384) 1) (lowest_due (lent_due (state_in (take 5253 ws) d m e)) (unless (l1p_ok (record_in ws) (lines_in ws)) 2))
unfolding chip_lent_due
due_is ws d m e p = rw (lent-record ws) refl

pub ruleset due_laws = (nat_tests, due_is, lent_length)

pub ruleset line_laws = (nat_tests, line_is, place_is)

pub ruleset set_laws = (some_off, all_in_order, some_in_range, none_in_range, lent_length, lent-record)
