-- What the tests of a way rest on: the definitions of a way in order, written out; and what the code asks for otherwise
-- than they do: a MAR bit is a bit of the words, a remainder by the number of L2 sets, a power of two, is a mask.
use Rattle.std.specs.Prelude.{ℕ, ◌+◌, ◌*◌, ◌-◌, ◌/◌, ◌%◌, ◌≤◌, ◌<◌, Bool, true, not, cond, ◌&&◌, ◌||◌, List, ◌≡◌, ◌≢◌, refl, ltb, leb, eqb}
use Rattle.std.specs.Int.Bits.{bit_and}
use Rattle.std.proofs.Common.{arith}
use Rattle.std.proofs.lemmas.Nat.{and_mask}
use Rattle.std.proofs.lemmas.Bool.Decides.{nat_tests}
use Rattle.model.specs.Basics.{any_of}
use Rattle.model.specs.Memories.{external_base, cache_size}
use Rattle.model.specs.Lines.{l2_sets, l2_line, holds}
use Rattle.model.specs.Records.{sram_of, l2_sets_of, l2_set_of, l2_set_at, empty_way, l1d_line_ok, l1d_place, own_l1d_set, l1d_region, in_sram, in_cacheable, covered_by_l2, inside_l2_line, l2_line_ok, l2_place, own_l2_set, l2_region}
use Rattle.model.specs.Laws.{mar-bit, mode0-sets}
use Rattle.model.specs.declared.Line.{Line}
use Rattle.model.specs.declared.Record.{Record}
use Rattle.tags.specs.Words.{word, line_in, record_in, l2_in, l2-at}

-- ---- the definitions, written out
-- the line of the mark f and the address a
module _ (r : Record) (s f a : ℕ) where
  abbrev valid : Bool
  valid = eqb (f % 65536) 1 || eqb (f % 65536) 257

  abbrev bare : Bool
  bare = not (ltb 1 (f % 65536)) && eqb a 0

  pub l1d_line_is : l1d_line_ok r s (line_in f a) ≡ cond valid ((eqb (a % 64) 0 && eqb s (a / 64 % 128))
      && (cond (ltb a external_base) (leb (a + 64) (sram_of r)) (in_cacheable r 64 a) && cond (ltb a external_base) true (inside_l2_line r a))) bare
  unfolding line_in l1d_line_ok empty_way l1d_place own_l1d_set l1d_region in_sram covered_by_l2
  l1d_line_is = refl

  pub l2_line_is : l2_line_ok r s (line_in f a) ≡ cond valid ((eqb (a % 128) 0 && eqb s (l2_set_of r a))
      && (ltb s (l2_sets_of r) && (leb external_base a && in_cacheable r 128 a))) bare
  unfolding line_in l2_line_ok empty_way l2_place own_l2_set l2_region
  l2_line_is = refl

-- an external line of L1D lies inside a line of L2, where L2 has sets
pub inside_is : (r : Record) (a : ℕ) →
    inside_l2_line r a ≡ cond (eqb (l2_sets_of r) 0) true (any_of (λ y. holds y (l2_line a)) (l2_set_at r (l2_set_of r a)).lines)
unfolding inside_l2_line
inside_is r a = rw (mode0-sets r) refl

-- the four ways of a set of L2, two and two
pub four_ways : (p : Line → Bool) (ws : List ℕ) (j : ℕ) → j < 512 → any_of p (l2_set_at (record_in ws) j).lines ≡
    ((p (line_in (word ws (j * 9 + 645)) (word ws (j * 9 + 646))) || p (line_in (word ws (j * 9 + 647)) (word ws (j * 9 + 648))))
    || (p (line_in (word ws (j * 9 + 649)) (word ws (j * 9 + 650))) || p (line_in (word ws (j * 9 + 651)) (word ws (j * 9 + 652)))))
unfolding any_of l2_in
four_ways p ws j h = rw (l2-at ws j h) (grind arith)

-- ---- bits and masks
-- the n bytes at a end in external memory of length x, and its MAR bit, in the word m, is 1
abbrev pub external_in : ℕ → ℕ → ℕ → ℕ → Bool
external_in x m n a = leb (a + n) (external_base + x) && cond (ltb a 2164260864) (eqb (m / 256 % 2) 1) (eqb (m / 65536 % 2) 1)

pub external_is : (ws : List ℕ) (n a : ℕ) → external_base ≤ a → in_cacheable (record_in ws) n a ≡ external_in (word ws 1) (word ws 2) n a
unfolding in_cacheable record_in
external_is ws n a h = rw (mar-bit (record_in ws) a h) refl

module _ (m a : ℕ) (some : l2_sets m ≢ 0) where
  pub mask_is : bit_and a (l2_sets m - 1) ≡ a % l2_sets m
  unfolding cache_size
  mask_is = grind (arith, nat_tests, and_mask a 6, and_mask a 7, and_mask a 8, and_mask a 9)

  pub span_is : bit_and a (l2_sets m * 128 - 1) ≡ a / 128 % l2_sets m * 128 + a % 128
  unfolding cache_size
  span_is = grind (arith, nat_tests, and_mask a 13, and_mask a 14, and_mask a 15, and_mask a 16)

pub ruleset way_laws = (nat_tests, l1d_line_is, l2_line_is, inside_is, mask_is, span_is)
