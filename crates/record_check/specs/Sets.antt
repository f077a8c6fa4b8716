-- One set, by its words: its ways, its order, no line twice, a set that is not in use.
use Rattle.std.specs.Prelude.{ℕ, ◌+◌, ◌*◌, ◌/◌, ◌%◌, ◌≤◌, ◌<◌, Bool, true, false, not, cond, ◌&&◌, ◌||◌, List, [], ◌∷◌, ◌≡◌, refl, ltb, eqb}
use Rattle.std.proofs.Common.{arith, ◌∙◌}
use Rattle.std.proofs.Math.Bool.{and-true, and-false}
use borrow.Author.Tests.{le-ltb, eqb-true}
use Rattle.model.specs.Laws.{bool}
use Rattle.std.proofs.lemmas.Bool.Decides.{nat_tests}
use Rattle.model.specs.Basics.{all_indexed}
use Rattle.model.specs.Lines.{holds}
use Rattle.model.specs.Records.{dirty_lines, empty_way, l2_sets_of, l2_place, l2_region, l1d_line_ok, l2_line_ok, none_twice, permuted2, permuted4, fresh_unless_used, l1d_set_ok, l2_set_ok}
use Rattle.model.specs.declared.Line.{Line}
use Rattle.model.specs.declared.Record.{Record}
use Rattle.tags.specs.Few.{twice_two, twice-four}
use Rattle.tags.specs.Words.{word, line_in, order2_in, order4_in, l1d_in, l2_in, record_in, l1d-at, l2-at}
use Rattle.record_check.specs.Parts.{l1d_ok, l2_ok, l1d_dirty, l2_dirty, once_in}

-- an order of two: its bytes are 1, 0 or 0, 1
order_two : (o : ℕ) → permuted2 (order2_in o) ≡ (eqb (o % 65536) 1 || eqb (o % 65536) 256)
unfolding permuted2 order2_in
order_two o = grind (arith, nat_tests)

-- an empty way is in order
pub l1d_empty_ok : (r : Record) (s f a : ℕ) → f % 65536 ≡ 0 → a ≡ 0 → l1d_line_ok r s (line_in f a) ≡ true
unfolding line_in l1d_line_ok empty_way
l1d_empty_ok r s f a e z = rw (e, z) refl

pub l2_empty_ok : (r : Record) (t f a : ℕ) → f % 65536 ≡ 0 → a ≡ 0 → l2_line_ok r t (line_in f a) ≡ true
unfolding line_in l2_line_ok empty_way
l2_empty_ok r t f a e z = rw (e, z) refl

-- the marks of a valid and of a dirty line
abbrev pub live : ℕ → Bool
live f = eqb (f % 65536) 1 || eqb (f % 65536) 257

abbrev pub dirty : ℕ → ℕ
dirty f = cond (ltb 1 (f % 65536)) 1 0

-- ---- a set of L1D
module _ (ws : List ℕ) (i : ℕ) (h : i < 128) where
  abbrev w : ℕ → ℕ
  w k = word ws (i * 5 + 5 + k)

  abbrev w0 : ℕ
  w0 = word ws (i * 5 + 5)

  abbrev rec : Record
  rec = record_in ws

  l1d_read : l1d_in ws i ≡ record { lines = line_in w0 (w 1) ∷ line_in (w 2) (w 3) ∷ []; order = order2_in (w 4) }
  unfolding l1d_in
  l1d_read = grind arith

  pub l1d_ok_is : l1d_ok rec i ≡ ((l1d_line_ok rec i (line_in w0 (w 1)) && l1d_line_ok rec i (line_in (w 2) (w 3))) &&
      (not (live w0 && holds (line_in (w 2) (w 3)) (w 1)) && (eqb (w 4 % 65536) 1 || eqb (w 4 % 65536) 256)))
  unfolding l1d_set_ok all_indexed line_in
  l1d_ok_is =
      rw (l1d-at ws i h, l1d_read, order_two (w 4), twice_two (line_in w0 (w 1)) (line_in (w 2) (w 3)), and-true (l1d_line_ok rec i (line_in (w 2) (w 3)))) refl

  pub l1d_dirty_is : l1d_dirty rec i ≡ dirty w0 + dirty (w 2)
  unfolding dirty_lines line_in
  l1d_dirty_is = rw (l1d-at ws i h, l1d_read) (omega arith)

-- ---- a set of L2
-- a way that is in order is valid where its address is not 0: an empty way's is 0, a valid line lies in external memory
l2_valid : (r : Record) (t : ℕ) (x : Line) → l2_line_ok r t x ≡ true → x.valid ≡ not (eqb x.address 0)
unfolding l2_line_ok l2_place l2_region empty_way
l2_valid r t x e = grind (arith, nat_tests)

-- the tests of the ways first: the others matter only where these pass
in_turn : (a b c d t u q : Bool) → (a ≡ true → b ≡ true → c ≡ true → d ≡ true → t ≡ u) → ((a && (b && (c && (d && true)))) && (t && q)) ≡ (((a && b) && (c && d)) && (u && q))
in_turn false b c d t u q e = refl
in_turn true false c d t u q e = refl
in_turn true true false d t u q e = refl
in_turn true true true false t u q e = refl
in_turn true true true true t u q e = rw (e refl refl refl refl) refl

-- so that no line stands twice where no address but 0 does
module _ (w x y z : Line) (e : w.valid ≡ not (eqb w.address 0)) (f : x.valid ≡ not (eqb x.address 0)) (g : y.valid ≡ not (eqb y.address 0))
    (h : z.valid ≡ not (eqb z.address 0)) where
  first_once : (w.valid && (holds x w.address || (holds y w.address || holds z w.address)))
      ≡ (not (eqb w.address 0) && (eqb x.address w.address || (eqb y.address w.address || eqb z.address w.address)))
  unfolding holds
  first_once = grind (arith, nat_tests)

  second_once : (x.valid && (holds y x.address || holds z x.address)) ≡ (not (eqb x.address 0) && (eqb y.address x.address || eqb z.address x.address))
  unfolding holds
  second_once = grind (arith, nat_tests)

  third_once : (y.valid && holds z y.address) ≡ (not (eqb y.address 0) && eqb z.address y.address)
  unfolding holds
  third_once = grind (arith, nat_tests)

  all_once : none_twice (w ∷ x ∷ y ∷ z ∷ []) ≡ once_in w.address x.address y.address z.address
  unfolding once_in
  all_once = twice-four (w ∷ x ∷ y ∷ z ∷ []) refl ∙ rw (first_once, second_once, third_once) refl

pub none_once : (a b c d : ℕ) → a ≡ 0 → b ≡ 0 → c ≡ 0 → once_in a b c d ≡ true
unfolding once_in
none_once a b c d e f g = rw (e, f, g) refl

-- a way and the order of a set that is not in use: 3, 2, 1, 0 is one number
pub fresh_way : (r : Record) (t f a : ℕ) → l2_sets_of r ≤ t → l2_line_ok r t (line_in f a) ≡ (eqb (f % 65536) 0 && eqb a 0)
unfolding line_in l2_line_ok l2_place empty_way
fresh_way r t f a h = grind (arith, nat_tests)

fresh_bytes : (o : ℕ) → o < 4294967296 →
    (eqb (o % 256) 3 && (eqb (o / 256 % 256) 2 && (eqb (o / 65536 % 256) 1 && eqb (o / 16777216 % 256) 0))) ≡ eqb o 66051
fresh_bytes o h = grind (arith, nat_tests)

pub fresh_order : (r : Record) (t o : ℕ) → l2_sets_of r ≤ t → o < 4294967296 → (permuted4 (order4_in o) && fresh_unless_used r t (order4_in o)) ≡ eqb o 66051
unfolding permuted4 order4_in fresh_unless_used
fresh_order r t o h l =
    rw (le-ltb t (l2_sets_of r) h, fresh_bytes o l) (bool (eqb o 66051) (λ e. rw (eqb-true o 66051 e) refl) (λ e. rw (e, and-false) refl))

module _ (ws : List ℕ) (j : ℕ) (h : j < 512) where
  abbrev x : ℕ → ℕ
  x k = word ws (j * 9 + 645 + k)

  abbrev x0 : ℕ
  x0 = word ws (j * 9 + 645)

  abbrev y : ℕ → ℕ → Line
  y m n = line_in (x m) (x n)

  abbrev y0 : Line
  y0 = line_in x0 (x 1)

  abbrev r : Record
  r = record_in ws

  l2_read : l2_in ws j ≡ record { lines = y0 ∷ y 2 3 ∷ y 4 5 ∷ y 6 7 ∷ []; order = order4_in (x 8) }
  unfolding l2_in
  l2_read = grind arith

  pub l2_ok_is : l2_ok r j ≡ (((l2_line_ok r j y0 && l2_line_ok r j (y 2 3)) && (l2_line_ok r j (y 4 5) && l2_line_ok r j (y 6 7))) &&
      (once_in (x 1) (x 3) (x 5) (x 7) && (permuted4 (order4_in (x 8)) && fresh_unless_used r j (order4_in (x 8)))))
  unfolding l2_set_ok all_indexed line_in
  l2_ok_is =
      rw (l2-at ws j h, l2_read) (in_turn _ _ _ _ _ _ _ (λ a b c d. all_once y0 (y 2 3) (y 4 5) (y 6 7)
      (l2_valid r j y0 a) (l2_valid r j (y 2 3) b) (l2_valid r j (y 4 5) c) (l2_valid r j (y 6 7) d)))

  pub l2_dirty_is : l2_dirty r j ≡ dirty x0 + dirty (x 2) + dirty (x 4) + dirty (x 6)
  unfolding dirty_lines line_in
  l2_dirty_is = rw (l2-at ws j h, l2_read) (omega arith)

pub ruleset set_laws = (nat_tests, l1d_ok_is, l1d_dirty_is, l2_ok_is, l2_dirty_is, l1d_empty_ok, l2_empty_ok, none_once, fresh_way, fresh_order)
