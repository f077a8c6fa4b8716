-- The record that lent words stand for: L, E, then mode, MAR bits and freeze in one word, the counts of dirty lines in
-- L1D and in L2; five words for a set of L1D, nine for a set of L2. Every law about single words ends here: what stands
-- above speaks of `record_in` and the definitions of crate model alone.
use Rattle.std.specs.Prelude.{ℕ, zero, suc, ◌+◌, ◌*◌, ◌/◌, ◌%◌, ◌≤◌, ◌<◌, Bool, true, false, cond, ◌&&◌, ◌||◌, ◌≡◌, refl, List, [], ◌∷◌, length, get_or, set, eqb, ltb}
use Rattle.std.proofs.Common.{sym, ap, ◌∙◌, arith}
use Rattle.std.proofs.lemmas.Grind.{common_steps}
use Rattle.model.specs.Lines.{l1d_put, l2_put, l1d_use, l2_use, l1d_get, l2_get, used2, used4}
use Rattle.model.specs.Records.{State, state, Shape, no_l1d_set, no_l2_set, l1d_set_at, l2_set_at, l1d_line_at, l2_line_at, with_l1d_set, with_l2_set, with_counts, l1d_lines, l2_lines, counted, with_l1d_line, with_l2_line}
use Rattle.model.specs.declared.Line.{Line}
use Rattle.model.specs.declared.Order2.{Order2}
use Rattle.model.specs.declared.Order4.{Order4}
use Rattle.model.specs.declared.L1dSet.{L1dSet}
use Rattle.model.specs.declared.L2Set.{L2Set}
use Rattle.model.specs.declared.Record.{Record}
use Rattle.lists.specs.Listed.{listed, listed-get, listed_same, listed-few, listed-set, length-listed}

-- ---- words
-- how many words a record has: five at the head, five for each of 128 sets, nine for each of 512
abbrev pub record_words : ℕ
record_words = 5253

abbrev pub word : List ℕ → ℕ → ℕ
word ws p = get_or ws p 0

-- A mark without its padding is 0, 1, 257 or 256. Any other has a byte that is no bool: it is read as 256, an invalid
-- way that is dirty, which no well-formed record has.
unfoldable pub line_in : ℕ → ℕ → Line
line_in f a = record { valid = eqb (f % 65536) 1 || eqb (f % 65536) 257; dirty = ltb 1 (f % 65536); address = a }

unfoldable pub order2_in : ℕ → Order2
order2_in o = record { first = o % 256; second = o / 256 % 256 }

unfoldable pub order4_in : ℕ → Order4
order4_in o = record { first = o % 256; second = o / 256 % 256; third = o / 65536 % 256; fourth = o / 16777216 % 256 }

unfoldable pub l1d_in : List ℕ → ℕ → L1dSet
l1d_in ws i =
    record {
      lines = line_in (word ws (i * 5 + 5)) (word ws (i * 5 + 6)) ∷ line_in (word ws (i * 5 + 7)) (word ws (i * 5 + 8)) ∷ [];
      order = order2_in (word ws (i * 5 + 9));
    }

unfoldable pub l2_in : List ℕ → ℕ → L2Set
l2_in ws j =
    record {
      lines = line_in (word ws (j * 9 + 645)) (word ws (j * 9 + 646)) ∷ line_in (word ws (j * 9 + 647)) (word ws (j * 9 + 648))
          ∷ line_in (word ws (j * 9 + 649)) (word ws (j * 9 + 650)) ∷ line_in (word ws (j * 9 + 651)) (word ws (j * 9 + 652)) ∷ [];
      order = order4_in (word ws (j * 9 + 653));
    }

-- The mode, in the word that has the MAR bits and the freeze too. Where a byte of these is no bool it is read as 4,
-- which is no mode: no well-formed record has it.
abbrev pub bits_in : ℕ → Bool
bits_in m = ltb (m / 256 % 256) 2 && (ltb (m / 65536 % 256) 2 && ltb (m / 16777216 % 256) 2)

unfoldable pub mode_in : ℕ → ℕ
mode_in m = cond (bits_in m) (m % 256) 4

unfoldable pub record_in : List ℕ → Record
record_in ws =
    record {
      l2len = word ws 0;
      extlen = word ws 1;
      mode = mode_in (word ws 2);
      mar128 = eqb (word ws 2 / 256 % 2) 1;
      mar129 = eqb (word ws 2 / 65536 % 2) 1;
      frozen = eqb (word ws 2 / 16777216 % 2) 1;
      dirty_l1d = word ws 3;
      dirty_l2 = word ws 4;
      l1d = listed (l1d_in ws) 0 128;
      l2 = listed (l2_in ws) 0 512;
    }

-- the words of a record with the three lent memories: what every contract above speaks of
abbrev pub state_in : List ℕ → List ℕ → List ℕ → List ℕ → State
state_in ws d m e = state (record_in ws) d m e

-- a set of the record
pub l1d-at : (ws : List ℕ) (i : ℕ) → i < 128 → l1d_set_at (record_in ws) i ≡ l1d_in ws i
unfolding record_in
l1d-at ws i h = let e : 0 + i ≡ i = omega arith in listed-get (l1d_in ws) 0 128 i no_l1d_set h ∙ ap (l1d_in ws) e

pub l2-at : (ws : List ℕ) (j : ℕ) → j < 512 → l2_set_at (record_in ws) j ≡ l2_in ws j
unfolding record_in
l2-at ws j h = let e : 0 + j ≡ j = omega arith in listed-get (l2_in ws) 0 512 j no_l2_set h ∙ ap (l2_in ws) e

-- the arrays have the lengths of the record's type
pub shaped : (ws : List ℕ) → Shape (record_in ws)
unfolding record_in l1d_in l2_in
shaped ws =
    record {
      l1d_sets = length-listed (l1d_in ws) 0 128;
      l1d_ways = λ s h. let e = l1d-at ws s h in rw e refl;
      l2_sets = length-listed (l2_in ws) 0 512;
      l2_ways = λ t h. let e = l2-at ws t h in rw e refl;
    }

-- ---- only the words from p to q (without q) are others
pub record Only (ws vs : List ℕ) (p q : ℕ) : Type 0 where
  pub low : (n : ℕ) → n < p → word vs n ≡ word ws n
  pub high : (n : ℕ) → q ≤ n → word vs n ≡ word ws n

pub same-l1d : (ws vs : List ℕ) (j : ℕ) → ((n : ℕ) → j * 5 + 5 ≤ n → n < j * 5 + 10 → word vs n ≡ word ws n) → l1d_in vs j ≡ l1d_in ws j
unfolding l1d_in
same-l1d ws vs j h = grind (arith, h)

pub same-l2 : (ws vs : List ℕ) (j : ℕ) → ((n : ℕ) → j * 9 + 645 ≤ n → n < j * 9 + 654 → word vs n ≡ word ws n) → l2_in vs j ≡ l2_in ws j
unfolding l2_in
same-l2 ws vs j h = grind (arith, h)

-- the words of one set are others: that set of the record is another
pub one-l1d : (ws vs : List ℕ) (i : ℕ) → i < 128 → Only ws vs (i * 5 + 5) (i * 5 + 10) → record_in vs ≡ with_l1d_set (record_in ws) i (l1d_in vs i)
unfolding record_in
one-l1d ws vs i h o =
    let d = listed-set (l1d_in ws) (l1d_in vs) 0 128 i h (λ j n. same-l1d ws vs j (λ m p q. grind (arith, o.low m, o.high m))) in
    let e = listed_same (l2_in vs) (l2_in ws) 0 512 (λ j _. same-l2 ws vs j (λ m p q. o.high m (omega arith))) in
    grind (arith, o.low, d, e)

pub one-l2 : (ws vs : List ℕ) (i : ℕ) → i < 512 → Only ws vs (i * 9 + 645) (i * 9 + 654) → record_in vs ≡ with_l2_set (record_in ws) i (l2_in vs i)
unfolding record_in
one-l2 ws vs i h o =
    let d = listed-set (l2_in ws) (l2_in vs) 0 512 i h (λ j n. same-l2 ws vs j (λ m p q. grind (arith, o.low m, o.high m))) in
    let e = listed-few (l1d_in vs) (l1d_in ws) 0 128 (λ j k. same-l1d ws vs j (λ m p q. o.low m (omega arith))) in
    grind (arith, o.low, d, e)

-- ---- one line
-- where its two words are
abbrev pub l1d_place_of : ℕ → ℕ → ℕ
l1d_place_of i w = i * 5 + w * 2 + 5

abbrev pub l2_place_of : ℕ → ℕ → ℕ
l2_place_of j v = j * 9 + v * 2 + 645

l1d-line-in : (ws : List ℕ) (i w : ℕ) → w < 2 →
    line_in (word ws (l1d_place_of i w)) (word ws (l1d_place_of i w + 1)) ≡ l1d_get (l1d_in ws i) w
unfolding l1d_in
l1d-line-in ws i zero h = grind arith
l1d-line-in ws i (suc zero) h = grind arith
l1d-line-in ws i (suc (suc w)) h = absurd (omega arith)

l2-line-in : (ws : List ℕ) (j v : ℕ) → v < 4 →
    line_in (word ws (l2_place_of j v)) (word ws (l2_place_of j v + 1)) ≡ l2_get (l2_in ws j) v
unfolding l2_in
l2-line-in ws j zero h = grind arith
l2-line-in ws j (suc zero) h = grind arith
l2-line-in ws j (suc (suc zero)) h = grind arith
l2-line-in ws j (suc (suc (suc zero))) h = grind arith
l2-line-in ws j (suc (suc (suc (suc v)))) h = absurd (omega arith)

pub l1d-line-at : (ws : List ℕ) (i w : ℕ) → i < 128 → w < 2 →
    line_in (word ws (l1d_place_of i w)) (word ws (l1d_place_of i w + 1)) ≡ l1d_get (l1d_set_at (record_in ws) i) w
l1d-line-at ws i w h k = l1d-line-in ws i w k ∙ ap (λ (s : L1dSet). l1d_get s w) (sym (l1d-at ws i h))

pub l2-line-at : (ws : List ℕ) (j v : ℕ) → j < 512 → v < 4 →
    line_in (word ws (l2_place_of j v)) (word ws (l2_place_of j v + 1)) ≡ l2_get (l2_set_at (record_in ws) j) v
l2-line-at ws j v h k = l2-line-in ws j v k ∙ ap (λ (s : L2Set). l2_get s v) (sym (l2-at ws j h))

-- a line is put: the words of its set, and the record
put-l1d-in : (ws : List ℕ) (i w f a : ℕ) → length ws ≡ record_words → i < 128 → w < 2 →
    l1d_in (set (set ws (l1d_place_of i w) f) (l1d_place_of i w + 1) a) i ≡ l1d_put (l1d_in ws i) w (line_in f a)
unfolding l1d_in l1d_put
put-l1d-in ws i zero f a n h k = grind (arith, common_steps)
put-l1d-in ws i (suc zero) f a n h k = grind (arith, common_steps)
put-l1d-in ws i (suc (suc w)) f a n h k = absurd (omega arith)

put-l2-in : (ws : List ℕ) (j v f a : ℕ) → length ws ≡ record_words → j < 512 → v < 4 →
    l2_in (set (set ws (l2_place_of j v) f) (l2_place_of j v + 1) a) j ≡ l2_put (l2_in ws j) v (line_in f a)
unfolding l2_in l2_put
put-l2-in ws j zero f a n h k = grind (arith, common_steps)
put-l2-in ws j (suc zero) f a n h k = grind (arith, common_steps)
put-l2-in ws j (suc (suc zero)) f a n h k = grind (arith, common_steps)
put-l2-in ws j (suc (suc (suc zero))) f a n h k = grind (arith, common_steps)
put-l2-in ws j (suc (suc (suc (suc v)))) f a n h k = absurd (omega arith)

-- both but for the count of dirty lines
pub put-l1d-set : (ws : List ℕ) (i w f a : ℕ) → length ws ≡ record_words → i < 128 → w < 2 →
    record_in (set (set ws (l1d_place_of i w) f) (l1d_place_of i w + 1) a) ≡ with_l1d_set (record_in ws) i (l1d_put (l1d_set_at (record_in ws) i) w (line_in f a))
put-l1d-set ws i w f a n h k =
    one-l1d ws (set (set ws (l1d_place_of i w) f) (l1d_place_of i w + 1) a) i h
    (record { low = λ q l. grind (arith, common_steps); high = λ q l. grind (arith, common_steps) })
    ∙ ap (with_l1d_set (record_in ws) i) (put-l1d-in ws i w f a n h k ∙ ap (λ (s : L1dSet). l1d_put s w (line_in f a)) (sym (l1d-at ws i h)))

pub put-l2-set : (ws : List ℕ) (j v f a : ℕ) → length ws ≡ record_words → j < 512 → v < 4 →
    record_in (set (set ws (l2_place_of j v) f) (l2_place_of j v + 1) a) ≡ with_l2_set (record_in ws) j (l2_put (l2_set_at (record_in ws) j) v (line_in f a))
put-l2-set ws j v f a n h k =
    one-l2 ws (set (set ws (l2_place_of j v) f) (l2_place_of j v + 1) a) j h
    (record { low = λ q l. grind (arith, common_steps); high = λ q l. grind (arith, common_steps) })
    ∙ ap (with_l2_set (record_in ws) j) (put-l2-in ws j v f a n h k ∙ ap (λ (s : L2Set). l2_put s v (line_in f a)) (sym (l2-at ws j h)))

-- ---- the counts of dirty lines
-- words of the head alone are others: the sets stay
pub same-sets : (ws vs : List ℕ) → ((n : ℕ) → 5 ≤ n → word vs n ≡ word ws n) → ((record_in vs).l1d ≡ (record_in ws).l1d) × ((record_in vs).l2 ≡ (record_in ws).l2)
unfolding record_in
same-sets ws vs h = (
  listed_same (l1d_in vs) (l1d_in ws) 0 128 (λ j _. same-l1d ws vs j (λ m p q. h m (omega arith))),
  listed_same (l2_in vs) (l2_in ws) 0 512 (λ j _. same-l2 ws vs j (λ m p q. h m (omega arith))),
)

pub count-l1d : (ws : List ℕ) (n : ℕ) → length ws ≡ record_words → record_in (set ws 3 n) ≡ with_counts (record_in ws) n (record_in ws).dirty_l2
unfolding record_in
count-l1d ws n l =
    let z = same-sets ws (set ws 3 n) (λ q g. grind (arith, common_steps)) in grind (arith, common_steps, z.0, z.1)

pub count-l2 : (ws : List ℕ) (n : ℕ) → length ws ≡ record_words → record_in (set ws 4 n) ≡ with_counts (record_in ws) (record_in ws).dirty_l1d n
unfolding record_in
count-l2 ws n l =
    let z = same-sets ws (set ws 4 n) (λ q g. grind (arith, common_steps)) in grind (arith, common_steps, z.0, z.1)

pub dirty-l1d-in : (ws : List ℕ) → word ws 3 ≡ (record_in ws).dirty_l1d
unfolding record_in
dirty-l1d-in ws = refl

pub dirty-l2-in : (ws : List ℕ) → word ws 4 ≡ (record_in ws).dirty_l2
unfolding record_in
dirty-l2-in ws = refl

-- a line x is put where y was, and its count moved: the words us behind the one, vs behind both
pub put-l1d : (ws us vs : List ℕ) (i w : ℕ) (x y : Line) → length us ≡ record_words → y ≡ l1d_line_at (record_in ws) i w →
    record_in us ≡ with_l1d_set (record_in ws) i (l1d_put (l1d_set_at (record_in ws) i) w x) →
    vs ≡ set us 3 (counted l1d_lines y.dirty x.dirty (word us 3)) → record_in vs ≡ with_l1d_line (record_in ws) i w x
unfolding with_l1d_line
put-l1d ws us vs i w x y n e s q =
    rw (q, count-l1d us (counted l1d_lines y.dirty x.dirty (word us 3)) n, dirty-l1d-in us, s, e) refl

pub put-l2 : (ws us vs : List ℕ) (j v : ℕ) (x y : Line) → length us ≡ record_words → y ≡ l2_line_at (record_in ws) j v →
    record_in us ≡ with_l2_set (record_in ws) j (l2_put (l2_set_at (record_in ws) j) v x) →
    vs ≡ set us 4 (counted l2_lines y.dirty x.dirty (word us 4)) → record_in vs ≡ with_l2_line (record_in ws) j v x
unfolding with_l2_line
put-l2 ws us vs j v x y n e s q =
    rw (q, count-l2 us (counted l2_lines y.dirty x.dirty (word us 4)) n, dirty-l2-in us, s, e) refl

-- ---- the order of a set
pub l1d-order-at : (ws : List ℕ) (i : ℕ) → i < 128 → (l1d_set_at (record_in ws) i).order ≡ order2_in (word ws (i * 5 + 9))
unfolding l1d_in
l1d-order-at ws i h = ap (λ (s : L1dSet). s.order) (l1d-at ws i h)

pub l2-order-at : (ws : List ℕ) (j : ℕ) → j < 512 → (l2_set_at (record_in ws) j).order ≡ order4_in (word ws (j * 9 + 653))
unfolding l2_in
l2-order-at ws j h = ap (λ (s : L2Set). s.order) (l2-at ws j h)

-- a word is stored that stands for another order: the set of the record has that order
pub order_l1d : (ws : List ℕ) (i n : ℕ) (o : Order2) → length ws ≡ record_words → i < 128 → order2_in n ≡ o →
    record_in (set ws (i * 5 + 9) n) ≡ with_l1d_set (record_in ws) i (record { lines = (l1d_set_at (record_in ws) i).lines; order = o })
unfolding l1d_in
order_l1d ws i n o l h e =
    one-l1d ws (set ws (i * 5 + 9) n) i h (record { low = λ q l. grind (arith, common_steps); high = λ q l. grind (arith, common_steps) })
    ∙ ap (with_l1d_set (record_in ws) i) (rw (l1d-at ws i h) (grind (arith, common_steps)))

pub order_l2 : (ws : List ℕ) (j n : ℕ) (o : Order4) → length ws ≡ record_words → j < 512 → order4_in n ≡ o →
    record_in (set ws (j * 9 + 653) n) ≡ with_l2_set (record_in ws) j (record { lines = (l2_set_at (record_in ws) j).lines; order = o })
unfolding l2_in
order_l2 ws j n o l h e =
    one-l2 ws (set ws (j * 9 + 653) n) j h (record { low = λ q l. grind (arith, common_steps); high = λ q l. grind (arith, common_steps) })
    ∙ ap (with_l2_set (record_in ws) j) (rw (l2-at ws j h) (grind (arith, common_steps)))

-- that once way w was used
pub use-l1d : (ws : List ℕ) (i w n : ℕ) → length ws ≡ record_words → i < 128 →
    order2_in n ≡ used2 (order2_in (word ws (i * 5 + 9))) w →
    record_in (set ws (i * 5 + 9) n) ≡ with_l1d_set (record_in ws) i (l1d_use (l1d_set_at (record_in ws) i) w)
unfolding l1d_use
use-l1d ws i w n l h e = order_l1d ws i n _ l h (e ∙ ap (λ (o : Order2). used2 o w) (sym (l1d-order-at ws i h)))

pub use-l2 : (ws : List ℕ) (j v n : ℕ) → length ws ≡ record_words → j < 512 →
    order4_in n ≡ used4 (order4_in (word ws (j * 9 + 653))) v →
    record_in (set ws (j * 9 + 653) n) ≡ with_l2_set (record_in ws) j (l2_use (l2_set_at (record_in ws) j) v)
unfolding l2_use
use-l2 ws j v n l h e = order_l2 ws j n _ l h (e ∙ ap (λ (o : Order4). used4 o v) (sym (l2-order-at ws j h)))

-- ---- the first three words
pub l2len-in : (ws : List ℕ) → word ws 0 ≡ (record_in ws).l2len
unfolding record_in
l2len-in ws = refl

pub extlen-in : (ws : List ℕ) → word ws 1 ≡ (record_in ws).extlen
unfolding record_in
extlen-in ws = refl

pub mode-good : (ws : List ℕ) → bits_in (word ws 2) ≡ true → word ws 2 % 256 ≡ (record_in ws).mode
unfolding record_in mode_in
mode-good ws e = rw e refl

pub mode-bad : (ws : List ℕ) → bits_in (word ws 2) ≡ false → 4 ≡ (record_in ws).mode
unfolding record_in mode_in
mode-bad ws e = rw e refl
