-- Paper 01, "Lines and the record": the record with the lent memories, which records are well formed, the fresh
-- record.
use Rattle.std.specs.Prelude.{ℕ, ◌<◌, ◌+◌, ◌-◌, ◌*◌, ◌/◌, Bool, true, false, not, cond, ◌&&◌, ◌≡◌, List, [], ◌∷◌, length, get_or, set, replicate, ltb, leb, eqb}
use Rattle.model.specs.Basics.{any_of, all_indexed}
use Rattle.model.specs.Memories.{legal_l2, legal_external, external_base, cache_size, is_mode, sram_length}
use Rattle.model.specs.Lines.{Kind, set_of, offset_in, l1d_kind, l1d_set_of, l2_line_length, l2_ways, l2_kind, l2_data_in, l2_line, empty_line, holds, l1d_get, l2_get, l1d_put, l2_put}
use Rattle.model.specs.declared.Line.{Line}
use Rattle.model.specs.declared.Order2.{Order2}
use Rattle.model.specs.declared.Order4.{Order4}
use Rattle.model.specs.declared.L1dSet.{L1dSet}
use Rattle.model.specs.declared.L2Set.{L2Set}
use Rattle.model.specs.declared.Record.{Record}

-- the record, and the bytes of L1D, of L2 and of external memory
pub record State : Type 0 where
  pub rec : Record
  pub l1d : List ℕ
  pub l2 : List ℕ
  pub ext : List ℕ

abbrev pub state : Record → List ℕ → List ℕ → List ℕ → State
state r d m e = record { rec = r; l1d = d; l2 = m; ext = e }

-- the state with another record, with other bytes of L1D, of L2, of external memory: every change of a state goes
-- through these
abbrev pub with_record : State → Record → State
with_record z r = state r z.l1d z.l2 z.ext

abbrev pub with_l1d : State → List ℕ → State
with_l1d z d = state z.rec d z.l2 z.ext

abbrev pub with_l2 : State → List ℕ → State
with_l2 z m = state z.rec z.l1d m z.ext

abbrev pub with_external : State → List ℕ → State
with_external z e = state z.rec z.l1d z.l2 e

-- ---- the record with other sets, with another mode, with other MAR bits, frozen or not, with other counts: every
-- change of a record goes through these
abbrev pub with_l1d_sets : Record → List L1dSet → Record
with_l1d_sets r vs =
    record { l2len = r.l2len; extlen = r.extlen; mode = r.mode; mar128 = r.mar128; mar129 = r.mar129; frozen = r.frozen; dirty_l1d = r.dirty_l1d; dirty_l2 = r.dirty_l2; l1d = vs; l2 = r.l2 }

abbrev pub with_l2_sets : Record → List L2Set → Record
with_l2_sets r vs =
    record { l2len = r.l2len; extlen = r.extlen; mode = r.mode; mar128 = r.mar128; mar129 = r.mar129; frozen = r.frozen; dirty_l1d = r.dirty_l1d; dirty_l2 = r.dirty_l2; l1d = r.l1d; l2 = vs }

abbrev pub with_mode : Record → ℕ → Record
with_mode r m =
    record { l2len = r.l2len; extlen = r.extlen; mode = m; mar128 = r.mar128; mar129 = r.mar129; frozen = r.frozen; dirty_l1d = r.dirty_l1d; dirty_l2 = r.dirty_l2; l1d = r.l1d; l2 = r.l2 }

abbrev pub with_mars : Record → Bool → Bool → Record
with_mars r a b =
    record { l2len = r.l2len; extlen = r.extlen; mode = r.mode; mar128 = a; mar129 = b; frozen = r.frozen; dirty_l1d = r.dirty_l1d; dirty_l2 = r.dirty_l2; l1d = r.l1d; l2 = r.l2 }

abbrev pub with_frozen : Record → Bool → Record
with_frozen r b =
    record { l2len = r.l2len; extlen = r.extlen; mode = r.mode; mar128 = r.mar128; mar129 = r.mar129; frozen = b; dirty_l1d = r.dirty_l1d; dirty_l2 = r.dirty_l2; l1d = r.l1d; l2 = r.l2 }

abbrev pub with_counts : Record → ℕ → ℕ → Record
with_counts r m n =
    record { l2len = r.l2len; extlen = r.extlen; mode = r.mode; mar128 = r.mar128; mar129 = r.mar129; frozen = r.frozen; dirty_l1d = m; dirty_l2 = n; l1d = r.l1d; l2 = r.l2 }

-- ---- S, the kind that L2 is of, its number of sets, an address's L2 set and a way's data, by the record's mode
abbrev pub sram_of : Record → ℕ
sram_of r = sram_length r.l2len r.mode

abbrev pub l2_kind_by : Record → Kind
l2_kind_by r = l2_kind r.mode

abbrev pub l2_sets_of : Record → ℕ
l2_sets_of r = (l2_kind_by r).sets

abbrev pub l2_set_of : Record → ℕ → ℕ
l2_set_of r a = set_of (l2_kind_by r) a

abbrev pub l2_data : Record → ℕ → ℕ → ℕ
l2_data r t v = l2_data_in (sram_of r) (l2_sets_of r) t v

-- mode 0, which has no L2 cache. What is no mode has none either, so that L2 has no sets in mode 0 and some in every
-- other (`mode0-sets` in Laws).
unfoldable pub mode0 : Record → Bool
mode0 r = cond (is_mode r.mode) (eqb r.mode 0) true

-- "MAR n covers the 16 MiB from n × 1000000h (001, Table 28)."
unfoldable pub covers : ℕ → ℕ → Bool
covers n a = eqb (a / 0x1000000) n

-- the bit of the MAR that covers an external address: E is at most 32 MiB, so that it is 128 or 129
unfoldable pub mar_bit : Record → ℕ → Bool
mar_bit r a = cond (covers 128 a) r.mar128 r.mar129

-- ---- "the lines, held by set and by way": a set of the record, and a line of a set.
-- What stands for a set past the end of the array is what the language gives: no lines, order 0.
abbrev pub no_l1d_set : L1dSet
no_l1d_set = record { lines = []; order = record { first = 0; second = 0 } }

abbrev pub no_l2_set : L2Set
no_l2_set = record { lines = []; order = record { first = 0; second = 0; third = 0; fourth = 0 } }

abbrev pub l1d_set_at : Record → ℕ → L1dSet
l1d_set_at r s = get_or r.l1d s no_l1d_set

abbrev pub l2_set_at : Record → ℕ → L2Set
l2_set_at r t = get_or r.l2 t no_l2_set

abbrev pub l1d_line_at : Record → ℕ → ℕ → Line
l1d_line_at r s w = l1d_get (l1d_set_at r s) w

abbrev pub l2_line_at : Record → ℕ → ℕ → Line
l2_line_at r t v = l2_get (l2_set_at r t) v

-- the lengths of the arrays, which the record's types give and a list does not say
pub record Shape (r : Record) : Type 0 where
  pub l1d_sets : length r.l1d ≡ l1d_kind.sets
  pub l1d_ways : (s : ℕ) → s < l1d_kind.sets → length (l1d_set_at r s).lines ≡ l1d_kind.ways
  pub l2_sets : length r.l2 ≡ 512
  pub l2_ways : (t : ℕ) → t < 512 → length (l2_set_at r t).lines ≡ l2_ways

-- the record with one set replaced
abbrev pub with_l1d_set : Record → ℕ → L1dSet → Record
with_l1d_set r s v = with_l1d_sets r (set r.l1d s v)

abbrev pub with_l2_set : Record → ℕ → L2Set → Record
with_l2_set r t v = with_l2_sets r (set r.l2 t v)

-- ---- 02, U5: "The repair panel shows how many lines are dirty in L1D and in L2, .. Write both counts into the
-- record.": how many of a list of lines are dirty; how many in the sets of a cache, whose lines `f` gives; L1D's; L2's
unfoldable pub dirty_lines : List Line → ℕ
dirty_lines [] = 0
dirty_lines (x ∷ xs) = cond x.dirty 1 0 + dirty_lines xs

unfoldable pub dirty_in : {A : Type 0} → (A → List Line) → List A → ℕ
dirty_in f [] = 0
dirty_in f (v ∷ vs) = dirty_lines (f v) + dirty_in f vs

abbrev pub dirty_in_l1d : Record → ℕ
dirty_in_l1d r = dirty_in (λ v. v.lines) r.l1d

abbrev pub dirty_in_l2 : Record → ℕ
dirty_in_l2 r = dirty_in (λ v. v.lines) r.l2

-- "Every operation keeps them right, transfers and drops included.": the count n where a line that was dirty or not
-- (d) becomes dirty or not (e). `most` is how many lines the cache has. A right count never meets it where a line
-- becomes dirty, nor 0 where one becomes clean (agreement/proofs/Tables: `count-line`); of a wrong one, which no call
-- accepts, both bounds make a number of 32 bits.
abbrev pub l1d_lines : ℕ
l1d_lines = l1d_kind.sets * l1d_kind.ways

abbrev pub l2_lines : ℕ
l2_lines = 512 * l2_ways

unfoldable pub counted : ℕ → Bool → Bool → ℕ → ℕ
counted most d e n = cond d (cond e n (n - 1)) (cond e (cond (ltb n most) (n + 1) n) n)

-- the record with one line replaced, and the count of its cache moved: no dirty mark changes but here, and where a
-- mode change or a fresh start makes all lines anew
unfoldable pub with_l1d_line : Record → ℕ → ℕ → Line → Record
with_l1d_line r s w x =
    with_counts (with_l1d_set r s (l1d_put (l1d_set_at r s) w x)) (counted l1d_lines (l1d_line_at r s w).dirty x.dirty r.dirty_l1d) r.dirty_l2

unfoldable pub with_l2_line : Record → ℕ → ℕ → Line → Record
with_l2_line r t v x =
    with_counts (with_l2_set r t (l2_put (l2_set_at r t) v x)) r.dirty_l1d (counted l2_lines (l2_line_at r t v).dirty x.dirty r.dirty_l2)

-- ---- "A record is well formed when L, E and the mode are legal with C ≤ L;"
unfoldable pub legal_sizes : Record → Bool
legal_sizes r = legal_l2 r.l2len && (legal_external r.extlen && (is_mode r.mode && leb (cache_size r.mode) r.l2len))

-- "orders are permutations;"
unfoldable pub permuted2 : Order2 → Bool
permuted2 o = ltb o.first 2 && (ltb o.second 2 && not (eqb o.first o.second))

unfoldable pub permuted4 : Order4 → Bool
permuted4 o =
    ltb o.first 4 && (ltb o.second 4 && (ltb o.third 4 && (ltb o.fourth 4 &&
    (not (eqb o.first o.second) && (not (eqb o.first o.third) && (not (eqb o.first o.fourth) &&
    (not (eqb o.second o.third) && (not (eqb o.second o.fourth) && not (eqb o.third o.fourth)))))))))

-- "invalid ways are as just said;" (clean, address 0)
unfoldable pub empty_way : Line → Bool
empty_way x = not x.dirty && eqb x.address 0

-- "valid line addresses are multiples of the line length and lie in their own set,": address a of a line in set s of
-- L1D, set t of L2
unfoldable pub own_l1d_set : ℕ → ℕ → Bool
own_l1d_set s a = eqb (offset_in l1d_kind a) 0 && eqb s (l1d_set_of a)

unfoldable pub own_l2_set : Record → ℕ → ℕ → Bool
own_l2_set r t a = eqb (offset_in (l2_kind_by r) a) 0 && eqb t (l2_set_of r a)

-- "no line twice;" (a line lies in its own set, so that twice in a cache is twice in a set)
unfoldable pub none_twice : List Line → Bool
none_twice [] = true
none_twice (x ∷ xs) = not (x.valid && any_of (λ y. holds y x.address) xs) && none_twice xs

-- "L1D lines lie in SRAM or in external memory whose MAR bit is 1;": the n bytes at a
unfoldable pub in_sram : Record → ℕ → ℕ → Bool
in_sram r n a = leb (a + n) (sram_of r)

unfoldable pub in_cacheable : Record → ℕ → ℕ → Bool
in_cacheable r n a = leb (a + n) (external_base + r.extlen) && mar_bit r a

unfoldable pub l1d_region : Record → ℕ → Bool
l1d_region r a = cond (ltb a external_base) (in_sram r l1d_kind.line_length a) (in_cacheable r l1d_kind.line_length a)

-- "L2 lines only in the latter;"
unfoldable pub l2_region : Record → ℕ → Bool
l2_region r a = leb external_base a && in_cacheable r l2_line_length a

-- "sets not in use are fresh;": only a set in use has a line, and only its order is another than the fresh one
abbrev pub in_use : Record → ℕ → Bool
in_use r t = ltb t (l2_sets_of r)

unfoldable pub fresh_unless_used : Record → ℕ → Order4 → Bool
fresh_unless_used r t o =
    cond (in_use r t) true (eqb o.first 3 && (eqb o.second 2 && (eqb o.third 1 && eqb o.fourth 0)))

-- "and in a mode other than 0 each external L1D line lies inside a valid L2 line."
unfoldable pub inside_l2_line : Record → ℕ → Bool
inside_l2_line r a = cond (mode0 r) true (any_of (λ y. holds y (l2_line a)) (l2_set_at r (l2_set_of r a)).lines)

unfoldable pub covered_by_l2 : Record → ℕ → Bool
covered_by_l2 r a = cond (ltb a external_base) true (inside_l2_line r a)

-- ---- the clauses together: where a valid line may stand, one line, one set, the record
unfoldable pub l1d_place : Record → ℕ → ℕ → Bool
l1d_place r s a = own_l1d_set s a && (l1d_region r a && covered_by_l2 r a)

unfoldable pub l2_place : Record → ℕ → ℕ → Bool
l2_place r t a = own_l2_set r t a && (in_use r t && l2_region r a)

unfoldable pub l1d_line_ok : Record → ℕ → Line → Bool
l1d_line_ok r s x = cond x.valid (l1d_place r s x.address) (empty_way x)

unfoldable pub l2_line_ok : Record → ℕ → Line → Bool
l2_line_ok r t x = cond x.valid (l2_place r t x.address) (empty_way x)

unfoldable pub l1d_set_ok : Record → ℕ → L1dSet → Bool
l1d_set_ok r s v = all_indexed (λ _ x. l1d_line_ok r s x) 0 v.lines && (none_twice v.lines && permuted2 v.order)

unfoldable pub l2_set_ok : Record → ℕ → L2Set → Bool
l2_set_ok r t v =
    all_indexed (λ _ x. l2_line_ok r t x) 0 v.lines && (none_twice v.lines && (permuted4 v.order && fresh_unless_used r t v.order))

-- 02, U5, one clause more: "A record whose counts are wrong isn't well formed and gets 2."
unfoldable pub counts_ok : Record → Bool
counts_ok r = eqb r.dirty_l1d (dirty_in_l1d r) && eqb r.dirty_l2 (dirty_in_l2 r)

unfoldable pub well_formed : Record → Bool
well_formed r = legal_sizes r && (all_indexed (l1d_set_ok r) 0 r.l1d && (all_indexed (l2_set_ok r) 0 r.l2 && counts_ok r))

-- ---- "Fresh: mode 0, MAR bits 0, nothing valid, orders 1,0 and 3,2,1,0." 02, U11: "A fresh start is thawed." 02, U5:
-- no line is dirty.
abbrev pub fresh_l1d_set : L1dSet
fresh_l1d_set = record { lines = empty_line ∷ empty_line ∷ []; order = record { first = 1; second = 0 } }

abbrev pub fresh_l2_set : L2Set
fresh_l2_set =
    record {
      lines = empty_line ∷ empty_line ∷ empty_line ∷ empty_line ∷ [];
      order = record { first = 3; second = 2; third = 1; fourth = 0 };
    }

abbrev pub fresh_l1d_sets : List L1dSet
fresh_l1d_sets = replicate l1d_kind.sets fresh_l1d_set

abbrev pub fresh_l2_sets : List L2Set
fresh_l2_sets = replicate 512 fresh_l2_set

unfoldable pub fresh_record : ℕ → ℕ → Record
fresh_record l e = record { l2len = l; extlen = e; mode = 0; mar128 = false; mar129 = false; frozen = false; dirty_l1d = 0; dirty_l2 = 0; l1d = fresh_l1d_sets; l2 = fresh_l2_sets }

-- "L1D and L2 bytes become zero; external memory is kept."
unfoldable pub fresh_state : ℕ → List ℕ → State
fresh_state l e = state (fresh_record l (length e)) (replicate 16384 0) (replicate l 0) e
