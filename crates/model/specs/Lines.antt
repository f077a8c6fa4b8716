-- Paper 01, "Lines and the record": where lines and their bytes lie, a line, the order of use, one set of each cache.
use Rattle.std.specs.Prelude.{ℕ, ◌*◌, ◌<◌, ◌+◌, ◌/◌, ◌%◌, Bool, true, false, cond, ◌&&◌, ◌≢◌, List, [], ◌∷◌, get_or, set, eqb}
use Rattle.model.specs.Basics.{each}
use Rattle.model.specs.Memories.{cache_size}
use Rattle.model.specs.declared.Line.{Line}
use Rattle.model.specs.declared.Order2.{Order2}
use Rattle.model.specs.declared.Order4.{Order4}
use Rattle.model.specs.declared.L1dSet.{L1dSet}
use Rattle.model.specs.declared.L2Set.{L2Set}

-- ---- "Line length, ways and sets belong to each cache's kind as constants, those for L2 being per mode."
-- (in the code, `L1d`, `L2` and `L1p` of crate geometry)
pub record Kind : Type 0 where
  pub line_length : ℕ
  pub ways : ℕ
  pub sets : ℕ

-- "Set = (address ÷ 64) mod 128.", "Set = (address ÷ 128) mod sets.": the set of an address
abbrev pub set_of : Kind → ℕ → ℕ
set_of k a = a / k.line_length % k.sets

-- "A line address is that of the line's first byte.": that of the line of an address, and how far behind it the
-- address is
abbrev pub line_address : Kind → ℕ → ℕ
line_address k a = a / k.line_length * k.line_length

abbrev pub offset_in : Kind → ℕ → ℕ
offset_in k a = a % k.line_length

-- "Data of set s, way w, at (w × 128 + s) × 64.", ".. (w × sets + s) × 128.": the place of a way among all ways, and
-- its data
abbrev pub slot_of : Kind → ℕ → ℕ → ℕ
slot_of k s w = w * k.sets + s

abbrev pub data_of : Kind → ℕ → ℕ → ℕ
data_of k s w = slot_of k s w * k.line_length

-- f at each way, set by set and way by way
abbrev pub each_way {ℓ} : {A : Type ℓ} → Kind → (ℕ → ℕ → A → A) → A → A
each_way k f z = each (λ i. f (i / k.ways) (i % k.ways)) (k.sets * k.ways) z

-- ---- "L1D: 2 ways, 128 sets. Set = (address ÷ 64) mod 128. Data of set s, way w, at (w × 128 + s) × 64."
abbrev pub l1d_kind : Kind
l1d_kind = record { line_length = 64; ways = 2; sets = 128 }

abbrev pub l1d_set_of : ℕ → ℕ
l1d_set_of a = set_of l1d_kind a

abbrev pub l1d_line : ℕ → ℕ
l1d_line a = line_address l1d_kind a

abbrev pub l1d_data : ℕ → ℕ → ℕ
l1d_data s w = data_of l1d_kind s w

-- ---- "L2 cache: 4 ways, C ÷ 512 sets, none in mode 0. Set = (address ÷ 128) mod sets. Data at S + (w × sets + s) ×
-- 128."
abbrev pub l2_line_length : ℕ
l2_line_length = 128

abbrev pub l2_ways : ℕ
l2_ways = 4

abbrev pub l2_sets : ℕ → ℕ
l2_sets m = cache_size m / 512

-- with so many sets; by mode
abbrev pub l2_kind_of : ℕ → Kind
l2_kind_of sets = record { line_length = l2_line_length; ways = l2_ways; sets = sets }

abbrev pub l2_kind : ℕ → Kind
l2_kind m = l2_kind_of (l2_sets m)

abbrev pub l2_set_in : ℕ → ℕ → ℕ
l2_set_in sets a = set_of (l2_kind_of sets) a

-- the line is the same in every mode
abbrev pub l2_line : ℕ → ℕ
l2_line a = line_address (l2_kind_of 0) a

-- the place among all ways, shut: its product is no linear term
unfoldable pub l2_slot : ℕ → ℕ → ℕ → ℕ
l2_slot sets s w = slot_of (l2_kind_of sets) s w

abbrev pub l2_data_in : ℕ → ℕ → ℕ → ℕ → ℕ
l2_data_in sram sets s w = sram + l2_slot sets s w * l2_line_length

-- the upper half of the L2 line at b; its lower half is at b itself
abbrev pub upper_half : ℕ → ℕ
upper_half b = l2_line b + l1d_kind.line_length

-- ---- 02, U4: "L1P: 16 Kbytes, one way, 32-byte lines, 512 sets, set = (address ÷ 32) mod 512, set s's data at s × 32
-- in a lent buffer ..": the third kind
abbrev pub l1p_kind : Kind
l1p_kind = record { line_length = 32; ways = 1; sets = 512 }

abbrev pub l1p_set_of : ℕ → ℕ
l1p_set_of a = set_of l1p_kind a

abbrev pub l1p_line : ℕ → ℕ
l1p_line a = line_address l1p_kind a

abbrev pub l1p_data : ℕ → ℕ
l1p_data s = data_of l1p_kind s 0

-- ---- "the lines, held by set and by way: valid, dirty, line address."
-- a valid line at a, dirty or clean
abbrev pub line_of : ℕ → Bool → Line
line_of a d = record { valid = true; dirty = d; address = a }

-- the line is valid and at address a
unfoldable pub holds : Line → ℕ → Bool
holds x a = x.valid && eqb x.address a

-- ---- "Each set has its order of use, a permutation of its ways, most recent first."
pub record Permutation2 (o : Order2) : Type 0 where
  pub below1 : o.first < 2
  pub below2 : o.second < 2
  pub apart : o.first ≢ o.second

pub record Permutation4 (o : Order4) : Type 0 where
  pub below1 : o.first < 4
  pub below2 : o.second < 4
  pub below3 : o.third < 4
  pub below4 : o.fourth < 4
  pub apart12 : o.first ≢ o.second
  pub apart13 : o.first ≢ o.third
  pub apart14 : o.first ≢ o.fourth
  pub apart23 : o.second ≢ o.third
  pub apart24 : o.second ≢ o.fourth
  pub apart34 : o.third ≢ o.fourth

-- "Using a way takes an order and gives back the new one, that way in front, the others as they stood."
-- the ways without w, where it stands first; w in front of them
unfoldable pub without : ℕ → List ℕ → List ℕ
without w [] = []
without w (x ∷ xs) = cond (eqb x w) xs (x ∷ without w xs)

unfoldable pub in_front : ℕ → List ℕ → List ℕ
in_front w xs = w ∷ without w xs

-- the order whose ways are the first of a list
abbrev pub order2 : List ℕ → Order2
order2 xs = record { first = get_or xs 0 0; second = get_or xs 1 0 }

abbrev pub order4 : List ℕ → Order4
order4 xs = record { first = get_or xs 0 0; second = get_or xs 1 0; third = get_or xs 2 0; fourth = get_or xs 3 0 }

-- the code's cases: `used2-cases`, `used4-cases` (Laws)
unfoldable pub used2 : Order2 → ℕ → Order2
used2 o w = order2 (in_front w (o.first ∷ o.second ∷ []))

unfoldable pub used4 : Order4 → ℕ → Order4
used4 o w = order4 (in_front w (o.first ∷ o.second ∷ o.third ∷ o.fourth ∷ []))

-- ---- "An invalid way is clean with address 0."
abbrev pub empty_line : Line
empty_line = record { valid = false; dirty = false; address = 0 }

-- ---- one set: its lines by way, a way's line replaced, a way used
abbrev pub l1d_get : L1dSet → ℕ → Line
l1d_get v w = get_or v.lines w empty_line

abbrev pub l2_get : L2Set → ℕ → Line
l2_get v w = get_or v.lines w empty_line

unfoldable pub l1d_put : L1dSet → ℕ → Line → L1dSet
l1d_put v w x = record { lines = set v.lines w x; order = v.order }

unfoldable pub l2_put : L2Set → ℕ → Line → L2Set
l2_put v w x = record { lines = set v.lines w x; order = v.order }

unfoldable pub l1d_use : L1dSet → ℕ → L1dSet
l1d_use v w = record { lines = v.lines; order = used2 v.order w }

unfoldable pub l2_use : L2Set → ℕ → L2Set
l2_use v w = record { lines = v.lines; order = used4 v.order w }
