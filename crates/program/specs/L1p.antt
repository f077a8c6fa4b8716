-- 02, U4, "Program fetches.": L1P, what it holds and when lines leave it. What a fetch does is in Fetches, the calls of
-- the whole chip in Chip. The data side (paper 01, and the other requests) knows nothing of L1P: "Data writes and L2
-- evictions leave L1P untouched."
use Rattle.std.specs.Prelude.{ℕ, ◌+◌, ◌*◌, ◌/◌, Bool, not, cond, ◌&&◌, List, get_or, set, replicate, ltb, eqb}
use Rattle.model.specs.Basics.{each, any_of, all_indexed}
use Rattle.model.specs.Memories.{external_base}
use Rattle.model.specs.Lines.{offset_in, each_way, l2_line_length, empty_line, holds}
pub use Rattle.model.specs.Lines.{l1p_kind, l1p_set_of, l1p_line, l1p_data}
use Rattle.model.specs.Records.{State, l2_kind_by, in_sram, in_cacheable, empty_way, l2_line_at, mode0}
use Rattle.model.specs.Ways.{in_l2}
use Rattle.model.specs.Commands.{lines_touched}
use Rattle.model.specs.Refusals.{in_range}
use Rattle.model.specs.declared.Line.{Line}
use Rattle.model.specs.declared.Record.{Record}

-- ---- ".. in a lent buffer of exactly 16,384 bytes,": the kind is in model/specs/Lines, with those of L1D and L2
abbrev pub l1p_length : ℕ
l1p_length = 16384

-- ---- its lines, one for each set; whether one has the line of address a
abbrev pub l1p_at : List Line → ℕ → Line
l1p_at ls s = get_or ls s empty_line

unfoldable pub in_l1p : List Line → ℕ → Bool
in_l1p ls a = holds (l1p_at ls (l1p_set_of a)) (l1p_line a)

-- "zero when fresh": and no line is valid
abbrev pub fresh_l1p : List Line
fresh_l1p = replicate l1p_kind.sets empty_line

-- ---- "L1P lines are always clean, lie where L1D lines may, and needn't be in L2.": in their own set, in SRAM or in
-- external memory whose MAR bit is 1; an invalid way is as 01 says
unfoldable pub own_l1p_set : ℕ → ℕ → Bool
own_l1p_set s a = eqb (offset_in l1p_kind a) 0 && eqb s (l1p_set_of a)

unfoldable pub l1p_region : Record → ℕ → Bool
l1p_region r a = cond (ltb a external_base) (in_sram r l1p_kind.line_length a) (in_cacheable r l1p_kind.line_length a)

unfoldable pub l1p_line_ok : Record → ℕ → Line → Bool
l1p_line_ok r s x =
    cond x.valid (not x.dirty && (own_l1p_set s x.address && l1p_region r x.address)) (empty_way x)

unfoldable pub l1p_ok : Record → List Line → Bool
l1p_ok r ls = all_indexed (l1p_line_ok r) 0 ls

-- ---- a line becomes invalid; the line of address a does, if it is held. L1P has no order of use, and no byte changes.
abbrev pub empty_l1p : ℕ → List Line → List Line
empty_l1p s ls = set ls s empty_line

unfoldable pub drop_l1p : ℕ → List Line → List Line
drop_l1p a ls = cond (in_l1p ls a) (empty_l1p (l1p_set_of a) ls) ls

-- ---- "L2 writeback-invalidate, block or all, and L2 block invalidate drop the L1P lines inside valid L2 lines they
-- act on;": the four of the L2 line at b; those of each valid L2 line, and of each one that a block touches; in mode 0
-- there are none
unfoldable pub drop_inside : ℕ → List Line → List Line
drop_inside b ls = each (λ k. drop_l1p (b + k * l1p_kind.line_length)) (l2_line_length / l1p_kind.line_length) ls

unfoldable pub drop_under_way : State → ℕ → ℕ → List Line → List Line
drop_under_way z t v ls = cond (l2_line_at z.rec t v).valid (drop_inside (l2_line_at z.rec t v).address ls) ls

unfoldable pub drop_under_all : State → List Line → List Line
drop_under_all z ls = each_way (l2_kind_by z.rec) (drop_under_way z) ls

unfoldable pub drop_under_line : State → ℕ → List Line → List Line
drop_under_line z a ls = cond (in_l2 z a) (drop_inside a ls) ls

unfoldable pub drop_under_block : State → ℕ → ℕ → List Line → List Line
drop_under_block z b c ls =
    cond (mode0 z.rec) ls
    (each (λ k. drop_under_line z ((b / l2_line_length + k) * l2_line_length)) (lines_touched l2_line_length b c) ls)

-- ---- "L1P has block and whole invalidation of its own,"
unfoldable pub invalidate_l1p_block : ℕ → ℕ → List Line → List Line
invalidate_l1p_block b c ls =
    each (λ k. drop_l1p ((b / l1p_kind.line_length + k) * l1p_kind.line_length)) (lines_touched l1p_kind.line_length b c) ls

abbrev pub invalidate_l1p_all : List Line → List Line
invalidate_l1p_all ls = fresh_l1p

-- ---- "Check 10 now looks in L1P too": a valid line with an address that MAR n covers (`chip_command_due` in Chip)
unfoldable pub l1p_holds_range : ℕ → List Line → Bool
l1p_holds_range n ls = any_of (in_range n) ls
