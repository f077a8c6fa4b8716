-- The record as a whole: its head, the sets of L1D and those of L2 in use with their counts, the others; and what is
-- due.
use Rattle.std.specs.Prelude.{ℕ, suc, ◌+◌, ◌%◌, ◌≤◌, [], ◌∷◌, true, false, ◌&&◌, List, ◌≡◌, refl, length, take, drop, leb, eqb}
use Rattle.std.proofs.Common.{arith, take_all}
use Rattle.std.proofs.lemmas.Bool.Decides.{nat_tests}
use Rattle.model.specs.Basics.{all_indexed}
use Rattle.model.specs.Memories.{legal_l2, legal_external, is_mode, cache_size}
use Rattle.model.specs.Records.{dirty_lines, legal_sizes, counts_ok, well_formed, empty_way, l2_sets_of, l2_set_ok, l2_line_ok, l2_place}
use Rattle.model.specs.Laws.{bool, both_true}
use Rattle.model.specs.declared.Line.{Line}
use Rattle.model.specs.declared.L2Set.{L2Set}
use Rattle.model.specs.declared.Record.{Record}
use Rattle.model.specs.Refusals.{lowest_due, unless, lent_l1d, lent_l2, lent_external, lent_due}
use Rattle.tags.specs.Words.{word, record_in, state_in, mode_in, bits_in, shaped}
use Rattle.record_check.specs.Parts.{front_ok, l1d_front_ok, l2_front_ok, l2_rest_ok}
use Rattle.record_check.specs.All.{all_parts, dirty_parts, dirty_none}

pub head_is : (ws : List ℕ) → legal_sizes (record_in ws) ≡ (bits_in (word ws 2) && ((legal_l2 (word ws 0) && legal_external (word ws 1))
    && (is_mode (word ws 2 % 256) && leb (cache_size (word ws 2 % 256)) (word ws 0))))
unfolding legal_sizes record_in mode_in is_mode
head_is ws = bool (bits_in (word ws 2)) (λ t. rw t (grind arith)) (λ t. rw t (grind arith))

-- ---- a set of L2 that is not in use has no dirty line
idle_line : (r : Record) (t : ℕ) (x : Line) → l2_sets_of r ≤ t → l2_line_ok r t x ≡ true → x.dirty ≡ false
unfolding l2_line_ok l2_place empty_way
idle_line r t x h e = grind (arith, nat_tests)

idle_lines : (r : Record) (t k : ℕ) (xs : List Line) → l2_sets_of r ≤ t → all_indexed (λ _ x. l2_line_ok r t x) k xs ≡ true → dirty_lines xs ≡ 0
unfolding all_indexed dirty_lines
idle_lines r t k [] h e = refl
idle_lines r t k (x ∷ xs) h e =
    let p = both_true (l2_line_ok r t x) _ e in let d = idle_line r t x h p.0 in rw (d, idle_lines r t (suc k) xs h p.1) refl

idle_set : (r : Record) (t : ℕ) (v : L2Set) → l2_sets_of r ≤ t → l2_set_ok r t v ≡ true → dirty_lines v.lines ≡ 0
unfolding l2_set_ok
idle_set r t v h e = idle_lines r t 0 v.lines h (both_true (all_indexed (λ _ x. l2_line_ok r t x) 0 v.lines) _ e).0

-- ---- the record in these parts
pub whole_is : (ws : List ℕ) → well_formed (record_in ws) ≡ (legal_sizes (record_in ws) && (l1d_front_ok (record_in ws) 128
    && (l2_front_ok (record_in ws) (l2_sets_of (record_in ws)) && l2_rest_ok (record_in ws) (l2_sets_of (record_in ws)))))
unfolding well_formed counts_ok front_ok l2_rest_ok
whole_is ws =
    let r = record_in ws in let n = l2_sets_of r in let lines = λ (v : L2Set). v.lines in
    let t : take 128 r.l1d ≡ r.l1d = take_all 128 r.l1d (omega (arith, (shaped ws).l1d_sets)) in
    let z : 0 + n ≡ n = omega arith in
    let none = dirty_none lines (l2_set_ok r) n (drop n r.l2) (λ i v l. idle_set r i v l) in
    rw (t, all_parts (l2_set_ok r) 0 n r.l2, dirty_parts lines n r.l2, z) (grind (arith, nat_tests, none))

pub lent_is : (ws d m e : List ℕ) → lent_due (state_in ws d m e) ≡ lowest_due (unless (eqb (length d) 16384 && ((legal_l2 (length m) && eqb (length m) (word ws 0))
    && (legal_external (length e) && eqb (length e) (word ws 1)))) 1) (unless (well_formed (record_in ws)) 2)
unfolding lent_due lent_l1d lent_l2 lent_external record_in
lent_is ws d m e = refl

pub ruleset whole_laws = (nat_tests, head_is, whole_is, lent_is)
