-- What the loops that drop lines of L1P share: after k turns the lines are those behind the first k drops, and the
-- words of the data side are as they were (`Dropping`). Over plain words.
use Rattle.std.specs.Prelude.{ℕ, zero, suc, take, unwrap_or, IfSome, is_some, ◌+◌, ◌≤◌, ◌<◌, ◌≡◌, List, [], ◌≢◌, length, eqb}
use Rattle.std.proofs.Math.Path.{refl, sym, ap}
use Rattle.std.proofs.Common.{Option, None, Some, ◌∙◌, add-one, arith, length-set, get_or-set_same, get_or-set_other, ext_get_or}
use Rattle.std.proofs.lemmas.List.{length-replicate, get_or-replicate}
use borrow.Author.Tests.{eqb-true, eqb-false, lt-ltb}
use Rattle.model.specs.Basics.{each}
use Rattle.model.specs.Lines.{empty_line, l2_set_in, l2_line}
use Rattle.model.specs.Records.{State, l2_sets_of, l2_set_at}
use Rattle.model.specs.Ways.{l2_find, l2_way, in_l2}
use Rattle.model.specs.Laws.{bool}
use Rattle.model.specs.declared.Line.{Line}
use Rattle.tags.specs.Words.{record_in, state_in}
use Rattle.program.specs.L1p.{l1p_at, empty_l1p, fresh_l1p}
use Rattle.l1p_tags.specs.Lines.{lines_in, lent-record}

-- ---- a loop
pub record Dropping (f : ℕ → List Line → List Line) (before : List ℕ) (k : ℕ) (ws : List ℕ) : Type 0 where
  pub lines : lines_in ws ≡ each f k (lines_in before)
  pub rest : record_in ws ≡ record_in before

pub begun : {f : ℕ → List Line → List Line} {ws : List ℕ} → Dropping f ws 0 ws
unfolding each
begun = record { lines = refl; rest = refl }

pub turned : {f : ℕ → List Line → List Line} {before : List ℕ} {k : ℕ} {ws vs : List ℕ} → Dropping f before k ws →
    lines_in vs ≡ f k (lines_in ws) → record_in vs ≡ record_in ws → Dropping f before (k + 1) vs
unfolding each
turned {f} {k = k} d e r = record { lines = rw add-one (e ∙ ap (f k) d.lines); rest = r ∙ d.rest }

-- ---- every line
emptied-length : (n : ℕ) (ls : List Line) → length (each (λ k. empty_l1p k) n ls) ≡ length ls
unfolding each
emptied-length zero ls = refl
emptied-length (suc n) ls = length-set (each (λ k. empty_l1p k) n ls) n empty_line ∙ emptied-length n ls

emptied-at : (n : ℕ) (ls : List Line) (s : ℕ) → s < n → n ≤ length ls →
    l1p_at (each (λ k. empty_l1p k) n ls) s ≡ empty_line
unfolding each
emptied-at zero ls s h l = absurd (omega arith)
emptied-at (suc n) ls s h l =
    let js = each (λ k. empty_l1p k) n ls in
    bool (eqb s n)
    (λ t. let e = eqb-true s n t in
    rw e (get_or-set_same js n empty_line empty_line (rw (emptied-length n ls) (omega arith))))
    (λ t. let e = eqb-false s n t in
    get_or-set_other js n s empty_line empty_line e ∙ emptied-at n ls s (omega arith) (omega arith))

pub emptied-all : (ls : List Line) → length ls ≡ 512 → each (λ k. empty_l1p k) 512 ls ≡ fresh_l1p
emptied-all ls l =
    let js = each (λ k. empty_l1p k) 512 ls in let e = emptied-length 512 ls ∙ l in
    ext_get_or empty_line js fresh_l1p (e ∙ sym (length-replicate {A = Line} 512 empty_line))
    (λ s h. let k : s < 512 = rw e at h in
    emptied-at 512 ls s k (omega arith) ∙ sym (get_or-replicate 512 s empty_line empty_line k))

-- ---- whether L2 has the line, of which the data side's words tell that are lent as a part
pub found_in : (ws d m e : List ℕ) (sets a t b : ℕ) (r : Option ℕ) → sets ≢ 0 → sets ≡ l2_sets_of (record_in ws) →
    (sets ≢ 0 → t ≡ l2_set_in sets a) → b ≡ l2_line a →
    unwrap_or r 4 ≡ l2_find (l2_set_at (record_in (take 5253 ws)) t) b → IfSome r (λ v. v < 4) →
    in_l2 (state_in ws d m e) a ≡ is_some r
unfolding in_l2 l2_way
found_in ws d m e sets a t b None some es et eb ef h = rw (← es, ← et some, ← eb, ← lent-record ws, ← ef) refl
found_in ws d m e sets a t b (Some v) some es et eb ef h =
    rw (← es, ← et some, ← eb, ← lent-record ws, ← ef) (lt-ltb v 4 h)

-- ---- what lies in the memories does not count, and the record alone of the words does
abbrev pub bare : List ℕ → State
bare ws = state_in ws [] [] []
