-- The chip that lent words stand for (02, U4): "the record carries its lines": behind the words of the data side two
-- words for each set of L1P, mark and address of its line. Every law about these words ends here.
use Rattle.std.specs.Prelude.{ℕ, ◌+◌, ◌*◌, ◌-◌, ◌≤◌, ◌<◌, ◌≡◌, List, ◌++◌, length, set, take, drop}
use Rattle.std.proofs.Common.{ap, ◌∙◌, arith, get_or-take, get_or-drop, get_or-append-add, length-take-le}
use Rattle.std.proofs.Math.ListN.{get_or-append}
use Rattle.std.proofs.lemmas.Grind.{common_steps}
use Rattle.lists.specs.Listed.{listed, listed-get, listed_same, listed-few, listed-set, length-listed}
use Rattle.model.specs.Lines.{empty_line}
use Rattle.model.specs.declared.Line.{Line}
use Rattle.tags.specs.Words.{record_words, word, line_in, l1d_in, l2_in, record_in, state_in, same-l1d, same-l2}
use Rattle.program.specs.L1p.{l1p_at}
use Rattle.program.specs.Fetches.{Chip, chip}

-- how many words: those of the data side, and two for each of 512 sets
abbrev pub chip_words : ℕ
chip_words = 6277

-- where the mark of the line in set s is
abbrev pub l1p_place_of : ℕ → ℕ
l1p_place_of s = s * 2 + 5253

unfoldable pub l1p_in : List ℕ → ℕ → Line
l1p_in ws s = line_in (word ws (l1p_place_of s)) (word ws (l1p_place_of s + 1))

unfoldable pub lines_in : List ℕ → List Line
lines_in ws = listed (l1p_in ws) 0 512

-- the words with the four lent memories
abbrev pub chip_in : List ℕ → List ℕ → List ℕ → List ℕ → List ℕ → Chip
chip_in ws d m e p = chip (state_in ws d m e) (lines_in ws) p

-- ---- the line in a set
pub line_at : (ws : List ℕ) (s : ℕ) → s < 512 → l1p_at (lines_in ws) s ≡ l1p_in ws s
unfolding lines_in
line_at ws s h = let e : 0 + s ≡ s = omega arith in listed-get (l1p_in ws) 0 512 s empty_line h ∙ ap (l1p_in ws) e

pub length-lines : (ws : List ℕ) → length (lines_in ws) ≡ 512
unfolding lines_in
length-lines ws = length-listed (l1p_in ws) 0 512

-- ---- the data side sees the words in front alone, L1P those behind
pub same-record : (ws vs : List ℕ) → ((n : ℕ) → n < 5253 → word vs n ≡ word ws n) → record_in vs ≡ record_in ws
unfolding record_in
same-record ws vs o =
    let d = listed-few (l1d_in vs) (l1d_in ws) 0 128 (λ j h. same-l1d ws vs j (λ k p q. o k (omega arith))) in
    let e = listed-few (l2_in vs) (l2_in ws) 0 512 (λ j h. same-l2 ws vs j (λ k p q. o k (omega arith))) in
    grind (arith, o, d, e)

pub same_lines : (ws vs : List ℕ) → ((n : ℕ) → 5253 ≤ n → word vs n ≡ word ws n) → lines_in vs ≡ lines_in ws
unfolding lines_in l1p_in
same_lines ws vs o = listed_same (l1p_in vs) (l1p_in ws) 0 512 (λ s _. grind (arith, o))

-- ---- a line is put
abbrev stored-line : List ℕ → ℕ → ℕ → ℕ → List ℕ
stored-line ws s f a = set (set ws (l1p_place_of s) f) (l1p_place_of s + 1) a

pub put_record : (ws : List ℕ) (s f a : ℕ) → record_in (stored-line ws s f a) ≡ record_in ws
put_record ws s f a = same-record ws (stored-line ws s f a) (λ n h. grind (arith, common_steps))

pub put_line : (ws : List ℕ) (s f a : ℕ) → length ws ≡ chip_words → s < 512 →
    lines_in (stored-line ws s f a) ≡ set (lines_in ws) s (line_in f a)
unfolding lines_in l1p_in
put_line ws s f a l h =
    let here : l1p_in (stored-line ws s f a) (0 + s) ≡ line_in f a = grind (arith, common_steps) in
    listed-set (l1p_in ws) (l1p_in (stored-line ws s f a)) 0 512 s h (λ j n. grind (arith, common_steps))
    ∙ ap (set (listed (l1p_in ws) 0 512) s) here

-- ---- the data side's words, lent to one of its functions
pub lent_length : (ws : List ℕ) → length ws ≡ chip_words → length (take 5253 ws) ≡ record_words
lent_length ws l = length-take-le 5253 ws (omega arith)

pub lent-record : (ws : List ℕ) → record_in (take 5253 ws) ≡ record_in ws
lent-record ws = same-record ws (take 5253 ws) (λ n h. get_or-take 5253 ws n 0 h)

-- and given back: the function left vs there
module _ (ws vs : List ℕ) (l : length vs ≡ record_words) where
  pub back-record : record_in (vs ++ drop 5253 ws) ≡ record_in vs
  back-record = same-record vs (vs ++ drop 5253 ws) (λ n h. get_or-append vs (drop 5253 ws) 0 n (omega arith))

  pub back-lines : lines_in (vs ++ drop 5253 ws) ≡ lines_in ws
  back-lines =
      same_lines ws (vs ++ drop 5253 ws)
      (λ n h. let i = n - length vs in let k : n ≡ length vs + i = omega arith in let o : 5253 + i ≡ n = omega arith in
      ap (word (vs ++ drop 5253 ws)) k ∙ get_or-append-add vs (drop 5253 ws) i 0 ∙ get_or-drop 5253 ws i 0 ∙ ap (word ws) o)

  -- as the chip: what the data side's function did, beside the lines of L1P as they were
  pub back-chip : (d m e p : List ℕ) → chip_in (vs ++ drop 5253 ws) d m e p ≡ chip (state_in vs d m e) (lines_in ws) p
  back-chip d m e p = λ t. chip (record { rec = back-record t; l1d = d; l2 = m; ext = e }) (back-lines t) p

-- what a search needs where the data side's words are lent and given back
pub ruleset lent = (lent_length, lent-record, back-record, back-lines, length-lines)
