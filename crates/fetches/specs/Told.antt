-- What a fetch answers, in the model's terms, over plain records and lists. The line's bytes come in an array, which
-- has no other length: behind checks 1 and 2 an accepted fetch has all of them (`whole-line`).
use Rattle.std.specs.Prelude.{ℕ, zero, suc, ◌+◌, true, false, ◌≡◌, refl, List, ◌++◌, length, set, take, drop, replicate, eqb}
use Rattle.std.proofs.Common.{Some, Err, sym, ◌∙◌, arith, eqb-true}
use Rattle.std.proofs.lemmas.List.{length-replicate}
use Rattle.std.proofs.lemmas.Bool.Decides.{nat_tests}
use Rattle.kinds.specs.Numbers.{refusal_number, refusal_some}
use Rattle.kinds.specs.declared.Refusal.{Refusal}
use Rattle.model.specs.Bytes.{stored}
use Rattle.model.specs.Lines.{line_of}
use Rattle.model.specs.Records.{State}
use Rattle.model.specs.Homes.{l2_way_for, fetch_l2}
use Rattle.model.specs.Access.{cacheable, home_part, read_frozen}
use Rattle.model.specs.Reports.{left_by}
use Rattle.model.specs.Refusals.{lowest_due, unless, lent_due}
use Rattle.model.specs.Fetches.{fetch_access, fetch_report}
use Rattle.model.specs.Calls.{fetch_due_in, fetch_behind_done}
use Rattle.model.specs.Laws.{lowest_due-none}
use Rattle.model.proofs.Erased.{frozen-read, frozen-written}
use Rattle.model.specs.declared.Left.{Left}
use Rattle.model.specs.declared.Left.TheVariants.{NoWay}
use Rattle.model.specs.declared.Line.{Line}
use Rattle.agreement.proofs.Good.{Anything}
use Rattle.agreement.proofs.Tested.{due-well}
use Rattle.agreement.proofs.Fetches.{fetch-good}
use Rattle.program.specs.L1p.{l1p_set_of, l1p_data, l1p_at, l1p_length, l1p_ok}
use Rattle.program.specs.Fetches.{Chip, chip, with_l1p, fetch_miss, fetch_done, fetch_step}
use Rattle.program.specs.Chip.{chip_lent_due}
use Rattle.memory.specs.Copied.{stored-whole}
use Rattle.tags.specs.Words.{record_words, record_in, state_in, shaped}
use Rattle.l1p_tags.specs.Lines.{lines_in, chip_in, lent_length, lent-record, back-record, back-lines}
use Rattle.l2_fetch.specs.declared.Fetched.{Fetched as Home}
use Rattle.l2_fetch.specs.Fetched.{homed, way_in, Found, Serves, Tells, HomeMoved}
use Rattle.l2_fetch.specs.Fetching.{any_part}
use Rattle.access.specs.Answered.{plain_answer}
use Rattle.fetches.specs.declared.Fetched.{Fetched}
use Rattle.fetches.specs.Fetched.{fetched_one, fetched_as, in_line, WholeLine}

-- ---- the bytes
pub line-whole : (bs : List ℕ) → length bs ≡ 32 → in_line bs ≡ bs
line-whole bs l = stored-whole (replicate 32 0) bs (l ∙ sym (length-replicate {A = ℕ} 32 0))

lowest-first : (n k : ℕ) → lowest_due n k ≡ 0 → n ≡ 0
lowest-first zero k e = refl
lowest-first (suc n) k e = e

-- checks 1 and 2 find nothing: L1P's buffer has its length, and the line is there
module _ (ws d m e p : List ℕ) (h : chip_lent_due (chip_in ws d m e p) ≡ 0) where
  abbrev behind-lent : ℕ
  behind-lent = lowest_due (lent_due (state_in ws d m e)) (unless (l1p_ok (record_in ws) (lines_in ws)) 2)

  checked : (eqb (length p) l1p_length ≡ true) × (behind-lent ≡ 0)
  unfolding chip_lent_due
  checked = lowest_due-none (eqb (length p) l1p_length) 0 behind-lent h

  pub l1p-long : length p ≡ l1p_length
  l1p-long = eqb-true (length p) l1p_length checked.0

  pub whole-line : (a : ℕ) → fetch_due_in (state_in ws d m e) a ≡ 0 → WholeLine a (state_in ws d m e)
  whole-line a o =
      let z = state_in ws d m e in
      let n = lowest-first (lent_due z) (unless (l1p_ok (record_in ws) (lines_in ws)) 2) checked.1 in
      (fetch-good z Anything (due-well z (shaped ws) n) a o).long

-- ---- what lies behind L1P gives the line: L2 has served (y), and k bytes of the home are external memory's
pub behind-told : (a : ℕ) (z y : State) (h : Home) (k : ℕ) (t : List ℕ) → cacheable z.rec a ≡ true → WholeLine a z →
    Serves h a z → Tells h a z → y ≡ fetch_l2 a z → Found h a y.rec → HomeMoved k a a 32 y →
    t ≡ in_line (home_part (way_in h) a a 32 y) → (ls : List Line) (bs : List ℕ) →
    fetched_one
    (record {
      answer = record (plain_answer (Some h.server) 0) { l2_left = h.left; read = h.read + k; written = h.written };
      l1p_left = NoWay;
      bytes = t;
    }) (chip y ls bs)
    ≡ with_l1p NoWay ls bs (fetch_behind_done a z)
unfolding fetch_behind_done fetch_access fetch_report read_frozen
behind-told a z y h k t c w s u e g m et ls bs =
    let p = any_part y (homed h) (way_in h) (l2_way_for z a) a 32 g.0 s.1.0 in
    let home = home_part (l2_way_for z a) a a 32 (fetch_l2 a z) in
    let long : length home ≡ 32 = rw c at w in
    let whole = line-whole home long in
    grind (arith, frozen-read 32 a z, frozen-written 32 a z)

-- ---- a miss: the data side left vs in front, and then the line came to its set
pub miss-told : (a s : ℕ) (ws vs us d m e m' e' p p' : List ℕ) (x : Fetched) (l : Left) → length vs ≡ record_words →
    s ≡ l1p_set_of a →
    ((ls : List Line) (bs : List ℕ) → fetched_one x (chip (state_in vs d m' e') ls bs)
    ≡ with_l1p NoWay ls bs (fetch_behind_done a (state_in (take 5253 ws) d m e))) →
    l ≡ left_by (l1p_at (lines_in (vs ++ drop 5253 ws)) s) →
    lines_in us ≡ set (lines_in (vs ++ drop 5253 ws)) s (line_of a false) →
    record_in us ≡ record_in (vs ++ drop 5253 ws) → p' ≡ stored p (l1p_data s) x.bytes →
    fetched_one (record { answer = x.answer; l1p_left = l; bytes = x.bytes }) (chip_in us d m' e' p')
    ≡ fetch_miss a (chip_in ws d m e p)
unfolding fetch_miss
miss-told a s ws vs us d m e m' e' p p' x l n es q el eu er ep =
    let o = back-lines ws vs n in let b = back-record ws vs n in let r = lent-record ws in
    let f = q (lines_in ws) p in
    grind arith

-- ---- the whole
-- the data side's words are lent as a part, whose record is that of all words
pub ruleset lent_words = (lent_length, lent-record)

module _ (a : ℕ) (k : Chip) where
  pub step-refused : (e : Refusal) → refusal_number e ≡ fetch_due_in k.data_side a →
      fetched_as (Err e) k ≡ fetch_step a k
  unfolding fetch_step
  step-refused e h = let p = refusal_some e in grind (arith, nat_tests)

  pub step-accepted : 0 ≡ fetch_due_in k.data_side a → fetch_done a k ≡ fetch_step a k
  unfolding fetch_step
  step-accepted h = rw (← h) refl
