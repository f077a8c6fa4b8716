-- One call of the whole chip (02, U4), in two runs at once, for both sentences: `Runs` is what a sentence says of the
-- data side, already shown of each of its calls, and here the chip's calls are shown to keep it with L1P beside
-- (`ChipPair`): the same lines, and bytes of each valid line that the sentence allows for the address they stand for.
-- Why: which lines are dropped, and whether a fetch hits, goes by the record and L1P's lines; a hit's bytes are its
-- line's, and a miss puts into L1P what the data side gave.
use Prim.Native.Nat.{ℕ, ◌+◌}
use mathlib.Core.Bool.{true, false, cond, ◌||◌}
use mathlib.Core.Path.{◌≡◌, refl, sym, ap, ◌∙◌}
use mathlib.Core.Logic.{inl, inr, ⊎_elim}
use mathlib.Core.List.{List, []}
use native.Mathlib.Omega.{arith}
use lib.ListN.{length, set, replicate, get_or-eq_default}
use lib.Seq.{get_or-set_other}
use lib.Dec.{ltb, eqb}
use borrow.Author.Tests.{eqb-true, eqb-false, ltb-true, ltb-false}
use Rattle.model.specs.Bytes.{stored}
use Rattle.model.specs.Lines.{line_of, empty_line}
use Rattle.model.specs.Records.{State, sram_of, with_record, fresh_record}
use Rattle.model.specs.Access.{cacheable}
use Rattle.model.specs.Ways.{in_l2, l2_way}
use Rattle.model.specs.Reports.{left_by}
use Rattle.model.specs.Refusals.{lowest_due, unless, lent_l2, lent_external, lent_due, block_due, view_lent_due}
use Rattle.model.specs.Trace.{command}
use Rattle.model.specs.Calls.{Reply, refused, handed_back, command_due, step, call, fresh_ok, fresh_call, fetch_due_in, fetch_behind_done, fetch_behind_step, fetch_behind_call, view_done, Call, one_command, fresh_start, look, read_unaligned, write_unaligned, transfer_in, transfer_out, fetch_behind, called}
use Rattle.model.specs.Laws.{bool, cond_both, cond-elim, false-true, length-stored, lowest_due-none}
use Rattle.model.specs.declared.Line.{Line}
use Rattle.model.specs.declared.Command.{Command}
use Rattle.model.specs.declared.Record.{Record}
use Rattle.model.specs.declared.Left.TheVariants.{NoWay}
use Rattle.agreement.proofs.Good.{holds-tells}
use Rattle.agreement.proofs.Fetches.{fetch-tells}
use Rattle.program.specs.L1p.{l1p_set_of, l1p_line, l1p_data, l1p_at, in_l1p, l1p_ok, l1p_length, fresh_l1p, drop_under_way, drop_under_all, drop_under_line, drop_under_block, invalidate_l1p_block}
use Rattle.program.specs.Fetches.{Chip, chip, ChipReply, with_l1p, beside_l1p, fetch_hit, fetch_miss, fetch_done, fetch_step, refused_fetch}
use Rattle.program.specs.Chip.{lines_after, chip_command_due, chip_step, chip_lent_due, chip_view_due, refused_call, behind_checks, chip_fresh, chip_view, fetch_call, l1p_block_call, l1p_all_call, on_data, chip_called}
use Rattle.program.specs.Projected.{data_reply}
use Rattle.program.proofs.L1pLines.{Fewer, fewer-refl, fewer-all, fewer-block, fewer-own-block}
use Rattle.two_runs.specs.TwoRuns.{SameButStored, FitAlike, SameButWritten, same_command, same_start, same_look, same_read, same_write, same_in, same_out, same_fetch}
use Rattle.two_runs.proofs.Areas.{Pairing, Twins, Area, area-part, area-filled, area-elsewhere}
use Rattle.two_runs.proofs.Held.{set_here, all-default}
use Rattle.two_runs.proofs.Pair.{one-record}
use Rattle.two_runs.proofs.Calling.{due-alike}
use Rattle.two_runs.proofs.Behaviour.{lent-due, view-due, fresh_ok_lem}
use Rattle.two_runs.proofs.Looking.{none-due}

-- 32 zero bytes, of a fetch that is refused
pub zero-twins : (P : Pairing) → ((a : ℕ) → P a 0 0) → (a : ℕ) → Twins P a 32 (replicate 32 0) (replicate 32 0)
zero-twins P h a = record { long = refl; long' = refl; byte = λ k _. let e = all-default {A = ℕ} 32 k 0 in rw e (h (a + k)) }

-- ---- what two replies to a fetch that went behind L1P have in common
pub record Fetched (P : Pairing) (Both : State → State → Type 0) (a : ℕ) (r r' : Reply) : Type 0 where
  pub server : r.server ≡ r'.server
  pub report : r.report ≡ r'.report
  pub bytes : Twins P a 32 r.bytes r'.bytes
  pub next : Both r.next r'.next

-- ---- a call that is refused leaves the state, and hands back what does not go by it
abbrev pub back : Call → List ℕ
back (one_command c) = []
back fresh_start = []
back (look a) = []
back (read_unaligned m a) = []
back (write_unaligned m a v) = []
back (transfer_in a bs) = []
back (transfer_out a o) = o
back (fetch_behind a) = replicate 32 0

refused-form : (c : Call) (n : ℕ) (z : State) → refused_call c n z ≡ handed_back n (back c) z
refused-form (one_command c) n z = refl
refused-form fresh_start n z = refl
refused-form (look a) n z = refl
refused-form (read_unaligned m a) n z = refl
refused-form (write_unaligned m a v) n z = refl
refused-form (transfer_in a bs) n z = refl
refused-form (transfer_out a o) n z = refl
refused-form (fetch_behind a) n z = refl

-- ---- a sentence, of the data side
pub record Runs : Type 1 where
  -- which two bytes may stand for an address, which states and which calls the runs are in, what is said of two replies
  pub P : Pairing
  pub Both : State → State → Type 0
  pub Alike : Call → Call → Type 0
  pub Says : Call → Reply → Reply → Type 0
  -- L2 of two runs whose calls were all refused
  pub Lent : List ℕ → List ℕ → Type 0
  pub none : (a : ℕ) → P a 0 0
  pub stored : {z z' : State} → Both z z' → SameButStored z z'
  pub call : {c c' : Call} → Alike c c' → {z z' : State} → Both z z' → Says c (called c z) (called c' z')
  pub refusal : {c c' : Call} → Alike c c' → {z z' : State} → Both z z' → (n : ℕ) → Says c (handed_back n (back c) z) (handed_back n (back c') z')
  pub unstarted : {z z' : State} → Both z z' → Lent z.l2 z'.l2 →
      Says fresh_start (refused 1 (with_record z (fresh_record 32768 128))) (refused 1 (with_record z' (fresh_record 32768 128)))
  pub next : {c : Call} {r r' : Reply} → Says c r r' → Both r.next r'.next
  pub fetched : (a : ℕ) {z z' : State} → Both z z' → Fetched P Both a (called (fetch_behind a) z) (called (fetch_behind a) z')

-- ---- two chips
pub record ChipPair (R : Runs) (x x' : Chip) : Type 0 where
  pub data_side : R.Both x.data_side x'.data_side
  pub lines : x.lines ≡ x'.lines
  pub long : length x.bytes ≡ length x'.bytes
  pub held : (s : ℕ) → (l1p_at x.lines s).valid ≡ true → Area R.P (l1p_at x.lines s).address (l1p_data s) 32 x.bytes x'.bytes
  -- where L1P's length is illegal, so that no call is ever accepted, L2 is as it was lent
  pub lent : eqb (length x.bytes) l1p_length ≡ false → R.Lent x.data_side.l2 x'.data_side.l2

-- what two replies have in common: to a call of the data side; to a fetch, or to L1P's own, whose bytes are as `Q` says
pub record DataBoth (R : Runs) (c : Call) (r r' : ChipReply) : Type 0 where
  pub says : R.Says c (data_reply r) (data_reply r')
  pub left : r.l1p_left ≡ r'.l1p_left
  pub next : ChipPair R r.next r'.next

pub record OwnBoth (R : Runs) (Q : List ℕ → List ℕ → Type 0) (r r' : ChipReply) : Type 0 where
  pub number : r.number ≡ r'.number
  pub server : r.server ≡ r'.server
  pub value : r.value ≡ r'.value
  pub report : r.report ≡ r'.report
  pub left : r.l1p_left ≡ r'.l1p_left
  pub bytes : Q r.bytes r'.bytes
  pub next : ChipPair R r.next r'.next

-- ---- lines that were dropped
abbrev Kept : List Line → List Line → Type 0
Kept ls ls' = (s : ℕ) → (l1p_at ls' s).valid ≡ true → l1p_at ls' s ≡ l1p_at ls s

not-empty {ℓ} : {A : Type ℓ} (l : Line) → l ≡ empty_line → l.valid ≡ true → A
not-empty l e v = false-true (sym (ap (λ (y : Line). y.valid) e) ∙ v)

fewer-kept : {ls ls' : List Line} → Fewer ls ls' → Kept ls ls'
fewer-kept {ls} {ls'} f s v =
    let l = f.long in
    bool (ltb s (length ls))
    (λ t. ⊎_elim (λ e. e) (λ e. not-empty (l1p_at ls' s) e v) (f.line s (ltb-true s (length ls) t)))
    (λ t. let g = ltb-false s (length ls) t in not-empty (l1p_at ls' s) (get_or-eq_default ls' empty_line {n = s} (omega arith)) v)

fresh_kept : (ls : List Line) → Kept ls fresh_l1p
fresh_kept ls s v = not-empty (l1p_at fresh_l1p s) (all-default 512 s empty_line) v

after_kept : (c : Command) (z : State) (ls : List Line) → Kept ls (lines_after c z ls)
unfolding lines_after
after_kept c z ls =
    cond-elim (Kept ls) (eqb c.code 3) (drop_under_all z ls) _ (λ _. fewer-kept (fewer-all z ls))
    (λ _. cond-elim (Kept ls) (eqb c.code 5 || eqb c.code 6) (drop_under_block z c.first c.second ls) _ (λ _. fewer-kept (fewer-block z c.first c.second ls))
    (λ _. cond-elim (Kept ls) (eqb c.code 10) fresh_l1p ls (λ _. fresh_kept ls) (λ _. fewer-kept (fewer-refl ls))))

-- which are dropped goes by the record
lines_same : (k a b v v' : ℕ) (z z' : State) → z.rec ≡ z'.rec → (ls : List Line) →
    lines_after (command k a b v) z ls ≡ lines_after (command k a b v') z' ls
unfolding lines_after drop_under_all drop_under_way drop_under_block drop_under_line in_l2 l2_way
lines_same k a b v v' z z' e ls =
    one-record (λ _ _. Unit {0}) (λ u w. u ≡ w) (λ y. lines_after (command k a b v) y ls) (λ y. lines_after (command k a b v') y ls) z (λ _ _ _ _. refl) z' e tt

-- ---- the number due for a command
command-due : (k a b v v' : ℕ) → (k ≡ 1 → FitAlike a v v') → (z z' : State) → z.rec ≡ z'.rec → command_due (command k a b v) z ≡ command_due (command k a b v') z'
unfolding command_due
command-due k a b v v' f z z' e =
    rw e (bool (eqb k 1) (λ t. rw (due-alike (sram_of z'.rec) z'.rec.extlen a b v v' (f (eqb-true k 1 t))) refl) (λ t. rw t refl))

module _ (R : Runs) (x x' : Chip) (h : ChipPair R x x') where
  abbrev z : State
  z = x.data_side

  abbrev z' : State
  z' = x'.data_side

  same : SameButStored z z'
  same = R.stored h.data_side

  chip-due : chip_lent_due x ≡ chip_lent_due x'
  unfolding chip_lent_due
  chip-due = rw (h.long, h.lines, lent-due z z' same, same.rec) refl

  -- checks 1 and 2 pass
  record Passed : Type 0 where
    long : eqb (length x.bytes) l1p_length ≡ true
    due : lent_due z ≡ 0

  passed : eqb (chip_lent_due x) 0 ≡ true → Passed
  unfolding chip_lent_due
  passed t =
      let p = lowest_due-none (eqb (length x.bytes) l1p_length) 0 _ (eqb-true (chip_lent_due x) 0 t) in
      record { long = p.0; due = (none-due (lent_due z) (unless (l1p_ok z.rec x.lines) 2) p.1).0 }

  -- ---- L1P as it was, or with fewer lines, and other states beside it
  kept_pair : {y y' : State} → R.Both y y' → (ls ls' : List Line) → ls ≡ ls' → Kept x.lines ls → (eqb (length x.bytes) l1p_length ≡ false → R.Lent y.l2 y'.l2) →
      ChipPair R (chip y ls x.bytes) (chip y' ls' x'.bytes)
  kept_pair b ls ls' e k l =
      record { data_side = b; lines = e; long = h.long; held = λ s v. let g = k s v in rw g (h.held s (rw g at v)); lent = l }

  beside : (c : Call) (r r' : Reply) → R.Says c r r' → (eqb (length x.bytes) l1p_length ≡ false → R.Lent r.next.l2 r'.next.l2) →
      DataBoth R c (beside_l1p r x) (beside_l1p r' x')
  beside c r r' s l = record { says = s; left = refl; next = kept_pair (R.next s) x.lines x'.lines h.lines (λ _ _. refl) l }

  never {ℓ} : {A : Type ℓ} → Passed → eqb (length x.bytes) l1p_length ≡ false → A
  never p u = false-true (sym u ∙ p.long)

  refuses : (c c' : Call) → R.Alike c c' → (n : ℕ) → DataBoth R c (beside_l1p (refused_call c n z) x) (beside_l1p (refused_call c' n z') x')
  refuses c c' k n =
      rw (refused-form c n z, refused-form c' n z') (beside c (handed_back n (back c) z) (handed_back n (back c') z') (R.refusal k h.data_side n) h.lent)

  behind : (c c' : Call) → R.Alike c c' → DataBoth R c (behind_checks c x) (behind_checks c' x')
  unfolding behind_checks
  behind c c' k =
      let n = chip_lent_due x in
      rw (← chip-due) (cond_both (DataBoth R c) (eqb n 0) (beside_l1p (called c z) x) (beside_l1p (refused_call c n z) x) (beside_l1p (called c' z') x') (beside_l1p (refused_call c' n z') x')
      (λ t. beside c (called c z) (called c' z') (R.call k h.data_side) (never (passed t))) (λ _. refuses c c' k n))

  -- ---- a command
  module _ (k a b v v' : ℕ) (f : k ≡ 1 → FitAlike a v v') (al : R.Alike (one_command (command k a b v)) (one_command (command k a b v'))) where
    abbrev c₁ : Command
    c₁ = command k a b v

    abbrev c₂ : Command
    c₂ = command k a b v'

    chip-command-due : chip_command_due c₁ x ≡ chip_command_due c₂ x'
    unfolding chip_command_due
    chip-command-due = rw (command-due k a b v v' f z z' same.rec, h.lines) refl

    step-says : Passed → R.Says (one_command c₁) (step c₁ z) (step c₂ z')
    unfolding call
    step-says p = let d = p.due in let d' : lent_due z' ≡ 0 = sym (lent-due z z' same) ∙ d in rw (d, d') at (R.call al h.data_side)

    stepped : Passed → DataBoth R (one_command c₁) (chip_step c₁ x) (chip_step c₂ x')
    unfolding chip_step
    stepped p =
        let n = chip_command_due c₁ x in let ls = lines_after c₁ z x.lines in let ls' = lines_after c₂ z' x'.lines in let s = step-says p in
        let e : ls ≡ ls' = lines_same k a b v v' z z' same.rec x.lines ∙ ap (lines_after c₂ z') h.lines in
        rw (← chip-command-due) (cond_both (DataBoth R (one_command c₁)) (eqb n 0) (with_l1p NoWay ls x.bytes (step c₁ z)) (beside_l1p (refused n z) x)
        (with_l1p NoWay ls' x'.bytes (step c₂ z')) (beside_l1p (refused n z') x')
        (λ _. record { says = s; left = refl; next = kept_pair (R.next s) ls ls' e (after_kept c₁ z x.lines) (never p) })
        (λ _. refuses (one_command c₁) (one_command c₂) al n))

    command-both : DataBoth R (one_command c₁) (chip_called (on_data (one_command c₁)) x) (chip_called (on_data (one_command c₂)) x')
    command-both =
        let n = chip_lent_due x in
        rw (← chip-due) (cond_both (DataBoth R (one_command c₁)) (eqb n 0) (chip_step c₁ x) (beside_l1p (refused n z) x) (chip_step c₂ x') (beside_l1p (refused n z') x')
        (λ t. stepped (passed t)) (λ _. refuses (one_command c₁) (one_command c₂) al n))

  -- ---- a fresh start: L1P empty, and zero or as it was lent
  fresh-says : R.Alike fresh_start fresh_start → fresh_ok z.l1d z.l2 z.ext ≡ false →
      R.Says fresh_start (refused 1 (with_record z (fresh_record 32768 128))) (refused 1 (with_record z' (fresh_record 32768 128)))
  unfolding fresh_call
  fresh-says k u = let u' = sym (fresh_ok_lem z z' same) ∙ u in rw (u, u') at (R.call k h.data_side)

  unstarted-chip : R.Says fresh_start (refused 1 (with_record z (fresh_record 32768 128))) (refused 1 (with_record z' (fresh_record 32768 128))) →
      DataBoth R fresh_start (with_l1p NoWay fresh_l1p x.bytes (refused 1 (with_record z (fresh_record 32768 128)))) (with_l1p NoWay fresh_l1p x'.bytes (refused 1 (with_record z' (fresh_record 32768 128))))
  unstarted-chip s = record { says = s; left = refl; next = kept_pair (R.next s) fresh_l1p fresh_l1p refl (fresh_kept x.lines) h.lent }

  started-chip : R.Alike fresh_start fresh_start →
      DataBoth R fresh_start (with_l1p NoWay fresh_l1p (replicate l1p_length 0) (called fresh_start z)) (with_l1p NoWay fresh_l1p (replicate l1p_length 0) (called fresh_start z'))
  started-chip k =
      let s = R.call k h.data_side in
      record {
        says = s;
        left = refl;
        next = record {
          data_side = R.next s;
          lines = refl;
          long = refl;
          held = λ s v. not-empty (l1p_at fresh_l1p s) (all-default 512 s empty_line) v;
          lent = λ u. false-true (sym u ∙ refl);
        };
      }

  fresh-both : R.Alike fresh_start fresh_start → DataBoth R fresh_start (chip_fresh x) (chip_fresh x')
  unfolding chip_fresh
  fresh-both k =
      let l = eqb (length x.bytes) l1p_length in let o = fresh_ok z.l1d z.l2 z.ext in
      rw (← h.long, ← (fresh_ok_lem z z' same))
      (bool l (λ t. rw t (bool o (λ u. rw u (started-chip k)) (λ u. rw u (unstarted-chip (fresh-says k u)))))
      (λ t. rw t (unstarted-chip (R.unstarted h.data_side (h.lent t)))))

  -- ---- a view
  chip-view-due : (a : ℕ) → chip_view_due a x ≡ chip_view_due a x'
  unfolding chip_view_due view_lent_due lent_l2 lent_external
  chip-view-due a = rw (h.lines, view-due z z' same a, same.rec, same.l2, same.ext) refl

  look-both : (a : ℕ) → R.Alike (look a) (look a) → DataBoth R (look a) (chip_view a x) (chip_view a x')
  unfolding chip_view view_done
  look-both a k =
      let n = chip_view_due a x in
      rw (← (chip-view-due a)) (cond_both (DataBoth R (look a)) (eqb n 0) (beside_l1p (called (look a) z) x) (beside_l1p (refused n z) x) (beside_l1p (called (look a) z') x') (beside_l1p (refused n z') x')
      (λ _. beside (look a) (called (look a) z) (called (look a) z') (R.call k h.data_side) h.lent) (λ _. refuses (look a) (look a) k n))

  -- ---- each call of the data side
  pub data-both : (c c' : Call) → SameButWritten c c' → R.Alike c c' → DataBoth R c (chip_called (on_data c) x) (chip_called (on_data c') x')
  data-both c c' (same_command {k} {a} {b} {v} {v'} f) al = command-both k a b v v' f al
  data-both c c' same_start al = fresh-both al
  data-both c c' (same_look {a = y}) al = look-both y al
  data-both c c' (same_read {n = m} {a = y}) al = behind (read_unaligned m y) (read_unaligned m y) al
  data-both c c' (same_write {n = m} {a = y} {v = u} {v' = u'} f) al = behind (write_unaligned m y u) (write_unaligned m y u') al
  data-both c c' (same_in {a = y} {bs = cs} {bs' = cs'} e) al = behind (transfer_in y cs) (transfer_in y cs') al
  data-both c c' (same_out {a = y} {o = u} {o' = u'} e) al = behind (transfer_out y u) (transfer_out y u') al
  data-both c c' (same_fetch {a = y}) al = behind (fetch_behind y) (fetch_behind y) al

  -- ---- a fetch
  module _ (a : ℕ) where
    abbrev Lines : List ℕ → List ℕ → Type 0
    Lines bs bs' = Twins R.P a 32 bs bs'

    no-fetch : (n : ℕ) → OwnBoth R Lines (refused_fetch n x) (refused_fetch n x')
    no-fetch n =
        record {
          number = refl;
          server = refl;
          value = refl;
          report = refl;
          left = refl;
          bytes = zero-twins R.P R.none a;
          next = h;
        }

    behind-done : Passed → fetch_due_in z a ≡ 0 → Fetched R.P R.Both a (fetch_behind_done a z) (fetch_behind_done a z')
    unfolding fetch_behind_call fetch_behind_step
    behind-done p d =
        let l = p.due in let l' : lent_due z' ≡ 0 = sym (lent-due z z' same) ∙ l in
        let d' : fetch_due_in z' a ≡ 0 = (let e = same.rec in rw (← e) d) in
        rw (l, l', d, d') at (R.fetched a h.data_side)

    past : Passed → fetch_due_in z a ≡ 0 → OwnBoth R Lines (beside_l1p (fetch_behind_done a z) x) (beside_l1p (fetch_behind_done a z') x')
    unfolding fetch_behind_done
    past p d =
        let f = behind-done p d in
        record {
          number = refl;
          server = f.server;
          value = refl;
          report = f.report;
          left = refl;
          bytes = f.bytes;
          next = kept_pair f.next x.lines x'.lines h.lines (λ _ _. refl) (never p);
        }

    hit : Passed → fetch_due_in z a ≡ 0 → in_l1p x.lines a ≡ true → OwnBoth R Lines (fetch_hit a x) (fetch_hit a x')
    unfolding fetch_hit in_l1p
    hit p d y =
        let s = l1p_set_of a in let q = holds-tells (l1p_at x.lines s) (l1p_line a) y in
        let al = (fetch-tells (sram_of z.rec) z.rec.extlen a d).aligned in
        let e = q.1 in let n = eqb-true (length x.bytes) l1p_length p.long in
        record {
          number = refl;
          server = refl;
          value = refl;
          report = refl;
          left = refl;
          bytes = area-part (h.held s q.0) (sym h.long) (omega arith) 0 (omega arith) (omega arith) (omega arith);
          next = h;
        }

    -- the line that comes, and its bytes
    filled : Passed → (bs bs' : List ℕ) → Lines bs bs' → (s : ℕ) → (l1p_at (set x.lines (l1p_set_of a) (line_of a false)) s).valid ≡ true →
        Area R.P (l1p_at (set x.lines (l1p_set_of a) (line_of a false)) s).address (l1p_data s) 32 (stored x.bytes (l1p_data (l1p_set_of a)) bs) (stored x'.bytes (l1p_data (l1p_set_of a)) bs')
    filled p bs bs' t s v =
        let j = l1p_set_of a in let ls = set x.lines j (line_of a false) in let n = eqb-true (length x.bytes) l1p_length p.long in
        let m = stored x.bytes (l1p_data j) bs in let m' = stored x'.bytes (l1p_data j) bs' in
        bool (eqb s j)
        (λ y. let e = eqb-true s j y in
        let g : l1p_at ls s ≡ line_of a false = ⊎_elim (λ g. ap (l1p_at ls) e ∙ g) (λ g. not-empty (l1p_at ls s) (ap (l1p_at ls) e ∙ g) v) (set_here x.lines j (line_of a false) empty_line) in
        rw (g, e) (area-filled x.bytes x'.bytes (sym h.long) (omega arith) t))
        (λ y. let u = eqb-false s j y in let g = get_or-set_other x.lines j s (line_of a false) empty_line u in
        rw g (area-elsewhere (h.held s (rw g at v)) (sym h.long) t (omega arith)
        (bool (ltb s j) (λ w. let w' = ltb-true s j w in inr (omega arith)) (λ w. let w' = ltb-false s j w in inl (omega arith)))))

    miss : Passed → fetch_due_in z a ≡ 0 → OwnBoth R Lines (fetch_miss a x) (fetch_miss a x')
    unfolding fetch_miss fetch_behind_done
    miss p d =
        let f = behind-done p d in let j = l1p_set_of a in let bs = (fetch_behind_done a z).bytes in let bs' = (fetch_behind_done a z').bytes in
        let l = length-stored x.bytes bs (l1p_data j) in let l' = length-stored x'.bytes bs' (l1p_data j) in
        record {
          number = refl;
          server = f.server;
          value = refl;
          report = f.report;
          left = ap (λ (ls : List Line). left_by (l1p_at ls j)) h.lines;
          bytes = f.bytes;
          next = record {
            data_side = f.next;
            lines = ap (λ (ls : List Line). set ls j (line_of a false)) h.lines;
            long = l ∙ h.long ∙ sym l';
            held = filled p bs bs' f.bytes;
            lent = λ u. never p (ap (λ (n : ℕ). eqb n l1p_length) (sym l) ∙ u);
          };
        }

    done : Passed → fetch_due_in z a ≡ 0 → OwnBoth R Lines (fetch_done a x) (fetch_done a x')
    unfolding fetch_done
    done p d =
        let e = ap (λ (r : Record). cacheable r a) same.rec in let i = ap (λ (ls : List Line). in_l1p ls a) h.lines in
        rw (← e, ← i)
        (cond_both (OwnBoth R Lines) (cacheable z.rec a) (cond (in_l1p x.lines a) (fetch_hit a x) (fetch_miss a x)) (beside_l1p (fetch_behind_done a z) x)
        (cond (in_l1p x.lines a) (fetch_hit a x') (fetch_miss a x')) (beside_l1p (fetch_behind_done a z') x')
        (λ _. cond_both (OwnBoth R Lines) (in_l1p x.lines a) (fetch_hit a x) (fetch_miss a x) (fetch_hit a x') (fetch_miss a x') (hit p d) (λ _. miss p d))
        (λ _. past p d))

    pub fetch-both : OwnBoth R Lines (fetch_call a x) (fetch_call a x')
    unfolding fetch_call fetch_step
    fetch-both =
        let n = chip_lent_due x in let d = fetch_due_in z a in let e : fetch_due_in z' a ≡ d = (let g = same.rec in rw g refl) in
        rw (← chip-due, e) (cond_both (OwnBoth R Lines) (eqb n 0) (cond (eqb d 0) (fetch_done a x) (refused_fetch d x)) (refused_fetch n x) (cond (eqb d 0) (fetch_done a x') (refused_fetch d x')) (refused_fetch n x')
        (λ t. cond_both (OwnBoth R Lines) (eqb d 0) (fetch_done a x) (refused_fetch d x) (fetch_done a x') (refused_fetch d x') (λ u. done (passed t) (eqb-true d 0 u)) (λ _. no-fetch d))
        (λ _. no-fetch n))

  -- ---- L1P's own invalidations
  abbrev Equal : List ℕ → List ℕ → Type 0
  Equal bs bs' = bs ≡ bs'

  own : (n : ℕ) (ls ls' : List Line) → ls ≡ ls' → Kept x.lines ls → OwnBoth R Equal (with_l1p NoWay ls x.bytes (refused n z)) (with_l1p NoWay ls' x'.bytes (refused n z'))
  own n ls ls' e k =
      record { number = refl; server = refl; value = refl; report = refl; left = refl; bytes = refl; next = kept_pair h.data_side ls ls' e k h.lent }

  pub block-both : (b c : ℕ) → OwnBoth R Equal (l1p_block_call b c x) (l1p_block_call b c x')
  unfolding l1p_block_call
  block-both b c =
      let n = lowest_due (chip_lent_due x) (block_due b c) in
      rw (← chip-due) (cond_both (OwnBoth R Equal) (eqb n 0) _ _ _ _
      (λ _. own 0 (invalidate_l1p_block b c x.lines) (invalidate_l1p_block b c x'.lines) (ap (invalidate_l1p_block b c) h.lines) (fewer-kept (fewer-own-block b c x.lines)))
      (λ _. own n x.lines x'.lines h.lines (λ _ _. refl)))

  pub all_both : OwnBoth R Equal (l1p_all_call x) (l1p_all_call x')
  unfolding l1p_all_call
  all_both =
      let n = chip_lent_due x in
      rw (← chip-due) (cond_both (OwnBoth R Equal) (eqb n 0) _ _ _ _ (λ _. own 0 fresh_l1p fresh_l1p refl (fresh_kept x.lines)) (λ _. own n x.lines x'.lines h.lines (λ _ _. refl)))
