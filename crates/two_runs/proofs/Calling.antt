-- One command, in two runs at once. Shown: where checks 1 and 2 find nothing, two states of one record are a `Pair`
-- (`start-pair`); a command on such states gives the same number, server and report, bytes that stand for the same addresses,
-- and a `Pair` again (`step_both`). Why: checks 3 to 10 go by the record and the call's numbers; of a value they ask
-- only whether it fits.
use Prim.Native.Nat.{ℕ, zero, suc, ◌+◌, ◌%◌, ◌≤◌, ◌<◌}
use mathlib.Core.Bool.{Bool, true, cond, ◌&&◌}
use mathlib.Core.Path.{◌≡◌, refl, sym, ap, ◌∙◌}
use mathlib.Core.Logic.{◌⊎◌, inl, inr, ⊎_elim}
use mathlib.Core.List.{List, [], ◌∷◌}
use native.Mathlib.Omega.{arith}
use lib.ListN.{length, get_or}
use lib.Dec.{leb, eqb}
use borrow.Author.Tests.{ltb-true, leb-true, eqb-true, lt-ltb, le-ltb}
use Rattle.model.specs.Basics.{all_indexed}
use Rattle.model.specs.Bytes.{little, little_bytes}
use Rattle.model.specs.Memories.{external_base, l1d_length, legal_l2, legal_external, cache_size, is_mode}
use Rattle.model.specs.Lines.{l1d_set_of, l1d_data, empty_line}
use Rattle.model.specs.Records.{State, sram_of, l2_sets_of, l2_set_of, l2_data, l1d_line_at, l2_line_at, legal_sizes, none_twice, permuted2, permuted4, fresh_unless_used, in_use, in_sram, in_cacheable, mar_bit, own_l1d_set, own_l2_set, l1d_region, l2_region, covered_by_l2, l1d_place, l2_place, l1d_line_ok, l2_line_ok, l1d_set_ok, l2_set_ok, counts_ok, well_formed}
use Rattle.model.specs.Refusals.{unless, lent_l1d, lent_l2, lent_external, lent_due, size_ok, value_ok, access_due, block_due, mode_due, mar_due, freeze_due}
use Rattle.model.specs.Trace.{command}
use Rattle.model.specs.Modes.{change_mode, change_mar, change_freeze}
use Rattle.model.specs.Commands.{l2_writeback_all, l2_writeback_invalidate_all, l2_writeback_block, l2_writeback_invalidate_block, l2_invalidate_block, l1d_writeback_invalidate_block, l1d_invalidate_block, l1d_invalidate_all}
use Rattle.model.specs.Access.{read_access}
use Rattle.model.specs.Calls.{Reply, refused, carried_out, command_due, read_done, write_done, command_state, accepted, step}
use Rattle.model.specs.Laws.{bool, false-true, both_true, lowest_due-none, unless-none, cond_both}
use Rattle.model.specs.declared.Line.{Line}
use Rattle.model.specs.declared.Record.{Record}
use Rattle.agreement.proofs.Tables.{Store, l1d_store, l2_store, set_in, line_in}
use Rattle.agreement.proofs.Good.{cache-whole}
use Rattle.agreement.proofs.Due.{access-tells, mode-tells}
use Rattle.agreement.proofs.Steps.{codes, other-code}
use Rattle.agreement.proofs.Tested.{legal_l2-tells, legal_external-tells}
use Rattle.two_runs.proofs.Areas.{Pairing, Twins, no-twins, Area}
use Rattle.two_runs.proofs.Pair.{Layout, layout_of, L1dOk, L2Ok, Pair, pair-stored, Keeps, twin}
use Rattle.two_runs.proofs.Serving.{Fits, read-both, write-both}
use Rattle.two_runs.proofs.Reporting.{read-report, write-report}
use Rattle.two_runs.proofs.Sweeping.{in_mode, code-2, code-3, code-4, code-5, code-6, code-7, code-8, code-9, code-10, code-11, code-12}

-- ---- a test over a list tells of each element, or there is none at that index
tested {ℓ} : {A : Type ℓ} (f : ℕ → A → Bool) (d : A) (xs : List A) (i : ℕ) → all_indexed f i xs ≡ true → (j : ℕ) →
    (f (i + j) (get_or xs j d) ≡ true) ⊎ (get_or xs j d ≡ d)
unfolding all_indexed
tested f d [] i h j = inr refl
tested f d (x ∷ xs) i h zero = let e : i + 0 ≡ i = omega arith in inl (rw e (both_true (f i x) (all_indexed f (suc i) xs) h).0)
tested f d (x ∷ xs) i h (suc j) =
    let e : i + suc j ≡ suc i + j = omega arith in rw e (tested f d xs (suc i) (both_true (f i x) (all_indexed f (suc i) xs) h).1 j)

-- so of each valid line of a table of sets
table-tested : (k : Store) (xs : List k.OneSet) (set_ok : ℕ → k.OneSet → Bool) (line_ok : ℕ → Line → Bool) →
    ((s : ℕ) (v : k.OneSet) → set_ok s v ≡ true → all_indexed (λ _ x. line_ok s x) 0 (k.lines v) ≡ true) → all_indexed set_ok 0 xs ≡ true →
    (s w : ℕ) → (line_in k xs s w).valid ≡ true → line_ok s (line_in k xs s w) ≡ true
table-tested k xs set_ok line_ok f h s w v =
    let j : 0 + s ≡ s = omega arith in
    ⊎_elim
    (λ e. ⊎_elim (λ g. g) (λ g. false-true (sym (ap (λ (l : Line). l.valid) g) ∙ v))
    (tested (λ _ x. line_ok s x) empty_line (k.lines (set_in k xs s)) 0 (f s (set_in k xs s) (rw j at e)) w))
    (λ e. let g = ap (λ (y : k.OneSet). get_or (k.lines y) w empty_line) e ∙ ap (λ (l : List Line). get_or l w empty_line) k.none-lines in
    false-true (sym (ap (λ (l : Line). l.valid) g) ∙ v))
    (tested set_ok k.none xs 0 h s)

-- ---- where a valid line of a well-formed record stands
l1d-ok : (r : Record) (s w a : ℕ) → l1d_place r s a ≡ true → L1dOk (layout_of r) s w a
unfolding l1d_place own_l1d_set l1d_region in_sram in_cacheable
l1d-ok r s w a h =
    let p = both_true (own_l1d_set s a) (l1d_region r a && covered_by_l2 r a) h in
    let o = both_true (eqb (a % 64) 0) (eqb s (l1d_set_of a)) p.0 in
    let g = (both_true (l1d_region r a) (covered_by_l2 r a) p.1).0 in
    let e = eqb-true s (l1d_set_of a) o.1 in
    record {
      set = omega arith;
      aligned = eqb-true (a % 64) 0 o.0;
      low = λ k. leb-true (a + 64) (sram_of r) (rw (lt-ltb a external_base k) at g);
      high = λ k. leb-true (a + 64) (external_base + r.extlen)
          (both_true (leb (a + 64) (external_base + r.extlen)) (mar_bit r a) (rw (le-ltb a external_base k) at g)).0;
    }

l2-ok : (r : Record) (t v a : ℕ) → l2_place r t a ≡ true → L2Ok (layout_of r) t v a
unfolding l2_place own_l2_set l2_region in_cacheable
l2-ok r t v a h =
    let p = both_true (own_l2_set r t a) (in_use r t && l2_region r a) h in
    let o = both_true (eqb (a % 128) 0) (eqb t (l2_set_of r a)) p.0 in
    let g = both_true (in_use r t) (l2_region r a) p.1 in
    let x = both_true (leb external_base a) (leb (a + 128) (external_base + r.extlen) && mar_bit r a) g.1 in
    record {
      set = ltb-true t (l2_sets_of r) g.0;
      aligned = eqb-true (a % 128) 0 o.0;
      low = leb-true external_base a x.0;
      high = leb-true (a + 128) (external_base + r.extlen) (both_true (leb (a + 128) (external_base + r.extlen)) (mar_bit r a) x.1).0;
    }

l1d-placed : (r : Record) → all_indexed (l1d_set_ok r) 0 r.l1d ≡ true → (s w : ℕ) → (l1d_line_at r s w).valid ≡ true →
    L1dOk (layout_of r) s w (l1d_line_at r s w).address
unfolding l1d_set_ok l1d_line_ok
l1d-placed r h s w k =
    l1d-ok r s w (l1d_line_at r s w).address
    (rw k at (table-tested l1d_store r.l1d (l1d_set_ok r) (l1d_line_ok r)
    (λ s' v y. (both_true (all_indexed (λ _ x. l1d_line_ok r s' x) 0 v.lines) (none_twice v.lines && permuted2 v.order) y).0) h s w k))

l2-placed : (r : Record) → all_indexed (l2_set_ok r) 0 r.l2 ≡ true → (t v : ℕ) → (l2_line_at r t v).valid ≡ true →
    L2Ok (layout_of r) t v (l2_line_at r t v).address
unfolding l2_set_ok l2_line_ok
l2-placed r h t v k =
    l2-ok r t v (l2_line_at r t v).address
    (rw k at (table-tested l2_store r.l2 (l2_set_ok r) (l2_line_ok r)
    (λ t' x y. (both_true (all_indexed (λ _ l. l2_line_ok r t' l) 0 x.lines) (none_twice x.lines && (permuted4 x.order && fresh_unless_used r t' x.order)) y).0)
    h t v k))

-- ---- checks 1 and 2 find nothing: lengths, sizes and lines
module _ (P : Pairing) (z z' : State) (same : z.rec ≡ z'.rec) (l₁ : length z.l1d ≡ length z'.l1d) (l₂ : length z.l2 ≡ length z'.l2)
    (l₃ : length z.ext ≡ length z'.ext) (due : lent_due z ≡ 0)
    (l1d : (s w : ℕ) → (l1d_line_at z.rec s w).valid ≡ true → Area P (l1d_line_at z.rec s w).address (l1d_data s w) 64 z.l1d z'.l1d)
    (l2 : (t v : ℕ) → (l2_line_at z.rec t v).valid ≡ true → Area P (l2_line_at z.rec t v).address (l2_data z.rec t v) 128 z.l2 z'.l2)
    (sram : Area P 0 0 (sram_of z.rec) z.l2 z'.l2) (ext : Area P external_base 0 z.rec.extlen z.ext z'.ext) where
  pub start-pair : Pair P (layout_of z.rec) z z'
  unfolding lent_due lent_l1d lent_l2 lent_external well_formed legal_sizes
  start-pair =
      let r = z.rec in
      let p = lowest_due-none (lent_l1d z.l1d && (lent_l2 r z.l2 && lent_external r z.ext)) 0 (unless (well_formed r) 2) due in
      let a = both_true (lent_l1d z.l1d) (lent_l2 r z.l2 && lent_external r z.ext) p.0 in
      let b = both_true (lent_l2 r z.l2) (lent_external r z.ext) a.1 in
      let b₂ = both_true (legal_l2 (length z.l2)) (eqb (length z.l2) r.l2len) b.0 in
      let b₃ = both_true (legal_external (length z.ext)) (eqb (length z.ext) r.extlen) b.1 in
      let w = both_true (legal_sizes r) (all_indexed (l1d_set_ok r) 0 r.l1d && (all_indexed (l2_set_ok r) 0 r.l2 && counts_ok r)) (unless-none (well_formed r) 1 p.1) in
      let w₁ = both_true (all_indexed (l1d_set_ok r) 0 r.l1d) (all_indexed (l2_set_ok r) 0 r.l2 && counts_ok r) w.1 in
      let w₂ = both_true (all_indexed (l2_set_ok r) 0 r.l2) (counts_ok r) w₁.1 in
      let s = both_true (legal_l2 r.l2len) (legal_external r.extlen && (is_mode r.mode && leb (cache_size r.mode) r.l2len)) w.0 in
      let s' = both_true (legal_external r.extlen) (is_mode r.mode && leb (cache_size r.mode) r.l2len) s.1 in
      let c = leb-true (cache_size r.mode) r.l2len (both_true (is_mode r.mode) (leb (cache_size r.mode) r.l2len) s'.1).1 in
      let t₂ = legal_l2-tells r.l2len s.0 in let t₃ = legal_external-tells r.extlen s'.0 in
      let m = t₂.1 in let lw = t₂.2 in let cw = cache-whole r.mode in
      record {
        same = same;
        sizes = record {
          sram = refl;
          sets = refl;
          l2len = refl;
          extlen = refl;
          l1d_length = eqb-true (length z.l1d) l1d_length a.0;
          l1d_same = sym l₁;
          l2_length = eqb-true (length z.l2) r.l2len b₂.1;
          l2_same = sym l₂;
          ext_length = eqb-true (length z.ext) r.extlen b₃.1;
          ext_same = sym l₃;
          below = omega arith;
          room = omega arith;
          sram_whole = omega arith;
          ext_whole = t₃.2;
          l2_legal = s.0;
          ext_legal = s'.0;
        };
        l1d = record { placed = l1d-placed r w₁.0; bytes = l1d };
        l2 = record { placed = l2-placed r w₂.0; bytes = l2 };
        sram = sram;
        ext = ext;
      }

-- ---- what two replies to a command of code k with numbers a, b have in common
pub record Answer (P : Pairing) (k a b v v' : ℕ) : Type 0 where
  pub count : ℕ
  pub bs : List ℕ
  pub bs' : List ℕ
  pub value : v ≡ little bs
  pub value' : v' ≡ little bs'
  pub twins : Twins P b count bs bs'
  pub reads : (i : ℕ) → i < count → (k ≡ 0) × (i < a)

pub record Replies (P : Pairing) (k a b : ℕ) (x x' : Reply) : Type 0 where
  pub number : x.number ≡ x'.number
  pub server : x.server ≡ x'.server
  pub report : x.report ≡ x'.report
  pub answer : Answer P k a b x.value x'.value
  pub bytes : x.bytes ≡ x'.bytes
  pub next : (g : Layout) × Pair P g x.next x'.next

pub no_answer : (P : Pairing) (k a b : ℕ) → Answer P k a b 0 0
unfolding little
no_answer P k a b =
    record { count = 0; bs = []; bs' = []; value = refl; value' = refl; twins = no-twins P b; reads = λ i h. absurd (omega arith) }

-- ---- a write whose values fit alike is due the same number
pub due-alike : (s e n a v v' : ℕ) → (size_ok n ≡ true → value_ok n v ≡ value_ok n v') → access_due s e n a v ≡ access_due s e n a v'
unfolding access_due
due-alike s e n a v v' h = bool (size_ok n) (λ t. rw (h t) refl) (λ t. rw t refl)

module _ {P : Pairing} (none : (a : ℕ) → P a 0 0) {g : Layout} {z : State} {d m e : List ℕ} (q : Pair P g z (twin z d m e)) where
  abbrev other : State
  other = twin z d m e

  fits : (n a v : ℕ) → access_due (sram_of z.rec) z.rec.extlen n a v ≡ 0 → Fits g a n
  fits n a v u =
      let k = access-tells (sram_of z.rec) z.rec.extlen n a v u in let mo = k.more in let ro = k.row in let s = q.sizes.sram in let x = q.sizes.extlen in
      record { more = omega arith; row = omega arith; low = λ h. let g = k.low h in omega arith; high = λ h. let g = k.high h in omega arith }

  module _ (a b v v' : ℕ) where
    -- done where its number is 0, else refused
    unless-refused : (k n : ℕ) (x x' : Reply) → (n ≡ 0 → Replies P k a b x x') → Replies P k a b (cond (eqb n 0) x (refused n z)) (cond (eqb n 0) x' (refused n other))
    unless-refused k n x x' h =
        cond_both (Replies P k a b) (eqb n 0) x (refused n z) x' (refused n other) (λ t. h (eqb-true n 0 t))
        (λ _. record { number = refl; server = refl; report = refl; answer = no_answer P k a b; bytes = refl; next = (g, q) })

    -- a command that is neither a read nor a write
    carried : (k : ℕ) (y y' : State) → Pair P g y y' → Replies P k a b (carried_out y) (carried_out y')
    carried k y y' p = record { number = refl; server = refl; report = refl; answer = no_answer P k a b; bytes = refl; next = (g, p) }

    abbrev At : ℕ → Type 0
    At k = Replies P k a b (step (command k a b v) z) (step (command k a b v') other)

    step-0 : At 0
    unfolding step command_due accepted read_done
    step-0 =
        unless-refused 0 (access_due (sram_of z.rec) z.rec.extlen a b 0) (read_done a b z) (read_done a b other)
        (λ u. let x = read-both (fits a b 0 u) z other q in
        record {
          number = refl;
          server = x.server;
          report = read-report a b z other (pair-stored q);
          answer = record {
            count = a;
            bs = (read_access a b z).bytes;
            bs' = (read_access a b other).bytes;
            value = refl;
            value' = refl;
            twins = x.bytes;
            reads = λ i h. (refl, h);
          };
          bytes = refl;
          next = (g, x.next);
        })

    step-1 : (size_ok a ≡ true → value_ok a v ≡ value_ok a v') → Twins P b a (little_bytes v a) (little_bytes v' a) → At 1
    unfolding step command_due accepted write_done
    step-1 f tw =
        rw (← (due-alike (sram_of z.rec) z.rec.extlen a b v v' f))
        (unless-refused 1 (access_due (sram_of z.rec) z.rec.extlen a b v) (write_done a b v z) (write_done a b v' other)
        (λ u. let x = write-both (fits a b v u) tw z other q in
        let r = write-report b (little_bytes v a) (little_bytes v' a) (tw.long ∙ sym tw.long') z other (pair-stored q) in
        record { number = refl; server = x.server; report = r; answer = no_answer P 1 a b; bytes = refl; next = (g, x.next) }))

    step-2 : At 2
    unfolding step command_due accepted command_state
    step-2 = carried 2 (l2_writeback_all z) (l2_writeback_all other) (code-2 z other q)

    step-3 : At 3
    unfolding step command_due accepted command_state
    step-3 = carried 3 (l2_writeback_invalidate_all z) (l2_writeback_invalidate_all other) (code-3 z other q)

    on-block : (k : ℕ) (f : ℕ → ℕ → State → State) → Keeps P g (f a b) →
        Replies P k a b (cond (eqb (block_due a b) 0) (carried_out (f a b z)) (refused (block_due a b) z))
        (cond (eqb (block_due a b) 0) (carried_out (f a b other)) (refused (block_due a b) other))
    on-block k f h = unless-refused k (block_due a b) (carried_out (f a b z)) (carried_out (f a b other)) (λ _. carried k (f a b z) (f a b other) (h z other q))

    step-4 : At 4
    unfolding step command_due accepted command_state
    step-4 = on-block 4 l2_writeback_block (code-4 a b)

    step-5 : At 5
    unfolding step command_due accepted command_state
    step-5 = on-block 5 l2_writeback_invalidate_block (code-5 a b)

    step-6 : At 6
    unfolding step command_due accepted command_state
    step-6 = on-block 6 l2_invalidate_block (code-6 a b)

    step-7 : At 7
    unfolding step command_due accepted command_state
    step-7 = on-block 7 l1d_writeback_invalidate_block (code-7 a b)

    step-8 : At 8
    unfolding step command_due accepted command_state
    step-8 = on-block 8 l1d_invalidate_block (code-8 a b)

    step-9 : At 9
    unfolding step command_due accepted command_state
    step-9 = carried 9 (l1d_invalidate_all z) (l1d_invalidate_all other) (code-9 z other q)

    step-10 : At 10
    unfolding step command_due accepted command_state
    step-10 =
        unless-refused 10 (mode_due z.rec.l2len a) (carried_out (change_mode a z)) (carried_out (change_mode a other))
        (λ u. let c = (mode-tells z.rec.l2len a u).1 in let l = q.sizes.l2len in
        record {
          number = refl;
          server = refl;
          report = refl;
          answer = no_answer P 10 a b;
          bytes = refl;
          next = (in_mode g a, code-10 none a (omega arith) z other q);
        })

    step-11 : At 11
    unfolding step command_due accepted command_state
    step-11 =
        unless-refused 11 (mar_due z.rec a b) (carried_out (change_mar a b z)) (carried_out (change_mar a b other))
        (λ _. carried 11 (change_mar a b z) (change_mar a b other) (code-11 a b z other q))

    step-12 : At 12
    unfolding step command_due accepted command_state
    step-12 =
        unless-refused 12 (freeze_due a) (carried_out (change_freeze a z)) (carried_out (change_freeze a other))
        (λ _. carried 12 (change_freeze a z) (change_freeze a other) (code-12 a z other q))

    step_other : (k : ℕ) → 13 ≤ k → At k
    step_other k h =
        let e₁ = other-code k a b v z h in let e₂ = other-code k a b v' other h in
        rw (e₁, e₂) (record { number = refl; server = refl; report = refl; answer = no_answer P k a b; bytes = refl; next = (g, q) })

    pub step_both : (k : ℕ) → (k ≡ 1 → (size_ok a ≡ true → value_ok a v ≡ value_ok a v') × Twins P b a (little_bytes v a) (little_bytes v' a)) → At k
    step_both k f =
        codes (λ (j : ℕ). (j ≡ 1 → (size_ok a ≡ true → value_ok a v ≡ value_ok a v') × Twins P b a (little_bytes v a) (little_bytes v' a)) → At j)
        (λ _. step-0) (λ g. step-1 (g refl).0 (g refl).1) (λ _. step-2) (λ _. step-3) (λ _. step-4) (λ _. step-5) (λ _. step-6) (λ _. step-7) (λ _. step-8)
        (λ _. step-9) (λ _. step-10) (λ _. step-11) (λ _. step-12) (λ j h _. step_other j h) k f
