-- Behind the first step of a global command, which sends every line of L1D home and empties its way, L1D holds nothing
-- (`evicted-all`): each way is invalid when it has been gone through, and no later turn brings a line in. Nothing is
-- asked of the record: a way that its arrays do not have is an invalid one.
use Rattle.std.specs.Prelude.{ℕ, zero, suc, ◌+◌, ◌*◌, ◌/◌, ◌%◌, ◌<◌, false, ◌≡◌, ltb, eqb}
use Rattle.std.proofs.Math.Path.{refl, ap}
use Rattle.std.proofs.Common.{sym, ◌∙◌, arith, get_or-set_other}
use borrow.Author.Tests.{eqb-true, eqb-false}
use Rattle.lists.specs.Replaced.{set-either}
use Rattle.model.specs.Basics.{each}
use Rattle.model.specs.Memories.{external_base}
use Rattle.model.specs.Lines.{empty_line, l1d_get, l1d_put}
use Rattle.model.specs.Records.{State, no_l1d_set, l1d_set_at, l1d_line_at, with_l1d_line, with_l2_line}
use Rattle.model.specs.Ways.{in_l2, empty_l1d}
use Rattle.model.specs.Homes.{home_is_l2, put_memory, put_l2, put_home}
use Rattle.model.specs.Access.{writeback_l1d, evict_l1d}
use Rattle.model.specs.Commands.{evict_all_l1d}
use Rattle.model.specs.Laws.{bool}
use Rattle.model.specs.declared.Line.{Line}
use Rattle.model.specs.declared.L1dSet.{L1dSet}
use Rattle.model.specs.declared.Record.{Record}

-- ---- a way is emptied: it is invalid, and so is every way that was
abbrev Invalid : Line → Type 0
Invalid x = x.valid ≡ false

module _ (r : Record) (s w s' w' : ℕ) (was : ((s ≡ s') × (w ≡ w') → ⊥) → Invalid (l1d_line_at r s' w')) where
  emptied-invalid : Invalid (l1d_line_at (with_l1d_line r s w empty_line) s' w')
  unfolding with_l1d_line l1d_put
  emptied-invalid =
      bool (eqb s' s)
      (λ e. let es = eqb-true s' s e in
      bool (eqb w' w)
      (λ f. let ew = eqb-true w' w f in
      rw (es, ew)
      (set-either (λ (v : L1dSet). Invalid (l1d_get v w)) r.l1d s (l1d_put (l1d_set_at r s) w empty_line) no_l1d_set
      (set-either Invalid (l1d_set_at r s).lines w empty_line empty_line refl refl) refl))
      (λ f. let nw = eqb-false w' w f in
      let old : Invalid (l1d_line_at r s w') = rw es at (was (λ p. nw (sym p.1))) in
      rw es (set-either (λ (v : L1dSet). Invalid (l1d_get v w')) r.l1d s (l1d_put (l1d_set_at r s) w empty_line) no_l1d_set
      (ap (λ (x : Line). x.valid) (get_or-set_other (l1d_set_at r s).lines w w' empty_line empty_line nw) ∙ old) refl)))
      (λ e. let ns = eqb-false s' s e in
      ap (λ (v : L1dSet). (l1d_get v w').valid)
      (get_or-set_other r.l1d s s' (l1d_put (l1d_set_at r s) w empty_line) no_l1d_set ns)
      ∙ was (λ p. ns (sym p.0)))

-- a writeback changes no line of L1D
pub back-lines : (s w : ℕ) (z : State) → (writeback_l1d s w z).rec.l1d ≡ z.rec.l1d
unfolding writeback_l1d put_home put_l2 put_memory with_l2_line
back-lines s w z =
    let x = l1d_line_at z.rec s w in
    bool x.valid
    (λ v. bool x.dirty
    (λ d. bool (home_is_l2 z.rec x.address)
    (λ h. bool (in_l2 z x.address) (λ i. rw (v, d, h, i) refl) (λ i. rw (v, d, h, i) refl))
    (λ h. bool (ltb x.address external_base) (λ l. rw (v, d, h, l) refl) (λ l. rw (v, d, h, l) refl)))
    (λ d. rw (v, d) refl))
    (λ v. rw v refl)

-- ---- L1D holds nothing
abbrev pub Bare : State → Type 0
Bare z = (s w : ℕ) → s < 128 → w < 2 → Invalid (l1d_line_at z.rec s w)

emptied-to : (k : ℕ) (z : State) (s w : ℕ) → w < 2 → s * 2 + w < k →
    Invalid (l1d_line_at (each (λ i. evict_l1d (i / 2) (i % 2)) k z).rec s w)
unfolding each evict_l1d empty_l1d
emptied-to zero z s w hw h = absurd (omega arith)
emptied-to (suc k) z s w hw h =
    let x = each (λ i. evict_l1d (i / 2) (i % 2)) k z in
    let y = writeback_l1d (k / 2) (k % 2) x in
    emptied-invalid y.rec (k / 2) (k % 2) s w
    (λ n. let c : s * 2 + w < k = bool (eqb (s * 2 + w) k)
    (λ e. let e' = eqb-true (s * 2 + w) k e in absurd (n (omega arith, omega arith)))
    (λ e. let e' = eqb-false (s * 2 + w) k e in omega arith) in
    let b = back-lines (k / 2) (k % 2) x in
    rw b (emptied-to k z s w hw c))

pub evicted-all : (z : State) → Bare (evict_all_l1d z)
unfolding evict_all_l1d
evicted-all z s w hs hw = emptied-to 256 z s w hw (omega arith)
