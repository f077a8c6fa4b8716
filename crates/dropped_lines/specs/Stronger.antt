-- 02, U13 in a form that says more than its words; `stronger` (proofs/Dropping) shows it, and Dropped's form follows
-- from it. It says more in three ways:
-- 1. no writeback is named: whenever no dirty line has an address, its byte in memory alone may be read there. A
--    writeback that reaches it leaves none (`sent-clean`), nor does a mode change; a drop often leaves none either. And
--    "the last one written" gets no pass of its own;
-- 2. a clean line that is dropped loses nothing, and a byte that was written since reads as flat memory again;
-- 3. only the drop of a dirty line changes a byte.
use Rattle.std.specs.Prelude.{ℕ, Bool, true, false, not, cond, ◌&&◌, ◌||◌, ◌≡◌, List, [], ◌∷◌, length}
use Rattle.model.specs.Lines.{l1d_set_of}
use Rattle.model.specs.Records.{State, l2_set_of, l1d_line_at, l2_line_at}
use Rattle.model.specs.Ways.{l1d_way, l2_way, in_l1d, in_l2}
use Rattle.model.specs.Flat.{Flat, fresh_flat, flat_called}
use Rattle.model.specs.Calls.{Reply, fresh_call, Call, called}
use Rattle.dropped_lines.specs.Dropped.{listed, memory_at, writes, new_byte, changes_mode, is_drop, HoldsAt, one_of}

-- ---- a dirty line of L1D (64 bytes), or of L2 (128), has address a
unfoldable pub dirty_in_l1d : State → ℕ → Bool
dirty_in_l1d z a = in_l1d z a && (l1d_line_at z.rec (l1d_set_of a) (l1d_way z a)).dirty

unfoldable pub dirty_in_l2 : State → ℕ → Bool
dirty_in_l2 z a = in_l2 z a && (l2_line_at z.rec (l2_set_of z.rec a) (l2_way z a)).dirty

unfoldable pub in_dirty_line : State → ℕ → Bool
in_dirty_line z a = dirty_in_l1d z a || dirty_in_l2 z a

-- ---- an invalidating command found a dirty line with address a and left none at that level
unfoldable pub loses : Call → State → Reply → ℕ → Bool
loses c z r a =
    is_drop c && ((dirty_in_l1d z a && not (dirty_in_l1d r.next a)) || (dirty_in_l2 z a && not (dirty_in_l2 r.next a)))

-- ---- behind a call: the values that address a may show; whether it lost a byte and was not written since
unfoldable pub shows_after : Call → Reply → (ℕ → List ℕ) → ℕ → List ℕ
shows_after c r h a =
    cond (in_dirty_line r.next a) (cond (writes c r a) (new_byte c a ∷ h a) (h a)) (memory_at r.next a ∷ [])

unfoldable pub lost_after : Call → State → Reply → (ℕ → Bool) → ℕ → Bool
lost_after c z r lost a = cond (writes c r a) false (lost a || loses c z r a)

-- ---- the calls that change the byte of a
unfoldable pub changes : Call → State → Reply → ℕ → Bool
changes c z r a = writes c r a || (loses c z r a || changes_mode c r)

pub data HoldsStronger : List Call → State → Flat → (ℕ → List ℕ) → (ℕ → Bool) → Type 0 where
  end : {z : State} {f : Flat} {h : ℕ → List ℕ} {lost : ℕ → Bool} → HoldsStronger [] z f h lost
  next : {c : Call} {cs : List Call} {z : State} {f : Flat} {h : ℕ → List ℕ} {lost : ℕ → Bool} →
      HoldsAt c z f (λ a b. one_of (h a) b) lost (changes c z (called c z)) →
      HoldsStronger cs (called c z).next (flat_called c f).next (shows_after c (called c z) h) (lost_after c z (called c z) lost) →
      HoldsStronger (c ∷ cs) z f h lost

abbrev pub StrongerDroppedLines : Type 0
StrongerDroppedLines =
    (d m e : List ℕ) → (fresh_call d m e).number ≡ 0 →
    (cs : List Call) → listed cs ≡ true →
    HoldsStronger cs (fresh_call d m e).next (fresh_flat (length m) e) (λ a. memory_at (fresh_call d m e).next a ∷ []) (λ _. false)
