-- Demand 3 for lists that hold frames (`items-demand3`): such a list is the list of its calls (`frame-is-calls`), to
-- which demand 3 applies. Why: a frame's own two commands stand right in front of its transfer, with no CPU access
-- between, so that each of its lines is covered (`place-covered`); its other calls are commands, which join anyway
-- (`frame-joined`).
use Prim.Native.Nat.{ℕ, zero, suc, ◌+◌, ◌*◌, ◌%◌, ◌≤◌, ◌<◌}
use mathlib.Core.Bool.{Bool, true, false, not, cond, ◌&&◌, ◌||◌}
use mathlib.Core.Path.{◌≡◌, refl, sym, ap, ◌∙◌, subst}
use mathlib.Core.Logic.{◌≢◌}
use mathlib.Core.List.{List, [], ◌∷◌, ◌++◌}
use native.Mathlib.Omega.{arith}
use lib.ListN.{length}
use lib.Dec.{ltb, eqb}
use borrow.Author.Tests.{eqb-true, eqb-false, lt-ltb}
use Rattle.model.specs.Basics.{each, any_of}
use Rattle.model.specs.Memories.{external_base}
use Rattle.model.specs.Lines.{upper_half}
use Rattle.model.specs.Records.{State}
use Rattle.model.specs.Commands.{block_end, l1d_writeback_invalidate_block, l2_writeback_invalidate_block}
use Rattle.model.specs.Refusals.{lent_due}
use Rattle.model.specs.Trace.{command}
use Rattle.model.specs.Calls.{Reply, carried_out, call, transfer_in_call, fresh_call, Call, one_command, transfer_in, called, after}
use Rattle.model.specs.Bytewise.{byte_read, calls_to}
use Rattle.agreement.specs.Frames.{frame_length, frame_place, placing_calls, Framed, framed, refused_frame, frame_due_in, frame_step, frame_call}
use Rattle.model.specs.Laws.{bool, both_true, cond-elim, transfer-block}
use Rattle.agreement.specs.Covered.{has_byte_in, accesses, since, covered_since, line_covered, lines_covered, stretch_covered, remembered, transfer_joins, joins, joined}
use Rattle.agreement.specs.Demand.{listed_call, listed}
use Rattle.agreement.specs.FrameSums.{Item, single, frame, reads_from, frame_calls, item_calls, expanded, listed_item, listed_items, remembered_all, item_joins, items_joined, ItemsDemand3, FrameIsCalls}
use Rattle.agreement.proofs.Good.{Well}
use Rattle.agreement.proofs.Sweeps.{l2_writeback_invalidate_block-good}
use Rattle.agreement.proofs.Good.{Anything}
use Rattle.agreement.proofs.Agreement.{fresh-accepted, demand3}
use Rattle.agreement.proofs.Stays.{fresh-well, after-well, after-append}
use Rattle.agreement.proofs.Frames.{frame-tells, frame-accepted, command-5, command-7}

-- ---- lists one behind the other
joined-append : (cs ds h : List Call) (z : State) → joined h (cs ++ ds) z ≡ (joined h cs z && joined (remembered_all cs z h) ds (after cs z))
unfolding joined remembered_all after
joined-append [] ds h z = refl
joined-append (c ∷ cs) ds h z =
    bool (joins h c z)
    (λ t. rw t (joined-append cs ds (remembered c z h) (called c z).next)) (λ t. rw t refl)

listed-append : (cs ds : List Call) → listed cs ≡ true → listed ds ≡ true → listed (cs ++ ds) ≡ true
unfolding listed
listed-append [] ds a b = b
listed-append (c ∷ cs) ds a b =
    let p = both_true (listed_call c) (listed cs) a in rw (p.0, listed-append cs ds p.1 b) refl

-- ---- reads join, and may be listed
reads-joined : (p i n : ℕ) (h : List Call) (z : State) → joined h (reads_from p i n) z ≡ true
unfolding reads_from joined
reads-joined p i zero h z = refl
reads-joined p i (suc n) h z = reads-joined p (suc i) n (remembered (one_command (byte_read p i)) z h) (call (byte_read p i) z).next

reads-listed : (p i n : ℕ) → listed (reads_from p i n) ≡ true
unfolding reads_from listed
reads-listed p i zero = refl
reads-listed p i (suc n) = reads-listed p (suc i) n

or-true : (x : Bool) → (x || true) ≡ true
or-true true = refl
or-true false = refl

-- ---- a frame's state is its calls' (`frame-is-calls`)
pub reads-after : (p i n : ℕ) (z : State) → after (reads_from p i n) (calls_to (byte_read p) i z) ≡ calls_to (byte_read p) (n + i) z
unfolding after reads_from each
reads-after p i zero z = let e : i ≡ 0 + i = omega arith in ap (λ (k : ℕ). calls_to (byte_read p) k z) e
reads-after p i (suc n) z = let e : n + suc i ≡ suc n + i = omega arith in reads-after p (suc i) n z ∙ ap (λ (k : ℕ). calls_to (byte_read p) k z) e

calls-after : (t : ℕ) (px : List ℕ) (z : State) → calls_to (byte_read (frame_place t)) frame_length (after (placing_calls t px) z) ≡ after (frame_calls t px) z
unfolding frame_calls each
calls-after t px z =
    let y = after (placing_calls t px) z in
    sym (after-append (placing_calls t px) (reads_from (frame_place t) 0 frame_length) z ∙ reads-after (frame_place t) 0 frame_length y)

-- refused, it is no call at all
framed-after : (t : ℕ) (px : List ℕ) (z : State) (r : Framed) → (r.number ≡ 0 → r.next ≡ after (frame_calls t px) z) → (r.number ≢ 0 → r.next ≡ z) →
    r.next ≡ after (cond (eqb r.number 0) (frame_calls t px) []) z
unfolding after
framed-after t px z r a b =
    bool (eqb r.number 0) (λ u. rw u (a (eqb-true r.number 0 u))) (λ u. rw u (b (eqb-false r.number 0 u)))

pub frame-is-calls : FrameIsCalls
unfolding frame_call frame_step framed
frame-is-calls t px z =
    let n = frame_due_in z (length px) in
    framed-after t px z (frame_call t px z)
    (cond-elim (λ (r : Framed). r.number ≡ 0 → r.next ≡ after (frame_calls t px) z) (eqb (lent_due z) 0) (frame_step t px z) (refused_frame (lent_due z) t z)
    (λ _. cond-elim (λ (r : Framed). r.number ≡ 0 → r.next ≡ after (frame_calls t px) z) (eqb n 0) (framed t px z) (refused_frame n t z)
    (λ _ _. calls-after t px z) (λ u o. absurd (eqb-false n 0 u o)))
    (λ u o. absurd (eqb-false (lent_due z) 0 u o)))
    (cond-elim (λ (r : Framed). r.number ≢ 0 → r.next ≡ z) (eqb (lent_due z) 0) (frame_step t px z) (refused_frame (lent_due z) t z)
    (λ _. cond-elim (λ (r : Framed). r.number ≢ 0 → r.next ≡ z) (eqb n 0) (framed t px z) (refused_frame n t z) (λ _ o. absurd (o refl)) (λ _ _. refl))
    (λ _ _. refl))

-- ---- the place is covered behind both commands
module _ (t : ℕ) (h : List Call) where
  abbrev p : ℕ
  p = frame_place t

  abbrev c₅ : Call
  c₅ = one_command (command 5 p 768 0)

  abbrev c₇ : Call
  c₇ = one_command (command 7 p 768 0)

  -- a line of n bytes in the place has a byte in the block
  in_block : (n l : ℕ) → 0 < n → p ≤ l → l < p + 3072 → has_byte_in n l p (block_end p 768) ≡ true
  in_block n l some from to =
      let end = transfer-block p 3072 refl (omega arith) in
      rw (end, lt-ltb p (p + 3072) (omega arith), lt-ltb p (l + n) (omega arith), lt-ltb l (p + 3072) to) refl

  by-5 : (n l b : ℕ) → 0 < n → p ≤ l → l < p + 3072 → covered_since 5 n l b (c₇ ∷ c₅ ∷ h) ≡ true
  unfolding covered_since since any_of
  by-5 n l b some from to = let e = in_block n l some from to in rw e (or-true (not (any_of (accesses b) h)))

  by-7 : (n l b : ℕ) → 0 < n → p ≤ l → l < p + 3072 → covered_since 7 n l b (c₇ ∷ c₅ ∷ h) ≡ true
  unfolding covered_since since any_of
  by-7 n l b some from to = let e = in_block n l some from to in rw e (or-true (not (any_of (accesses b) h)))

  one_line : (j : ℕ) → j < 24 → line_covered (c₇ ∷ c₅ ∷ h) (p + j * 128) ≡ true
  unfolding line_covered
  one_line j l =
      let b = p + j * 128 in
      rw (
        by-5 128 b b (omega arith) (omega arith) (omega arith),
        by-7 64 b b (omega arith) (omega arith) (omega arith),
        by-7 64 (upper_half b) b (omega arith) (omega arith) (omega arith),
      ) refl

  lines : (k : ℕ) → k ≤ 24 → lines_covered (c₇ ∷ c₅ ∷ h) p k ≡ true
  unfolding lines_covered
  lines zero l = refl
  lines (suc k) l = rw (lines k (omega arith), one_line k (omega arith)) refl

  place-covered : stretch_covered (c₇ ∷ c₅ ∷ h) p 3072 ≡ true
  unfolding stretch_covered
  place-covered = let e : frame_place t % 128 ≡ 0 = omega arith in rw (e, lines 24 (omega arith)) refl

-- ---- one call in front, whose reply is known
joined-cons : (c : Call) (cs h : List Call) (z : State) (r : Reply) → called c z ≡ r → joins h c z ≡ true →
    joined (cond (eqb r.number 0) (c ∷ h) h) cs r.next ≡ true → joined h (c ∷ cs) z ≡ true
unfolding joined
joined-cons c cs h z r e j k =
    rw j (subst (λ (x : Reply). joined (cond (eqb x.number 0) (c ∷ h) h) cs x.next ≡ true) (sym e) k)

pub transfer-joins : (t : ℕ) (h : List Call) (n : ℕ) (ok : Bool) → n ≡ 3072 →
    transfer_joins (one_command (command 7 (frame_place t) 768 0) ∷ one_command (command 5 (frame_place t) 768 0) ∷ h) (frame_place t) n ok ≡ true
unfolding transfer_joins
transfer-joins t h n ok e = let c = place-covered t h in rw (e, c) (or-or (ltb (frame_place t) external_base) (not ok))
  where
    or-or : (x y : Bool) → (x || (y || true)) ≡ true
    or-or x y = rw (or-true y) (or-true x)

module _ (t : ℕ) (px : List ℕ) (h : List Call) (z : State) (q : Well z) (long : length px ≡ 3072) where
  frame-joined : joined h (frame_calls t px) z ≡ true
  unfolding frame_calls
  frame-joined =
      let p = frame_place t in let reads = reads_from p 0 frame_length in
      let z₁ = l2_writeback_invalidate_block p 768 z in let g = (l2_writeback_invalidate_block-good z Anything q p 768).good in
      let a : Call = one_command (command 5 p 768 0) in let b : Call = one_command (command 7 p 768 0) in
      let z₂ = l1d_writeback_invalidate_block p 768 z₁ in
      joined-cons a (b ∷ transfer_in p px ∷ reads) h z (carried_out z₁) (command-5 t z q) refl
      (joined-cons b (transfer_in p px ∷ reads) (a ∷ h) z₁ (carried_out z₂) (command-7 t z₁ g) refl
      (joined-cons (transfer_in p px) reads (b ∷ a ∷ h) z₂ (transfer_in_call p px z₂) refl
      (transfer-joins t h (length px) (eqb (transfer_in_call p px z₂).number 0) long)
      (reads-joined p 0 frame_length _ _)))

-- ---- items
item-joined : (i : Item) (h : List Call) (z : State) → Well z → item_joins h i z ≡ true → joined h (item_calls i z) z ≡ true
unfolding joined
item-joined (single c) h z q y = rw y refl
item-joined (frame t px) h z q y =
    let n = (frame_call t px z).number in
    cond-elim (λ (cs : List Call). joined h cs z ≡ true) (eqb n 0) (frame_calls t px) []
    (λ u. frame-joined t px h z q (frame-tells z.rec.extlen (length px) (frame-accepted t px z q (eqb-true n 0 u))).1) (λ _. refl)

item-listed : (i : Item) (z : State) → listed_item i ≡ true → listed (item_calls i z) ≡ true
unfolding listed frame_calls
item-listed (single c) z y = rw y refl
item-listed (frame t px) z y =
    let n = (frame_call t px z).number in
    cond-elim (λ (cs : List Call). listed cs ≡ true) (eqb n 0) (frame_calls t px) []
    (λ _. listed-append (placing_calls t px) (reads_from (frame_place t) 0 frame_length) refl (reads-listed (frame_place t) 0 frame_length)) (λ _. refl)

items-joined : (is : List Item) (h : List Call) (z : State) → Well z → items_joined h is z ≡ true → joined h (expanded is z) z ≡ true
unfolding items_joined expanded joined
items-joined [] h z q y = refl
items-joined (i ∷ is) h z q y =
    let cs = item_calls i z in let z' = after cs z in
    let b = both_true (item_joins h i z) (items_joined (remembered_all cs z h) is z') y in
    joined-append cs (expanded is z') h z
    ∙ rw (item-joined i h z q b.0, items-joined is (remembered_all cs z h) z' (after-well cs z q) b.1) refl

items-listed : (is : List Item) (z : State) → listed_items is ≡ true → listed (expanded is z) ≡ true
unfolding listed_items expanded listed
items-listed [] z y = refl
items-listed (i ∷ is) z y =
    let b = both_true (listed_item i) (listed_items is) y in let cs = item_calls i z in
    listed-append cs (expanded is (after cs z)) (item-listed i z b.0) (items-listed is (after cs z) b.1)

-- ---- demand 3
pub items-demand3 : ItemsDemand3
items-demand3 d m e h is l j =
    let z = (fresh_call d m e).next in let f = fresh-accepted d m e h in
    let q : Well z = subst Well (sym f.2) (fresh-well (length m) e f.0 f.1) in
    demand3 d m e h (expanded is z) (items-listed is z l) (items-joined is [] z q j)
