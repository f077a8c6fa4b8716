-- A row of a frame is one line of L1D, so that few of its reads have to be gone through. Past the caches none touches a
-- line: the row is read as it stands in external memory (`past_row`). Else, where L1D has the line behind the first
-- read, the others are hits: the way is used once, whatever their number, and the row stands in that way (`held-row`).
-- Why: a hit changes the order alone, and to use a way twice is to use it once.
use Prim.Native.Nat.{ℕ, zero, suc, ◌+◌, ◌*◌, ◌-◌, ◌/◌, ◌%◌, ◌≤◌, ◌<◌}
use Rattle.std.specs.Prelude.{Bool, false, ◌≡◌, length, get_or}
use Rattle.std.proofs.Math.Bool.{true, cond}
use Rattle.std.proofs.Math.Path.{refl, ap}
use Rattle.std.proofs.Common.{sym, ◌∙◌, get_or-set_other, set-set, Fits, w8}
use mathlib.Core.List.{List, [], ◌∷◌}
use native.Mathlib.Omega.{arith}
use Rattle.std.proofs.Math.ListN.{set, length-set}
use Rattle.std.proofs.Math.Dec.{ltb}
use Rattle.std.proofs.Math.Seq.{get_or-set_same}
use borrow.Author.Tests.{ltb-true, lt-ltb, le-ltb, eq-eqb}
use Rattle.model.specs.Basics.{each}
use Rattle.model.specs.Bytes.{part, little}
use Rattle.model.specs.Memories.{external_base}
use Rattle.model.specs.Lines.{l1d_set_of, l1d_data, l1d_line, used2, in_front, without, l1d_use}
use Rattle.model.specs.Records.{State, state, sram_of, l1d_set_at, with_l1d_sets, mar_bit, covers, no_l1d_set}
use Rattle.model.specs.Ways.{l1d_find, l1d_way, in_l1d, use_l1d}
use Rattle.model.specs.Homes.{memory_part}
use Rattle.model.specs.Access.{Access, access, cacheable, use_hit, read_hit, read_access}
use Rattle.model.specs.Refusals.{lent_due}
use Rattle.model.specs.Trace.{command}
use Rattle.model.specs.Calls.{Reply, command_due, read_done, accepted, step}
use Rattle.model.specs.Bytewise.{byte_read}
use Rattle.model.specs.Laws.{bool, cond-elim, part_at, length_part}
use Rattle.model.specs.declared.Order2.{Order2}
use Rattle.model.specs.declared.L1dSet.{L1dSet}
use Rattle.agreement.proofs.Invariant.{Layout}
use Rattle.agreement.proofs.Good.{layout_of, Anything, Well}
use Rattle.agreement.proofs.Tested.{well-due, well-shape}
use Rattle.agreement.proofs.Unaligned.{one-due, AllFit, read_up_lem, up-bytes}
use Rattle.tags.specs.Words.{record_in, state_in}
use Rattle.unaligned.proofs.Meets.{lent-well}
use Rattle.run.specs.Upwards.{up_answers}
use Rattle.frame_rows.specs.Reads.{reads_to, byte_given, no_reads, reads-join, byte-join, answer-byte, reads-called}
use Rattle.frame_rows.specs.Sums.{Added, room-left, no_rows, row_read, row-added, summed}

-- ---- one byte
little-one : (bs : List ℕ) → length bs ≡ 1 → little bs ≡ get_or bs 0 0
unfolding little
little-one [] h = absurd (omega arith)
little-one (b ∷ []) h = omega arith
little-one (b ∷ c ∷ bs) h = absurd (omega arith)

part-one : (m : List ℕ) (p : ℕ) → p + 1 ≤ length m → little (part m p 1) ≡ get_or m p 0
part-one m p h = let e : p + 0 ≡ p = omega arith in little-one (part m p 1) (length_part m p 1 h) ∙ part_at m p 1 0 h (omega arith) ∙ rw e refl

-- ---- what a row has: it is a line, in external memory, and the memories have their lengths
pub record Row (y : State) (a : ℕ) : Type 0 where
  pub line : a % 64 ≡ 0
  pub above : external_base ≤ a
  pub within : a + 64 ≤ external_base + y.rec.extlen
  pub ext : length y.ext ≡ y.rec.extlen
  pub l1d : length y.l1d ≡ 16384
  pub sets : length y.rec.l1d ≡ 128

module _ (y : State) (a : ℕ) (r : Row y a) where
  read_step : (i : ℕ) → i < 64 → step (byte_read a i) y ≡ read_done 1 (a + i) y
  unfolding step accepted command_due
  read_step i h =
      let u = r.above in let w = r.within in
      let d = one-due (sram_of y.rec) y.rec.extlen (a + i) 0 (λ l. absurd (omega arith)) (λ _. omega arith) (omega arith) in
      rw d refl

  same-cacheable : (i : ℕ) → i < 64 → cacheable y.rec (a + i) ≡ cacheable y.rec a
  unfolding cacheable mar_bit covers
  same-cacheable i h =
      let u = r.above in let l = r.line in let e : (a + i) / 0x1000000 ≡ a / 0x1000000 = omega arith in
      rw (le-ltb (a + i) external_base (omega arith), le-ltb a external_base u, e) refl

  -- ---- past the caches
  module _ (past : cacheable y.rec a ≡ false) where
    past-read : (i : ℕ) → i < 64 → read_access 1 (a + i) y ≡ access 4 (memory_part (a + i) 1 y) y
    unfolding read_access
    past-read i h = let c = same-cacheable i h ∙ past in rw c refl

    past_next : (i : ℕ) → i < 64 → (step (byte_read a i) y).next ≡ y
    unfolding read_done
    past_next i h = ap (λ (x : Reply). x.next) (read_step i h) ∙ ap (λ (x : Access). x.next) (past-read i h)

    past_value : (i : ℕ) → i < 64 → (step (byte_read a i) y).value ≡ get_or y.ext (a - external_base + i) 0
    unfolding read_done memory_part
    past_value i h =
        let u = r.above in let w = r.within in let n = r.ext in let e : a + i - external_base ≡ a - external_base + i = omega arith in
        let b : memory_part (a + i) 1 y ≡ part y.ext (a - external_base + i) 1 = rw (le-ltb (a + i) external_base (omega arith), e) refl in
        ap (λ (x : Reply). x.value) (read_step i h) ∙ ap (λ (x : Access). little x.bytes) (past-read i h)
        ∙ ap little b ∙ part-one y.ext (a - external_base + i) (omega arith)

    pub past_row : (k : ℕ) → k ≤ 64 → reads_to a k y ≡ y
    unfolding each
    past_row zero h = refl
    past_row (suc k) h = ap (λ (x : State). (step (byte_read a k) x).next) (past_row k (omega arith)) ∙ past_next k h

    pub past-byte : (i : ℕ) → i < 64 → byte_given a y i ≡ get_or y.ext (a - external_base + i) 0 % 256
    past-byte i h = ap (λ (x : State). (step (byte_read a i) x).value % 256) (past_row i (omega arith)) ∙ ap (λ (n : ℕ). n % 256) (past_value i h)

  -- ---- where L1D has the line
  module _ (cached : cacheable y.rec a ≡ true) (held : in_l1d y a ≡ true) where
    same_set : (i : ℕ) → i < 64 → l1d_set_of (a + i) ≡ l1d_set_of a
    same_set i h = let l = r.line in omega arith

    same_line : (i : ℕ) → i < 64 → l1d_line (a + i) ≡ l1d_line a
    same_line i h = let l = r.line in omega arith

    same_way : (i : ℕ) → i < 64 → l1d_way y (a + i) ≡ l1d_way y a
    unfolding l1d_way
    same_way i h = let s = same_set i h in let l = same_line i h in rw (s, l) refl

    same-held : (i : ℕ) → i < 64 → in_l1d y (a + i) ≡ true
    unfolding in_l1d
    same-held i h = ap (λ (w : ℕ). ltb w 2) (same_way i h) ∙ held

    held-read : (i : ℕ) → i < 64 → read_access 1 (a + i) y ≡ read_hit 1 (a + i) y
    unfolding read_access
    held-read i h = let c = same-cacheable i h ∙ cached in let e = same-held i h in rw (c, e) refl

    pub held_next : (i : ℕ) → i < 64 → (step (byte_read a i) y).next ≡ use_hit (l1d_set_of a) (l1d_way y a) y
    unfolding read_done read_hit
    held_next i h =
        ap (λ (x : Reply). x.next) (read_step i h) ∙ ap (λ (x : Access). x.next) (held-read i h)
        ∙ (λ j. use_hit (same_set i h j) (same_way i h j) y)

    pub held-value : (i : ℕ) → i < 64 → l1d_way y a < 2 → (step (byte_read a i) y).value ≡ get_or y.l1d (l1d_data (l1d_set_of a) (l1d_way y a) + i) 0
    unfolding read_done read_hit
    held-value i h w =
        let l = r.line in let n = r.l1d in let o : (a + i) % 64 ≡ i = omega arith in
        ap (λ (x : Reply). x.value) (read_step i h) ∙ ap (λ (x : Access). little x.bytes) (held-read i h)
        ∙ rw (same_set i h, same_way i h, o) (part-one y.l1d (l1d_data (l1d_set_of a) (l1d_way y a) + i) (omega arith))

-- ---- a way that is used twice is used once
used-twice : (o : Order2) (w : ℕ) → used2 (used2 o w) w ≡ used2 o w
unfolding used2 in_front without
used-twice o w = let e = eq-eqb w w refl in rw e refl

module _ (y : State) (s w : ℕ) (inside : s < length y.rec.l1d) where
  used-set : l1d_set_at (use_l1d s w y).rec s ≡ l1d_use (l1d_set_at y.rec s) w
  unfolding use_l1d
  used-set = get_or-set_same y.rec.l1d s (l1d_use (l1d_set_at y.rec s) w) no_l1d_set inside

  use-twice : use_l1d s w (use_l1d s w y) ≡ use_l1d s w y
  unfolding use_l1d l1d_use
  use-twice =
      let v = l1d_set_at y.rec s in
      ap (λ (x : L1dSet). state (with_l1d_sets y.rec (set (set y.rec.l1d s (l1d_use v w)) s (l1d_use x w))) y.l1d y.l2 y.ext) used-set
      ∙ ap (λ (xs : List L1dSet). state (with_l1d_sets y.rec xs) y.l1d y.l2 y.ext)
      (set-set y.rec.l1d s (l1d_use v w) (l1d_use (l1d_use v w) w) ∙ ap (λ (o : Order2). set y.rec.l1d s (record { lines = v.lines; order = o })) (used-twice v.order w))

  pub hit-twice : use_hit s w (use_hit s w y) ≡ use_hit s w y
  unfolding use_hit use_l1d
  hit-twice = bool y.rec.frozen (λ t. rw t refl) (λ t. rw t (rw t at use-twice))

-- ---- what a row has, where L1D has its line, stays when its way is used
module _ (y : State) (a : ℕ) (r : Row y a) where
  abbrev y' : State
  y' = use_hit (l1d_set_of a) (l1d_way y a) y

  used-row : Row y' a
  unfolding use_hit use_l1d
  used-row = cond-elim (λ (x : State). Row x a) y.rec.frozen y (use_l1d (l1d_set_of a) (l1d_way y a) y) (λ _. r) (λ _. thawed)
    where
      thawed : Row (use_l1d (l1d_set_of a) (l1d_way y a) y) a
      thawed = record { line = r.line; above = r.above; within = r.within; ext = r.ext; l1d = r.l1d; sets = simp length-set r.sets }

  used-way : l1d_way y' a ≡ l1d_way y a
  unfolding use_hit l1d_way l1d_find l1d_use
  used-way =
      let n = r.sets in let s = l1d_set_of a in
      cond-elim (λ (x : State). l1d_way x a ≡ l1d_way y a) y.rec.frozen y (use_l1d s (l1d_way y a) y) (λ _. refl)
      (λ _. ap (λ (v : L1dSet). l1d_find v (l1d_line a)) (used-set y s (l1d_way y a) (omega arith)) ∙ same_lines)
    where
      same_lines : l1d_find (l1d_use (l1d_set_at y.rec (l1d_set_of a)) (l1d_way y a)) (l1d_line a) ≡ l1d_find (l1d_set_at y.rec (l1d_set_of a)) (l1d_line a)
      same_lines = refl

  used-cacheable : cacheable y'.rec a ≡ cacheable y.rec a
  unfolding use_hit use_l1d cacheable mar_bit
  used-cacheable = cond-elim (λ (x : State). cacheable x.rec a ≡ cacheable y.rec a) y.rec.frozen y (use_l1d (l1d_set_of a) (l1d_way y a) y) (λ _. refl) (λ _. refl)

  used-bytes : y'.l1d ≡ y.l1d
  unfolding use_hit use_l1d
  used-bytes = cond-elim (λ (x : State). x.l1d ≡ y.l1d) y.rec.frozen y (use_l1d (l1d_set_of a) (l1d_way y a) y) (λ _. refl) (λ _. refl)

-- ---- a row whose line L1D has behind its first read, in state y
module _ (z : State) (a : ℕ) (y : State) (first : y ≡ reads_to a 1 z) (r : Row y a) (cached : cacheable y.rec a ≡ true) (held : in_l1d y a ≡ true) where
  abbrev s : ℕ
  s = l1d_set_of a

  abbrev w : ℕ
  w = l1d_way y a

  abbrev u : State
  u = use_hit s w y

  found : w < 2
  unfolding in_l1d
  found = ltb-true w 2 held

  again : in_l1d u a ≡ true
  unfolding in_l1d
  again = ap (λ (v : ℕ). ltb v 2) (used-way y a r) ∙ held

  -- behind the first read, and behind each one more
  held-states : (k : ℕ) → k < 63 → reads_to a (suc (suc k)) z ≡ u
  unfolding each
  held-states zero h = ap (λ (x : State). (step (byte_read a 1) x).next) (sym first) ∙ held_next y a r cached held 1 (omega arith)
  held-states (suc k) h =
      let n = r.sets in
      ap (λ (x : State). (step (byte_read a (suc (suc k))) x).next) (held-states k (omega arith))
      ∙ held_next u a (used-row y a r) (used-cacheable y a r ∙ cached) again (suc (suc k)) (omega arith)
      ∙ ap (λ (v : ℕ). use_hit s v u) (used-way y a r) ∙ hit-twice y s w (omega arith)

  pub held-row : reads_to a 64 z ≡ u
  held-row = held-states 62 (omega arith)

  held-from : (x : State) → Row x a → cacheable x.rec a ≡ true → in_l1d x a ≡ true → x.l1d ≡ y.l1d → l1d_way x a ≡ w → (i : ℕ) → i < 64 →
      (step (byte_read a i) x).value ≡ get_or y.l1d (l1d_data s w + i) 0
  held-from x q c e b v i h =
      let f = found in
      held-value x a q c e i h (rw v f) ∙ (λ j. get_or (b j) (l1d_data s (v j) + i) 0)

  pub held-byte : (i : ℕ) → i < 63 → byte_given a z (suc i) ≡ get_or y.l1d (l1d_data s w + suc i) 0 % 256
  held-byte zero h =
      ap (λ (x : State). (step (byte_read a 1) x).value % 256) (sym first)
      ∙ ap (λ (n : ℕ). n % 256) (held-from y r cached held refl refl 1 (omega arith))
  held-byte (suc i) h =
      ap (λ (x : State). (step (byte_read a (suc (suc i))) x).value % 256) (held-states i (omega arith))
      ∙ ap (λ (n : ℕ). n % 256) (held-from u (used-row y a r) (used-cacheable y a r ∙ cached) again (used-bytes y a r) (used-way y a r) (suc (suc i)) (omega arith))

-- ---- where a row and a frame lie, as the words of the record tell
pub record RowAt (ws : List ℕ) (a : ℕ) : Type 0 where
  pub line : a % 64 ≡ 0
  pub above : external_base ≤ a
  pub within : a + 64 ≤ external_base + (record_in ws).extlen

pub record PlaceAt (ws : List ℕ) (p : ℕ) : Type 0 where
  pub line : p % 64 ≡ 0
  pub above : external_base ≤ p
  pub within : p + 3072 ≤ external_base + (record_in ws).extlen

-- a well-formed state has memories of their lengths
row_of : (z : State) → Well z → (a : ℕ) → a % 64 ≡ 0 → external_base ≤ a → a + 64 ≤ external_base + z.rec.extlen → Row z a
row_of z q a l u w =
    record { line = l; above = u; within = w; ext = q.tidy.sizes.ext_length; l1d = q.tidy.sizes.l1d_length; sets = (well-shape z q).l1d_sets }

-- ---- reads keep the record well formed, and E, MAR bits
module _ (z : State) (q : Well z) (p n : ℕ) (above : external_base ≤ p) (within : p + n ≤ external_base + z.rec.extlen) where
  all_there : AllFit (layout_of z.rec) p n
  all_there = record { fits = λ i h. record { low = λ l. absurd (omega arith); high = λ _. omega arith } }

  read-well : Well (reads_to p n z) × (layout_of (reads_to p n z).rec ≡ layout_of z.rec)
  read-well =
      let r = read_up_lem z Anything q p n all_there in let e = (up-bytes z q n p all_there).next ∙ sym (reads-called p n z q).same in
      rw (← e) (r.good, r.kept.layout)

  pub reads-lent : lent_due (reads_to p n z) ≡ 0
  reads-lent = well-due (reads_to p n z) read-well.0

  pub reads-ext : (reads_to p n z).rec.extlen ≡ z.rec.extlen
  reads-ext = ap (λ (g : Layout). g.ext) read-well.1

-- ---- the first byte to its column, then the others to theirs
all-added : (z : State) (a : ℕ) (ss ss₁ ss' : List ℕ) (b : ℕ) → b ≡ (step (command 0 1 a 0) z).value % 256 → length ss ≡ 64 → ss₁ ≡ set ss 0 (get_or ss 0 0 + b) →
    (f : ℕ → ℕ) → ((i : ℕ) → i < 63 → f (suc i) ≡ byte_given a z (suc i)) → Added 1 f ss₁ ss' → Added 0 (byte_given a z) ss ss'
unfolding each
all-added z a ss ss₁ ss' b eb l e₁ f g x = record { added = λ c _ h. at c h; front = λ c h. absurd (omega arith) }
  where
    at : (c : ℕ) → c < 64 → get_or ss' c 0 ≡ get_or ss c 0 + byte_given a z c
    at zero h = x.front 0 (omega arith) ∙ ap (λ (ts : List ℕ). get_or ts 0 0) e₁ ∙ get_or-set_same ss 0 (get_or ss 0 0 + b) 0 (omega arith)
        ∙ ap (λ (n : ℕ). get_or ss 0 0 + n) (eb ∙ (let e : a ≡ a + 0 = omega arith in ap (λ (k : ℕ). (step (command 0 1 k 0) z).value % 256) e))
    at (suc c) h =
        x.added (suc c) (omega arith) h
        ∙ (λ i. (ap (λ (ts : List ℕ). get_or ts (suc c) 0) e₁ ∙ get_or-set_other ss 0 (suc c) (get_or ss 0 0 + b) 0 (λ e. omega arith)) i + g c (omega arith) i)

-- ---- a row, on words that passed checks 1 and 2
module _ (ws ds ms es : List ℕ) (lent : lent_due (state_in ws ds ms es) ≡ 0) (a : ℕ) (at : RowAt ws a) where
  abbrev z : State
  z = state_in ws ds ms es

  well : Well z
  well = lent-well ws ds ms es lent

  row : Row z a
  row = row_of z well a at.line at.above at.within

  pub row_ends : a + 64 ≤ 4294967296
  row_ends = let m = well.tidy.sizes.ext_most in let w = at.within in omega arith

  pub ext_holds : a - external_base + 64 ≤ length es
  ext_holds = let w = at.within in let u = at.above in let n = row.ext in omega arith

  pub l1d_long : length ds ≡ 16384
  l1d_long = row.l1d

  -- past the caches
  module _ (past : cacheable (record_in ws) a ≡ false) where
    pub past_done : z ≡ reads_to a 64 z
    past_done = sym (past_row z a row past 64 (omega arith))

    pub past_told : ((i : ℕ) → Fits w8 (get_or es i 0)) → (p : ℕ) → p ≡ a - external_base → (ss ss' : List ℕ) → Added 0 (λ c. get_or es (p + c) 0) ss ss' →
        Added 0 (byte_given a z) ss ss'
    past_told bytes p e ss ss' x =
        record {
          added = λ c g h. let b = past-byte z a row past c h in let s = bytes (a - external_base + c) in
              x.added c g h ∙ ap (λ (n : ℕ). get_or ss c 0 + n) (let v : get_or es (a - external_base + c) 0 ≡ byte_given a z c = omega arith in rw e v);
          front = λ c g. absurd (omega arith);
        }

  -- behind the first read, in state y
  module _ (y : State) (first : y ≡ (step (command 0 1 a 0) z).next) where
    one_read : y ≡ reads_to a 1 z
    unfolding each
    one_read = let e : a ≡ a + 0 = omega arith in first ∙ ap (λ (k : ℕ). (step (command 0 1 k 0) z).next) e

    after_first : Well y × (layout_of y.rec ≡ layout_of z.rec)
    after_first = let e = one_read in let w = at.within in rw e (read-well z well a 1 at.above (omega arith))

    first_row : Row y a
    first_row =
        let x = ap (λ (g : Layout). g.ext) after_first.1 in let w = at.within in
        row_of y after_first.0 a at.line at.above (omega arith)

    -- L1D has the line in way w: the way is used, and the bytes stand there
    module _ (cached : cacheable (record_in ws) a ≡ true) (s w : ℕ) (own : s ≡ l1d_set_of a) (inside : w < 2) (found : w ≡ l1d_find (l1d_set_at y.rec s) a) where
      cached_still : cacheable y.rec a ≡ true
      unfolding cacheable
      cached_still = ap (λ (b : Bool). cond (ltb a external_base) true b) (ap (λ (g : Layout). g.mar a) after_first.1) ∙ cached

      in_way : l1d_way y a ≡ w
      unfolding l1d_way
      in_way = let l = at.line in let e : l1d_line a ≡ a = omega arith in rw (e, ← own) (sym found)

      held : in_l1d y a ≡ true
      unfolding in_l1d
      held = rw in_way (lt-ltb w 2 inside)

      pub held_done : use_hit s w y ≡ reads_to a 64 z
      held_done = let e = in_way in rw (own, ← e) (sym (held-row z a y one_read first_row cached_still held))

      pub held_told : ((i : ℕ) → Fits w8 (get_or y.l1d i 0)) → (ss ss₁ ss' : List ℕ) (b p : ℕ) → b ≡ (step (command 0 1 a 0) z).value % 256 → length ss ≡ 64 →
          ss₁ ≡ set ss 0 (get_or ss 0 0 + b) → p ≡ l1d_data s w → Added 1 (λ c. get_or y.l1d (p + c) 0) ss₁ ss' → Added 0 (byte_given a z) ss ss'
      held_told bytes ss ss₁ ss' b p eb l e₁ ep x =
          all-added z a ss ss₁ ss' b eb l e₁ (λ c. get_or y.l1d (p + c) 0) (λ i h.
          let e = held-byte z a y one_read first_row cached_still held i h in let k = bytes (p + suc i) in
          let q : p ≡ l1d_data (l1d_set_of a) (l1d_way y a) = ep ∙ (λ j. l1d_data (own j) (sym in_way j)) in
          let f : get_or y.l1d (p + suc i) 0 ≡ get_or y.l1d (l1d_data (l1d_set_of a) (l1d_way y a) + suc i) 0 = ap (λ (n : ℕ). get_or y.l1d (n + suc i) 0) q in omega arith) x

    -- else the others are read too
    pub rest_done : (x : State) → x ≡ reads_to (a + 1) 63 y → x ≡ reads_to a 64 z
    rest_done x e = e ∙ ap (reads_to (a + 1) 63) one_read ∙ reads-join a 1 z 63

    pub rest_told : (ss ss₁ ss' : List ℕ) (b : ℕ) → b ≡ (step (command 0 1 a 0) z).value % 256 → length ss ≡ 64 → ss₁ ≡ set ss 0 (get_or ss 0 0 + b) →
        (o o' : List ℕ) → 630 ≤ length o → o' ≡ up_answers (command 0 1 (a + 1) 0) 63 y o → Added 1 (λ c. get_or o' ((c - 1) * 10 + 2) 0) ss₁ ss' →
        Added 0 (byte_given a z) ss ss'
    rest_told ss ss₁ ss' b eb l e₁ o o' room eo x =
        all-added z a ss ss₁ ss' b eb l e₁ (λ c. get_or o' ((c - 1) * 10 + 2) 0) (λ i h.
        let k : suc i - 1 ≡ i = omega arith in let j : 1 + i ≡ suc i = omega arith in
        rw k (ap (λ (os : List ℕ). get_or os (i * 10 + 2) 0) eo ∙ answer-byte (command 0 1 (a + 1) 0) 63 y o room i h
        ∙ ap (λ (u : State). byte_given (a + 1) u i) one_read ∙ byte-join a 1 z i ∙ rw j refl)) x

-- ---- the rows of a frame at place p, on words that passed checks 1 and 2; r rows are read
module _ (ws ds ms es : List ℕ) (lent : lent_due (state_in ws ds ms es) ≡ 0) (p : ℕ) (at : PlaceAt ws p) where
  pub place_ends : p + 3072 ≤ 4294967296
  place_ends = let m = (lent-well ws ds ms es lent).tidy.sizes.ext_most in let w = at.within in omega arith

  module _ (vs d m e : List ℕ) (r : ℕ) (more : r < 48) (so : state_in vs d m e ≡ reads_to p (r * 64) (state_in ws ds ms es)) where
    pub next_lent : lent_due (state_in vs d m e) ≡ 0
    next_lent = let w = at.within in rw so (reads-lent (state_in ws ds ms es) (lent-well ws ds ms es lent) p (r * 64) at.above (omega arith))

    pub next_row : RowAt vs (p + r * 64)
    next_row =
        let l = at.line in let u = at.above in let w = at.within in
        let x : (record_in vs).extlen ≡ (record_in ws).extlen
        = ap (λ (y : State). y.rec.extlen) so ∙ reads-ext (state_in ws ds ms es) (lent-well ws ds ms es lent) p (r * 64) u (omega arith) in
        record { line = omega arith; above = omega arith; within = omega arith }

-- a line of L1D lies in its data
pub way_inside : (s w : ℕ) → s < 128 → w < 2 → l1d_data s w + 64 ≤ 16384
way_inside s w hs hw = omega arith

pub ruleset row_laws = (row_ends, ext_holds, l1d_long, way_inside, past_done, past_told, held_done, held_told, rest_done, rest_told)

pub ruleset frame_laws = (no_reads, place_ends, next_lent, next_row, room-left, no_rows, row_read, row-added, summed)
