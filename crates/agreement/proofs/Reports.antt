-- What an access reports of external memory (02, U2) is what 01's steps move there (`read-accounts`, `write-accounts`),
-- and it is at most 128 bytes each way (`at-most-128`). Shown for every state, well formed or not.
-- Why: each step that reaches external memory stores one stretch there or reads one, and the others leave it alone; a
-- step after another adds up what both moved (`then`). What was read stands at the end unless a later step stores:
-- where L2 is the home it is L2 alone that reads and stores, a line that leaves first; in mode 0 a line of L1D may
-- leave, and then the home itself is read, or written, once. No step changes the mode, so that one of the two moves
-- nothing, and the greater bound is the bound.
use Prim.Native.Nat.{ℕ, ◌+◌, ◌-◌, ◌≤◌}
use mathlib.Core.Bool.{Bool, true, false, cond}
use mathlib.Core.Path.{◌≡◌, refl, sym, ap, ◌∙◌, subst}
use mathlib.Core.Logic.{◌⊎◌, inl, inr, ⊎_elim}
use mathlib.Core.List.{List, [], ◌∷◌, ◌++◌}
use native.Mathlib.Omega.{arith}
use lib.ListN.{length}
use lib.Dec.{ltb, leb, eqb}
use borrow.Author.Tests.{ltb-false, le-ltb, leb-true, leb-false, eqb-true}
use Rattle.model.specs.Bytes.{part, stored, little_bytes}
use Rattle.model.specs.Memories.{external_base}
use Rattle.model.specs.Lines.{l1d_set_of, l1d_data, l1d_line, l2_line, upper_half, line_of}
use Rattle.model.specs.Records.{State, sram_of, mode0, l2_set_of, l2_data, l1d_set_at, l1d_line_at, l2_line_at, with_l1d_line, with_l2_line}
use Rattle.model.specs.Ways.{l1d_victim, l1d_way, l2_way, in_l1d, in_l2, use_l1d, use_l2, empty_l1d, empty_l2}
use Rattle.model.specs.Homes.{home_is_l2, put_memory, put_l2, put_home, l2_way_for, take_half, take_halves, write_out_l2, writeback_l2, evict_l2, fill_l2, bring_l2, fetch_l2}
use Rattle.model.specs.Access.{Access, cacheable, use_hit, read_hit, writeback_l1d, evict_l1d, fill_l1d, read_filled, read_emptied, read_thawed, read_frozen, read_miss, read_access, put_l1d, write_hit, write_home, write_miss, write_access}
use Rattle.model.specs.Reports.{Stretch, stretch, Moved, still, reading, writing, and_then, taken, memory_moved, put_memory_moved, write_out_l2_moved, fill_l2_moved, put_home_moved, writeback_l1d_moved, evict_l1d_moved, writeback_l2_moved, evict_l2_moved, bring_l2_moved, fetch_l2_moved, home_moved, fill_l1d_moved, write_home_moved, read_emptied_moved, read_thawed_moved, read_frozen_moved, read_miss_moved, read_moved, write_miss_moved, write_moved, Report, report, bytes_in, read_miss_report, write_miss_report, read_report, write_report, stored_all, Stand, Accounts, ReadAccounts, WriteAccounts}
use Rattle.model.specs.Reports as Says
use Rattle.model.specs.Refusals.{access_due}
use Rattle.model.specs.Fetches.{fetch_access, fetch_moved, fetch_report, FetchAccounts}
use Rattle.model.specs.Calls.{Reply, refused, carried_out, command_due, read_done, write_done, command_state, accepted, step, AtMost128}
use Rattle.model.specs.Laws.{bool, false-true, cond-elim, cond_both, length_part, length-little_bytes, stored-outside, stored-none}
use Rattle.model.specs.declared.Line.{Line}
use Rattle.model.specs.declared.Record.{Record}
use Rattle.agreement.proofs.Due.{access-tells}

-- ---- bytes that all lie in a memory or are none of them taken, or read
stored-taken : (e : List ℕ) (a : ℕ) (bs : List ℕ) → stored e a (taken e a bs) ≡ stored e a bs
unfolding taken
stored-taken e a bs =
    cond-elim (λ (x : List ℕ). stored e a x ≡ stored e a bs) (leb (a + length bs) (length e)) bs [] (λ _. refl)
    (λ t. stored-none e a ∙ sym (stored-outside e a bs (leb-false (a + length bs) (length e) t)))

taken-most : (e : List ℕ) (a : ℕ) (bs : List ℕ) → length (taken e a bs) ≤ length bs
unfolding taken
taken-most e a bs =
    cond-elim (λ (x : List ℕ). length x ≤ length bs) (leb (a + length bs) (length e)) bs [] (λ _. omega arith)
    (λ _. omega arith)

part_none : (e : List ℕ) (a : ℕ) → part e a 0 ≡ []
unfolding part
part_none e a = cond-elim (λ (x : List ℕ). x ≡ []) (leb (a + 0) (length e)) [] [] (λ _. refl) (λ _. refl)

pub part-outside : (e : List ℕ) (a n : ℕ) → leb (a + n) (length e) ≡ false → part e a n ≡ []
unfolding part
part-outside e a n t = rw t refl

part-stands : (e : List ℕ) (a n : ℕ) → (part e a (length (part e a n)) ≡ part e a n) × (length (part e a n) ≤ n)
part-stands e a n =
    bool (leb (a + n) (length e))
    (λ t. let l = length_part e a n (leb-true (a + n) (length e) t) in (rw l refl, omega arith))
    (λ t. rw (part-outside e a n t) (part_none e a, omega arith))

-- ---- stretches one after another; stretches of no bytes
pub bytes-both : (xs ys : List Stretch) → bytes_in (xs ++ ys) ≡ bytes_in xs + bytes_in ys
unfolding bytes_in
bytes-both [] ys = omega arith
bytes-both (x ∷ xs) ys = let r = bytes-both xs ys in omega arith

stored-both : (xs ys : List Stretch) (e : List ℕ) → stored_all (xs ++ ys) e ≡ stored_all ys (stored_all xs e)
unfolding stored_all
stored-both [] ys e = refl
stored-both (x ∷ xs) ys e = stored-both xs ys (stored e x.at x.bytes)

stand-both : {e : List ℕ} {xs ys : List Stretch} → Stand e xs → Stand e ys → Stand e (xs ++ ys)
stand-both Says.Stand.none t = t
stand-both (Says.Stand.more p s) t = Says.Stand.more p (stand-both s t)

no_bytes : (bs : List ℕ) → length bs ≡ 0 → bs ≡ []
no_bytes [] l = refl
no_bytes (b ∷ bs) l = absurd (omega arith)

none-stored : (xs : List Stretch) (e : List ℕ) → bytes_in xs ≡ 0 → stored_all xs e ≡ e
unfolding bytes_in stored_all
none-stored [] e l = refl
none-stored (x ∷ xs) e l =
    let n = no_bytes x.bytes (omega arith) in rw (n, stored-none e x.at) (none-stored xs e (omega arith))

none-stands : (xs : List Stretch) (e : List ℕ) → bytes_in xs ≡ 0 → Stand e xs
unfolding bytes_in
none-stands [] e l = Says.Stand.none
none-stands (x ∷ xs) e l =
    let n = no_bytes x.bytes (omega arith) in
    Says.Stand.more {x = x} (rw n (part_none e x.at)) (none-stands xs e (omega arith))

-- ---- a step within the caches and SRAM: it leaves the mode and external memory as they are
record Within (z z' : State) : Type 0 where
  mode : z'.rec.mode ≡ z.rec.mode
  ext : z'.ext ≡ z.ext

module _ (z : State) where
  within : Within z z
  within = record { mode = refl; ext = refl }

  use_l1d-within : (s w : ℕ) → Within z (use_l1d s w z)
  unfolding use_l1d
  use_l1d-within s w = record { mode = refl; ext = refl }

  use_l2-within : (t v : ℕ) → Within z (use_l2 t v z)
  unfolding use_l2
  use_l2-within t v = record { mode = refl; ext = refl }

  empty_l1d-within : (s w : ℕ) → Within z (empty_l1d s w z)
  unfolding empty_l1d with_l1d_line
  empty_l1d-within s w = record { mode = refl; ext = refl }

  empty_l2-within : (t v : ℕ) → Within z (empty_l2 t v z)
  unfolding empty_l2 with_l2_line
  empty_l2-within t v = record { mode = refl; ext = refl }

  put_l2-within : (t v a : ℕ) (bs : List ℕ) → Within z (put_l2 t v a bs z)
  unfolding put_l2 with_l2_line
  put_l2-within t v a bs = record { mode = refl; ext = refl }

  fill_l2-within : (t v b : ℕ) → Within z (fill_l2 t v b z)
  unfolding fill_l2 with_l2_line
  fill_l2-within t v b = record { mode = refl; ext = refl }

  fill_l1d-within : (w v a : ℕ) → Within z (fill_l1d w v a z)
  unfolding fill_l1d with_l1d_line
  fill_l1d-within w v a = record { mode = refl; ext = refl }

  put_l1d-within : (w a : ℕ) (bs : List ℕ) → Within z (put_l1d w a bs z)
  unfolding put_l1d with_l1d_line
  put_l1d-within w a bs = record { mode = refl; ext = refl }

  hit-within : (s w : ℕ) → Within z (use_hit s w z)
  unfolding use_hit
  hit-within s w = cond-elim (Within z) z.rec.frozen z (use_l1d s w z) (λ _. within) (λ _. use_l1d-within s w)

within-then : {z₁ z₂ z₃ : State} → Within z₁ z₂ → Within z₂ z₃ → Within z₁ z₃
within-then p q = record { mode = q.mode ∙ p.mode; ext = q.ext ∙ p.ext }

half-within : (t v b : ℕ) (z : State) → Within z (take_half t v b z)
unfolding take_half
half-within t v b z =
    let s = l1d_set_of b in let w = l1d_way z b in let y = put_l2 t v b (part z.l1d (l1d_data s w) 64) z in
    cond-elim (Within z) (in_l1d z b) (empty_l1d s w (cond (l1d_line_at z.rec s w).dirty y z)) z
    (λ _. cond-elim (λ (x : State). Within z (empty_l1d s w x)) (l1d_line_at z.rec s w).dirty y z
    (λ _. within-then (put_l2-within z t v b _) (empty_l1d-within y s w)) (λ _. empty_l1d-within z s w))
    (λ _. within z)

-- ---- a step m from state z, which is 01's step to z': what it stored is how external memory changed, what it read
-- stands there; at most r bytes were read and w stored
record Done (r w : ℕ) (z : State) (m : Moved) (z' : State) : Type 0 where
  next : m.next ≡ z'
  mode : m.next.rec.mode ≡ z.rec.mode
  stored : m.next.ext ≡ stored_all m.written z.ext
  stand : Stand m.next.ext m.read
  read : bytes_in m.read ≤ r
  written : bytes_in m.written ≤ w

-- of every state, in mode 0 (b is true) or in another
abbrev Does : Bool → ℕ → ℕ → (State → Moved) → (State → State) → Type 0
Does b r w f g = (z : State) → mode0 z.rec ≡ b → Done r w z (f z) (g z)

same-mode : (r r' : Record) → r'.mode ≡ r.mode → mode0 r' ≡ mode0 r
unfolding mode0
same-mode r r' e = rw e refl

-- ---- nothing moved, a stretch read, a stretch stored
module _ {z z' : State} (r w : ℕ) where
  still-done : Within z z' → Done r w z (still z') z'
  unfolding bytes_in stored_all
  still-done h =
      record {
        next = refl;
        mode = h.mode;
        stored = h.ext;
        stand = Says.Stand.none;
        read = omega arith;
        written = omega arith;
      }

  reading-done : (a n : ℕ) → n ≤ r → Within z z' → Done r w z (reading (stretch a (part z.ext a n)) z') z'
  unfolding bytes_in stored_all
  reading-done a n k h =
      let p = part-stands z.ext a n in let l = p.1 in
      record {
        next = refl;
        mode = h.mode;
        stored = h.ext;
        stand = Says.Stand.more {x = stretch a (part z.ext a n)} (rw h.ext p.0) Says.Stand.none;
        read = omega arith;
        written = omega arith;
      }

  writing-done : (a : ℕ) (bs : List ℕ) → length bs ≤ w → z'.rec.mode ≡ z.rec.mode → z'.ext ≡ stored z.ext a bs →
      Done r w z (writing (stretch a (taken z.ext a bs)) z') z'
  unfolding bytes_in stored_all
  writing-done a bs k h e =
      let l = taken-most z.ext a bs in
      record {
        next = refl;
        mode = h;
        stored = e ∙ sym (stored-taken z.ext a bs);
        stand = Says.Stand.none;
        read = omega arith;
        written = omega arith;
      }

-- ---- after a step within the caches; and one step after another, of which the first reads nothing or the second
-- stores nothing
within-done : {r w : ℕ} {z y z' : State} {m : Moved} → Within z y → Done r w y m z' → Done r w z m z'
within-done {m} h d =
    record {
      next = d.next;
      mode = d.mode ∙ h.mode;
      stored = d.stored ∙ ap (stored_all m.written) h.ext;
      stand = d.stand;
      read = d.read;
      written = d.written;
    }

then : {b : Bool} {r₁ w₁ r₂ w₂ r w : ℕ} {z z₁ : State} {m : Moved} (f : State → Moved) (g : State → State) →
    mode0 z.rec ≡ b →
    Done r₁ w₁ z m z₁ → Does b r₂ w₂ f g → (r₁ ≡ 0) ⊎ (w₂ ≡ 0) → r₁ + r₂ ≤ r → w₁ + w₂ ≤ w →
    Done r w z (and_then m f) (g z₁)
then {z} {m} f g u d h o p q =
    let y = m.next in let k = f y in
    let c = h y (same-mode z.rec y.rec d.mode ∙ u) in
    let r = bytes-both m.read k.read in let w = bytes-both m.written k.written in
    let d₁ = d.read in let d₂ = d.written in let c₁ = c.read in let c₂ = c.written in
    record {
      next = c.next ∙ ap g d.next;
      mode = c.mode ∙ d.mode;
      stored = c.stored ∙ ap (stored_all k.written) d.stored
          ∙ sym (stored-both m.written k.written z.ext);
      stand = stand-both
          (⊎_elim (λ e. none-stands m.read k.next.ext (omega arith))
          (λ e. subst (λ (l : List ℕ). Stand l m.read)
          (sym (c.stored ∙ none-stored k.written y.ext (omega arith))) d.stand)
          o)
          c.stand;
      read = omega arith;
      written = omega arith;
    }

-- .. after which nothing more is moved
then-still : {r w : ℕ} {z z₁ : State} {m : Moved} (g : State → State) → Done r w z m z₁ →
    ((y : State) → Within y (g y)) →
    Done r w z (and_then m (λ y. still (g y))) (g z₁)
then-still g d h =
    then {r₂ = 0} {w₂ = 0} (λ y. still (g y)) g refl d (λ y _. still-done 0 0 (h y)) (inr refl) (omega arith)
    (omega arith)

-- ---- the steps of 01 that reach external memory
module _ (r w : ℕ) where
  memory_done : (a n : ℕ) (z : State) → (ltb a external_base ≡ false → n ≤ r) → Done r w z (memory_moved a n z) z
  unfolding memory_moved
  memory_done a n z k =
      bool (ltb a external_base) (λ t. rw t (still-done r w (within z)))
      (λ t. rw t (reading-done r w (a - external_base) n (k t) (within z)))

  put-done : (a : ℕ) (bs : List ℕ) (z : State) → (ltb a external_base ≡ false → length bs ≤ w) →
      Done r w z (put_memory_moved a bs z) (put_memory a bs z)
  unfolding put_memory_moved put_memory
  put-done a bs z k =
      bool (ltb a external_base) (λ t. rw t (still-done r w (record { mode = refl; ext = refl })))
      (λ t. rw t (writing-done r w (a - external_base) bs (k t) refl refl))

marked-mode : (r : Record) (t v : ℕ) (x : Line) → (with_l2_line r t v x).mode ≡ r.mode
unfolding with_l2_line
marked-mode r t v x = refl

write_out-done : (t v : ℕ) (z : State) → Done 0 128 z (write_out_l2_moved t v z) (write_out_l2 t v z)
unfolding write_out_l2_moved write_out_l2
write_out-done t v z =
    let x = l2_line_at z.rec t v in let i = l2_data z.rec t v in
    bool x.valid
    (λ k. bool x.dirty
    (λ d. rw (k, d)
    (writing-done 0 128 (x.address - external_base) (part z.l2 i 128) (part-stands z.l2 i 128).1
    (marked-mode z.rec t v (line_of x.address false)) refl))
    (λ d. rw (k, d) (still-done 0 128 (within z))))
    (λ k. rw k (still-done 0 128 (within z)))

-- an L2 line leaves its way, and another comes
halves-within : (t v b : ℕ) (z : State) → Within z (take_halves t v b z)
unfolding take_halves
halves-within t v b z = within-then (half-within t v b z) (half-within t v (upper_half b) (take_half t v b z))

evict_l2-done : (t v : ℕ) (z : State) → Done 0 128 z (evict_l2_moved t v z) (evict_l2 t v z)
unfolding evict_l2_moved evict_l2 writeback_l2_moved writeback_l2
evict_l2-done t v z =
    let x = l2_line_at z.rec t v in let y = take_halves t v x.address z in
    then-still (empty_l2 t v)
    (cond_both (Done 0 128 z) x.valid (write_out_l2_moved t v y) (still z) (write_out_l2 t v y) z
    (λ _. within-done (halves-within t v x.address z) (write_out-done t v y)) (λ _. still-done 0 128 (within z)))
    (λ y. empty_l2-within y t v)

bring_l2-done : (t v c : ℕ) (z : State) → Done 128 128 z (bring_l2_moved t v c z) (bring_l2 t v c z)
unfolding bring_l2_moved fill_l2_moved
bring_l2-done t v c z =
    then-still (use_l2 t v)
    (then {r₂ = 128} {w₂ = 0} (fill_l2_moved t v c) (fill_l2 t v c) refl (evict_l2-done t v z)
    (λ y _. reading-done 128 0 (c - external_base) 128 (omega arith) (fill_l2-within y t v c)) (inl refl) (omega arith)
    (omega arith))
    (λ y. use_l2-within y t v)

-- ---- the home of an address, by the mode
l2-home : (r : Record) (a : ℕ) → home_is_l2 r a ≡ true → mode0 r ≡ false
unfolding home_is_l2
l2-home r a e =
    bool (ltb a external_base) (λ t. false-true (rw t at e))
    (λ t. bool (mode0 r) (λ u. false-true (rw (t, u) at e)) (λ u. u))

external-home : (r : Record) (a : ℕ) → home_is_l2 r a ≡ false → ltb a external_base ≡ false → mode0 r ≡ true
unfolding home_is_l2
external-home r a e t = bool (mode0 r) (λ u. u) (λ u. false-true (sym (rw (t, u) at e)))

-- so many in mode 0 and none in any other, and the other way round: never both
abbrev pub in_mode0 : Bool → ℕ → ℕ
in_mode0 b n = cond b n 0

abbrev in_others : Bool → ℕ → ℕ
in_others b n = cond b 0 n

either-most : (b : Bool) (m n k : ℕ) → m ≤ k → n ≤ k → in_others b m + in_mode0 b n ≤ k
either-most true m n k p q = omega arith
either-most false m n k p q = omega arith

either-none : (b : Bool) (m n : ℕ) → (in_others b m ≡ 0) ⊎ (in_mode0 b n ≡ 0)
either-none true m n = inl refl
either-none false m n = inr refl

module _ (b : Bool) where
  -- what goes past L2 goes there in mode 0
  past-l2 : (r : Record) (a n k : ℕ) → n ≤ k → mode0 r ≡ b → home_is_l2 r a ≡ false → ltb a external_base ≡ false →
      n ≤ in_mode0 b k
  past-l2 r a n k h u e t = let c : b ≡ true = sym u ∙ external-home r a e t in rw c h

  -- ---- an L1D line leaves
  writeback_l1d-done : (s w : ℕ) → Does b 0 (in_mode0 b 64) (writeback_l1d_moved s w) (writeback_l1d s w)
  unfolding writeback_l1d_moved writeback_l1d put_home_moved put_home
  writeback_l1d-done s w z u =
      let x = l1d_line_at z.rec s w in let a = x.address in let bs = part z.l1d (l1d_data s w) 64 in
      let k = in_mode0 b 64 in let stays = still-done {z' = z} 0 k (within z) in
      bool x.valid
      (λ v. bool x.dirty
      (λ d. bool (home_is_l2 z.rec a)
      (λ e. rw (v, d, e)
      (still-done 0 k
      (cond-elim (Within z) (in_l2 z a) (put_l2 (l2_set_of z.rec a) (l2_way z a) a bs z) z
      (λ _. put_l2-within z _ _ a bs) (λ _. within z))))
      (λ e. rw (v, d, e)
      (put-done 0 k a bs z (past-l2 z.rec a (length bs) 64 (part-stands z.l1d (l1d_data s w) 64).1 u e))))
      (λ d. rw (v, d) stays))
      (λ v. rw v stays)

  evict_l1d-done : (s w : ℕ) → Does b 0 (in_mode0 b 64) (evict_l1d_moved s w) (evict_l1d s w)
  unfolding evict_l1d_moved evict_l1d
  evict_l1d-done s w z u = then-still (empty_l1d s w) (writeback_l1d-done s w z u) (λ y. empty_l1d-within y s w)

  -- ---- L2 gets the line of a: only where there is an L2 cache
  fetch-done : (a : ℕ) → Does b (in_others b 128) (in_others b 128) (fetch_l2_moved a) (fetch_l2 a)
  unfolding fetch_l2_moved fetch_l2
  fetch-done a z u =
      let t = l2_set_of z.rec a in let v = l2_way_for z a in let k = in_others b 128 in
      bool (home_is_l2 z.rec a)
      (λ e. bool (in_l2 z a) (λ i. rw (e, i) (still-done k k (use_l2-within z t v)))
      (λ i. let c : b ≡ false = sym u ∙ l2-home z.rec a e in rw (e, i, c) (bring_l2-done t v (l2_line a) z)))
      (λ e. rw e (still-done k k (within z)))

  -- ---- n bytes at c come from the home of a, whose line they lie in; bytes go to the home
  home-done : (a c n : ℕ) → c ≤ a → Does b (in_mode0 b n) 0 (home_moved a c n) (λ z. z)
  unfolding home_moved
  home-done a c n h z u =
      bool (home_is_l2 z.rec a) (λ e. rw e (still-done (in_mode0 b n) 0 (within z)))
      (λ e. rw e
      (memory_done (in_mode0 b n) 0 c n z
      (λ t. let l = ltb-false c external_base t in past-l2 z.rec a n n (omega arith) u e
      (le-ltb a external_base (omega arith)))))

  fill_l1d-done : (w v a : ℕ) → Does b (in_mode0 b 64) 0 (fill_l1d_moved w v a) (fill_l1d w v a)
  unfolding fill_l1d_moved
  fill_l1d-done w v a z u =
      then-still (fill_l1d w v a) (home-done a (l1d_line a) 64 (omega arith) z u) (λ y. fill_l1d-within y w v a)

  write_home-done : (v a : ℕ) (bs : List ℕ) → Does b 0 (in_mode0 b (length bs)) (write_home_moved v a bs) (write_home v a bs)
  unfolding write_home_moved write_home
  write_home-done v a bs z u =
      let w = in_mode0 b (length bs) in
      bool (home_is_l2 z.rec a) (λ e. rw e (still-done 0 w (put_l2-within z (l2_set_of z.rec a) v a bs)))
      (λ e. rw e (put-done 0 w a bs z (past-l2 z.rec a (length bs) (length bs) (omega arith) u e)))

  -- ---- misses: at most k bytes each way, where k is 128 at least and no fewer than the bytes of the access
  module _ (k : ℕ) (h : 128 ≤ k) where
    read_emptied-done : (w n a : ℕ) → Does b k (in_others b 128) (read_emptied_moved w a) (λ z. (read_emptied w n a z).next)
    unfolding read_emptied_moved read_emptied read_filled
    read_emptied-done w n a z u =
        then-still (use_l1d (l1d_set_of a) w)
        (then (fill_l1d_moved w (l2_way_for z a) a) (fill_l1d w (l2_way_for z a) a) u (fetch-done a z u)
        (fill_l1d-done w (l2_way_for z a) a) (inr refl)
        (either-most b 128 64 k h (omega arith)) (omega arith))
        (λ y. use_l1d-within y (l1d_set_of a) w)

    read_frozen-done : (n a : ℕ) → n ≤ k → Does b k k (read_frozen_moved n a) (λ z. (read_frozen n a z).next)
    unfolding read_frozen_moved read_frozen
    read_frozen-done n a l z u =
        let both = either-most b 128 64 k h (omega arith) in
        then (home_moved a a n) (λ y. y) u (fetch-done a z u) (home-done a a n (omega arith)) (inr refl) (either-most b 128 n k h l)
        (omega arith)

    read_miss-done : (n a : ℕ) → n ≤ k → Does b k k (read_miss_moved n a) (λ z. (read_miss n a z).next)
    unfolding read_miss_moved read_miss read_thawed_moved read_thawed
    read_miss-done n a l z u =
        let s = l1d_set_of a in let w = l1d_victim (l1d_set_at z.rec s) in
        let both = either-most b 128 64 k h (omega arith) in
        cond_both (λ (m : Moved) (x : Access). Done k k z m x.next) z.rec.frozen (read_frozen_moved n a z)
        (read_thawed_moved a z)
        (read_frozen n a z) (read_thawed n a z)
        (λ _. read_frozen-done n a l z u)
        (λ _. then (read_emptied_moved w a) (λ y. (read_emptied w n a y).next) u (evict_l1d-done s w z u)
        (read_emptied-done w n a) (inl refl)
        (omega arith) (omega arith))

    write_miss-done : (a : ℕ) (bs : List ℕ) → length bs ≤ k →
        Does b k k (write_miss_moved a bs) (λ z. (write_miss a bs z).next)
    unfolding write_miss_moved write_miss
    write_miss-done a bs l z u =
        let n = length bs in let v = l2_way_for z a in let both = either-most b 128 n k h l in
        then (write_home_moved v a bs) (write_home v a bs) u (fetch-done a z u) (write_home-done v a bs)
        (either-none b 128 n) (omega arith) both

pub evict_l1d-next : (s w : ℕ) (z : State) → (evict_l1d_moved s w z).next ≡ evict_l1d s w z
evict_l1d-next s w z = (evict_l1d-done (mode0 z.rec) s w z refl).next

-- ---- accesses: a report, what was moved and 01's access go by the same two tests, to a hit, a miss or past the caches
by_tests : {A B C : Type 0} (R : A → B → C → Type 0) (c i : Bool) {x₁ x₂ x₃ : A} {y₁ y₂ y₃ : B} {z₁ z₂ z₃ : C} →
    R x₁ y₁ z₁ → R x₂ y₂ z₂ → R x₃ y₃ z₃ →
    R (cond c (cond i x₁ x₂) x₃) (cond c (cond i y₁ y₂) y₃) (cond c (cond i z₁ z₂) z₃)
by_tests R true true p q r = p
by_tests R true false p q r = q
by_tests R false i p q r = r

-- what is reported is the bytes of what was moved
record Reported (k : ℕ) (z : State) (q : Report) (m : Moved) (x : Access) : Type 0 where
  done : Done k k z m x.next
  read : q.read ≡ bytes_in m.read
  written : q.written ≡ bytes_in m.written

module _ (k : ℕ) (h : 128 ≤ k) (z : State) where
  read-reported : (n a : ℕ) → n ≤ k → Reported k z (read_report n a z) (read_moved n a z) (read_access n a z)
  unfolding read_report read_miss_report read_moved read_access read_hit bytes_in
  read-reported n a l =
      let m = read_miss_moved n a z in let d = read_miss-done (mode0 z.rec) k h n a l z refl in
      by_tests (Reported k z) (cacheable z.rec a) (in_l1d z a)
      (record { done = still-done k k (hit-within z (l1d_set_of a) (l1d_way z a)); read = refl; written = refl })
      (cond-elim (λ (q : Report). Reported k z q m (read_miss n a z)) z.rec.frozen (report _ _ m) (report _ _ m)
      (λ _. record { done = d; read = refl; written = refl }) (λ _. record { done = d; read = refl; written = refl }))
      (record { done = memory_done k k a n z (λ _. l); read = refl; written = refl })

  fetch-reported : (a : ℕ) → Reported k z (fetch_report a z) (fetch_moved a z) (fetch_access a z)
  unfolding fetch_report fetch_moved fetch_access bytes_in
  fetch-reported a =
      bool (cacheable z.rec a)
      (λ t. rw t (record { done = read_frozen-done (mode0 z.rec) k h 32 a (omega arith) z refl; read = refl; written = refl }))
      (λ t. rw t (record { done = memory_done k k a 32 z (λ _. omega arith); read = refl; written = refl }))

  write-reported : (a : ℕ) (bs : List ℕ) → length bs ≤ k →
      Reported k z (write_report a bs z) (write_moved a bs z) (write_access a bs z)
  unfolding write_report write_miss_report write_moved write_access write_hit bytes_in
  write-reported a bs l =
      let w = l1d_way z a in let y = put_l1d w a bs z in
      by_tests (Reported k z) (cacheable z.rec a) (in_l1d z a)
      (record {
        done = still-done k k (within-then (put_l1d-within z w a bs) (hit-within y (l1d_set_of a) w));
        read = refl;
        written = refl;
      })
      (record { done = write_miss-done (mode0 z.rec) k h a bs l z refl; read = refl; written = refl })
      (record { done = put-done k k a bs z (λ _. l); read = refl; written = refl })

accounts : {k : ℕ} {z : State} {q : Report} {m : Moved} {x : Access} → Reported k z q m x → Accounts z m x.next q
accounts {m} {x} r =
    let d = r.done in
    let e : m.next.ext ≡ x.next.ext = ap (λ (y : State). y.ext) d.next in
    record {
      next = d.next;
      stored = sym e ∙ d.stored;
      stand = subst (λ (l : List ℕ). Stand l m.read) e d.stand;
      read = r.read;
      written = r.written;
    }

pub read-accounts : ReadAccounts
read-accounts n a z = accounts (read-reported (128 + n) (omega arith) z n a (omega arith))

pub write-accounts : WriteAccounts
write-accounts a bs z = accounts (write-reported (128 + length bs) (omega arith) z a bs (omega arith))

pub fetch-accounts : FetchAccounts
fetch-accounts a z = accounts (fetch-reported 128 (omega arith) z a)

-- ---- an accepted access lies in one line, and so has far fewer bytes
access-most : (s e n a v : ℕ) → access_due s e n a v ≡ 0 → n ≤ 128
access-most s e n a v d = let k = access-tells s e n a v d in let m = k.more in let l = k.row in omega arith

most : {z : State} {q : Report} {m : Moved} {x : Access} → Reported 128 z q m x → (q.read ≤ 128) × (q.written ≤ 128)
most r =
    let d = r.done in let i = d.read in let j = d.written in let i' = r.read in let j' = r.written in
    (omega arith, omega arith)

pub fetch-most : (a : ℕ) (z : State) → ((fetch_report a z).read ≤ 128) × ((fetch_report a z).written ≤ 128)
fetch-most a z = most (fetch-reported 128 (omega arith) z a)

pub at-most-128 : AtMost128
unfolding step accepted read_done write_done command_due
at-most-128 c z =
    let P : Reply → Type 0 = λ x. (x.report.read ≤ 128) × (x.report.written ≤ 128) in
    let n = c.first in let a = c.second in let v = c.value in let bs = little_bytes v n in
    let l = length-little_bytes v n in
    let s = sram_of z.rec in let e = z.rec.extlen in let other = carried_out (command_state c z) in
    cond-elim P (eqb (command_due c z) 0) (accepted c z) (refused (command_due c z) z)
    (λ t. let d = eqb-true (command_due c z) 0 t in
    cond-elim P (eqb c.code 0) (read_done n a z) (cond (eqb c.code 1) (write_done n a v z) other)
    (λ k. most (read-reported 128 (omega arith) z n a (access-most s e n a 0 (rw k at d))))
    (λ k. cond-elim P (eqb c.code 1) (write_done n a v z) other
    (λ k'. let g = access-most s e n a v (rw (k, k') at d) in
    most (write-reported 128 (omega arith) z a bs (omega arith)))
    (λ _. (omega arith, omega arith))))
    (λ _. (omega arith, omega arith))

-- ---- where L2 has nothing to fetch (02, U6): it is not the home of a, or has a's line. Then only what goes past L2 is
-- moved, in mode 0
abbrev pub QuietL2 : State → ℕ → Type 0
QuietL2 z a = (home_is_l2 z.rec a ≡ false) ⊎ (in_l2 z a ≡ true)

quiet-fetch : (a : ℕ) (z : State) → QuietL2 z a → Done 0 0 z (fetch_l2_moved a z) (fetch_l2 a z)
unfolding fetch_l2_moved fetch_l2
quiet-fetch a z =
    ⊎_elim (λ e. rw e (still-done 0 0 (within z)))
    (λ i. bool (home_is_l2 z.rec a) (λ e. rw (e, i) (still-done 0 0 (use_l2-within z (l2_set_of z.rec a) (l2_way_for z a))))
    (λ e. rw e (still-done 0 0 (within z))))

abbrev pub leaving : ℕ → State → State
leaving a z = evict_l1d (l1d_set_of a) (l1d_victim (l1d_set_at z.rec (l1d_set_of a))) z

module _ (b : Bool) (a : ℕ) (z : State) (u : mode0 z.rec ≡ b) (y : QuietL2 z a) where
  quiet-frozen : (n : ℕ) → Done (in_mode0 b n) 0 z (read_frozen_moved n a z) (fetch_l2 a z)
  unfolding read_frozen_moved
  quiet-frozen n =
      then (home_moved a a n) (λ x. x) u (quiet-fetch a z y) (home-done b a a n (omega arith)) (inl refl) (omega arith) (omega arith)

  quiet-emptied : (w n : ℕ) → Done (in_mode0 b 64) 0 z (read_emptied_moved w a z) (read_emptied w n a z).next
  unfolding read_emptied_moved read_emptied read_filled
  quiet-emptied w n =
      then-still (use_l1d (l1d_set_of a) w)
      (then (fill_l1d_moved w (l2_way_for z a) a) (fill_l1d w (l2_way_for z a) a) u (quiet-fetch a z y)
      (fill_l1d-done b w (l2_way_for z a) a) (inl refl) (omega arith) (omega arith))
      (λ x. use_l1d-within x (l1d_set_of a) w)

  quiet_write : (bs : List ℕ) → Done 0 (in_mode0 b (length bs)) z (write_miss_moved a bs z) (write_miss a bs z).next
  unfolding write_miss_moved write_miss
  quiet_write bs =
      then (write_home_moved (l2_way_for z a) a bs) (write_home (l2_way_for z a) a bs) u (quiet-fetch a z y)
      (write_home-done b (l2_way_for z a) a bs) (inl refl) (omega arith) (omega arith)

-- so many in mode 0, and none in any other
mode0-most : (b : Bool) (n : ℕ) → in_mode0 b n ≤ n
mode0-most true n = omega arith
mode0-most false n = omega arith

quiet-thawed : (b : Bool) (a : ℕ) (z : State) → mode0 z.rec ≡ b → QuietL2 (leaving a z) a →
    (bytes_in (read_thawed_moved a z).read ≤ in_mode0 b 64) × (bytes_in (read_thawed_moved a z).written ≤ in_mode0 b 64)
unfolding read_thawed_moved
quiet-thawed b a z u y =
    let s = l1d_set_of a in let w = l1d_victim (l1d_set_at z.rec s) in
    let m = evict_l1d_moved s w z in let d = evict_l1d-done b s w z u in
    let v = same-mode z.rec m.next.rec d.mode ∙ u in
    let k = quiet-emptied b a m.next v (subst (λ (x : State). QuietL2 x a) (sym d.next) y) w 1 in
    let r = bytes-both m.read (read_emptied_moved w a m.next).read in
    let t = bytes-both m.written (read_emptied_moved w a m.next).written in
    let d₁ = d.read in let d₂ = d.written in let k₁ = k.read in let k₂ = k.written in
    (omega arith, omega arith)

-- what one byte costs
pub record AtMost (n : ℕ) (q : Report) : Type 0 where
  pub read : q.read ≤ n
  pub written : q.written ≤ n

module _ (a : ℕ) (z : State) where
  pub read-any : AtMost 128 (read_report 1 a z)
  read-any = let h = most (read-reported 128 (omega arith) z 1 a (omega arith)) in record { read = h.0; written = h.1 }

  pub read_past : cacheable z.rec a ≡ false → AtMost 1 (read_report 1 a z)
  unfolding read_report
  read_past c = let d = memory_done 1 1 a 1 z (λ _. omega arith) in rw c (record { read = d.read; written = d.written })

  pub read-hit : cacheable z.rec a ≡ true → in_l1d z a ≡ true → AtMost 0 (read_report 1 a z)
  unfolding read_report
  read-hit c i = rw (c, i) (record { read = omega arith; written = omega arith })

  -- a miss reports what it moved
  miss-most : (k : ℕ) → cacheable z.rec a ≡ true → in_l1d z a ≡ false →
      (bytes_in (read_miss_moved 1 a z).read ≤ k) × (bytes_in (read_miss_moved 1 a z).written ≤ k) → AtMost k (read_report 1 a z)
  unfolding read_report read_miss_report
  miss-most k c i h =
      let m = read_miss_moved 1 a z in
      rw (c, i) (cond-elim (AtMost k) z.rec.frozen (report _ _ m) (report _ _ m) (λ _. record { read = h.0; written = h.1 })
      (λ _. record { read = h.0; written = h.1 }))

  pub read-frozen : cacheable z.rec a ≡ true → in_l1d z a ≡ false → z.rec.frozen ≡ true → QuietL2 z a →
      AtMost (in_mode0 (mode0 z.rec) 1) (read_report 1 a z)
  unfolding read_miss_moved
  read-frozen c i f y =
      let k = in_mode0 (mode0 z.rec) 1 in
      let d = quiet-frozen (mode0 z.rec) a z refl y 1 in let d₁ = d.read in let d₂ = d.written in
      miss-most k c i
      (cond-elim (λ (m : Moved). (bytes_in m.read ≤ k) × (bytes_in m.written ≤ k)) z.rec.frozen (read_frozen_moved 1 a z) (read_thawed_moved a z)
      (λ _. (d₁, omega arith)) (λ t. false-true (sym t ∙ f)))

  pub read-thawed : cacheable z.rec a ≡ true → in_l1d z a ≡ false → z.rec.frozen ≡ false → QuietL2 (leaving a z) a →
      AtMost (in_mode0 (mode0 z.rec) 64) (read_report 1 a z)
  unfolding read_miss_moved
  read-thawed c i f y =
      let k = in_mode0 (mode0 z.rec) 64 in
      miss-most k c i
      (cond-elim (λ (m : Moved). (bytes_in m.read ≤ k) × (bytes_in m.written ≤ k)) z.rec.frozen (read_frozen_moved 1 a z) (read_thawed_moved a z)
      (λ t. false-true (sym f ∙ t)) (λ _. quiet-thawed (mode0 z.rec) a z refl y))

  module _ (bs : List ℕ) (one : length bs ≡ 1) where
    pub write-any : AtMost 128 (write_report a bs z)
    write-any = let h = most (write-reported 128 (omega arith) z a bs (omega arith)) in record { read = h.0; written = h.1 }

    pub write-past : cacheable z.rec a ≡ false → AtMost 1 (write_report a bs z)
    unfolding write_report
    write-past c = let d = put-done 1 1 a bs z (λ _. omega arith) in rw c (record { read = d.read; written = d.written })

    pub write-hit : cacheable z.rec a ≡ true → in_l1d z a ≡ true → AtMost 0 (write_report a bs z)
    unfolding write_report
    write-hit c i = rw (c, i) (record { read = omega arith; written = omega arith })

    pub write-quiet : cacheable z.rec a ≡ true → in_l1d z a ≡ false → QuietL2 z a → AtMost (in_mode0 (mode0 z.rec) 1) (write_report a bs z)
    unfolding write_report write_miss_report
    write-quiet c i y =
        let d = quiet_write (mode0 z.rec) a z refl y bs in
        let d₁ = d.read in let d₂ : bytes_in (write_miss_moved a bs z).written ≤ in_mode0 (mode0 z.rec) 1 = rw one at d.written in
        rw (c, i) (record { read = omega arith; written = d₂ })

-- in mode 0 and out of it
pub at-most-mode : (z : State) (a n : ℕ) (q : Report) → AtMost (in_mode0 (mode0 z.rec) n) q → AtMost n q
at-most-mode z a n q h = let k = mode0-most (mode0 z.rec) n in let h₀ = h.read in let h₁ = h.written in record { read = omega arith; written = omega arith }

pub none-from-l2 : (z : State) (a n : ℕ) (q : Report) → home_is_l2 z.rec a ≡ true → AtMost (in_mode0 (mode0 z.rec) n) q → AtMost 0 q
none-from-l2 z a n q e h = let u = l2-home z.rec a e in rw u at h
