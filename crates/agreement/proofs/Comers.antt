-- Which lines come: a call brings no line into a cache but those of the addresses that it accesses. What is shown is
-- said of any fact P about the lines of the record that stays when a line is emptied, gets dirty or clean, when a way
-- is used, and when all lines are made anew (`Stays`): such a fact stays through every step of a command and of a
-- transfer (`command-stays`, `transferred-stays`). Where it also stays when the L1D line and the L2 line of address a
-- are filled (`Fills`), it stays through a read and a write at a (`read_stays`, `write-stays`). Why: no step replaces a
-- line but by one of these. Nothing is asked of the record. For a line address l that is no invalid way's, "no way has
-- address l" is such a fact (`no-l1d`, `no-l2`), and it stays when another line is filled.
use Prim.Native.Nat.{ℕ, zero, suc, ◌+◌, ◌*◌, ◌/◌, ◌%◌, ◌<◌}
use mathlib.Core.Bool.{Bool, true, false, cond}
use mathlib.Core.Path.{◌≡◌, refl}
use mathlib.Core.Logic.{◌≢◌, ⊎_elim}
use mathlib.Core.List.{List, [], ◌∷◌}
use native.Mathlib.Omega.{arith}
use lib.ListN.{length, get_or}
use lib.Dec.{ltb, eqb}
use Rattle.model.specs.Basics.{each}
use Rattle.model.specs.Bytes.{part}
use Rattle.model.specs.Memories.{external_base}
use Rattle.model.specs.Lines.{l1d_set_of, l1d_data, l1d_line, l2_line, upper_half, line_of, empty_line, l1d_use, l2_use}
use Rattle.model.specs.Records.{State, l1d_set_at, l2_set_at, l1d_line_at, l2_line_at, l2_sets_of, l2_set_of, mode0, with_l1d_set, with_l2_set, with_l1d_line, with_l2_line, fresh_l1d_sets, fresh_l2_sets}
use Rattle.model.specs.Ways.{l1d_victim, l1d_way, l2_way, in_l1d, in_l2, use_l1d, use_l2, empty_l1d, empty_l2}
use Rattle.model.specs.Homes.{home_is_l2, put_memory, put_l2, put_home, take_half, take_halves, write_out_l2, writeback_l2, evict_l2, fill_l2, l2_way_for, fetch_l2, memory_part}
use Rattle.model.specs.Access.{Access, access, cacheable, use_hit, read_hit, writeback_l1d, evict_l1d, fill_l1d, read_filled, read_emptied, read_thawed, read_frozen, read_miss, read_access, put_l1d, write_hit, write_home, write_miss, write_access}
use Rattle.model.specs.Modes.{new_mode, change_mode, change_mar, change_freeze}
use Rattle.model.specs.Commands.{lines_touched, each_touched, each_l2, at_l2, at_l1d, unless_mode0, evict_all_l1d, l2_writeback_all, l2_writeback_invalidate_all, l2_writeback_block, l2_writeback_invalidate_block, l2_invalidate_block, l1d_writeback_invalidate_block, l1d_invalidate_block, l1d_invalidate_all, drop_l2}
use Rattle.model.specs.Unaligned.{read_up, write_up}
use Rattle.model.specs.Transfers.{sent_home, transferred_in}
use Rattle.model.specs.Fetches.{fetch_access}
use Rattle.model.specs.Calls.{command_state}
use Rattle.model.specs.Laws.{cond-elim}
use Rattle.model.specs.declared.Command.{Command}
use Rattle.model.specs.declared.Line.{Line}
use Rattle.model.specs.declared.Record.{Record}
use Rattle.agreement.proofs.Tables.{Store, l1d_store, l2_store, set_in, line_in, with_line, set_cases, line-used}
use Rattle.agreement.proofs.Sweeps.{each-by}
use Rattle.agreement.proofs.Changes.{fresh-l1d-empty, fresh-l2-empty}

-- ---- what a fact about lines has to stand
pub record Stays (P : Record → Type 0) : Type 0 where
  pub same : (r r' : Record) → r'.l1d ≡ r.l1d → r'.l2 ≡ r.l2 → P r → P r'
  pub l1d_kept : (r : Record) (s w : ℕ) (d : Bool) → P r → P (with_l1d_line r s w (line_of (l1d_line_at r s w).address d))
  pub l1d_emptied : (r : Record) (s w : ℕ) → P r → P (with_l1d_line r s w empty_line)
  pub l1d_used : (r : Record) (s w : ℕ) → P r → P (with_l1d_set r s (l1d_use (l1d_set_at r s) w))
  pub l2_kept : (r : Record) (t v : ℕ) (d : Bool) → P r → P (with_l2_line r t v (line_of (l2_line_at r t v).address d))
  pub l2_emptied : (r : Record) (t v : ℕ) → P r → P (with_l2_line r t v empty_line)
  pub l2_used : (r : Record) (t v : ℕ) → P r → P (with_l2_set r t (l2_use (l2_set_at r t) v))
  pub anew : (r : Record) → r.l1d ≡ fresh_l1d_sets → r.l2 ≡ fresh_l2_sets → P r

pub record Fills (a : ℕ) (P : Record → Type 0) : Type 0 where
  pub l1d_filled : (r : Record) (s w : ℕ) → P r → P (with_l1d_line r s w (line_of (l1d_line a) false))
  pub l2_filled : (r : Record) (t v : ℕ) → P r → P (with_l2_line r t v (line_of (l2_line a) false))

module _ (P : Record → Type 0) (k : Stays P) where
  abbrev Of : State → Type 0
  Of z = P z.rec

  -- a choice of two states
  either : (b : Bool) (x y : State) → Of x → Of y → Of (cond b x y)
  either b x y p q = cond-elim Of b x y (λ _. p) (λ _. q)

  loop : (f : ℕ → State → State) → ((i : ℕ) (x : State) → Of x → Of (f i x)) → (n : ℕ) (z : State) → Of z → Of (each f n z)
  loop f h n z p = each-by (λ _ x. Of x) f n z p (λ i _ x q. h i x q)

  -- ---- bytes that go somewhere
  put_memory-stays : (a : ℕ) (bs : List ℕ) (z : State) → Of z → Of (put_memory a bs z)
  unfolding put_memory
  put_memory-stays a bs z p = cond-elim Of (ltb a external_base) _ _ (λ _. p) (λ _. p)

  put_l2-stays : (t v a : ℕ) (bs : List ℕ) (z : State) → Of z → Of (put_l2 t v a bs z)
  unfolding put_l2
  put_l2-stays t v a bs z p = k.l2_kept z.rec t v true p

  put_home-stays : (a : ℕ) (bs : List ℕ) (z : State) → Of z → Of (put_home a bs z)
  unfolding put_home
  put_home-stays a bs z p =
      let x = put_l2 (l2_set_of z.rec a) (l2_way z a) a bs z in
      either (home_is_l2 z.rec a) (cond (in_l2 z a) x z) (put_memory a bs z)
      (either (in_l2 z a) x z (put_l2-stays (l2_set_of z.rec a) (l2_way z a) a bs z p) p) (put_memory-stays a bs z p)

  -- ---- lines that leave
  empty_l1d-stays : (s w : ℕ) (z : State) → Of z → Of (empty_l1d s w z)
  unfolding empty_l1d
  empty_l1d-stays s w z p = k.l1d_emptied z.rec s w p

  empty_l2-stays : (t v : ℕ) (z : State) → Of z → Of (empty_l2 t v z)
  unfolding empty_l2
  empty_l2-stays t v z p = k.l2_emptied z.rec t v p

  writeback_l1d-stays : (s w : ℕ) (z : State) → Of z → Of (writeback_l1d s w z)
  unfolding writeback_l1d
  writeback_l1d-stays s w z p =
      let l = l1d_line_at z.rec s w in let x = put_home l.address (part z.l1d (l1d_data s w) 64) z in
      either l.valid (cond l.dirty x z) z (either l.dirty x z (put_home-stays l.address (part z.l1d (l1d_data s w) 64) z p) p) p

  evict_l1d-stays : (s w : ℕ) (z : State) → Of z → Of (evict_l1d s w z)
  unfolding evict_l1d
  evict_l1d-stays s w z p = empty_l1d-stays s w (writeback_l1d s w z) (writeback_l1d-stays s w z p)

  take_half-stays : (t v b : ℕ) (z : State) → Of z → Of (take_half t v b z)
  unfolding take_half
  take_half-stays t v b z p =
      let s = l1d_set_of b in let w = l1d_way z b in let x = put_l2 t v b (part z.l1d (l1d_data s w) 64) z in
      let y = cond (l1d_line_at z.rec s w).dirty x z in
      either (in_l1d z b) (empty_l1d s w y) z
      (empty_l1d-stays s w y (either (l1d_line_at z.rec s w).dirty x z (put_l2-stays t v b (part z.l1d (l1d_data s w) 64) z p) p)) p

  take_halves-stays : (t v b : ℕ) (z : State) → Of z → Of (take_halves t v b z)
  unfolding take_halves
  take_halves-stays t v b z p = take_half-stays t v (upper_half b) (take_half t v b z) (take_half-stays t v b z p)

  write_out_l2-stays : (t v : ℕ) (z : State) → Of z → Of (write_out_l2 t v z)
  unfolding write_out_l2
  write_out_l2-stays t v z p =
      let l = l2_line_at z.rec t v in
      cond-elim Of l.valid _ z (λ _. cond-elim Of l.dirty _ z (λ _. k.l2_kept z.rec t v false p) (λ _. p)) (λ _. p)

  writeback_l2-stays : (t v : ℕ) (z : State) → Of z → Of (writeback_l2 t v z)
  unfolding writeback_l2
  writeback_l2-stays t v z p =
      let l = l2_line_at z.rec t v in let x = take_halves t v l.address z in
      either l.valid (write_out_l2 t v x) z (write_out_l2-stays t v x (take_halves-stays t v l.address z p)) p

  pub evict_l2-stays : (t v : ℕ) (z : State) → Of z → Of (evict_l2 t v z)
  unfolding evict_l2
  evict_l2-stays t v z p = empty_l2-stays t v (writeback_l2 t v z) (writeback_l2-stays t v z p)

  -- ---- the line of an address, the lines of a block, all lines
  at-l1d : (f : ℕ → ℕ → State → State) → ((s w : ℕ) (x : State) → Of x → Of (f s w x)) → (a : ℕ) (z : State) → Of z → Of (at_l1d f a z)
  unfolding at_l1d
  at-l1d f h a z p = either (in_l1d z a) (f (l1d_set_of a) (l1d_way z a) z) z (h (l1d_set_of a) (l1d_way z a) z p) p

  pub at-l2 : (f : ℕ → ℕ → State → State) → ((t v : ℕ) (x : State) → Of x → Of (f t v x)) → (a : ℕ) (z : State) → Of z → Of (at_l2 f a z)
  unfolding at_l2
  at-l2 f h a z p = either (in_l2 z a) (f (l2_set_of z.rec a) (l2_way z a) z) z (h (l2_set_of z.rec a) (l2_way z a) z p) p

  touched : (n : ℕ) (f : ℕ → State → State) → ((a : ℕ) (x : State) → Of x → Of (f a x)) → (b c : ℕ) (z : State) → Of z → Of (each_touched n f b c z)
  unfolding each_touched
  touched n f h b c z p = loop (λ i. f ((b / n + i) * n)) (λ i x q. h ((b / n + i) * n) x q) (lines_touched n b c) z p

  each-l2 : (f : ℕ → ℕ → State → State) → ((t v : ℕ) (x : State) → Of x → Of (f t v x)) → (z : State) → Of z → Of (unless_mode0 (each_l2 f) z)
  unfolding unless_mode0 each_l2
  each-l2 f h z p =
      cond-elim Of (mode0 z.rec) z _ (λ _. p) (λ _. loop (λ i. f (i / 4) (i % 4)) (λ i x q. h (i / 4) (i % 4) x q) (l2_sets_of z.rec * 4) z p)

  block-l2 : (f : ℕ → ℕ → State → State) → ((t v : ℕ) (x : State) → Of x → Of (f t v x)) → (b c : ℕ) (z : State) → Of z →
      Of (unless_mode0 (each_touched 128 (at_l2 f) b c) z)
  unfolding unless_mode0
  block-l2 f h b c z p =
      either (mode0 z.rec) z (each_touched 128 (at_l2 f) b c z) p (touched 128 (at_l2 f) (λ a x q. at-l2 f h a x q) b c z p)

  drop_l2-stays : (t v : ℕ) (z : State) → Of z → Of (drop_l2 t v z)
  unfolding drop_l2
  drop_l2-stays t v z p =
      let b = (l2_line_at z.rec t v).address in let x = at_l1d empty_l1d b z in
      empty_l2-stays t v (at_l1d empty_l1d (upper_half b) x) (at-l1d empty_l1d empty_l1d-stays (upper_half b) x (at-l1d empty_l1d empty_l1d-stays b z p))

  -- ---- the commands
  evict_all_l1d-stays : (z : State) → Of z → Of (evict_all_l1d z)
  unfolding evict_all_l1d
  evict_all_l1d-stays z p = loop (λ i. evict_l1d (i / 2) (i % 2)) (λ i x q. evict_l1d-stays (i / 2) (i % 2) x q) 256 z p

  pub l1d_block-stays : (b c : ℕ) (z : State) → Of z → Of (l1d_writeback_invalidate_block b c z)
  unfolding l1d_writeback_invalidate_block
  l1d_block-stays b c z p = touched 64 (at_l1d evict_l1d) (λ a x q. at-l1d evict_l1d evict_l1d-stays a x q) b c z p

  l1d_drop-stays : (b c : ℕ) (z : State) → Of z → Of (l1d_invalidate_block b c z)
  unfolding l1d_invalidate_block
  l1d_drop-stays b c z p = touched 64 (at_l1d empty_l1d) (λ a x q. at-l1d empty_l1d empty_l1d-stays a x q) b c z p

  change_mode-stays : (m : ℕ) (z : State) → Of (change_mode m z)
  unfolding change_mode new_mode
  change_mode-stays m z = k.anew (change_mode m z).rec refl refl

  pub command-stays : (c : Command) (z : State) → Of z → Of (command_state c z)
  unfolding command_state l2_writeback_all l2_writeback_invalidate_all l2_writeback_block l2_writeback_invalidate_block l2_invalidate_block l1d_invalidate_all change_mar change_freeze
  command-stays c z p =
      let a = c.first in let b = c.second in
      cond-elim Of (eqb c.code 2) (l2_writeback_all z) _ (λ _. each-l2 writeback_l2 writeback_l2-stays (evict_all_l1d z) (evict_all_l1d-stays z p))
      (λ _. cond-elim Of (eqb c.code 3) (l2_writeback_invalidate_all z) _ (λ _. each-l2 evict_l2 evict_l2-stays (evict_all_l1d z) (evict_all_l1d-stays z p))
      (λ _. cond-elim Of (eqb c.code 4) (l2_writeback_block a b z) _
      (λ _. block-l2 writeback_l2 writeback_l2-stays a b (l1d_writeback_invalidate_block a b z) (l1d_block-stays a b z p))
      (λ _. cond-elim Of (eqb c.code 5) (l2_writeback_invalidate_block a b z) _
      (λ _. block-l2 evict_l2 evict_l2-stays a b (l1d_writeback_invalidate_block a b z) (l1d_block-stays a b z p))
      (λ _. cond-elim Of (eqb c.code 6) (l2_invalidate_block a b z) _
      (λ _. block-l2 drop_l2 drop_l2-stays a b (l1d_invalidate_block a b z) (l1d_drop-stays a b z p))
      (λ _. cond-elim Of (eqb c.code 7) (l1d_writeback_invalidate_block a b z) _ (λ _. l1d_block-stays a b z p)
      (λ _. cond-elim Of (eqb c.code 8) (l1d_invalidate_block a b z) _ (λ _. l1d_drop-stays a b z p)
      (λ _. cond-elim Of (eqb c.code 9) (l1d_invalidate_all z) _
      (λ _. loop (λ i. empty_l1d (i / 2) (i % 2)) (λ i x q. empty_l1d-stays (i / 2) (i % 2) x q) 256 z p)
      (λ _. cond-elim Of (eqb c.code 10) (change_mode a z) _ (λ _. change_mode-stays a z)
      (λ _. cond-elim Of (eqb c.code 11) (change_mar a b z) _ (λ _. k.same z.rec (change_mar a b z).rec refl refl p)
      (λ _. cond-elim Of (eqb c.code 12) (change_freeze a z) z (λ _. k.same z.rec (change_freeze a z).rec refl refl p) (λ _. p)))))))))))

  -- ---- transfers
  pub sent-stays : (a n : ℕ) (z : State) → Of z → Of (sent_home a n z)
  unfolding sent_home
  sent-stays a n z p = either (ltb a external_base) (l1d_writeback_invalidate_block a (n / 4) z) z (l1d_block-stays a (n / 4) z p) p

  pub transferred-stays : (a : ℕ) (bs : List ℕ) (z : State) → Of z → Of (transferred_in a bs z)
  unfolding transferred_in
  transferred-stays a bs z p = put_memory-stays a bs (sent_home a (length bs) z) (sent-stays a (length bs) z p)

  -- ---- accesses
  use_l1d-stays : (s w : ℕ) (z : State) → Of z → Of (use_l1d s w z)
  unfolding use_l1d
  use_l1d-stays s w z p = k.l1d_used z.rec s w p

  use_hit-stays : (s w : ℕ) (z : State) → Of z → Of (use_hit s w z)
  unfolding use_hit
  use_hit-stays s w z p = either z.rec.frozen z (use_l1d s w z) p (use_l1d-stays s w z p)

  module _ (a : ℕ) (f : Fills a P) where
    fetch_l2-stays : (z : State) → Of z → Of (fetch_l2 a z)
    unfolding fetch_l2 fill_l2 use_l2
    fetch_l2-stays z p =
        let t = l2_set_of z.rec a in let v = l2_way_for z a in let x = evict_l2 t v z in let y = fill_l2 t v (l2_line a) x in
        let hit : Of (use_l2 t v z) = k.l2_used z.rec t v p in
        let filled : Of y = f.l2_filled x.rec t v (evict_l2-stays t v z p) in
        let miss : Of (use_l2 t v y) = k.l2_used y.rec t v filled in
        either (home_is_l2 z.rec a) (cond (in_l2 z a) (use_l2 t v z) (use_l2 t v y)) z (either (in_l2 z a) (use_l2 t v z) (use_l2 t v y) hit miss) p

    abbrev OfAccess : Access → Type 0
    OfAccess x = Of x.next

    pub read_stays : (n : ℕ) (z : State) → Of z → Of (read_access n a z).next
    unfolding read_access read_hit read_miss read_frozen read_thawed read_emptied read_filled fill_l1d
    read_stays n z p =
        let s = l1d_set_of a in let w = l1d_victim (l1d_set_at z.rec s) in let x = evict_l1d s w z in let y = fetch_l2 a x in let v = l2_way_for x a in
        let fetched : Of y = fetch_l2-stays x (evict_l1d-stays s w z p) in
        let filled : Of (fill_l1d w v a y) = f.l1d_filled y.rec s w fetched in
        cond-elim OfAccess (cacheable z.rec a) _ (access 4 (memory_part a n z) z)
        (λ _. cond-elim OfAccess (in_l1d z a) (read_hit n a z) (read_miss n a z) (λ _. use_hit-stays s (l1d_way z a) z p)
        (λ _. cond-elim OfAccess z.rec.frozen (read_frozen n a z) (read_thawed n a z) (λ _. fetch_l2-stays z p)
        (λ _. use_l1d-stays s w (fill_l1d w v a y) filled)))
        (λ _. p)

    pub fetch-stays : (z : State) → Of z → Of (fetch_access a z).next
    unfolding fetch_access read_frozen
    fetch-stays z p =
        cond-elim OfAccess (cacheable z.rec a) (read_frozen 32 a z) (access 4 (memory_part a 32 z) z) (λ _. fetch_l2-stays z p) (λ _. p)

    pub write-stays : (bs : List ℕ) (z : State) → Of z → Of (write_access a bs z).next
    unfolding write_access write_hit write_miss write_home put_l1d
    write-stays bs z p =
        let s = l1d_set_of a in let w = l1d_way z a in let x = put_l1d w a bs z in let y = fetch_l2 a z in let v = l2_way_for z a in
        let put : Of x = k.l1d_kept z.rec s w true p in let fetched = fetch_l2-stays z p in
        cond-elim OfAccess (cacheable z.rec a) _ (access 4 [] (put_memory a bs z))
        (λ _. cond-elim OfAccess (in_l1d z a) (write_hit a bs z) (write_miss a bs z) (λ _. use_hit-stays s w x put)
        (λ _. either (home_is_l2 y.rec a) (put_l2 (l2_set_of y.rec a) v a bs y) (put_memory a bs y)
        (put_l2-stays (l2_set_of y.rec a) v a bs y fetched) (put_memory-stays a bs y fetched)))
        (λ _. put_memory-stays a bs z p)

  -- ---- non-aligned accesses: each of their bytes
  pub read-up-stays : (n a : ℕ) → ((i : ℕ) → i < n → Fills (a + i) P) → (z : State) → Of z → Of (read_up n a z).next
  unfolding read_up
  read-up-stays zero a f z p = p
  read-up-stays (suc n) a f z p = read_stays (a + n) (f n (omega arith)) 1 (read_up n a z).next (read-up-stays n a (λ i h. f i (omega arith)) z p)

  pub write-up-stays : (n a : ℕ) (bs : List ℕ) → ((i : ℕ) → i < n → Fills (a + i) P) → (z : State) → Of z → Of (write_up n a bs z).next
  unfolding write_up
  write-up-stays zero a bs f z p = p
  write-up-stays (suc n) a bs f z p =
      write-stays (a + n) (f n (omega arith)) (get_or bs n 0 ∷ []) (write_up n a bs z).next (write-up-stays n a bs (λ i h. f i (omega arith)) z p)

-- ---- no way has address l, valid or not: the two facts
abbrev pub NoL1d : ℕ → Record → Type 0
NoL1d l r = (s w : ℕ) → (l1d_line_at r s w).address ≢ l

abbrev pub NoL2 : ℕ → Record → Type 0
NoL2 l r = (t v : ℕ) → (l2_line_at r t v).address ≢ l

-- a line that is put into a way of either cache: each way has it, or what it had, whatever the lengths of the arrays
module _ (k : Store) (l : ℕ) (xs : List k.OneSet) (s w : ℕ) (none : (s' w' : ℕ) → (line_in k xs s' w').address ≢ l) where
  put-none : (x : Line) → x.address ≢ l → (s' w' : ℕ) → (line_in k (with_line k xs s w x) s' w').address ≢ l
  put-none x n s' w' =
      ⊎_elim
      (λ e. let e₁ = e.1 in let p = k.put-lines (set_in k xs s) w x in
      rw (e₁, p) (⊎_elim (λ g. let g₁ = g.1 in rw g₁ n) (λ g. rw g (none s w')) (set_cases (k.lines (set_in k xs s)) w w' x empty_line)))
      (λ e. rw e (none s' w'))
      (set_cases xs s s' (k.put (set_in k xs s) w x) k.none)

put-l1d : (l : ℕ) (r : Record) (s w : ℕ) (x : Line) → x.address ≢ l → NoL1d l r → NoL1d l (with_l1d_line r s w x)
unfolding with_l1d_line
put-l1d l r s w x n p = put-none l1d_store l r.l1d s w p x n

put-l2 : (l : ℕ) (r : Record) (t v : ℕ) (x : Line) → x.address ≢ l → NoL2 l r → NoL2 l (with_l2_line r t v x)
unfolding with_l2_line
put-l2 l r t v x n p = put-none l2_store l r.l2 t v p x n

-- a way that is used: the lines are the same
use-l1d : (l : ℕ) (r : Record) (s w : ℕ) → NoL1d l r → NoL1d l (with_l1d_set r s (l1d_use (l1d_set_at r s) w))
unfolding l1d_use
use-l1d l r s w p s' w' = let e = line-used l1d_store r.l1d s (l1d_use (l1d_set_at r s) w) refl s' w' in rw e (p s' w')

use-l2 : (l : ℕ) (r : Record) (t v : ℕ) → NoL2 l r → NoL2 l (with_l2_set r t (l2_use (l2_set_at r t) v))
unfolding l2_use
use-l2 l r t v p t' v' = let e = line-used l2_store r.l2 t (l2_use (l2_set_at r t) v) refl t' v' in rw e (p t' v')

module _ (l : ℕ) (some : 0 < l) where
  not-empty : empty_line.address ≢ l
  not-empty e = absurd (omega arith)

  pub no-l1d : Stays (NoL1d l)
  unfolding with_l2_line
  no-l1d =
      record {
        same = λ r r' e _ p. rw e p;
        l1d_kept = λ r s w d p. put-l1d l r s w (line_of (l1d_line_at r s w).address d) (p s w) p;
        l1d_emptied = λ r s w p. put-l1d l r s w empty_line not-empty p;
        l1d_used = λ r s w p. use-l1d l r s w p;
        l2_kept = λ r t v d p. p;
        l2_emptied = λ r t v p. p;
        l2_used = λ r t v p. p;
        anew = λ r e _ s w. let x = fresh-l1d-empty r e s w in rw x not-empty;
      }

  pub no-l2 : Stays (NoL2 l)
  unfolding with_l1d_line
  no-l2 =
      record {
        same = λ r r' _ e p. rw e p;
        l1d_kept = λ r s w d p. p;
        l1d_emptied = λ r s w p. p;
        l1d_used = λ r s w p. p;
        l2_kept = λ r t v d p. put-l2 l r t v (line_of (l2_line_at r t v).address d) (p t v) p;
        l2_emptied = λ r t v p. put-l2 l r t v empty_line not-empty p;
        l2_used = λ r t v p. use-l2 l r t v p;
        anew = λ r _ e t v. let x = fresh-l2-empty r e t v in rw x not-empty;
      }

pub other-l1d : (l a : ℕ) → l1d_line a ≢ l → Fills a (NoL1d l)
unfolding with_l2_line
other-l1d l a n = record { l1d_filled = λ r s w p. put-l1d l r s w (line_of (l1d_line a) false) n p; l2_filled = λ r t v p. p }

pub other-l2 : (l a : ℕ) → l2_line a ≢ l → Fills a (NoL2 l)
unfolding with_l1d_line
other-l2 l a n = record { l1d_filled = λ r s w p. p; l2_filled = λ r t v p. put-l2 l r t v (line_of (l2_line a) false) n p }
