-- Accesses, in two runs at once: what L2 does for a miss, the line that L1D gets, a read and a write whole. Shown: the
-- same server, bytes that stand for the same addresses, and `Pair` again. Why: hit or miss, the way and the server go
-- by the record; the line fetched is an area at its home and so in its way.
use Prim.Native.Nat.{ℕ, ◌+◌, ◌-◌, ◌/◌, ◌%◌, ◌≤◌, ◌<◌}
use mathlib.Core.Bool.{Bool, true, false, not, cond}
use mathlib.Core.Path.{◌≡◌, refl, sym, ap, ◌∙◌, subst}
use mathlib.Core.Logic.{◌≢◌}
use mathlib.Core.List.{List, []}
use native.Mathlib.Omega.{arith}
use native.Mathlib.Nat.{mod-lt}
use lib.Dec.{ltb, eqb}
use Rattle.model.specs.Bytes.{part}
use Rattle.model.specs.Memories.{external_base}
use Rattle.model.specs.Lines.{l1d_set_of, l1d_data, line_of, l1d_line, l2_line, l2_set_in, l2_use}
use Rattle.model.specs.Records.{State, l2_sets_of, l2_set_of, l2_data, l1d_set_at, l2_set_at, l1d_line_at, with_l2_line}
use Rattle.model.specs.Ways.{l1d_victim, l2_victim, l1d_way, l2_way, in_l1d, in_l2, use_l1d, use_l2}
use Rattle.model.specs.Homes.{home_is_l2, memory_part, put_memory, put_l2, l2_way_for, evict_l2, fill_l2, bring_l2, fetch_l2, home_server}
use Rattle.model.specs.Fetches.{fetch_access}
use Rattle.model.specs.Access.{Access, access, cacheable, l1d_bytes, use_hit, read_hit, home_part, fill_l1d, read_filled, read_emptied, read_thawed, read_frozen, read_miss, read_access, put_l1d, write_hit, write_home, write_miss, write_access, evict_l1d}
use Rattle.model.specs.Laws.{false-true, cond-elim, mode0-sets, cond_both}
use Rattle.model.specs.declared.Line.{Line}
use Rattle.agreement.proofs.Tables.{l2_store, line_same}
use Rattle.agreement.proofs.Good.{l1d_level, Hit, l1d-hit, l2-hit, l1d-victim-bound, l2-victim-bound, home-l2, l2-used-line}
use Rattle.two_runs.proofs.Areas.{Pairing, Twins, no-twins, Area, area-part, area-stored, area-filled}
use Rattle.two_runs.proofs.Held.{Exists, exists-used, exists-put}
use Rattle.two_runs.proofs.Pair.{Layout, Pair, Keeps, twin, one-record, lift, l1d-room, l2-room, use_l1d-pair, use_l2-pair, l1d-put, l2-put, memory-twins, put_memory-pair}
use Rattle.two_runs.proofs.Leaving.{Holding, put_l2-pair, evict_l1d-both, evict_l2-both}

-- n bytes at a, in one line, in SRAM or in external memory
pub record Fits (g : Layout) (a n : ℕ) : Type 0 where
  pub more : 1 ≤ n
  pub row : a % 64 + n ≤ 64
  pub low : a < external_base → a + n ≤ g.sram
  pub high : external_base ≤ a → a + n ≤ external_base + g.ext

-- what two accesses of n bytes at a give
pub record Accesses (P : Pairing) (g : Layout) (a n : ℕ) (x x' : Access) : Type 0 where
  pub server : x.server ≡ x'.server
  pub bytes : Twins P a n x.bytes x'.bytes
  pub next : Pair P g x.next x'.next

-- L2 has the line at b in slot t, v: its bytes, and the line itself if the arrays have that slot
record Has (P : Pairing) (g : Layout) (t v b : ℕ) (z z' : State) : Type 0 where
  set : t < g.sets
  way : v < 4
  pair : Pair P g z z'
  area : Area P b (l2_data z.rec t v) 128 z.l2 z'.l2
  there : Exists l2_store z.rec.l2 t v → Holding t v b z

-- the home of a is L2, and the L2 set of a, by the number of sets
abbrev home_of : Layout → ℕ → Bool
home_of g a = cond (ltb a external_base) false (not (eqb g.sets 0))

abbrev set_for : Layout → ℕ → ℕ
set_for g a = l2_set_in g.sets a

-- what a fetch leaves: if L2 is the home of a, it has the line in way v
record Fetched (P : Pairing) (g : Layout) (a t v : ℕ) (z z' : State) : Type 0 where
  pair : Pair P g z z'
  has : home_of g a ≡ true → Has P g t v (l2_line a) z z'

-- way w of L1D has the bytes of the line of a
abbrev Filled : Pairing → Layout → ℕ → ℕ → State → State → Type 0
Filled P g w a z z' = Pair P g z z' × Area P (l1d_line a) (l1d_data (l1d_set_of a) w) 64 z.l1d z'.l1d

-- ---- the way that L2 has or chooses for a
way-bound : (z : State) (a : ℕ) → l2_way_for z a < 4
unfolding l2_way_for
way-bound z a =
    cond-elim (λ (v : ℕ). v < 4) (in_l2 z a) (l2_way z a) (l2_victim (l2_set_at z.rec (l2_set_of z.rec a)))
    (λ t. (l2-hit z a t).way) (λ _. l2-victim-bound (l2_set_at z.rec (l2_set_of z.rec a)))

way-holds : (z : State) (a : ℕ) → in_l2 z a ≡ true → Holding (l2_set_of z.rec a) (l2_way_for z a) (l2_line a) z
unfolding l2_way_for
way-holds z a t = let h = l2-hit z a t in rw t (h.valid, h.address)

module _ {P : Pairing} {g : Layout} where
  home-is : {z z' : State} → Pair P g z z' → (a : ℕ) → home_is_l2 z.rec a ≡ home_of g a
  unfolding home_is_l2
  home-is {z} q a =
      ap (λ (b : Bool). cond (ltb a external_base) false (not b)) (mode0-sets z.rec ∙ ap (λ (n : ℕ). eqb n 0) q.sizes.sets)

  set_is : {z z' : State} → Pair P g z z' → (a : ℕ) → l2_set_of z.rec a ≡ set_for g a
  set_is q a = ap (λ (n : ℕ). l2_set_in n a) q.sizes.sets

  use_l1d-both : (s w : ℕ) → Keeps P g (use_l1d s w)
  use_l1d-both s w z = lift (Pair P g) (use_l1d s w) z (λ d m e q. use_l1d-pair q s w)

  -- unless L1D is frozen, which is a part of the record
  use_hit-both : (s w : ℕ) → Keeps P g (use_hit s w)
  unfolding use_hit
  use_hit-both s w z =
      lift (Pair P g) (use_hit s w) z
      (λ d m e q. let z' = twin z d m e in
      cond_both (Pair P g) z.rec.frozen z (use_l1d s w z) z' (use_l1d s w z') (λ _. q) (λ _. use_l1d-both s w z z' q))

  -- ---- a way of L2 filled, used, both after what stood there left
  fill-has : {z : State} {d m e : List ℕ} → Pair P g z (twin z d m e) → (t v b : ℕ) → t < g.sets → v < 4 → b % 128 ≡ 0 → external_base ≤ b →
      b + 128 ≤ external_base + g.ext →
      Has P g t v b (fill_l2 t v b z) (fill_l2 t v b (twin z d m e))
  unfolding fill_l2 with_l2_line
  fill-has {z} {d} {m} {e} q t v b ht hv al lo hi =
      let x = line_of b false in let h = q.sizes in let n = h.ext_length in
      let tw : Twins P b 128 (part z.ext (b - external_base) 128) (part e (b - external_base) 128) =
      area-part q.ext h.ext_same (omega arith) (b - external_base) (omega arith) (omega arith) (omega arith) in
      let new = area-filled z.l2 m h.l2_same (l2-room q t v ht hv) tw in
      record {
        set = ht;
        way = hv;
        pair = l2-put q t v 0 x ht hv (omega arith) (omega arith) tw (λ _. record { set = ht; aligned = al; low = lo; high = hi }) (λ _. new);
        area = new;
        there = λ y. let o = exists-put l2_store z.rec.l2 t v x y in
            let c = line_same l2_store z.rec.l2 t v x o.set o.way in (ap (λ (l : Line). l.valid) c, ap (λ (l : Line). l.address) c);
      }

  used-has : (t v b : ℕ) (z z' : State) → Has P g t v b z z' → Has P g t v b (use_l2 t v z) (use_l2 t v z')
  unfolding use_l2 l2_use
  used-has t v b z z' h =
      let u = l2-used-line z t v t v in
      record {
        set = h.set;
        way = h.way;
        pair = lift (Pair P g) (use_l2 t v) z (λ d m e q. use_l2-pair q t v) z' h.pair;
        area = h.area;
        there = λ x. let k = h.there (exists-used l2_store z.rec.l2 t v (l2_use (l2_set_at z.rec t) v) refl x) in
            (ap (λ (l : Line). l.valid) u ∙ k.0, ap (λ (l : Line). l.address) u ∙ k.1);
      }

  bring-has : (t v b : ℕ) → t < g.sets → v < 4 → b % 128 ≡ 0 → external_base ≤ b → b + 128 ≤ external_base + g.ext → (z z' : State) → Pair P g z z' →
      Has P g t v b (bring_l2 t v b z) (bring_l2 t v b z')
  bring-has t v b ht hv al lo hi z z' q =
      let y = evict_l2 t v z in let y' = evict_l2 t v z' in
      used-has t v b (fill_l2 t v b y) (fill_l2 t v b y')
      (lift (Has P g t v b) (fill_l2 t v b) y (λ d m e p. fill-has p t v b ht hv al lo hi) y' (evict_l2-both t v hv z z' q))

  -- ---- what L2 does for an access at a
  fetched : {a t v : ℕ} {z z' : State} → Has P g t v (l2_line a) z z' → Fetched P g a t v z z'
  fetched h = record { pair = h.pair; has = λ _. h }

  fetch_l2-pair : {a n : ℕ} → Fits g a n → (z : State) (d m e : List ℕ) → Pair P g z (twin z d m e) →
      Fetched P g a (l2_set_of z.rec a) (l2_way_for z a) (fetch_l2 a z) (fetch_l2 a (twin z d m e))
  unfolding fetch_l2 in_l2 l2_way l2_way_for
  fetch_l2-pair {a} f z d m e q =
      let z' = twin z d m e in let t = l2_set_of z.rec a in let v = l2_way_for z a in let b = l2_line a in
      cond_both (Fetched P g a t v) (home_is_l2 z.rec a) (cond (in_l2 z a) (use_l2 t v z) (bring_l2 t v b z)) z
      (cond (in_l2 z a) (use_l2 t v z') (bring_l2 t v b z')) z'
      (λ h. cond_both (Fetched P g a t v) (in_l2 z a) (use_l2 t v z) (bring_l2 t v b z) (use_l2 t v z') (bring_l2 t v b z')
      (λ i. let k = way-holds z a i in let ad = k.1 in
      fetched (used-has t v b z z'
      (record { set = (q.l2.placed t v k.0).set; way = way-bound z a; pair = q; area = rw ad at (q.l2.bytes t v k.0); there = λ _. k })))
      (λ _. let hm = home-l2 z.rec a h in let lo = hm.0 in let hi = f.high lo in let w = q.sizes.ext_whole in let o = f.more in
      let ns : l2_sets_of z.rec ≢ 0 = hm.1 in let sets = q.sizes.sets in
      let hl : t < l2_sets_of z.rec = mod-lt (a / 128) (omega arith) in
      fetched (bring-has t v b (omega arith) (way-bound z a) (omega arith) (omega arith) (omega arith) z z' q)))
      (λ h. record { pair = q; has = λ y. false-true (sym h ∙ home-is q a ∙ y) })

  fetch-here : {a n : ℕ} → Fits g a n → (z : State) (d m e : List ℕ) → Pair P g z (twin z d m e) →
      Fetched P g a (set_for g a) (l2_way_for z a) (fetch_l2 a z) (fetch_l2 a (twin z d m e))
  fetch-here {a} f z d m e q =
      subst (λ (t : ℕ). Fetched P g a t (l2_way_for z a) (fetch_l2 a z) (fetch_l2 a (twin z d m e))) (set_is q a) (fetch_l2-pair f z d m e q)

  -- ---- k bytes at b, in the L1D line of a, from their home; L2 has the line in way v
  home_part-twins : {a n : ℕ} → Fits g a n → (v b k : ℕ) → b / 64 ≡ a / 64 → b % 64 + k ≤ 64 → {z : State} {d m e : List ℕ} →
      Fetched P g a (set_for g a) v z (twin z d m e) → Twins P b k (home_part v a b k z) (home_part v a b k (twin z d m e))
  unfolding home_part
  home_part-twins {a} f v b k same row {z} {d} {m} {e} h =
      let q = h.pair in let z' = twin z d m e in let i = l2_data z.rec (l2_set_of z.rec a) v + b % 128 in
      let c₀ = f.row in let c₁ = q.sizes.sram_whole in let c₂ = q.sizes.ext_whole in let c₃ = f.more in
      cond_both (Twins P b k) (home_is_l2 z.rec a) (part z.l2 i k) (memory_part b k z) (part m i k) (memory_part b k z')
      (λ y. let x = h.has (sym (home-is q a) ∙ y) in let s = set_is q a in
      area-part (rw (← s) at x.area) q.sizes.l2_same (rw (← s) at (l2-room q (set_for g a) v x.set x.way)) (b % 128)
      (omega arith) (omega arith) refl)
      (λ _. memory-twins q b k (λ y. let c = f.low (omega arith) in omega arith) (λ y. let c = f.high (omega arith) in omega arith))

  home-both : {a n : ℕ} → Fits g a n → (v b k : ℕ) → b / 64 ≡ a / 64 → b % 64 + k ≤ 64 → (z z' : State) → Fetched P g a (set_for g a) v z z' →
      Twins P b k (home_part v a b k z) (home_part v a b k z')
  home-both {a} f v b k same row z z' h =
      one-record (Fetched P g a (set_for g a) v) (Twins P b k) (home_part v a b k) (home_part v a b k) z (λ d m e p. home_part-twins f v b k same row p) z' h.pair.same h

  -- the line of a comes into way w of L1D
  fill_l1d-pair : {a n : ℕ} → Fits g a n → (w v : ℕ) → w < 2 → {z : State} {d m e : List ℕ} → Fetched P g a (set_for g a) v z (twin z d m e) →
      Filled P g w a (fill_l1d w v a z) (fill_l1d w v a (twin z d m e))
  unfolding fill_l1d
  fill_l1d-pair {a} f w v hw {z} {d} h =
      let q = h.pair in let s = l1d_set_of a in let tw = home_part-twins f v (l1d_line a) 64 (omega arith) (omega arith) h in
      let c₀ = f.row in let c₁ = q.sizes.sram_whole in let c₂ = q.sizes.ext_whole in let c₃ = f.more in
      let new = area-filled z.l1d d q.sizes.l1d_same (l1d-room q s w (omega arith) hw) tw in (
        l1d-put q s w 0 (line_of (l1d_line a) false) (omega arith) hw (omega arith) (omega arith) tw
            (λ _. record {
              set = omega arith;
              aligned = omega arith;
              low = λ y. let c = f.low (omega arith) in omega arith;
              high = λ y. let c = f.high (omega arith) in omega arith;
            })
            (λ _. new),
        new,
      )

  filled : {a n : ℕ} → Fits g a n → (w v : ℕ) → w < 2 → (z z' : State) → Fetched P g a (set_for g a) v z z' →
      Filled P g w a (fill_l1d w v a z) (fill_l1d w v a z')
  filled {a} f w v hw z z' h =
      one-record (Fetched P g a (set_for g a) v) (Filled P g w a) (fill_l1d w v a) (fill_l1d w v a) z (λ d m e p. fill_l1d-pair f w v hw p) z' h.pair.same h

  -- ---- the bytes at a of the line that L1D has in way w, then the way used
  served : {a n : ℕ} → Fits g a n → (k w : ℕ) → w < 2 → (z z' : State) → Filled P g w a z z' →
      Accesses P g a n (access k (l1d_bytes w a n z) (use_l1d (l1d_set_of a) w z)) (access k (l1d_bytes w a n z') (use_l1d (l1d_set_of a) w z'))
  served {a} f k w hw z z' h =
      let q = h.0 in let c = f.row in let l = q.sizes.l1d_length in
      record {
        server = refl;
        bytes = area-part h.1 q.sizes.l1d_same (omega arith) (a % 64) (omega arith) (omega arith) refl;
        next = use_l1d-both (l1d_set_of a) w z z' q;
      }

  -- a line that L1D holds, by its address
  hit-area : {z z' : State} → Pair P g z z' → (a w : ℕ) → Hit (l1d_level z) 2 (l1d_set_of a) w (l1d_line a) →
      Area P (l1d_line a) (l1d_data (l1d_set_of a) w) 64 z.l1d z'.l1d
  hit-area q a w h = let b = h.address in rw b at (q.l1d.bytes (l1d_set_of a) w h.valid)

  module _ {a n : ℕ} (f : Fits g a n) where
    -- ---- reads
    read_hit-pair : (z : State) (d m e : List ℕ) → Pair P g z (twin z d m e) → in_l1d z a ≡ true →
        Accesses P g a n (read_hit n a z) (read_hit n a (twin z d m e))
    unfolding read_hit l1d_way
    read_hit-pair z d m e q t =
        let w = l1d_way z a in let h = l1d-hit z a t in let z' = twin z d m e in
        let r = served f 1 w h.way z z' (q, hit-area q a w h) in
        record { server = refl; bytes = r.bytes; next = use_hit-both (l1d_set_of a) w z z' q }

    read_emptied-pair : (w : ℕ) → w < 2 → (z : State) (d m e : List ℕ) → Pair P g z (twin z d m e) →
        Accesses P g a n (read_emptied w n a z) (read_emptied w n a (twin z d m e))
    unfolding read_emptied read_filled home_server in_l2 l2_way l2_way_for
    read_emptied-pair w hw z d m e q =
        let v = l2_way_for z a in let y = fetch_l2 a z in let y' = fetch_l2 a (twin z d m e) in
        served f (home_server a z) w hw (fill_l1d w v a y) (fill_l1d w v a y') (filled f w v hw y y' (fetch-here f z d m e q))

    read_thawed-pair : (z : State) (d m e : List ℕ) → Pair P g z (twin z d m e) → Accesses P g a n (read_thawed n a z) (read_thawed n a (twin z d m e))
    unfolding read_thawed
    read_thawed-pair z d m e q =
        let s = l1d_set_of a in let w = l1d_victim (l1d_set_at z.rec s) in let hw = l1d-victim-bound (l1d_set_at z.rec s) in
        lift (Accesses P g a n) (read_emptied w n a) (evict_l1d s w z) (read_emptied-pair w hw (evict_l1d s w z)) (evict_l1d s w (twin z d m e))
        (evict_l1d-both s w hw z (twin z d m e) q)

    read_frozen-pair : (z : State) (d m e : List ℕ) → Pair P g z (twin z d m e) → Accesses P g a n (read_frozen n a z) (read_frozen n a (twin z d m e))
    unfolding read_frozen home_server in_l2 l2_way l2_way_for
    read_frozen-pair z d m e q =
        let h = fetch-here f z d m e q in
        record { server = refl; bytes = home-both f (l2_way_for z a) a n refl f.row (fetch_l2 a z) (fetch_l2 a (twin z d m e)) h; next = h.pair }

    read_miss-pair : (z : State) (d m e : List ℕ) → Pair P g z (twin z d m e) → Accesses P g a n (read_miss n a z) (read_miss n a (twin z d m e))
    unfolding read_miss
    read_miss-pair z d m e q =
        let z' = twin z d m e in
        cond_both (Accesses P g a n) z.rec.frozen (read_frozen n a z) (read_thawed n a z) (read_frozen n a z') (read_thawed n a z')
        (λ _. read_frozen-pair z d m e q) (λ _. read_thawed-pair z d m e q)

    read_access-pair : (z : State) (d m e : List ℕ) → Pair P g z (twin z d m e) → Accesses P g a n (read_access n a z) (read_access n a (twin z d m e))
    unfolding read_access in_l1d l1d_way
    read_access-pair z d m e q =
        let z' = twin z d m e in
        cond_both (Accesses P g a n) (cacheable z.rec a) (cond (in_l1d z a) (read_hit n a z) (read_miss n a z)) (access 4 (memory_part a n z) z)
        (cond (in_l1d z a) (read_hit n a z') (read_miss n a z')) (access 4 (memory_part a n z') z')
        (λ _. cond_both (Accesses P g a n) (in_l1d z a) (read_hit n a z) (read_miss n a z) (read_hit n a z') (read_miss n a z')
        (read_hit-pair z d m e q) (λ _. read_miss-pair z d m e q))
        (λ _. record { server = refl; bytes = memory-twins q a n f.low f.high; next = q })

    pub read-both : (z z' : State) → Pair P g z z' → Accesses P g a n (read_access n a z) (read_access n a z')
    read-both z = lift (Accesses P g a n) (read_access n a) z (read_access-pair z)

  -- ---- the data side's part of a fetch (02, U4)
  fetch-pair : {a : ℕ} → Fits g a 32 → (z : State) (d m e : List ℕ) → Pair P g z (twin z d m e) → Accesses P g a 32 (fetch_access a z) (fetch_access a (twin z d m e))
  unfolding fetch_access
  fetch-pair {a} f z d m e q =
      let z' = twin z d m e in
      cond_both (Accesses P g a 32) (cacheable z.rec a) (read_frozen 32 a z) (access 4 (memory_part a 32 z) z) (read_frozen 32 a z') (access 4 (memory_part a 32 z') z')
      (λ _. read_frozen-pair f z d m e q)
      (λ _. record { server = refl; bytes = memory-twins q a 32 f.low f.high; next = q })

  pub fetch-both : {a : ℕ} → Fits g a 32 → (z z' : State) → Pair P g z z' → Accesses P g a 32 (fetch_access a z) (fetch_access a z')
  fetch-both {a} f z = lift (Accesses P g a 32) (fetch_access a) z (fetch-pair f z)

  module _ {a n : ℕ} (f : Fits g a n) where
    -- ---- writes of bs and bs'
    module _ {bs bs' : List ℕ} (tw : Twins P a n bs bs') where
      put_l1d-pair : (z : State) (d m e : List ℕ) → Pair P g z (twin z d m e) → (w : ℕ) → Hit (l1d_level z) 2 (l1d_set_of a) w (l1d_line a) →
          Pair P g (put_l1d w a bs z) (put_l1d w a bs' (twin z d m e))
      unfolding put_l1d
      put_l1d-pair z d m e q w h =
          let s = l1d_set_of a in let b = h.address in let c = f.row in
          l1d-put q s w (a % 64) (line_of (l1d_line_at z.rec s w).address true) (omega arith) h.way (omega arith) refl tw
          (λ _. q.l1d.placed s w h.valid)
          (λ _. rw b (area-stored (hit-area q a w h) q.sizes.l1d_same (l1d-room q s w (omega arith) h.way) tw (a % 64) (omega arith) (omega arith) refl))

      write_hit-pair : (z : State) (d m e : List ℕ) → Pair P g z (twin z d m e) → in_l1d z a ≡ true →
          Accesses P g a 0 (write_hit a bs z) (write_hit a bs' (twin z d m e))
      unfolding write_hit l1d_way
      write_hit-pair z d m e q t =
          let w = l1d_way z a in
          record {
            server = refl;
            bytes = no-twins P a;
            next = use_hit-both (l1d_set_of a) w (put_l1d w a bs z) (put_l1d w a bs' (twin z d m e)) (put_l1d-pair z d m e q w (l1d-hit z a t));
          }

      write_home-pair : (v : ℕ) (z : State) (d m e : List ℕ) → Fetched P g a (set_for g a) v z (twin z d m e) →
          Pair P g (write_home v a bs z) (write_home v a bs' (twin z d m e))
      unfolding write_home
      write_home-pair v z d m e h =
          let z' = twin z d m e in let q = h.pair in let t = l2_set_of z.rec a in let c = f.row in
          cond_both (Pair P g) (home_is_l2 z.rec a) (put_l2 t v a bs z) (put_memory a bs z) (put_l2 t v a bs' z') (put_memory a bs' z')
          (λ k. let x = h.has (sym (home-is q a) ∙ k) in
          subst (λ (y : ℕ). Pair P g (put_l2 y v a bs z) (put_l2 y v a bs' z')) (sym (set_is q a))
          (put_l2-pair q (set_for g a) v tw x.set x.way (omega arith) x.area x.there))
          (λ _. put_memory-pair q tw f.low f.high)

      write_miss-pair : (z : State) (d m e : List ℕ) → Pair P g z (twin z d m e) → Accesses P g a 0 (write_miss a bs z) (write_miss a bs' (twin z d m e))
      unfolding write_miss home_server in_l2 l2_way l2_way_for
      write_miss-pair z d m e q =
          let v = l2_way_for z a in let h = fetch-here f z d m e q in
          record {
            server = refl;
            bytes = no-twins P a;
            next = one-record (Fetched P g a (set_for g a) v) (Pair P g) (write_home v a bs) (write_home v a bs') (fetch_l2 a z) (write_home-pair v (fetch_l2 a z))
                (fetch_l2 a (twin z d m e)) h.pair.same h;
          }

      write_access-pair : (z : State) (d m e : List ℕ) → Pair P g z (twin z d m e) → Accesses P g a 0 (write_access a bs z) (write_access a bs' (twin z d m e))
      unfolding write_access in_l1d l1d_way
      write_access-pair z d m e q =
          let z' = twin z d m e in
          cond_both (Accesses P g a 0) (cacheable z.rec a) (cond (in_l1d z a) (write_hit a bs z) (write_miss a bs z)) (access 4 [] (put_memory a bs z))
          (cond (in_l1d z a) (write_hit a bs' z') (write_miss a bs' z')) (access 4 [] (put_memory a bs' z'))
          (λ _. cond_both (Accesses P g a 0) (in_l1d z a) (write_hit a bs z) (write_miss a bs z) (write_hit a bs' z') (write_miss a bs' z')
          (write_hit-pair z d m e q) (λ _. write_miss-pair z d m e q))
          (λ _. record { server = refl; bytes = no-twins P a; next = put_memory-pair q tw f.low f.high })

      pub write-both : (z z' : State) → Pair P g z z' → Accesses P g a 0 (write_access a bs z) (write_access a bs' z')
      write-both z z' q = one-record (Pair P g) (Accesses P g a 0) (write_access a bs) (write_access a bs') z (write_access-pair z) z' q.same q
