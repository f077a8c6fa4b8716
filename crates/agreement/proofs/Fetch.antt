-- The line of an access comes into L2, then into L1D. Shown: after `fetch_l2` the way that was found or chosen holds
-- the line; the 64 bytes of the home are right; after `fill_l1d` the L1D way holds them, clean.
-- Why: the way is emptied first, so that nothing is lost; nobody else holds the line, or the search would have found
-- it; the home's bytes are right because L1D does not hold the line, and where the home is SRAM or external memory L2
-- does not hold it either.
use Prim.Native.Nat.{ℕ, suc, ◌+◌, ◌-◌, ◌/◌, ◌%◌, ◌≤◌, ◌<◌}
use mathlib.Core.Bool.{true, false, cond}
use mathlib.Core.Path.{◌≡◌, refl, sym, ap, ◌∙◌}
use mathlib.Core.Logic.{◌≢◌}
use mathlib.Core.List.{List}
use native.Mathlib.Omega.{arith}
use native.Mathlib.Nat.{mod-lt}
use lib.ListN.{length, get_or}
use lib.Dec.{ltb}
use borrow.Author.Tests.{ltb-false, le-ltb}
use Rattle.model.specs.Bytes.{stored, part}
use Rattle.model.specs.Memories.{external_base}
use Rattle.model.specs.Lines.{l1d_set_of, l1d_data, l1d_line, l2_line, line_of}
use Rattle.model.specs.Records.{State, l2_sets_of, l2_set_of, l2_data, covers, mar_bit, l2_set_at, l1d_line_at, l2_line_at, with_l1d_line}
use Rattle.model.specs.Ways.{l2_victim, l2_way, in_l2, use_l2}
use Rattle.model.specs.Access.{cacheable, home_part, home_line, fill_l1d}
use Rattle.model.specs.Homes.{home_is_l2, memory_part, evict_l2, fill_l2, l2_way_for, fetch_l2}
use Rattle.model.specs.Laws.{bool, false-true, cond-elim, length-stored, length_part, part_at}
use Rattle.model.specs.declared.Line.{Line}
use Rattle.model.specs.declared.Record.{Record}
use Rattle.agreement.proofs.Level.{Valid, Other, NoDirty, Free, Replaced, same-slot}
use Rattle.agreement.proofs.Invariant.{Allowed, carry, Layout, Inside, L1dPlaced, L2Placed, InL2Line, l1d-filled}
use Rattle.agreement.proofs.Memory.{Fits, read_length, read_at, stored_at}
use Rattle.agreement.proofs.Good.{layout_of, l1d_level, l2_level, memory_of, Good, Kept, kept_refl, kept_trans, Hit, l2-hit, l2-miss, l2-bounds, l2-victim-bound, home-l2, l1d-fits, l2-fits, l1d-rest, l1d-replaced, l1d-tidy, l2-used-line, use_l2-good, use_l2-kept, cache-whole}
use Rattle.agreement.proofs.Evict.{memory-free}
use Rattle.agreement.proofs.Writeback.{evict_l2-good, fill_l2-good}

-- ---- MAR bits are of whole lines
mar-line : (r : Record) (a b : ℕ) → b / 16777216 ≡ a / 16777216 → mar_bit r b ≡ mar_bit r a
unfolding mar_bit covers
mar-line r a b e = rw e refl

pub mar-l1d_line : (r : Record) (a : ℕ) → mar_bit r (l1d_line a) ≡ mar_bit r a
mar-l1d_line r a = mar-line r a (l1d_line a) (omega arith)

pub mar-l2_line : (r : Record) (a : ℕ) → mar_bit r (l2_line a) ≡ mar_bit r a
mar-l2_line r a = mar-line r a (l2_line a) (omega arith)

-- ---- an access of n bytes at a lies in SRAM or in external memory
pub record AccessFits (g : Layout) (a n : ℕ) : Type 0 where
  pub low : a < external_base → a + n ≤ g.sram
  pub high : external_base ≤ a → a + n ≤ external_base + g.ext

pub cacheable-yes : (r : Record) (a : ℕ) → cacheable r a ≡ true → external_base ≤ a → mar_bit r a ≡ true
unfolding cacheable
cacheable-yes r a e h = rw (le-ltb a external_base h) at e

pub cacheable-no : (r : Record) (a : ℕ) → cacheable r a ≡ false → (external_base ≤ a) × (mar_bit r a ≡ false)
unfolding cacheable
cacheable-no r a e = bool (ltb a external_base) (λ t. false-true (sym (rw t at e))) (λ t. (ltb-false a external_base t, rw t at e))

module _ (z : State) (F : Allowed) (q : Good z F) (a n : ℕ) (f : AccessFits (layout_of z.rec) a (suc n)) (c : external_base ≤ a → mar_bit z.rec a ≡ true) where
  -- its line may be held, by L1D and, where there is an L2 cache, by L2
  pub l1d-may-hold : (w : ℕ) → w < 2 → L1dPlaced (layout_of z.rec) (l1d_set_of a) w (l1d_line a)
  l1d-may-hold w hw =
      let h = q.tidy.sizes in
      let m = h.l2_whole in let m' = cache-whole z.rec.mode in let m'' = h.ext_whole in let x = h.l2_most in let y = h.cache_most in
      record {
        aligned = omega arith;
        own_set = omega arith;
        way = hw;
        low = λ k. let g = f.low (omega arith) in omega arith;
        high = λ k. let g = f.high (omega arith) in omega arith;
        mar_set = λ k. mar-l1d_line z.rec a ∙ c (omega arith);
      }

  pub l2-may-hold : (v : ℕ) → v < 4 → external_base ≤ a → l2_sets_of z.rec ≢ 0 → L2Placed (layout_of z.rec) (l2_set_of z.rec a) v (l2_line a)
  l2-may-hold v hv k s =
      let m = q.tidy.sizes.ext_whole in let g = f.high k in
      let d : a / 128 ≡ l2_line a / 128 = omega arith in
      record {
        aligned = omega arith;
        own_set = ap (λ (i : ℕ). i % l2_sets_of z.rec) d;
        set_used = mod-lt (a / 128) (omega arith);
        way = hv;
        low = omega arith;
        high = omega arith;
        mar_set = mar-l2_line z.rec a ∙ c k;
      }

-- external memory whose MAR bit is 0: no line of it is held
module _ (z : State) (F : Allowed) (q : Good z F) (a : ℕ) (h : external_base ≤ a) (c : mar_bit z.rec a ≡ false) where
  pub l1d-uncacheable : Free 64 (l1d_level z) a
  l1d-uncacheable s w k e =
      let p = q.inv.l1d_sound.place s w k in false-true (sym c ∙ sym (mar-l1d_line z.rec a) ∙ (rw e at (p.mar_set (omega arith))))

  pub l2-uncacheable : Free 128 (l2_level z) a
  l2-uncacheable s w k e = let p = q.inv.l2_sound.place s w k in false-true (sym c ∙ sym (mar-l2_line z.rec a) ∙ (rw e at p.mar_set))

-- ---- the way of L2 that has the line or is chosen for it
pub way-for-hit : (z : State) (a : ℕ) → in_l2 z a ≡ true → l2_way_for z a ≡ l2_way z a
unfolding l2_way_for
way-for-hit z a y = rw y refl

pub way-for-bound : (z : State) (a : ℕ) → l2_way_for z a < 4
unfolding l2_way_for
way-for-bound z a =
    cond-elim (λ (v : ℕ). v < 4) (in_l2 z a) (l2_way z a) (l2_victim (l2_set_at z.rec (l2_set_of z.rec a)))
    (λ y. (l2-hit z a y).way) (λ _. l2-victim-bound (l2_set_at z.rec (l2_set_of z.rec a)))

used-lines : (z₁ z₂ : State) (t v : ℕ) → z₂.rec.l1d ≡ z₁.rec.l1d → (s w : ℕ) → l1d_line_at (use_l2 t v z₂).rec s w ≡ l1d_line_at z₁.rec s w
unfolding use_l2
used-lines z₁ z₂ t v e s w = rw e refl

-- ---- L2 gets the line of a
pub record L2Fetched (z : State) (F : Allowed) (a : ℕ) (z' : State) : Type 0 where
  pub good : Good z' F
  pub kept : Kept z z'
  pub fewer : (s w : ℕ) → Valid (l1d_level z') s w → l1d_line_at z'.rec s w ≡ l1d_line_at z.rec s w
  pub has : home_is_l2 z.rec a ≡ true → Hit (l2_level z') 4 (l2_set_of z.rec a) (l2_way_for z a) (l2_line a)

module _ (z : State) (F : Allowed) (q : Good z F) (a n : ℕ) (f : AccessFits (layout_of z.rec) a (suc n)) (c : external_base ≤ a → mar_bit z.rec a ≡ true) where
  abbrev t : ℕ
  t = l2_set_of z.rec a

  abbrev v : ℕ
  v = l2_way_for z a

  fetched-miss : home_is_l2 z.rec a ≡ true → Free 128 (l2_level z) a → L2Fetched z F a (use_l2 t v (fill_l2 t v (l2_line a) (evict_l2 t v z)))
  fetched-miss d fr =
      let hv = way-for-bound z a in
      let d' = home-l2 z.rec a d in
      let p = l2-may-hold z F q a n f c v hv d'.0 d'.1 in
      let g = evict_l2-good z F q t v p.set_used hv in
      let z₁ = evict_l2 t v z in
      let b = l2_line a in
      let room : Valid (l2_level z₁) t v → ⊥ = λ k. false-true (sym (ap (λ (r : Line). r.valid) g.gone) ∙ k) in
      let none : (t' v' : ℕ) → Valid (l2_level z₁) t' v' → (l2_line_at z₁.rec t' v').address ≢ b =
      λ t' v' k e. same-slot t v t' v'
      (λ y. room (rw (y.0, y.1) at k))
      (λ y. fr t' v' (sym (g.swept.valid t' v' y) ∙ k) (sym (g.swept.address t' v' y) ∙ e)) in
      let k = fill_l2-good z₁ F g.swept.good t v b room (rw g.swept.kept.layout p) none in
      let z₂ = fill_l2 t v b z₁ in
      let z₃ = use_l2 t v z₂ in
      let same : (s w : ℕ) → l1d_line_at z₃.rec s w ≡ l1d_line_at z₁.rec s w = used-lines z₁ z₂ t v k.lines in
      let here : l2_line_at z₃.rec t v ≡ line_of b false = l2-used-line z₂ t v t v ∙ k.here in
      let kept₂ = kept_trans z z₁ z₂ g.swept.kept k.kept in
      record {
        good = use_l2-good z₂ t v F k.good (rw kept₂.mode p.set_used) hv;
        kept = kept_trans z z₂ z₃ kept₂ (use_l2-kept z₂ t v);
        fewer = λ s w k'. let e = same s w in e ∙ g.swept.fewer s w (rw e at k');
        has = λ _. record { way = hv; valid = rw here refl; address = rw here refl };
      }

  fetched-hit : in_l2 z a ≡ true → L2Fetched z F a (use_l2 t v z)
  fetched-hit y =
      let e = way-for-hit z a y in
      let h : Hit (l2_level z) 4 t v (l2_line a) = rw e (l2-hit z a y) in
      let l = l2-used-line z t v t v in
      record {
        good = use_l2-good z t v F q (l2-bounds z F q t v h.valid).0 h.way;
        kept = use_l2-kept z t v;
        fewer = λ s w _. used-lines z z t v refl s w;
        has = λ _. record { way = h.way; valid = rw l h.valid; address = rw l h.address };
      }

  pub fetch_l2-good : L2Fetched z F a (fetch_l2 a z)
  unfolding fetch_l2
  fetch_l2-good =
      cond-elim (L2Fetched z F a) (home_is_l2 z.rec a)
      (cond (in_l2 z a) (use_l2 t v z) (use_l2 t v (fill_l2 t v (l2_line a) (evict_l2 t v z)))) z
      (λ d. cond-elim (L2Fetched z F a) (in_l2 z a) (use_l2 t v z) (use_l2 t v (fill_l2 t v (l2_line a) (evict_l2 t v z)))
      fetched-hit (λ y. fetched-miss d (l2-miss z F q a y)))
      (λ d. record { good = q; kept = kept_refl z; fewer = λ _ _ _. refl; has = λ d'. false-true (sym d ∙ d') })

-- ---- n bytes of the home at b, which lie in a's L1D line
pub record HomeRead (R : ℕ → ℕ → Type 0) (b n : ℕ) (bs : List ℕ) : Type 0 where
  pub long : length bs ≡ n
  pub right : (i : ℕ) → i < n → R (b + i) (get_or bs i 0)

-- whatever fact R of bytes holds of the L2 line that has a and, where L2 is not the home, of the memory at b's bytes
home_part-of : (z : State) (F : Allowed) → Good z F → (R : ℕ → ℕ → Type 0) (v a b n : ℕ) → b / 64 ≡ a / 64 → b % 64 + n ≤ 64 → AccessFits (layout_of z.rec) b n →
    (home_is_l2 z.rec a ≡ true → Hit (l2_level z) 4 (l2_set_of z.rec a) v (l2_line a)) →
    ((t : ℕ) → Valid (l2_level z) t v → (j : ℕ) → j < 128 → (i : ℕ) → i < n → (l2_line_at z.rec t v).address + j ≡ b + i → R (b + i) ((l2_level z).byte t v j)) →
    (home_is_l2 z.rec a ≡ false → (i : ℕ) → i < n → Inside (layout_of z.rec) (b + i) → R (b + i) (memory_of z (b + i))) →
    HomeRead R b n (home_part v a b n z)
unfolding home_part memory_part
home_part-of z F q R v a b n same row f has in_l2 in_memory =
    let n₂ = q.tidy.sizes.l2_length in let n' = q.tidy.sizes.ext_length in let mx = q.tidy.sizes.l2_most in
    let t = l2_set_of z.rec a in
    let leg : (i : ℕ) → i < n → Inside (layout_of z.rec) (b + i) =
    λ i h. record {
      low = λ k. let g = f.low (omega arith) in omega arith;
      high = λ k. let g = f.high (omega arith) in omega arith;
    } in
    let fits : Fits z.l2 z.ext b n = record { low = λ h. let g = f.low h in omega arith; high = λ h. let g = f.high h in omega arith } in
    cond-elim (HomeRead R b n) (home_is_l2 z.rec a) (part z.l2 (l2_data z.rec t v + b % 128) n)
    (cond (ltb b external_base) (part z.l2 b n) (part z.ext (b - external_base) n))
    (λ d. let h = has d in let e = h.address in
    let f₂ = l2-fits z q.tidy t v (l2-bounds z F q t v h.valid).0 h.way in
    record {
      long = length_part z.l2 (l2_data z.rec t v + b % 128) n (omega arith);
      right = λ i hi.
          let j : (l2_line_at z.rec t v).address + (b % 128 + i) ≡ b + i = omega arith in
          let j' : l2_data z.rec t v + b % 128 + i ≡ l2_data z.rec t v + (b % 128 + i) = omega arith in
          let c = part_at z.l2 (l2_data z.rec t v + b % 128) n i (omega arith) hi in
          rw (c, j') (in_l2 t h.valid (b % 128 + i) (omega arith) i hi j);
    })
    (λ d. record {
      long = read_length z.l2 z.ext b n fits;
      right = λ i h. let c = read_at z.l2 z.ext b n fits (omega arith) i h in rw c (in_memory d i h (leg i h));
    })

-- right, where L1D does not have a's line; held, whatever L1D has
pub home_part-good : (z : State) (F : Allowed) → Good z F → (v a b n : ℕ) → b / 64 ≡ a / 64 → b % 64 + n ≤ 64 → AccessFits (layout_of z.rec) b n →
    Free 64 (l1d_level z) a → (home_is_l2 z.rec a ≡ true → Hit (l2_level z) 4 (l2_set_of z.rec a) v (l2_line a)) → HomeRead F.right b n (home_part v a b n z)
home_part-good z F q v a b n same row f fr has =
    let calm : (i : ℕ) → i < n → NoDirty 64 (l1d_level z) (b + i) = λ i h s w k _ e. fr s w k (e ∙ omega arith) in
    home_part-of z F q F.right v a b n same row f has
    (λ t k j h i hi e. rw (← e) (q.inv.l2_right t v k j h (rw e (calm i hi))))
    (λ d i h l. q.inv.memory_right (b + i) l (calm i h) (λ t' v' k _ e. memory-free z F q a d t' v' k (e ∙ omega arith)))

pub home_part-held : (z : State) (F : Allowed) → Good z F → (v a b n : ℕ) → b / 64 ≡ a / 64 → b % 64 + n ≤ 64 → AccessFits (layout_of z.rec) b n →
    (home_is_l2 z.rec a ≡ true → Hit (l2_level z) 4 (l2_set_of z.rec a) v (l2_line a)) → HomeRead F.held b n (home_part v a b n z)
home_part-held z F q v a b n same row f has =
    home_part-of z F q F.held v a b n same row f has
    (λ t k j h i hi e. rw (← e) (q.inv.behind.l2_held t v k j h))
    (λ _ i h l. q.inv.behind.memory_held (b + i) l)

-- ---- the line comes into an empty L1D way, clean
pub record L1dFilled (z : State) (F : Allowed) (s w b : ℕ) (z' : State) : Type 0 where
  pub good : Good z' F
  pub kept : Kept z z'
  pub here : l1d_line_at z'.rec s w ≡ line_of b false

pub fill_l1d-good : (z : State) (F : Allowed) → Good z F → (w v a : ℕ) → (Valid (l1d_level z) (l1d_set_of a) w → ⊥) →
    L1dPlaced (layout_of z.rec) (l1d_set_of a) w (l1d_line a) → Free 64 (l1d_level z) a → HomeRead F.right (l1d_line a) 64 (home_line v a z) →
    (external_base ≤ l1d_line a → l2_sets_of z.rec ≢ 0 → InL2Line (l2_level z) (l1d_line a)) → L1dFilled z F (l1d_set_of a) w (l1d_line a) (fill_l1d w v a z)
unfolding fill_l1d with_l1d_line mar_bit
fill_l1d-good z F q w v a room p none ld held =
    let s = l1d_set_of a in let b = l1d_line a in
    let hs : s < 128 = omega arith in
    let hw = p.way in
    let l = line_of b false in
    let bs = home_line v a z in
    let d' = stored z.l1d (l1d_data s w) bs in
    let z' = fill_l1d w v a z in
    let f₁ = l1d-fits z q.tidy s w hs hw in
    let n = ld.long in
    let o : l1d_data s w + 0 ≡ l1d_data s w = omega arith in
    let r : (s' w' : ℕ) → Other s w s' w' → Valid (l1d_level z) s' w' → (i : ℕ) → i < 64 →
    get_or d' (l1d_data s' w' + i) 0 ≡ get_or z.l1d (l1d_data s' w' + i) 0 =
    rw o at (l1d-rest z q.tidy F q s w 0 bs hs hw (omega arith)) in
    let u : Replaced 64 (l1d_level z) (l1d_level z') s w l = l1d-replaced z q.tidy s w l d' z.l2 z.ext hs hw r in
    record {
      good = record {
        tidy = l1d-tidy z q.tidy s w l d' z.l2 z.ext hs hw (λ x. false-true (sym x)) (length-stored z.l1d bs (l1d_data s w)) refl refl;
        inv = l1d-filled (layout_of z.rec) (l1d_level z) (l2_level z) (memory_of z) F q.inv (l1d_level z') s w b u room p none
            (λ i h. let j : l1d_data s w + i - l1d_data s w ≡ i = omega arith in
            carry F (stored_at z.l1d bs (l1d_data s w) (omega arith) (l1d_data s w + i) (omega arith) (omega arith)) (rw j (ld.right i h)))
            held;
      };
      kept = record { mode = refl; layout = refl; l2len = refl };
      here = u.here;
    }
