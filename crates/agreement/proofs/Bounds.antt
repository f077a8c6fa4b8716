-- No call reports more than 256 bytes read from external memory, or written to it (02, U6; `at-most-256`).
-- Why: a non-aligned access has at most eight bytes, so they lie in at most two lines of 64 bytes. The first byte of a
-- line costs at most 128 each way (`at-most-128`), and afterwards the line is near: in L2 where L2 is its home, else in
-- L1D. Near, a byte costs nothing and leaves the line near. Where the first byte leaves the line far, it was one byte
-- past the caches, or past a frozen L1D; then each further byte costs one, or 64 once and is near from then on. So the
-- bytes of a line cost at most 128 together.
use Prim.Native.Nat.{ℕ, zero, suc, ◌+◌, ◌*◌, ◌-◌, ◌/◌, ◌≤◌, ◌<◌}
use mathlib.Core.Bool.{true, false, cond}
use mathlib.Core.Path.{◌≡◌, refl, sym, ap, ◌∙◌, subst}
use mathlib.Core.Logic.{◌⊎◌, inl, inr, ⊎_elim}
use mathlib.Core.List.{List, [], ◌∷◌}
use native.Mathlib.Omega.{arith}
use lib.ListN.{length, get_or}
use lib.Dec.{ltb, eqb}
use borrow.Author.Tests.{ltb-true, ltb-false, lt-ltb, le-ltb, eqb-true, eqb-false}
use Rattle.model.specs.Bytes.{little_bytes}
use Rattle.model.specs.Memories.{external_base}
use Rattle.model.specs.Lines.{l1d_set_of, l1d_line, l2_line, line_of, l2_sets, l2_set_in}
use Rattle.model.specs.Records.{State, Shape, l2_sets_of, l2_set_of, mar_bit, l1d_set_at, l1d_line_at, l2_line_at}
use Rattle.model.specs.Ways.{l1d_victim, l1d_way, in_l1d, in_l2, use_l1d}
use Rattle.model.specs.Homes.{home_is_l2, put_l2, l2_way_for, fetch_l2}
use Rattle.model.specs.Access.{Access, cacheable, use_hit, read_hit, evict_l1d, fill_l1d, read_filled, read_emptied, read_thawed, read_frozen, read_miss, read_access, put_l1d, write_hit, write_home, write_miss, write_access}
use Rattle.model.specs.Reports.{Report, no_report, read_report, write_report}
use Rattle.model.specs.Refusals.{lent_due}
use Rattle.model.specs.Unaligned.{read_up, write_up, read_up_report, write_up_report}
use Rattle.model.specs.Calls.{Reply, refused, step, call, fresh_ok, fresh_call, view_done, unaligned_due_in, read_unaligned_done, write_unaligned_done, read_unaligned_step, write_unaligned_step, read_unaligned_call, write_unaligned_call, one_command, fresh_start, look, read_unaligned, write_unaligned, carried_out, transfer_due_in, handed_back, transfer_in_step, transfer_in_call, transfer_out_step, transfer_out_call, transfer_in, transfer_out, fetch_behind, fetch_due_in, no_fetch, fetch_behind_done, fetch_behind_step, fetch_behind_call}
use Rattle.model.specs.Transfers.{sent_home, transferred_in, transferred_out}
use Rattle.model.specs.Bytewise.{AtMost256}
use Rattle.model.specs.Laws.{bool, false-true, cond-elim, cond-true, cond-false, mar-bit, length-little_bytes}
use Rattle.model.specs.declared.Record.{Record}
use Rattle.agreement.proofs.Level.{Valid}
use Rattle.agreement.proofs.Invariant.{Layout, InL2Line}
use Rattle.agreement.proofs.Good.{layout_of, l1d_level, l2_level, Good, Tidy, Anything, Well, Kept, good-well, l1d-hit, l1d-miss, l2-miss, l2-bounds, l1d-victim-bound, home-l2, l1d-replaced, l2-replaced, l1d-used-line}
use Rattle.agreement.proofs.Evict.{evict_l1d-good}
use Rattle.agreement.proofs.Fetch.{AccessFits, cacheable-yes, fetch_l2-good}
use Rattle.agreement.proofs.ReadWrite.{home_same, read-good, write-good}
use Rattle.agreement.proofs.Reports.{leaving, fetch-most, AtMost, read-any, read_past, read-hit, read-frozen, read-thawed, write-any, write-past, write-hit, write-quiet, at-most-mode, none-from-l2, at-most-128}
use Rattle.agreement.proofs.Tested.{due-well}
use Rattle.agreement.proofs.Unaligned.{all_fit, due-size, anything-written, read_up_lem, Between, up_to}

-- ---- a line is near; or it is far, where nothing is asked but that L2 is not its way
record Near (z : State) (b : ℕ) : Type 0 where
  cache : cacheable z.rec b ≡ true
  l2 : home_is_l2 z.rec b ≡ true → InL2Line (l2_level z) b
  l1d : home_is_l2 z.rec b ≡ false → in_l1d z b ≡ true

abbrev Far : State → ℕ → Type 0
Far z b = home_is_l2 z.rec b ≡ true → cacheable z.rec b ≡ false

-- both are the same at every byte of the line
module _ (b c : ℕ) (e : c / 64 ≡ b / 64) where
  same-cacheable : (r : Record) → cacheable r c ≡ cacheable r b
  unfolding cacheable
  same-cacheable r =
      bool (ltb b external_base)
      (λ t. let t' = ltb-true b external_base t in rw (t, lt-ltb c external_base (omega arith)) refl)
      (λ t. let t' = ltb-false b external_base t in
      let m = mar-bit r b t' in let m' = mar-bit r c (omega arith) in
      rw (t, le-ltb c external_base (omega arith), m, m') (bool (ltb b (129 * 0x1000000))
      (λ u. let u' = ltb-true b (129 * 0x1000000) u in rw (u, lt-ltb c (129 * 0x1000000) (omega arith)) refl)
      (λ u. let u' = ltb-false b (129 * 0x1000000) u in rw (u, le-ltb c (129 * 0x1000000) (omega arith)) refl)))

  same_home : (r : Record) → home_is_l2 r c ≡ home_is_l2 r b
  unfolding home_is_l2
  same_home r =
      bool (ltb b external_base)
      (λ t. let t' = ltb-true b external_base t in rw (t, lt-ltb c external_base (omega arith)) refl)
      (λ t. let t' = ltb-false b external_base t in rw (t, le-ltb c external_base (omega arith)) refl)

  same-l1d : (z : State) → in_l1d z c ≡ in_l1d z b
  unfolding in_l1d l1d_way
  same-l1d z = rw e refl

  near_same : (z : State) → Near z b → Near z c
  near_same z n =
      record {
        cache = same-cacheable z.rec ∙ n.cache;
        l2 = λ h. let i = n.l2 (sym (same_home z.rec) ∙ h) in (i.0, i.1, i.2, i.3 ∙ omega arith);
        l1d = λ h. same-l1d z ∙ n.l1d (sym (same_home z.rec) ∙ h);
      }

  far-same : (z : State) → Far z b → Far z c
  far-same z f h = same-cacheable z.rec ∙ f (sym (same_home z.rec) ∙ h)

kept-cacheable : (z z' : State) (b : ℕ) → Kept z z' → cacheable z'.rec b ≡ cacheable z.rec b
unfolding cacheable
kept-cacheable z z' b k = let m : mar_bit z'.rec b ≡ mar_bit z.rec b = ap (λ (g : Layout). g.mar b) k.layout in rw m refl

-- L1D holds it
held-near : (z : State) → Well z → (b : ℕ) → cacheable z.rec b ≡ true → (s w : ℕ) → Valid (l1d_level z) s w → (l1d_line_at z.rec s w).address ≡ l1d_line b →
    Near z b
held-near z q b c s w k e =
    record {
      cache = c;
      l2 = λ h. let x = home-l2 z.rec b h in let x₀ = x.0 in
          let i = q.inv.inclusion s w k (omega arith) x.1 in (i.0, i.1, i.2, i.3 ∙ omega arith);
      l1d = λ _. bool (in_l1d z b) (λ t. t) (λ t. absurd (l1d-miss z Anything q b t s w k e));
    }

-- L2 holds it
l2-near : (z : State) (b : ℕ) → cacheable z.rec b ≡ true → home_is_l2 z.rec b ≡ true → InL2Line (l2_level z) b → Near z b
l2-near z b c h i = record { cache = c; l2 = λ _. i; l1d = λ e. false-true (sym e ∙ h) }

in-l2 : (z : State) → Well z → (b : ℕ) → InL2Line (l2_level z) b → in_l2 z b ≡ true
in-l2 z q b i = bool (in_l2 z b) (λ t. t) (λ t. absurd (l2-miss z Anything q b t i.0 i.1 i.2 i.3))

-- ---- what an access to byte b costs, by what was near before it and is near after it
record Spends (z : State) (b : ℕ) (q : Report) (z' : State) : Type 0 where
  most : AtMost 128 q
  near : Near z b → AtMost 0 q × Near z' b
  any : Near z' b ⊎ (Far z' b × AtMost 1 q)
  far : Far z b → (Near z' b × AtMost 64 q) ⊎ (Far z' b × AtMost 1 q)

to-near : {z : State} {b : ℕ} {q : Report} {z' : State} → AtMost 128 q → Near z' b → (Near z b → AtMost 0 q) → (Far z b → AtMost 64 q) → Spends z b q z'
to-near m p n f = record { most = m; near = λ x. (n x, p); any = inl p; far = λ x. inl (p, f x) }

to-far : {z : State} {b : ℕ} {q : Report} {z' : State} → AtMost 128 q → (Near z b → ⊥) → Far z' b → AtMost 1 q → Spends z b q z'
to-far m n p k = record { most = m; near = λ x. absurd (n x); any = inr (p, k); far = λ _. inr (p, k) }

more : {q : Report} (m n : ℕ) → m ≤ n → AtMost m q → AtMost n q
more m n l h = let h₀ = h.read in let h₁ = h.written in record { read = omega arith; written = omega arith }

-- ---- where an access comes to
module _ (z : State) (b : ℕ) (c : cacheable z.rec b ≡ true) where
  hit-next : in_l1d z b ≡ true → (read_access 1 b z).next ≡ use_hit (l1d_set_of b) (l1d_way z b) z
  unfolding read_access read_hit
  hit-next i = rw (read_access, c, i) refl

  miss-next : in_l1d z b ≡ false → (read_access 1 b z).next ≡ (read_miss 1 b z).next
  unfolding read_access
  miss-next i = rw (read_access, c, i) refl

  module _ (bs : List ℕ) where
    write-hit-next : in_l1d z b ≡ true → (write_access b bs z).next ≡ use_hit (l1d_set_of b) (l1d_way z b) (put_l1d (l1d_way z b) b bs z)
    unfolding write_access write_hit
    write-hit-next i = rw (write_access, c, i) refl

    write-miss-next : in_l1d z b ≡ false → home_is_l2 (fetch_l2 b z).rec b ≡ true →
        (write_access b bs z).next ≡ put_l2 (l2_set_of (fetch_l2 b z).rec b) (l2_way_for z b) b bs (fetch_l2 b z)
    unfolding write_access write_miss write_home
    write-miss-next i h = rw (write_access, c, i, write_home, h) refl

-- ---- a read of one byte
module _ (z : State) (q : Well z) (b : ℕ) (f : AccessFits (layout_of z.rec) b 1) where
  abbrev z' : State
  z' = (read_access 1 b z).next

  abbrev s : ℕ
  s = l1d_set_of b

  good' : Well z'
  good' = (read-good z Anything q b 0 f (omega arith)).good

  kept' : Kept z z'
  kept' = (read-good z Anything q b 0 f (omega arith)).kept

  cache' : cacheable z.rec b ≡ true → cacheable z'.rec b ≡ true
  cache' c = kept-cacheable z z' b kept' ∙ c

  home' : home_is_l2 z'.rec b ≡ home_is_l2 z.rec b
  home' = home_same z z' b kept'.mode

  used-hit : (x : State) (t w : ℕ) → l1d_line_at (use_hit t w x).rec t w ≡ l1d_line_at x.rec t w
  unfolding use_hit
  used-hit x t w =
      cond-elim (λ (y : State). l1d_line_at y.rec t w ≡ l1d_line_at x.rec t w) x.rec.frozen x (use_l1d t w x) (λ _. refl) (λ _. l1d-used-line x t w t w)

  hit-near : cacheable z.rec b ≡ true → in_l1d z b ≡ true → Near z' b
  hit-near c i =
      let w = l1d_way z b in let h = l1d-hit z b i in
      let l : l1d_line_at z'.rec s w ≡ l1d_line_at z.rec s w = ap (λ (x : State). l1d_line_at x.rec s w) (hit-next z b c i) ∙ used-hit z s w in
      held-near z' good' b (cache' c) s w (rw l h.valid) (rw l h.address)

  thawed-next : z.rec.frozen ≡ false → (read_miss 1 b z).next ≡ (read_thawed 1 b z).next
  unfolding read_miss
  thawed-next t = sym (ap (λ (x : Access). x.next) (cond-false z.rec.frozen (read_frozen 1 b z) (read_thawed 1 b z) t))

  frozen-next : z.rec.frozen ≡ true → (read_miss 1 b z).next ≡ fetch_l2 b z
  unfolding read_miss read_frozen
  frozen-next t = sym (ap (λ (x : Access). x.next) (cond-true z.rec.frozen (read_frozen 1 b z) (read_thawed 1 b z) t))

  filled-line : (x : State) → Tidy x → (w v : ℕ) → w < 2 → l1d_line_at (use_l1d s w (fill_l1d w v b x)).rec s w ≡ line_of (l1d_line b) false
  unfolding fill_l1d
  filled-line x h w v hw =
      let l = line_of (l1d_line b) false in
      l1d-used-line (fill_l1d w v b x) s w s w
      ∙ (l1d-replaced x h s w l x.l1d x.l2 x.ext (omega arith) hw (λ _ _ _ _ _ _. refl)).here

  thawed-line : (w : ℕ) (x : State) → (read_emptied w 1 b x).next ≡ use_l1d s w (fill_l1d w (l2_way_for x b) b (fetch_l2 b x))
  unfolding read_emptied read_filled
  thawed-line w x = refl

  thawed-chosen : (read_thawed 1 b z).next ≡ (read_emptied (l1d_victim (l1d_set_at z.rec s)) 1 b (leaving b z)).next
  unfolding read_thawed
  thawed-chosen = refl

  thawed-near : cacheable z.rec b ≡ true → in_l1d z b ≡ false → z.rec.frozen ≡ false → Near z' b
  thawed-near c i t =
      let w = l1d_victim (l1d_set_at z.rec s) in let hw = l1d-victim-bound (l1d_set_at z.rec s) in
      let z₁ = evict_l1d s w z in let g = evict_l1d-good z Anything q s w (omega arith) hw in
      let z₂ = fetch_l2 b z₁ in
      let y = fetch_l2-good z₁ Anything g.left.good b 0 (rw g.left.kept.layout f) (λ k. ap (λ (x : Layout). x.mar b) g.left.kept.layout ∙ cacheable-yes z.rec b c k) in
      let e = miss-next z b c i ∙ thawed-next t ∙ thawed-chosen ∙ thawed-line w z₁ in
      let l : l1d_line_at z'.rec s w ≡ line_of (l1d_line b) false = ap (λ (x : State). l1d_line_at x.rec s w) e ∙ filled-line z₂ y.good.tidy w (l2_way_for z₁ b) hw in
      held-near z' good' b (cache' c) s w (rw l refl) (rw l refl)

  frozen-near : cacheable z.rec b ≡ true → in_l1d z b ≡ false → z.rec.frozen ≡ true → home_is_l2 z.rec b ≡ true → Near z' b
  frozen-near c i t h =
      let y = fetch_l2-good z Anything q b 0 f (cacheable-yes z.rec b c) in let k = y.has h in
      l2-near z' b (cache' c) (home' ∙ h)
      (subst (λ (x : State). InL2Line (l2_level x) b) (sym (miss-next z b c i ∙ frozen-next t)) (l2_set_of z.rec b, l2_way_for z b, k.valid, k.address))

  -- a line that L2 has it still has when a line left L1D
  still-l2 : InL2Line (l2_level z) b → in_l2 (leaving b z) b ≡ true
  still-l2 i =
      let w = l1d_victim (l1d_set_at z.rec s) in
      let g = (evict_l1d-good z Anything q s w (omega arith) (l1d-victim-bound (l1d_set_at z.rec s))).left in
      in-l2 (leaving b z) g.good b (i.0, i.1, g.valid i.0 i.1 ∙ i.2, g.address i.0 i.1 ∙ i.3)

  left-home : home_is_l2 (leaving b z).rec b ≡ home_is_l2 z.rec b
  left-home =
      let w = l1d_victim (l1d_set_at z.rec s) in
      home_same z (leaving b z) b (evict_l1d-good z Anything q s w (omega arith) (l1d-victim-bound (l1d_set_at z.rec s))).left.kept.mode

  read-spends : Spends z b (read_report 1 b z) z'
  read-spends =
      let r = read_report 1 b z in let most = read-any b z in
      bool (cacheable z.rec b)
      (λ c. bool (in_l1d z b)
      (λ i. let k = read-hit b z c i in to-near most (hit-near c i) (λ _. k) (λ _. more 0 64 (omega arith) k))
      (λ i. bool z.rec.frozen
      (λ t. bool (home_is_l2 z.rec b)
      (λ h. to-near most (frozen-near c i t h)
      (λ n. none-from-l2 z b 1 r h (read-frozen b z c i t (inr (in-l2 z q b (n.l2 h)))))
      (λ x. false-true (sym (x h) ∙ c)))
      (λ h. to-far most (λ n. false-true (sym i ∙ n.l1d h)) (λ e. false-true (sym (home' ∙ h) ∙ e)) (at-most-mode z b 1 r (read-frozen b z c i t (inl h)))))
      (λ t. to-near most (thawed-near c i t)
      (λ n. bool (home_is_l2 z.rec b)
      (λ h. none-from-l2 z b 64 r h (read-thawed b z c i t (inr (still-l2 (n.l2 h)))))
      (λ h. false-true (sym i ∙ n.l1d h)))
      (λ x. bool (home_is_l2 z.rec b) (λ h. false-true (sym (x h) ∙ c))
      (λ h. at-most-mode z b 64 r (read-thawed b z c i t (inl (left-home ∙ h))))))))
      (λ c. to-far most (λ n. false-true (sym c ∙ n.cache)) (λ _. kept-cacheable z z' b kept' ∙ c) (read_past b z c))

-- ---- a write of one byte
module _ (z : State) (q : Well z) (b : ℕ) (f : AccessFits (layout_of z.rec) b 1) (bs : List ℕ) (one : length bs ≡ 1) where
  abbrev y' : State
  y' = (write_access b bs z).next

  step' : Good y' Anything × Kept z y'
  step' = let r = write-good z Anything Anything q b 0 bs one (anything-written b bs) (omega arith) f in (r.good, r.kept)

  write-cache : cacheable z.rec b ≡ true → cacheable y'.rec b ≡ true
  write-cache c = kept-cacheable z y' b step'.1 ∙ c

  write-home : home_is_l2 y'.rec b ≡ home_is_l2 z.rec b
  write-home = home_same z y' b step'.1.mode

  put-line : (w : ℕ) → w < 2 → l1d_line_at (put_l1d w b bs z).rec (l1d_set_of b) w ≡ line_of (l1d_line_at z.rec (l1d_set_of b) w).address true
  unfolding put_l1d
  put-line w h =
      let t = l1d_set_of b in
      (l1d-replaced z q.tidy t w (line_of (l1d_line_at z.rec t w).address true) z.l1d z.l2 z.ext (omega arith) h (λ _ _ _ _ _ _. refl)).here

  write-hit-near : cacheable z.rec b ≡ true → in_l1d z b ≡ true → Near y' b
  write-hit-near c i =
      let t = l1d_set_of b in let w = l1d_way z b in let h = l1d-hit z b i in
      let l : l1d_line_at y'.rec t w ≡ line_of (l1d_line_at z.rec t w).address true =
      ap (λ (x : State). l1d_line_at x.rec t w) (write-hit-next z b c bs i) ∙ used-hit z q b f (put_l1d w b bs z) t w ∙ put-line w h.way in
      held-near y' step'.0 b (write-cache c) t w (rw l refl) (rw l h.address)

  put-l2-line : (x : State) → Tidy x → (t v : ℕ) → t < l2_sets_of x.rec → v < 4 → l2_line_at (put_l2 t v b bs x).rec t v ≡ line_of (l2_line_at x.rec t v).address true
  unfolding put_l2
  put-l2-line x h t v ht hv =
      (l2-replaced x h t v (line_of (l2_line_at x.rec t v).address true) x.l1d x.l2 x.ext ht hv (λ _ _ _ _ _ _. refl)).here

  write-miss-near : cacheable z.rec b ≡ true → in_l1d z b ≡ false → home_is_l2 z.rec b ≡ true → Near y' b
  write-miss-near c i h =
      let y = fetch_l2-good z Anything q b 0 f (cacheable-yes z.rec b c) in let k = y.has h in
      let z₁ = fetch_l2 b z in let t = l2_set_of z₁.rec b in let v = l2_way_for z b in
      let m : t ≡ l2_set_of z.rec b = ap (λ (n : ℕ). l2_set_in (l2_sets n) b) y.kept.mode in
      let kv : Valid (l2_level z₁) t v = rw m k.valid in
      let ka : (l2_line_at z₁.rec t v).address ≡ l2_line b = rw m k.address in
      let h₁ : home_is_l2 z₁.rec b ≡ true = home_same z z₁ b y.kept.mode ∙ h in
      let l : l2_line_at y'.rec t v ≡ line_of (l2_line_at z₁.rec t v).address true =
      ap (λ (x : State). l2_line_at x.rec t v) (write-miss-next z b c bs i h₁)
      ∙ put-l2-line z₁ y.good.tidy t v (l2-bounds z₁ Anything y.good t v kv).0 k.way in
      l2-near y' b (write-cache c) (write-home ∙ h) (t, v, rw l refl, rw l ka)

  write-spends : Spends z b (write_report b bs z) y'
  write-spends =
      let r = write_report b bs z in let most = write-any b z bs one in
      bool (cacheable z.rec b)
      (λ c. bool (in_l1d z b)
      (λ i. let k = write-hit b z bs one c i in to-near most (write-hit-near c i) (λ _. k) (λ _. more 0 64 (omega arith) k))
      (λ i. bool (home_is_l2 z.rec b)
      (λ h. to-near most (write-miss-near c i h)
      (λ n. none-from-l2 z b 1 r h (write-quiet b z bs one c i (inr (in-l2 z q b (n.l2 h)))))
      (λ x. false-true (sym (x h) ∙ c)))
      (λ h. to-far most (λ n. false-true (sym i ∙ n.l1d h)) (λ e. false-true (sym (write-home ∙ h) ∙ e)) (at-most-mode z b 1 r (write-quiet b z bs one c i (inl h))))))
      (λ c. to-far most (λ n. false-true (sym c ∙ n.cache)) (λ _. kept-cacheable z y' b step'.1 ∙ c) (write-past b z bs one c))

-- ---- up to eight bytes, one after another: u k is the state before byte k, q k what it reports, t k what the bytes
-- before it report together
module _ (a n : ℕ) (few : n ≤ 8) (u : ℕ → State) (q t : ℕ → Report) (start : AtMost 0 (t 0))
    (read : (k : ℕ) → (t (suc k)).read ≡ (t k).read + (q k).read) (written : (k : ℕ) → (t (suc k)).written ≡ (t k).written + (q k).written)
    (spends : (k : ℕ) → k < n → Spends (u k) (a + k) (q k) (u (suc k))) where
  -- lines begun before the one with byte k
  abbrev begun : ℕ → ℕ
  begun k = (a + k) / 64 - a / 64

  abbrev Spent : ℕ → Type 0
  Spent k =
      (Near (u (suc k)) (a + k) × AtMost (128 * begun k + 128) (t (suc k)))
      ⊎ (Far (u (suc k)) (a + k) × AtMost (128 * begun k + suc k) (t (suc k)))

  -- one more byte, which costs no more than d
  add : (k m d : ℕ) → AtMost m (t k) → AtMost d (q k) → AtMost (m + d) (t (suc k))
  add k m d x y = let r = read k in let w = written k in let x₀ = x.read in let x₁ = x.written in let y₀ = y.read in let y₁ = y.written in
      record { read = omega arith; written = omega arith }

  all_but : (k : ℕ) → k < 8 → Spent k → AtMost (128 * begun k + 128) (t (suc k))
  all_but k l = ⊎_elim (λ p. p.1) (λ p. more (128 * begun k + suc k) (128 * begun k + 128) (omega arith) p.1)

  spent : (k : ℕ) → k < n → Spent k
  spent zero h =
      let p = spends 0 h in
      ⊎_elim (λ x. inl (x, more (0 + 128) (128 * begun 0 + 128) (omega arith) (add 0 0 128 start p.most)))
      (λ x. inr (x.0, more (0 + 1) (128 * begun 0 + 1) (omega arith) (add 0 0 1 start x.1)))
      p.any
  spent (suc k) h =
      let p = spends (suc k) h in let b = begun k in let b' = begun (suc k) in
      let before = spent k (omega arith) in
      bool (eqb ((a + suc k) / 64) ((a + k) / 64))
      (λ e. let e' = eqb-true ((a + suc k) / 64) ((a + k) / 64) e in
      ⊎_elim
      (λ x. let y = p.near (near_same (a + k) (a + suc k) e' (u (suc k)) x.0) in
      inl (y.1, more (128 * b + 128 + 0) (128 * b' + 128) (omega arith) (add (suc k) (128 * b + 128) 0 x.1 y.0)))
      (λ x. ⊎_elim
      (λ y. inl (y.0, more (128 * b + suc k + 64) (128 * b' + 128) (omega arith) (add (suc k) (128 * b + suc k) 64 x.1 y.1)))
      (λ y. inr (y.0, more (128 * b + suc k + 1) (128 * b' + suc (suc k)) (omega arith) (add (suc k) (128 * b + suc k) 1 x.1 y.1)))
      (p.far (far-same (a + k) (a + suc k) e' (u (suc k)) x.0)))
      before)
      (λ e. let e' = eqb-false ((a + suc k) / 64) ((a + k) / 64) e in
      let x = all_but k (omega arith) before in
      let b₁ : b' ≡ b + 1 = omega arith in
      ⊎_elim
      (λ y. inl (y, more (128 * b + 128 + 128) (128 * b' + 128) (omega arith) (add (suc k) (128 * b + 128) 128 x p.most)))
      (λ y. inr (y.0, more (128 * b + 128 + 1) (128 * b' + suc (suc k)) (omega arith) (add (suc k) (128 * b + 128) 1 x y.1)))
      p.any)

  at_most : AtMost 256 (t n)
  at_most =
      bool (eqb n 0)
      (λ e. let e' = eqb-true n 0 e in rw e' (more 0 256 (omega arith) start))
      (λ e. let e' = eqb-false n 0 e in
      let i : n ≡ suc (n - 1) = omega arith in
      let x = all_but (n - 1) (omega arith) (spent (n - 1) (omega arith)) in
      rw i (more (128 * begun (n - 1) + 128) 256 (omega arith) x))

-- ---- the accesses
read-bound : (z : State) → Well z → (n a : ℕ) → unaligned_due_in z n a 0 ≡ 0 → AtMost 256 (read_up_report n a z)
unfolding read_up read_up_report
read-bound z q n a d =
    let f = all_fit z n a 0 d in
    at_most a n (due-size _ _ n a 0 d).1 (λ k. (read_up k a z).next) (λ k. read_report 1 (a + k) (read_up k a z).next) (λ k. read_up_report k a z)
    (record { read = omega arith; written = omega arith }) (λ _. refl) (λ _. refl)
    (λ k h. let r = read_up_lem z Anything q a k (record { fits = λ j l. f.fits j (omega arith) }) in
    read-spends (read_up k a z).next r.good (a + k) (rw r.kept.layout (f.fits k h)))

write-bound : (z : State) → Well z → (n a v : ℕ) → unaligned_due_in z n a v ≡ 0 → AtMost 256 (write_up_report n a (little_bytes v n) z)
unfolding write_up write_up_report
write-bound z q n a v d =
    let f = all_fit z n a v d in let bs = little_bytes v n in let l = length-little_bytes v n in let w = anything-written a bs in
    at_most a n (due-size _ _ n a v d).1 (λ k. (write_up k a bs z).next) (λ k. write_report (a + k) (get_or bs k 0 ∷ []) (write_up k a bs z).next)
    (λ k. write_up_report k a bs z)
    (record { read = omega arith; written = omega arith }) (λ _. refl) (λ _. refl)
    (λ k h. let r = up_to Anything Anything a bs w z q k (omega arith) (record { fits = λ j l. f.fits j (omega arith) }) in
    let y = (write_up k a bs z).next in
    write-spends y (good-well y (Between Anything Anything a bs w k) r.good) (a + k) (rw r.kept.layout (f.fits k h)) (get_or bs k 0 ∷ []) refl)

-- ---- every call
abbrev Small : Reply → Type 0
Small r = AtMost 256 r.report

none : AtMost 256 no_report
none = record { read = omega arith; written = omega arith }

unless-lent : (z : State) → Shape z.rec → (r : Reply) → (Well z → Small r) → Small (cond (eqb (lent_due z) 0) r (refused (lent_due z) z))
unless-lent z s r f = cond-elim Small (eqb (lent_due z) 0) r (refused (lent_due z) z) (λ t. f (due-well z s (eqb-true (lent_due z) 0 t))) (λ _. none)

small : {q : Report} → AtMost 256 q → (q.read ≤ 256) × (q.written ≤ 256)
small h = (h.read, h.written)

pub at-most-256 : AtMost256
unfolding call fresh_call view_done read_unaligned_call write_unaligned_call read_unaligned_step write_unaligned_step read_unaligned_done write_unaligned_done transfer_in_call transfer_in_step transfer_out_call transfer_out_step fetch_behind_call fetch_behind_step fetch_behind_done
at-most-256 (one_command c) z s = small (unless-lent z s (step c z) (λ _. let h = at-most-128 c z in let h₀ = h.0 in let h₁ = h.1 in record { read = omega arith; written = omega arith }))
at-most-256 fresh_start z s = small (cond-elim Small (fresh_ok z.l1d z.l2 z.ext) _ _ (λ _. none) (λ _. none))
at-most-256 (look b) z s = (omega arith, omega arith)
at-most-256 (read_unaligned n a) z s =
    let d = unaligned_due_in z n a 0 in
    small (unless-lent z s (read_unaligned_step n a z)
    (λ q. cond-elim Small (eqb d 0) (read_unaligned_done n a z) (refused d z) (λ t. read-bound z q n a (eqb-true d 0 t)) (λ _. none)))
at-most-256 (write_unaligned n a v) z s =
    let d = unaligned_due_in z n a v in
    small (unless-lent z s (write_unaligned_step n a v z)
    (λ q. cond-elim Small (eqb d 0) (write_unaligned_done n a v z) (refused d z) (λ t. write-bound z q n a v (eqb-true d 0 t)) (λ _. none)))
at-most-256 (transfer_in a bs) z s =
    let d = transfer_due_in z (length bs) a in
    small (unless-lent z s (transfer_in_step a bs z)
    (λ _. cond-elim Small (eqb d 0) (carried_out (transferred_in a bs z)) (refused d z) (λ _. none) (λ _. none)))
at-most-256 (transfer_out a o) z s =
    let n = length o in let d = transfer_due_in z n a in
    small (cond-elim Small (eqb (lent_due z) 0) (transfer_out_step a o z) (handed_back (lent_due z) o z)
    (λ _. cond-elim Small (eqb d 0) (handed_back 0 (transferred_out a n z) (sent_home a n z)) (handed_back d o z) (λ _. none) (λ _. none)) (λ _. none))
at-most-256 (fetch_behind a) z s =
    let d = fetch_due_in z a in
    small (cond-elim Small (eqb (lent_due z) 0) (fetch_behind_step a z) (no_fetch (lent_due z) z)
    (λ _. cond-elim Small (eqb d 0) (fetch_behind_done a z) (no_fetch d z)
    (λ _. let h = fetch-most a z in let h₀ = h.0 in let h₁ = h.1 in record { read = omega arith; written = omega arith }) (λ _. none)) (λ _. none))
