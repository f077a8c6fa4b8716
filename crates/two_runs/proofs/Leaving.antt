-- Lines that leave a cache, in two runs at once: an L1D line goes home, an L2 line takes in its halves and is written
-- out. Shown: each step keeps `Pair`. Why: the line's bytes are an area for its address, and so is the place they go
-- to.
-- A lemma named `-pair` has the second state with the first one's record itself, one named `-both` has any two states
-- of a `Pair`.
use Prim.Native.Nat.{ℕ, ◌+◌, ◌-◌, ◌%◌, ◌≤◌, ◌<◌}
use mathlib.Core.Bool.{Bool, true, false, cond}
use mathlib.Core.Path.{◌≡◌, refl, sym, ap, ◌∙◌}
use mathlib.Core.Logic.{⊎_elim}
use mathlib.Core.List.{List}
use native.Mathlib.Omega.{arith}
use Rattle.model.specs.Laws.{cond_both}
use Rattle.model.specs.Bytes.{stored, part}
use Rattle.model.specs.Memories.{external_base}
use Rattle.model.specs.Lines.{l1d_set_of, l1d_data, line_of, l2_line, upper_half}
use Rattle.model.specs.Records.{State, with_record, with_external, l2_set_of, l2_data, l1d_line_at, l2_line_at, with_l1d_line, with_l2_line}
use Rattle.model.specs.Ways.{l1d_way, l2_way, in_l1d, in_l2, empty_l1d, empty_l2}
use Rattle.model.specs.Homes.{home_is_l2, put_memory, put_l2, put_home, take_half, take_halves, write_out_l2, writeback_l2, evict_l2}
use Rattle.model.specs.Access.{writeback_l1d, evict_l1d}
use Rattle.model.specs.declared.Line.{Line}
use Rattle.agreement.proofs.Tables.{l2_store, line_same}
use Rattle.agreement.proofs.Good.{l1d-hit, l2-hit}
use Rattle.two_runs.proofs.Areas.{Pairing, Twins, Area, area-part, area-stored}
use Rattle.two_runs.proofs.Held.{Exists, valid-exists, exists-put, replaces, held-lines}
use Rattle.two_runs.proofs.Pair.{Layout, Pair, Keeps, twin, lift, l1d-room, l2-room, empty_l1d-pair, empty_l2-pair, l2-put, high-pair, put_memory-pair}

-- the L2 line at b stands in slot t, v
abbrev pub Holding : ℕ → ℕ → ℕ → State → Type 0
Holding t v b z = ((l2_line_at z.rec t v).valid ≡ true) × ((l2_line_at z.rec t v).address ≡ b)

-- .. and the two states are a pair
abbrev Stays : Pairing → Layout → ℕ → ℕ → ℕ → State → State → Type 0
Stays P g t v b z z' = Pair P g z z' × Holding t v b z

module _ {P : Pairing} {g : Layout} where
  -- ---- emptied
  pub empty_l1d-both : (s w : ℕ) → Keeps P g (empty_l1d s w)
  empty_l1d-both s w z = lift (Pair P g) (empty_l1d s w) z (λ d m e q. empty_l1d-pair q s w)

  pub empty_l2-both : (t v : ℕ) → Keeps P g (empty_l2 t v)
  empty_l2-both t v z = lift (Pair P g) (empty_l2 t v) z (λ d m e q. empty_l2-pair q t v)

  module _ {z : State} {d m e : List ℕ} (q : Pair P g z (twin z d m e)) where
    -- ---- the 64 bytes of an L1D line, the 128 of an L2 line
    l1d-line : (s w : ℕ) → w < 2 → (l1d_line_at z.rec s w).valid ≡ true →
        Twins P (l1d_line_at z.rec s w).address 64 (part z.l1d (l1d_data s w) 64) (part d (l1d_data s w) 64)
    l1d-line s w hw k =
        area-part (q.l1d.bytes s w k) q.sizes.l1d_same (l1d-room q s w (q.l1d.placed s w k).set hw) 0 (omega arith) (omega arith) (omega arith)

    l2-line : (t v : ℕ) → v < 4 → (l2_line_at z.rec t v).valid ≡ true →
        Twins P (l2_line_at z.rec t v).address 128 (part z.l2 (l2_data z.rec t v) 128) (part m (l2_data z.rec t v) 128)
    l2-line t v hv k =
        area-part (q.l2.bytes t v k) q.sizes.l2_same (l2-room q t v (q.l2.placed t v k).set hv) 0 (omega arith) (omega arith) (omega arith)

    -- ---- n bytes at a go into slot t, v, which has the bytes of its L2 line and, if the arrays have that slot at
    -- all, the line itself
    pub put_l2-pair : (t v : ℕ) {a n : ℕ} {bs bs' : List ℕ} → Twins P a n bs bs' → t < g.sets → v < 4 → a % 128 + n ≤ 128 →
        Area P (l2_line a) (l2_data z.rec t v) 128 z.l2 m → (Exists l2_store z.rec.l2 t v → Holding t v (l2_line a) z) →
        Pair P g (put_l2 t v a bs z) (put_l2 t v a bs' (twin z d m e))
    unfolding put_l2 with_l2_line
    put_l2-pair t v {a} tw ht hv f area there =
        let x = line_of (l2_line_at z.rec t v).address true in
        let now : (l2_line_at (with_l2_line z.rec t v x) t v).valid ≡ true → Holding t v (l2_line a) z =
        λ k. there (exists-put l2_store z.rec.l2 t v x (valid-exists l2_store (with_l2_line z.rec t v x).l2 t v k)) in
        l2-put q t v (a % 128) x ht hv f refl tw
        (λ k. q.l2.placed t v (now k).0)
        (λ k. rw (now k).1 (area-stored area q.sizes.l2_same (l2-room q t v ht hv) tw (a % 128) f (omega arith) refl))

    -- into the line that stands there
    put_l2-held : (t v : ℕ) {a n : ℕ} {bs bs' : List ℕ} → Twins P a n bs bs' → v < 4 → a % 128 + n ≤ 128 → Holding t v (l2_line a) z →
        Pair P g (put_l2 t v a bs z) (put_l2 t v a bs' (twin z d m e))
    put_l2-held t v tw hv f h =
        let b = h.1 in put_l2-pair t v tw (q.l2.placed t v h.0).set hv f (rw b at (q.l2.bytes t v h.0)) (λ _. h)

    -- ---- an L1D line's bytes go home
    put_home-pair : {a : ℕ} {bs bs' : List ℕ} → Twins P a 64 bs bs' → a % 64 ≡ 0 → (a < external_base → a + 64 ≤ g.sram) →
        (external_base ≤ a → a + 64 ≤ external_base + g.ext) →
        Pair P g (put_home a bs z) (put_home a bs' (twin z d m e))
    unfolding put_home in_l2 l2_way
    put_home-pair {a} {bs} {bs'} tw al lo hi =
        let z' = twin z d m e in let t = l2_set_of z.rec a in let v = l2_way z a in
        cond_both (Pair P g) (home_is_l2 z.rec a) (cond (in_l2 z a) (put_l2 t v a bs z) z) (put_memory a bs z)
        (cond (in_l2 z a) (put_l2 t v a bs' z') z') (put_memory a bs' z')
        (λ _. cond_both (Pair P g) (in_l2 z a) (put_l2 t v a bs z) z (put_l2 t v a bs' z') z'
        (λ k. let h = l2-hit z a k in put_l2-held t v tw h.way (omega arith) (h.valid, h.address)) (λ _. q))
        (λ _. put_memory-pair q tw lo hi)

    writeback_l1d-pair : (s w : ℕ) → w < 2 → Pair P g (writeback_l1d s w z) (writeback_l1d s w (twin z d m e))
    unfolding writeback_l1d
    writeback_l1d-pair s w hw =
        let z' = twin z d m e in let x = l1d_line_at z.rec s w in
        let y = put_home x.address (part z.l1d (l1d_data s w) 64) z in let y' = put_home x.address (part d (l1d_data s w) 64) z' in
        cond_both (Pair P g) x.valid (cond x.dirty y z) z (cond x.dirty y' z') z'
        (λ k. cond_both (Pair P g) x.dirty y z y' z'
        (λ _. let o = q.l1d.placed s w k in put_home-pair (l1d-line s w hw k) o.aligned o.low o.high) (λ _. q))
        (λ _. q)

    -- ---- the line in slot t, v becomes clean or dirty
    l2-marked : (t v : ℕ) (c : Bool) → (l2_line_at z.rec t v).valid ≡ true → let r = with_l2_line z.rec t v (line_of (l2_line_at z.rec t v).address c) in
        Pair P g (with_record z r) (with_record (twin z d m e) r)
    unfolding with_l2_line
    l2-marked t v c k =
        let x = line_of (l2_line_at z.rec t v).address c in
        record {
          same = refl;
          sizes = q.sizes;
          l1d = q.l1d;
          l2 = held-lines q.l2 (l2_line_at (with_l2_line z.rec t v x))
              (λ t' v' y.
              ⊎_elim
              (λ c. let e₀ = c.0.0 in let e₁ = c.0.1 in let e₂ = c.1 in (rw (e₀, e₁) k, rw e₂ (rw (e₀, e₁) refl)))
              (λ c. let e₂ = c.1 in (rw e₂ at y, ap (λ (l : Line). l.address) e₂))
              (replaces l2_store z.rec.l2 t v x t' v' y));
          sram = q.sram;
          ext = q.ext;
        }

    -- ---- the half at b goes into its L2 line, which stays where it stands
    put-stays : (t v : ℕ) {b : ℕ} {bs bs' : List ℕ} → Twins P b 64 bs bs' → v < 4 → b % 64 ≡ 0 → Holding t v (l2_line b) z →
        Stays P g t v (l2_line b) (put_l2 t v b bs z) (put_l2 t v b bs' (twin z d m e))
    unfolding put_l2 with_l2_line
    put-stays t v tw hv al h =
        let x = line_of (l2_line_at z.rec t v).address true in
        let o = valid-exists l2_store z.rec.l2 t v h.0 in
        let n : l2_line_at (with_l2_line z.rec t v x) t v ≡ x = line_same l2_store z.rec.l2 t v x o.set o.way in
        (put_l2-held t v tw hv (omega arith) h, (ap (λ (l : Line). l.valid) n, ap (λ (l : Line). l.address) n ∙ h.1))

    take_half-pair : (t v b : ℕ) → v < 4 → b % 64 ≡ 0 → Holding t v (l2_line b) z → Stays P g t v (l2_line b) (take_half t v b z) (take_half t v b (twin z d m e))
    unfolding take_half in_l1d l1d_way empty_l1d with_l1d_line
    take_half-pair t v b hv al h =
        let z' = twin z d m e in let s = l1d_set_of b in let w = l1d_way z b in let x = l1d_line_at z.rec s w in
        let p = put_l2 t v b (part z.l1d (l1d_data s w) 64) z in let p' = put_l2 t v b (part d (l1d_data s w) 64) z' in
        let y = cond x.dirty p z in let y' = cond x.dirty p' z' in
        cond_both (Stays P g t v (l2_line b)) (in_l1d z b) (empty_l1d s w y) z (empty_l1d s w y') z'
        (λ i. let k = l1d-hit z b i in let a = k.address in
        let same : x.address ≡ b = omega arith in
        let r = cond_both (Stays P g t v (l2_line b)) x.dirty p z p' z'
        (λ _. put-stays t v (rw same at (l1d-line s w k.way k.valid)) hv al h) (λ _. (q, h)) in
        (empty_l1d-both s w y y' r.0, r.1))
        (λ _. (q, h))

  -- ---- the line itself is written out
  write_out_l2-pair : {z : State} {d m e : List ℕ} (q : Pair P g z (twin z d m e)) (t v : ℕ) → v < 4 → Pair P g (write_out_l2 t v z) (write_out_l2 t v (twin z d m e))
  unfolding write_out_l2
  write_out_l2-pair {z} {d} {m} {e} q t v hv =
      let z' = twin z d m e in let x = l2_line_at z.rec t v in let r = with_l2_line z.rec t v (line_of x.address false) in
      let e₁ = stored z.ext (x.address - external_base) (part z.l2 (l2_data z.rec t v) 128) in
      let e₂ = stored e (x.address - external_base) (part m (l2_data z.rec t v) 128) in
      let y = with_external (with_record z r) e₁ in let y' = with_external (with_record z' r) e₂ in
      cond_both (Pair P g) x.valid (cond x.dirty y z) z (cond x.dirty y' z') z'
      (λ k. cond_both (Pair P g) x.dirty y z y' z'
      (λ _. let o = q.l2.placed t v k in
      l2-marked (high-pair q (l2-line q t v hv k) o.low o.high) t v false k)
      (λ _. q))
      (λ _. q)

  -- ---- over any two states
  pub writeback_l1d-both : (s w : ℕ) → w < 2 → Keeps P g (writeback_l1d s w)
  writeback_l1d-both s w hw z = lift (Pair P g) (writeback_l1d s w) z (λ d m e q. writeback_l1d-pair q s w hw)

  pub evict_l1d-both : (s w : ℕ) → w < 2 → Keeps P g (evict_l1d s w)
  unfolding evict_l1d
  evict_l1d-both s w hw z z' q = empty_l1d-both s w (writeback_l1d s w z) (writeback_l1d s w z') (writeback_l1d-both s w hw z z' q)

  pub write_out_l2-both : (t v : ℕ) → v < 4 → Keeps P g (write_out_l2 t v)
  write_out_l2-both t v hv z = lift (Pair P g) (write_out_l2 t v) z (λ d m e q. write_out_l2-pair q t v hv)

  take_half-both : (t v b : ℕ) → v < 4 → b % 64 ≡ 0 → (z z' : State) → Holding t v (l2_line b) z → Pair P g z z' →
      Stays P g t v (l2_line b) (take_half t v b z) (take_half t v b z')
  take_half-both t v b hv al z z' h = lift (Stays P g t v (l2_line b)) (take_half t v b) z (λ d m e q. take_half-pair q t v b hv al h) z'

  -- both halves, then the line itself
  take_halves-both : (t v b : ℕ) → v < 4 → b % 128 ≡ 0 → (z z' : State) → Holding t v b z → Pair P g z z' →
      Pair P g (take_halves t v b z) (take_halves t v b z')
  unfolding take_halves
  take_halves-both t v b hv al z z' h q =
      let e : l2_line b ≡ b = omega arith in
      let e' : l2_line (upper_half b) ≡ b = omega arith in
      let r = take_half-both t v b hv (omega arith) z z' (h.0, h.1 ∙ sym e) q in
      (take_half-both t v (upper_half b) hv (omega arith) (take_half t v b z) (take_half t v b z') (r.1.0, r.1.1 ∙ e ∙ sym e') r.0).0

  pub writeback_l2-both : (t v : ℕ) → v < 4 → Keeps P g (writeback_l2 t v)
  unfolding writeback_l2
  writeback_l2-both t v hv z =
      lift (Pair P g) (writeback_l2 t v) z
      (λ d m e q. let b = (l2_line_at z.rec t v).address in let z' = twin z d m e in
      cond_both (Pair P g) (l2_line_at z.rec t v).valid (write_out_l2 t v (take_halves t v b z)) z (write_out_l2 t v (take_halves t v b z')) z'
      (λ k. write_out_l2-both t v hv (take_halves t v b z) (take_halves t v b z')
      (take_halves-both t v b hv (q.l2.placed t v k).aligned z z' (k, refl) q))
      (λ _. q))

  pub evict_l2-both : (t v : ℕ) → v < 4 → Keeps P g (evict_l2 t v)
  unfolding evict_l2
  evict_l2-both t v hv z z' q = empty_l2-both t v (writeback_l2 t v z) (writeback_l2 t v z') (writeback_l2-both t v hv z z' q)
