-- What lies behind L1P does for a fetch (02, U4): an accepted one leaves a good state and keeps the layout, and its
-- bytes are held, whatever L1D has above them (`fetch-good`). Why: L2 acts as for a data read (`fetch_l2-good`), and the
-- bytes come from an L2 line or from memory, of which every byte is held, seen or not.
use Prim.Native.Nat.{ℕ, ◌+◌, ◌%◌, ◌≤◌, ◌<◌}
use mathlib.Core.Bool.{true}
use mathlib.Core.Path.{◌≡◌, refl, sym, ◌∙◌}
use native.Mathlib.Omega.{arith}
use lib.ListN.{length, get_or}
use lib.Dec.{eqb}
use borrow.Author.Tests.{eqb-true, leb-true, lt-ltb, le-ltb}
use Rattle.model.specs.Memories.{external_base}
use Rattle.model.specs.Lines.{l2_line}
use Rattle.model.specs.Records.{State, sram_of, l2_set_of}
use Rattle.model.specs.Homes.{home_is_l2, memory_part, l2_way_for, fetch_l2}
use Rattle.model.specs.Access.{Access, access, cacheable, read_frozen}
use Rattle.model.specs.Fetches.{fetch_access, fetch_due}
use Rattle.model.specs.Refusals.{unless, multiple_of, place_ok}
use Rattle.model.specs.Calls.{Reply, fetch_due_in, fetch_behind_done, no_fetch, fetch_behind_step, fetch_behind_call}
use Rattle.model.specs.Laws.{cond-elim, lowest_due-none, unless-none}
use Rattle.agreement.proofs.Invariant.{Allowed}
use Rattle.agreement.proofs.Memory.{Fits, read_length, read_at}
use Rattle.agreement.proofs.Good.{layout_of, Good, Kept, kept_refl, Anything, Well, Hit, l2_level}
use Rattle.agreement.proofs.Fetch.{AccessFits, cacheable-yes, cacheable-no, fetch_l2-good, home_part-held}
use Rattle.agreement.proofs.ReadWrite.{home_same, hit_same}
use Rattle.agreement.proofs.Tested.{well-due}

-- ---- what number 0 tells
pub record FetchFits (s e a : ℕ) : Type 0 where
  pub aligned : a % 32 ≡ 0
  pub low : a < external_base → a + 32 ≤ s
  pub high : external_base ≤ a → a + 32 ≤ external_base + e

pub fetch-tells : (s e a : ℕ) → fetch_due s e a ≡ 0 → FetchFits s e a
unfolding fetch_due place_ok
fetch-tells s e a d =
    let p = lowest_due-none (multiple_of 32 a) 14 (unless (place_ok s e 32 a) 5) d in let k = unless-none (place_ok s e 32 a) 4 p.1 in
    record {
      aligned = eqb-true (a % 32) 0 p.0;
      low = λ h. leb-true (a + 32) s (rw (lt-ltb a external_base h) at k);
      high = λ h. leb-true (a + 32) (external_base + e) (rw (le-ltb a external_base h) at k);
    }

pub fetch-fits : (z : State) (a : ℕ) → fetch_due_in z a ≡ 0 → AccessFits (layout_of z.rec) a 32
fetch-fits z a d = let k = fetch-tells (sram_of z.rec) z.rec.extlen a d in record { low = k.low; high = k.high }

-- ---- an accepted fetch
pub record FetchGood (z : State) (F : Allowed) (a : ℕ) (r : Access) : Type 0 where
  pub good : Good r.next F
  pub kept : Kept z r.next
  pub long : length r.bytes ≡ 32
  pub held : (j : ℕ) → j < 32 → F.held (a + j) (get_or r.bytes j 0)

module _ (z : State) (F : Allowed) (q : Good z F) (a : ℕ) (d : fetch_due_in z a ≡ 0) where
  fits : AccessFits (layout_of z.rec) a 32
  fits = fetch-fits z a d

  row : a % 64 + 32 ≤ 64
  row = let k = (fetch-tells (sram_of z.rec) z.rec.extlen a d).aligned in omega arith

  home-fetched : cacheable z.rec a ≡ true → FetchGood z F a (read_frozen 32 a z)
  unfolding read_frozen
  home-fetched t =
      let c = cacheable-yes z.rec a t in
      let z₁ = fetch_l2 a z in let v = l2_way_for z a in let h = fetch_l2-good z F q a 31 fits c in
      let has : home_is_l2 z₁.rec a ≡ true → Hit (l2_level z₁) 4 (l2_set_of z₁.rec a) v (l2_line a) =
      λ y. hit_same z z₁ a v h.kept.mode (h.has (sym (home_same z z₁ a h.kept.mode) ∙ y)) in
      let r = home_part-held z₁ F h.good v a a 32 refl row (rw h.kept.layout fits) has in
      record { good = h.good; kept = h.kept; long = r.long; held = r.right }

  past-fetched : external_base ≤ a → FetchGood z F a (access 4 (memory_part a 32 z) z)
  unfolding memory_part
  past-fetched above =
      let f = fits in let m = q.tidy.sizes.l2_length in let e = q.tidy.sizes.ext_length in let mx = q.tidy.sizes.l2_most in
      let within : Fits z.l2 z.ext a 32 = record { low = λ k. let g = f.low k in omega arith; high = λ k. let g = f.high k in omega arith } in
      record {
        good = q;
        kept = kept_refl z;
        long = read_length z.l2 z.ext a 32 within;
        held = λ j k. let c = read_at z.l2 z.ext a 32 within (omega arith) j k in
            rw c (q.inv.behind.memory_held (a + j)
            (record { low = λ y. absurd (omega arith); high = λ y. let g = f.high above in omega arith }));
      }

  pub fetch-good : FetchGood z F a (fetch_access a z)
  unfolding fetch_access
  fetch-good =
      cond-elim (FetchGood z F a) (cacheable z.rec a) (read_frozen 32 a z) (access 4 (memory_part a 32 z) z) home-fetched (λ t. past-fetched (cacheable-no z.rec a t).0)

-- ---- as a call
pub fetch-step : (a : ℕ) (z : State) → Well z → fetch_behind_call a z ≡ fetch_behind_step a z
unfolding fetch_behind_call
fetch-step a z q = rw (well-due z q) refl

pub fetch-well : (a : ℕ) (z : State) → Well z → Well (fetch_behind_call a z).next
unfolding fetch_behind_step fetch_behind_done
fetch-well a z q =
    let d = fetch_due_in z a in
    rw (fetch-step a z q) (cond-elim (λ (r : Reply). Well r.next) (eqb d 0) (fetch_behind_done a z) (no_fetch d z)
    (λ t. (fetch-good z Anything q a (eqb-true d 0 t)).good) (λ _. q))
