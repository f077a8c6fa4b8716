-- Non-aligned accesses (02, U6), in two runs at once. Shown: on a `Pair` both give the same server and the same report,
-- bytes that stand for the same addresses, and a `Pair` again (`read-up-both`, `write-up-both`); a write whose values
-- fit alike is due the same number. Why: an access is single-byte accesses, of which `Serving` and `Reporting` show it.
use Prim.Native.Nat.{ℕ, zero, suc, ◌+◌, ◌≤◌, ◌<◌}
use mathlib.Core.Bool.{true}
use mathlib.Core.Path.{◌≡◌, refl, sym, ◌∙◌}
use mathlib.Core.List.{List, [], ◌∷◌, ◌++◌}
use native.Mathlib.Omega.{arith}
use lib.ListN.{length, get_or, length-append, get_or-append}
use lib.Seq.{get_or-append-add}
use lib.Dec.{ltb, eqb}
use borrow.Author.Tests.{ltb-true, ltb-false}
use Rattle.model.specs.Records.{State}
use Rattle.model.specs.Access.{Access}
use Rattle.model.specs.Reports.{Report}
use Rattle.model.specs.Refusals.{size_ok, value_ok}
use Rattle.model.specs.Unaligned.{unaligned_size, read_up, write_up, read_up_report, write_up_report, unaligned_due}
use Rattle.model.specs.Calls.{unaligned_due_in}
use Rattle.model.specs.Laws.{bool}
use Rattle.agreement.proofs.Unaligned.{all_fit}
use Rattle.two_runs.proofs.Areas.{Pairing, moved, Twins, no-twins}
use Rattle.two_runs.proofs.Pair.{Layout, Pair, pair-stored}
use Rattle.two_runs.proofs.Serving.{Fits, read-both, write-both}
use Rattle.two_runs.proofs.Reporting.{read-report, write-report}

-- ---- what is due
sizes-too : (n : ℕ) → unaligned_size n ≡ true → size_ok n ≡ true
unfolding unaligned_size size_ok
sizes-too n h = bool (eqb n 1) (λ t. rw t refl) (λ t. bool (eqb n 2) (λ u. rw (t, u) refl) (λ u. rw (t, u) h))

pub unaligned-alike : (s e n a v v' : ℕ) → (size_ok n ≡ true → value_ok n v ≡ value_ok n v') → unaligned_due s e n a v ≡ unaligned_due s e n a v'
unfolding unaligned_due
unaligned-alike s e n a v v' h = bool (unaligned_size n) (λ t. rw (h (sizes-too n t)) refl) (λ t. rw t refl)

-- the bytes fit one by one
abbrev pub FitUp : Layout → ℕ → ℕ → Type 0
FitUp g a n = (k : ℕ) → k < n → Fits g (a + k) 1

pub due-fit : {P : Pairing} {g : Layout} {z z' : State} → Pair P g z z' → (n a v : ℕ) → unaligned_due_in z n a v ≡ 0 → FitUp g a n
due-fit {z = z} q n a v u k h =
    let f = (all_fit z n a v u).fits k h in let s = q.sizes.sram in let x = q.sizes.extlen in
    record { more = omega arith; row = omega arith; low = λ l. let y = f.low l in omega arith; high = λ l. let y = f.high l in omega arith }

-- ---- bytes behind bytes
both-twins : {P : Pairing} {a n : ℕ} {bs bs' cs cs' : List ℕ} → Twins P a n bs bs' → Twins P (a + n) 1 cs cs' → Twins P a (suc n) (bs ++ cs) (bs' ++ cs')
both-twins {P} {a} {n} {bs} {bs'} {cs} {cs'} t u =
    let l = t.long in let l' = t.long' in let m = u.long in let m' = u.long' in
    record {
      long = length-append bs cs ∙ omega arith;
      long' = length-append bs' cs' ∙ omega arith;
      byte = λ k h.
          bool (ltb k n)
          (λ y. let y' = ltb-true k n y in
          moved P refl (sym (get_or-append bs cs 0 k (omega arith))) (sym (get_or-append bs' cs' 0 k (omega arith))) (t.byte k y'))
          (λ y. let y' = ltb-false k n y in
          let i : length bs + 0 ≡ k = omega arith in let i' : length bs' + 0 ≡ k = omega arith in let j : a + n + 0 ≡ a + k = omega arith in
          moved P j (sym (rw i at (get_or-append-add bs cs 0 0))) (sym (rw i' at (get_or-append-add bs' cs' 0 0))) (u.byte 0 (omega arith)));
    }

one-twin : {P : Pairing} {a n : ℕ} {bs bs' : List ℕ} → Twins P a n bs bs' → (k : ℕ) → k < n → Twins P (a + k) 1 (get_or bs k 0 ∷ []) (get_or bs' k 0 ∷ [])
one-twin {P} {a} t k h =
    record { long = refl; long' = refl; byte = λ j l. let i : j ≡ 0 = omega arith in let i' : a + k + 0 ≡ a + k = omega arith in rw (i, i') (t.byte k h) }

-- ---- what two accesses have in common
pub record Ups (P : Pairing) (g : Layout) (x x' : Access) (r r' : Report) : Type 0 where
  pub server : x.server ≡ x'.server
  pub report : r ≡ r'
  pub next : Pair P g x.next x'.next

-- one more byte
module _ {P : Pairing} {g : Layout} (a n : ℕ) (z z' : State) (f : Fits g (a + n) 1) where
  read-one-more : Ups P g (read_up n a z) (read_up n a z') (read_up_report n a z) (read_up_report n a z') →
      Twins P a n (read_up n a z).bytes (read_up n a z').bytes →
      Ups P g (read_up (suc n) a z) (read_up (suc n) a z') (read_up_report (suc n) a z) (read_up_report (suc n) a z')
      × Twins P a (suc n) (read_up (suc n) a z).bytes (read_up (suc n) a z').bytes
  unfolding read_up read_up_report
  read-one-more r t =
      let y = (read_up n a z).next in let y' = (read_up n a z').next in
      let x = read-both f y y' r.next in
      let e = read-report 1 (a + n) y y' (pair-stored r.next) in
      let e₁ = r.report in let s₁ = r.server in let s₂ = x.server in
      (record { server = rw (s₁, s₂) refl; report = rw (e₁, e) refl; next = x.next }, both-twins t x.bytes)

  write-one-more : (bs bs' : List ℕ) (m : ℕ) → Twins P a m bs bs' → n < m →
      Ups P g (write_up n a bs z) (write_up n a bs' z') (write_up_report n a bs z) (write_up_report n a bs' z') →
      Ups P g (write_up (suc n) a bs z) (write_up (suc n) a bs' z') (write_up_report (suc n) a bs z) (write_up_report (suc n) a bs' z')
  unfolding write_up write_up_report
  write-one-more bs bs' m t l r =
      let y = (write_up n a bs z).next in let y' = (write_up n a bs' z').next in
      let x = write-both f (one-twin t n l) y y' r.next in
      let e = write-report (a + n) (get_or bs n 0 ∷ []) (get_or bs' n 0 ∷ []) refl y y' (pair-stored r.next) in
      let e₁ = r.report in let s₁ = r.server in let s₂ = x.server in
      record { server = rw (s₁, s₂) refl; report = rw (e₁, e) refl; next = x.next }

module _ {P : Pairing} {g : Layout} (a : ℕ) (z z' : State) (q : Pair P g z z') where
  read_none : Ups P g (read_up 0 a z) (read_up 0 a z') (read_up_report 0 a z) (read_up_report 0 a z') × Twins P a 0 (read_up 0 a z).bytes (read_up 0 a z').bytes
  unfolding read_up read_up_report
  read_none = (record { server = refl; report = refl; next = q }, no-twins P a)

  write-none : (bs bs' : List ℕ) → Ups P g (write_up 0 a bs z) (write_up 0 a bs' z') (write_up_report 0 a bs z) (write_up_report 0 a bs' z')
  unfolding write_up write_up_report
  write-none bs bs' = record { server = refl; report = refl; next = q }

  pub read-up-both : (n : ℕ) → FitUp g a n →
      Ups P g (read_up n a z) (read_up n a z') (read_up_report n a z) (read_up_report n a z') × Twins P a n (read_up n a z).bytes (read_up n a z').bytes
  read-up-both zero f = read_none
  read-up-both (suc n) f =
      let r = read-up-both n (λ k h. f k (omega arith)) in read-one-more a n z z' (f n (omega arith)) r.0 r.1

  pub write-up-both : (bs bs' : List ℕ) (m : ℕ) → Twins P a m bs bs' → (n : ℕ) → n ≤ m → FitUp g a n →
      Ups P g (write_up n a bs z) (write_up n a bs' z') (write_up_report n a bs z) (write_up_report n a bs' z')
  write-up-both bs bs' m t zero l f = write-none bs bs'
  write-up-both bs bs' m t (suc n) l f =
      write-one-more a n z z' (f n (omega arith)) bs bs' m t l (write-up-both bs bs' m t n (omega arith) (λ k h. f k (omega arith)))
