-- Non-aligned accesses (02, U6) on a good state. Shown: an accepted read leaves the state good and every byte that it
-- read is right; an accepted write of the bytes bs at a takes a state that is good by F to one that is good by F',
-- where F' is F with bs written at a: what `ReadWrite` shows of one access. And each byte is a command of its own,
-- accepted in the state that it meets (`read-is-bytes`, `write-is-bytes`).
-- Why: an access is single-byte accesses, each of which lies in one line. Between two of them the addresses below are
-- right by F' and the others by F (`Between`). No access changes where memory is, so that a byte which lies in it at
-- the start still does.
use Prim.Native.Nat.{ℕ, zero, suc, ◌+◌, ◌-◌, ◌/◌, ◌%◌, ◌≤◌, ◌<◌}
use mathlib.Core.Bool.{true, false, cond}
use mathlib.Core.Path.{◌≡◌, refl, sym, ap, ◌∙◌}
use mathlib.Core.Logic.{◌⊎◌, inl, inr}
use mathlib.Core.List.{List, [], ◌∷◌, ◌++◌}
use native.Mathlib.Omega.{arith}
use lib.ListN.{length, get_or, length-append, get_or-append}
use lib.Seq.{get_or-append-add}
use lib.Dec.{ltb, eqb}
use borrow.Author.Tests.{ltb-true, ltb-false, lt-ltb, le-ltb, le-leb, leb-true, eqb-true, eqb-false}
use Rattle.model.specs.Basics.{each}
use Rattle.model.specs.Bytes.{little_bytes}
use Rattle.model.specs.Memories.{external_base}
use Rattle.model.specs.Records.{State, sram_of}
use Rattle.model.specs.Access.{read_access, write_access}
use Rattle.model.specs.Refusals.{lowest_due, unless, lent_due, size_ok, place_ok, value_ok, access_due}
use Rattle.model.specs.Unaligned.{unaligned_size, read_up, write_up, bytes_placed, unaligned_due}
use Rattle.model.specs.Trace.{command}
use Rattle.model.specs.Calls.{Reply, refused, command_due, read_done, write_done, accepted, step, call, read_unaligned_done, write_unaligned_done, unaligned_due_in, read_unaligned_step, write_unaligned_step, read_unaligned_call, write_unaligned_call}
use Rattle.model.specs.Bytewise.{byte_read, byte_write, calls_to, IsBytes, ReadIsBytes, WriteIsBytes}
use Rattle.model.specs.Laws.{bool, both_true, cond-elim, lowest_due-none, length-little_bytes, placed-together}
use Rattle.model.specs.declared.Command.{Command}
use Rattle.agreement.proofs.Invariant.{Allowed, Grows, Layout, grows-refl}
use Rattle.agreement.proofs.Memory.{Written}
use Rattle.agreement.proofs.Good.{layout_of, Good, Anything, Well, good-well, kept_refl, kept_trans}
use Rattle.agreement.proofs.Fetch.{AccessFits}
use Rattle.agreement.proofs.ReadWrite.{ReadGood, read-good, Step, write-good}
use Rattle.agreement.proofs.Tested.{due-well, well-due, call_step}

-- ---- what number 0 tells: each byte lies in SRAM or in external memory
placed-byte : (s e n a : ℕ) → bytes_placed s e n a ≡ true → (k : ℕ) → k < n → place_ok s e 1 (a + k) ≡ true
unfolding bytes_placed
placed-byte s e zero a h k l = absurd (omega arith)
placed-byte s e (suc n) a h k l =
    let p = both_true (bytes_placed s e n a) (place_ok s e 1 (a + n)) h in
    bool (eqb k n) (λ t. let t' = eqb-true k n t in rw t' p.1)
    (λ t. let t' = eqb-false k n t in placed-byte s e n a p.0 k (omega arith))

pub due-placed : (s e n a v : ℕ) → unaligned_due s e n a v ≡ 0 → (k : ℕ) → k < n → place_ok s e 1 (a + k) ≡ true
unfolding unaligned_due
due-placed s e n a v d =
    let p = lowest_due-none (unaligned_size n) 2 (lowest_due (unless (bytes_placed s e n a) 5) (unless (value_ok n v) 6)) d in
    placed-byte s e n a (lowest_due-none (bytes_placed s e n a) 4 (unless (value_ok n v) 6) p.1).0

pub due-size : (s e n a v : ℕ) → unaligned_due s e n a v ≡ 0 → (1 ≤ n) × (n ≤ 8)
unfolding unaligned_due unaligned_size
due-size s e n a v d =
    let p = lowest_due-none (unaligned_size n) 2 (lowest_due (unless (bytes_placed s e n a) 5) (unless (value_ok n v) 6)) d in
    bool (eqb n 4) (λ t. let t' = eqb-true n 4 t in (omega arith, omega arith))
    (λ t. let t' = eqb-true n 8 (rw t at p.0) in (omega arith, omega arith))

placed-low : (s e n b : ℕ) → place_ok s e n b ≡ true → b < external_base → b + n ≤ s
unfolding place_ok
placed-low s e n b h l = leb-true (b + n) s (rw (lt-ltb b external_base l) at h)

placed-high : (s e n b : ℕ) → place_ok s e n b ≡ true → external_base ≤ b → b + n ≤ external_base + e
unfolding place_ok
placed-high s e n b h l = leb-true (b + n) (external_base + e) (rw (le-ltb b external_base l) at h)

-- all of them together, where SRAM ends well below external memory
pub due-fits : (s e n a v : ℕ) (g : Layout) → g.sram ≡ s → g.ext ≡ e → s + 8 ≤ external_base → unaligned_due s e n a v ≡ 0 → AccessFits g a n
unfolding unaligned_due
due-fits s e n a v g es ee h d =
    let c = due-size s e n a v d in let c₀ = c.0 in let c₁ = c.1 in
    let p = lowest_due-none (unaligned_size n) 2 (lowest_due (unless (bytes_placed s e n a) 5) (unless (value_ok n v) 6)) d in
    let t = (lowest_due-none (bytes_placed s e n a) 4 (unless (value_ok n v) 6) p.1).0 in
    let i : n ≡ suc (n - 1) = omega arith in
    let o : place_ok s e n a ≡ true = rw i (sym (placed-together s e (n - 1) a (omega arith)) ∙ (rw i at t)) in
    record { low = λ l. let x = placed-low s e n a o l in omega arith; high = λ l. let x = placed-high s e n a o l in omega arith }

-- the bytes from a on, n of them, lie in SRAM or in external memory
pub record AllFit (g : Layout) (a n : ℕ) : Type 0 where
  pub fits : (k : ℕ) → k < n → AccessFits g (a + k) 1

pub all_fit : (z : State) (n a v : ℕ) → unaligned_due_in z n a v ≡ 0 → AllFit (layout_of z.rec) a n
all_fit z n a v d =
    let s = sram_of z.rec in let e = z.rec.extlen in
    record {
      fits = λ k h. let p = due-placed s e n a v d k h in record { low = placed-low s e 1 (a + k) p; high = placed-high s e 1 (a + k) p };
    }

pub fewer-fit : (g : Layout) (a n : ℕ) → AllFit g a (suc n) → AllFit g a n
fewer-fit g a n f = record { fits = λ k h. f.fits k (omega arith) }

-- ---- reads
module _ (z : State) (F : Allowed) (q : Good z F) (a : ℕ) where
  pub read_up_lem : (n : ℕ) → AllFit (layout_of z.rec) a n → ReadGood z F a n (read_up n a z)
  unfolding read_up
  read_up_lem zero f = record { good = q; kept = kept_refl z; long = refl; right = λ j h. absurd (omega arith) }
  read_up_lem (suc n) f =
      let r = read_up_lem n (fewer-fit (layout_of z.rec) a n f) in
      let y = (read_up n a z).next in let b = a + n in let x = read_access 1 b y in
      let s = read-good y F r.good b 0 (rw r.kept.layout (f.fits n (omega arith))) (omega arith) in
      let bs = (read_up n a z).bytes in
      let l = r.long in let l₁ = s.long in
      record {
        good = s.good;
        kept = kept_trans z y x.next r.kept s.kept;
        long = length-append bs x.bytes ∙ omega arith;
        right = λ j h.
            bool (ltb j n)
            (λ t. let t' = ltb-true j n t in let e = get_or-append bs x.bytes 0 j (omega arith) in rw e (r.right j t'))
            (λ t. let t' = ltb-false j n t in
            let i : j ≡ length bs + 0 = omega arith in let i' : a + j ≡ a + n + 0 = omega arith in
            let e : get_or (bs ++ x.bytes) j 0 ≡ get_or x.bytes 0 0 = rw i (get_or-append-add bs x.bytes 0 0) in
            rw (e, i') (s.right 0 (omega arith)));
      }

-- ---- writes
-- what is right may be right by less
weaker : (z : State) (F F' : Allowed) → Good z F → ((a c : ℕ) → F.right a c → F'.right a c) → Grows F F' → Good z F'
weaker z F F' q h g =
    let v = q.inv in
    record {
      tidy = q.tidy;
      inv = record {
        l1d_sound = v.l1d_sound;
        l2_sound = v.l2_sound;
        inclusion = v.inclusion;
        l1d_right = λ s w k i l. h _ _ (v.l1d_right s w k i l);
        l2_right = λ s w k i l n. h _ _ (v.l2_right s w k i l n);
        memory_right = λ b i n m. h _ _ (v.memory_right b i n m);
        behind = record {
          l2_held = λ t w k i l. g.held _ _ (v.behind.l2_held t w k i l);
          memory_held = λ b i. g.held _ _ (v.behind.memory_held b i);
          l2_alike = λ t w k d i l. g.alike _ _ (v.behind.l2_alike t w k d i l);
        };
      };
    }

module _ (F F' : Allowed) (a : ℕ) (bs : List ℕ) (wr : Written F F' a bs) where
  -- the bytes below a + k have been written
  abbrev pub Between : ℕ → Allowed
  Between k =
      record {
        right = λ c d. (c < a + k → F'.right c d) × (a + k ≤ c → F.right c d);
        held = F'.held;
        alike = F'.alike;
        right_held = λ c d p.
            bool (ltb c (a + k)) (λ t. F'.right_held c d (p.0 (ltb-true c (a + k) t)))
            (λ t. wr.grows.held c d (F.right_held c d (p.1 (ltb-false c (a + k) t))));
        copied = F'.copied;
      }

  one_written : (k : ℕ) → k < length bs → Written (Between k) (Between (suc k)) (a + k) (get_or bs k 0 ∷ [])
  one_written k l =
      record {
        puts = record {
          inside = λ c h h'.
              let i : c - (a + k) ≡ 0 = omega arith in let i' : c - a ≡ k = omega arith in
              (λ _. rw i (rw i' at (wr.puts.inside c (omega arith) (omega arith))), λ y. absurd (omega arith));
          outside = λ c h d p.
              (λ y. p.0 (bool (ltb c (a + k)) (λ t. ltb-true c (a + k) t) (λ t. let t' = h (ltb-false c (a + k) t) in absurd (omega arith))), λ y. p.1 (omega arith));
        };
        grows = record { held = λ _ _ p. p; alike = λ _ _ p. p };
      }

  module _ (z : State) (q : Good z F) where
    pub up_to : (n : ℕ) → n ≤ length bs → AllFit (layout_of z.rec) a n → Step z (Between n) (write_up n a bs z).next
    unfolding write_up
    up_to zero l f =
        record {
          good = weaker z F (Between 0) q (λ c d p. (λ y. wr.puts.outside c (λ y'. absurd (omega arith)) d p, λ _. p))
              (record { held = wr.grows.held; alike = wr.grows.alike });
          kept = kept_refl z;
        }
    up_to (suc n) l f =
        let r = up_to n (omega arith) (fewer-fit (layout_of z.rec) a n f) in
        let y = (write_up n a bs z).next in let b = a + n in let c = get_or bs n 0 ∷ [] in
        let s = write-good y (Between n) (Between (suc n)) r.good b 0 c refl (one_written n (omega arith)) (omega arith) (rw r.kept.layout (f.fits n (omega arith))) in
        record { good = s.good; kept = kept_trans z y (write_access b c y).next r.kept s.kept }

    pub write_up_lem : (n : ℕ) → n ≡ length bs → AllFit (layout_of z.rec) a n → Step z F' (write_up n a bs z).next
    write_up_lem n l f =
        let r = up_to n (omega arith) f in
        record {
          good = weaker (write_up n a bs z).next (Between n) F' r.good
              (λ c d p. bool (ltb c (a + n)) (λ t. p.0 (ltb-true c (a + n) t))
              (λ t. let t' = ltb-false c (a + n) t in wr.puts.outside c (λ _. omega arith) d (p.1 t')))
              (record { held = λ _ _ p. p; alike = λ _ _ p. p });
          kept = r.kept;
        }

-- ---- accepted ones
pub accepted-read-up : (z : State) (F : Allowed) → Good z F → (n a : ℕ) → unaligned_due_in z n a 0 ≡ 0 → ReadGood z F a n (read_up n a z)
accepted-read-up z F q n a d = read_up_lem z F q a n (all_fit z n a 0 d)

pub accepted-write-up : (z : State) (F F' : Allowed) → Good z F → (n a v : ℕ) → Written F F' a (little_bytes v n) → unaligned_due_in z n a v ≡ 0 →
    Step z F' (write_up n a (little_bytes v n) z).next
accepted-write-up z F F' q n a v wr d = write_up_lem F F' a (little_bytes v n) wr z q n (sym (length-little_bytes v n)) (all_fit z n a v d)

pub anything-written : (a : ℕ) (bs : List ℕ) → Written Anything Anything a bs
anything-written a bs = record { puts = record { inside = λ _ _ _. refl; outside = λ _ _ _ _. refl }; grows = grows-refl Anything }

-- ---- each byte is a command, accepted
pub one-due : (s e b w : ℕ) → (b < external_base → b + 1 ≤ s) → (external_base ≤ b → b + 1 ≤ external_base + e) → w < 256 → access_due s e 1 b w ≡ 0
unfolding access_due size_ok place_ok value_ok
one-due s e b w low high h =
    let r : b % 1 ≡ 0 = omega arith in
    bool (ltb b external_base)
    (λ t. rw (r, t, le-leb (b + 1) s (low (ltb-true b external_base t)), lt-ltb w 256 h) refl)
    (λ t. rw (r, t, le-leb (b + 1) (external_base + e) (high (ltb-false b external_base t)), lt-ltb w 256 h) refl)

pub written_byte : (v n k : ℕ) → get_or (little_bytes v n) k 0 < 256
unfolding little_bytes
written_byte v zero k = omega arith
written_byte v (suc n) zero = omega arith
written_byte v (suc n) (suc k) = written_byte (v / 256) n k

module _ (y : State) (h : Well y) (b : ℕ) (f : AccessFits (layout_of y.rec) b 1) where
  read-call : call (command 0 1 b 0) y ≡ read_done 1 b y
  unfolding step command_due accepted
  read-call =
      let d = one-due (sram_of y.rec) y.rec.extlen b 0 f.low f.high (omega arith) in
      call_step (command 0 1 b 0) y h ∙ rw d refl

  write-call : (w : ℕ) → w < 256 → call (command 1 1 b w) y ≡ write_done 1 b w y
  unfolding step command_due accepted
  write-call w l =
      let d = one-due (sram_of y.rec) y.rec.extlen b w f.low f.high l in
      call_step (command 1 1 b w) y h ∙ rw d refl

one_byte : (w : ℕ) → w < 256 → little_bytes w 1 ≡ w ∷ []
unfolding little_bytes
one_byte w h = let e : w % 256 ≡ w = omega arith in rw e refl

-- states that are each the one before it after its command
is-bytes : (f : ℕ → Command) (byte : ℕ → Reply) (u : ℕ → State) (n : ℕ) →
    ((k : ℕ) → k < n → (call (f k) (u k) ≡ byte k) × (u (suc k) ≡ (byte k).next)) → IsBytes f byte n (u 0) (u n)
unfolding each
is-bytes f byte u n s =
    record {
      each-byte = λ k h. let e = reached k (omega arith) in rw (← e) (s k h).0;
      next = reached n (omega arith);
    }
  where
    reached : (k : ℕ) → k ≤ n → u k ≡ calls_to f k (u 0)
    reached zero h = refl
    reached (suc k) h =
        let p = s k (omega arith) in
        p.1 ∙ ap (λ (x : Reply). x.next) (sym p.0) ∙ ap (λ (x : State). (call (f k) x).next) (reached k (omega arith))

module _ (z : State) (q : Well z) (n a : ℕ) where
  pub up-bytes : AllFit (layout_of z.rec) a n → IsBytes (byte_read a) (λ k. read_done 1 (a + k) (read_up k a z).next) n z (read_up n a z).next
  unfolding read_up read_done
  up-bytes f =
      is-bytes (byte_read a) (λ k. read_done 1 (a + k) (read_up k a z).next) (λ k. (read_up k a z).next) n
      (λ k h. let r = read_up_lem z Anything q a k (record { fits = λ j l. f.fits j (omega arith) }) in
      (read-call (read_up k a z).next r.good (a + k) (rw r.kept.layout (f.fits k h)), refl))

  pub read-up-bytes : unaligned_due_in z n a 0 ≡ 0 → IsBytes (byte_read a) (λ k. read_done 1 (a + k) (read_up k a z).next) n z (read_up n a z).next
  read-up-bytes d = up-bytes (all_fit z n a 0 d)

  pub write-up-bytes : (v : ℕ) → unaligned_due_in z n a v ≡ 0 →
      IsBytes (byte_write n a v) (λ k. write_done 1 (a + k) (get_or (little_bytes v n) k 0) (write_up k a (little_bytes v n) z).next) n z
      (write_up n a (little_bytes v n) z).next
  unfolding write_up write_done
  write-up-bytes v d =
      let f = all_fit z n a v d in let bs = little_bytes v n in let l = length-little_bytes v n in let w = anything-written a bs in
      is-bytes (byte_write n a v) (λ k. write_done 1 (a + k) (get_or bs k 0) (write_up k a bs z).next) (λ k. (write_up k a bs z).next) n
      (λ k h. let r = up_to Anything Anything a bs w z q k (omega arith) (record { fits = λ j l. f.fits j (omega arith) }) in
      let y = (write_up k a bs z).next in let c = get_or bs k 0 in let lc = written_byte v n k in (
        write-call y (good-well y (Between Anything Anything a bs w k) r.good) (a + k) (rw r.kept.layout (f.fits k h)) c lc,
        ap (λ (cs : List ℕ). (write_access (a + k) cs y).next) (sym (one_byte c lc)),
      ))

-- ---- the calls
pub read-unaligned-step : (n a : ℕ) (z : State) → Well z → read_unaligned_call n a z ≡ read_unaligned_step n a z
unfolding read_unaligned_call
read-unaligned-step n a z h = rw (well-due z h) refl

pub write-unaligned-step : (n a v : ℕ) (z : State) → Well z → write_unaligned_call n a v z ≡ write_unaligned_step n a v z
unfolding write_unaligned_call
write-unaligned-step n a v z h = rw (well-due z h) refl

pub read-unaligned-done : (n a : ℕ) (z : State) → (read_unaligned_step n a z).number ≡ 0 → (unaligned_due_in z n a 0 ≡ 0) × (read_unaligned_step n a z ≡ read_unaligned_done n a z)
unfolding read_unaligned_step
read-unaligned-done n a z =
    let d = unaligned_due_in z n a 0 in
    cond-elim (λ (r : Reply). r.number ≡ 0 → (d ≡ 0) × (r ≡ read_unaligned_done n a z)) (eqb d 0) (read_unaligned_done n a z) (refused d z)
    (λ t _. (eqb-true d 0 t, refl)) (λ t e. absurd (eqb-false d 0 t e))

pub write-unaligned-done : (n a v : ℕ) (z : State) → (write_unaligned_step n a v z).number ≡ 0 →
    (unaligned_due_in z n a v ≡ 0) × (write_unaligned_step n a v z ≡ write_unaligned_done n a v z)
unfolding write_unaligned_step
write-unaligned-done n a v z =
    let d = unaligned_due_in z n a v in
    cond-elim (λ (r : Reply). r.number ≡ 0 → (d ≡ 0) × (r ≡ write_unaligned_done n a v z)) (eqb d 0) (write_unaligned_done n a v z) (refused d z)
    (λ t _. (eqb-true d 0 t, refl)) (λ t e. absurd (eqb-false d 0 t e))

-- accepted, checks 1 and 2 found nothing
lent_none : (z : State) (r : Reply) → (cond (eqb (lent_due z) 0) r (refused (lent_due z) z)).number ≡ 0 → lent_due z ≡ 0
lent_none z r =
    cond-elim (λ (x : Reply). x.number ≡ 0 → lent_due z ≡ 0) (eqb (lent_due z) 0) r (refused (lent_due z) z) (λ t _. eqb-true (lent_due z) 0 t) (λ _ e. e)

pub read-is-bytes : ReadIsBytes
unfolding read_unaligned_call read_unaligned_done
read-is-bytes n a z s o =
    let q = due-well z s (lent_none z (read_unaligned_step n a z) o) in let e = read-unaligned-step n a z q in
    let p = read-unaligned-done n a z (sym (ap (λ (r : Reply). r.number) e) ∙ o) in
    let e' : (read_up n a z).next ≡ (read_unaligned_call n a z).next = sym (ap (λ (r : Reply). r.next) (e ∙ p.1)) in
    rw e' at (read-up-bytes z q n a p.0)

pub write-is-bytes : WriteIsBytes
unfolding write_unaligned_call write_unaligned_done
write-is-bytes n a v z s o =
    let q = due-well z s (lent_none z (write_unaligned_step n a v z) o) in let e = write-unaligned-step n a v z q in
    let p = write-unaligned-done n a v z (sym (ap (λ (r : Reply). r.number) e) ∙ o) in
    let e' : (write_up n a (little_bytes v n) z).next ≡ (write_unaligned_call n a v z).next = sym (ap (λ (r : Reply). r.next) (e ∙ p.1)) in
    rw e' at (write-up-bytes z q n a v p.0)

-- accepted, it is its commands; refused, it leaves the state
abbrev pub Either : (ℕ → Command) → ℕ → State → Reply → Type 0
Either f n z r = ((r.number ≡ 0) × (r.next ≡ calls_to f n z)) ⊎ ((eqb r.number 0 ≡ false) × (r.next ≡ z))

pub read-unaligned-either : (n a : ℕ) (z : State) → Well z → Either (byte_read a) n z (read_unaligned_call n a z)
unfolding read_unaligned_step read_unaligned_done
read-unaligned-either n a z q =
    let e = read-unaligned-step n a z q in let d = unaligned_due_in z n a 0 in
    rw e (cond-elim (Either (byte_read a) n z) (eqb d 0) (read_unaligned_done n a z) (refused d z)
    (λ t. inl (refl, (read-up-bytes z q n a (eqb-true d 0 t)).next)) (λ t. inr (t, refl)))

pub write-unaligned-either : (n a v : ℕ) (z : State) → Well z → Either (byte_write n a v) n z (write_unaligned_call n a v z)
unfolding write_unaligned_step write_unaligned_done
write-unaligned-either n a v z q =
    let e = write-unaligned-step n a v z q in let d = unaligned_due_in z n a v in
    rw e (cond-elim (Either (byte_write n a v) n z) (eqb d 0) (write_unaligned_done n a v z) (refused d z)
    (λ t. inl (refl, (write-up-bytes z q n a v (eqb-true d 0 t)).next)) (λ t. inr (t, refl)))

-- ---- every one leaves a well-formed state
pub read-unaligned-well : (n a : ℕ) (z : State) → Well z → Well (read_unaligned_call n a z).next
unfolding read_unaligned_step read_unaligned_done
read-unaligned-well n a z h =
    let e = read-unaligned-step n a z h in let d = unaligned_due_in z n a 0 in
    rw e (cond-elim (λ (r : Reply). Well r.next) (eqb d 0) (read_unaligned_done n a z) (refused d z)
    (λ t. (accepted-read-up z Anything h n a (eqb-true d 0 t)).good) (λ _. h))

pub write-unaligned-well : (n a v : ℕ) (z : State) → Well z → Well (write_unaligned_call n a v z).next
unfolding write_unaligned_step write_unaligned_done
write-unaligned-well n a v z h =
    let e = write-unaligned-step n a v z h in let d = unaligned_due_in z n a v in
    rw e (cond-elim (λ (r : Reply). Well r.next) (eqb d 0) (write_unaligned_done n a v z) (refused d z)
    (λ t. (accepted-write-up z Anything Anything h n a v (anything-written a (little_bytes v n)) (eqb-true d 0 t)).good) (λ _. h))
