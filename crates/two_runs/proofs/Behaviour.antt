-- What both sentences rest on, and the first of them (`same-behaviour`). A call that checks 1 and 2 refuse changes
-- nothing; any other starts and ends in a `Pair` (`call-both`), for whatever relation of bytes. For the first sentence
-- any two bytes may stand for an address: a `Pair` then says that two states have one record and equal lengths.
use Prim.Native.Nat.{ℕ}
use mathlib.Core.Bool.{true, false, cond}
use mathlib.Core.Path.{◌≡◌, refl, sym, ◌∙◌}
use native.Mathlib.Omega.{arith}
use mathlib.Core.List.{List}
use lib.ListN.{length}
use lib.Dec.{eqb}
use borrow.Author.Tests.{eqb-true, eq-eqb}
use Rattle.model.specs.Bytes.{little_bytes}
use Rattle.model.specs.Memories.{l1d_length}
use Rattle.model.specs.Records.{State, sram_of, with_record, fresh_record, fresh_state}
use Rattle.model.specs.Refusals.{lent_l1d, lent_l2, lent_external, lent_due, view_lent_due, view_due}
use Rattle.model.specs.Unaligned.{read_up}
use Rattle.model.specs.Transfers.{sent_home, transferred_in, transferred_out}
use Rattle.model.specs.Trace.{command}
use Rattle.model.specs.Calls.{Reply, refused, carried_out, step, call, fresh_ok, fresh_call, view_done, unaligned_due_in, read_unaligned_done, write_unaligned_done, read_unaligned_step, write_unaligned_step, read_unaligned_call, write_unaligned_call, transfer_due_in, handed_back, transfer_in_step, transfer_in_call, transfer_out_step, transfer_out_call, fetch_due_in, no_fetch, fetch_behind_done, fetch_behind_step, fetch_behind_call, Call, fresh_start, look, called}
use Rattle.model.specs.Laws.{length-little_bytes, cond_both}
use Rattle.two_runs.specs.TwoRuns.{SameButStored, FitAlike, SameButWritten, same_command, same_start, same_look, same_read, same_write, same_in, same_out, same_fetch, ListsSameButWritten, Shared, SharedAlong, SameBehaviour}
use Rattle.two_runs.specs.TwoRuns as Says
use Rattle.two_runs.proofs.Areas.{Pairing, Twins, Area}
use Rattle.two_runs.proofs.Pair.{Layout, layout_of, Pair, pair-stored, one-record}
use Rattle.two_runs.proofs.Calling.{no_answer, Replies, start-pair, step_both}
use Rattle.agreement.proofs.Fetches.{fetch-tells}
use Rattle.two_runs.proofs.Serving.{Fits, fetch-both}
use Rattle.two_runs.proofs.Reporting.{fetch-report}
use Rattle.two_runs.proofs.Transfers.{sent-both, out_both, in_both}
use Rattle.two_runs.proofs.Unaligned.{unaligned-alike, due-fit, read-up-both, write-up-both}

-- ---- what goes by the record and the lengths alone
pub lent-due : (z z' : State) → SameButStored z z' → lent_due z ≡ lent_due z'
unfolding lent_due lent_l1d lent_l2 lent_external
lent-due z z' s = rw (s.rec, s.l1d, s.l2, s.ext) refl

pub view-due : (z z' : State) → SameButStored z z' → (a : ℕ) → view_due z.rec z.l2 z.ext a ≡ view_due z'.rec z'.l2 z'.ext a
unfolding view_due view_lent_due lent_l2 lent_external
view-due z z' s a = rw (s.rec, s.l2, s.ext) refl

pub pair-legal : {P : Pairing} {g : Layout} {z z' : State} → Pair P g z z' → fresh_ok z.l1d z.l2 z.ext ≡ true
unfolding fresh_ok
pair-legal {z = z} q =
    let h = q.sizes in rw (eq-eqb (length z.l1d) l1d_length h.l1d_length, h.l2_length, h.ext_length, h.l2_legal, h.ext_legal) refl

-- ---- one command: what holds of two refusals, and of two replies that have everything in common, holds of the two
-- calls
module _ (P : Pairing) (none : (a : ℕ) → P a 0 0) (z z' : State) (s : SameButStored z z')
    (start : lent_due z ≡ 0 → Pair P (layout_of z.rec) z z')
    (k a b v v' : ℕ) (f : k ≡ 1 → FitAlike a v v' × Twins P b a (little_bytes v a) (little_bytes v' a)) where
  pub call-both : (C : Reply → Reply → Type 0) → ((n : ℕ) → C (refused n z) (refused n z')) → ((x x' : Reply) → Replies P k a b x x' → C x x') →
      C (call (command k a b v) z) (call (command k a b v') z')
  unfolding call
  call-both C refusal reply =
      rw (← (lent-due z z' s))
      (cond_both C (eqb (lent_due z) 0) (step (command k a b v) z) (refused (lent_due z) z) (step (command k a b v') z') (refused (lent_due z) z')
      (λ t. reply (step (command k a b v) z) (step (command k a b v') z')
      (one-record (Pair P (layout_of z.rec)) (Replies P k a b) (step (command k a b v)) (step (command k a b v')) z
      (λ d m e q. step_both none q a b v v' k f) z' s.rec (start (eqb-true (lent_due z) 0 t))))
      (λ _. refusal (lent_due z)))

-- ---- a non-aligned access: likewise. Its reply is that of a read, or of a write, of n bytes at a
module _ (P : Pairing) (z z' : State) (s : SameButStored z z') (start : lent_due z ≡ 0 → Pair P (layout_of z.rec) z z')
    (C : Reply → Reply → Type 0) (refusal : (k : ℕ) → C (refused k z) (refused k z')) (n a : ℕ) where
  same-due : (v : ℕ) → unaligned_due_in z n a v ≡ unaligned_due_in z' n a v
  same-due v = let e = s.rec in rw e refl

  pub read-unaligned-both : ((x x' : Reply) → Replies P 0 n a x x' → C x x') → C (read_unaligned_call n a z) (read_unaligned_call n a z')
  unfolding read_unaligned_call read_unaligned_step read_unaligned_done
  read-unaligned-both reply =
      let d = unaligned_due_in z n a 0 in
      rw (← (lent-due z z' s), ← (same-due 0))
      (cond_both C (eqb (lent_due z) 0) (read_unaligned_step n a z) (refused (lent_due z) z)
      (cond (eqb d 0) (read_unaligned_done n a z') (refused d z')) (refused (lent_due z) z')
      (λ t. let q = start (eqb-true (lent_due z) 0 t) in
      cond_both C (eqb d 0) (read_unaligned_done n a z) (refused d z) (read_unaligned_done n a z') (refused d z')
      (λ u. let r = read-up-both a z z' q n (due-fit q n a 0 (eqb-true d 0 u)) in
      reply (read_unaligned_done n a z) (read_unaligned_done n a z')
      (record {
        number = refl;
        server = r.0.server;
        report = r.0.report;
        answer = record {
          count = n;
          bs = (read_up n a z).bytes;
          bs' = (read_up n a z').bytes;
          value = refl;
          value' = refl;
          twins = r.1;
          reads = λ i h. (refl, h);
        };
        bytes = refl;
        next = (layout_of z.rec, r.0.next);
      }))
      (λ _. refusal d))
      (λ _. refusal (lent_due z)))

  pub write-unaligned-both : (v v' : ℕ) → FitAlike n v v' → Twins P a n (little_bytes v n) (little_bytes v' n) →
      ((x x' : Reply) → Replies P 1 n a x x' → C x x') → C (write_unaligned_call n a v z) (write_unaligned_call n a v' z')
  unfolding write_unaligned_call write_unaligned_step write_unaligned_done
  write-unaligned-both v v' f tw reply =
      let d = unaligned_due_in z n a v in
      let e : unaligned_due_in z' n a v' ≡ d = sym (same-due v ∙ unaligned-alike (sram_of z'.rec) z'.rec.extlen n a v v' f) in
      rw (← (lent-due z z' s), e)
      (cond_both C (eqb (lent_due z) 0) (write_unaligned_step n a v z) (refused (lent_due z) z)
      (cond (eqb d 0) (write_unaligned_done n a v' z') (refused d z')) (refused (lent_due z) z')
      (λ t. let q = start (eqb-true (lent_due z) 0 t) in
      cond_both C (eqb d 0) (write_unaligned_done n a v z) (refused d z) (write_unaligned_done n a v' z') (refused d z')
      (λ u. let r = write-up-both a z z' q (little_bytes v n) (little_bytes v' n) n tw n (omega arith) (due-fit q n a v (eqb-true d 0 u)) in
      reply (write_unaligned_done n a v z) (write_unaligned_done n a v' z')
      (record {
        number = refl;
        server = r.server;
        report = r.report;
        answer = no_answer P 1 n a;
        bytes = refl;
        next = (layout_of z.rec, r.next);
      }))
      (λ _. refusal d))
      (λ _. refusal (lent_due z)))

-- ---- a transfer of n bytes at a: likewise, the buffers having one length
module _ (P : Pairing) (z z' : State) (s : SameButStored z z') (start : lent_due z ≡ 0 → Pair P (layout_of z.rec) z z')
    (C : Reply → Reply → Type 0) (n a : ℕ) where
  same-transfer-due : transfer_due_in z n a ≡ transfer_due_in z' n a
  same-transfer-due = let e = s.rec in rw e refl

  pub transfer-in-both : {bs bs' : List ℕ} → Twins P a n bs bs' → ((k : ℕ) → C (refused k z) (refused k z')) →
      ((x x' : Reply) → Replies P 1 n a x x' → C x x') → C (transfer_in_call a bs z) (transfer_in_call a bs' z')
  unfolding transfer_in_call transfer_in_step
  transfer-in-both {bs} {bs'} t refusal reply =
      let d = transfer_due_in z n a in let e = lent-due z z' s in let l = lent_due z in
      rw (← e, t.long, t.long', ← same-transfer-due)
      (cond_both C (eqb l 0) (cond (eqb d 0) (carried_out (transferred_in a bs z)) (refused d z)) (refused l z)
      (cond (eqb d 0) (carried_out (transferred_in a bs' z')) (refused d z')) (refused l z')
      (λ u. let q = start (eqb-true l 0 u) in
      cond_both C (eqb d 0) (carried_out (transferred_in a bs z)) (refused d z) (carried_out (transferred_in a bs' z')) (refused d z')
      (λ w. reply (carried_out (transferred_in a bs z)) (carried_out (transferred_in a bs' z'))
      (record {
        number = refl;
        server = refl;
        report = refl;
        answer = no_answer P 1 n a;
        bytes = refl;
        next = (layout_of z.rec, in_both a n z z' q (eqb-true d 0 w) t);
      }))
      (λ _. refusal d))
      (λ _. refusal l))

  pub transfer-out-both : (o o' : List ℕ) → length o ≡ n → length o' ≡ n → ((k : ℕ) → C (handed_back k o z) (handed_back k o' z')) →
      ((bs bs' : List ℕ) (y y' : State) → Twins P a n bs bs' → Pair P (layout_of z.rec) y y' → C (handed_back 0 bs y) (handed_back 0 bs' y')) →
      C (transfer_out_call a o z) (transfer_out_call a o' z')
  unfolding transfer_out_call transfer_out_step
  transfer-out-both o o' h h' refusal reply =
      let d = transfer_due_in z n a in let e = lent-due z z' s in let l = lent_due z in
      let x = handed_back 0 (transferred_out a n z) (sent_home a n z) in let x' = handed_back 0 (transferred_out a n z') (sent_home a n z') in
      rw (← e, h, h', ← same-transfer-due)
      (cond_both C (eqb l 0) (cond (eqb d 0) x (handed_back d o z)) (handed_back l o z) (cond (eqb d 0) x' (handed_back d o' z')) (handed_back l o' z')
      (λ u. let q = start (eqb-true l 0 u) in
      cond_both C (eqb d 0) x (handed_back d o z) x' (handed_back d o' z')
      (λ w. reply (transferred_out a n z) (transferred_out a n z') (sent_home a n z) (sent_home a n z') (out_both a n z z' q (eqb-true d 0 w)) (sent-both a n z z' q))
      (λ _. refusal d))
      (λ _. refusal l))

-- ---- the data side's part of a fetch (02, U4): what is shared, the bytes that it hands back, and the states after it
pub record Fetches (P : Pairing) (a : ℕ) (x x' : Reply) : Type 0 where
  pub number : x.number ≡ x'.number
  pub server : x.server ≡ x'.server
  pub value : x.value ≡ x'.value
  pub report : x.report ≡ x'.report
  pub bytes : Twins P a 32 x.bytes x'.bytes
  pub next : (g : Layout) × Pair P g x.next x'.next

module _ (P : Pairing) (z z' : State) (s : SameButStored z z') (start : lent_due z ≡ 0 → Pair P (layout_of z.rec) z z') (C : Reply → Reply → Type 0)
    (refusal : (k : ℕ) → C (no_fetch k z) (no_fetch k z')) (a : ℕ) where
  fetch-fits : {g : Layout} → Pair P g z z' → fetch_due_in z a ≡ 0 → Fits g a 32
  fetch-fits q u =
      let k = fetch-tells (sram_of z.rec) z.rec.extlen a u in let l = k.aligned in let m = q.sizes.sram in let x = q.sizes.extlen in
      record { more = omega arith; row = omega arith; low = λ h. let g = k.low h in omega arith; high = λ h. let g = k.high h in omega arith }

  pub fetch-call-both : ((x x' : Reply) → Fetches P a x x' → C x x') → C (fetch_behind_call a z) (fetch_behind_call a z')
  unfolding fetch_behind_call fetch_behind_step fetch_behind_done
  fetch-call-both reply =
      let d = fetch_due_in z a in let l = lent_due z in let e = lent-due z z' s in let r : fetch_due_in z' a ≡ d = (let p = s.rec in rw p refl) in
      rw (← e, r)
      (cond_both C (eqb l 0) (cond (eqb d 0) (fetch_behind_done a z) (no_fetch d z)) (no_fetch l z) (cond (eqb d 0) (fetch_behind_done a z') (no_fetch d z')) (no_fetch l z')
      (λ t. let q = start (eqb-true l 0 t) in
      cond_both C (eqb d 0) (fetch_behind_done a z) (no_fetch d z) (fetch_behind_done a z') (no_fetch d z')
      (λ u. let x = fetch-both (fetch-fits q (eqb-true d 0 u)) z z' q in
      reply (fetch_behind_done a z) (fetch_behind_done a z')
      (record { number = refl; server = x.server; value = refl; report = fetch-report a z z' s; bytes = x.bytes; next = (layout_of z.rec, x.next) }))
      (λ _. refusal d))
      (λ _. refusal l))

-- ---- a fresh start: likewise
module _ (z z' : State) (s : SameButStored z z') where
  pub fresh_ok_lem : fresh_ok z.l1d z.l2 z.ext ≡ fresh_ok z'.l1d z'.l2 z'.ext
  unfolding fresh_ok
  fresh_ok_lem = rw (s.l1d, s.l2, s.ext) refl

  pub fresh-both : (C : Reply → Reply → Type 0) → C (carried_out (fresh_state (length z.l2) z.ext)) (carried_out (fresh_state (length z'.l2) z'.ext)) →
      (fresh_ok z.l1d z.l2 z.ext ≡ false →
      C (refused 1 (with_record z (fresh_record 32768 128))) (refused 1 (with_record z' (fresh_record 32768 128)))) →
      C (fresh_call z.l1d z.l2 z.ext) (fresh_call z'.l1d z'.l2 z'.ext)
  unfolding fresh_call
  fresh-both C start refusal =
      rw (← fresh_ok_lem)
      (cond_both C (fresh_ok z.l1d z.l2 z.ext) (carried_out (fresh_state (length z.l2) z.ext))
      (refused 1 (with_record z (fresh_record 32768 128))) (carried_out (fresh_state (length z'.l2) z'.ext))
      (refused 1 (with_record z' (fresh_record 32768 128))) (λ _. start) refusal)

  pub fresh-stored : SameButStored (fresh_state (length z.l2) z.ext) (fresh_state (length z'.l2) z'.ext)
  unfolding fresh_state
  fresh-stored = let l = s.l2 in let e = s.ext in record { rec = rw (l, e) refl; l1d = refl; l2 = rw l refl; ext = e }

-- ==== the first sentence: any two bytes may stand for an address
abbrev pub Any : Pairing
Any a c d = ◌≡◌ {A = ℕ} 0 0

any : {b p n : ℕ} {m m' : List ℕ} → Area Any b p n m m'
any = record { byte = λ _ _. refl }

-- what two calls share, and what the next two need
pub record Same (x x' : Reply) : Type 0 where
  pub number : x.number ≡ x'.number
  pub server : x.server ≡ x'.server
  pub report : x.report ≡ x'.report
  pub next : SameButStored x.next x'.next

pub shared : {x x' : Reply} → Same x x' → Shared x x'
shared r = record { number = r.number; server = r.server; report = r.report; rec = r.next.rec }

pub any-pair : (z z' : State) → SameButStored z z' → lent_due z ≡ 0 → Pair Any (layout_of z.rec) z z'
any-pair z z' s u = start-pair Any z z' s.rec s.l1d s.l2 s.ext u (λ _ _ _. any) (λ _ _ _. any) any any

any-twins : (n a v v' : ℕ) → Twins Any a n (little_bytes v n) (little_bytes v' n)
any-twins n a v v' = record { long = length-little_bytes v n; long' = length-little_bytes v' n; byte = λ _ _. refl }

refused-same : (z z' : State) → SameButStored z z' → (n : ℕ) → Same (refused n z) (refused n z')
refused-same z z' s n = record { number = refl; server = refl; report = refl; next = s }

replied-same : {k a b : ℕ} {x x' : Reply} → Replies Any k a b x x' → Same x x'
replied-same r = let p = r.next in record { number = r.number; server = r.server; report = r.report; next = pair-stored p.1 }

command-same : (z z' : State) → SameButStored z z' → (k a b v v' : ℕ) → (k ≡ 1 → FitAlike a v v') →
    Same (call (command k a b v) z) (call (command k a b v') z')
command-same z z' s k a b v v' f =
    call-both Any (λ _. refl) z z' s (any-pair z z' s)
    k a b v v' (λ e. (f e, any-twins a b v v')) Same (refused-same z z' s) (λ x x' r. replied-same r)

read-unaligned-same : (z z' : State) → SameButStored z z' → (n a : ℕ) → Same (read_unaligned_call n a z) (read_unaligned_call n a z')
read-unaligned-same z z' s n a =
    read-unaligned-both Any z z' s (any-pair z z' s) Same (refused-same z z' s) n a (λ x x' r. replied-same r)

write-unaligned-same : (z z' : State) → SameButStored z z' → (n a v v' : ℕ) → FitAlike n v v' → Same (write_unaligned_call n a v z) (write_unaligned_call n a v' z')
write-unaligned-same z z' s n a v v' f =
    write-unaligned-both Any z z' s (any-pair z z' s) Same (refused-same z z' s) n a v v' f (any-twins n a v v') (λ x x' r. replied-same r)

transfer-in-same : (z z' : State) → SameButStored z z' → (a : ℕ) (bs bs' : List ℕ) → length bs ≡ length bs' → Same (transfer_in_call a bs z) (transfer_in_call a bs' z')
transfer-in-same z z' s a bs bs' e =
    transfer-in-both Any z z' s (any-pair z z' s) Same (length bs) a (record { long = refl; long' = sym e; byte = λ _ _. refl }) (refused-same z z' s)
    (λ x x' r. replied-same r)

transfer-out-same : (z z' : State) → SameButStored z z' → (a : ℕ) (o o' : List ℕ) → length o ≡ length o' → Same (transfer_out_call a o z) (transfer_out_call a o' z')
transfer-out-same z z' s a o o' e =
    transfer-out-both Any z z' s (any-pair z z' s) Same (length o) a o o' refl (sym e) (λ k. record { number = refl; server = refl; report = refl; next = s })
    (λ bs bs' y y' _ p. record { number = refl; server = refl; report = refl; next = pair-stored p })

fresh-same : (z z' : State) → SameButStored z z' → Same (called fresh_start z) (called fresh_start z')
fresh-same z z' s =
    fresh-both z z' s Same (record { number = refl; server = refl; report = refl; next = fresh-stored z z' s })
    (λ _. record { number = refl; server = refl; report = refl; next = record { rec = refl; l1d = s.l1d; l2 = s.l2; ext = s.ext } })

look-same : (z z' : State) → SameButStored z z' → (a : ℕ) → Same (called (look a) z) (called (look a) z')
unfolding view_done
look-same z z' s a = record { number = view-due z z' s a; server = refl; report = refl; next = s }

fetch-same : (z z' : State) → SameButStored z z' → (a : ℕ) → Same (fetch_behind_call a z) (fetch_behind_call a z')
fetch-same z z' s a =
    fetch-call-both Any z z' s (any-pair z z' s) Same (λ k. record { number = refl; server = refl; report = refl; next = s }) a
    (λ x x' r. let p = r.next in record { number = r.number; server = r.server; report = r.report; next = pair-stored p.1 })

pub called_same : (c c' : Call) → SameButWritten c c' → (z z' : State) → SameButStored z z' → Same (called c z) (called c' z')
called_same c c' (same_command {k} {a} {b} {v} {v'} f) z z' s = command-same z z' s k a b v v' f
called_same c c' same_start z z' s = fresh-same z z' s
called_same c c' (same_look {a = y}) z z' s = look-same z z' s y
called_same c c' (same_read {n = m} {a = y}) z z' s = read-unaligned-same z z' s m y
called_same c c' (same_write {n = m} {a = y} {v = u} {v' = u'} f) z z' s = write-unaligned-same z z' s m y u u' f
called_same c c' (same_in {a = y} {bs = cs} {bs' = cs'} e) z z' s = transfer-in-same z z' s y cs cs' e
called_same c c' (same_out {a = y} {o = u} {o' = u'} e) z z' s = transfer-out-same z z' s y u u' e
called_same c c' (same_fetch {a = y}) z z' s = fetch-same z z' s y

pub same-behaviour : SameBehaviour
same-behaviour z z' s cs cs' h = along h z z' s
  where
    along : {cs cs' : List Call} → ListsSameButWritten cs cs' → (z z' : State) → SameButStored z z' → SharedAlong cs cs' z z'
    along Says.ListsSameButWritten.end z z' s = Says.SharedAlong.end
    along (Says.ListsSameButWritten.next {c} {c'} d h) z z' s =
        let r = called_same c c' d z z' s in Says.SharedAlong.next (shared r) (along h (called c z).next (called c' z').next r.next)
