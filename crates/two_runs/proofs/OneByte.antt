-- The second sentence (`one-byte-stays`): one call after another keeps `Along`, and answers the same in every byte that
-- does not stand for address x. Why: `call-both` with the relation of bytes that are equal but for address x; a fresh
-- start leaves no line and SRAM zero; a view shows a stretch of SRAM or of external memory, and so does a transfer out.
use Prim.Native.Nat.{ℕ, zero, suc, ◌+◌, ◌*◌, ◌/◌, ◌<◌}
use mathlib.Core.Bool.{true}
use mathlib.Core.Path.{◌≡◌, refl, sym, ap, ◌∙◌}
use mathlib.Core.List.{List, [], ◌∷◌}
use native.Mathlib.Omega.{arith}
use lib.ListN.{length, get_or, replicate, get_or-eq_default}
use lib.Dec.{ltb}
use borrow.Author.Tests.{ltb-true, ltb-false}
use Rattle.model.specs.Bytes.{little, little_bytes}
use Rattle.model.specs.Records.{State, with_record, l1d_line_at, l2_line_at, fresh_l1d_set, fresh_l2_set, fresh_record, fresh_state}
use Rattle.model.specs.Trace.{command}
use Rattle.model.specs.Calls.{Reply, call, fresh_call, view_done, read_unaligned_call, write_unaligned_call, transfer_in_call, transfer_out_call, fetch_behind_call, Call, one_command, fresh_start, look, read_unaligned, write_unaligned, transfer_in, transfer_out, fetch_behind, called}
use Rattle.model.specs.Laws.{bool, false-true, length-little_bytes}
use Rattle.model.specs.declared.Line.{Line}
use Rattle.agreement.proofs.Tables.{l1d_store, l2_store, fresh-line}
use Rattle.agreement.proofs.Changes.{l1d-fresh, l2-fresh}
use Rattle.two_runs.specs.TwoRuns.{SameBytesBut, ValueFor, Bytes, LentBytes, AllLentBytes, SameAnswerBut, SameBut, SameButAlong, OneByteStays}
use Rattle.two_runs.specs.TwoRuns as Says
use Rattle.agreement.proofs.Unaligned.{written_byte}
use Rattle.two_runs.proofs.Areas.{Twins}
use Rattle.two_runs.proofs.Held.{all-default}
use Rattle.two_runs.proofs.Calling.{Answer, Replies}
use Rattle.two_runs.proofs.Behaviour.{view-due, call-both, read-unaligned-both, write-unaligned-both, transfer-in-both, transfer-out-both, fetch-call-both, fresh-both, fresh-stored}
use Rattle.two_runs.proofs.Along.{Byte, zero-byte, equal-byte, SameAt, Along, along-start, along-says, along-pair, pair-along}
use Rattle.two_runs.proofs.Looking.{but-twins, twins-but, look_bytes}

-- what two calls have in common, and what the next two need
pub record Stays (x : ℕ) (c : Call) (y y' : Reply) : Type 0 where
  pub number : y.number ≡ y'.number
  pub server : y.server ≡ y'.server
  pub report : y.report ≡ y'.report
  pub answer : SameAnswerBut x c y y'
  pub along : Along x y.next y'.next

pub equal-bytes : {Stands : ℕ → Type 0} {bs bs' : List ℕ} → bs ≡ bs' → SameBytesBut Stands bs bs'
equal-bytes e = record { long = ap length e; byte = λ k _. ap (λ (l : List ℕ). get_or l k 0) e }

-- a reply that is the same but for the state
pub same-reply : {x : ℕ} {c : Call} {y y' : Reply} → y.number ≡ y'.number → y.server ≡ y'.server → y.report ≡ y'.report → y.value ≡ y'.value → y.bytes ≡ y'.bytes →
    Along x y.next y'.next → Stays x c y y'
same-reply n s q v b h =
    record {
      number = n;
      server = s;
      report = q;
      answer = record { value = equal-bytes (ap (λ (w : ℕ). little_bytes w 8) v); handed_back = equal-bytes b };
      along = h;
    }

-- ---- bytes of a value
value-byte : (n : ℕ) (bs : List ℕ) → ((i : ℕ) → i < length bs → get_or bs i 0 < 256) → (k : ℕ) → k < n → get_or (little_bytes (little bs) n) k 0 ≡ get_or bs k 0
unfolding little little_bytes
value-byte zero bs h k l = absurd (omega arith)
value-byte (suc n) [] h zero l = refl
value-byte (suc n) [] h (suc k) l = value-byte n [] h k (omega arith)
value-byte (suc n) (b ∷ bs) h zero l = let g = h 0 (omega arith) in omega arith
value-byte (suc n) (b ∷ bs) h (suc k) l =
    let g = h 0 (omega arith) in
    let e : (b + 256 * little bs) / 256 ≡ little bs = omega arith in
    rw e (value-byte n bs (λ i j. h (suc i) (omega arith)) k (omega arith))

same-value : (x k a b v v' : ℕ) → Answer (Byte x) k a b v v' → (Stands : ℕ → Type 0) → ((i : ℕ) → (k ≡ 0) × (i < a) × (b + i ≡ x) → Stands i) →
    SameBytesBut Stands (little_bytes v 8) (little_bytes v' 8)
same-value x k a b v v' r Stands stands =
    let l = r.twins.long in let l' = r.twins.long' in let e = r.value in let e' = r.value' in
    let m = length-little_bytes v 8 in let m' = length-little_bytes v' 8 in
    record {
      long = m ∙ sym m';
      byte = λ i n.
          bool (ltb i 8)
          (λ t. let t' = ltb-true i 8 t in
          rw (e, e') (value-byte 8 r.bs (λ j h. (r.twins.byte j (omega arith)).below) i t'
          ∙ bool (ltb i r.count)
          (λ y. let y' = ltb-true i r.count y in let c = r.reads i y' in (r.twins.byte i y').same (λ g. n (stands i (c.0, c.1, g))))
          (λ y. let y' = ltb-false i r.count y in
          get_or-eq_default r.bs 0 {n = i} (omega arith) ∙ sym (get_or-eq_default r.bs' 0 {n = i} (omega arith)))
          ∙ sym (value-byte 8 r.bs' (λ j h. (r.twins.byte j (omega arith)).below') i t')))
          (λ t. let t' = ltb-false i 8 t in
          get_or-eq_default (little_bytes v 8) 0 {n = i} (omega arith) ∙ sym (get_or-eq_default (little_bytes v' 8) 0 {n = i} (omega arith)));
    }

-- ---- one command, one non-aligned access
same-twins : (x n a v : ℕ) → Twins (Byte x) a n (little_bytes v n) (little_bytes v n)
same-twins x n a v = record { long = length-little_bytes v n; long' = length-little_bytes v n; byte = λ i _. equal-byte refl (written_byte v n i) }

replied-stays : (x : ℕ) (c : Call) (z z' : State) → Along x z z' → (k a b : ℕ) → ((i : ℕ) → (k ≡ 0) × (i < a) × (b + i ≡ x) → ValueFor c x i) →
    (y y' : Reply) → Replies (Byte x) k a b y y' → Stays x c y y'
replied-stays x c z z' h k a b stands y y' r =
    let p = r.next in
    record {
      number = r.number;
      server = r.server;
      report = r.report;
      answer = record { value = same-value x k a b y.value y'.value r.answer (ValueFor c x) stands; handed_back = equal-bytes r.bytes };
      along = pair-along h.external p.1;
    }

command-stays : (x : ℕ) (z z' : State) → Along x z z' → (k a b v : ℕ) →
    Stays x (one_command (command k a b v)) (call (command k a b v) z) (call (command k a b v) z')
command-stays x z z' h k a b v =
    call-both (Byte x) (zero-byte x) z z' h.stored (along-pair x z z' h) k a b v v
    (λ _. (λ _. refl, same-twins x a b v))
    (Stays x (one_command (command k a b v))) (λ n. same-reply refl refl refl refl refl h)
    (replied-stays x (one_command (command k a b v)) z z' h k a b (λ _ p. p))

read-unaligned-stays : (x : ℕ) (z z' : State) → Along x z z' → (n a : ℕ) → Stays x (read_unaligned n a) (read_unaligned_call n a z) (read_unaligned_call n a z')
read-unaligned-stays x z z' h n a =
    read-unaligned-both (Byte x) z z' h.stored (along-pair x z z' h) (Stays x (read_unaligned n a)) (λ k. same-reply refl refl refl refl refl h) n a
    (replied-stays x (read_unaligned n a) z z' h 0 n a (λ _ p. (p.1, p.2)))

write-unaligned-stays : (x : ℕ) (z z' : State) → Along x z z' → (n a v : ℕ) →
    Stays x (write_unaligned n a v) (write_unaligned_call n a v z) (write_unaligned_call n a v z')
write-unaligned-stays x z z' h n a v =
    write-unaligned-both (Byte x) z z' h.stored (along-pair x z z' h) (Stays x (write_unaligned n a v)) (λ k. same-reply refl refl refl refl refl h) n a
    v v (λ _. refl) (same-twins x n a v) (replied-stays x (write_unaligned n a v) z z' h 1 n a (λ _ p. let e = p.0 in absurd (omega arith)))

-- ---- one transfer
transfer-in-stays : (x : ℕ) (z z' : State) → Along x z z' → (a : ℕ) (bs : List ℕ) → Bytes bs → Stays x (transfer_in a bs) (transfer_in_call a bs z) (transfer_in_call a bs z')
transfer-in-stays x z z' h a bs b =
    transfer-in-both (Byte x) z z' h.stored (along-pair x z z' h) (Stays x (transfer_in a bs)) (length bs) a
    (record { long = refl; long' = refl; byte = λ i _. equal-byte refl (b i) }) (λ k. same-reply refl refl refl refl refl h)
    (replied-stays x (transfer_in a bs) z z' h 1 (length bs) a (λ _ p. let e = p.0 in absurd (omega arith)))

transfer-out-stays : (x : ℕ) (z z' : State) → Along x z z' → (a : ℕ) (o : List ℕ) → Stays x (transfer_out a o) (transfer_out_call a o z) (transfer_out_call a o z')
transfer-out-stays x z z' h a o =
    transfer-out-both (Byte x) z z' h.stored (along-pair x z z' h) (Stays x (transfer_out a o)) (length o) a o o refl refl
    (λ k. same-reply refl refl refl refl refl h)
    (λ bs bs' y y' t p. record {
      number = refl;
      server = refl;
      report = refl;
      answer = record { value = equal-bytes refl; handed_back = twins-but x a (length o) bs bs' (but-twins t) };
      along = pair-along h.external p;
    })

-- ---- the data side's part of a fetch
fetch-stays : (x : ℕ) (z z' : State) → Along x z z' → (a : ℕ) → Stays x (fetch_behind a) (fetch_behind_call a z) (fetch_behind_call a z')
fetch-stays x z z' h a =
    fetch-call-both (Byte x) z z' h.stored (along-pair x z z' h) (Stays x (fetch_behind a)) (λ k. same-reply refl refl refl refl refl h) a
    (λ y y' r. let p = r.next in
    record {
      number = r.number;
      server = r.server;
      report = r.report;
      answer = record { value = equal-bytes (ap (λ (v : ℕ). little_bytes v 8) r.value); handed_back = twins-but x a 32 y.bytes y'.bytes (but-twins r.bytes) };
      along = pair-along h.external p.1;
    })

-- ---- a fresh start: nothing is held, SRAM is zero, or L2 is as it was lent
l1d-empty : (l e s w : ℕ) → (l1d_line_at (fresh_record l e) s w).valid ≡ true → ⊥
unfolding fresh_record
l1d-empty l e s w v = false-true (sym (ap (λ (y : Line). y.valid) (fresh-line l1d_store fresh_l1d_set 128 l1d-fresh s w)) ∙ v)

l2-empty : (l e t w : ℕ) → (l2_line_at (fresh_record l e) t w).valid ≡ true → ⊥
unfolding fresh_record
l2-empty l e t w v = false-true (sym (ap (λ (y : Line). y.valid) (fresh-line l2_store fresh_l2_set 512 l2-fresh t w)) ∙ v)

module _ (x : ℕ) (z z' : State) (h : Along x z z') where
  started : Along x (fresh_state (length z.l2) z.ext) (fresh_state (length z'.l2) z'.ext)
  unfolding fresh_state
  started =
      let l = length z.l2 in let l' = length z'.l2 in
      let m : (i : ℕ) → ◌≡◌ {A = ℕ} (get_or (replicate l 0) i 0) (get_or (replicate l' 0) i 0) = λ i. all-default {A = ℕ} l i 0 ∙ sym (all-default {A = ℕ} l' i 0) in
      record {
        external = h.external;
        stored = fresh-stored z z' h.stored;
        l1d = λ s w v. absurd (l1d-empty l (length z.ext) s w v);
        l2 = λ t w v. absurd (l2-empty l (length z.ext) t w v);
        sram = λ i _. let a = all-default {A = ℕ} l i 0 in (m i, omega arith);
        ext = h.ext;
        lent = λ _ i. let a = all-default {A = ℕ} l i 0 in (m i, omega arith);
      }

  -- a fresh start that is refused makes all of L2's front SRAM, so that L2 must be as it was lent
  pub not-started : ((i : ℕ) → SameAt z.l2 z'.l2 i) →
      Along x (with_record z (fresh_record 32768 128)) (with_record z' (fresh_record 32768 128))
  not-started u =
      let s = h.stored in
      record {
        external = h.external;
        stored = record { rec = refl; l1d = s.l1d; l2 = s.l2; ext = s.ext };
        l1d = λ s w v. absurd (l1d-empty 32768 128 s w v);
        l2 = λ t w v. absurd (l2-empty 32768 128 t w v);
        sram = λ i _. u i;
        ext = h.ext;
        lent = h.lent;
      }

  fresh-stays : Stays x fresh_start (fresh_call z.l1d z.l2 z.ext) (fresh_call z'.l1d z'.l2 z'.ext)
  fresh-stays =
      fresh-both z z' h.stored (Stays x fresh_start) (same-reply refl refl refl refl refl started)
      (λ u. same-reply refl refl refl refl refl (not-started (h.lent u)))

  -- ---- one look behind L1D
  look-stays : (a : ℕ) → Stays x (look a) (called (look a) z) (called (look a) z')
  unfolding view_done
  look-stays a =
      record {
        number = view-due z z' h.stored a;
        server = refl;
        report = refl;
        answer = record { value = equal-bytes refl; handed_back = look_bytes x z z' h a };
        along = h;
      }

-- ---- one call, and the whole list
pub called-stays : (x : ℕ) (c : Call) → LentBytes c → (z z' : State) → Along x z z' → Stays x c (called c z) (called c z')
called-stays x (one_command c) _ z z' h = command-stays x z z' h c.code c.first c.second c.value
called-stays x fresh_start _ z z' h = fresh-stays x z z' h
called-stays x (look a) _ z z' h = look-stays x z z' h a
called-stays x (read_unaligned n a) _ z z' h = read-unaligned-stays x z z' h n a
called-stays x (write_unaligned n a v) _ z z' h = write-unaligned-stays x z z' h n a v
called-stays x (transfer_in a bs) b z z' h = transfer-in-stays x z z' h a bs b
called-stays x (transfer_out a o) _ z z' h = transfer-out-stays x z z' h a o
called-stays x (fetch_behind a) _ z z' h = fetch-stays x z z' h a

says : (x : ℕ) (c : Call) (y y' : Reply) → Stays x c y y' → SameBut x c y y'
says x c y y' r =
    record {
      shared = record { number = r.number; server = r.server; report = r.report; rec = r.along.stored.rec };
      answer = r.answer;
      after = along-says x y.next y'.next r.along;
    }

pub one-byte-stays : OneByteStays
one-byte-stays x z z' o cs b = go cs b z z' (along-start x z z' o)
  where
    go : (cs : List Call) → AllLentBytes cs → (z z' : State) → Along x z z' → SameButAlong x cs z z'
    go [] _ z z' h = Says.SameButAlong.end
    go (c ∷ cs) b z z' h =
        let r = called-stays x c b.0 z z' h in
        Says.SameButAlong.next (says x c (called c z) (called c z') r) (go cs b.1 (called c z).next (called c z').next r.along)
