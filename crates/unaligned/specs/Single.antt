-- A command on a single byte gives a value below 256 where the lent memories, as it leaves them, hold bytes: what was
-- read still stands in one of them.
use Rattle.std.specs.Prelude.{ℕ, ◌+◌, ◌-◌, ◌≤◌, ◌<◌, cond, ◌≡◌, refl, List, length, get_or, ltb, leb, eqb}
use Rattle.std.proofs.Common.{ap, subst, arith, leb-true}
use Rattle.model.specs.Bytes.{part, little}
use Rattle.model.specs.Memories.{external_base}
use Rattle.model.specs.Lines.{l1d_set_of, offset_in}
use Rattle.model.specs.Records.{State, l2_kind_by, l2_set_of, l2_data}
use Rattle.model.specs.Ways.{l1d_way, in_l1d, use_l1d}
use Rattle.model.specs.Homes.{home_is_l2, memory_part, l2_way_for, fetch_l2}
use Rattle.model.specs.Access.{Access, access, cacheable, use_hit, read_hit, home_part, read_filled, read_emptied, read_thawed, read_frozen, read_miss, read_access}
use Rattle.model.specs.Trace.{command}
use Rattle.model.specs.Calls.{Reply, refused, carried_out, command_due, command_state, read_done, write_done, accepted, step}
use Rattle.model.specs.Laws.{bool, cond-elim}
use Rattle.std.proofs.Common.{None, Result, Ok, Err, Fits, w8}
use Rattle.std.specs.Result.{result_unwrap_or}
use Rattle.kinds.specs.declared.Refusal.{Refusal}
use Rattle.access.specs.Answered.{plain_answer, accepted_of, answer_of}
use Rattle.unaligned.specs.Upwards.{told_of}
use Rattle.access.specs.declared.Answer.{Answer}
use Rattle.agreement.proofs.Reports.{at-most-128}
use Rattle.memory.specs.Values.{load_one, load-none}

abbrev pub Bytes : List ℕ → Type 0
Bytes m = (i : ℕ) → Fits w8 (get_or m i 0)

pub record Lent (z : State) : Type 0 where
  pub l1d : Bytes z.l1d
  pub l2 : Bytes z.l2
  pub ext : Bytes z.ext

one_byte : (m : List ℕ) (p : ℕ) → Bytes m → little (part m p 1) < 256
one_byte m p b =
    bool (leb (p + 1) (length m))
    (λ t. let e = load_one m p (leb-true (p + 1) (length m) t) in let h = b p in omega arith)
    (λ t. let e = load-none m p 1 t in omega arith)

memory-byte : (a : ℕ) (z : State) → Lent z → little (memory_part a 1 z) < 256
unfolding memory_part
memory-byte a z b =
    cond-elim (λ (bs : List ℕ). little bs < 256) (ltb a external_base) (part z.l2 a 1) (part z.ext (a - external_base) 1)
    (λ _. one_byte z.l2 a b.l2) (λ _. one_byte z.ext (a - external_base) b.ext)

home-byte : (v a : ℕ) (z : State) → Lent z → little (home_part v a a 1 z) < 256
unfolding home_part
home-byte v a z b =
    cond-elim (λ (bs : List ℕ). little bs < 256) (home_is_l2 z.rec a)
    (part z.l2 (l2_data z.rec (l2_set_of z.rec a) v + offset_in (l2_kind_by z.rec) a) 1) (memory_part a 1 z)
    (λ _. one_byte z.l2 _ b.l2) (λ _. memory-byte a z b)

-- an access whose value is below 256 where it leaves bytes
abbrev Small : Access → Type 0
Small x = Lent x.next → little x.bytes < 256

hit-kept : (s w : ℕ) (z : State) → (use_hit s w z).l1d ≡ z.l1d
unfolding use_hit use_l1d
hit-kept s w z = cond-elim (λ (y : State). y.l1d ≡ z.l1d) z.rec.frozen z _ (λ _. refl) (λ _. refl)

hit-byte : (a : ℕ) (z : State) → Small (read_hit 1 a z)
unfolding read_hit
hit-byte a z b = let e = hit-kept (l1d_set_of a) (l1d_way z a) z in one_byte z.l1d _ (rw e at b.l1d)

filled-byte : (w k a : ℕ) (z : State) → Small (read_filled w k 1 a z)
unfolding read_filled use_l1d
filled-byte w k a z b = one_byte z.l1d _ b.l1d

miss-byte : (a : ℕ) (z : State) → Small (read_miss 1 a z)
unfolding read_miss read_thawed read_emptied read_frozen
miss-byte a z =
    cond-elim Small z.rec.frozen _ _ (λ _ b. home-byte (l2_way_for z a) a (fetch_l2 a z) b) (λ _. filled-byte _ _ a _)

read_byte : (a : ℕ) (z : State) → Small (read_access 1 a z)
unfolding read_access
read_byte a z =
    cond-elim Small (cacheable z.rec a) (cond (in_l1d z a) (read_hit 1 a z) (read_miss 1 a z)) (access 4 (memory_part a 1 z) z)
    (λ _. cond-elim Small (in_l1d z a) (read_hit 1 a z) (read_miss 1 a z) (λ _. hit-byte a z) (λ _. miss-byte a z))
    (λ _ b. memory-byte a z b)

pub step-byte : (code a v : ℕ) (z : State) → Lent (step (command code 1 a v) z).next → (step (command code 1 a v) z).value < 256
unfolding step accepted read_done write_done
step-byte code a v z =
    let c = command code 1 a v in let P : Reply → Type 0 = λ r. Lent r.next → r.value < 256 in
    cond-elim P (eqb (command_due c z) 0) _ (refused (command_due c z) z)
    (λ _. cond-elim P (eqb code 0) (read_done 1 a z) _ (λ _. read_byte a z)
    (λ _. cond-elim P (eqb code 1) (write_done 1 a v z) (carried_out (command_state c z)) (λ _ _. omega arith) (λ _ _. omega arith)))
    (λ _ _. omega arith)

-- ---- the answer of such a command, nothing where it is refused: what is told with it, and what that is bounded by,
-- its value and what it reports (02, U2)
abbrev pub answer_or_none : Result Answer Refusal → Answer
answer_or_none r = result_unwrap_or r (plain_answer None 0)

pub told_alone : (r : Result Answer Refusal) (z : State) (x : Reply) → answer_of r z ≡ x → accepted_of (answer_or_none r) z ≡ told_of x
told_alone (Ok y) z x e = rw (← e) refl
told_alone (Err d) z x e = rw (← e) refl

pub small : (code a v : ℕ) (z z' : State) (r : Result Answer Refusal) → answer_of r z' ≡ step (command code 1 a v) z →
    Bytes z'.l1d → Bytes z'.l2 → Bytes z'.ext →
    ((answer_or_none r).value < 256) × (((answer_or_none r).read ≤ 128) × ((answer_or_none r).written ≤ 128))
small code a v z z' r e d m t =
    let c = command code 1 a v in let f = told_alone r z' (step c z) e in let b = at-most-128 c z in
    let n : z' ≡ (step c z).next = ap (λ (y : Reply). y.next) f in
    let h = step-byte code a v z (subst Lent n (record { l1d = d; l2 = m; ext = t })) in
    let e₁ : (answer_or_none r).value ≡ (step c z).value = ap (λ (y : Reply). y.value) f in
    let e₂ : (answer_or_none r).read ≡ (step c z).report.read = ap (λ (y : Reply). y.report.read) f in
    let e₃ : (answer_or_none r).written ≡ (step c z).report.written = ap (λ (y : Reply). y.report.written) f in
    (rw e₁ h, (rw e₂ b.0, rw e₃ b.1))
