-- Runs over traces on the chip: a run on a well-formed chip is its commands called one after another (`run-is-calls`),
-- and where these agree with flat memory, its answers do (`run-agrees`).
-- Why: the run carries out `chip_step` where a call does `chip_called`, which on a well-formed chip are the same; an
-- answer, once put, is not touched by later ones, which lie behind it.
use Prim.Native.Nat.{ℕ, zero, suc, ◌+◌, ◌*◌, ◌-◌, ◌≤◌, ◌<◌}
use mathlib.Core.Bool.{true, false}
use mathlib.Core.Path.{◌≡◌, refl, sym, ap, ◌∙◌, subst}
use mathlib.Core.List.{List, [], ◌∷◌, ◌++◌}
use native.Mathlib.Omega.{arith}
use lib.ListN.{length, get_or, drop}
use lib.Seq.{ext_get_or}
use lib.Dec.{ltb, leb, eqb}
use borrow.Author.Tests.{eqb-true, ltb-true, ltb-false, leb-true, leb-false, ne_eqb}
use Rattle.model.specs.Bytes.{part, stored, little_bytes}
use Rattle.model.specs.Flat.{Flat, flat_step}
use Rattle.model.specs.Trace.{command}
use Rattle.model.specs.Calls.{put_answer, command_due, command_at, one_command}
use Rattle.model.specs.Laws.{bool, length_part, length-stored, length-little_bytes, part_at}
use Rattle.model.specs.declared.Command.{Command}
use Rattle.agreement.specs.Demand.{compared, global, Settled}
use Rattle.agreement.specs.Traces.{carried_from, carried, Carries, AnswersAgree, Piece, piece_commands}
use Rattle.agreement.specs.Traces as T
use Rattle.agreement.proofs.Memory.{stored_at, stored-elsewhere}
use Rattle.agreement.proofs.Reading.{decode-stable}
use Rattle.program.specs.Fetches.{Chip, ChipReply}
use Rattle.program.specs.Chip.{chip_command_due, chip_step, chip_lent_due, ChipCall, on_data, chip_called}
use Rattle.program.specs.Lists.{flat_chip, chip_remembered, ChipAgree}
use Rattle.program.specs.Lists as L
use Rattle.program.specs.Runs.{ChipRun, chip_ran, chip_run_from, chip_run_call, chip_after}
use Rattle.program.specs.Traces.{chip_commands, command_called, answer_bytes, piece_calls, ChipAnswersAre, ChipRunIsCalls, ChipRunsAreCalls, ChipRunRefused, flat_chip_after, chip_remembered_all, ChipRunAgrees}
use Rattle.program.specs.Traces as C
use Rattle.program.proofs.ChipStays.{ChipWell, well-passes, chip-stays}
use Rattle.program.proofs.Stays.{due-well-chip, after-well-chip, step-number}

-- ---- a command of a run is a call, on a well-formed chip
called-step : (c : Command) (x : Chip) → ChipWell x → command_called c x ≡ chip_step c x
called-step c x w = rw (well-passes x w) refl

-- ---- the ten bytes of an answer
ten : (r : ChipReply) → length (answer_bytes r) ≡ 10
ten r = let e = length-little_bytes r.value 8 in rw e refl

-- put as the k-th of the answers o, they are there in what has the same bytes up to the next one
kept-answer : (o os : List ℕ) (k : ℕ) (r : ChipReply) → k * 10 + 10 ≤ length o → length os ≡ length o →
    ((j : ℕ) → j < suc k * 10 → get_or os j 0 ≡ get_or (stored o (k * 10) (answer_bytes r)) j 0) → part os (k * 10) 10 ≡ answer_bytes r
kept-answer o os k r fits long same =
    let bs = answer_bytes r in let n = ten r in let p = length_part os (k * 10) 10 (omega arith) in
    ext_get_or 0 (part os (k * 10) 10) bs (p ∙ sym n)
    (λ j g. let j' : k * 10 + j - k * 10 ≡ j = omega arith in
    part_at os (k * 10) 10 j (omega arith) (omega arith)
    ∙ same (k * 10 + j) (omega arith)
    ∙ stored_at o bs (k * 10) (omega arith) (k * 10 + j) (omega arith) (omega arith)
    ∙ rw j' refl)

-- ---- what a run that began at byte i and answer k, with the answer bytes o, is known to give
record Ran (r : ChipRun) (t : List ℕ) (cs : List Command) (x : Chip) (i k : ℕ) (o : List ℕ) : Type 0 where
  next : r.next ≡ chip_after (chip_commands cs) x
  count : r.count ≡ k + length cs
  long : length r.answers ≡ length o
  before : (j : ℕ) → j < k * 10 → get_or r.answers j 0 ≡ get_or o j 0
  answers-are : ChipAnswersAre r.answers k cs x
  stops : Carries t (length o) i k cs r.consumed r.stop

ran-none : (t : List ℕ) (x : Chip) (i k n : ℕ) (o : List ℕ) → Carries t (length o) i k [] i n → Ran (chip_ran x i k n o) t [] x i k o
unfolding chip_after
ran-none t x i k n o s =
    record { next = refl; count = omega arith; long = refl; before = λ _ _. refl; answers-are = C.end; stops = s }

ran-next : (r : ChipRun) (t : List ℕ) (cs : List Command) (x : Chip) (i k : ℕ) (o : List ℕ) → let c = (command_at t i).found in let a = chip_step c x in
    command_called c x ≡ a → i < length t → (command_at t i).ok ≡ true → k * 10 + 10 ≤ length o →
    Ran r t cs a.next (i + (command_at t i).used) (suc k) (stored o (k * 10) (answer_bytes a)) → Ran r t (c ∷ cs) x i k o
unfolding chip_after
ran-next r t cs x i k o e more ok f h =
    let c = (command_at t i).found in let a = chip_step c x in let bs = answer_bytes a in let n = ten a in
    let l = length-stored o bs (k * 10) in let long = h.long in
    let same = kept-answer o r.answers k a f (long ∙ l) h.before in
    let rest : ChipAnswersAre r.answers (suc k) cs (command_called c x).next = rw e h.answers-are in
    let here : part r.answers (k * 10) 10 ≡ answer_bytes (command_called c x) = rw e same in
    record {
      next = h.next ∙ ap (λ (y : ChipReply). chip_after (chip_commands cs) y.next) (sym e);
      count = let d = h.count in omega arith;
      long = long ∙ l;
      before = λ j g. h.before j (omega arith) ∙ stored-elsewhere o bs (k * 10) (omega arith) j (λ b. absurd (omega arith));
      answers-are = C.next here rest;
      stops = T.onward more ok f (rw l at h.stops);
    }

run-from : (t : List ℕ) (room turns i : ℕ) (x : Chip) (k : ℕ) (o : List ℕ) → ChipWell x → length o ≡ room → length t ≤ i + turns →
    Ran (chip_run_from t turns i x k o) t (carried_from t room turns i k) x i k o
unfolding chip_run_from carried_from put_answer
run-from t room zero i x k o w e h = ran-none t x i k 0 o (T.at_end (omega arith))
run-from t room (suc turns) i x k o w e h =
    bool (ltb i (length t))
    (λ t₁. let more = ltb-true i (length t) t₁ in
    bool (command_at t i).ok
    (λ t₂. bool (leb (k * 10 + 10) room)
    (λ t₃. let c = (command_at t i).found in let a = chip_step c x in let s = called-step c x w in
    let f = leb-true (k * 10 + 10) room t₃ in let o' = stored o (k * 10) (answer_bytes a) in
    let l : length o' ≡ room = length-stored o (answer_bytes a) (k * 10) ∙ e in
    let one = (decode-stable (drop i t) t₂).least in
    let w' : ChipWell a.next = rw s at (chip-stays (on_data (one_command c)) x w) in
    rw (t₁, t₂, e, t₃) (ran-next (chip_run_from t turns (i + (command_at t i).used) a.next (suc k) o') t
    (carried_from t room turns (i + (command_at t i).used) (suc k)) x i k o s more t₂ (omega arith)
    (run-from t room turns (i + (command_at t i).used) a.next (suc k) o' w' l (omega arith))))
    (λ t₃. rw (t₁, t₂, e, t₃) (ran-none t x i k 12 o (T.at_full more t₂ (rw e (leb-false (k * 10 + 10) room t₃))))))
    (λ t₂. rw (t₁, t₂) (ran-none t x i k 11 o (T.at_damage more t₂))))
    (λ t₁. rw t₁ (ran-none t x i k 0 o (T.at_end (ltb-false i (length t) t₁))))

pub run-calls : (t o : List ℕ) (x : Chip) → ChipWell x → ChipRunIsCalls t o x
unfolding chip_run_call carried
run-calls t o x w =
    let h = run-from t (length o) (length t) 0 x 0 o w refl (omega arith) in
    let d = well-passes x w in let n : 0 + length (carried t (length o)) ≡ length (carried t (length o)) = omega arith in
    record { next = rw d h.next; count = rw d (h.count ∙ n); answers-are = rw d h.answers-are; stops = rw d h.stops }

pub run-is-calls : ChipRunsAreCalls
run-is-calls t o x s d = run-calls t o x (due-well-chip x s d)

pub run-refused : ChipRunRefused
unfolding chip_run_call
run-refused t o x n = rw (ne_eqb (chip_lent_due x) 0 n) refl

-- ---- the answers of calls that agree with flat memory
answers_agree : (o : List ℕ) (cs : List Command) (k : ℕ) (h : List ChipCall) (x : Chip) (f : Flat) → ChipAgree h (chip_commands cs) x f →
    ChipAnswersAre o k cs x → AnswersAgree o k cs f
answers_agree o [] k h x f a b = T.end
answers_agree o (c ∷ cs) k h x f (L.next a rest) (C.next e b) =
    let here : compared (one_command c) ≡ true → (server : ℕ) × (part o (k * 10) 10 ≡ (flat_step c f).number ∷ server ∷ little_bytes (flat_step c f).value 8) =
    λ g. ((command_called c x).server, e ∙ rw (a.number g, a.value g) refl) in
    T.next here (answers_agree o cs (suc k) (chip_remembered (on_data (one_command c)) x h) (command_called c x).next (flat_step c f).next rest b)

-- ---- lists one behind the other
pub agree-front : (cs ds h : List ChipCall) (x : Chip) (f : Flat) → ChipAgree h (cs ++ ds) x f → ChipAgree h cs x f
agree-front [] ds h x f a = L.end
agree-front (c ∷ cs) ds h x f (L.next a b) =
    L.next a (agree-front cs ds (chip_remembered c x h) (chip_called c x).next (flat_chip c f).next b)

pub agree-behind : (cs ds h : List ChipCall) (x : Chip) (f : Flat) → ChipAgree h (cs ++ ds) x f →
    ChipAgree (chip_remembered_all cs x h) ds (chip_after cs x) (flat_chip_after cs f)
unfolding chip_remembered_all chip_after flat_chip_after
agree-behind [] ds h x f a = a
agree-behind (c ∷ cs) ds h x f (L.next a b) =
    agree-behind cs ds (chip_remembered c x h) (chip_called c x).next (flat_chip c f).next b

after-append : (cs ds : List ChipCall) (x : Chip) → chip_after (cs ++ ds) x ≡ chip_after ds (chip_after cs x)
unfolding chip_after
after-append [] ds x = refl
after-append (c ∷ cs) ds x = after-append cs ds (chip_called c x).next

flat_append : (cs ds : List ChipCall) (f : Flat) → flat_chip_after (cs ++ ds) f ≡ flat_chip_after ds (flat_chip_after cs f)
unfolding flat_chip_after
flat_append [] ds f = refl
flat_append (c ∷ cs) ds f = flat_append cs ds (flat_chip c f).next

commands-end : (cs : List Command) (c : Command) → chip_commands (cs ++ (c ∷ [])) ≡ chip_commands cs ++ (on_data (one_command c) ∷ [])
commands-end [] c = refl
commands-end (d ∷ cs) c = ap (λ (l : List ChipCall). on_data (one_command d) ∷ l) (commands-end cs c)

-- ---- a global writeback is accepted, and settles external memory and SRAM
global-accepted : (c : Command) (x : Chip) → ChipWell x → global (one_command c) ≡ true → (command_called c x).number ≡ 0
unfolding chip_step chip_command_due command_due
global-accepted c x w g =
    bool (eqb c.code 2) (λ t. accepted-at 2 (eqb-true c.code 2 t) refl refl)
    (λ t. accepted-at 3 (eqb-true c.code 3 (rw t at g)) refl refl)
  where
    accepted-at : (k : ℕ) → c.code ≡ k → eqb k 11 ≡ false → command_due (command k c.first c.second c.value) x.data_side ≡ 0 → (command_called c x).number ≡ 0
    accepted-at k e n d =
        let due : command_due c x.data_side ≡ 0 = ap (λ (j : ℕ). command_due (command j c.first c.second c.value) x.data_side) e ∙ d in
        let m = step-number c x.data_side due in let no : eqb c.code 11 ≡ false = rw e n in
        rw (well-passes x w, due, no) m

first-settled : (h : List ChipCall) (c : Command) (x : Chip) (f : Flat) → ChipWell x → ChipAgree h (on_data (one_command c) ∷ []) x f →
    global (one_command c) ≡ true → Settled (command_called c x).next.data_side (flat_step c f).next
first-settled h c x f w (L.next a b) g = a.settled g (global-accepted c x w g)

ends-settled : (h : List ChipCall) (cs : List Command) (c : Command) (x : Chip) (f : Flat) → ChipWell x → ChipAgree h (chip_commands (cs ++ (c ∷ []))) x f →
    global (one_command c) ≡ true → Settled (chip_after (chip_commands (cs ++ (c ∷ []))) x).data_side (flat_chip_after (chip_commands (cs ++ (c ∷ []))) f)
unfolding chip_after flat_chip_after
ends-settled h cs c x f w a g =
    let ds = chip_commands cs in let l : List ChipCall = on_data (one_command c) ∷ [] in
    let e = commands-end cs c in let x₁ = chip_after ds x in let f₁ = flat_chip_after ds f in
    let b = agree-behind ds l h x f (subst (λ (v : List ChipCall). ChipAgree h v x f) e a) in
    let s = first-settled (chip_remembered_all ds x h) c x₁ f₁ (after-well-chip ds x w) b g in
    rw (e, after-append ds l x, flat_append ds l f) s

pub run-agrees : (h : List ChipCall) (p : Piece) (x : Chip) (f : Flat) → ChipWell x → ChipAgree h (piece_calls p) x f → ChipRunAgrees h p x f
run-agrees h p x f w a =
    let r = run-calls p.trace p.answers x w in
    record {
      answers = answers_agree (chip_run_call p.trace p.answers x).answers (piece_commands p) 0 h x f a r.answers-are;
      places = a;
      ended = λ cs c i g. let s = ends-settled h cs c x f w (subst (λ (l : List Command). ChipAgree h (chip_commands l) x f) i a) g in
          rw r.next (subst (λ (l : List Command). Settled (chip_after (chip_commands l) x).data_side (flat_chip_after (chip_commands l) f)) (sym i) s);
    }
