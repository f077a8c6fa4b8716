-- Runs over traces: a run on a well-formed state is its commands called one after another (`run-calls`), and from an
-- accepted fresh start its answers are flat memory's, in one piece or in several, and what a global writeback settles
-- is settled (`trace-demand3`).
-- Why: the run carries out `step` where a call does `call`, and on a well-formed state they are the same; an answer,
-- once put, is not touched by later ones, which lie behind it. The rest is `step-answered`, command by command.
use Prim.Native.Nat.{ℕ, zero, suc, ◌+◌, ◌*◌, ◌-◌, ◌≤◌, ◌<◌}
use mathlib.Core.Bool.{true}
use mathlib.Core.Path.{◌≡◌, refl, sym, ap, ◌∙◌}
use mathlib.Core.List.{List, [], ◌∷◌, ◌++◌}
use native.Mathlib.Omega.{arith}
use lib.ListN.{length, get_or, drop}
use lib.Seq.{ext_get_or}
use lib.Dec.{ltb, leb}
use borrow.Author.Tests.{ltb-true, ltb-false, leb-true, leb-false, le-ltb}
use Rattle.model.specs.Bytes.{part, stored, little_bytes}
use Rattle.model.specs.Records.{State, fresh_state}
use Rattle.model.specs.Flat.{Flat, fresh_flat, flat_step, flat_after}
use Rattle.model.specs.Calls.{Reply, Run, ran, step, call, put_answer, run_from, run_call, command_at, put_reply, Call, one_command, after, commands}
use Rattle.agreement.specs.Demand.{listed_code, listed, compared}
use Rattle.agreement.specs.Traces.{TurnsSuffice, carried_from, carried, AnswersAre, Carries, RunIsCalls, AnswersAgree, Piece, piece_commands, all_commands, RunAgrees, RunsAgree, TraceDemand3}
use Rattle.model.specs.Laws.{bool, both_true, length_part, length-stored, length-little_bytes, part_at}
use Rattle.model.specs.declared.Command.{Command}
use Rattle.agreement.proofs.Memory.{stored_at, stored-elsewhere}
use Rattle.agreement.proofs.Good.{Well, good-well}
use Rattle.agreement.proofs.Reading.{decode-stable}
use Rattle.agreement.proofs.Steps.{step-well}
use Rattle.agreement.proofs.Tested.{well-due, call_step}
use Rattle.agreement.proofs.Agreement.{Is, Matches, step-answered, agree, commands-reach, after-matches, ends-settled, fresh-matches, fresh-accepted}
use Rattle.agreement.specs.Traces as T

-- ---- the turns suffice: a turn more changes nothing, as long as there are as many as bytes left
module _ (t : List ℕ) where
  turn-same : (m n i : ℕ) (z : State) (k : ℕ) (o : List ℕ) →
      ((command_at t i).ok ≡ true → let x = step (command_at t i).found z in
      run_from t m (i + (command_at t i).used) x.next (suc k) (put_reply o k x) ≡ run_from t n (i + (command_at t i).used) x.next (suc k) (put_reply o k x)) →
      run_from t (suc m) i z k o ≡ run_from t (suc n) i z k o
  unfolding run_from
  turn-same m n i z k o h =
      bool (ltb i (length t)) (λ t₁. bool (command_at t i).ok (λ t₂. rw (t₁, t₂, h t₂) refl) (λ t₂. rw (t₁, t₂) refl)) (λ t₁. rw t₁ refl)

  turn-none : (i : ℕ) (z : State) (k : ℕ) (o : List ℕ) → length t ≤ i → run_from t 1 i z k o ≡ run_from t 0 i z k o
  unfolding run_from
  turn-none i z k o h = rw (le-ltb i (length t) h) refl

  turn_more : (m i : ℕ) (z : State) (k : ℕ) (o : List ℕ) → length t ≤ i + m → run_from t (suc m) i z k o ≡ run_from t m i z k o
  turn_more zero i z k o h = turn-none i z k o (omega arith)
  turn_more (suc m) i z k o h =
      turn-same (suc m) m i z k o
      (λ ok. let x = step (command_at t i).found z in let one = (decode-stable (drop i t) ok).least in
      turn_more m (i + (command_at t i).used) x.next (suc k) (put_reply o k x) (omega arith))

  turns_more : (d m i : ℕ) (z : State) (k : ℕ) (o : List ℕ) → length t ≤ i + m → run_from t (m + d) i z k o ≡ run_from t m i z k o
  turns_more zero m i z k o h = let e : m + 0 ≡ m = omega arith in rw e refl
  turns_more (suc d) m i z k o h =
      let e : m + suc d ≡ suc (m + d) = omega arith in rw e (turn_more (m + d) i z k o (omega arith) ∙ turns_more d m i z k o h)

pub turns-suffice : TurnsSuffice
turns-suffice t turns i z k o h =
    let left = length t - i in
    let e : left + (turns - left) ≡ turns = omega arith in
    rw e at (turns_more t (turns - left) left i z k o (omega arith))

-- ---- the ten bytes of an answer
abbrev answer_bytes : Reply → List ℕ
answer_bytes r = r.number ∷ r.server ∷ little_bytes r.value 8

ten : (r : Reply) → length (answer_bytes r) ≡ 10
ten r = let e = length-little_bytes r.value 8 in rw e refl

-- ---- what a run that began at answer k, with the answer bytes o, is known to give
record RanCalls (r : Run) (cs : List Command) (z : State) (k : ℕ) (o : List ℕ) : Type 0 where
  next : r.next ≡ after (commands cs) z
  count : r.count ≡ k + length cs
  long : length r.answers ≡ length o
  before : (j : ℕ) → j < k * 10 → get_or r.answers j 0 ≡ get_or o j 0
  answers-are : AnswersAre r.answers k cs z

ran-none : (z : State) (i k n : ℕ) (o : List ℕ) → RanCalls (ran z i k n o) [] z k o
unfolding after
ran-none z i k n o = record { next = refl; count = omega arith; long = refl; before = λ _ _. refl; answers-are = T.end }

ran-next : (r : Run) (cs : List Command) (z : State) (k : ℕ) (o : List ℕ) (c : Command) → call c z ≡ step c z → k * 10 + 10 ≤ length o →
    RanCalls r cs (step c z).next (suc k) (put_answer o k (step c z).number (step c z).server (step c z).value) → RanCalls r (c ∷ cs) z k o
unfolding put_answer after
ran-next r cs z k o c e f h =
    let a = step c z in
    let bs = answer_bytes a in
    let n = ten a in
    let o' = stored o (k * 10) bs in
    let l = length-stored o bs (k * 10) in
    let long = h.long in
    let fits : k * 10 + length bs ≤ length o = omega arith in
    let same : part r.answers (k * 10) 10 ≡ bs =
    ext_get_or 0 (part r.answers (k * 10) 10) bs (length_part r.answers (k * 10) 10 (omega arith) ∙ sym n)
    (λ j g. let p = length_part r.answers (k * 10) 10 (omega arith) in
    let j' : k * 10 + j - k * 10 ≡ j = omega arith in
    part_at r.answers (k * 10) 10 j (omega arith) (omega arith)
    ∙ h.before (k * 10 + j) (omega arith)
    ∙ stored_at o bs (k * 10) fits (k * 10 + j) (omega arith) (omega arith)
    ∙ rw j' refl) in
    let rest : AnswersAre r.answers (suc k) cs (call c z).next = rw e h.answers-are in
    let here : part r.answers (k * 10) 10 ≡ (call c z).number ∷ (call c z).server ∷ little_bytes (call c z).value 8 = rw e same in
    record {
      next = h.next ∙ ap (λ (x : Reply). after (commands cs) x.next) (sym e);
      count = let d = h.count in omega arith;
      long = h.long ∙ l;
      before = λ j g. h.before j (omega arith) ∙ stored-elsewhere o bs (k * 10) fits j (λ b. absurd (omega arith));
      answers-are = T.next here rest;
    }

run-from : (t : List ℕ) (room turns i : ℕ) (z : State) (k : ℕ) (o : List ℕ) → Well z → length o ≡ room →
    RanCalls (run_from t turns i z k o) (carried_from t room turns i k) z k o
unfolding run_from carried_from put_answer
run-from t room zero i z k o w e = ran-none z i k 0 o
run-from t room (suc turns) i z k o w e =
    bool (ltb i (length t))
    (λ t₁. bool (command_at t i).ok
    (λ t₂. bool (leb (k * 10 + 10) room)
    (λ t₃. let c = (command_at t i).found in let a = step c z in
    let f = leb-true (k * 10 + 10) room t₃ in
    let o' = put_reply o k a in
    let l : length o' ≡ room = length-stored o (answer_bytes a) (k * 10) ∙ e in
    let h = run-from t room turns (i + (command_at t i).used) a.next (suc k) o' (step-well c z w) l in
    rw (t₁, t₂, e, t₃) (ran-next (run_from t turns (i + (command_at t i).used) a.next (suc k) o')
    (carried_from t room turns (i + (command_at t i).used) (suc k)) z k o c (call_step c z w) (omega arith) h))
    (λ t₃. rw (t₁, t₂, e, t₃) (ran-none z i k 12 o)))
    (λ t₂. rw (t₁, t₂) (ran-none z i k 11 o)))
    (λ t₁. rw t₁ (ran-none z i k 0 o))

-- ---- where it stops
run-stops : (t : List ℕ) (room turns i : ℕ) (z : State) (k : ℕ) (o : List ℕ) → length o ≡ room → length t ≤ i + turns →
    Carries t room i k (carried_from t room turns i k) (run_from t turns i z k o).consumed (run_from t turns i z k o).stop
unfolding run_from carried_from put_answer
run-stops t room zero i z k o e h = let l : length t ≤ i = omega arith in T.at_end l
run-stops t room (suc turns) i z k o e h =
    bool (ltb i (length t))
    (λ t₁. let more = ltb-true i (length t) t₁ in
    bool (command_at t i).ok
    (λ t₂. bool (leb (k * 10 + 10) room)
    (λ t₃. let a = step (command_at t i).found z in
    let o' = put_reply o k a in
    let l : length o' ≡ room = length-stored o (answer_bytes a) (k * 10) ∙ e in
    let one = (decode-stable (drop i t) t₂).least in
    let rest = run-stops t room turns (i + (command_at t i).used) a.next (suc k) o' l (omega arith) in
    rw (t₁, t₂, e, t₃) (T.onward more t₂ (leb-true (k * 10 + 10) room t₃) rest))
    (λ t₃. rw (t₁, t₂, e, t₃) (T.at_full more t₂ (leb-false (k * 10 + 10) room t₃))))
    (λ t₂. rw (t₁, t₂) (T.at_damage more t₂)))
    (λ t₁. rw t₁ (T.at_end (ltb-false i (length t) t₁)))

-- ---- a run is its commands, called one after another
pub run-calls : (t o : List ℕ) (z : State) → Well z → RunIsCalls t o z
unfolding run_call carried
run-calls t o z w =
    let h = run-from t (length o) (length t) 0 z 0 o w refl in
    let d = well-due z w in
    let n : 0 + length (carried t (length o)) ≡ length (carried t (length o)) = omega arith in
    let s = run-stops t (length o) (length t) 0 z 0 o refl (omega arith) in
    record { next = rw d h.next; count = rw d (h.count ∙ n); answers-are = rw d h.answers-are; stops = rw d s }

-- ---- the answers of calls that match flat memory, one after another
module _ (o : List ℕ) where
  answers_agree : (cs : List Command) (k : ℕ) (z : State) (f : Flat) → Matches z f → listed (commands cs) ≡ true → AnswersAre o k cs z →
      AnswersAgree o k cs f
  unfolding listed
  answers_agree [] k z f m y a = T.end
  answers_agree (c ∷ cs) k z f m y (T.next e a) =
      let p = both_true (listed_code c.code) (listed (commands cs)) y in
      let s = call_step c z (good-well z (Is f) m.good) in
      let r = step-answered c z f m p.0 in
      let m' : Matches (call c z).next (flat_step c f).next = rw s r.matches in
      let here : compared (one_command c) ≡ true → (server : ℕ) × (part o (k * 10) 10 ≡ (flat_step c f).number ∷ server ∷ little_bytes (flat_step c f).value 8) =
      λ g. ((call c z).server, e ∙ rw (s, r.number g, r.value g) refl) in
      T.next here (answers_agree cs (suc k) (call c z).next (flat_step c f).next m' p.1 a)

pub listed-append : (cs ds : List Command) → listed (commands (cs ++ ds)) ≡ true → (listed (commands cs) ≡ true) × (listed (commands ds) ≡ true)
unfolding listed
listed-append [] ds y = (refl, y)
listed-append (c ∷ cs) ds y =
    let p = both_true (listed_code c.code) (listed (commands (cs ++ ds))) y in let q = listed-append cs ds p.1 in (rw p.0 q.0, q.1)

commands-append : (cs ds : List Command) → commands (cs ++ ds) ≡ commands cs ++ commands ds
commands-append [] ds = refl
commands-append (c ∷ cs) ds = ap (λ (x : List Call). one_command c ∷ x) (commands-append cs ds)

run-agrees : (p : Piece) (z : State) (f : Flat) → Matches z f → listed (commands (piece_commands p)) ≡ true →
    RunIsCalls p.trace p.answers z → RunAgrees p z f
run-agrees p z f m y r =
    record {
      answers = answers_agree (run_call p.trace p.answers z).answers (piece_commands p) 0 z f m y r.answers-are;
      places = agree (commands (piece_commands p)) z f m y (commands-reach (piece_commands p) z);
      ended = λ cs c i g.
          let j : commands (piece_commands p) ≡ commands cs ++ (one_command c ∷ []) = ap commands i ∙ commands-append cs (c ∷ []) in
          rw (r.next, j) (ends-settled cs c z f m (rw j at y) g);
    }

pub runs-agree : (ps : List Piece) (z : State) (f : Flat) → Matches z f → listed (commands (all_commands ps)) ≡ true →
    RunsAgree ps z f
unfolding all_commands
runs-agree [] z f m y = T.end
runs-agree (p ∷ ps) z f m y =
    let l = listed-append (piece_commands p) (all_commands ps) y in
    let r = run-calls p.trace p.answers z (good-well z (Is f) m.good) in
    let x = (run_call p.trace p.answers z).next in
    let m' : Matches x (flat_after (commands (piece_commands p)) f) = rw r.next (after-matches (piece_commands p) z f m l.0) in
    T.next (run-agrees p z f m l.0 r) (runs-agree ps x (flat_after (commands (piece_commands p)) f) m' l.1)

pub trace-demand3 : TraceDemand3
trace-demand3 d m e h ps y =
    let p = fresh-accepted d m e h in let s = p.2 in
    rw s (runs-agree ps (fresh_state (length m) e) (fresh_flat (length m) e) (fresh-matches (length m) e p.0 p.1) y)
