-- A trace of whole commands, and traces cut at command boundaries. Shown: a run over a trace of whole commands, with
-- answer bytes for all, carries out just these (`whole-carried`); the pieces of such a trace, cut at command
-- boundaries, carry out the same commands as the trace in one piece (`pieces-carried`, `pieces_whole`), so that by
-- `run-calls` each answer is the same, and leave the same state (`cut-anywhere`), on every well-formed state and for
-- every code.
-- Why: reading a command looks at its own bytes only, and takes one at least (`decode-stable` of Reading).
use Prim.Native.Nat.{ℕ, zero, suc, ◌+◌, ◌*◌, ◌≤◌, ◌<◌}
use mathlib.Core.Bool.{true}
use mathlib.Core.Path.{◌≡◌, refl, sym, ap, ◌∙◌, subst}
use mathlib.Core.List.{List, [], ◌∷◌, ◌++◌}
use native.Mathlib.Omega.{arith}
use lib.ListN.{length, drop, length-drop}
use lib.Seq.{drop-append-le, drop-drop}
use borrow.Author.Tests.{lt-ltb, le-ltb, le-leb}
use Rattle.model.specs.Records.{State}
use Rattle.model.specs.Trace.{Decoded, decode, Whole, none, one}
use Rattle.model.specs.Calls.{run_call, command_at, Call, one_command, after, commands}
use Rattle.agreement.specs.Traces.{carried_from, carried, Piece, piece_commands, all_commands}
use Rattle.model.specs.declared.Command.{Command}
use Rattle.agreement.proofs.Good.{Well}
use Rattle.agreement.proofs.Reading.{decode-stable}
use Rattle.agreement.proofs.Stays.{after-well, after-append}
use Rattle.agreement.proofs.TraceAgreement.{run-calls}

whole-more : (t : List ℕ) (d : Decoded) (cs : List Command) → decode t ≡ d → d.ok ≡ true → Whole (drop d.used t) cs → Whole t (d.found ∷ cs)
whole-more t d cs e h w = subst (λ (x : Decoded). x.ok ≡ true → Whole (drop x.used t) cs → Whole t (x.found ∷ cs)) e (λ k w'. one k w') h w

pub whole_append : {t : List ℕ} {cs : List Command} → Whole t cs → (u : List ℕ) (ds : List Command) → Whole u ds → Whole (t ++ u) (cs ++ ds)
whole_append none u ds w = w
whole_append (one {t} {cs} h r) u ds w =
    let s = decode-stable t h in
    let m = s.most in
    let q : Whole (drop (decode t).used (t ++ u)) (cs ++ ds) = rw (drop-append-le (decode t).used t u m) (whole_append r u ds w) in
    whole-more (t ++ u) (decode t) (cs ++ ds) (s.same u) h q

-- ---- a run over it carries out just its commands
carried-end : (t : List ℕ) (room turns i k : ℕ) → length t ≤ i → carried_from t room turns i k ≡ []
unfolding carried_from
carried-end t room zero i k h = refl
carried-end t room (suc turns) i k h = rw (le-ltb i (length t) h) refl

carried-more : (t : List ℕ) (room turns i k : ℕ) → i < length t → (command_at t i).ok ≡ true → k * 10 + 10 ≤ room →
    carried_from t room (suc turns) i k ≡ (command_at t i).found ∷ carried_from t room turns (i + (command_at t i).used) (suc k)
unfolding carried_from
carried-more t room turns i k h o f = rw (lt-ltb i (length t) h, o, le-leb (k * 10 + 10) room f) refl

whole_from : {u : List ℕ} {cs : List Command} → Whole u cs → (t : List ℕ) (room turns i k : ℕ) → u ≡ drop i t → length t ≤ i + turns →
    (k + length cs) * 10 ≤ room →
    carried_from t room turns i k ≡ cs
whole_from none t room turns i k e n f =
    let l : length (drop i t) ≡ 0 = ap length (sym e) in let d = length-drop i t in
    carried-end t room turns i k (omega arith)
whole_from (one {t = u} {cs = cs} h r) t room zero i k e n f =
    let s = decode-stable u h in let a = s.least in let b = s.most in
    let l : length u ≡ length (drop i t) = ap length e in let d = length-drop i t in absurd (omega arith)
whole_from (one {t = u} {cs = cs} h r) t room (suc turns) i k e n f =
    let s = decode-stable u h in let a = s.least in let b = s.most in
    let l : length u ≡ length (drop i t) = ap length e in let d = length-drop i t in
    let same : decode u ≡ decode (drop i t) = ap decode e in
    let next : drop (decode u).used u ≡ drop (i + (decode u).used) t =
    ap (λ (x : List ℕ). drop (decode u).used x) e ∙ drop-drop (decode u).used i t in
    let rest = whole_from r t room turns (i + (decode u).used) (suc k) next (omega arith) (omega arith) in
    carried-more t room turns i k (omega arith) (ap (λ (x : Decoded). x.ok) (sym same) ∙ h) (omega arith)
    ∙ ap (λ (x : Decoded). x.found ∷ carried_from t room turns (i + x.used) (suc k)) (sym same)
    ∙ ap (λ (x : List Command). (decode u).found ∷ x) rest

pub whole-carried : {t : List ℕ} {cs : List Command} → Whole t cs → (room : ℕ) → length cs * 10 ≤ room → carried t room ≡ cs
unfolding carried
whole-carried {t} {cs} w room f = whole_from w t room (length t) 0 0 refl (omega arith) (omega arith)

-- ---- a trace of whole commands in pieces, cut at command boundaries, each piece with answer bytes for its commands
pub data WholePieces : List Piece → List Command → Type 0 where
  no_pieces : WholePieces [] []
  piece : {p : Piece} {ps : List Piece} {cs ds : List Command} → Whole p.trace cs → length cs * 10 ≤ length p.answers → WholePieces ps ds →
      WholePieces (p ∷ ps) (cs ++ ds)

-- the pieces put together again, and the state after a run over each
unfoldable pub joined : List Piece → List ℕ
joined [] = []
joined (p ∷ ps) = p.trace ++ joined ps

unfoldable pub run_all : List Piece → State → State
run_all [] z = z
run_all (p ∷ ps) z = run_all ps (run_call p.trace p.answers z).next

-- they carry out the commands of the whole
pub pieces-carried : {ps : List Piece} {cs : List Command} → WholePieces ps cs → all_commands ps ≡ cs
unfolding all_commands
pieces-carried no_pieces = refl
pieces-carried (piece {p} {ps} {cs} {ds} w f r) = let a = whole-carried w (length p.answers) f in let b = pieces-carried r in rw (a, b) refl

pub pieces_whole : {ps : List Piece} {cs : List Command} → WholePieces ps cs → Whole (joined ps) cs
unfolding joined
pieces_whole no_pieces = none
pieces_whole (piece {p} {ps} {cs} {ds} w f r) = whole_append w (joined ps) ds (pieces_whole r)

commands-append : (cs ds : List Command) → commands (cs ++ ds) ≡ commands cs ++ commands ds
commands-append [] ds = refl
commands-append (c ∷ cs) ds = ap (λ (xs : List Call). one_command c ∷ xs) (commands-append cs ds)

runs-state : (ps : List Piece) (z : State) → Well z → run_all ps z ≡ after (commands (all_commands ps)) z
unfolding run_all all_commands after
runs-state [] z w = refl
runs-state (p ∷ ps) z w =
    let e = (run-calls p.trace p.answers z w).next in
    let h = runs-state ps (after (commands (piece_commands p)) z) (after-well (commands (piece_commands p)) z w) in
    let a = piece_commands p in let b = all_commands ps in
    rw e (h ∙ sym (ap (λ (xs : List Call). after xs z) (commands-append a b) ∙ after-append (commands a) (commands b) z))

-- the run over the whole and the runs over the pieces leave the same record and the same memories
pub cut-anywhere : {ps : List Piece} {cs : List Command} → WholePieces ps cs → (o : List ℕ) → length cs * 10 ≤ length o → (z : State) → Well z →
    (run_call (joined ps) o z).next ≡ run_all ps z
cut-anywhere {ps} {cs} w o f z h =
    let a = (run-calls (joined ps) o z h).next in
    let b = whole-carried (pieces_whole w) (length o) f in
    let c = pieces-carried w in
    a ∙ ap (λ (x : List Command). after (commands x) z) (b ∙ sym c) ∙ sym (runs-state ps z h)
