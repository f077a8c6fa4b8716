-- What holds where the loop begins a turn (`Kept`), and how a turn keeps it, or ends the run: by its end, before a
-- command that is not carried out, or with the one given command, whose answer is the run's. Each command is carried
-- out on the words of the data side alone, or on those of the whole chip.
use Rattle.std.specs.Prelude.{ℕ, ◌+◌, ◌*◌, ◌-◌, ◌≤◌, ◌<◌, ◌≡◌, ◌≢◌, true, false, ◌&&◌, List, length, refl, OnErr, eqb, ltb}
use Rattle.std.proofs.Common.{sym, ap, ◌∙◌, arith, Some, Result, Ok, Err}
use Rattle.std.proofs.lemmas.Bool.{true≢false}
use borrow.Author.Tests.{le-leb, lt-ltb}
use Rattle.kinds.specs.Numbers.{number_due}
use Rattle.kinds.specs.declared.Refusal.{Refusal}
use Rattle.model.specs.Records.{State}
use Rattle.model.specs.Calls.{step, ran, put_answer, put_reply}
use Rattle.model.specs.declared.Command.{Command}
use Rattle.model.specs.declared.Left.TheVariants.{NoWay}
use Rattle.tags.specs.Words.{record_words, state_in}
use Rattle.access.specs.Answered.{answer_of, server_in, value_in}
use Rattle.access.specs.declared.Answer.{Answer}
use Rattle.program.specs.Fetches.{Chip, chip, with_l1p}
use Rattle.program.specs.Chip.{chip_step}
use Rattle.program.specs.Runs.{chip_ran, chip_run_from}
use Rattle.l1p_tags.specs.Lines.{chip_words, lines_in, chip_in}
use Rattle.decode.specs.declared.Decoded.{Decoded as Next}
use Rattle.model.specs.Trace.{Decoded, decoded}
use Rattle.decode.specs.Told.{told}
use Rattle.run.specs.Executed.{raised, source_of, end_of, stop_of, Taken, data_machine, chip_machine, executes, told-all, turn, stopped, at-end}
use Rattle.run.specs.Upwards.{all_up, told-up}

-- ---- the words and memories that a run is lent, L1P's bytes apart
pub record Held : Type 0 where
  pub words : List ℕ
  pub l1d : List ℕ
  pub l2 : List ℕ
  pub ext : List ℕ

abbrev pub held : List ℕ → List ℕ → List ℕ → List ℕ → Held
held ws d m e = record { words = ws; l1d = d; l2 = m; ext = e }

abbrev pub state_of : Held → State
state_of a = state_in a.words a.l1d a.l2 a.ext

abbrev pub chip_of : Held → List ℕ → Chip
chip_of a p = chip_in a.words a.l1d a.l2 a.ext p

-- a command was carried out at a, answered r, and left b; where it is refused the words stay
pub record Carried (c : Command) (a b : Held) (r : Result Answer Refusal) : Type 0 where
  pub on_data : length a.words ≡ record_words → answer_of r (state_of b) ≡ step c (state_of a)
  pub on_chip : length a.words ≡ chip_words → (p : List ℕ) →
      with_l1p NoWay (lines_in b.words) p (answer_of r (state_of b)) ≡ chip_step c (chip_of a p)
  pub refused : OnErr r (b.words ≡ a.words)

-- a reply, in parts
pub answer-next : (r : Result Answer Refusal) (z : State) → (answer_of r z).next ≡ z
answer-next (Ok x) z = refl
answer-next (Err e) z = refl

answer_put : (r : Result Answer Refusal) (z : State) (o : List ℕ) (k : ℕ) →
    put_reply o k (answer_of r z) ≡ put_answer o k (number_due r) (server_in r) (value_in r)
answer_put (Ok x) z o k = refl
answer_put (Err e) z o k = refl

-- ---- where a turn begins: k answers were put down, o now, and the commands have come to the place at. A run of one
-- given command has done nothing then
pub record Kept (n : ℕ) (c : Command) (t : List ℕ) (a₀ : Held) (o₀ : List ℕ) (a : Held) (o : List ℕ) (at k : ℕ)
    : Type 0 where
  pub counted : k ≤ at
  pub first : n ≡ 1 → at ≡ 0
  pub none : at ≡ 0 → a ≡ a₀
  pub on_data : length a₀.words ≡ record_words →
      executes data_machine (source_of n c t) (end_of n t) (end_of n t - k) at (state_of a) k o
      ≡ executes data_machine (source_of n c t) (end_of n t) (end_of n t) 0 (state_of a₀) 0 o₀
  pub on_chip : length a₀.words ≡ chip_words → (p : List ℕ) →
      executes chip_machine (source_of n c t) (end_of n t) (end_of n t - k) at (chip_of a p) k o
      ≡ executes chip_machine (source_of n c t) (end_of n t) (end_of n t) 0 (chip_of a₀ p) 0 o₀

-- what the run promises of its end
pub record Done (n : ℕ) (c : Command) (t : List ℕ) (a₀ : Held) (o₀ : List ℕ) (a : Held) (o : List ℕ) (at k s : ℕ)
    (r : Result Answer Refusal) : Type 0 where
  pub one : n ≡ 1 → 10 ≤ length o₀ → length a₀.words ≡ record_words → answer_of r (state_of a) ≡ step c (state_of a₀)
  pub whole : n ≡ 1 → 10 ≤ length o₀ → length a₀.words ≡ chip_words → (p : List ℕ) →
      with_l1p NoWay (lines_in a.words) p (answer_of r (state_of a)) ≡ chip_step c (chip_of a₀ p)
  pub refused : n ≡ 1 → OnErr r (a.words ≡ a₀.words)
  pub all : n ≡ 0 → length a₀.words ≡ chip_words → (p : List ℕ) →
      chip_ran (chip_of a p) at k s o ≡ chip_run_from t (length t) 0 (chip_of a₀ p) 0 o₀
  pub up : 2 ≤ n → n * 10 ≤ length o₀ → length a₀.words ≡ record_words →
      ran (state_of a) at k s o ≡ all_up c n (state_of a₀) o₀

-- one given access went by itself, so that an access in the loop is not the only command
pub not_alone : {n : ℕ} {c : Command} {t : List ℕ} {at k len : ℕ} {d : Next} → (eqb n 1 && ltb c.code 2) ≡ false →
    Taken n c t at k len d → d.command.code < 2 → n ≢ 1
not_alone {n} {c} {t} {at} {k} {len} {d} one f lo e =
    let s : told (Some d) ≡ decoded (raised c at) 1 = rw e at f.same in
    let g : d.command.code ≡ c.code = ap (λ (x : Decoded). x.found.code) s in
    let h : ltb c.code 2 ≡ false = rw e at one in
    let l : ltb c.code 2 ≡ true = lt-ltb c.code 2 (rw g at lo) in
    absurd (true≢false (sym l ∙ h))

module _ {n : ℕ} {c : Command} {t : List ℕ} {a₀ : Held} {o₀ : List ℕ} {a : Held} {o : List ℕ} {at k : ℕ}
    (h : Kept n c t a₀ o₀ a o at k) where
  -- a command is carried out, and is not the only one
  pub kept-turn : {d : Next} {b : Held} {o' : List ℕ} {r : Result Answer Refusal} → at < end_of n t →
      Taken n c t at k (length o) d → n ≢ 1 → length a.words ≡ length a₀.words → Carried d.command a b r →
      o' ≡ put_answer o k (number_due r) (server_in r) (value_in r) → Kept n c t a₀ o₀ b o' (at + d.used) (k + 1)
  kept-turn {d} {b} {o'} {r} lo f many l g eo =
      let le = h.counted in let more = f.more in
      let s = source_of n c t in let end = end_of n t in let x = answer_of r (state_of b) in
      let y : state_of b ≡ x.next = sym (answer-next r (state_of b)) in
      let q : o' ≡ put_reply o k x = eo ∙ sym (answer_put r (state_of b) o k) in
      record {
        counted = omega arith;
        first = λ e. absurd (many e);
        none = λ e. absurd (omega arith);
        on_data = λ w. (λ i. executes data_machine s end (end - (k + 1)) (at + d.used) (y i) (k + 1) (q i))
            ∙ turn data_machine s end at k (state_of a) o _ lo le d f.same f.goes x (g.on_data (l ∙ w)) (h.on_data w);
        on_chip = λ w p. let ls = lines_in b.words in
            (λ i. executes chip_machine s end (end - (k + 1)) (at + d.used) (chip (y i) ls p) (k + 1) (q i))
            ∙ turn chip_machine s end at k (chip_of a p) o _ lo le d f.same f.goes (with_l1p NoWay ls p x)
            (g.on_chip (l ∙ w) p) (h.on_chip w p);
      }

  -- it stops before a command, which the one given command has no cause for
  pub kept-stops : {s : ℕ} {x : Answer} → at < end_of n t → s ≡ stop_of (source_of n c t at).ok (length o) k → 0 < s →
      length o ≡ length o₀ → Done n c t a₀ o₀ a o at k s (Ok x)
  unfolding stop_of
  kept-stops {s} {x} lo es some l =
      let le = h.counted in let source = source_of n c t in let end = end_of n t in
      let goes : n ≡ 1 → 10 ≤ length o₀ → ⊥ = λ e room.
      let z : at ≡ 0 = h.first e in let y : k ≡ 0 = omega arith in
      let none : s ≡ 0 = es ∙ rw (e, y, l, le-leb 10 (length o₀) room) refl in
      omega arith in
      record {
        one = λ e room. absurd (goes e room);
        whole = λ e room. absurd (goes e room);
        refused = λ e. tt;
        all = λ e w p. told-all n c t (chip_of a₀ p) o₀ _
            (stopped chip_machine source end at k (chip_of a p) o _ lo le s es some (h.on_chip w p)) e;
        up = λ e room w. told-up n c t (state_of a₀) o₀ _
            (stopped data_machine source end at k (state_of a) o _ lo le s es some (h.on_data w)) e room;
      }

  -- all commands were carried out, and not one alone
  pub kept-ends : {x : Answer} → end_of n t ≤ at → Done n c t a₀ o₀ a o at k 0 (Ok x)
  unfolding end_of
  kept-ends {x} all =
      let source = source_of n c t in let end = end_of n t in
      let goes : n ≡ 1 → ⊥ = λ e. let z : at ≡ 0 = h.first e in let one : 1 ≤ at = rw e at all in omega arith in
      record {
        one = λ e. absurd (goes e);
        whole = λ e. absurd (goes e);
        refused = λ e. absurd (goes e);
        all = λ e w p. told-all n c t (chip_of a₀ p) o₀ _
            (at-end chip_machine source end at k (chip_of a p) o _ (end - k) all (h.on_chip w p)) e;
        up = λ e room w. told-up n c t (state_of a₀) o₀ _
            (at-end data_machine source end at k (state_of a) o _ (end - k) all (h.on_data w)) e room;
      }
