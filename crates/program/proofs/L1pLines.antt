-- L1P's lines: where they may stand (`L1pTidy`), and that what drops lines leaves every other as it was (`Fewer`). Why:
-- each drop empties one set or none, and all that drop lines are such drops one after another.
use Prim.Native.Nat.{ℕ, zero, suc, ◌+◌, ◌*◌, ◌/◌, ◌%◌, ◌≤◌, ◌<◌}
use mathlib.Core.Bool.{Bool, true, false, cond, ◌||◌}
use mathlib.Core.Path.{◌≡◌, refl, sym, ap, ◌∙◌}
use mathlib.Core.Logic.{◌⊎◌, inl, inr, ⊎_elim}
use mathlib.Core.List.{List}
use native.Mathlib.Omega.{arith}
use lib.ListN.{length, length-set, length-replicate, get_or-replicate}
use lib.Seq.{get_or-set_same, get_or-set_other}
use lib.Dec.{eqb}
use borrow.Author.Tests.{eqb-true, eqb-false}
use Rattle.model.specs.Basics.{each}
use Rattle.model.specs.Memories.{external_base}
use Rattle.model.specs.Lines.{empty_line}
use Rattle.model.specs.Records.{State, l2_kind_by, l2_line_at, mode0}
use Rattle.model.specs.Ways.{in_l2}
use Rattle.model.specs.Commands.{lines_touched}
use Rattle.model.specs.Laws.{bool, cond-elim}
use Rattle.model.specs.declared.Line.{Line}
use Rattle.model.specs.declared.Command.{Command}
use Rattle.agreement.proofs.Invariant.{Layout}
use Rattle.program.specs.L1p.{l1p_set_of, l1p_at, in_l1p, fresh_l1p, empty_l1p, drop_l1p, drop_inside, drop_under_way, drop_under_all, drop_under_line, drop_under_block, invalidate_l1p_block}
use Rattle.program.specs.Chip.{lines_after}

-- ---- the line at b may stand in set s
pub record L1pPlaced (g : Layout) (s b : ℕ) : Type 0 where
  pub aligned : b % 32 ≡ 0
  pub own_set : s ≡ b / 32 % 512
  pub low : b < external_base → b + 32 ≤ g.sram
  pub high : external_base ≤ b → b + 32 ≤ external_base + g.ext
  pub mar_set : external_base ≤ b → g.mar b ≡ true

pub record LineFits (g : Layout) (s : ℕ) (x : Line) : Type 0 where
  pub clean : x.dirty ≡ false
  pub placed : x.valid ≡ true → L1pPlaced g s x.address
  pub empty : x.valid ≡ false → x.address ≡ 0

pub empty-fits : (g : Layout) (s : ℕ) → LineFits g s empty_line
empty-fits g s = record { clean = refl; placed = λ e. absurd (no e); empty = λ _. refl }
  where
    no : ◌≡◌ {A = Bool} false true → ⊥
    no e = let n : ◌≡◌ {A = ℕ} 0 1 = ap (λ (b : Bool). cond b 1 0) e in absurd (omega arith)

pub record L1pTidy (g : Layout) (ls : List Line) : Type 0 where
  pub long : length ls ≡ 512
  pub fits : (s : ℕ) → s < 512 → LineFits g s (l1p_at ls s)

-- ---- lines dropped: each set has what it had, or nothing
pub record Fewer (ls ls' : List Line) : Type 0 where
  pub long : length ls' ≡ length ls
  pub line : (s : ℕ) → s < length ls → (l1p_at ls' s ≡ l1p_at ls s) ⊎ (l1p_at ls' s ≡ empty_line)

pub fewer-refl : (ls : List Line) → Fewer ls ls
fewer-refl ls = record { long = refl; line = λ _ _. inl refl }

fewer-trans : {ls ks js : List Line} → Fewer ls ks → Fewer ks js → Fewer ls js
fewer-trans p q =
    let l = p.long in
    record {
      long = q.long ∙ l;
      line = λ s h. ⊎_elim (λ e. ⊎_elim (λ d. inl (e ∙ d)) (λ d. inr (e ∙ d)) (p.line s h)) (λ e. inr e) (q.line s (rw l h));
    }

fewer-empty : (ls : List Line) (s : ℕ) → Fewer ls (empty_l1p s ls)
fewer-empty ls s =
    record {
      long = simp length-set refl;
      line = λ k h. bool (eqb k s)
          (λ t. let e = eqb-true k s t in inr (ap (λ (j : ℕ). l1p_at (empty_l1p s ls) j) e ∙ get_or-set_same ls s empty_line empty_line (rw e at h)))
          (λ t. inl (get_or-set_other ls s k empty_line empty_line (eqb-false k s t)));
    }

fewer-drop : (a : ℕ) (ls : List Line) → Fewer ls (drop_l1p a ls)
unfolding drop_l1p
fewer-drop a ls = cond-elim (Fewer ls) (in_l1p ls a) (empty_l1p (l1p_set_of a) ls) ls (λ _. fewer-empty ls (l1p_set_of a)) (λ _. fewer-refl ls)

fewer-each : (f : ℕ → List Line → List Line) → ((k : ℕ) (ls : List Line) → Fewer ls (f k ls)) → (n : ℕ) (ls : List Line) → Fewer ls (each f n ls)
unfolding each
fewer-each f h zero ls = fewer-refl ls
fewer-each f h (suc n) ls = fewer-trans (fewer-each f h n ls) (h n (each f n ls))

fewer-inside : (b : ℕ) (ls : List Line) → Fewer ls (drop_inside b ls)
unfolding drop_inside
fewer-inside b ls = fewer-each (λ k. drop_l1p (b + k * 32)) (λ k. fewer-drop (b + k * 32)) 4 ls

pub fewer-all : (z : State) (ls : List Line) → Fewer ls (drop_under_all z ls)
unfolding drop_under_all drop_under_way
fewer-all z ls =
    let k = l2_kind_by z.rec in
    fewer-each (λ i. drop_under_way z (i / k.ways) (i % k.ways)) (λ i js.
    let l = l2_line_at z.rec (i / k.ways) (i % k.ways) in
    cond-elim (Fewer js) l.valid (drop_inside l.address js) js (λ _. fewer-inside l.address js) (λ _. fewer-refl js)) (k.sets * k.ways) ls

pub fewer-block : (z : State) (b c : ℕ) (ls : List Line) → Fewer ls (drop_under_block z b c ls)
unfolding drop_under_block drop_under_line
fewer-block z b c ls =
    cond-elim (Fewer ls) (mode0 z.rec) ls _ (λ _. fewer-refl ls)
    (λ _. fewer-each (λ k. drop_under_line z ((b / 128 + k) * 128)) (λ k js. let a = (b / 128 + k) * 128 in
    cond-elim (Fewer js) (in_l2 z a) (drop_inside a js) js (λ _. fewer-inside a js) (λ _. fewer-refl js)) (lines_touched 128 b c) ls)

fewer-fresh : (ls : List Line) → length ls ≡ 512 → Fewer ls fresh_l1p
fewer-fresh ls l =
    record { long = length-replicate {A = Line} 512 empty_line ∙ sym l; line = λ s h. inr (get_or-replicate 512 s empty_line empty_line (rw l at h)) }

-- L1P's own invalidations, and what a command does
pub fewer-own-block : (b c : ℕ) (ls : List Line) → Fewer ls (invalidate_l1p_block b c ls)
unfolding invalidate_l1p_block
fewer-own-block b c ls = fewer-each (λ k. drop_l1p ((b / 32 + k) * 32)) (λ k. fewer-drop ((b / 32 + k) * 32)) (lines_touched 32 b c) ls

pub fewer-own-all : (ls : List Line) → length ls ≡ 512 → Fewer ls fresh_l1p
fewer-own-all ls l = fewer-fresh ls l

pub fewer-command : (c : Command) (z : State) (ls : List Line) → length ls ≡ 512 → Fewer ls (lines_after c z ls)
unfolding lines_after
fewer-command c z ls l =
    cond-elim (Fewer ls) (eqb c.code 3) (drop_under_all z ls) _ (λ _. fewer-all z ls)
    (λ _. cond-elim (Fewer ls) (eqb c.code 5 || eqb c.code 6) (drop_under_block z c.first c.second ls) _ (λ _. fewer-block z c.first c.second ls)
    (λ _. cond-elim (Fewer ls) (eqb c.code 10) fresh_l1p ls (λ _. fewer-fresh ls l) (λ _. fewer-refl ls)))

-- ---- fewer lines fit as well
pub tidy-fewer : {g : Layout} {ls ls' : List Line} → L1pTidy g ls → Fewer ls ls' → L1pTidy g ls'
tidy-fewer {g} {ls} {ls'} t f =
    let l = t.long in
    record {
      long = f.long ∙ l;
      fits = λ s h. ⊎_elim (λ e. rw e (t.fits s h)) (λ e. rw e (empty-fits g s)) (f.line s (rw l h));
    }

pub tidy-fresh : (g : Layout) → L1pTidy g fresh_l1p
tidy-fresh g =
    record {
      long = length-replicate {A = Line} 512 empty_line;
      fits = λ s h. let e = get_or-replicate 512 s empty_line empty_line h in rw e (empty-fits g s);
    }
