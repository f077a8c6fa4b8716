-- Demand 3 for lists of calls from C (specs/FromC). A call from C is the call of the definitions on the chip that C's
-- words and bytes stand for; so the list of calls from C is the list of calls of the definitions, and what crate
-- program shows of that list carries over place by place.
use Prim.Native.Nat.{ℕ}
use mathlib.Core.Bool.{true, cond}
use mathlib.Core.Path.{◌≡◌, sym, ap, ◌∙◌, subst}
use mathlib.Core.List.{List, [], ◌∷◌}
use lib.ListN.{length, get_or, replicate}
use lib.Dec.{eqb}
use Rattle.model.specs.Flat.{Flat, fresh_flat, flat_called}
use Rattle.model.specs.Calls.{fresh_call, fresh_start}
use Rattle.agreement.specs.Demand.{Settled}
use Rattle.program.specs.L1p.{fresh_l1p, l1p_length}
use Rattle.program.specs.Fetches.{Chip, chip, ChipReply}
use Rattle.program.specs.Chip.{ChipCall, on_data, fetch, l1p_block, l1p_all, chip_called}
use Rattle.program.specs.Lists.{flat_chip, chip_joined, chip_remembered, ChipAgreesAt, ChipAgree, next}
use Rattle.program.proofs.ChipLists.{chip-demand3}
use Rattle.program.proofs.Stays.{fresh-started}
use Rattle.c_calls.specs.FromC.{Held, chip_of, Answered, Gives, Chain, done, made, FromC, accepted_by, SameAt, AgreeFromC, whole, also, Demand3FromC}

pub number_of : {r : ChipReply} {x : Answered} {k : Held} → Gives r x k → x.number ≡ r.number
number_of g = ap (λ (y : Answered). y.number) g.answer

pub same_at : (g : List ChipCall) (c : ChipCall) (h : Held) (x : Answered) (k : Held) (f : Flat) → FromC c h x k → ChipAgreesAt g c (chip_of h) f → SameAt g c x k f
same_at g (on_data c) h x k f p a =
    record {
      number = λ t. number_of p ∙ a.number t;
      value = λ t. ap (λ (y : Answered). y.value) p.answer ∙ a.value t;
      bytes = λ t. ap (λ (y : Answered). y.bytes) p.answer ∙ a.bytes t;
      settled = λ t n. subst (λ (y : Chip). Settled y.data_side (flat_called c f).next) (sym p.next) (a.settled t (sym (number_of p) ∙ n));
    }
same_at g (fetch b) h x k f p a =
    record {
      number = number_of p ∙ a.number;
      long = ap (λ (y : Answered). length y.bytes) p.answer ∙ a.long;
      byte = λ n i l u. ap (λ (y : Answered). get_or y.bytes i 0) p.answer ∙ a.byte (sym (number_of p) ∙ n) i l u;
    }
same_at g (l1p_block b c) h x k f p a = tt
same_at g l1p_all h x k f p a = tt

-- C's answers tell which calls were accepted
pub accepted-same : (c : ChipCall) (h : Held) (x : Answered) (k : Held) (g : List ChipCall) → FromC c h x k → chip_remembered c (chip_of h) g ≡ accepted_by c x g
accepted-same c h x k g p = ap (λ (n : ℕ). cond (eqb n 0) (c ∷ g) g) (sym (number_of p))

along : (cs g : List ChipCall) (h : Held) (r : Chain cs h) (f : Flat) → ChipAgree g cs (chip_of h) f → AgreeFromC g cs h r f
along [] g h done f a = whole
along (c ∷ cs) g h (made x k p r) f (next a b) =
    let f' = (flat_chip c f).next in let y = (chip_called c (chip_of h)).next in
    let b₁ : ChipAgree (accepted_by c x g) cs y f' = subst (λ (l : List ChipCall). ChipAgree l cs y f') (accepted-same c h x k g p) b in
    also (same_at g c h x k f p a)
    (along cs (accepted_by c x g) k r f' (subst (λ (v : Chip). ChipAgree (accepted_by c x g) cs v f') (sym p.next) b₁))

-- ---- what an accepted fresh start from C leaves
abbrev pub fresh_chip : Held → Chip
fresh_chip u = chip (fresh_call u.l1d u.l2 u.ext).next fresh_l1p (replicate l1p_length 0)

pub started : (u : Held) (x : Answered) (h : Held) → FromC (on_data fresh_start) u x h → x.number ≡ 0 →
    ((fresh_call u.l1d u.l2 u.ext).number ≡ 0) × (chip_of h ≡ fresh_chip u)
started u x h q z = let s = fresh-started (chip_of u) (sym (number_of q) ∙ z) in (s.0, q.next ∙ s.1)

pub demand3-from-c : Demand3FromC
demand3-from-c u x h q z cs l j r =
    let s = started u x h q z in let f = fresh_flat (length u.l2) u.ext in
    along cs [] h r f
    (subst (λ (y : Chip). ChipAgree [] cs y f) (sym s.1)
    (chip-demand3 u.l1d u.l2 u.ext s.0 cs l (subst (λ (y : Chip). chip_joined [] cs y ≡ true) s.1 j)))
