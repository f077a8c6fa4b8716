-- Demand 3 for lists of calls from C that hold runs and frames (specs/FramesFromC). Such a list is the list of items of
-- the definitions, on the chips that C's words and bytes stand for: what crate program shows of that list carries over,
-- at a single call as in Along, behind a run or a frame where it has come to.
use mathlib.Core.Bool.{true}
use mathlib.Core.Path.{◌≡◌, sym, ap, ◌∙◌, subst}
use mathlib.Core.List.{List, [], ◌∷◌}
use lib.ListN.{length}
use Rattle.model.specs.Flat.{Flat, fresh_flat}
use Rattle.agreement.specs.Demand.{Settled}
use Rattle.agreement.specs.Traces.{AnswersAgree, piece_commands}
use Rattle.program.specs.Fetches.{Chip}
use Rattle.program.specs.Chip.{ChipCall, chip_called}
use Rattle.program.specs.Lists.{flat_chip}
use Rattle.program.specs.Traces.{piece_calls, flat_chip_after, chip_remembered_all}
use Rattle.program.specs.Frames.{chip_frame_calls}
use Rattle.program.specs.Items.{ChipItem, single, trace_run, frame, chip_items_joined, ChipItemsAgree, at_call, at_run, at_frame}
use Rattle.program.proofs.Items.{chip-items-demand3}
use Rattle.c_calls.specs.FromC.{Held, chip_of, accepted_by}
use Rattle.c_calls.specs.FramesFromC.{RunAnswered, FrameAnswered, ItemChain, done, made, ran, added, ItemsAgreeFromC, whole, also, answers, sums, ItemsDemand3FromC}
use Rattle.c_calls.proofs.Along.{same_at, accepted-same, started}

along : (is : List ChipItem) (g : List ChipCall) (h : Held) (r : ItemChain is h) (f : Flat) → ChipItemsAgree g is (chip_of h) f → ItemsAgreeFromC g is h r f
along [] g h done f a = whole
along (single c ∷ is) g h (made x k p r) f (at_call a b) =
    let f' = (flat_chip c f).next in let y = (chip_called c (chip_of h)).next in
    let b₁ : ChipItemsAgree (accepted_by c x g) is y f' = subst (λ (l : List ChipCall). ChipItemsAgree l is y f') (accepted-same c h x k g p) b in
    also (same_at g c h x k f p a)
    (along is (accepted_by c x g) k r f' (subst (λ (v : Chip). ChipItemsAgree (accepted_by c x g) is v f') (sym p.next) b₁))
along (trace_run p ∷ is) g h (ran x k y r) f (at_run a b) =
    let cs = piece_calls p in let g' = chip_remembered_all cs (chip_of h) g in let f' = flat_chip_after cs f in
    answers (record {
      answers = subst (λ (v : RunAnswered). AnswersAgree v.answers 0 (piece_commands p) f) (sym y.answer) a.answers;
      ended = λ ds c i t. subst (λ (v : Chip). Settled v.data_side f') (sym y.next) (a.ended ds c i t);
    })
    (along is g' k r f' (subst (λ (v : Chip). ChipItemsAgree g' is v f') (sym y.next) b))
along (frame t px ∷ is) g h (added x k y r) f (at_frame a b) =
    let cs = chip_frame_calls t px (chip_of h) in let g' = chip_remembered_all cs (chip_of h) g in let f' = flat_chip_after cs f in
    sums (λ n. ap (λ (v : FrameAnswered). v.sums) y.answer ∙ a.sums (sym (ap (λ (v : FrameAnswered). v.number) y.answer) ∙ n))
    (along is g' k r f' (subst (λ (v : Chip). ChipItemsAgree g' is v f') (sym y.next) b))

pub items-demand3-from-c : ItemsDemand3FromC
items-demand3-from-c u x h q z is l j r =
    let s = started u x h q z in let f = fresh_flat (length u.l2) u.ext in
    along is [] h r f
    (subst (λ (y : Chip). ChipItemsAgree [] is y f) (sym s.1)
    (chip-items-demand3 u.l1d u.l2 u.ext s.0 is l (subst (λ (y : Chip). chip_items_joined [] is y ≡ true) s.1 j)))
