-- Demand 3 for lists of calls of the chip, runs and frames (`chip-items-demand3`). Why: such a list is the list of the
-- calls that its items are made of (`expanded`), to which demand 3 for the chip applies (`chip-demand3`); what it says
-- of them is cut again at the items. A frame's own two commands stand right in front of its transfer, so that it joins.
use Prim.Native.Nat.{ℕ, zero, suc}
use mathlib.Core.Bool.{true, cond, ◌&&◌}
use mathlib.Core.Path.{◌≡◌, refl, sym, ap, ◌∙◌, subst}
use mathlib.Core.List.{List, [], ◌∷◌, ◌++◌}
use lib.ListN.{length, replicate}
use lib.Dec.{eqb}
use borrow.Author.Tests.{eqb-true}
use Rattle.model.specs.Flat.{Flat, fresh_flat}
use Rattle.model.specs.Trace.{command}
use Rattle.model.specs.Commands.{l1d_writeback_invalidate_block, l2_writeback_invalidate_block}
use Rattle.model.specs.Calls.{Reply, carried_out, fresh_call, one_command, transfer_in, commands}
use Rattle.model.specs.Bytewise.{byte_read}
use Rattle.model.specs.Laws.{bool, both_true, cond-elim}
use Rattle.model.specs.declared.Left.TheVariants.{NoWay}
use Rattle.model.specs.declared.Command.{Command}
use Rattle.agreement.specs.Demand.{listed_code, listed}
use Rattle.agreement.specs.Traces.{Piece, piece_commands, all_commands}
use Rattle.agreement.specs.Frames.{frame_length, frame_place}
use Rattle.agreement.specs.FrameSums.{reads_from, frame_calls}
use Rattle.agreement.proofs.TraceAgreement.{listed-append}
use Rattle.agreement.proofs.Frames.{frame-tells, frame-accepted, command-5, command-7}
use Rattle.agreement.proofs.FrameLists.{transfer-joins}
use Rattle.program.specs.L1p.{fresh_l1p, l1p_length, drop_under_block}
use Rattle.program.specs.Fetches.{Chip, chip, ChipReply, with_l1p, beside_l1p}
use Rattle.program.specs.Chip.{ChipCall, on_data, chip_called}
use Rattle.program.specs.Lists.{flat_chip, as_calls, chip_joins, chip_joined, listed_chip, chip_listed, chip_remembered, ChipAgree}
use Rattle.program.specs.Lists as L
use Rattle.program.specs.Runs.{ChipFramed, chip_frame_call, chip_after, on_data_all}
use Rattle.program.specs.Traces.{chip_commands, command_called, piece_calls, flat_chip_after, chip_remembered_all}
use Rattle.program.specs.Frames.{chip_frame_calls}
use Rattle.program.specs.Items.{ChipItem, single, trace_run, frame, chip_item_calls, chip_item_next, listed_chip_item, chip_items_listed, chip_item_joins, chip_items_joined, ChipItemsAgree, end, at_call, at_run, at_frame, ChipItemsDemand3, piece_items, ChipTraceDemand3}
use Rattle.program.proofs.ChipStays.{ChipWell, chip-stays}
use Rattle.program.proofs.ChipLists.{chip-demand3}
use Rattle.program.proofs.Stays.{after-well-chip, fresh-well-chip}
use Rattle.program.proofs.Traces.{agree-front, agree-behind, run-calls, run-agrees}
use Rattle.program.proofs.Frames.{quiet-7, first-called, frame-form, called-after, well-frame-at}

-- ---- lists one behind the other
joined-append : (cs ds h : List ChipCall) (x : Chip) →
    chip_joined h (cs ++ ds) x ≡ (chip_joined h cs x && chip_joined (chip_remembered_all cs x h) ds (chip_after cs x))
unfolding chip_joined chip_remembered_all chip_after
joined-append [] ds h x = refl
joined-append (c ∷ cs) ds h x =
    bool (chip_joins h c x) (λ t. rw t (joined-append cs ds (chip_remembered c x h) (chip_called c x).next)) (λ t. rw t refl)

chip-listed-append : (cs ds : List ChipCall) → chip_listed cs ≡ true → chip_listed ds ≡ true → chip_listed (cs ++ ds) ≡ true
unfolding chip_listed
chip-listed-append [] ds a b = b
chip-listed-append (c ∷ cs) ds a b =
    let p = both_true (listed_chip c) (chip_listed cs) a in rw (p.0, chip-listed-append cs ds p.1 b) refl

-- ---- commands may be listed as before, and join anywhere
commands-listed : (cs : List Command) → listed (commands cs) ≡ true → chip_listed (chip_commands cs) ≡ true
unfolding listed chip_listed
commands-listed [] y = refl
commands-listed (c ∷ cs) y = let p = both_true (listed_code c.code) (listed (commands cs)) y in rw (p.0, commands-listed cs p.1) refl

commands-joined : (cs : List Command) (h : List ChipCall) (x : Chip) → chip_joined h (chip_commands cs) x ≡ true
unfolding chip_joined
commands-joined [] h x = refl
commands-joined (c ∷ cs) h x = commands-joined cs (chip_remembered (on_data (one_command c)) x h) (command_called c x).next

-- ---- a frame's calls likewise
reads-listed : (p i n : ℕ) → chip_listed (on_data_all (reads_from p i n)) ≡ true
unfolding reads_from chip_listed
reads-listed p i zero = refl
reads-listed p i (suc n) = reads-listed p (suc i) n

reads-joined : (p i n : ℕ) (h : List ChipCall) (x : Chip) → chip_joined h (on_data_all (reads_from p i n)) x ≡ true
unfolding reads_from chip_joined
reads-joined p i zero h x = refl
reads-joined p i (suc n) h x = reads-joined p (suc i) n (chip_remembered (on_data (one_command (byte_read p i))) x h) (command_called (byte_read p i) x).next

frame-listed : (t : ℕ) (px : List ℕ) → chip_listed (on_data_all (frame_calls t px)) ≡ true
unfolding chip_listed frame_calls
frame-listed t px = reads-listed (frame_place t) 0 frame_length

-- one call in front, whose reply is known
joined-cons : (c : ChipCall) (cs h : List ChipCall) (x : Chip) (r : ChipReply) → chip_called c x ≡ r → chip_joins h c x ≡ true →
    chip_joined (cond (eqb r.number 0) (c ∷ h) h) cs r.next ≡ true → chip_joined h (c ∷ cs) x ≡ true
unfolding chip_joined
joined-cons c cs h x r e j k =
    rw j (subst (λ (y : ChipReply). chip_joined (cond (eqb y.number 0) (c ∷ h) h) cs y.next ≡ true) (sym e) k)

module _ (t : ℕ) (px : List ℕ) (h : List ChipCall) (x : Chip) (w : ChipWell x) (long : length px ≡ 3072) where
  frame-joined : chip_joined h (on_data_all (frame_calls t px)) x ≡ true
  unfolding frame_calls as_calls
  frame-joined =
      let p = frame_place t in let reads = on_data_all (reads_from p 0 frame_length) in let z = x.data_side in
      let a : ChipCall = on_data (one_command (command 5 p 768 0)) in let b : ChipCall = on_data (one_command (command 7 p 768 0)) in
      let c : ChipCall = on_data (transfer_in p px) in let ls = drop_under_block z p 768 x.lines in
      let x₁ = chip (l2_writeback_invalidate_block p 768 z) ls x.bytes in
      let e₁ : chip_called a x ≡ with_l1p NoWay ls x.bytes (carried_out x₁.data_side) =
      first-called t px x w ∙ ap (with_l1p NoWay ls x.bytes) (command-5 t z w.data_side) in
      let w₁ : ChipWell x₁ = subst (λ (r : ChipReply). ChipWell r.next) e₁ (chip-stays a x w) in
      let x₂ = chip (l1d_writeback_invalidate_block p 768 x₁.data_side) ls x.bytes in
      let e₂ : chip_called b x₁ ≡ beside_l1p (carried_out x₂.data_side) x₁ =
      quiet-7 p 768 x₁ w₁ ∙ ap (λ (r : Reply). beside_l1p r x₁) (command-7 t x₁.data_side w₁.data_side) in
      joined-cons a (b ∷ c ∷ reads) h x (with_l1p NoWay ls x.bytes (carried_out x₁.data_side)) e₁ refl
      (joined-cons b (c ∷ reads) (a ∷ h) x₁ (beside_l1p (carried_out x₂.data_side) x₁) e₂ refl
      (joined-cons c reads (b ∷ a ∷ h) x₂ (chip_called c x₂) refl
      (transfer-joins t (as_calls h) (length px) (eqb (chip_called c x₂).number 0) long)
      (reads-joined p 0 frame_length _ _)))

-- ---- an item on a well-formed chip: the chip after it is that after its calls, which may be listed, and join
item-next : (i : ChipItem) (x : Chip) → ChipWell x → chip_item_next i x ≡ chip_after (chip_item_calls i x) x
unfolding chip_after
item-next (single c) x w = refl
item-next (trace_run p) x w = (run-calls p.trace p.answers x w).next
item-next (frame t px) x w = called-after t px x w

pub item-well : (i : ChipItem) (x : Chip) → ChipWell x → ChipWell (chip_item_next i x)
item-well i x w = subst ChipWell (sym (item-next i x w)) (after-well-chip (chip_item_calls i x) x w)

item-listed : (i : ChipItem) (x : Chip) → listed_chip_item i ≡ true → chip_listed (chip_item_calls i x) ≡ true
unfolding chip_listed
item-listed (single c) x y = rw y refl
item-listed (trace_run p) x y = commands-listed (piece_commands p) y
item-listed (frame t px) x y =
    cond-elim (λ (cs : List ChipCall). chip_listed cs ≡ true) (eqb (chip_frame_call t px x).number 0) (on_data_all (frame_calls t px)) [] (λ _. frame-listed t px) (λ _. refl)

frame-long : (t : ℕ) (px : List ℕ) (x : Chip) → ChipWell x → (chip_frame_call t px x).number ≡ 0 → length px ≡ 3072
frame-long t px x w n =
    let z = x.data_side in
    (frame-tells z.rec.extlen (length px) (frame-accepted t px z w.data_side (sym (ap (λ (r : ChipFramed). r.number) (frame-form t px x w)) ∙ n))).1

item-joined : (i : ChipItem) (h : List ChipCall) (x : Chip) → ChipWell x → chip_item_joins h i x ≡ true → chip_joined h (chip_item_calls i x) x ≡ true
unfolding chip_joined
item-joined (single c) h x w y = rw y refl
item-joined (trace_run p) h x w y = commands-joined (piece_commands p) h x
item-joined (frame t px) h x w y =
    let n = (chip_frame_call t px x).number in
    cond-elim (λ (cs : List ChipCall). chip_joined h cs x ≡ true) (eqb n 0) (on_data_all (frame_calls t px)) []
    (λ u. frame-joined t px h x w (frame-long t px x w (eqb-true n 0 u))) (λ _. refl)

-- ---- the list of all their calls
unfoldable expanded : List ChipItem → Chip → List ChipCall
expanded [] x = []
expanded (i ∷ is) x = chip_item_calls i x ++ expanded is (chip_item_next i x)

items-listed : (is : List ChipItem) (x : Chip) → chip_items_listed is ≡ true → chip_listed (expanded is x) ≡ true
unfolding expanded chip_items_listed chip_listed
items-listed [] x y = refl
items-listed (i ∷ is) x y =
    let p = both_true (listed_chip_item i) (chip_items_listed is) y in
    chip-listed-append (chip_item_calls i x) (expanded is (chip_item_next i x)) (item-listed i x p.0) (items-listed is (chip_item_next i x) p.1)

items-joined : (is : List ChipItem) (h : List ChipCall) (x : Chip) → ChipWell x → chip_items_joined h is x ≡ true → chip_joined h (expanded is x) x ≡ true
unfolding expanded chip_items_joined chip_joined
items-joined [] h x w y = refl
items-joined (i ∷ is) h x w y =
    let cs = chip_item_calls i x in let x' = chip_item_next i x in let k = chip_remembered_all cs x h in
    let b = both_true (chip_item_joins h i x) (chip_items_joined k is x') y in
    let rest : chip_joined k (expanded is x') (chip_after cs x) ≡ true =
    subst (λ (v : Chip). chip_joined k (expanded is x') v ≡ true) (item-next i x w) (items-joined is k x' (item-well i x w) b.1) in
    joined-append cs (expanded is x') h x ∙ rw (item-joined i h x w b.0, rest) refl

-- ---- what is said of these calls, cut at the items
items-agree : (is : List ChipItem) (h : List ChipCall) (x : Chip) (f : Flat) → ChipWell x → ChipAgree h (expanded is x) x f → ChipItemsAgree h is x f
unfolding expanded
items-agree [] h x f w a = end
items-agree (single c ∷ is) h x f w (L.next a b) =
    at_call a (items-agree is (chip_remembered c x h) (chip_called c x).next (flat_chip c f).next (chip-stays c x w) b)
items-agree (trace_run p ∷ is) h x f w a =
    let i = trace_run p in let cs = piece_calls p in let x' = chip_item_next i x in let ds = expanded is x' in
    at_run (run-agrees h p x f w (agree-front cs ds h x f a))
    (items-agree is (chip_remembered_all cs x h) x' (flat_chip_after cs f) (item-well i x w)
    (subst (λ (y : Chip). ChipAgree (chip_remembered_all cs x h) ds y (flat_chip_after cs f)) (sym (item-next i x w)) (agree-behind cs ds h x f a)))
items-agree (frame t px ∷ is) h x f w a =
    let i = frame t px in let cs = chip_frame_calls t px x in let x' = chip_item_next i x in let ds = expanded is x' in
    at_frame (record { sums = (well-frame-at t px x w).sums; places = agree-front cs ds h x f a })
    (items-agree is (chip_remembered_all cs x h) x' (flat_chip_after cs f) (item-well i x w)
    (subst (λ (y : Chip). ChipAgree (chip_remembered_all cs x h) ds y (flat_chip_after cs f)) (sym (item-next i x w)) (agree-behind cs ds h x f a)))

pub chip-items-demand3 : ChipItemsDemand3
chip-items-demand3 d m e h is y j =
    let x = chip (fresh_call d m e).next fresh_l1p (replicate l1p_length 0) in let w = fresh-well-chip d m e h in
    items-agree is [] x (fresh_flat (length m) e) w
    (chip-demand3 d m e h (expanded is x) (items-listed is x y) (items-joined is [] x w j))

-- ---- runs alone
pieces-listed : (ps : List Piece) → listed (commands (all_commands ps)) ≡ true → chip_items_listed (piece_items ps) ≡ true
unfolding all_commands chip_items_listed
pieces-listed [] y = refl
pieces-listed (p ∷ ps) y = let q = listed-append (piece_commands p) (all_commands ps) y in rw (q.0, pieces-listed ps q.1) refl

pieces-joined : (ps : List Piece) (h : List ChipCall) (x : Chip) → chip_items_joined h (piece_items ps) x ≡ true
unfolding chip_items_joined
pieces-joined [] h x = refl
pieces-joined (p ∷ ps) h x = pieces-joined ps (chip_remembered_all (piece_calls p) x h) (chip_item_next (trace_run p) x)

pub chip-trace-demand3 : ChipTraceDemand3
chip-trace-demand3 d m e h ps y =
    let x = chip (fresh_call d m e).next fresh_l1p (replicate l1p_length 0) in
    chip-items-demand3 d m e h (piece_items ps) (pieces-listed ps y) (pieces-joined ps [] x)
