-- Once L1D is emptied, a sweep over L2 meets no half: to write its lines back is to write them out
-- (`bare-writebacks`), and to send them out and empty their ways is the same without a look at L1D (`bare-evicts`).
-- Why: behind the first step of a global command L1D holds nothing (`evicted-all`), and no step on a line of L2 brings
-- a line into L1D.
use Rattle.std.specs.Prelude.{ℕ, zero, suc, ◌*◌, ◌/◌, ◌%◌, false, ◌≡◌, refl}
use Rattle.std.proofs.Common.{sym, ap, ◌∙◌, arith}
use Rattle.model.specs.Basics.{each}
use Rattle.model.specs.Lines.{l1d_set_of, upper_half, holds}
use Rattle.model.specs.Records.{State, l2_sets_of, l2_line_at, with_l2_line}
use Rattle.model.specs.Ways.{way_holding, l1d_find, l1d_way, in_l1d, empty_l2}
use Rattle.model.specs.Homes.{take_half, take_halves, write_out_l2, writeback_l2, evict_l2}
use Rattle.model.specs.Commands.{each_l2}
use Rattle.model.proofs.Emptied.{Bare}
use Rattle.model.specs.Laws.{bool}

same-bare : (z z' : State) → z'.rec.l1d ≡ z.rec.l1d → Bare z → Bare z'
same-bare z z' e b s w hs hw = rw e (b s w hs hw)

-- ---- then it holds no half
no-half : (z : State) (b : ℕ) → Bare z → in_l1d z b ≡ false
unfolding in_l1d l1d_way l1d_find way_holding holds
no-half z b h =
    let n₀ = h (l1d_set_of b) 0 (omega arith) (omega arith) in
    let n₁ = h (l1d_set_of b) 1 (omega arith) (omega arith) in
    rw (n₀, n₁) refl

no-halves : (z : State) (t v b : ℕ) → Bare z → take_halves t v b z ≡ z
unfolding take_halves take_half
no-halves z t v b h =
    let one : (c : ℕ) → take_half t v c z ≡ z = λ c. let n = no-half z c h in rw n refl in
    ap (take_half t v (upper_half b)) (one b) ∙ one (upper_half b)

-- an invalid line is not written out; and none comes into L1D where one is, or where its way is emptied
out-invalid : (z : State) (t v : ℕ) → (l2_line_at z.rec t v).valid ≡ false → write_out_l2 t v z ≡ z
unfolding write_out_l2
out-invalid z t v e = rw e refl

out-lines : (z : State) (t v : ℕ) → (write_out_l2 t v z).rec.l1d ≡ z.rec.l1d
unfolding write_out_l2 with_l2_line
out-lines z t v =
    let x = l2_line_at z.rec t v in
    bool x.valid (λ e. bool x.dirty (λ d. rw (e, d) refl) (λ d. rw (e, d) refl)) (λ e. rw e refl)

empty-lines : (z : State) (t v : ℕ) → (empty_l2 t v z).rec.l1d ≡ z.rec.l1d
unfolding empty_l2 with_l2_line
empty-lines z t v = refl

-- ---- one line of L2
-- it goes out if dirty, and its way is emptied
unfoldable pub clear_l2 : ℕ → ℕ → State → State
clear_l2 t v z = empty_l2 t v (write_out_l2 t v z)

bare-writeback : (z : State) (t v : ℕ) → Bare z → writeback_l2 t v z ≡ write_out_l2 t v z
unfolding writeback_l2
bare-writeback z t v h =
    bool (l2_line_at z.rec t v).valid
    (λ e. rw e (ap (write_out_l2 t v) (no-halves z t v (l2_line_at z.rec t v).address h)))
    (λ e. rw e (sym (out-invalid z t v e)))

bare-evict : (z : State) (t v : ℕ) → Bare z → evict_l2 t v z ≡ clear_l2 t v z
unfolding evict_l2 clear_l2
bare-evict z t v h = ap (empty_l2 t v) (bare-writeback z t v h)

-- ---- all of them: two loops whose steps are the same wherever they come
each_same : (f g : ℕ → State → State) (P : State → Type 0) →
    ((k : ℕ) (x : State) → P x → f k x ≡ g k x) → ((k : ℕ) (x : State) → P x → P (g k x)) →
    (n : ℕ) (z : State) → P z → (each f n z ≡ each g n z) × P (each g n z)
unfolding each
each_same f g P same keep zero z p = (refl, p)
each_same f g P same keep (suc n) z p =
    let i = each_same f g P same keep n z p in
    (ap (f n) i.0 ∙ same n (each g n z) i.1, keep n (each g n z) i.1)

pub bare-writebacks : (z : State) → Bare z → each_l2 writeback_l2 z ≡ each_l2 write_out_l2 z
unfolding each_l2
bare-writebacks z h =
    (each_same (λ k. writeback_l2 (k / 4) (k % 4)) (λ k. write_out_l2 (k / 4) (k % 4)) Bare
    (λ k x b. bare-writeback x (k / 4) (k % 4) b)
    (λ k x b. same-bare x (write_out_l2 (k / 4) (k % 4) x) (out-lines x (k / 4) (k % 4)) b)
    (l2_sets_of z.rec * 4) z h
    ).0

pub bare-evicts : (z : State) → Bare z → each_l2 evict_l2 z ≡ each_l2 clear_l2 z
unfolding each_l2 clear_l2
bare-evicts z h =
    (each_same (λ k. evict_l2 (k / 4) (k % 4)) (λ k. clear_l2 (k / 4) (k % 4)) Bare
    (λ k x b. bare-evict x (k / 4) (k % 4) b)
    (λ k x b. let y = write_out_l2 (k / 4) (k % 4) x in
    same-bare x (empty_l2 (k / 4) (k % 4) y) (empty-lines y (k / 4) (k % 4) ∙ out-lines x (k / 4) (k % 4)) b)
    (l2_sets_of z.rec * 4) z h
    ).0
