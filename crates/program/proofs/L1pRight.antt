-- The bytes of L1P's lines are flat memory's wherever nothing was written since (`L1pRight`), and stay so: when lines
-- are dropped (`right-fewer`), when something else is written (`right-later`, `flat-kept`), and when a line comes whose
-- bytes are so (`right-filled`). Why: L1P is written by a fetch alone, and flat memory by writes alone.
use Prim.Native.Nat.{ℕ, ◌+◌, ◌*◌, ◌-◌, ◌≤◌, ◌<◌}
use mathlib.Core.Bool.{Bool, true, false, cond}
use mathlib.Core.Path.{◌≡◌, refl, sym, ap, ◌∙◌, subst}
use mathlib.Core.Logic.{⊎_elim}
use mathlib.Core.List.{List}
use native.Mathlib.Omega.{arith}
use lib.ListN.{length, get_or, set, get_or-replicate}
use lib.Seq.{get_or-set_same, get_or-set_other}
use lib.Dec.{eqb}
use borrow.Author.Tests.{eqb-true, eqb-false, le-leb, ltb-false}
use Rattle.model.specs.Bytes.{stored, little_bytes}
use Rattle.model.specs.Lines.{line_of, empty_line}
use Rattle.model.specs.Flat.{Flat, FlatReply, flat_put, flat_due, flat_read, flat_write, flat_step, flat_unaligned_due, flat_read_unaligned, flat_write_unaligned, flat_transfer_due, flat_transfer_in, flat_transfer_out, flat_fetch_due, flat_fetch, flat_called}
use Rattle.model.specs.Calls.{Call, one_command, fresh_start, look, read_unaligned, write_unaligned, transfer_in, transfer_out, fetch_behind}
use Rattle.model.specs.Laws.{bool, cond-elim, false-true, length-little_bytes}
use Rattle.model.specs.declared.Line.{Line}
use Rattle.model.specs.Memories.{external_base}
use Rattle.agreement.proofs.Invariant.{Layout}
use Rattle.agreement.proofs.Due.{access-tells}
use Rattle.agreement.proofs.Unaligned.{due-fits}
use Rattle.agreement.proofs.Transfers.{transfer-tells}
use Rattle.agreement.proofs.Memory.{Fits, stored_at, stored-elsewhere, memory-out}
use Rattle.agreement.proofs.Agreement.{flat_byte, flat_put-state}
use Rattle.program.specs.L1p.{l1p_set_of, l1p_data, l1p_at, fresh_l1p}
use Rattle.program.specs.Chip.{on_data}
use Rattle.program.specs.Lists.{within, written_by, is_mode_change}
use Rattle.program.proofs.L1pLines.{Fewer}

abbrev pub LineRight : (ℕ → Bool) → Flat → List ℕ → ℕ → Line → Type 0
LineRight w f bs s x = x.valid ≡ true → (i : ℕ) → i < 32 → w (x.address + i) ≡ false → get_or bs (s * 32 + i) 0 ≡ flat_byte f (x.address + i)

abbrev pub L1pRight : (ℕ → Bool) → Flat → List Line → List ℕ → Type 0
L1pRight w f ls bs = (s : ℕ) → s < 512 → LineRight w f bs s (l1p_at ls s)

empty_right : (w : ℕ → Bool) (f : Flat) (bs : List ℕ) (s : ℕ) → LineRight w f bs s empty_line
empty_right w f bs s v = false-true v

pub right-none : (w : ℕ → Bool) (f : Flat) (bs : List ℕ) → L1pRight w f fresh_l1p bs
right-none w f bs s h = subst (LineRight w f bs s) (sym (get_or-replicate 512 s empty_line empty_line h)) (empty_right w f bs s)

pub right-fewer : (w : ℕ → Bool) (f : Flat) (ls ls' : List Line) (bs : List ℕ) → L1pRight w f ls bs → length ls ≡ 512 → Fewer ls ls' → L1pRight w f ls' bs
right-fewer w f ls ls' bs r l q s h =
    ⊎_elim (λ e. subst (LineRight w f bs s) (sym e) (r s h)) (λ e. subst (LineRight w f bs s) (sym e) (empty_right w f bs s)) (q.line s (rw l h))

pub right-later : (w w' : ℕ → Bool) (f f' : Flat) (ls : List Line) (bs : List ℕ) → L1pRight w f ls bs →
    ((a : ℕ) → w' a ≡ false → (w a ≡ false) × (flat_byte f' a ≡ flat_byte f a)) → L1pRight w' f' ls bs
right-later w w' f f' ls bs r g s h v i k n = let p = g ((l1p_at ls s).address + i) n in r s h v i k p.0 ∙ sym p.1

pub right-filled : (w : ℕ → Bool) (f : Flat) (ls : List Line) (bs : List ℕ) → L1pRight w f ls bs → length ls ≡ 512 → length bs ≡ 16384 →
    (a : ℕ) (cs : List ℕ) → length cs ≡ 32 → ((j : ℕ) → j < 32 → w (a + j) ≡ false → get_or cs j 0 ≡ flat_byte f (a + j)) →
    L1pRight w f (set ls (l1p_set_of a) (line_of a false)) (stored bs (l1p_data (l1p_set_of a)) cs)
right-filled w f ls bs r l m a cs n g s h =
    let t = l1p_set_of a in let p = l1p_data t in
    bool (eqb s t)
    (λ y. let e = eqb-true s t y in
    let here : l1p_at (set ls t (line_of a false)) s ≡ line_of a false = ap (λ (k : ℕ). l1p_at (set ls t (line_of a false)) k) e ∙ get_or-set_same ls t (line_of a false) empty_line (omega arith) in
    subst (LineRight w f (stored bs p cs) s) (sym here)
    (λ _ i k u. let j : s * 32 + i - p ≡ i = omega arith in stored_at bs cs p (omega arith) (s * 32 + i) (omega arith) (omega arith) ∙ rw j (g i k u)))
    (λ y. let e = eqb-false s t y in
    let there = get_or-set_other ls t s (line_of a false) empty_line e in
    subst (LineRight w f (stored bs p cs) s) (sym there)
    (λ v i k u. stored-elsewhere bs cs p (omega arith) (s * 32 + i) (λ from. omega arith) ∙ r s h v i k u))

-- ---- flat memory changes where it is written alone, but for a mode change
outside : (b n a : ℕ) → within b n a ≡ false → b ≤ a → b + n ≤ a
outside b n a e from = ltb-false a (b + n) (rw (le-leb b a from) at e)

abbrev Kept : ℕ → Flat → FlatReply → Type 0
Kept a f g = flat_byte g.next a ≡ flat_byte f a

-- one that is refused keeps all
unless-kept : (a : ℕ) (f : Flat) (d : ℕ) (x y : FlatReply) → (d ≡ 0 → Kept a f x) → Kept a f y → Kept a f (cond (eqb d 0) x y)
unless-kept a f d x y p q = cond-elim (Kept a f) (eqb d 0) x y (λ t. p (eqb-true d 0 t)) (λ _. q)

put-kept : (b : ℕ) (bs : List ℕ) (n : ℕ) → length bs ≡ n → (f : Flat) → Fits f.sram f.ext b n → (a : ℕ) → within b n a ≡ false → flat_byte (flat_put b bs f) a ≡ flat_byte f a
put-kept b bs n l f r a e =
    ap (λ (g : Flat). flat_byte g a) (flat_put-state b bs f)
    ∙ memory-out f.sram f.ext bs b (rw l r) a (λ from. let o = outside b n a e from in omega arith)

access-in : (f : Flat) (n b v : ℕ) → flat_due n b v f ≡ 0 → Fits f.sram f.ext b n
access-in f n b v d =
    let k = access-tells (length f.sram) (length f.ext) n b v d in let o = k.more in
    record { low = λ h. let g = k.low h in omega arith; high = λ h. let g = k.high h in omega arith }

unaligned-in : (f : Flat) → length f.sram + 8 ≤ external_base → (n b v : ℕ) → flat_unaligned_due n b v f ≡ 0 → Fits f.sram f.ext b n
unaligned-in f low n b v d =
    let g : Layout = record { sram = length f.sram; ext = length f.ext; sets = 0; mar = λ _. false } in
    let k = due-fits (length f.sram) (length f.ext) n b v g refl refl low d in
    record { low = k.low; high = k.high }

transfer-within : (f : Flat) (n b : ℕ) → flat_transfer_due n b f ≡ 0 → Fits f.sram f.ext b n
transfer-within f n b d = let k = transfer-tells (length f.sram) (length f.ext) n b d in record { low = k.low; high = k.high }

pub flat-kept : (c : Call) (f : Flat) → length f.sram + 8 ≤ external_base → (a : ℕ) → is_mode_change (on_data c) ≡ false → written_by (on_data c) a ≡ false →
    flat_byte (flat_called c f).next a ≡ flat_byte f a
unfolding flat_step flat_read flat_write flat_read_unaligned flat_write_unaligned flat_transfer_in flat_transfer_out flat_fetch
flat-kept (one_command c) f low a n e =
    cond-elim (Kept a f) (eqb c.code 0) (flat_read c.first c.second f) _ (λ _. unless-kept a f (flat_due c.first c.second 0 f) _ _ (λ _. refl) refl)
    (λ _. cond-elim (Kept a f) (eqb c.code 1) (flat_write c.first c.second c.value f) _
    (λ t. unless-kept a f (flat_due c.first c.second c.value f) _ _
    (λ d. put-kept c.second (little_bytes c.value c.first) c.first (length-little_bytes c.value c.first) f (access-in f c.first c.second c.value d) a (rw t at e)) refl)
    (λ _. rw n refl))
flat-kept fresh_start f low a n e = refl
flat-kept (look b) f low a n e = refl
flat-kept (read_unaligned k b) f low a n e = unless-kept a f (flat_unaligned_due k b 0 f) _ _ (λ _. refl) refl
flat-kept (write_unaligned k b v) f low a n e =
    unless-kept a f (flat_unaligned_due k b v f) _ _ (λ d. put-kept b (little_bytes v k) k (length-little_bytes v k) f (unaligned-in f low k b v d) a e) refl
flat-kept (transfer_in b bs) f low a n e =
    unless-kept a f (flat_transfer_due (length bs) b f) _ _ (λ d. put-kept b bs (length bs) refl f (transfer-within f (length bs) b d) a e) refl
flat-kept (transfer_out b o) f low a n e = unless-kept a f (flat_transfer_due (length o) b f) _ _ (λ _. refl) refl
flat-kept (fetch_behind b) f low a n e = unless-kept a f (flat_fetch_due b f) _ _ (λ _. refl) refl
