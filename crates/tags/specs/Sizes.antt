-- No step of an access changes L or the mode: S and the number of L2 sets stay, so that whoever has them keeps them
-- through every step. Stated of the definitions of crate model alone; a contract that equates the state with a
-- definition gives it to the caller through these.
use Rattle.std.specs.Prelude.{ℕ, ◌≤◌, ◌<◌, ◌≡◌, refl, List, length, ltb, eqb}
use Rattle.std.proofs.Common.{sym, ap, ◌∙◌, arith}
use Rattle.std.proofs.lemmas.Bool.{eqb-false}
use Rattle.model.specs.Laws.{cond-elim}
use Rattle.model.specs.Bytes.{part, little_bytes}
use Rattle.model.specs.Memories.{external_base}
use Rattle.model.specs.Lines.{l1d_set_of, l1d_data, upper_half, l2_line}
use Rattle.model.specs.Records.{State, sram_of, l2_sets_of, l1d_set_at, l1d_line_at, l2_line_at, with_l1d_line, with_l2_line}
use Rattle.model.specs.Ways.{l1d_victim, l1d_way, in_l1d, in_l2, use_l1d, use_l2, empty_l1d, empty_l2}
use Rattle.model.specs.Homes.{home_is_l2, put_memory, put_l2, put_home, l2_way_for, take_half, take_halves, write_out_l2, writeback_l2, evict_l2, fill_l2, bring_l2, fetch_l2}
use Rattle.model.specs.Access.{Access, cacheable, writeback_l1d, evict_l1d, fill_l1d, put_l1d, write_home, use_hit, read_hit, read_filled, read_emptied, read_thawed, read_frozen, read_miss, read_access, write_hit, write_miss, write_access}
use Rattle.model.specs.Calls.{Reply, command_due, read_done, write_done, accepted, step}
use Rattle.model.specs.declared.Command.{Command}
use Rattle.model.specs.declared.Record.{Record}
use Rattle.tags.specs.Words.{record_words, record_in}

-- ---- what a step asks of the lent words: their number, and that S and the number of L2 sets are handed on with them
abbrev pub Lent : ℕ → ℕ → List ℕ → Type 0
Lent sram sets ws =
    (length ws ≡ record_words) × (((sram < 4294967296) × (sets ≤ 512)) × ((sram ≡ sram_of (record_in ws)) × (sets ≡ l2_sets_of (record_in ws))))

-- two states with the same S and the same number of L2 sets
abbrev pub Same : State → State → Type 0
Same y z = (sram_of y.rec ≡ sram_of z.rec) × (l2_sets_of y.rec ≡ l2_sets_of z.rec)

pub same-trans : (x y z : State) → Same x y → Same y z → Same x z
same-trans x y z a b = (a.0 ∙ b.0, a.1 ∙ b.1)

-- the words after a step that left the sizes
pub lent-next : (n k : ℕ) (ws vs : List ℕ) (y z : State) → Lent n k ws → length vs ≡ length ws → y ≡ z → record_in vs ≡ y.rec →
    (sram_of z.rec ≡ sram_of (record_in ws)) × (l2_sets_of z.rec ≡ l2_sets_of (record_in ws)) → Lent n k vs
lent-next n k ws vs y z h l q e s = (
  l ∙ h.0,
  (
    h.1.0,
    (
      h.1.1.0 ∙ sym (ap (λ (r : Record). sram_of r) e ∙ ap (λ (x : State). sram_of x.rec) q ∙ s.0),
      h.1.1.1 ∙ sym (ap (λ (r : Record). l2_sets_of r) e ∙ ap (λ (x : State). l2_sets_of x.rec) q ∙ s.1),
    ),
  ),
)

-- the same where only the record is told of
pub lent-record : (n k : ℕ) (ws vs : List ℕ) (r : Record) → Lent n k ws → length vs ≡ length ws →
    record_in vs ≡ r → (sram_of r ≡ sram_of (record_in ws)) × (l2_sets_of r ≡ l2_sets_of (record_in ws)) → Lent n k vs
lent-record n k ws vs r h l q s = (
  l ∙ h.0,
  (
    h.1.0,
    (
      h.1.1.0 ∙ sym (ap (λ (y : Record). sram_of y) q ∙ s.0),
      h.1.1.1 ∙ sym (ap (λ (y : Record). l2_sets_of y) q ∙ s.1),
    ),
  ),
)

-- ---- step by step
pub same-empty-l1d : (s w : ℕ) (z : State) → Same (empty_l1d s w z) z
unfolding empty_l1d with_l1d_line
same-empty-l1d s w z = (refl, refl)

pub same-empty-l2 : (t v : ℕ) (z : State) → Same (empty_l2 t v z) z
unfolding empty_l2 with_l2_line
same-empty-l2 t v z = (refl, refl)

pub same-use-l1d : (s w : ℕ) (z : State) → Same (use_l1d s w z) z
unfolding use_l1d
same-use-l1d s w z = (refl, refl)

pub same-use-hit : (s w : ℕ) (z : State) → Same (use_hit s w z) z
unfolding use_hit
same-use-hit s w z = cond-elim (λ (y : State). Same y z) z.rec.frozen _ _ (λ _. (refl, refl)) (λ _. same-use-l1d s w z)

pub same-use-l2 : (t v : ℕ) (z : State) → Same (use_l2 t v z) z
unfolding use_l2
same-use-l2 t v z = (refl, refl)

pub same-put-l2 : (t v a : ℕ) (bs : List ℕ) (z : State) → Same (put_l2 t v a bs z) z
unfolding put_l2 with_l2_line
same-put-l2 t v a bs z = (refl, refl)

pub same-put-l1d : (w a : ℕ) (bs : List ℕ) (z : State) → Same (put_l1d w a bs z) z
unfolding put_l1d with_l1d_line
same-put-l1d w a bs z = (refl, refl)

pub same-put-memory : (a : ℕ) (bs : List ℕ) (z : State) → Same (put_memory a bs z) z
unfolding put_memory
same-put-memory a bs z = cond-elim (λ (y : State). Same y z) (ltb a external_base) _ _ (λ _. (refl, refl)) (λ _. (refl, refl))

pub same-put-home : (a : ℕ) (bs : List ℕ) (z : State) → Same (put_home a bs z) z
unfolding put_home
same-put-home a bs z =
    cond-elim (λ (y : State). Same y z) (home_is_l2 z.rec a) _ _
    (λ _. cond-elim (λ (y : State). Same y z) (in_l2 z a) _ _ (λ _. same-put-l2 _ _ a bs z) (λ _. (refl, refl)))
    (λ _. same-put-memory a bs z)

pub same-writeback-l1d : (s w : ℕ) (z : State) → Same (writeback_l1d s w z) z
unfolding writeback_l1d
same-writeback-l1d s w z =
    cond-elim (λ (y : State). Same y z) (l1d_line_at z.rec s w).valid _ _
    (λ _. cond-elim (λ (y : State). Same y z) (l1d_line_at z.rec s w).dirty _ _ (λ _. same-put-home _ _ z) (λ _. (refl, refl)))
    (λ _. (refl, refl))

pub same-evict-l1d : (s w : ℕ) (z : State) → Same (evict_l1d s w z) z
unfolding evict_l1d
same-evict-l1d s w z = same-trans (evict_l1d s w z) (writeback_l1d s w z) z (same-empty-l1d s w (writeback_l1d s w z)) (same-writeback-l1d s w z)

pub same-take-half : (t v b : ℕ) (z : State) → Same (take_half t v b z) z
unfolding take_half
same-take-half t v b z =
    cond-elim (λ (y : State). Same y z) (in_l1d z b) _ _
    (λ _. cond-elim (λ (y : State). Same (empty_l1d (l1d_set_of b) (l1d_way z b) y) z) (l1d_line_at z.rec (l1d_set_of b) (l1d_way z b)).dirty _ _
    (λ _. same-trans (empty_l1d (l1d_set_of b) (l1d_way z b) (put_l2 t v b (part z.l1d (l1d_data (l1d_set_of b) (l1d_way z b)) 64) z))
    (put_l2 t v b (part z.l1d (l1d_data (l1d_set_of b) (l1d_way z b)) 64) z) z
    (same-empty-l1d (l1d_set_of b) (l1d_way z b) _) (same-put-l2 t v b _ z))
    (λ _. same-empty-l1d (l1d_set_of b) (l1d_way z b) z))
    (λ _. (refl, refl))

pub same-take-halves : (t v b : ℕ) (z : State) → Same (take_halves t v b z) z
unfolding take_halves
same-take-halves t v b z =
    same-trans (take_halves t v b z) (take_half t v b z) z (same-take-half t v (upper_half b) (take_half t v b z)) (same-take-half t v b z)

pub same-write-out-l2 : (t v : ℕ) (z : State) → Same (write_out_l2 t v z) z
unfolding write_out_l2 with_l2_line
same-write-out-l2 t v z =
    cond-elim (λ (y : State). Same y z) (l2_line_at z.rec t v).valid _ _
    (λ _. cond-elim (λ (y : State). Same y z) (l2_line_at z.rec t v).dirty _ _ (λ _. (refl, refl)) (λ _. (refl, refl)))
    (λ _. (refl, refl))

pub same-writeback-l2 : (t v : ℕ) (z : State) → Same (writeback_l2 t v z) z
unfolding writeback_l2
same-writeback-l2 t v z =
    cond-elim (λ (y : State). Same y z) (l2_line_at z.rec t v).valid _ _
    (λ _. same-trans (write_out_l2 t v (take_halves t v (l2_line_at z.rec t v).address z)) (take_halves t v (l2_line_at z.rec t v).address z) z
    (same-write-out-l2 t v _) (same-take-halves t v _ z))
    (λ _. (refl, refl))

pub same-evict-l2 : (t v : ℕ) (z : State) → Same (evict_l2 t v z) z
unfolding evict_l2
same-evict-l2 t v z = same-trans (evict_l2 t v z) (writeback_l2 t v z) z (same-empty-l2 t v (writeback_l2 t v z)) (same-writeback-l2 t v z)

pub same-fill-l2 : (t v b : ℕ) (z : State) → Same (fill_l2 t v b z) z
unfolding fill_l2 with_l2_line
same-fill-l2 t v b z = (refl, refl)

pub same-bring-l2 : (t v b : ℕ) (z : State) → Same (bring_l2 t v b z) z
same-bring-l2 t v b z =
    same-trans (bring_l2 t v b z) (fill_l2 t v b (evict_l2 t v z)) z (same-use-l2 t v (fill_l2 t v b (evict_l2 t v z)))
    (same-trans (fill_l2 t v b (evict_l2 t v z)) (evict_l2 t v z) z (same-fill-l2 t v b (evict_l2 t v z)) (same-evict-l2 t v z))

pub same-fetch-l2 : (a : ℕ) (z : State) → Same (fetch_l2 a z) z
unfolding fetch_l2
same-fetch-l2 a z =
    cond-elim (λ (y : State). Same y z) (home_is_l2 z.rec a) _ _
    (λ _. cond-elim (λ (y : State). Same y z) (in_l2 z a) _ _ (λ _. same-use-l2 _ _ z) (λ _. same-bring-l2 _ _ (l2_line a) z))
    (λ _. (refl, refl))

pub same-fill-l1d : (w v a : ℕ) (z : State) → Same (fill_l1d w v a z) z
unfolding fill_l1d with_l1d_line
same-fill-l1d w v a z = (refl, refl)

pub same-write-home : (v a : ℕ) (bs : List ℕ) (z : State) → Same (write_home v a bs z) z
unfolding write_home
same-write-home v a bs z =
    cond-elim (λ (y : State). Same y z) (home_is_l2 z.rec a) _ _ (λ _. same-put-l2 _ v a bs z) (λ _. same-put-memory a bs z)

-- ---- an access, whole
pub same-read-thawed : (n a : ℕ) (z : State) → Same (read_thawed n a z).next z
unfolding read_thawed read_emptied read_filled
same-read-thawed n a z =
    let s = l1d_set_of a in let w = l1d_victim (l1d_set_at z.rec s) in let y = evict_l1d s w z in let v = l2_way_for y a in let x = fetch_l2 a y in let u = fill_l1d w v a x in
    same-trans (use_l1d s w u) u z (same-use-l1d s w u)
    (same-trans u x z (same-fill-l1d w v a x) (same-trans x y z (same-fetch-l2 a y) (same-evict-l1d s w z)))

pub same-read-miss : (n a : ℕ) (z : State) → Same (read_miss n a z).next z
unfolding read_miss read_frozen
same-read-miss n a z =
    cond-elim (λ (x : Access). Same x.next z) z.rec.frozen _ _ (λ _. same-fetch-l2 a z) (λ _. same-read-thawed n a z)

pub same_read : (n a : ℕ) (z : State) → Same (read_access n a z).next z
unfolding read_access read_hit
same_read n a z =
    cond-elim (λ (x : Access). Same x.next z) (cacheable z.rec a) _ _
    (λ _. cond-elim (λ (x : Access). Same x.next z) (in_l1d z a) _ _ (λ _. same-use-hit (l1d_set_of a) (l1d_way z a) z) (λ _. same-read-miss n a z))
    (λ _. (refl, refl))

pub same_write : (a : ℕ) (bs : List ℕ) (z : State) → Same (write_access a bs z).next z
unfolding write_access write_hit write_miss
same_write a bs z =
    cond-elim (λ (x : Access). Same x.next z) (cacheable z.rec a) _ _
    (λ _. cond-elim (λ (x : Access). Same x.next z) (in_l1d z a) _ _
    (λ _. let y = put_l1d (l1d_way z a) a bs z in
    same-trans (use_hit (l1d_set_of a) (l1d_way z a) y) y z (same-use-hit (l1d_set_of a) (l1d_way z a) y) (same-put-l1d (l1d_way z a) a bs z))
    (λ _. same-trans (write_home (l2_way_for z a) a bs (fetch_l2 a z)) (fetch_l2 a z) z (same-write-home (l2_way_for z a) a bs (fetch_l2 a z)) (same-fetch-l2 a z)))
    (λ _. same-put-memory a bs z)

-- a read or a write, refused or not
pub same_step : (c : Command) (z : State) → c.code < 2 → Same (step c z).next z
unfolding step accepted read_done write_done
same_step c z h =
    cond-elim (λ (x : Reply). Same x.next z) (eqb (command_due c z) 0) _ _
    (λ _. cond-elim (λ (x : Reply). Same x.next z) (eqb c.code 0) _ _ (λ _. same_read c.first c.second z)
    (λ e. cond-elim (λ (x : Reply). Same x.next z) (eqb c.code 1) _ _ (λ _. same_write c.second (little_bytes c.value c.first) z)
    (λ f. let n = eqb-false c.code 0 e in let m = eqb-false c.code 1 f in absurd (omega arith))))
    (λ _. (refl, refl))
