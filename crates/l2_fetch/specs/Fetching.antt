-- What lies behind L1D for an access, over plain records and lists: what a fetch of L2 reads and stores, the n bytes at
-- an address out of their home, and that what was found stays found.
use Rattle.std.specs.Prelude.{ℕ, ◌+◌, ◌-◌, ◌%◌, Bool, true, false, ◌≡◌, refl, List, [], length, ltb}
use Rattle.std.proofs.Common.{sym, ◌∙◌, append-nil, arith, leb-true}
use Rattle.model.specs.Bytes.{part}
use Rattle.model.specs.Memories.{external_base}
use Rattle.model.specs.Laws.{length_part, mode0-sets}
use Rattle.model.specs.Lines.{l2_data_in}
use Rattle.model.specs.Records.{State, state, sram_of, l2_sets_of}
use Rattle.model.specs.Ways.{use_l2}
use Rattle.model.specs.Homes.{home_is_l2, memory_part, fill_l2, bring_l2}
use Rattle.model.specs.Access.{home_part, fill_l1d, write_home}
use Rattle.model.specs.Reports.{taken, bytes_in, write_out_l2_moved, fill_l2_moved, writeback_l2_moved, evict_l2_moved, bring_l2_moved}
use Rattle.model.proofs.Erased.{evict_l2-next}
use Rattle.model.specs.declared.Record.{Record}
use Rattle.l2_fetch.specs.Fetched.{homed, set_in, way_in, Found}
use Rattle.l2_fetch.specs.declared.Fetched.{Fetched}

-- as many bytes lie in a memory at a as can be stored there
pub taken-part : (m : List ℕ) (a : ℕ) (bs : List ℕ) (n : ℕ) → length bs ≡ n →
    length (part m a n) ≡ length (taken m a bs)
unfolding taken part
taken-part m a bs n e = grind (arith, length_part m a n, leb-true)

-- ---- what a fetch of L2 reads and stores
none_read : (t v : ℕ) (z : State) → (writeback_l2_moved t v z).read ≡ []
unfolding writeback_l2_moved write_out_l2_moved
none_read t v z = grind arith

pub read-brought : (t v b : ℕ) (z : State) →
    bytes_in (bring_l2_moved t v b z).read ≡ length (part (bring_l2 t v b z).ext (b - external_base) 128)
unfolding bring_l2_moved evict_l2_moved fill_l2_moved fill_l2 use_l2 bytes_in
read-brought t v b z = grind (arith, none_read t v z, evict_l2-next t v z)

pub written-brought : (t v b : ℕ) (z : State) → (bring_l2_moved t v b z).written ≡ (writeback_l2_moved t v z).written
unfolding bring_l2_moved evict_l2_moved fill_l2_moved
written-brought t v b z = simp append-nil

-- ---- the n bytes at a, out of the home
pub part-homed : (r : Record) (d m e : List ℕ) (a n s k at off : ℕ) (h : Fetched) → s ≡ sram_of r → k ≡ l2_sets_of r →
    Found h a r → homed h ≡ true → at ≡ l2_data_in s k (set_in h) (way_in h) → off ≡ a % 128 →
    part m (at + off) n ≡ home_part (way_in h) a a n (state r d m e)
unfolding home_part
part-homed r d m e a n s k at off h es ek f t ea eo =
    let o : home_is_l2 r a ≡ true = sym f.0 ∙ t in let p = f.1.0 t in rw (o, ea, eo, es, ek, p) refl

pub part-external : (r : Record) (d m e : List ℕ) (a n from : ℕ) (h : Fetched) → Found h a r → homed h ≡ false →
    ltb a external_base ≡ false → from ≡ a - external_base → part e from n ≡ home_part (way_in h) a a n (state r d m e)
unfolding home_part memory_part
part-external r d m e a n from h g t x eo = grind arith

pub part-sram : (r : Record) (d m e : List ℕ) (a n from : ℕ) (h : Fetched) → Found h a r → homed h ≡ false →
    ltb a external_base ≡ true → from ≡ a → part m from n ≡ home_part (way_in h) a a n (state r d m e)
unfolding home_part memory_part
part-sram r d m e a n from h g t x eo = grind arith

-- ---- where L2 is not the home, its way is not asked for
pub any-fill : (z : State) (b : Bool) (w v u a : ℕ) → b ≡ home_is_l2 z.rec a → (b ≡ true → v ≡ u) →
    fill_l1d w v a z ≡ fill_l1d w u a z
unfolding fill_l1d home_part
any-fill z b w v u a eb f = grind arith

pub any_part : (z : State) (b : Bool) (v u a n : ℕ) → b ≡ home_is_l2 z.rec a → (b ≡ true → v ≡ u) →
    home_part v a a n z ≡ home_part u a a n z
unfolding home_part
any_part z b v u a n eb f = grind arith

pub any-write : (z : State) (b : Bool) (v u a : ℕ) (bs : List ℕ) → b ≡ home_is_l2 z.rec a → (b ≡ true → v ≡ u) →
    write_home v a bs z ≡ write_home u a bs z
unfolding write_home
any-write z b v u a bs eb f = grind arith

-- ---- what was found stays found while the sizes stay
pub found-next : (h : Fetched) (a : ℕ) (r q : Record) → l2_sets_of q ≡ l2_sets_of r → Found h a r → Found h a q
unfolding home_is_l2
found-next h a r q e f = grind (arith, mode0-sets)
