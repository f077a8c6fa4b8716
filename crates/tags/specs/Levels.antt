-- What the record has of each of its two caches, by set and way: L1D and L2 are kinds of one thing, and crate tags has
-- each function on words once for both.
use Rattle.std.specs.Prelude.{ℕ, suc, ◌+◌, ◌-◌, ◌*◌, ◌%◌, ◌<◌, ◌≡◌, refl, true, false, List}
use Rattle.std.proofs.Common.{ap, add-one, arith}
use Rattle.model.specs.Lines.{holds, l1d_put, l2_put, l1d_use, l2_use}
use Rattle.model.specs.Ways.{l1d_find, l2_find, l1d_victim, l2_victim, way_holding, lowest_invalid}
use Rattle.model.specs.Records.{l1d_set_at, l2_set_at, l1d_line_at, l2_line_at, with_l1d_set, with_l2_set}
use Rattle.model.specs.declared.Line.{Line}
use Rattle.model.specs.declared.Order2.{Order2}
use Rattle.model.specs.declared.Order4.{Order4}
use Rattle.model.specs.declared.Record.{Record}
use Rattle.tags.specs.Words.{word, order2_in, order4_in, record_in, l1d-order-at, l2-order-at}

-- the record with another line in a way, its count left alone
abbrev pub l1d_stored : Record → ℕ → ℕ → Line → Record
l1d_stored r s w x = with_l1d_set r s (l1d_put (l1d_set_at r s) w x)

abbrev pub l2_stored : Record → ℕ → ℕ → Line → Record
l2_stored r t v x = with_l2_set r t (l2_put (l2_set_at r t) v x)

-- the way of a set that holds the line at an address, 2 and 4 where none does
abbrev pub l1d_found : Record → ℕ → ℕ → ℕ
l1d_found r s b = l1d_find (l1d_set_at r s) b

abbrev pub l2_found : Record → ℕ → ℕ → ℕ
l2_found r t b = l2_find (l2_set_at r t) b

-- the way that is chosen for another line
abbrev pub l1d_chosen : Record → ℕ → ℕ
l1d_chosen r s = l1d_victim (l1d_set_at r s)

abbrev pub l2_chosen : Record → ℕ → ℕ
l2_chosen r t = l2_victim (l2_set_at r t)

-- the record with a way used
abbrev pub l1d_used : Record → ℕ → ℕ → Record
l1d_used r s w = with_l1d_set r s (l1d_use (l1d_set_at r s) w)

abbrev pub l2_used : Record → ℕ → ℕ → Record
l2_used r t v = with_l2_set r t (l2_use (l2_set_at r t) v)

-- ---- what a search of a set, way by way, gives: by definition
pub l1d-found-is : (r : Record) (s b : ℕ) → l1d_found r s b ≡ way_holding (l1d_line_at r s) 2 0 b
unfolding l1d_find
l1d-found-is r s b = refl

pub l2-found-is : (r : Record) (t b : ℕ) → l2_found r t b ≡ way_holding (l2_line_at r t) 4 0 b
unfolding l2_find
l2-found-is r t b = refl

pub l1d-chosen-is : (ws : List ℕ) (s : ℕ) → s < 128 →
    l1d_chosen (record_in ws) s ≡ lowest_invalid (l1d_line_at (record_in ws) s) 2 0 ((order2_in (word ws (s * 5 + 9))).second % 2)
unfolding l1d_victim
l1d-chosen-is ws s h =
    ap (λ (o : Order2). lowest_invalid (l1d_line_at (record_in ws) s) 2 0 (o.second % 2)) (l1d-order-at ws s h)

pub l2-chosen-is : (ws : List ℕ) (t : ℕ) → t < 512 →
    l2_chosen (record_in ws) t ≡ lowest_invalid (l2_line_at (record_in ws) t) 4 0 ((order4_in (word ws (t * 9 + 653))).fourth % 4)
unfolding l2_victim
l2-chosen-is ws t h =
    ap (λ (o : Order4). lowest_invalid (l2_line_at (record_in ws) t) 4 0 (o.fourth % 4)) (l2-order-at ws t h)

-- a way that is passed: the ways behind it give what all from it on give
pub holding_past : (g : ℕ → Line) (n k b : ℕ) → k < n → holds (g k) b ≡ false →
    way_holding g (n - (k + 1)) (k + 1) b ≡ way_holding g (n - k) k b
unfolding way_holding
holding_past g n k b h e = let z : n - k ≡ suc (n - (k + 1)) = omega arith in rw (z, e, add-one) refl

pub invalid_past : (g : ℕ → Line) (n k last : ℕ) → k < n → (g k).valid ≡ true →
    lowest_invalid g (n - (k + 1)) (k + 1) last ≡ lowest_invalid g (n - k) k last
unfolding lowest_invalid
invalid_past g n k last h e = let z : n - k ≡ suc (n - (k + 1)) = omega arith in rw (z, e, add-one) refl
