-- Which level is the home of an address, as the code tests it: SRAM below 80000000h, else external memory where L2
-- has no sets, else the L2 cache.
use Rattle.std.specs.Prelude.{ℕ, true, false, ◌≡◌, refl, ◌≢◌, ltb, eqb}
use Rattle.std.proofs.Common.{sym, ◌∙◌, eq-eqb, ne_eqb}
use Rattle.model.specs.Memories.{external_base}
use Rattle.model.specs.Records.{l2_sets_of}
use Rattle.model.specs.Homes.{home_is_l2}
use Rattle.model.specs.Laws.{mode0-sets}
use Rattle.model.specs.declared.Record.{Record}

pub home-sram : (r : Record) (a : ℕ) → ltb a external_base ≡ true → home_is_l2 r a ≡ false
unfolding home_is_l2
home-sram r a h = rw h refl

pub home-external : (r : Record) (a k : ℕ) → ltb a external_base ≡ false → k ≡ l2_sets_of r → k ≡ 0 → home_is_l2 r a ≡ false
unfolding home_is_l2
home-external r a k h ek z = let n : eqb (l2_sets_of r) 0 ≡ true = eq-eqb (l2_sets_of r) 0 (sym ek ∙ z) in rw (h, mode0-sets r, n) refl

pub home-l2 : (r : Record) (a k : ℕ) → ltb a external_base ≡ false → k ≡ l2_sets_of r → k ≢ 0 → home_is_l2 r a ≡ true
unfolding home_is_l2
home-l2 r a k h ek z = let n : eqb (l2_sets_of r) 0 ≡ false = ne_eqb (l2_sets_of r) 0 (λ q. z (ek ∙ q)) in rw (h, mode0-sets r, n) refl
