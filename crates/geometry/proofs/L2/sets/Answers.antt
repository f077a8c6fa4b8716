-- `geometry::L2::sets` meets its contract: each case of the code is a case of `cache_size`, by 512; a number that none
-- names has no sets.
use Rattle.model.specs.Memories.{cache_size}
use Rattle.std.proofs.Common.{refl, arith, sym, ap, ℕ, ◌/◌, ◌≢◌}
use Rattle.geometry.specs.Geometry.{no-cache}
use Rattle.geometry.proofs.L2.sets.Goals as goal

pub returns-in-0 : goal.returns-in-0
unfolding cache_size
returns-in-0 c = (rw c.in-0.is refl, omega arith)

pub returns-in-1 : goal.returns-in-1
unfolding cache_size
returns-in-1 c = (rw c.in-1.is refl, omega arith)

pub returns-in-2 : goal.returns-in-2
unfolding cache_size
returns-in-2 c = (rw c.in-2.is refl, omega arith)

pub returns-in-3 : goal.returns-in-3
unfolding cache_size
returns-in-3 c = (rw c.in-3.is refl, omega arith)

pub returns-in-7 : goal.returns-in-7
unfolding cache_size
returns-in-7 c = (rw c.in-7.is refl, omega arith)

pub returns-in-4 : goal.returns-in-4
returns-in-4 c =
    let m = c.args.mode in
    let one : m ≢ 1 = omega arith in let two : m ≢ 2 = omega arith in let three : m ≢ 3 = omega arith in let seven : m ≢ 7 = omega arith in
    (sym (ap (λ (n : ℕ). n / 512) (no-cache m one two three seven)), omega arith)

pub returns-in_default : goal.returns-in_default
returns-in_default c =
    let m = c.args.mode in
    let one : m ≢ 1 = omega arith in let two : m ≢ 2 = omega arith in let three : m ≢ 3 = omega arith in let seven : m ≢ 7 = omega arith in
    (sym (ap (λ (n : ℕ). n / 512) (no-cache m one two three seven)), omega arith)
