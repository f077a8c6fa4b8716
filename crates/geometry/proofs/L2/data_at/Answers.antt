-- `geometry::L2::data_at` meets its contract: each return is a case of the definition, by the tests on its way and
-- what its callees ensure.
use Rattle.geometry.specs.Geometry.{slot-bound}
use Rattle.model.specs.Lines.{l2_slot}
use native.Mathlib.Omega.{arith}
use mathlib.Core.Path.{refl}
use Rattle.geometry.proofs.L2.data_at.Goals as goal

pub overflow_mul-result : goal.overflow_mul-result
overflow_mul-result c =
    let b = slot-bound c.args.split.sets c.args.t c.args.v c.requires.1 in
    let k = c.args.split.sets_fit in let r = c.args.split.sram_fits in let t = c.requires.0 in
    omega arith

pub overflow_add-result : goal.overflow_add-result
overflow_add-result c =
    let b = slot-bound c.args.split.sets c.args.t c.args.v c.requires.1 in
    let k = c.args.split.sets_fit in let r = c.args.split.sram_fits in let t = c.requires.0 in
    omega arith

pub overflow_mul-result-2 : goal.overflow_mul-result-2
overflow_mul-result-2 c =
    let b = slot-bound c.args.split.sets c.args.t c.args.v c.requires.1 in
    let k = c.args.split.sets_fit in let r = c.args.split.sram_fits in let t = c.requires.0 in
    omega arith

pub overflow_add-result-2 : goal.overflow_add-result-2
overflow_add-result-2 c =
    let b = slot-bound c.args.split.sets c.args.t c.args.v c.requires.1 in
    let k = c.args.split.sets_fit in let r = c.args.split.sram_fits in let t = c.requires.0 in
    omega arith

pub returns : goal.returns
unfolding l2_slot
returns c =
    let b = slot-bound c.args.split.sets c.args.t c.args.v c.requires.1 in
    let k = c.args.split.sets_fit in let r = c.args.split.sram_fits in let t = c.requires.0 in
    (refl, omega arith)
