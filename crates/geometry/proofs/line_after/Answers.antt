-- `geometry::line_after` meets its contract: a line that a block touches has a 32-bit address.
use Prim.Native.Nat.{◌<◌}
use native.Mathlib.Omega.{arith}
use Rattle.geometry.specs.Blocks.{touched-small, number_small}
use Rattle.geometry.proofs.line_after.Goals as goal

pub overflow_add-result : goal.overflow_add-result
overflow_add-result c =
    let a = c.args in
    let b : a.base < 4294967296 = omega arith in
    let t = number_small a.length a.base a.count c.requires.0 b a.k c.requires.1 in omega arith

pub overflow_mul-result : goal.overflow_mul-result
overflow_mul-result c =
    let a = c.args in
    let b : a.base < 4294967296 = omega arith in
    let t = touched-small a.length a.base a.count c.requires.0 b a.k c.requires.1 in omega arith

pub overflow_cast-result : goal.overflow_cast-result
overflow_cast-result c =
    let a = c.args in
    let b : a.base < 4294967296 = omega arith in
    let t = touched-small a.length a.base a.count c.requires.0 b a.k c.requires.1 in omega arith
