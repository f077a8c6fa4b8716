-- `geometry::lines_touched` meets its contract: a block that is not empty ends after its base, so that neither
-- difference goes below 0.
use Prim.Native.Nat.{◌<◌}
use mathlib.Core.Path.{refl}
use native.Mathlib.Omega.{arith}
use borrow.Author.Tests.{eq-eqb, ne_eqb}
use Rattle.model.specs.Commands.{lines_touched}
use Rattle.geometry.specs.Blocks.{end-bounds, first-last}
use Rattle.geometry.proofs.lines_touched.Goals as goal

pub returns-then-count-eq0 : goal.returns-then-count-eq0
unfolding lines_touched
returns-then-count-eq0 c = rw (eq-eqb _ _ c.if-count-eq0.true) refl

pub overflow_sub-result : goal.overflow_sub-result
overflow_sub-result c =
    let a = c.args in
    let e = c.block_end-end.ensures in
    let b : a.base < 4294967296 = omega arith in
    let p = end-bounds a.base a.count b c.if-count-eq0.false in omega arith

pub overflow_sub-result-2 : goal.overflow_sub-result-2
overflow_sub-result-2 c =
    let a = c.args in
    let e = c.block_end-end.ensures in
    let b : a.base < 4294967296 = omega arith in
    let p = end-bounds a.base a.count b c.if-count-eq0.false in
    let f = first-last a.length a.base a.count c.requires b c.block_end-end.result c.if-count-eq0.false e in f.0

pub overflow_add-result : goal.overflow_add-result
overflow_add-result c =
    let a = c.args in
    let e = c.block_end-end.ensures in
    let b : a.base < 4294967296 = omega arith in
    let p = end-bounds a.base a.count b c.if-count-eq0.false in
    let f = first-last a.length a.base a.count c.requires b c.block_end-end.result c.if-count-eq0.false e in omega arith

pub returns : goal.returns
unfolding lines_touched
returns c = rw (ne_eqb _ _ c.if-count-eq0.false, ← c.block_end-end.ensures) refl
