-- A read or a write that nothing refuses goes past the caches, hits or misses by the tests that the code made, and so
-- does the definition (`by-passing`, `by-hit`, `by-miss`). The way that was looked up is the definition's (`way_of`).
use Rattle.std.proofs.Common.{refl, sym, ◌∙◌, arith}
use Rattle.tags.specs.Words.{state_in}
use Rattle.access.specs.Serving.{by-passing, by-hit, by-miss, way_of}
use Rattle.access.proofs.accepted.Goals as goal

pub returns-then-not-is_cacheable : goal.returns-then-not-is_cacheable
returns-then-not-is_cacheable c =
    let a = c.args in let z = state_in a.tags.now a.l1d.now a.l2.now a.ext.now in
    let no = sym c.is_cacheable.ensures ∙ c.if-not-is_cacheable.true in
    c.uncached.ensures z refl ∙ by-passing a.c z c.requires.c_bound.0 no

pub returns-in-Some : goal.returns-in-Some
returns-in-Some c =
    let a = c.args in let z = state_in a.tags.now a.l1d.now a.l2.now a.ext.now in
    let i = c.set_of-i in let b = c.line_of in let f = c.in-Some.ensures in
    let w = f.found ∙ way_of z a.c.second i.result b.result i.ensures.0 b.ensures in
    let cached = sym c.is_cacheable.ensures ∙ c.if-not-is_cacheable.false in
    rw c.plain.ensures (c.hit-v.ensures z.l2 z.ext w) ∙ by-hit a.c z c.requires.c_bound.0 cached (rw w at f.within)

pub returns : goal.returns
returns c =
    let a = c.args in let z = state_in a.tags.now a.l1d.now a.l2.now a.ext.now in
    let i = c.set_of-i in let b = c.line_of in
    let w = c.in_default.ensures.found ∙ way_of z a.c.second i.result b.result i.ensures.0 b.ensures in
    let cached = sym c.is_cacheable.ensures ∙ c.if-not-is_cacheable.false in
    c.miss.ensures ∙ by-miss a.c z c.requires.c_bound.0 cached (omega (arith, w))
