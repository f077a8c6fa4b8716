-- `memory::copy` meets its contract: the bytes are replaced one by one (specs/Copied), and the source has as many as
-- there are.
use Rattle.std.proofs.Common.{◌≡◌, refl, ap, ◌∙◌, arith, length, length-set}
use Rattle.memory.specs.Copied.{copied, copied-zero, copied_next, copied_all}
use Rattle.memory.proofs.copy.Goals as goal

pub loop-i-init : goal.loop-i-init
loop-i-init c = (refl, copied-zero _ _)

pub loop-i-preserved : goal.loop-i-preserved
loop-i-preserved c =
    let a = c.args in (
      simp length-set c.loop-i.invariant.0,
      rw c.loop-i.invariant.1 (copied_next a.dst.now a.src.now c.loop-i.i (omega arith) (omega arith)),
    )

pub returns : goal.returns
returns c =
    let a = c.args in
    let e : c.loop-i.i ≡ length a.src.now = omega arith in
    c.loop-i.invariant.1 ∙ ap (copied a.dst.now a.src.now) e ∙ copied_all a.dst.now a.src.now c.requires
