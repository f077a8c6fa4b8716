-- A hit: the line's bytes lie in L1P, whose length is known.
use Rattle.std.proofs.Common.{arith}
use Rattle.model.specs.Bytes.{part}
use Rattle.model.specs.Laws.{length_part}
use Rattle.program.specs.Fetches.{fetch_hit}
use Rattle.fetches.specs.Told.{line-whole}
use Rattle.fetches.proofs.hit.Goals as goal

pub returns : goal.returns
unfolding fetch_hit
returns c =
    let p = c.args.l1p.now in let at = c.data_at.result in
    let whole = line-whole (part p at 32) (length_part p at 32 (omega arith)) in λ a k es ek. grind arith
