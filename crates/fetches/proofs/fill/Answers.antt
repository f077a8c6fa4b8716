-- The line comes to its set: the array is moved whole (`part-whole`).
use Rattle.std.proofs.Common.{◌≡◌, length, arith, rules}
use Rattle.memory.specs.Copied.{part-whole}
use Rattle.fetches.proofs.fill.Goals as goal

pub returns-clause-l1p_after : goal.returns-clause-l1p_after
returns-clause-l1p_after c =
    let long : length c.args.bytes ≡ 32 = search rules in grind (arith, part-whole c.args.bytes)
