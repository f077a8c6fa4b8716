-- Past the caches: the place is the address less 80000000h, and the line's bytes lie there.
use Rattle.std.proofs.Common.{◌-◌, arith}
use Rattle.model.specs.Bytes.{part}
use Rattle.model.specs.Memories.{external_base}
use Rattle.model.specs.Homes.{memory_part}
use Rattle.model.specs.Access.{cacheable}
use Rattle.model.specs.Reports.{memory_moved, bytes_in}
use Rattle.model.specs.Fetches.{fetch_access, fetch_report}
use Rattle.model.specs.Calls.{fetch_behind_done}
use Rattle.fetches.specs.Told.{line-whole}
use Rattle.fetches.proofs.past.Goals as goal

pub returns : goal.returns
unfolding fetch_behind_done fetch_access fetch_report memory_part memory_moved bytes_in cacheable
returns c =
    let a = c.args.a in
    λ k e o w. grind (arith, line-whole (part k.data_side.ext (a - external_base) 32))
