-- `mar_check::holds_range` meets its contract: each cache by its list of sets. Assumes nothing.
use Rattle.std.proofs.Common.{refl, sym}
use Rattle.model.specs.Records.{no_l1d_set, no_l2_set}
use Rattle.model.specs.Refusals.{in_range, holds_range}
use Rattle.tags.specs.Words.{record_in, shaped}
use Rattle.mar_check.specs.Range.{any_held}
use Rattle.mar_check.proofs.holds_range.Goals as goal

pub returns-then-cache_holds : goal.returns-then-cache_holds
unfolding holds_range
returns-then-cache_holds c =
    let r = record_in c.args.tags.now in let h = shaped c.args.tags.now in
    let e = any_held (λ v. v.lines) r.l1d no_l1d_set (in_range c.args.n) 128 2 h.l1d_sets h.l1d_ways c.cache_holds.result c.cache_holds.ensures in
    rw (sym e, c.if-cache_holds.true) refl

pub returns-else-cache_holds : goal.returns-else-cache_holds
unfolding holds_range
returns-else-cache_holds c =
    let r = record_in c.args.tags.now in let h = shaped c.args.tags.now in
    let e = any_held (λ v. v.lines) r.l1d no_l1d_set (in_range c.args.n) 128 2 h.l1d_sets h.l1d_ways c.cache_holds.result c.cache_holds.ensures in
    let f = any_held (λ v. v.lines) r.l2 no_l2_set (in_range c.args.n) 512 4 h.l2_sets h.l2_ways _ c.cache_holds-else-cache_holds.ensures in
    rw (sym e, c.if-cache_holds.false, sym f) refl
