-- `frame_rows::add_row` meets its contract (specs/Rows): past the caches the row is read as it stands; where L1D has
-- the line behind the first read the others are hits; else they go through the loop.
use Rattle.std.proofs.Common.{rules, arith, refl, ◌∙◌, replicate}
use Rattle.frame_rows.specs.Rows.{l1d_long, way_inside, held_done, rest_told}
use Rattle.frame_rows.proofs.add_row.Goals as goal

pub add_bytes-requires-in-Some-clause-sums_len : goal.add_bytes-requires-in-Some-clause-sums_len
add_bytes-requires-in-Some-clause-sums_len c =
    let p = c.requires in let l = l1d_long _ _ _ _ p.ext_value _ p.row_at in
    (search rules, (omega arith, omega (arith, way_inside _ _ c.set_of-i.ensures.1 c.in-Some.ensures.within)))

pub returns-in-Some-clause-ext_after : goal.returns-in-Some-clause-ext_after
returns-in-Some-clause-ext_after c =
    let p = c.requires in let f = c.in-Some.ensures in
    c.use_hit.ensures _ _ _
    ∙ held_done _ _ _ _ p.ext_value c.args.address p.row_at _ c.read_byte-first.ensures.after (cc) _ _ c.set_of-i.ensures.0
    f.within f.found

pub returns-clause-told : goal.returns-clause-told
returns-clause-told c =
    let p = c.requires in let r = c.read_byte-first in
    rest_told _ _ _ _ p.ext_value c.args.address p.row_at _ r.ensures.after c.args.sums.now _ _ r.result r.ensures.value p.tags_len.1 refl (replicate 630 0) _
    (omega arith) c.read_rest.ensures.told c.add_answers.ensures
