-- A miss: room is made or not, L2 serves, and then the bytes go home (`miss-write`), come out of the home where L1D is
-- frozen (`miss-frozen`), or a way is filled and used (`miss-read`). What is known once L2 has served is said once, of
-- that place: the three states (`behind`), and that the sizes and what L2 found stay (`lent`).
use Rattle.std.proofs.Common.{refl}
use Rattle.model.specs.Records.{State, state}
use Rattle.model.specs.Ways.{use_l1d}
use Rattle.model.specs.Homes.{fetch_l2}
use Rattle.tags.specs.Words.{record_in, state_in}
use Rattle.tags.specs.Sizes.{Lent, lent-next, same-fetch-l2}
use Rattle.l2_fetch.specs.Fetched.{Found}
use Rattle.access.specs.Serving.{Behind, behind-found, miss-write, miss-frozen, miss-read}
use Rattle.access.proofs.miss.Goals as goal
use Rattle.access.proofs.miss.Goals.{After-fetch_l2-h}

abbrev start : After-fetch_l2-h → State
start c = let a = c.args in state_in a.tags.now a.l1d.now a.l2.now a.ext.now

abbrev roomed : After-fetch_l2-h → State
roomed c = let g = c.free_way-room.new in state_in g.tags c.args.l1d.now g.l2 g.ext

abbrev served : After-fetch_l2-h → State
served c = let g = c.fetch_l2-h.new in state_in g.tags c.args.l1d.now g.l2 g.ext

behind : (c : After-fetch_l2-h) →
    Behind c.args.c c.frozen_of-frozen.result c.args.i (start c) (roomed c) (served c) c.fetch_l2-h.result
behind c =
    let f = c.fetch_l2-h.ensures in record {
      frozen = c.frozen_of-frozen.ensures;
      room = c.free_way-room.ensures.ext_after;
      serves = f.serves;
      tells = f.told;
      fetched = f.ext_after;
    }

lent : (c : After-fetch_l2-h) → Lent c.args.split.sram c.args.split.sets c.fetch_l2-h.new.tags
lent c =
    let a = c.args in let g = c.free_way-room in let f = c.fetch_l2-h in
    lent-next a.split.sram a.split.sets g.new.tags f.new.tags (served c) (fetch_l2 a.c.second (roomed c)) g.ensures.lent
    f.auto.tags f.ensures.ext_after refl (same-fetch-l2 a.c.second (roomed c))

found : (c : After-fetch_l2-h) → Found c.fetch_l2-h.result c.args.c.second (record_in c.fetch_l2-h.new.tags)
found c = (behind-found (behind c)).1

-- ---- a write
pub write_home-n-requires : goal.write_home-n-requires
write_home-n-requires c =
    let k = (goal.at.write_home-n-requires c).After-fetch_l2-h in
    record { n_value = c.requires.i_bound.1.1; lent = lent k; found = found k }

pub returns-then-write : goal.returns-then-write
returns-then-write c =
    let k = (goal.at.returns-then-write c).After-fetch_l2-h in let g = c.write_home-n in let d = c.args.l1d.now in
    miss-write (behind k) (state_in g.new.tags d g.new.l2 g.new.ext) g.result c.if-write.true (g.ensures.told.0 d)
    (g.ensures.by_index d)

-- ---- a read that fills a way
pub fill_l1d-n-requires : goal.fill_l1d-n-requires
fill_l1d-n-requires c =
    let k = (goal.at.fill_l1d-n-requires c).After-fetch_l2-h in let i = c.requires.i_bound in
    record { i_bound = ((i.0, c.in-Some.ensures.room_told.1.1.0.0), i.1.0); lent = lent k; found = found k }

pub returns-in-Some : goal.returns-in-Some
unfolding use_l1d
returns-in-Some c =
    let k = behind (goal.at.returns-in-Some c).After-fetch_l2-h in
    let g = c.fill_l1d-n in let f = c.fetch_l2-h.new in let v = c.way_value-v in let u = record_in c.touch.new.tags in
    let x = state_in g.new.tags g.new.l1d f.l2 f.ext in
    miss-read k c.in-Some.room x (state u g.new.l1d f.l2 f.ext) v.result g.result c.if-write.false
    c.requires.i_bound.1.0 c.in-Some.ensures.room_told g.ensures.told.0 g.ensures.ext_after
    (v.ensures x.rec x.l2 x.ext) (rw c.touch.ensures refl)

-- ---- a read where L1D is frozen
pub read_home-v-requires : goal.read_home-v-requires
read_home-v-requires c =
    let k = (goal.at.read_home-v-requires c).After-fetch_l2-h in
    record { n_value = c.requires.i_bound.1.1; lent = lent k; found = found k }

pub returns : goal.returns
returns c =
    let k = (goal.at.returns c).After-fetch_l2-h in let n = c.home_moved-n in let v = c.read_home-v in
    miss-frozen (behind k) v.result n.result c.if-write.false c.in_default.ensures.room_told
    (n.ensures.0 (served k) refl (found k)) (v.ensures c.args.l1d.now)
