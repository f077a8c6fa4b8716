-- An access put together from its parts: a miss, in its three ways; the number due; the three ways of an access. One
-- law for each way through the code, over plain records and lists.
use Rattle.std.specs.Prelude.{ℕ, ◌+◌, ◌≤◌, ◌<◌, Bool, true, false, cond, ◌||◌, ◌≡◌, refl, ◌≢◌, List, length, eqb}
use Rattle.std.proofs.Common.{None, Some, Err, sym, subst, arith, eq-eqb, ne_eqb}
use Rattle.std.proofs.lemmas.Bool.Decides.{nat_tests}
use Rattle.kinds.specs.Numbers.{refusal_number, refusal_some}
use Rattle.kinds.specs.declared.Refusal.{Refusal}
use Rattle.model.specs.Bytes.{part, little, little_bytes}
use Rattle.model.specs.Laws.{length-little_bytes, mar-bit}
use Rattle.model.specs.Lines.{l1d_set_of, l1d_line}
use Rattle.model.specs.Records.{State, sram_of, l1d_set_at}
use Rattle.model.specs.Ways.{l1d_find, l1d_victim, in_l1d, l1d_way, use_l1d}
use Rattle.model.specs.Homes.{l2_way_for, fetch_l2}
use Rattle.model.specs.Access.{cacheable, l1d_bytes, evict_l1d, fill_l1d, write_home, home_part, read_hit, read_filled, read_emptied, read_thawed, read_frozen, read_miss, read_access, write_hit, write_miss, write_access}
use Rattle.model.specs.Refusals.{size_ok, access_due}
use Rattle.model.specs.Calls.{command_due, read_done, write_done, accepted, step}
use Rattle.model.specs.Reports.{no_report, taken, read_miss_moved, read_miss_report, write_miss_report, read_report, write_report}
use Rattle.model.proofs.Erased.{write-miss-read, write-miss-written, frozen-read, frozen-written, emptied-read, emptied-written, thawed-read, thawed-written}
use Rattle.model.specs.declared.Command.{Command}
use Rattle.tags.specs.Sizes.{Same, same-fetch-l2}
use Rattle.l2_fetch.specs.declared.Fetched.{Fetched}
use Rattle.l2_fetch.specs.Fetched.{homed, way_in, Found, Serves, Tells, HomeMoved}
use Rattle.l2_fetch.specs.Fetching.{taken-part, found-next, any-fill, any_part, any-write}
use Rattle.access.specs.Answered.{plain_answer, accepted_of, answer_of, answered, missed, passed, RoomTold}
use Rattle.access.specs.declared.Room.{Room}

-- ---- past the caches: which MAR bit covers an address; as many bytes are held as can be stored
pub ruleset mar_bits = (mar-bit)

pub held_taken : (m : List ℕ) (a n v : ℕ) → length (taken m a (little_bytes v n)) ≡ length (part m a n)
held_taken m a n v = sym (taken-part m a (little_bytes v n) n (length-little_bytes v n))

-- ---- a miss. A thawed read miss makes room, no other does
-- what was found stays found while L2 serves, and the sizes stay
pub still-found : (h : Fetched) (a : ℕ) (y z : State) → y ≡ fetch_l2 a z → Found h a z.rec → Same y z × Found h a y.rec
still-found h a y z e f =
    let s = subst (λ (x : State). Same x z) (sym e) (same-fetch-l2 a z) in (s, found-next h a z.rec y.rec s.1 f)

-- what a miss knows once L2 has served: z₀ is the state that it found, z that with room made, or not, and y the one
-- behind L2; f is the freeze, and h what L2 told
pub record Behind (c : Command) (f : Bool) (i : ℕ) (z₀ z y : State) (h : Fetched) : Type 0 where
  pub frozen : f ≡ z₀.rec.frozen
  pub room : z ≡ cond (eqb c.code 1 || f) z₀ (evict_l1d i (l1d_victim (l1d_set_at z₀.rec i)) z₀)
  pub serves : Serves h c.second z
  pub tells : Tells h c.second z
  pub fetched : y ≡ fetch_l2 c.second z

module _ {c : Command} {f : Bool} {i : ℕ} {z₀ z y : State} {h : Fetched} (k : Behind c f i z₀ z y h) where
  pub behind-found : Same y z × Found h c.second y.rec
  behind-found = still-found h c.second y z k.fetched k.serves.0

  -- x: the bytes went home; n of them into external memory
  pub miss-write : (x : State) (n : ℕ) → c.code ≡ 1 → HomeMoved n c.second c.second c.first y →
      x ≡ write_home (way_in h) c.second (little_bytes c.value c.first) y →
      accepted_of
      (record (plain_answer (Some h.server) 0) { l2_left = h.left; read = h.read; written = h.written + n }) x
      ≡ missed c z₀
  unfolding write_miss write_miss_report
  miss-write x n w m ex =
      let a = c.second in let bs = little_bytes c.value c.first in let d = eq-eqb c.code 1 w in
      let p = any-write y (homed h) (way_in h) (l2_way_for z a) a bs behind-found.1.0 k.serves.1.0 in
      let v = m.1 (l2_way_for z a) bs (length-little_bytes c.value c.first) refl in
      grind (arith, write-miss-read a bs z, write-miss-written a bs z)

  -- v: the bytes come out of the home; n of them from external memory
  pub miss-frozen : (v n : ℕ) → c.code ≢ 1 → RoomTold None (eqb c.code 1 || f) i z₀ →
      HomeMoved n c.second c.second c.first y → v ≡ little (home_part (way_in h) c.second c.second c.first y) →
      accepted_of
      (record (plain_answer (Some h.server) v) { l2_left = h.left; read = h.read + n; written = h.written }) y
      ≡ missed c z₀
  unfolding read_miss read_frozen read_miss_report read_miss_moved
  miss-frozen v n w r m ev =
      let a = c.second in let d = ne_eqb c.code 1 w in
      let p = any_part y (homed h) (way_in h) (l2_way_for z a) a c.first behind-found.1.0 k.serves.1.0 in
      grind (arith, frozen-read c.first a z, frozen-written c.first a z)

  -- x: a way is filled, n of its bytes from external memory; v: the bytes come out of it; u: it is used
  pub miss-read : (r : Room) (x u : State) (v n : ℕ) → c.code ≢ 1 → i ≡ l1d_set_of c.second →
      RoomTold (Some r) (eqb c.code 1 || f) i z₀ → HomeMoved n c.second (l1d_line c.second) 64 y →
      x ≡ fill_l1d r.way (way_in h) c.second y → v ≡ little (l1d_bytes r.way c.second c.first x) →
      u ≡ use_l1d i r.way x →
      accepted_of (record (plain_answer (Some h.server) v) {
        l1d_left = r.left;
        l2_left = h.left;
        read = h.read + n;
        written = r.written + h.written;
      }) u
      ≡ missed c z₀
  unfolding read_miss read_thawed read_emptied read_filled read_miss_report read_miss_moved
  miss-read r x u v n w ei rt m ex ev eu =
      let a = c.second in let d = ne_eqb c.code 1 w in let l = l1d_victim (l1d_set_at z₀.rec i) in
      let p = any-fill y (homed h) r.way (way_in h) (l2_way_for z a) a behind-found.1.0 k.serves.1.0 in
      grind (arith, emptied-read l a z, emptied-written l a z, thawed-read a z₀, thawed-written a z₀)

-- ---- the whole
pub size_of : (s e n a v : ℕ) → access_due s e n a v ≡ 0 → size_ok n ≡ true
unfolding access_due
size_of s e n a v o = grind (arith, nat_tests)

module _ (c : Command) (z : State) (two : c.code < 2) where
  pub due-is : (s e v : ℕ) → s ≡ sram_of z.rec → e ≡ z.rec.extlen → v ≡ cond (eqb c.code 1) c.value 0 →
      access_due s e c.first c.second v ≡ command_due c z
  unfolding command_due
  due-is s e v es ee ev = grind (arith, nat_tests)

  pub step-refused : (e : Refusal) → refusal_number e ≡ command_due c z → answer_of (Err e) z ≡ step c z
  unfolding step
  step-refused e h = let p = refusal_some e in grind (arith, nat_tests)

  pub step-accepted : 0 ≡ command_due c z → accepted c z ≡ step c z
  unfolding step
  step-accepted h = rw (← h) refl

  -- the three ways of an access
  pub by-passing : cacheable z.rec c.second ≡ false → passed c z ≡ accepted c z
  unfolding accepted read_done write_done read_access read_report write_access write_report
  by-passing h = grind (arith, nat_tests)

  pub by-hit : cacheable z.rec c.second ≡ true → l1d_way z c.second < 2 →
      answered c (read_hit c.first c.second z) no_report
      (write_hit c.second (little_bytes c.value c.first) z) no_report ≡ accepted c z
  unfolding accepted read_done write_done read_access read_report write_access write_report in_l1d
  by-hit h w = grind (arith, nat_tests)

  pub by-miss : cacheable z.rec c.second ≡ true → 2 ≤ l1d_way z c.second → missed c z ≡ accepted c z
  unfolding accepted read_done write_done read_access read_report write_access write_report in_l1d
  by-miss h w = grind (arith, nat_tests)

-- the looked up way of L1D
pub way_of : (z : State) (a i b : ℕ) → i ≡ l1d_set_of a → b ≡ l1d_line a → l1d_find (l1d_set_at z.rec i) b ≡ l1d_way z a
unfolding l1d_way
way_of z a i b ei eb = rw (eb, ei) refl
