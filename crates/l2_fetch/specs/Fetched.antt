-- What contracts say of what lies behind L1D: where L2 has the line of an address, who serves it, and what is reported
-- of the fetch.
use Rattle.std.specs.Prelude.{ℕ, ◌<◌, ◌≤◌, Bool, true, ◌≡◌, List, length}
use Rattle.std.proofs.Common.{Option, None, Some}
use Rattle.std.specs.Option.{is_some}
use Rattle.kinds.specs.Numbers.{server_number}
use Rattle.model.specs.Records.{State, l2_set_of}
use Rattle.model.specs.Homes.{home_is_l2, l2_way_for, home_server}
use Rattle.model.specs.Reports.{fetch_left, bytes_in, fetch_l2_moved, home_moved, write_home_moved}
use Rattle.model.specs.declared.Record.{Record}
use Rattle.l2_fetch.specs.declared.Slot.{Slot}
use Rattle.l2_fetch.specs.declared.Fetched.{Fetched}

-- whether the L2 cache is the home, and the set and the way of the line then; 0 and 0 where it is not
abbrev pub homed : Fetched → Bool
homed h = is_some h.home

abbrev pub set_at : Option Slot → ℕ
set_at None = 0
set_at (Some s) = s.set

abbrev pub way_at : Option Slot → ℕ
way_at None = 0
way_at (Some s) = s.way

abbrev pub set_in : Fetched → ℕ
set_in h = set_at h.home

abbrev pub way_in : Fetched → ℕ
way_in h = way_at h.home

-- h tells where L2 has the line of address a, if L2 is its home at all
abbrev pub Found : Fetched → ℕ → Record → Type 0
Found h a r =
    (homed h ≡ home_is_l2 r a) × ((homed h ≡ true → set_in h ≡ l2_set_of r a) × ((set_in h < 512) × (way_in h < 4)))

-- .. as a fetch of a in state z finds or chooses it, and who serves
abbrev pub Serves : Fetched → ℕ → State → Type 0
Serves h a z =
    Found h a z.rec × ((homed h ≡ true → way_in h ≡ l2_way_for z a) × (server_number h.server ≡ home_server a z))

-- .. and what is reported of that fetch: which line leaves for it, and how many bytes of external memory are read and
-- stored
abbrev pub Tells : Fetched → ℕ → State → Type 0
Tells h a z =
    (h.left ≡ fetch_left a z) × (((h.read ≡ bytes_in (fetch_l2_moved a z).read) × (h.read ≤ 128)) ×
    ((h.written ≡ bytes_in (fetch_l2_moved a z).written) × (h.written ≤ 128)))

-- k of the n bytes at b, in the line of a, are read from external memory, or stored into it, whatever the bytes are
abbrev pub HomeMoved : ℕ → ℕ → ℕ → ℕ → State → Type 0
HomeMoved k a b n z =
    (k ≡ bytes_in (home_moved a b n z).read) ×
    ((v : ℕ) (bs : List ℕ) → length bs ≡ n → b ≡ a → k ≡ bytes_in (write_home_moved v a bs z).written)
