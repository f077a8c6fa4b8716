-- What contracts say of a line that leaves L1D.
use Rattle.std.specs.Prelude.{ℕ, ◌≤◌, ◌≡◌}
use Rattle.model.specs.Records.{State}
use Rattle.model.specs.Reports.{l1d_left, bytes_in, evict_l1d_moved}
use Rattle.model.specs.declared.Gone.{Gone}

-- g tells which line leaves way w of L1D set i in state z, and how many bytes of it go to external memory
abbrev pub L1dGone : Gone → ℕ → ℕ → State → Type 0
L1dGone g i w z =
    (g.left ≡ l1d_left i w z) × ((g.written ≡ bytes_in (evict_l1d_moved i w z).written) × (g.written ≤ 64))
