-- Commands one after another, with what the loop keeps of them: the highest server, the values as bytes, the counts
-- added up, the state. And the loop's laws: where it begins, one turn, its end.
use Rattle.std.specs.Prelude.{ℕ, zero, suc, ◌+◌, ◌/◌, ◌%◌, ◌≤◌, ◌<◌, ◌≡◌, List, [], ◌∷◌, ◌++◌, length, take, set}
use Rattle.std.proofs.Math.Path.{refl}
use Rattle.std.proofs.Common.{ap, arith, add-one}
use Rattle.std.proofs.Math.Seq.{take-suc-set}
use Rattle.model.specs.Bytes.{part, little}
use Rattle.model.specs.Records.{State}
use Rattle.model.specs.Reports.{Report, no_report}
use Rattle.model.specs.Unaligned.{higher, added}
use Rattle.model.specs.Trace.{command}
use Rattle.model.specs.Calls.{Reply, replied, step}
use Rattle.model.specs.Laws.{part-inside}
use Rattle.model.specs.declared.Command.{Command}
use Rattle.model.specs.declared.Left.TheVariants.{NoWay}
use Rattle.access.specs.Answered.{accepted_of}
use Rattle.kinds.specs.Numbers.{server_told}
use Rattle.access.specs.declared.Answer.{Answer}

-- ---- what a reply says but for its number
abbrev pub told_of : Reply → Reply
told_of r = record r { number = 0 }

-- ---- the value once its first k bytes are taken off, and the command of byte k
abbrev pub rest_at : ℕ → ℕ → ℕ
rest_at v zero = v
rest_at v (suc k) = rest_at v k / 256

abbrev pub byte_of : ℕ → ℕ → ℕ → ℕ → Command
byte_of code a v k = command code 1 (a + k) (rest_at v k % 256)

-- ---- commands 0 to k - 1
pub record Sofar : Type 0 where
  pub server : ℕ
  pub bytes : List ℕ
  pub report : Report
  pub next : State

abbrev pub sofar : ℕ → List ℕ → Report → State → Sofar
sofar k bs q z = record { server = k; bytes = bs; report = q; next = z }

abbrev pub and_then : Sofar → Reply → Sofar
and_then y x = sofar (higher y.server x.server) (y.bytes ++ (x.value ∷ [])) (added y.report x.report) x.next

unfoldable pub up_to : (ℕ → Command) → ℕ → State → Sofar
up_to f zero z = sofar 0 [] no_report z
up_to f (suc k) z = and_then (up_to f k z) (step (f k) (up_to f k z).next)

unfoldable pub up_done : (ℕ → Command) → ℕ → State → Reply
up_done f n z = replied 0 (up_to f n z).server (little (up_to f n z).bytes) (up_to f n z).report (up_to f n z).next

-- ---- the loop
abbrev pub counts : ℕ → ℕ → Report
counts i j = record { l1d_left = NoWay; l2_left = NoWay; read = i; written = j }

module _ (f : ℕ → Command) (z₀ z z' : State) (k server i j : ℕ) (bs : List ℕ) where
  pub turned : sofar server (take k bs) (counts i j) z ≡ up_to f k z₀ → k < length bs → (x : Answer) → accepted_of x z' ≡ told_of (step (f k) z) →
      sofar (higher server (server_told x.server)) (take (k + 1) (set bs k x.value)) (counts (i + x.read) (j + x.written)) z' ≡ up_to f (k + 1) z₀
  unfolding up_to
  turned e h x ex =
      rw (add-one, take-suc-set bs k x.value h, ← e) (ap (λ (r : Reply). and_then (sofar server (take k bs) (counts i j) z) r) ex)

pub rest_next : (v k : ℕ) → rest_at v k / 256 ≡ rest_at v (k + 1)
rest_next v k = rw add-one refl

pub ended : (f : ℕ → Command) (z₀ z : State) (n server i j : ℕ) (bs : List ℕ) → sofar server (take n bs) (counts i j) z ≡ up_to f n z₀ →
    n ≤ length bs → replied 0 server (little (part bs 0 n)) (counts i j) z ≡ up_done f n z₀
unfolding up_done
ended f z₀ z n server i j bs e h = rw (part-inside bs 0 n (omega arith), ← e) refl
