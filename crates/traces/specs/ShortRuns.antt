-- 02, U12, "All short runs.": eight commands by digit, runs of up to four of them, and their numbers.
-- A run is its digits alone.
use Rattle.std.specs.Prelude.{ℕ, zero, suc, ◌+◌, ◌*◌, ◌-◌, ◌^◌, ◌/◌, ◌%◌, ◌<◌, Bool, true, cond, ◌&&◌, List, [], ◌∷◌, ◌++◌, map, ◌⊎◌, ◌≡◌, length, replicate, ltb, leb, eqb}
use Rattle.model.specs.Trace.{command}
use Rattle.model.specs.declared.Command.{Command}

-- "With MAR 128 set": the command that comes before every run
abbrev pub set_mar128 : Command
set_mar128 = command 11 128 1 0

-- "eight commands get digits: 0 and 1 read one byte at 80000000h and 80002000h; 2 and 3 write 1 and 2 there;
-- 4 L2 writeback all; 5 L2 writeback-invalidate all; 6 mode 0; 7 mode 1."
unfoldable pub command_of_digit : ℕ → Command
command_of_digit d =
    cond (eqb d 0) (command 0 1 0x80000000 0)
    (cond (eqb d 1) (command 0 1 0x80002000 0)
    (cond (eqb d 2) (command 1 1 0x80000000 1)
    (cond (eqb d 3) (command 1 1 0x80002000 2)
    (cond (eqb d 4) (command 2 0 0 0)
    (cond (eqb d 5) (command 3 0 0 0)
    (cond (eqb d 6) (command 10 0 0 0) (command 10 1 0 0)))))))

abbrev pub commands_of_run : List ℕ → List Command
commands_of_run ds = set_mar128 ∷ map command_of_digit ds

-- ---- "List every run of up to four commands, shorter first, then by digits, the first weighing most": of b digits
-- "shorter first": how many runs are shorter than k
unfoldable pub shorter_runs : ℕ → ℕ → ℕ
shorter_runs b zero = 0
shorter_runs b (suc k) = shorter_runs b k + b ^ k

-- "then by digits, the first weighing most": how many runs as long come before
unfoldable pub digits_value : ℕ → List ℕ → ℕ
digits_value b [] = 0
digits_value b (d ∷ ds) = d * b ^ length ds + digits_value b ds

-- "From a number give the run, from a run its number.": the number of a run
unfoldable pub digits_number : ℕ → List ℕ → ℕ
digits_number b ds = shorter_runs b (length ds) + digits_value b ds

-- the run of k digits before which v as long come
unfoldable pub digits_of_value : ℕ → ℕ → ℕ → List ℕ
digits_of_value b zero v = []
digits_of_value b (suc k) v = v / b ^ k ∷ digits_of_value b k (v % b ^ k)

-- the run of number n, counted from the first of k digits on; it has `more` digits more at most
unfoldable pub digits_from : ℕ → ℕ → ℕ → ℕ → List ℕ
digits_from b k zero n = digits_of_value b k n
digits_from b k (suc more) n = cond (ltb n (b ^ k)) (digits_of_value b k n) (digits_from b (suc k) more (n - b ^ k))

abbrev pub run_of : ℕ → List ℕ
run_of n = digits_from 8 0 4 n

abbrev pub number_of : List ℕ → ℕ
number_of ds = digits_number 8 ds

-- "4,681 runs, the empty one being number 0."
abbrev pub last_run : ℕ
last_run = 4680

-- ---- the order, said by itself: the first digit in which two runs differ decides
unfoldable pub earlier_digits : List ℕ → List ℕ → Type 0
earlier_digits [] es = ⊥
earlier_digits (d ∷ ds) [] = ⊥
earlier_digits (d ∷ ds) (e ∷ es) = (d < e) ⊎ ((d ≡ e) × earlier_digits ds es)

-- "shorter first, then by digits"
abbrev pub EarlierRun : List ℕ → List ℕ → Type 0
EarlierRun ds es = (length ds < length es) ⊎ ((length ds ≡ length es) × earlier_digits ds es)

-- ---- "Errors: 18 for a number above 4,680, a longer run or a digit above 7, the only check of this call"
unfoldable pub all_below : ℕ → List ℕ → Bool
all_below b [] = true
all_below b (d ∷ ds) = ltb d b && all_below b ds

unfoldable pub is_run : List ℕ → Bool
is_run ds = leb (length ds) 4 && all_below 8 ds

-- what the two calls give: a run comes in four digits, those behind its length being 0
pub record ShortRun : Type 0 where
  pub number : ℕ
  pub length : ℕ
  pub digits : List ℕ

abbrev pub short_run : ℕ → List ℕ → ShortRun
short_run n ds = record { number = n; length = length ds; digits = ds ++ replicate (4 - length ds) 0 }

pub record RunNumber : Type 0 where
  pub number : ℕ
  pub run : ℕ

abbrev pub run_number : ℕ → ℕ → RunNumber
run_number n k = record { number = n; run = k }

-- "number 0 or the empty run comes with it."
unfoldable pub short_run_of : ℕ → ShortRun
short_run_of n = cond (leb n last_run) (short_run 0 (run_of n)) (short_run 18 [])

unfoldable pub short_run_number : List ℕ → RunNumber
short_run_number ds = cond (is_run ds) (run_number 0 (number_of ds)) (run_number 18 0)
