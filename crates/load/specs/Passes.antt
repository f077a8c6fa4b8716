-- The two passes over the accesses, one that measures the trace and one that writes it: the trace of the accesses made
-- so far, one of them more, and the whole, which is no shorter.
use Rattle.std.specs.Prelude.{◌≡◌, ℕ, zero, suc, ◌+◌, ◌≤◌, ◌++◌, cond, List, length, leb}
use Rattle.std.proofs.Common.{refl, add-one, append_assoc, append-nil, arith, length-append}
use Rattle.std.proofs.lemmas.Bool.Decides.{nat_tests}
use Rattle.model.specs.Bytes.{stored}
use Rattle.model.specs.Memories.{legal_external}
use Rattle.traces.specs.Writing.{command_bytes, trace_bytes}
use Rattle.traces.specs.Load.{word, access_of, accesses_from, load_bytes, load_due, loaded, load_trace}
use Rattle.traces.proofs.Load.{legal, trace-written, read_length, write-length}

module _ (seed e : ℕ) where
  from_next : (k n : ℕ) → trace_bytes (accesses_from seed e k (suc n))
      ≡ trace_bytes (accesses_from seed e k n) ++ command_bytes (access_of e (word seed (k + n)))
  unfolding trace_bytes accesses_from
  from_next k zero = let z : k + 0 ≡ k = omega arith in rw z (append-nil (command_bytes (access_of e (word seed k))))
  from_next k (suc n) =
      let z : k + suc n ≡ suc k + n = omega arith in
      rw (z, from_next (suc k) n, append_assoc) refl

  from_within : (k n all : ℕ) → n ≤ all →
      length (trace_bytes (accesses_from seed e k n)) ≤ length (trace_bytes (accesses_from seed e k all))
  unfolding trace_bytes accesses_from
  from_within k zero all h = omega arith
  from_within k (suc n) zero h = absurd (omega arith)
  from_within k (suc n) (suc all) h =
      let i = from_within (suc k) n all (omega arith) in omega (arith, length-append {A = ℕ})

  pub bytes_next : (n : ℕ) →
      load_bytes seed e (n + 1) ≡ load_bytes seed e n ++ command_bytes (access_of e (word seed (56 + n)))
  bytes_next n = rw add-one (from_next 56 n)

  pub bytes_within : (n all : ℕ) → n ≤ all → length (load_bytes seed e n) ≤ length (load_bytes seed e all)
  bytes_within n all h = from_within 56 n all h

-- how many bytes an access has
pub ruleset lengths = (read_length, write-length)

-- "An illegal E gets 1, checked first; output too short for the whole trace gets 16"
pub load_told : (seed e n : ℕ) (m : List ℕ) → load_trace seed e n m ≡ cond (legal_external e)
    (cond (leb (length (load_bytes seed e n)) (length m))
    (loaded 0 (length (load_bytes seed e n)) (stored m 0 (load_bytes seed e n))) (loaded 16 0 m)) (loaded 1 0 m)
unfolding load_trace load_due
load_told seed e n m = grind (arith, nat_tests, legal, trace-written)

pub ruleset loads = (legal, load_told, nat_tests)
