-- 02, U7, "Writing traces.": the bytes of a command, and what a write does to the lent output.
use Rattle.std.specs.Prelude.{ℕ, zero, suc, ◌+◌, ◌/◌, ◌%◌, Bool, true, cond, ◌&&◌, ◌||◌, List, [], ◌∷◌, ◌++◌, length, ltb, leb, eqb}
use Rattle.model.specs.Bytes.{stored}
use Rattle.model.specs.Trace.{command}
use Rattle.model.specs.declared.Command.{Command}

-- ---- the bytes of a command
-- "groups of seven bits, low group first, top bit set on all but the last, shortest form only" (01): `more` groups at
-- most follow the first
unfoldable pub groups_of : ℕ → ℕ → List ℕ
groups_of zero v = v ∷ []
groups_of (suc more) v = cond (ltb v 128) (v ∷ []) ((v % 128 + 128) ∷ groups_of more (v / 128))

-- a number of 64 bits has ten groups at most
abbrev pub number_bytes : ℕ → List ℕ
number_bytes v = groups_of 9 v

-- how many numbers a code takes, by the table of codes (01; 02, U11 has 12); 4: "a code the trace lacks"
unfoldable pub numbers_taken : ℕ → ℕ
numbers_taken c =
    cond (eqb c 1) 3
    (cond (eqb c 0 || ((leb 4 c && leb c 8) || eqb c 11)) 2
    (cond (eqb c 10 || eqb c 12) 1 (cond (eqb c 2 || (eqb c 3 || eqb c 9)) 0 4)))

-- "Numbers a code doesn't take are no part of its command.": the bytes of the first n numbers of a command
unfoldable pub first_numbers : ℕ → Command → List ℕ
first_numbers n k =
    cond (eqb n 0) []
    (cond (eqb n 1) (number_bytes k.first)
    (cond (eqb n 2) (number_bytes k.first ++ number_bytes k.second)
    (number_bytes k.first ++ (number_bytes k.second ++ number_bytes k.value))))

unfoldable pub command_bytes : Command → List ℕ
command_bytes k = k.code ∷ first_numbers (numbers_taken k.code) k

-- the command without the numbers that its code doesn't take
unfoldable pub only_first : ℕ → Command → Command
only_first n k =
    cond (eqb n 0) (command k.code 0 0 0)
    (cond (eqb n 1) (command k.code k.first 0 0) (cond (eqb n 2) (command k.code k.first k.second 0) k))

abbrev pub without_spare : Command → Command
without_spare k = only_first (numbers_taken k.code) k

-- ---- "Errors: 16 for too few bytes left, checked last, after 11, which stands here for a code the trace lacks or a
-- number too wide."
-- no number that the code takes is too wide: "Value is 64 bits wide, the others 32." (01)
unfoldable pub narrow : ℕ → Command → Bool
narrow n k =
    cond (eqb n 0) true
    (ltb k.first 0x100000000 && cond (eqb n 1) true
    (ltb k.second 0x100000000 && cond (eqb n 2) true (ltb k.value 0x10000000000000000)))

unfoldable pub writable : Command → Bool
writable k = ltb (numbers_taken k.code) 4 && narrow (numbers_taken k.code) k

-- m: the output, at: the point reached; a point behind the end leaves no byte
unfoldable pub write_due : List ℕ → ℕ → Command → ℕ
write_due m at k = cond (writable k) (cond (leb (at + length (command_bytes k)) (length m)) 0 16) 11

-- ---- "a writer that keeps the lent output and the point it has reached, and puts one command at a time behind it."
pub record Written : Type 0 where
  pub number : ℕ
  pub at : ℕ
  pub out : List ℕ

abbrev pub written : ℕ → ℕ → List ℕ → Written
written n at m = record { number = n; at = at; out = m }

-- "A command that doesn't fit changes no byte."; a refused one neither, and the point stays
unfoldable pub write_command : List ℕ → ℕ → Command → Written
write_command m at k =
    cond (eqb (write_due m at k) 0) (written 0 (at + length (command_bytes k)) (stored m at (command_bytes k)))
    (written (write_due m at k) at m)

-- commands one after another, up to the first that is refused
unfoldable pub write_all : List ℕ → ℕ → List Command → Written
write_all m at [] = written 0 at m
write_all m at (k ∷ ks) =
    cond (eqb (write_command m at k).number 0) (write_all (write_command m at k).out (write_command m at k).at ks)
    (write_command m at k)

-- the bytes that they make
unfoldable pub trace_bytes : List Command → List ℕ
trace_bytes [] = []
trace_bytes (k ∷ ks) = command_bytes k ++ trace_bytes ks
