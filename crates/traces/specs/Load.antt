-- 02, U9, "A load to repeat.": words from a seed, the accesses that they give, and the trace of the first n of them.
use Rattle.std.specs.Prelude.{ℕ, zero, suc, ◌+◌, ◌*◌, ◌-◌, ◌/◌, ◌%◌, cond, List, [], ◌∷◌, length, get_or, ltb, leb, eqb}
use Rattle.model.specs.Memories.{legal_external, external_base}
use Rattle.model.specs.Trace.{command}
use Rattle.traces.specs.Writing.{write_all, trace_bytes}
use Rattle.model.specs.declared.Command.{Command}

-- ---- the words: a list of them has the last one first
-- "All sums drop the carry out of 32 bits."
abbrev pub sum32 : ℕ → ℕ → ℕ
sum32 a b = (a + b) % 0x100000000

-- the word k places back of the one that comes next
abbrev pub places_back : ℕ → List ℕ → ℕ
places_back k ws = get_or ws (k - 1) 0

-- "From a 32-bit seed make 55 words: the first is the seed, each next is the one before plus 9E3779B9h. After that each
-- word is the sum of the words 24 and 55 places back.": the word that comes behind these
unfoldable pub next_word : ℕ → List ℕ → ℕ
next_word seed ws =
    cond (eqb (length ws) 0) seed
    (cond (ltb (length ws) 55) (sum32 (places_back 1 ws) 0x9E3779B9)
    (sum32 (places_back 24 ws) (places_back 55 ws)))

abbrev pub with_next : ℕ → List ℕ → List ℕ
with_next seed ws = next_word seed ws ∷ ws

-- the first k words
unfoldable pub words : ℕ → ℕ → List ℕ
words seed zero = []
words seed (suc k) = with_next seed (words seed k)

-- the k-th word; the first is number 1
abbrev pub word : ℕ → ℕ → ℕ
word seed k = places_back 1 (words seed k)

-- ---- "A word gives an aligned 4-byte access: bit 31 set means write, else read; its remainder by E ÷ 4, times 4, is
-- the offset into external memory; a written value is the word itself."
abbrev pub load_address : ℕ → ℕ → ℕ
load_address e w = external_base + w % (e / 4) * 4

unfoldable pub access_of : ℕ → ℕ → Command
access_of e w =
    cond (eqb (w / 0x80000000 % 2) 1) (command 1 4 (load_address e w) w) (command 0 4 (load_address e w) 0)

-- ---- "The trace of the first n accesses, from the 56th word on, is fixed by seed, E and n."
-- the accesses of n words from the k-th on
unfoldable pub accesses_from : ℕ → ℕ → ℕ → ℕ → List Command
accesses_from seed e k zero = []
accesses_from seed e k (suc n) = access_of e (word seed k) ∷ accesses_from seed e (suc k) n

abbrev pub accesses : ℕ → ℕ → ℕ → List Command
accesses seed e n = accesses_from seed e 56 n

abbrev pub load_bytes : ℕ → ℕ → ℕ → List ℕ
load_bytes seed e n = trace_bytes (accesses seed e n)

-- ---- "An illegal E gets 1, checked first; output too short for the whole trace gets 16 and changes no byte."
-- m: the output
unfoldable pub load_due : ℕ → ℕ → ℕ → List ℕ → ℕ
load_due seed e n m =
    cond (legal_external e) (cond (leb (length (load_bytes seed e n)) (length m)) 0 16) 1

-- what the call gives: the number, how many bytes the trace has, and the output behind it
pub record Loaded : Type 0 where
  pub number : ℕ
  pub length : ℕ
  pub out : List ℕ

abbrev pub loaded : ℕ → ℕ → List ℕ → Loaded
loaded n l m = record { number = n; length = l; out = m }

-- "It comes through the writer."
unfoldable pub load_trace : ℕ → ℕ → ℕ → List ℕ → Loaded
load_trace seed e n m =
    cond (eqb (load_due seed e n m) 0)
    (loaded 0 (write_all m 0 (accesses seed e n)).at (write_all m 0 (accesses seed e n)).out)
    (loaded (load_due seed e n m) 0 m)
