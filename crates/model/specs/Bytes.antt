-- Parts of a lent memory and values of several bytes, as paper 01 speaks of them. Both guards below never act on a
-- well-formed record:
-- `part-inside` and `stored-inside` (Laws) take them away. They make every definition above them say something of
-- every record.
use Rattle.std.specs.Prelude.{ℕ, zero, suc, ◌%◌, ◌+◌, ◌-◌, ◌/◌, ◌*◌, cond, List, [], ◌++◌, ◌∷◌, length, take, drop, replicate, leb}

-- m with bs in place of the bytes from a on
unfoldable pub splice : List ℕ → ℕ → List ℕ → List ℕ
splice m a bs = take a m ++ (bs ++ drop (a + length bs) m)

-- the n bytes from a on; none where they do not all lie in the memory
unfoldable pub part : List ℕ → ℕ → ℕ → List ℕ
part m a n = cond (leb (a + n) (length m)) (take n (drop a m)) []

-- the memory once bs went into the part that begins at a; unchanged where they do not all lie in it
unfoldable pub stored : List ℕ → ℕ → List ℕ → List ℕ
stored m a bs = cond (leb (a + length bs) (length m)) (splice m a bs) m

-- the number of some bytes, little-endian; and the n bytes of a number
unfoldable pub little : List ℕ → ℕ
little [] = 0
little (b ∷ bs) = b + 256 * little bs

unfoldable pub little_bytes : ℕ → ℕ → List ℕ
little_bytes v zero = []
little_bytes v (suc n) = v % 256 ∷ little_bytes (v / 256) n

-- the first k bytes, then zeros up to n bytes
unfoldable pub zero_from : ℕ → List ℕ → ℕ → List ℕ
zero_from k m n = take k m ++ replicate (n - k) 0
