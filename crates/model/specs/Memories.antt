-- Paper 01, "Memories lent by the caller".
use Rattle.std.specs.Prelude.{ℕ, ◌-◌, ◌%◌, Bool, cond, ◌||◌, ◌&&◌, leb, eqb}

-- "L1D data: exactly 16,384 bytes."
abbrev pub l1d_length : ℕ
l1d_length = 16384

-- "L2: L bytes, a multiple of 32,768, from 32,768 to 262,144."
unfoldable pub legal_l2 : ℕ → Bool
legal_l2 l = eqb (l % 32768) 0 && (leb 32768 l && leb l 262144)

-- "External: E bytes, a multiple of 128, from 128 to 33,554,432, ..."
unfoldable pub legal_external : ℕ → Bool
legal_external e = eqb (e % 128) 0 && (leb 128 e && leb e 33554432)

-- "... at address 80000000h."
abbrev pub external_base : ℕ
external_base = 0x80000000

-- "The cache size C goes by mode: 0 is 0; 1 is 32,768; 2 is 65,536; 3 is 131,072; 7 is 262,144."
-- A number that is no mode has no cache.
unfoldable pub cache_size : ℕ → ℕ
cache_size m = cond (eqb m 1) 32768 (cond (eqb m 2) 65536 (cond (eqb m 3) 131072 (cond (eqb m 7) 262144 0)))

-- the modes: "0 to 3 or 7" (refusal 8)
unfoldable pub is_mode : ℕ → Bool
is_mode m = leb m 3 || eqb m 7

-- "SRAM is the first S = L − C bytes of L2, at address 0."
abbrev pub sram_length : ℕ → ℕ → ℕ
sram_length l m = l - cache_size m
