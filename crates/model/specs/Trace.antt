-- Paper 01, "Trace": numbers, commands, their codes.
use Rattle.std.specs.Prelude.{ℕ, suc, ◌+◌, ◌*◌, ◌-◌, Bool, true, false, cond, ◌||◌, ◌&&◌, ◌≡◌, List, [], ◌∷◌, drop, ltb, leb, eqb}
use Rattle.model.specs.declared.Command.{Command}

-- a number at the front of a trace: its value and how many bytes it takes; or none
pub record Number : Type 0 where
  pub ok : Bool
  pub value : ℕ
  pub used : ℕ

abbrev pub number : ℕ → ℕ → Number
number v k = record { ok = true; value = v; used = k }

abbrev pub no_number : Number
no_number = record { ok = false; value = 0; used = 0 }

-- "numbers in groups of seven bits, low group first, top bit set on all but the last, shortest form only":
-- the groups behind one whose top bit was set; the last of them is not 0
unfoldable pub more_groups : List ℕ → Number
more_groups [] = no_number
more_groups (b ∷ bs) =
    cond (ltb b 128) (cond (eqb b 0) no_number (number b 1))
    (cond (more_groups bs).ok (number (b - 128 + 128 * (more_groups bs).value) (suc (more_groups bs).used)) no_number)

unfoldable pub groups : List ℕ → Number
groups [] = no_number
groups (b ∷ bs) =
    cond (ltb b 128) (number b 1)
    (cond (more_groups bs).ok (number (b - 128 + 128 * (more_groups bs).value) (suc (more_groups bs).used)) no_number)

-- "Value is 64 bits wide, the others 32.": a number below the limit
unfoldable pub number_below : ℕ → List ℕ → Number
number_below limit bs = cond ((groups bs).ok && ltb (groups bs).value limit) (groups bs) no_number

abbrev pub number32 : List ℕ → Number
number32 bs = number_below 0x100000000 bs

abbrev pub number64 : List ℕ → Number
number64 bs = number_below 0x10000000000000000 bs

-- ---- "A command is a code byte and numbers"
abbrev pub command : ℕ → ℕ → ℕ → ℕ → Command
command c a b v = record { code = c; first = a; second = b; value = v }

-- the command at the front of a trace and how many bytes it takes; or damage: "11 means an unknown code, an overlong
-- or too wide number, or an end inside a command."
pub record Decoded : Type 0 where
  pub ok : Bool
  pub found : Command
  pub used : ℕ

abbrev pub decoded : Command → ℕ → Decoded
decoded c k = record { ok = true; found = c; used = k }

abbrev pub damaged : Decoded
damaged = record { ok = false; found = command 0 0 0 0; used = 0 }

-- one, two and three numbers behind the code byte; bs is what follows that byte
unfoldable pub one_number : ℕ → List ℕ → Decoded
one_number c bs = cond (number32 bs).ok (decoded (command c (number32 bs).value 0 0) (1 + (number32 bs).used)) damaged

unfoldable pub second_number : ℕ → ℕ → ℕ → List ℕ → Decoded
second_number c a k bs = cond (number32 bs).ok (decoded (command c a (number32 bs).value 0) (k + (number32 bs).used)) damaged

unfoldable pub two_numbers : ℕ → List ℕ → Decoded
two_numbers c bs =
    cond (number32 bs).ok (second_number c (number32 bs).value (1 + (number32 bs).used) (drop (number32 bs).used bs)) damaged

unfoldable pub value_number : Decoded → List ℕ → Decoded
value_number d bs =
    cond (number64 bs).ok
    (decoded (command d.found.code d.found.first d.found.second (number64 bs).value) (d.used + (number64 bs).used)) damaged

unfoldable pub three_numbers : ℕ → List ℕ → Decoded
three_numbers c bs = cond (two_numbers c bs).ok (value_number (two_numbers c bs) (drop ((two_numbers c bs).used - 1) bs)) damaged

-- "Codes: 0 read (size, address); 1 write (size, address, value); 2 L2 writeback all; 3 L2 writeback-invalidate all;
-- 4, 5, 6 L2 block writeback, writeback-invalidate, invalidate (base, count); 7, 8 L1D block writeback-invalidate,
-- invalidate (base, count); 9 L1D invalidate all; 10 mode; 11 MAR (number, bit)." 02, U11: "code 12, takes one number"
unfoldable pub decode_after : ℕ → List ℕ → Decoded
decode_after c bs =
    cond (eqb c 1) (three_numbers c bs)
    (cond (eqb c 0 || ((leb 4 c && leb c 8) || eqb c 11)) (two_numbers c bs)
    (cond (eqb c 10 || eqb c 12) (one_number c bs)
    (cond (eqb c 2 || (eqb c 3 || eqb c 9)) (decoded (command c 0 0 0) 1) damaged)))

unfoldable pub decode : List ℕ → Decoded
decode [] = damaged
decode (c ∷ bs) = decode_after c bs

-- ---- a trace of whole commands, which the reader accepts to its end: these commands
pub data Whole : List ℕ → List Command → Type 0 where
  none : Whole [] []
  one : {t : List ℕ} {cs : List Command} → (decode t).ok ≡ true → Whole (drop (decode t).used t) cs →
      Whole t ((decode t).found ∷ cs)
