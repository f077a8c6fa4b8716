-- How a command is written: the groups of a number one by one, the numbers one behind the other. What is written so far
-- and the groups that are left make what the whole number makes.
use Rattle.std.specs.Prelude.{ℕ, zero, suc, ◌+◌, ◌*◌, ◌-◌, ◌^◌, ◌/◌, ◌%◌, ◌<◌, ◌≤◌, List, [], ◌∷◌, ◌++◌, ◌≡◌, cond}
use Rattle.std.specs.Prelude.{length, take, drop, leb, ltb, eqb}
use Rattle.std.proofs.Common.{refl, sym, ap, ◌∙◌, arith, set, add-one, append_assoc, pow-suc, mul_assoc}
use Rattle.std.proofs.Common.{div-lt_iff_lt-mul, length-append, length-set, length-take, length-drop, take_at}
use Rattle.std.proofs.Common.{drop-drop}
use Rattle.std.proofs.lemmas.Bool.{le-ltb}
use Rattle.std.proofs.lemmas.List.{set_split}
use borrow.Rule.Slice.PartMut.{put_mid}
use Rattle.kinds.specs.Numbers.{refusal_some}
use Rattle.model.specs.Bytes.{stored, splice}
use Rattle.model.specs.Laws.{bool, stored-inside}
use Rattle.model.specs.Trace.{command}
use Rattle.model.specs.declared.Command.{Command}
use Rattle.traces.specs.Writing.{groups_of, number_bytes, numbers_taken, first_numbers, command_bytes, narrow, writable}
use Rattle.traces.specs.Writing.{write_due}
use Rattle.traces.proofs.Writing.{shortest-one, stored-join}

-- ---- one byte, and bytes behind bytes
pub set_stored : (m : List ℕ) (at x : ℕ) → at < length m → set m at x ≡ stored m at (x ∷ [])
unfolding splice
set_stored m at x h = set_split m at x h ∙ sym (stored-inside m at (x ∷ []) (omega arith) ∙ rw add-one refl)

pub stored_more : (m : List ℕ) (at n : ℕ) (xs ys : List ℕ) → n ≡ at + length xs → n + length ys ≤ length m →
    stored (stored m at xs) n ys ≡ stored m at (xs ++ ys)
stored_more m at n xs ys e h = rw e (stored-join m xs ys at (omega arith))

pub stored_next : (m : List ℕ) (at n x : ℕ) (xs : List ℕ) → n ≡ at + 1 → n + length xs ≤ length m →
    stored (set m at x) n xs ≡ stored m at (x ∷ xs)
stored_next m at n x xs e h = rw (set_stored m at x (omega arith)) (stored_more m at n (x ∷ []) xs (omega arith) h)

-- the bytes of a command, by how many numbers its code takes
pub command_is : (c a b v : ℕ) → command_bytes (command c a b v) ≡ c ∷ cond (eqb (numbers_taken c) 0) []
    (cond (eqb (numbers_taken c) 1) (number_bytes a)
    (cond (eqb (numbers_taken c) 2) (number_bytes a ++ number_bytes b)
    (number_bytes a ++ (number_bytes b ++ number_bytes v))))
unfolding command_bytes first_numbers
command_is c a b v = refl

pub ruleset puts = (set_stored, stored_next, stored_more, length-append, length-set, append_assoc, command_is)

-- ---- the groups of a number
groups_next : (more v : ℕ) → 128 ≤ v → groups_of (suc more) v ≡ (v % 128 + 128) ∷ groups_of more (v / 128)
unfolding groups_of
groups_next more v h = rw (le-ltb v 128 h) refl

pub groups_last : (more v : ℕ) → v < 128 → groups_of more v ≡ v ∷ []
groups_last more v h = sym (shortest-one more v h)

pub groups_some : (more v : ℕ) → 1 ≤ length (groups_of more v)
unfolding groups_of
groups_some zero v = omega arith
groups_some (suc more) v = bool (ltb v 128) (λ t. rw t (omega arith)) (λ t. rw t (omega arith))

-- bytes were put from byte k of bs up to byte n, and the groups of `rest` make the whole number
pub record Grouping (bs : List ℕ) (k number : ℕ) (bytes : List ℕ) (n rest : ℕ) : Type 0 where
  pub more : ℕ
  pub same : length bytes ≡ length bs
  pub small : rest < 2 * 128 ^ more
  pub ends : n + length (groups_of more rest) ≡ k + length (number_bytes number)
  pub whole : stored bytes n (groups_of more rest) ≡ stored bs k (number_bytes number)

some_more : (more v : ℕ) → v < 2 * 128 ^ more → 128 ≤ v → more ≡ suc (more - 1)
some_more zero v s h = absurd (omega arith)
some_more (suc more) v s h = omega arith

smaller : (more v : ℕ) → v < 2 * 128 ^ suc more → v / 128 < 2 * 128 ^ more
smaller more v h =
    (div-lt_iff_lt-mul {k = 128} (omega arith)).1 (rw (pow-suc 128 more, ← mul_assoc 2 (128 ^ more) 128) at h)

pub grouping_on : {bs bytes : List ℕ} {k number n rest : ℕ} → Grouping bs k number bytes n rest →
    k + length (number_bytes number) ≤ length bs → 128 ≤ rest →
    Grouping bs k number (set bytes n (rest % 128 + 128)) (n + 1) (rest / 128)
grouping_on {bs} {bytes} {k} {number} {n} {rest} g room h =
    let m = g.more - 1 in
    let e = some_more g.more rest g.small h in
    let s = groups_next m rest h in
    let end : n + suc (length (groups_of m (rest / 128))) ≡ k + length (number_bytes number) =
    omega (arith, ap length s, rw e at g.ends) in
    record {
      more = m;
      same = simp length-set g.same;
      small = smaller m rest (rw e at g.small);
      ends = omega arith;
      whole =
          stored_next bytes n (n + 1) (rest % 128 + 128) (groups_of m (rest / 128)) refl (omega (arith, g.same))
          ∙ rw (← s, ← e) g.whole;
    }

pub ruleset groups = (groups_last, groups_some, grouping_on, set_stored)

-- ---- a command
groups_most : (more v : ℕ) → length (groups_of more v) ≤ suc more
unfolding groups_of
groups_most zero v = omega arith
groups_most (suc more) v =
    bool (ltb v 128) (λ t. rw t (omega arith)) (λ t. rw t (let h = groups_most more (v / 128) in omega arith))

-- a code and three numbers of ten groups
pub command_few : (k : Command) → length (command_bytes k) ≤ 31
unfolding command_bytes first_numbers
command_few k = grind (arith, length-append, groups_most)

-- what is due goes by how many numbers the code takes, which is 4 where there is no such code
pub due_told : (m : List ℕ) (at c a b v : ℕ) → v < 0x10000000000000000 →
    write_due m at (command c a b v)
    ≡ cond (ltb (numbers_taken c) 4) (cond (narrow (numbers_taken c) (command 0 a b 0))
    (cond (leb (at + length (command_bytes (command c a b v))) (length m)) 0 16) 11) 11
unfolding write_due writable narrow
due_told m at c a b v f = grind arith

-- the first bytes of an array are those that were put there
pub taken_stored : (m xs : List ℕ) (n : ℕ) → n ≡ length xs → n ≤ length m → take n (stored m 0 xs) ≡ xs
unfolding splice
taken_stored m xs n e h = rw (stored-inside m 0 xs (omega arith)) (take_at xs (drop (0 + length xs) m) n (sym e))

-- bytes copied into a part of the output are stored there
pub put_stored : (m xs : List ℕ) (at k : ℕ) → k ≡ length xs → at + k ≤ length m → put_mid at k m xs ≡ stored m at xs
unfolding splice
put_stored m xs at k e h = rw (e, drop-drop, stored-inside m at xs (omega arith)) refl

pub ruleset puts_command = (command_few, due_told, taken_stored, put_stored, refusal_some, length-take, length-drop)
