-- The byte of an address, as U13 has it (`byte_at`): what a read of that one byte gives. Shown: on a good state it is
-- right wherever there is one, so that in two good states of the same sizes it is the same where what is seen is the
-- same; an accepted read gives the bytes of its addresses; and the same of flat memory. Why: a read of one byte is
-- accepted just where the address is in SRAM or external memory, and every byte that an accepted read gives is right.
use Prim.Native.Nat.{ℕ, zero, suc, ◌+◌, ◌-◌, ◌≤◌, ◌<◌}
use mathlib.Core.Bool.{false}
use mathlib.Core.Path.{◌≡◌, refl, sym, ap, ◌∙◌, subst}
use mathlib.Core.List.{List, [], ◌∷◌}
use native.Mathlib.Omega.{arith}
use lib.ListN.{length, get_or}
use lib.Seq.{ext_get_or}
use lib.Dec.{ltb, eqb}
use borrow.Author.Tests.{ltb-true, ltb-false, eqb-true}
use Rattle.model.specs.Bytes.{little}
use Rattle.model.specs.Memories.{external_base}
use Rattle.model.specs.Records.{State, sram_of}
use Rattle.model.specs.Access.{Access, read_access}
use Rattle.model.specs.Flat.{Flat, flat_part, flat_read, flat_step}
use Rattle.model.specs.Refusals.{access_due}
use Rattle.model.specs.Calls.{Reply, command_due, read_done, accepted, step, unaligned_due_in}
use Rattle.dropped_lines.specs.Dropped.{one_byte, byte_at, flat_byte_at, bytes_at}
use Rattle.model.specs.Laws.{bool}
use Rattle.agreement.proofs.Invariant.{Allowed, Inside}
use Rattle.agreement.proofs.Memory.{Fits, read_length, read_at}
use Rattle.agreement.proofs.Good.{layout_of, Good, Well, good-well}
use Rattle.dropped_lines.proofs.Held.{Seen}
use Rattle.agreement.proofs.Due.{access-tells, accepted-read}
use Rattle.agreement.proofs.ReadWrite.{ReadGood}
use Rattle.agreement.proofs.Steps.{Quiet}
use Rattle.agreement.proofs.Unaligned.{one-due, all_fit}
use Rattle.agreement.proofs.Tested.{call_step}
use Rattle.agreement.proofs.Agreement.{flat_byte}

-- ---- the byte of an address
little-one : (bs : List ℕ) → length bs ≡ 1 → little bs ≡ get_or bs 0 0
unfolding little
little-one [] e = absurd (omega arith)
little-one (b ∷ []) e = omega arith
little-one (b ∷ c ∷ bs) e = absurd (omega arith)

due-one : (s e a : ℕ) → (a < external_base → a < s) → (external_base ≤ a → a < external_base + e) → access_due s e 1 a 0 ≡ 0
due-one s e a low high = one-due s e a 0 (λ l. let x = low l in omega arith) (λ l. let x = high l in omega arith) (omega arith)

-- each address of an accepted access is inside
pub due-inside : (z : State) (n a v : ℕ) → access_due (sram_of z.rec) z.rec.extlen n a v ≡ 0 → (b : ℕ) → a ≤ b → b < a + n → Inside (layout_of z.rec) b
due-inside z n a v d b h k =
    let t = access-tells (sram_of z.rec) z.rec.extlen n a v d in
    let mo = t.more in let row = t.row in
    record {
      low = λ l. let g = t.low (omega arith) in omega arith;
      high = λ l. bool (ltb a external_base)
          (λ y. let y' = ltb-true a external_base y in absurd (omega arith))
          (λ y. let g = t.high (ltb-false a external_base y) in omega arith);
    }

-- and of an accepted non-aligned one
pub unaligned-inside : (z : State) (n a v : ℕ) → unaligned_due_in z n a v ≡ 0 → (b : ℕ) → a ≤ b → b < a + n → Inside (layout_of z.rec) b
unaligned-inside z n a v d b h k =
    let f = (all_fit z n a v d).fits (b - a) (omega arith) in
    record { low = λ l. let x = f.low (omega arith) in omega arith; high = λ l. let x = f.high (omega arith) in omega arith }

byte_step : (z : State) → Well z → (a : ℕ) → byte_at z a ≡ (step (one_byte a) z).value
unfolding byte_at
byte_step z h a = ap (λ (r : Reply). r.value) (call_step (one_byte a) z h)

step_value : (z : State) (a : ℕ) → access_due (sram_of z.rec) z.rec.extlen 1 a 0 ≡ 0 → (step (one_byte a) z).value ≡ little (read_access 1 a z).bytes
unfolding step command_due accepted read_done
step_value z a d = rw d refl

step-refused : (z : State) (a : ℕ) → eqb (access_due (sram_of z.rec) z.rec.extlen 1 a 0) 0 ≡ false → (step (one_byte a) z).value ≡ 0
unfolding step command_due
step-refused z a t = rw t refl

-- it is right, where there is one
pub byte-right : (z : State) (F : Allowed) → Good z F → (a : ℕ) → Inside (layout_of z.rec) a → F.right a (byte_at z a)
byte-right z F q a i =
    let d = due-one (sram_of z.rec) z.rec.extlen a i.low i.high in
    let r = accepted-read z F q 1 a d in
    let j : a + 0 ≡ a = omega arith in
    let c : F.right a (get_or (read_access 1 a z).bytes 0 0) = rw j at (r.right 0 (omega arith)) in
    let e : byte_at z a ≡ get_or (read_access 1 a z).bytes 0 0 =
    byte_step z (good-well z F q) a ∙ step_value z a d ∙ little-one (read_access 1 a z).bytes r.long in
    subst (F.right a) (sym e) c

-- the same byte in two states, if it is the same where there is one
pub byte-same : (z z' : State) → Well z → Well z' → sram_of z'.rec ≡ sram_of z.rec → z'.rec.extlen ≡ z.rec.extlen → (a : ℕ) →
    (Inside (layout_of z.rec) a → byte_at z' a ≡ byte_at z a) → byte_at z' a ≡ byte_at z a
byte-same z z' h h' s e a f =
    let d = access_due (sram_of z.rec) z.rec.extlen 1 a 0 in
    let d' : access_due (sram_of z'.rec) z'.rec.extlen 1 a 0 ≡ d = rw (s, e) refl in
    bool (eqb d 0)
    (λ t. f (due-inside z 1 a 0 (eqb-true d 0 t) a (omega arith) (omega arith)))
    (λ t. byte_step z' h' a ∙ step-refused z' a (rw d' t) ∙ sym (byte_step z h a ∙ step-refused z a t))

-- ---- flat memory has the chip's sizes; its byte of an address
pub record SameSizes (z : State) (f : Flat) : Type 0 where
  pub l2len : f.l2len ≡ z.rec.l2len
  pub sram : length f.sram ≡ sram_of z.rec
  pub ext : length f.ext ≡ z.rec.extlen

pub sizes-quiet : (z z' : State) (F : Allowed) (f : Flat) → SameSizes z f → Quiet z F z' → SameSizes z' f
sizes-quiet z z' F f m q =
    record { l2len = m.l2len ∙ sym q.l2len; sram = m.sram ∙ sym (sram-same q.l2len q.mode); ext = m.ext ∙ sym q.extlen }
  where
    sram-same : z'.rec.l2len ≡ z.rec.l2len → z'.rec.mode ≡ z.rec.mode → sram_of z'.rec ≡ sram_of z.rec
    sram-same a b = rw (a, b) refl

pub flat-byte : (z : State) (F : Allowed) → Good z F → (f : Flat) → SameSizes z f → (a : ℕ) → Inside (layout_of z.rec) a → flat_byte_at f a ≡ flat_byte f a
unfolding flat_byte_at flat_step flat_read flat_part
flat-byte z F q f m a i =
    let s = m.sram in let e = m.ext in let x = q.tidy.sizes.l2_most in
    let d : access_due (length f.sram) (length f.ext) 1 a 0 ≡ 0 =
    due-one (length f.sram) (length f.ext) a (λ k. let l = i.low k in omega arith) (λ k. let l = i.high k in omega arith) in
    let fits : Fits f.sram f.ext a 1 = record { low = λ k. let l = i.low k in omega arith; high = λ k. let l = i.high k in omega arith } in
    let j : a + 0 ≡ a = omega arith in
    rw (flat_byte_at, d) (little-one (flat_part a 1 f) (read_length f.sram f.ext a 1 fits) ∙ (rw j at (read_at f.sram f.ext a 1 fits (omega arith) 0 (omega arith))))

-- ---- the bytes of a read
bytes-length : (z : State) (a n : ℕ) → length (bytes_at z a n) ≡ n
unfolding bytes_at
bytes-length z a zero = refl
bytes-length z a (suc n) = ap suc (bytes-length z (suc a) n)

bytes-get : (z : State) (n a j : ℕ) → j < n → get_or (bytes_at z a n) j 0 ≡ byte_at z (a + j)
unfolding bytes_at
bytes-get z zero a j h = absurd (omega arith)
bytes-get z (suc n) a zero h = let e : a + 0 ≡ a = omega arith in rw e refl
bytes-get z (suc n) a (suc j) h = let e : suc a + j ≡ a + suc j = omega arith in rw (← e) (bytes-get z n (suc a) j (omega arith))

pub read-bytes : (z : State) (g : ℕ → ℕ) (h : ℕ → List ℕ) → Good z (Seen g h) → (n a : ℕ) (x : Access) → ReadGood z (Seen g h) a n x →
    ((b : ℕ) → a ≤ b → b < a + n → Inside (layout_of z.rec) b) → x.bytes ≡ bytes_at z a n
read-bytes z g h q n a x r i =
    let l = r.long in
    ext_get_or 0 x.bytes (bytes_at z a n) (l ∙ sym (bytes-length z a n))
    (λ j k. let k' : j < n = omega arith in
    (r.right j k').0 ∙ sym (bytes-get z n a j k' ∙ (byte-right z (Seen g h) q (a + j) (i (a + j) (omega arith) (omega arith))).0))
