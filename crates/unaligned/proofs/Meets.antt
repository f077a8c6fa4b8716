-- The commands of single bytes, one after another, are the non-aligned accesses of 02, U6 on a state that passed checks
-- 1 and 2: each is accepted where the bytes below it left off (crate agreement), and gives one byte.
use Rattle.std.specs.Prelude.{ℕ, zero, suc, ◌+◌, ◌*◌, ◌/◌, ◌%◌, ◌≤◌, ◌<◌, true, ◌≡◌, length, get_or, ltb, eqb}
use Rattle.std.proofs.Math.Path.{refl, sym, ap}
use Rattle.std.proofs.Common.{◌∙◌, arith, length-append}
use mathlib.Core.List.{List, [], ◌∷◌, ◌++◌}
use borrow.Author.Tests.{ltb-true, ltb-false, eqb-false}
use Rattle.model.specs.Basics.{each}
use Rattle.model.specs.Bytes.{little, little_bytes}
use Rattle.model.specs.Memories.{external_base}
use Rattle.model.specs.Records.{State, state, sram_of}
use Rattle.model.specs.Access.{read_access, write_access}
use Rattle.model.specs.Reports.{Report, read_report, write_report}
use Rattle.model.specs.Refusals.{lent_due, size_ok}
use Rattle.model.specs.Unaligned.{unaligned_size, unaligned_due, read_up, write_up, read_up_report, write_up_report, added, higher}
use Rattle.model.specs.Trace.{command}
use Rattle.model.specs.Calls.{Reply, replied, refused, command_due, read_done, write_done, accepted, step, call, unaligned_due_in, read_unaligned_done, write_unaligned_done, read_unaligned_step, write_unaligned_step}
use Rattle.model.specs.Bytewise.{byte_read, byte_write, calls_to}
use Rattle.model.specs.Laws.{bool, cond-elim}
use Rattle.model.specs.declared.Command.{Command}
use Rattle.agreement.proofs.Good.{Well, Anything, layout_of}
use Rattle.agreement.proofs.Tested.{due-well}
use Rattle.agreement.proofs.Unaligned.{all_fit, read_up_lem, due-fits, written_byte, read-up-bytes, write-up-bytes}
use Rattle.tags.specs.Words.{record_in, state_in, shaped}
use Rattle.std.proofs.lemmas.Bool.Decides.{nat_tests}
use Rattle.kinds.specs.Numbers.{refusal_number, refusal_some}
use Rattle.kinds.specs.declared.Refusal.{Refusal}
use Rattle.unaligned.specs.Upwards.{rest_at, byte_of, Sofar, sofar, and_then, up_to, up_done}

-- ---- a record in words that passes checks 1 and 2
pub lent-well : (ws d m e : List ℕ) → lent_due (state (record_in ws) d m e) ≡ 0 → Well (state (record_in ws) d m e)
lent-well ws d m e h = due-well (state (record_in ws) d m e) (shaped ws) h

-- ---- the bytes of a value
rest_of : (v k : ℕ) → rest_at (v / 256) k ≡ rest_at v (suc k)
rest_of v zero = refl
rest_of v (suc k) = ap (λ (r : ℕ). r / 256) (rest_of v k)

rest-byte : (v n k : ℕ) → k < n → rest_at v k % 256 ≡ get_or (little_bytes v n) k 0
unfolding little_bytes
rest-byte v zero k h = absurd (omega arith)
rest-byte v (suc n) zero h = refl
rest-byte v (suc n) (suc k) h = sym (ap (λ (r : ℕ). r % 256) (rest_of v k)) ∙ rest-byte (v / 256) n k (omega arith)

rest-none : (k : ℕ) → rest_at 0 k ≡ 0
rest-none zero = refl
rest-none (suc k) = let e = rest-none k in rw e refl

little-one : (bs : List ℕ) → length bs ≡ 1 → little bs ∷ [] ≡ bs
unfolding little
little-one [] h = absurd (omega arith)
little-one (b ∷ []) h = let e : b + 256 * 0 ≡ b = omega arith in rw e refl
little-one (b ∷ c ∷ bs) h = absurd (omega arith)

little-zero : (bs : List ℕ) → little bs ≡ 0 → little (bs ++ (0 ∷ [])) ≡ 0
unfolding little
little-zero [] h = refl
little-zero (b ∷ bs) h = let r = little-zero bs (omega arith) in omega arith

bytes_one : (w : ℕ) → w < 256 → little_bytes w 1 ≡ w ∷ []
unfolding little_bytes
bytes_one w h = let e : w % 256 ≡ w = omega arith in rw e refl

-- ---- a command that is accepted is carried out
module _ (c : Command) (y : State) where
  call_step : (call c y).number ≡ 0 → call c y ≡ step c y
  unfolding call
  call_step =
      cond-elim (λ (r : Reply). r.number ≡ 0 → r ≡ step c y) (eqb (lent_due y) 0) (step c y) (refused (lent_due y) y) (λ _ _. refl)
      (λ t e. absurd (eqb-false (lent_due y) 0 t e))

  step-done : (step c y).number ≡ 0 → step c y ≡ accepted c y
  unfolding step
  step-done =
      cond-elim (λ (r : Reply). r.number ≡ 0 → r ≡ accepted c y) (eqb (command_due c y) 0) (accepted c y) (refused (command_due c y) y) (λ _ _. refl)
      (λ t e. absurd (eqb-false (command_due c y) 0 t e))

  carried : (call c y).number ≡ 0 → (step c y ≡ accepted c y) × (call c y ≡ accepted c y)
  carried h =
      let e = call_step h in let d = step-done (sym (ap (λ (r : Reply). r.number) e) ∙ h) in
      (d, e ∙ d)

-- ---- one command more
one_up : (f : ℕ → Command) (k : ℕ) (z : State) (w : Sofar) (x : Reply) → up_to f k z ≡ w → step (f k) w.next ≡ x → up_to f (suc k) z ≡ and_then w x
unfolding up_to
one_up f k z w x e ex = ap (λ (u : Sofar). and_then u (step (f k) u.next)) e ∙ ap (λ (r : Reply). and_then w r) ex

one-call : (c : ℕ → Command) (k : ℕ) (z y y' : State) → y ≡ calls_to c k z → (call (c k) y).next ≡ y' → y' ≡ calls_to c (suc k) z
unfolding each
one-call c k z y y' e ey = sym ey ∙ ap (λ (u : State). (call (c k) u).next) e

one-longer : (xs ys : List ℕ) (k : ℕ) → length xs ≡ k → length (xs ++ ys) ≡ suc k → length ys ≡ 1
one-longer xs ys k h l = let a = length-append xs ys in omega arith

-- ---- a read
module _ (b : ℕ) (y : State) (h : (call (command 0 1 b 0) y).number ≡ 0) where
  read_is : accepted (command 0 1 b 0) y ≡ read_done 1 b y
  unfolding accepted
  read_is = refl

  read_step : step (command 0 1 b 0) y ≡ read_done 1 b y
  read_step = (carried (command 0 1 b 0) y h).0 ∙ read_is

  read_next : (call (command 0 1 b 0) y).next ≡ (read_access 1 b y).next
  unfolding read_done
  read_next = ap (λ (r : Reply). r.next) ((carried (command 0 1 b 0) y h).1 ∙ read_is)

read-joined : (s : ℕ) (bs : List ℕ) (q : Report) (y u : State) (b : ℕ) → length (read_access 1 b u).bytes ≡ 1 →
    and_then (sofar s bs q y) (read_done 1 b u)
    ≡ sofar (higher s (read_access 1 b u).server) (bs ++ (read_access 1 b u).bytes) (added q (read_report 1 b u)) (read_access 1 b u).next
unfolding read_done
read-joined s bs q y u b h =
    let x = read_access 1 b u in ap (λ (t : List ℕ). sofar (higher s x.server) (bs ++ t) (added q (read_report 1 b u)) x.next) (little-one x.bytes h)

module _ (z : State) (q : Well z) (n a : ℕ) (d : unaligned_due_in z n a 0 ≡ 0) where
  abbrev f : ℕ → Command
  f = byte_of 0 a 0

  read-command : (k : ℕ) → f k ≡ byte_read a k
  read-command k = let e = rest-none k in rw e refl

  read-long : (k : ℕ) → k ≤ n → length (read_up k a z).bytes ≡ k
  read-long k h = let g = all_fit z n a 0 d in (read_up_lem z Anything q a k (record { fits = λ j l. g.fits j (omega arith) })).long

  read_one : (k : ℕ) → suc k ≤ n → length (read_access 1 (a + k) (read_up k a z).next).bytes ≡ 1
  unfolding read_up
  read_one k h = one-longer (read_up k a z).bytes (read_access 1 (a + k) (read_up k a z).next).bytes k (read-long k (omega arith)) (read-long (suc k) h)

  abbrev read_so : ℕ → Sofar
  read_so k = sofar (read_up k a z).server (read_up k a z).bytes (read_up_report k a z) (read_up k a z).next

  read-so : (k : ℕ) → suc k ≤ n → and_then (read_so k) (read_done 1 (a + k) (read_up k a z).next) ≡ read_so (suc k)
  unfolding read_up read_up_report
  read-so k h =
      let r = read_up k a z in read-joined r.server r.bytes (read_up_report k a z) r.next r.next (a + k) (read_one k h)

  abbrev Reads : ℕ → Type 0
  Reads k = (up_to f k z ≡ read_so k) × ((read_up k a z).next ≡ calls_to (byte_read a) k z)

  read-accepted : (k : ℕ) → k < n → (read_up k a z).next ≡ calls_to (byte_read a) k z → (call (byte_read a k) (read_up k a z).next).number ≡ 0
  unfolding read_done
  read-accepted k h e =
      ap (λ (u : State). (call (byte_read a k) u).number) e ∙ ap (λ (r : Reply). r.number) ((read-up-bytes z q n a d).each-byte k h)

  read-started : Reads 0
  unfolding up_to read_up read_up_report each
  read-started = (refl, refl)

  read-up-next : (k : ℕ) → (read_access 1 (a + k) (read_up k a z).next).next ≡ (read_up (suc k) a z).next
  unfolding read_up
  read-up-next k = refl

  reads : (k : ℕ) → k ≤ n → Reads k
  reads zero h = read-started
  reads (suc k) h =
      let r = reads k (omega arith) in let y = (read_up k a z).next in
      let ok = read-accepted k h r.1 in
      let st : step (f k) y ≡ read_done 1 (a + k) y = ap (λ (c : Command). step c y) (read-command k) ∙ read_step (a + k) y ok in (
        one_up f k z (read_so k) (read_done 1 (a + k) y) r.0 st ∙ read-so k h,
        one-call (byte_read a) k z y (read_up (suc k) a z).next r.1 (read_next (a + k) y ok ∙ read-up-next k),
      )

  read_done_lem : up_done f n z ≡ read_unaligned_done n a z
  unfolding up_done read_unaligned_done
  read_done_lem =
      ap (λ (w : Sofar). replied 0 w.server (little w.bytes) w.report w.next) (reads n (omega arith)).0

-- ---- a write
-- the values of writes are 0
abbrev zeros : ℕ → List ℕ
zeros zero = []
zeros (suc k) = zeros k ++ (0 ∷ [])

zeros-none : (k : ℕ) → little (zeros k) ≡ 0
unfolding little
zeros-none zero = refl
zeros-none (suc k) = little-zero (zeros k) (zeros-none k)

module _ (b w : ℕ) (l : w < 256) (y : State) (h : (call (command 1 1 b w) y).number ≡ 0) where
  abbrev written : Reply
  written = replied 0 (write_access b (w ∷ []) y).server 0 (write_report b (w ∷ []) y) (write_access b (w ∷ []) y).next

  write-is : accepted (command 1 1 b w) y ≡ written
  unfolding accepted write_done
  write-is =
      ap (λ (t : List ℕ). replied 0 (write_access b t y).server 0 (write_report b t y) (write_access b t y).next) (bytes_one w l)

  write_step : step (command 1 1 b w) y ≡ written
  write_step = (carried (command 1 1 b w) y h).0 ∙ write-is

  write-next : (call (command 1 1 b w) y).next ≡ (write_access b (w ∷ []) y).next
  write-next = ap (λ (r : Reply). r.next) ((carried (command 1 1 b w) y h).1 ∙ write-is)

module _ (z : State) (q : Well z) (n a v : ℕ) (d : unaligned_due_in z n a v ≡ 0) where
  abbrev g : ℕ → Command
  g = byte_of 1 a v

  abbrev bs : List ℕ
  bs = little_bytes v n

  write-command : (k : ℕ) → k < n → g k ≡ byte_write n a v k
  write-command k h = let e = rest-byte v n k h in rw e refl

  abbrev write_so : ℕ → Sofar
  write_so k = sofar (write_up k a bs z).server (zeros k) (write_up_report k a bs z) (write_up k a bs z).next

  abbrev byte_done : ℕ → Reply
  byte_done k =
      let y = (write_up k a bs z).next in let cs = get_or bs k 0 ∷ [] in
      replied 0 (write_access (a + k) cs y).server 0 (write_report (a + k) cs y) (write_access (a + k) cs y).next

  write-so : (k : ℕ) → and_then (write_so k) (byte_done k) ≡ write_so (suc k)
  unfolding write_up write_up_report
  write-so k = refl

  abbrev Writes : ℕ → Type 0
  Writes k = (up_to g k z ≡ write_so k) × ((write_up k a bs z).next ≡ calls_to (byte_write n a v) k z)

  write-accepted : (k : ℕ) → k < n → (write_up k a bs z).next ≡ calls_to (byte_write n a v) k z →
      (call (byte_write n a v k) (write_up k a bs z).next).number ≡ 0
  unfolding write_done
  write-accepted k h e =
      ap (λ (u : State). (call (byte_write n a v k) u).number) e ∙ ap (λ (r : Reply). r.number) ((write-up-bytes z q n a v d).each-byte k h)

  write-started : Writes 0
  unfolding up_to write_up write_up_report each
  write-started = (refl, refl)

  write-up-next : (k : ℕ) → (write_access (a + k) (get_or bs k 0 ∷ []) (write_up k a bs z).next).next ≡ (write_up (suc k) a bs z).next
  unfolding write_up
  write-up-next k = refl

  writes : (k : ℕ) → k ≤ n → Writes k
  writes zero h = write-started
  writes (suc k) h =
      let r = writes k (omega arith) in let y = (write_up k a bs z).next in
      let ok = write-accepted k h r.1 in let l = written_byte v n k in
      let st : step (g k) y ≡ byte_done k = ap (λ (c : Command). step c y) (write-command k h) ∙ write_step (a + k) (get_or bs k 0) l y ok in (
        one_up g k z (write_so k) (byte_done k) r.0 st ∙ write-so k,
        one-call (byte_write n a v) k z y (write_up (suc k) a bs z).next r.1 (write-next (a + k) (get_or bs k 0) l y ok ∙ write-up-next k),
      )

  write_done_lem : up_done g n z ≡ write_unaligned_done n a v z
  unfolding up_done write_unaligned_done
  write_done_lem =
      ap (λ (w : Sofar). replied 0 w.server (little w.bytes) w.report w.next) (writes n (omega arith)).0
      ∙ ap (λ (x : ℕ). replied 0 (write_up n a bs z).server x (write_up_report n a bs z) (write_up n a bs z).next) (zeros-none n)

-- ---- the number due
pub sized : (s e n a v : ℕ) → unaligned_due s e n a v ≡ 0 → size_ok n ≡ true
unfolding unaligned_due unaligned_size size_ok
sized s e n a v d = grind (arith, nat_tests)

-- an access that is refused
module _ (z : State) (n a v : ℕ) (x : Refusal) (d : refusal_number x ≡ unaligned_due_in z n a v) where
  pub read_refused : v ≡ 0 → refused (refusal_number x) z ≡ read_unaligned_step n a z
  unfolding read_unaligned_step
  read_refused ev = grind (arith, nat_tests, refusal_some)

  pub write_refused : refused (refusal_number x) z ≡ write_unaligned_step n a v z
  unfolding write_unaligned_step
  write_refused = grind (arith, nat_tests, refusal_some)

-- ---- on words that passed checks 1 and 2
module _ (ws ds ms es : List ℕ) (h : lent_due (state_in ws ds ms es) ≡ 0) where
  abbrev z : State
  z = state_in ws ds ms es

  pub sram_low : sram_of (record_in ws) + 8 ≤ external_base
  sram_low = let m = (lent-well ws ds ms es h).tidy.sizes.l2_most in omega arith

  -- an access that goes on
  module _ (n a v : ℕ) (d : unaligned_due_in z n a v ≡ 0) where
    pub ends : a + n ≤ 4294967296
    ends =
        let r = record_in ws in let low = sram_low in let most = (lent-well ws ds ms es h).tidy.sizes.ext_most in
        let c = due-fits (sram_of r) r.extlen n a v (layout_of r) refl refl low d in
        bool (ltb a external_base)
        (λ t. let x = c.low (ltb-true a external_base t) in omega arith)
        (λ t. let x = c.high (ltb-false a external_base t) in omega arith)

    pub read_done_up : (code : ℕ) → code ≡ 0 → v ≡ 0 → up_done (byte_of code a v) n z ≡ read_unaligned_step n a z
    unfolding read_unaligned_step
    read_done_up code ec ev =
        let i = rw ev at d in rw (ec, ev, i) (read_done_lem z (lent-well ws ds ms es h) n a i)

    pub write_done_up : (code : ℕ) → code ≡ 1 → up_done (byte_of code a v) n z ≡ write_unaligned_step n a v z
    unfolding write_unaligned_step
    write_done_up code ec = rw (ec, d) (write_done_lem z (lent-well ws ds ms es h) n a v d)

-- what closes the goals of the access as a whole
pub ruleset whole_access = (sized, read_refused, write_refused, sram_low, ends, read_done_up, write_done_up)
