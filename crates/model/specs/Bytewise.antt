-- 02, U6: what is stated of the non-aligned accesses. "each done as single-byte accesses from the lowest address up":
-- byte k of an accepted one is the command that reads or writes that byte, called and accepted in the state that the
-- bytes below it left (`ReadIsBytes`, `WriteIsBytes`; shown by agreement/proofs/Unaligned). So its state is theirs one
-- after another, and by definition (Unaligned, Calls) its server is the highest of theirs, its value their bytes in
-- order, its counts theirs added up. Then the bound on its counts (shown by agreement/proofs/Bounds).
use Rattle.std.specs.Prelude.{ℕ, ◌+◌, ◌≤◌, ◌<◌, ◌≡◌, get_or}
use Rattle.model.specs.Basics.{each}
use Rattle.model.specs.Bytes.{little_bytes}
use Rattle.model.specs.Records.{State, Shape}
use Rattle.model.specs.Unaligned.{read_up, write_up}
use Rattle.model.specs.Trace.{command}
use Rattle.model.specs.Calls.{Reply, call, read_done, write_done, Call, read_unaligned, write_unaligned, called}
use Rattle.model.specs.declared.Command.{Command}

-- ---- the commands of byte k
abbrev pub byte_read : ℕ → ℕ → Command
byte_read a k = command 0 1 (a + k) 0

abbrev pub byte_write : ℕ → ℕ → ℕ → ℕ → Command
byte_write n a v k = command 1 1 (a + k) (get_or (little_bytes v n) k 0)

-- commands 0 to k - 1, one after another
abbrev pub calls_to : (ℕ → Command) → ℕ → State → State
calls_to f k z = each (λ i x. (call (f i) x).next) k z

-- ---- each byte's command, where the calls of the bytes below it have come to, is answered as the byte's access says;
-- and the state behind the last of them
pub record IsBytes (f : ℕ → Command) (byte : ℕ → Reply) (n : ℕ) (z z' : State) : Type 0 where
  pub each-byte : (k : ℕ) → k < n → call (f k) (calls_to f k z) ≡ byte k
  pub next : z' ≡ calls_to f n z

abbrev pub ReadIsBytes : Type 0
ReadIsBytes =
    (n a : ℕ) (z : State) → Shape z.rec → (called (read_unaligned n a) z).number ≡ 0 →
    IsBytes (byte_read a) (λ k. read_done 1 (a + k) (read_up k a z).next) n z (called (read_unaligned n a) z).next

abbrev pub WriteIsBytes : Type 0
WriteIsBytes =
    (n a v : ℕ) (z : State) → Shape z.rec → (called (write_unaligned n a v) z).number ≡ 0 →
    IsBytes (byte_write n a v)
    (λ k. write_done 1 (a + k) (get_or (little_bytes v n) k 0) (write_up k a (little_bytes v n) z).next) n z
    (called (write_unaligned n a v) z).next

-- ---- "The bound on external bytes becomes 256 each way.": for every call and every record, well formed or not, whose
-- arrays have the lengths that its type gives them: else no line could be found again once it was filled.
abbrev pub AtMost256 : Type 0
AtMost256 =
    (c : Call) (z : State) → Shape z.rec → ((called c z).report.read ≤ 256) × ((called c z).report.written ≤ 256)
