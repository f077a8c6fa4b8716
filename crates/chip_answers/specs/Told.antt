-- An answer, or a refusal, told as the reply of a call that chose no way of L1P; and with the bytes that the call handed
-- back in a buffer that was lent to it.
use Rattle.std.specs.Prelude.{ℕ, List}
use Rattle.std.proofs.Common.{Result}
use Rattle.kinds.specs.declared.Refusal.{Refusal}
use Rattle.access.specs.Answered.{answer_of}
use Rattle.access.specs.declared.Answer.{Answer}
use Rattle.program.specs.Fetches.{Chip, ChipReply, beside_l1p}

abbrev pub chip_answer_of : Result Answer Refusal → Chip → ChipReply
chip_answer_of x k = beside_l1p (answer_of x k.data_side) k

abbrev pub with_chip_bytes : ChipReply → List ℕ → ChipReply
with_chip_bytes r o =
    record {
      number = r.number;
      server = r.server;
      value = r.value;
      bytes = o;
      report = r.report;
      l1p_left = r.l1p_left;
      next = r.next;
    }
