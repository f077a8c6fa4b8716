-- What C is told of a reply: number, server and value as they are; what left a way as the number and the address that
-- `left_kind` and `left_address` (model/specs/Reports) give each case; how many bytes of external memory were read and
-- written.
use Rattle.std.specs.Prelude.{ℕ, List, ◌≡◌, ◌≢◌, replicate, OnErr}
use Rattle.std.proofs.Common.{refl, Result, Ok, Err}
use Rattle.kinds.specs.Numbers.{refusal_number, server_told}
use Rattle.kinds.specs.declared.Refusal.{Refusal}
use Rattle.model.specs.declared.Left.TheVariants.{NoWay}
use Rattle.model.specs.Reports.{left_kind, left_address}
use Rattle.model.specs.declared.Left.{Left}
use Rattle.access.specs.declared.Answer.{Answer}
use Rattle.program.specs.Fetches.{Chip, ChipReply}
use Rattle.chip_answers.specs.Told.{chip_answer_of, with_chip_bytes}
use Rattle.fetches.specs.declared.Fetched.{Fetched}
use Rattle.fetches.specs.Fetched.{fetched_as}
use Rattle.c_answers.specs.declared.CLeft.{CLeft}
use Rattle.c_answers.specs.declared.CAnswer.{CAnswer}
use Rattle.c_answers.specs.declared.CFetched.{CFetched}

abbrev pub told_left : Left → CLeft
told_left x = record { address = left_address x; kind = left_kind x }

abbrev pub told_reply : ChipReply → CAnswer
told_reply r =
    record {
      value = r.value;
      number = r.number;
      server = r.server;
      l1d_left = told_left r.report.l1d_left;
      l2_left = told_left r.report.l2_left;
      external_read = r.report.read;
      external_written = r.report.written;
    }

-- of an answer, of a refusal, whatever the chip behind it
abbrev pub told_accepted : Answer → CAnswer
told_accepted x =
    record {
      value = x.value;
      number = 0;
      server = server_told x.server;
      l1d_left = told_left x.l1d_left;
      l2_left = told_left x.l2_left;
      external_read = x.read;
      external_written = x.written;
    }

abbrev pub told_refusal : Refusal → CAnswer
told_refusal e =
    record {
      value = 0;
      number = refusal_number e;
      server = 0;
      l1d_left = told_left NoWay;
      l2_left = told_left NoWay;
      external_read = 0;
      external_written = 0;
    }

abbrev pub told_answer : Result Answer Refusal → CAnswer
told_answer (Ok x) = told_accepted x
told_answer (Err e) = told_refusal e

-- of a fetch; a refused one has zeros for its line
abbrev pub told_fetched : Result Fetched Refusal → CFetched
told_fetched (Ok x) = record { answer = told_accepted x.answer; l1p_left = told_left x.l1p_left; bytes = x.bytes }
told_fetched (Err e) = record { answer = told_refusal e; l1p_left = told_left NoWay; bytes = replicate 32 0 }

-- ---- what contracts say: C is told x, and k is the chip behind the call
abbrev pub Tells : CAnswer → Chip → ChipReply → Type 0
Tells x k r = (x ≡ told_reply r) × (k ≡ r.next)

-- of a fetch also what left its L1P way, and its bytes (02, U4)
abbrev pub TellsFetch : CFetched → Chip → ChipReply → Type 0
TellsFetch x k r = Tells x.answer k r × ((x.l1p_left ≡ told_left r.l1p_left) × (x.bytes ≡ r.bytes))

pub tells : (a : Result Answer Refusal) (k : Chip) (r : ChipReply) → chip_answer_of a k ≡ r → Tells (told_answer a) k r
tells (Ok x) k r e = rw (← e) (refl, refl)
tells (Err d) k r e = rw (← e) (refl, refl)

-- a call that hands back bytes, in a lent buffer that holds o behind it
pub tells-bytes : (a : Result Answer Refusal) (k : Chip) (o : List ℕ) (r : ChipReply) → with_chip_bytes (chip_answer_of a k) o ≡ r →
    Tells (told_answer a) k r × (o ≡ r.bytes)
tells-bytes (Ok x) k o r e = rw (← e) ((refl, refl), refl)
tells-bytes (Err d) k o r e = rw (← e) ((refl, refl), refl)

pub tells-fetch : (a : Result Fetched Refusal) (k : Chip) (r : ChipReply) → fetched_as a k ≡ r → TellsFetch (told_fetched a) k r
tells-fetch (Ok x) k r e = rw (← e) ((refl, refl), (refl, refl))
tells-fetch (Err d) k r e = rw (← e) ((refl, refl), (refl, refl))

-- what a refused call left alone, by the number that C is told
pub refuses : {P : Type 0} (a : Result Answer Refusal) → OnErr a P → (told_answer a).number ≢ 0 → P
refuses (Ok x) h n = absurd (n refl)
refuses (Err d) h n = h

pub fetch-refuses : {P : Type 0} (a : Result Fetched Refusal) → OnErr a P → (told_fetched a).answer.number ≢ 0 → P
fetch-refuses (Ok x) h n = absurd (n refl)
fetch-refuses (Err d) h n = h

pub ruleset told = (tells, tells-bytes, tells-fetch, refuses, fetch-refuses)
