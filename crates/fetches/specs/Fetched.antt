-- What contracts say of a fetch: the reply that it gives, accepted or refused, with the chip behind it; the bytes of a
-- line; what the data side's record says of the address.
use Rattle.std.specs.Prelude.{ℕ, ◌≡◌, List, length, replicate}
use Rattle.std.proofs.Common.{Result, Ok, Err}
use Rattle.kinds.specs.Numbers.{refusal_number, server_told}
use Rattle.kinds.specs.declared.Refusal.{Refusal}
use Rattle.model.specs.Bytes.{stored}
use Rattle.model.specs.Records.{State, sram_of, l2_sets_of}
use Rattle.model.specs.Access.{cacheable}
use Rattle.model.specs.Fetches.{fetch_access}
use Rattle.model.specs.declared.Record.{Record}
use Rattle.program.specs.Fetches.{Chip, ChipReply, refused_fetch}
use Rattle.access.specs.Answered.{reported}
use Rattle.fetches.specs.declared.Fetched.{Fetched}
use Rattle.fetches.specs.declared.Asked.{Asked}

abbrev pub fetched_one : Fetched → Chip → ChipReply
fetched_one x k =
    record {
      number = 0;
      server = server_told x.answer.server;
      value = x.answer.value;
      bytes = x.bytes;
      report = reported x.answer;
      l1p_left = x.l1p_left;
      next = k;
    }

abbrev pub fetched_as : Result Fetched Refusal → Chip → ChipReply
fetched_as (Ok x) k = fetched_one x k
fetched_as (Err e) k = refused_fetch (refusal_number e) k

-- the array of a line, once bytes went into it
abbrev pub in_line : List ℕ → List ℕ
in_line bs = stored (replicate 32 0) 0 bs

-- what lies behind L1P has all of the line at a
abbrev pub WholeLine : ℕ → State → Type 0
WholeLine a z = length (fetch_access a z).bytes ≡ 32

-- what the data side's record says of an address, and its sizes
abbrev pub AskedOf : Asked → ℕ → Record → Type 0
AskedOf q a r = (q.cacheable ≡ cacheable r a) × ((q.split.sram ≡ sram_of r) × (q.split.sets ≡ l2_sets_of r))
