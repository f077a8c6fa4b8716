-- 02, U8 for the whole chip: both sentences (`same-chip-behaviour`, `one-byte-stays-in-chip`). Why: each is a sentence
-- of the data side (`Runs`), shown of each of its calls in Behaviour and OneByte, and the chip's calls keep it
-- (ChipBoth). For the first any two bytes may stand for an address; for the second two equal ones, but for address n.
use Prim.Native.Nat.{ℕ, ◌+◌}
use mathlib.Core.Path.{◌≡◌, refl, ap, subst}
use mathlib.Core.List.{List, [], ◌∷◌}
use lib.ListN.{length, get_or}
use Rattle.model.specs.Bytes.{little_bytes}
use Rattle.model.specs.Records.{State}
use Rattle.model.specs.Calls.{Call, one_command, fresh_start, look, read_unaligned, write_unaligned, transfer_in, transfer_out, fetch_behind, called}
use Rattle.program.specs.L1p.{l1p_data}
use Rattle.program.specs.Fetches.{Chip, ChipReply}
use Rattle.program.specs.Chip.{ChipCall, on_data, fetch, l1p_block, l1p_all, chip_called}
use Rattle.two_runs.specs.TwoRuns.{SameButStored, SameButWritten, same_command, same_start, same_look, same_read, same_write, same_in, same_out, LentBytes}
use Rattle.two_runs.specs.TwoRuns as Says
use Rattle.two_runs.specs.ChipTwoRuns.{ChipSameButWritten, same_data, same_fetch, same_block, same_all, ChipListsSameButWritten, ChipShared, ChipSharedAlong, SameChipBehaviour, ChipSameButOneByte, ChipSameStateBut, ChipLentBytes, AllChipLentBytes, ChipSameBut, ChipSameButAlong, OneByteStaysInChip}
use Rattle.two_runs.specs.ChipTwoRuns as ChipSays
use Rattle.two_runs.proofs.Areas.{Twins}
use Rattle.two_runs.proofs.Pair.{pair-stored}
use Rattle.two_runs.proofs.Behaviour.{Any, any-pair, Same, fetch-call-both, called_same}
use Rattle.two_runs.proofs.Along.{Byte, SameAt, Along, along-start, along-says, along-pair, pair-along}
use Rattle.two_runs.proofs.Looking.{But, but-twins, twins-but}
use Rattle.two_runs.proofs.OneByte.{Stays, equal-bytes, same-reply, called-stays, not-started}
use Rattle.two_runs.proofs.ChipBoth.{zero-twins, Fetched, back, Runs, ChipPair, DataBoth, OwnBoth, data-both, fetch-both, block-both, all_both}

-- ==== the first sentence
first-fetched : (a : ℕ) {z z' : State} → SameButStored z z' → Fetched Any SameButStored a (called (fetch_behind a) z) (called (fetch_behind a) z')
first-fetched a {z} {z'} s =
    fetch-call-both Any z z' s (any-pair z z' s) (Fetched Any SameButStored a)
    (λ k. record { server = refl; report = refl; bytes = zero-twins Any (λ _. refl) a; next = s }) a
    (λ y y' r. let p = r.next in record { server = r.server; report = r.report; bytes = r.bytes; next = pair-stored p.1 })

abbrev first : Runs
first =
    record {
      P = Any;
      Both = SameButStored;
      Alike = SameButWritten;
      Says = λ _. Same;
      Lent = λ _ _. Unit {0};
      none = λ _. refl;
      stored = λ s. s;
      call = λ {c} {c'} w {z} {z'} s. called_same c c' w z z' s;
      refusal = λ _ s _. record { number = refl; server = refl; report = refl; next = s };
      unstarted = λ s _. record { number = refl; server = refl; report = refl; next = record { rec = refl; l1d = s.l1d; l2 = s.l2; ext = s.ext } };
      next = λ s. s.next;
      fetched = λ a s. first-fetched a s;
    }

abbrev SharedNext : ChipReply → ChipReply → Type 0
SharedNext r r' = ChipShared r r' × ChipPair first r.next r'.next

data-shared : {c : Call} {r r' : ChipReply} → DataBoth first c r r' → SharedNext r r'
data-shared b =
    let s = b.says in
    (record { number = s.number; server = s.server; report = s.report; l1p_left = b.left; rec = s.next.rec; lines = b.next.lines }, b.next)

own-shared : {Q : List ℕ → List ℕ → Type 0} {r r' : ChipReply} → OwnBoth first Q r r' → SharedNext r r'
own-shared b =
    (record { number = b.number; server = b.server; report = b.report; l1p_left = b.left; rec = b.next.data_side.rec; lines = b.next.lines }, b.next)

chip-shared : (c c' : ChipCall) → ChipSameButWritten c c' → (x x' : Chip) → ChipPair first x x' → SharedNext (chip_called c x) (chip_called c' x')
chip-shared _ _ (same_data {c} {c'} w) x x' h = data-shared (data-both first x x' h c c' w w)
chip-shared _ _ (same_fetch {a = y}) x x' h = own-shared (fetch-both first x x' h y)
chip-shared _ _ (same_block {b = y} {c = n}) x x' h = own-shared (block-both first x x' h y n)
chip-shared _ _ same_all x x' h = own-shared (all_both first x x' h)

pub same-chip-behaviour : SameChipBehaviour
same-chip-behaviour x x' s cs cs' w =
    along w x x' (record { data_side = s.data_side; lines = s.lines; long = s.bytes; held = λ _ _. record { byte = λ _ _. refl }; lent = λ _. tt })
  where
    along : {cs cs' : List ChipCall} → ChipListsSameButWritten cs cs' → (x x' : Chip) → ChipPair first x x' → ChipSharedAlong cs cs' x x'
    along ChipSays.ChipListsSameButWritten.end x x' h = ChipSays.ChipSharedAlong.end
    along (ChipSays.ChipListsSameButWritten.next {c} {c'} d w) x x' h =
        let r = chip-shared c c' d x x' h in ChipSays.ChipSharedAlong.next r.0 (along w (chip_called c x).next (chip_called c' x').next r.1)

-- ==== the second sentence
second-fetched : (n a : ℕ) {z z' : State} → Along n z z' → Fetched (But n) (Along n) a (called (fetch_behind a) z) (called (fetch_behind a) z')
second-fetched n a {z} {z'} h =
    fetch-call-both (Byte n) z z' h.stored (along-pair n z z' h) (Fetched (But n) (Along n) a)
    (λ k. record { server = refl; report = refl; bytes = zero-twins (But n) (λ _ _. refl) a; next = h }) a
    (λ y y' r. let p = r.next in record { server = r.server; report = r.report; bytes = but-twins r.bytes; next = pair-along h.external p.1 })

-- the same call in both runs
abbrev TheSame : Call → Call → Type 0
TheSame c c' = (c ≡ c') × LentBytes c

abbrev second : ℕ → Runs
second n =
    record {
      P = But n;
      Both = Along n;
      Alike = TheSame;
      Says = Stays n;
      Lent = λ m m'. (i : ℕ) → SameAt m m' i;
      none = λ _ _. refl;
      stored = λ h. h.stored;
      call = λ {c} k {z} {z'} h. subst (λ (d : Call). Stays n c (called c z) (called d z')) k.0 (called-stays n c k.1 z z' h);
      refusal = λ k h _. same-reply refl refl refl refl (ap back k.0) h;
      unstarted = λ {z} {z'} h l. same-reply refl refl refl refl refl (not-started n z z' h l);
      next = λ s. s.along;
      fetched = λ a h. second-fetched n a h;
    }

written_same : (c : Call) → SameButWritten c c
written_same (one_command c) = same_command (λ _ _. refl)
written_same fresh_start = same_start
written_same (look a) = same_look
written_same (read_unaligned n a) = same_read
written_same (write_unaligned n a v) = same_write (λ _. refl)
written_same (transfer_in a bs) = same_in refl
written_same (transfer_out a o) = same_out refl
written_same (fetch_behind a) = Says.SameButWritten.same_fetch

abbrev ButNext : ℕ → ChipCall → ChipReply → ChipReply → Type 0
ButNext n c r r' = ChipSameBut n c r r' × ChipPair (second n) r.next r'.next

pair-says : (n : ℕ) (x x' : Chip) → ChipPair (second n) x x' → ChipSameStateBut n x x'
pair-says n x x' h =
    record { data_side = along-says n x.data_side x'.data_side h.data_side; l1p = λ s v k l u. (h.held s v).byte k l u }

data-but : (n : ℕ) (c : Call) (r r' : ChipReply) → DataBoth (second n) c r r' → ButNext n (on_data c) r r'
data-but n c r r' b =
    let s = b.says in (
      record {
        shared = record { number = s.number; server = s.server; report = s.report; l1p_left = b.left; rec = s.along.stored.rec; lines = b.next.lines };
        answer = record { value = s.answer.value; handed_back = s.answer.handed_back };
        after = pair-says n r.next r'.next b.next;
      },
      b.next,
    )

own-but : (n : ℕ) (c : ChipCall) (Q : List ℕ → List ℕ → Type 0) → ((bs bs' : List ℕ) → Q bs bs' → Says.SameBytesBut (ChipSays.ChipHandedBackFor c n) bs bs') → (r r' : ChipReply) →
    OwnBoth (second n) Q r r' → ButNext n c r r'
own-but n c Q q r r' b = (
  record {
    shared = record { number = b.number; server = b.server; report = b.report; l1p_left = b.left; rec = b.next.data_side.stored.rec; lines = b.next.lines };
    answer = record { value = equal-bytes (ap (λ (v : ℕ). little_bytes v 8) b.value); handed_back = q r.bytes r'.bytes b.bytes };
    after = pair-says n r.next r'.next b.next;
  },
  b.next,
)

chip-but : (n : ℕ) (c : ChipCall) → ChipLentBytes c → (x x' : Chip) → ChipPair (second n) x x' → ButNext n c (chip_called c x) (chip_called c x')
chip-but n (on_data c) l x x' h = data-but n c (chip_called (on_data c) x) (chip_called (on_data c) x') (data-both (second n) x x' h c c (written_same c) (refl, l))
chip-but n (fetch a) l x x' h =
    own-but n (fetch a) (Twins (But n) a 32) (λ bs bs' t. twins-but n a 32 bs bs' t) (chip_called (fetch a) x) (chip_called (fetch a) x') (fetch-both (second n) x x' h a)
chip-but n (l1p_block b c) l x x' h =
    own-but n (l1p_block b c) (λ bs bs'. bs ≡ bs') (λ _ _ e. equal-bytes e) (chip_called (l1p_block b c) x) (chip_called (l1p_block b c) x') (block-both (second n) x x' h b c)
chip-but n l1p_all l x x' h =
    own-but n l1p_all (λ bs bs'. bs ≡ bs') (λ _ _ e. equal-bytes e) (chip_called l1p_all x) (chip_called l1p_all x') (all_both (second n) x x' h)

chip-start : (n : ℕ) (x x' : Chip) → ChipSameButOneByte n x x' → ChipPair (second n) x x'
chip-start n x x' o =
    let h = along-start n x.data_side x'.data_side o.data_side in
    record {
      data_side = h;
      lines = o.lines;
      long = ap length o.bytes;
      held = λ s _. record { byte = λ i _ _. ap (λ (m : List ℕ). get_or m (l1p_data s + i) 0) o.bytes };
      lent = λ _ i. (ap (λ (m : List ℕ). get_or m i 0) o.data_side.l2, o.data_side.l2_bytes i);
    }

pub one-byte-stays-in-chip : OneByteStaysInChip
one-byte-stays-in-chip n x x' o cs b = go cs b x x' (chip-start n x x' o)
  where
    go : (cs : List ChipCall) → AllChipLentBytes cs → (x x' : Chip) → ChipPair (second n) x x' → ChipSameButAlong n cs x x'
    go [] _ x x' h = ChipSays.ChipSameButAlong.end
    go (c ∷ cs) b x x' h =
        let r = chip-but n c b.0 x x' h in ChipSays.ChipSameButAlong.next r.0 (go cs b.1 (chip_called c x).next (chip_called c x').next r.1)
