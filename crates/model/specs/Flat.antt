-- Paper 01, "Flat memory".
use Rattle.std.specs.Prelude.{ℕ, ◌-◌, cond, List, [], ◌∷◌, length, replicate, ltb, eqb}
use Rattle.model.specs.Bytes.{part, stored, little, little_bytes, zero_from}
use Rattle.model.specs.Memories.{external_base, sram_length}
use Rattle.model.specs.Modes.{smaller}
use Rattle.model.specs.Refusals.{access_due, mode_due}
use Rattle.model.specs.Unaligned.{unaligned_due}
use Rattle.model.specs.Transfers.{transfer_due}
use Rattle.model.specs.Fetches.{fetch_length, fetch_due}
use Rattle.model.specs.Calls.{Call, one_command, fresh_start, look, read_unaligned, write_unaligned, transfer_in, transfer_out, fetch_behind}
use Rattle.model.specs.declared.Command.{Command}

-- "State: L, E, S, S bytes of SRAM, E of external memory." (E is the length of external memory, S that of SRAM.)
pub record Flat : Type 0 where
  pub l2len : ℕ
  pub sram : List ℕ
  pub ext : List ℕ

abbrev pub flat : ℕ → List ℕ → List ℕ → Flat
flat l m e = record { l2len = l; sram = m; ext = e }

-- "Fresh: S = L, SRAM zero, external memory as lent."
unfoldable pub fresh_flat : ℕ → List ℕ → Flat
fresh_flat l e = flat l (replicate l 0) e

-- the n bytes at address a, and bytes put there
unfoldable pub flat_part : ℕ → ℕ → Flat → List ℕ
flat_part a n f = cond (ltb a external_base) (part f.sram a n) (part f.ext (a - external_base) n)

unfoldable pub flat_put : ℕ → List ℕ → Flat → Flat
flat_put a bs f =
    cond (ltb a external_base) (flat f.l2len (stored f.sram a bs) f.ext)
    (flat f.l2len f.sram (stored f.ext (a - external_base) bs))

-- "S becomes L − C for the new mode; SRAM bytes below the smaller of old and new S are kept, the other SRAM bytes are
-- zero."
unfoldable pub flat_mode : ℕ → Flat → Flat
flat_mode m f = flat f.l2len (zero_from (smaller (length f.sram) (sram_length f.l2len m)) f.sram (sram_length f.l2len m)) f.ext

-- what flat memory answers, the bytes that it hands back (02, U1: of a transfer out), and its state after it
pub record FlatReply : Type 0 where
  pub number : ℕ
  pub value : ℕ
  pub bytes : List ℕ
  pub next : Flat

abbrev pub flat_reply : ℕ → ℕ → Flat → FlatReply
flat_reply n v f = record { number = n; value = v; bytes = []; next = f }

-- "A read or write gets the lowest number due among checks 3 to 6, by this S."
abbrev pub flat_due : ℕ → ℕ → ℕ → Flat → ℕ
flat_due n a v f = access_due (length f.sram) (length f.ext) n a v

-- "If none is due, a read's value is the bytes at its address, little-endian,"
unfoldable pub flat_read : ℕ → ℕ → Flat → FlatReply
flat_read n a f = cond (eqb (flat_due n a 0 f) 0) (flat_reply 0 (little (flat_part a n f)) f) (flat_reply (flat_due n a 0 f) 0 f)

-- "and a write puts its value there likewise."
unfoldable pub flat_write : ℕ → ℕ → ℕ → Flat → FlatReply
flat_write n a v f = cond (eqb (flat_due n a v f) 0) (flat_reply 0 0 (flat_put a (little_bytes v n) f)) (flat_reply (flat_due n a v f) 0 f)

-- "A mode change gets 8 if that is due."
unfoldable pub flat_change : ℕ → Flat → FlatReply
flat_change m f = cond (eqb (mode_due f.l2len m) 0) (flat_reply 0 0 (flat_mode m f)) (flat_reply (mode_due f.l2len m) 0 f)

-- "No other call, and no refused one, does anything."
unfoldable pub flat_step : Command → Flat → FlatReply
flat_step c f =
    cond (eqb c.code 0) (flat_read c.first c.second f)
    (cond (eqb c.code 1) (flat_write c.first c.second c.value f)
    (cond (eqb c.code 10) (flat_change c.first f) (flat_reply 0 0 f)))

-- 02, U6: a non-aligned read or write, refused by this S, its bytes read and written at once
abbrev pub flat_unaligned_due : ℕ → ℕ → ℕ → Flat → ℕ
flat_unaligned_due n a v f = unaligned_due (length f.sram) (length f.ext) n a v

unfoldable pub flat_read_unaligned : ℕ → ℕ → Flat → FlatReply
flat_read_unaligned n a f =
    cond (eqb (flat_unaligned_due n a 0 f) 0) (flat_reply 0 (little (flat_part a n f)) f)
    (flat_reply (flat_unaligned_due n a 0 f) 0 f)

unfoldable pub flat_write_unaligned : ℕ → ℕ → ℕ → Flat → FlatReply
flat_write_unaligned n a v f =
    cond (eqb (flat_unaligned_due n a v f) 0) (flat_reply 0 0 (flat_put a (little_bytes v n) f))
    (flat_reply (flat_unaligned_due n a v f) 0 f)

-- 02, U1: "flat memory .. moves the same bytes", refused by this S; "an out transfer's buffer is compared too"
abbrev pub flat_transfer_due : ℕ → ℕ → Flat → ℕ
flat_transfer_due n a f = transfer_due (length f.sram) (length f.ext) n a

unfoldable pub flat_transfer_in : ℕ → List ℕ → Flat → FlatReply
flat_transfer_in a bs f =
    cond (eqb (flat_transfer_due (length bs) a f) 0) (flat_reply 0 0 (flat_put a bs f))
    (flat_reply (flat_transfer_due (length bs) a f) 0 f)

abbrev pub flat_handed_back : ℕ → List ℕ → Flat → FlatReply
flat_handed_back n bs f = record { number = n; value = 0; bytes = bs; next = f }

unfoldable pub flat_transfer_out : ℕ → List ℕ → Flat → FlatReply
flat_transfer_out a o f =
    cond (eqb (flat_transfer_due (length o) a f) 0) (flat_handed_back 0 (flat_part a (length o) f) f)
    (flat_handed_back (flat_transfer_due (length o) a f) o f)

-- 02, U4: a fetch, refused by this S; its bytes
abbrev pub flat_fetch_due : ℕ → Flat → ℕ
flat_fetch_due a f = fetch_due (length f.sram) (length f.ext) a

unfoldable pub flat_fetch : ℕ → Flat → FlatReply
flat_fetch a f =
    cond (eqb (flat_fetch_due a f) 0) (flat_handed_back 0 (flat_part a fetch_length f) f)
    (flat_handed_back (flat_fetch_due a f) (replicate fetch_length 0) f)

-- a call of any kind; the state after calls, one after another
abbrev pub flat_called : Call → Flat → FlatReply
flat_called (one_command c) f = flat_step c f
flat_called fresh_start f = flat_reply 0 0 f
flat_called (look a) f = flat_reply 0 0 f
flat_called (read_unaligned n a) f = flat_read_unaligned n a f
flat_called (write_unaligned n a v) f = flat_write_unaligned n a v f
flat_called (transfer_in a bs) f = flat_transfer_in a bs f
flat_called (transfer_out a o) f = flat_transfer_out a o f
flat_called (fetch_behind a) f = flat_fetch a f

unfoldable pub flat_after : List Call → Flat → Flat
flat_after [] f = f
flat_after (c ∷ cs) f = flat_after cs (flat_called c f).next
