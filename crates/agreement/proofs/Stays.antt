-- A record stays well formed (`stays-well-formed`): through every list of calls the next call finds neither 1 nor 2
-- due.
-- Why: what passes checks 1 and 2 is a well-formed state (`due-well`); a command leaves one (`call-well`), and so does
-- a non-aligned access and a transfer; a view changes nothing, and lengths that pass check 1 are legal, so that a fresh
-- start is accepted and leaves the fresh state.
use Prim.Native.Nat.{ℕ}
use mathlib.Core.Bool.{true}
use mathlib.Core.Path.{◌≡◌, refl}
use mathlib.Core.List.{List, [], ◌∷◌, ◌++◌}
use native.Mathlib.Omega.{arith}
use lib.ListN.{length, replicate, length-replicate}
use borrow.Author.Tests.{eq-eqb}
use Rattle.model.specs.Memories.{legal_l2, legal_external, cache_size, is_mode}
use Rattle.model.specs.Records.{State, fresh_record, fresh_state}
use Rattle.model.specs.Calls.{fresh_ok, fresh_call, view_done, Call, one_command, fresh_start, look, read_unaligned, write_unaligned, transfer_in, transfer_out, fetch_behind, called, after}
use Rattle.model.specs.Stays.{StaysWellFormed}
use Rattle.agreement.proofs.Good.{Sizes, Anything, Well}
use Rattle.agreement.proofs.Tested.{legal_l2-tells, legal_external-tells, legal_l2-makes, legal_external-makes, due-well, well-due, call-well}
use Rattle.agreement.proofs.Unaligned.{read-unaligned-well, write-unaligned-well}
use Rattle.agreement.proofs.Transfers.{transfer-in-well, transfer-out-well}
use Rattle.agreement.proofs.Fetches.{fetch-well}
use Rattle.agreement.proofs.Changes.{fresh-good}

-- ---- the fresh state
pub fresh-sizes : (l : ℕ) (e : List ℕ) → legal_l2 l ≡ true → legal_external (length e) ≡ true →
    Sizes l (length e) 0 (replicate 16384 0) (replicate l 0) e
unfolding cache_size is_mode
fresh-sizes l e hl he =
    let p = legal_l2-tells l hl in let x = legal_external-tells (length e) he in
    record {
      l1d_length = length-replicate {A = ℕ} 16384 0;
      l2_length = length-replicate {A = ℕ} l 0;
      ext_length = refl;
      l2_least = p.0;
      l2_most = p.1;
      l2_whole = p.2;
      ext_least = x.0;
      ext_most = x.1;
      ext_whole = x.2;
      legal_mode = refl;
      cache_most = omega arith;
    }

pub fresh-well : (l : ℕ) (e : List ℕ) → legal_l2 l ≡ true → legal_external (length e) ≡ true → Well (fresh_state l e)
unfolding fresh_state fresh_record
fresh-well l e hl he = fresh-good (fresh_state l e) Anything refl refl refl refl (fresh-sizes l e hl he) (λ _ _. refl)

-- ---- each call
start-well : (z : State) → Well z → Well (called fresh_start z).next
unfolding fresh_call fresh_ok
start-well z h =
    let n = h.tidy.sizes in
    let l = n.l2_length in let x = n.ext_length in
    let a : legal_l2 (length z.l2) ≡ true = rw l (legal_l2-makes z.rec.l2len n.l2_least n.l2_most n.l2_whole) in
    let b : legal_external (length z.ext) ≡ true = rw x (legal_external-makes z.rec.extlen n.ext_least n.ext_most n.ext_whole) in
    rw (eq-eqb (length z.l1d) 16384 n.l1d_length, a, b) (fresh-well (length z.l2) z.ext a b)

pub called-well : (c : Call) (z : State) → Well z → Well (called c z).next
unfolding view_done
called-well (one_command c) z h = call-well c z h
called-well fresh_start z h = start-well z h
called-well (look a) z h = h
called-well (read_unaligned n a) z h = read-unaligned-well n a z h
called-well (write_unaligned n a v) z h = write-unaligned-well n a v z h
called-well (transfer_in a bs) z h = transfer-in-well a bs z h
called-well (transfer_out a o) z h = transfer-out-well a o z h
called-well (fetch_behind a) z h = fetch-well a z h

pub after-append : (cs ds : List Call) (z : State) → after (cs ++ ds) z ≡ after ds (after cs z)
unfolding after
after-append [] ds z = refl
after-append (c ∷ cs) ds z = after-append cs ds (called c z).next

pub after-well : (cs : List Call) (z : State) → Well z → Well (after cs z)
unfolding after
after-well [] z h = h
after-well (c ∷ cs) z h = after-well cs (called c z).next (called-well c z h)

pub stays-well-formed : StaysWellFormed
stays-well-formed z s d cs = well-due (after cs z) (after-well cs z (due-well z s d))
