-- `decode::next_command` meets its contract: each return is the command of as many numbers as were read, or damage.
use Rattle.std.proofs.Common.{arith, refl}
use Rattle.decode.specs.Codes.{decode-end, decode-no-code, decode-no-numbers, decode-no-first, decode-one, decode-no-second, decode-two, decode-no-value, decode-three}
use Rattle.decode.proofs.next_command.Goals as goal

-- ---- the code byte
pub returns-then-trace-at : goal.returns-then-trace-at
returns-then-trace-at c = decode-end c.if-trace-at.true

pub returns-in_err-count : goal.returns-in_err-count
returns-in_err-count c =
    rw c.from_residual.ensures (decode-no-code c.if-trace-at.false c.in_err-count.ensures.count refl)

pub returns-then-count-eq0 : goal.returns-then-count-eq0
returns-then-count-eq0 c = decode-no-numbers c.if-trace-at.false c.in_ok-count.ensures.count c.if-count-eq0.true

-- ---- the numbers
pub returns-in_err-first : goal.returns-in_err-first
returns-in_err-first c =
    rw c.from_residual-in_err-first.ensures
    (decode-no-first c.if-trace-at.false c.in_ok-count.ensures.count c.if-count-eq0.false c.in_ok-count.ensures.most
    c.in_err-first.ensures.tells)

pub returns-then-count-eq1 : goal.returns-then-count-eq1
returns-then-count-eq1 c =
    decode-one c.if-trace-at.false c.in_ok-count.ensures.count c.in_ok-first.ensures.tells c.if-count-eq1.true
    c.in_ok-first.ensures.within.1

pub returns-in_err-second : goal.returns-in_err-second
returns-in_err-second c =
    rw c.from_residual-in_err-second.ensures
    (decode-no-second c.if-trace-at.false c.in_ok-count.ensures.count c.in_ok-first.ensures.tells c.if-count-eq0.false
    c.if-count-eq1.false c.in_ok-count.ensures.most c.in_err-second.ensures.tells)

pub returns-then-count-eq2 : goal.returns-then-count-eq2
returns-then-count-eq2 c =
    decode-two c.if-trace-at.false c.in_ok-count.ensures.count c.in_ok-first.ensures.tells
    c.in_ok-second.ensures.tells c.if-count-eq2.true c.in_ok-second.ensures.within.1

pub returns-in_err-value : goal.returns-in_err-value
returns-in_err-value c =
    rw c.from_residual-in_err-value.ensures
    (decode-no-value c.if-trace-at.false c.in_ok-count.ensures.count c.in_ok-first.ensures.tells
    c.in_ok-second.ensures.tells (omega arith) c.in_err-value.ensures.tells)

pub returns : goal.returns
returns c =
    decode-three c.if-trace-at.false c.in_ok-count.ensures.count c.in_ok-first.ensures.tells
    c.in_ok-second.ensures.tells (omega arith) c.in_ok-value.ensures.tells c.in_ok-value.ensures.within.1
