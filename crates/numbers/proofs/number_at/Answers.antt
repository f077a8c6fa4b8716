-- `numbers::number_at` meets its contract: the loop reads groups as `Reading` says, and each return is one of its ends.
use Rattle.std.proofs.Common.{◌+◌, rules, arith}
use Rattle.numbers.specs.Groups.{number-end, number-one, room-at, reading-starts, reading-ends, reading-overlong, reading-done, reading-goes-on, reading-wide, reading-full}
use Rattle.numbers.proofs.number_at.Goals as goal

-- ---- before the loop
pub returns-then-trace-at-clause-tells : goal.returns-then-trace-at-clause-tells
returns-then-trace-at-clause-tells c = search (rules, number-end)

pub returns-then-first-lt128-clause-tells : goal.returns-then-first-lt128-clause-tells
returns-then-first-lt128-clause-tells c = search (rules, number-one)

pub returns-then-first-lt128-clause-small : goal.returns-then-first-lt128-clause-small
returns-then-first-lt128-clause-small c = omega (arith, room-at c.args.full c.args.top 0 (omega arith) (omega arith))

pub loop-i-init : goal.loop-i-init
loop-i-init c = search (rules, reading-starts)

-- ---- a turn
pub returns-then-left-i-clause-tells : goal.returns-then-left-i-clause-tells
returns-then-left-i-clause-tells c = reading-ends c.loop-i.invariant (omega arith)

pub returns-then-group-eq0-clause-tells : goal.returns-then-group-eq0-clause-tells
returns-then-group-eq0-clause-tells c = reading-overlong c.loop-i.invariant (omega arith) c.if-group-eq0.true

pub returns-then-group-lt128-clause-tells : goal.returns-then-group-lt128-clause-tells
returns-then-group-lt128-clause-tells c =
    reading-done c.loop-i.invariant (omega arith) (omega arith) (omega arith) c.if-group-eq0.false

pub loop-i-preserved : goal.loop-i-preserved
loop-i-preserved c =
    reading-goes-on c.loop-i.invariant (omega arith) (omega arith) (omega arith)
    (omega (arith, c.type_inv.trace (c.args.at + c.loop-i.i)))

-- ---- behind the loop: the group that stays below top
pub returns-then-left-full-clause-tells : goal.returns-then-left-full-clause-tells
returns-then-left-full-clause-tells c = reading-ends c.loop-i.invariant (omega arith)

pub returns-then-last-eq0-clause-tells : goal.returns-then-last-eq0-clause-tells
returns-then-last-eq0-clause-tells c = search (rules, reading-overlong)

pub returns-then-top-last-clause-tells : goal.returns-then-top-last-clause-tells
returns-then-top-last-clause-tells c = search (rules, reading-wide)

pub returns-clause-tells : goal.returns-clause-tells
returns-clause-tells c =
    reading-full c.loop-i.invariant (omega arith) (omega arith) (omega arith) (omega arith) c.if-last-eq0.false
