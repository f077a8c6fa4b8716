-- `memory::clear_from` meets its contract: the part from k on is filled with zeros, or there is none.
use Rattle.memory.specs.Copied.{cleared-past, cleared-part}
use Rattle.memory.proofs.clear_from.Goals as goal

pub returns-then-k-m : goal.returns-then-k-m
returns-then-k-m c = cleared-part _ _ _ (c.fill.ensures.after (λ y e. e))

pub returns-else-k-m : goal.returns-else-k-m
returns-else-k-m c = cleared-past _ _ c.if-k-m.false
