-- What a frame returns, in the model's terms.
use Rattle.model.specs.Records.{State}
use Rattle.agreement.specs.Frames.{Framed as Frame}
use Rattle.frames.specs.declared.Framed.{Framed}

abbrev pub told_framed : Framed → State → Frame
told_framed x z = record { number = x.number; turn = x.turn; sums = x.sums; next = z }
