-- What a frame returns, told as the chip's frame.
use Rattle.program.specs.Fetches.{Chip}
use Rattle.program.specs.Runs.{ChipFramed}
use Rattle.frames.specs.declared.Framed.{Framed}

abbrev pub told_chip_framed : Framed → Chip → ChipFramed
told_chip_framed x k = record { number = x.number; turn = x.turn; sums = x.sums; next = k }
