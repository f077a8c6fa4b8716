-- What the answers of this crate tell, in the model's terms.
use Rattle.traces.specs.ShortRuns.{ShortRun, RunNumber}
use Rattle.short_runs.specs.declared.ShortRun.{ShortRun as RunAnswer}
use Rattle.short_runs.specs.declared.RunNumber.{RunNumber as NumberAnswer}

abbrev pub told_run : RunAnswer → ShortRun
told_run r = record { number = r.number; length = r.length; digits = r.digits }

abbrev pub told_number : NumberAnswer → RunNumber
told_number r = record { number = r.number; run = r.run }
