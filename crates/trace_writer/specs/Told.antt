-- What this crate's answers tell, in the model's terms: an answer with the output behind it; a writer.
use Rattle.std.specs.Prelude.{ℕ, List}
use denote.Ref.{at_last}
use Rattle.traces.specs.Writing.{Written, write_command}
use Rattle.model.specs.declared.Command.{Command}
use Rattle.trace_writer.specs.declared.Put.{Put}
use Rattle.trace_writer.specs.declared.Writer.{Writer}

abbrev pub told : Put → List ℕ → Written
told r m = record { number = r.number; at = r.at; out = m }

-- a command put behind the point that a writer has reached
abbrev pub wrote : Writer → Command → Written
wrote w k = write_command w.out.now w.at k

-- the writer after it: the same borrow, with the output that is left, and the point
abbrev pub reached : Writer → Command → Writer
reached w k = record { out = at_last w.out (wrote w k).out; at = (wrote w k).at }
