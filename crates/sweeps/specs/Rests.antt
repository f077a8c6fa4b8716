-- A line at which a code over all L2 lines has nothing to do: a clean one where lines are only written out (10), an
-- empty way for every other code.
use Rattle.std.specs.Prelude.{ℕ, false, ◌≢◌, ◌≡◌}
use Rattle.model.specs.Lines.{empty_line}
use Rattle.model.specs.declared.Line.{Line}

abbrev pub Rests : ℕ → Line → Type 0
Rests code x = (code ≡ 10 → x.dirty ≡ false) × (code ≢ 10 → x ≡ empty_line)
