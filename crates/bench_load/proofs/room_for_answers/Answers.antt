-- The law of `replicate` is named, since a search would write the array out.
use Rattle.std.proofs.Common.{ℕ, sym}
use Rattle.std.proofs.lemmas.List.{length-replicate}
use Rattle.bench_load.proofs.room_for_answers.Goals as goal

pub returns : goal.returns
returns c = sym (length-replicate {A = ℕ} 1497970 0)
