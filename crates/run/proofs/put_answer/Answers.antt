-- `run::put_answer` meets its contract: two bytes and a value of eight are an answer of ten.
use Rattle.run.specs.Executed.{answer-put}
use Rattle.run.proofs.put_answer.Goals as goal

pub returns-in-Ok : goal.returns-in-Ok
returns-in-Ok c =
    let a = c.args in
    rw (c.in-Ok.is, ← c.server_told.ensures)
    (answer-put a.answers.now a.count 0 c.server_told.result c.in-Ok.answer.value c.requires _ c.store_bytes.ensures)

pub returns-in-Err : goal.returns-in-Err
returns-in-Err c =
    let a = c.args in
    rw (c.in-Err.is, ← c.number.ensures.0)
    (answer-put a.answers.now a.count c.number.result 0 0 c.requires _ c.store_bytes-in-Err.ensures)
