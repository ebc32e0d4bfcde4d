-- The check does not find these alone.
use Rattle.std.proofs.lemmas.Result.{err_from_is_err_and}
use Rattle.decode.proofs.Turns.{turn_more, turn_refused}
use Rattle.spans.proofs.fields.read_fields.Goals as goal

pub loop-preserved : goal.loop-preserved
loop-preserved g c = turn_more g.T.Fields.field c.loop.invariant c.loop-test.true c.in_ok-read_field.ensures

pub returns-in_err-read_field : goal.returns-in_err-read_field
returns-in_err-read_field g c =
    let p = err_from_is_err_and c.from_residual.result c.from_residual.ensures.1 in
    rw (p.1, p.2) (turn_refused g.T.Fields.field c.loop.invariant c.loop-test.true c.in_err-read_field.ensures)
