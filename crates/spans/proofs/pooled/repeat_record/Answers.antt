-- The check does not find these alone.
use Rattle.std.proofs.lemmas.Result.{err_from_is_err_and}
use Rattle.spans.specs.Records.{record_in}
use Rattle.decode.proofs.Turns.{turn_more, turn_refused}
use Rattle.spans.proofs.pooled.repeat_record.Goals as goal

pub loop-preserved : goal.loop-preserved
loop-preserved g c =
    let p = g.T.Pooled in
    turn_more (λ input room. record_in input room p.layer p.part (g.T.Fields.field input room) p.first p.finish) c.loop.invariant c.loop-test.true c.in_ok-read_record.ensures

pub returns-in_err-read_record : goal.returns-in_err-read_record
returns-in_err-read_record g c =
    let p = g.T.Pooled in
    let e = err_from_is_err_and c.from_residual.result c.from_residual.ensures.1 in
    rw (e.1, e.2) (turn_refused (λ input room. record_in input room p.layer p.part (g.T.Fields.field input room) p.first p.finish) c.loop.invariant c.loop-test.true c.in_err-read_record.ensures)
