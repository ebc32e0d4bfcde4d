use Rattle.spans.specs.Records.{record_in}
use Rattle.decode.proofs.Turns.{Left}
use Rattle.spans.proofs.pooled.repeat_record.Given as goal

abbrev pub invariant-loop : goal.invariant-loop
invariant-loop g l =
    let p = g.T.Pooled in
    Left (λ input room. record_in input room p.layer p.part (g.T.Fields.field input room) p.first p.finish) l.initial.decoder l.decoder l.count l.counter tt tt
