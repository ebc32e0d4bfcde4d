use Rattle.decode.proofs.Turns.{Left}
use Rattle.spans.proofs.fields.read_fields.Given as goal

abbrev pub invariant-loop : goal.invariant-loop
invariant-loop g l = Left g.T.Fields.field l.initial.decoder l.decoder l.count l.counter l.initial.fields l.fields
