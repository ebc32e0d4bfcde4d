-- What follows a record is no matter to it. Assumes nothing.
use Rattle.wire.specs.Payload.{Link, Event, Span, Chunk, Payload}
use Rattle.wire.specs.Fields.{LinkField, EventField, SpanField, ChunkField, PayloadField}
use Rattle.wire.specs.Standing.{Standing, at}
use Rattle.wire.specs.Form.{MapAt}
use Rattle.wire.specs.Records.{LinkFieldAt, LinkAt, link, EventFieldAt, EventAt, event, SpanFieldAt, SpanAt, span, ChunkFieldAt, ChunkAt, chunk, PayloadFieldAt, PayloadAt, payload}
use Rattle.wire.proofs.Moves.{Moved, Begun, Moves, mapped, mapped-begun, joined}
use Rattle.wire.proofs.Parts.{head-moves, natural-moves, signed-moves, text-moves, trace_id-moves, array-moves, map-begun, map-moves}
use Rattle.wire.proofs.Levels.{skipped-moves, attributes-moves}

link-field : {f : LinkField} {p q : Standing} → LinkFieldAt f p q → Moved (λ l r. LinkFieldAt f (at l p) (at r q)) p.bytes q.bytes
link-field (LinkFieldAt.trace_id h k) = joined (natural-moves.moves h) (trace_id-moves.moves k) (λ l s r. LinkFieldAt.trace_id)
link-field (LinkFieldAt.span_id h k) = joined (natural-moves.moves h) (natural-moves.moves k) (λ l s r. LinkFieldAt.span_id)
link-field (LinkFieldAt.attributes h k) = joined (natural-moves.moves h) (attributes-moves.moves k) (λ l s r. LinkFieldAt.attributes)
link-field (LinkFieldAt.tracestate h k) = joined (natural-moves.moves h) (text-moves.moves k) (λ l s r. LinkFieldAt.tracestate)
link-field (LinkFieldAt.flags h k) = joined (natural-moves.moves h) (natural-moves.moves k) (λ l s r. LinkFieldAt.flags)
link-field (LinkFieldAt.other h u k) = joined (natural-moves.moves h) ((skipped-moves 64).moves k) (λ l s r a b. LinkFieldAt.other a u b)

link-fields : Moves (MapAt LinkFieldAt)
link-fields = map-moves (record { moves = link-field })

link_at : {v : Link} {p q : Standing} → LinkAt v p q → Moved (λ l r. LinkAt v (at l p) (at r q)) p.bytes q.bytes
link_at (link h) = mapped (link-fields.moves h) (λ l r a. link a)

link-moves : Moves LinkAt
link-moves = record { moves = link_at }

event-field : {f : EventField} {p q : Standing} → EventFieldAt f p q → Moved (λ l r. EventFieldAt f (at l p) (at r q)) p.bytes q.bytes
event-field (EventFieldAt.time h k) = joined (natural-moves.moves h) (natural-moves.moves k) (λ l s r. EventFieldAt.time)
event-field (EventFieldAt.name h k) = joined (natural-moves.moves h) (text-moves.moves k) (λ l s r. EventFieldAt.name)
event-field (EventFieldAt.attributes h k) = joined (natural-moves.moves h) (attributes-moves.moves k) (λ l s r. EventFieldAt.attributes)
event-field (EventFieldAt.other h u k) = joined (natural-moves.moves h) ((skipped-moves 64).moves k) (λ l s r a b. EventFieldAt.other a u b)

event-fields : Moves (MapAt EventFieldAt)
event-fields = map-moves (record { moves = event-field })

event-at : {v : Event} {p q : Standing} → EventAt v p q → Moved (λ l r. EventAt v (at l p) (at r q)) p.bytes q.bytes
event-at (event h) = mapped (event-fields.moves h) (λ l r a. event a)

event-moves : Moves EventAt
event-moves = record { moves = event-at }

span-field : {f : SpanField} {p q : Standing} → SpanFieldAt f p q → Moved (λ l r. SpanFieldAt f (at l p) (at r q)) p.bytes q.bytes
span-field (SpanFieldAt.service h k) = joined (natural-moves.moves h) (text-moves.moves k) (λ l s r. SpanFieldAt.service)
span-field (SpanFieldAt.name h k) = joined (natural-moves.moves h) (text-moves.moves k) (λ l s r. SpanFieldAt.name)
span-field (SpanFieldAt.resource h k) = joined (natural-moves.moves h) (text-moves.moves k) (λ l s r. SpanFieldAt.resource)
span-field (SpanFieldAt.span_id h k) = joined (natural-moves.moves h) (natural-moves.moves k) (λ l s r. SpanFieldAt.span_id)
span-field (SpanFieldAt.parent_id h k) = joined (natural-moves.moves h) (natural-moves.moves k) (λ l s r. SpanFieldAt.parent_id)
span-field (SpanFieldAt.start h k) = joined (natural-moves.moves h) (natural-moves.moves k) (λ l s r. SpanFieldAt.start)
span-field (SpanFieldAt.duration h k) = joined (natural-moves.moves h) (natural-moves.moves k) (λ l s r. SpanFieldAt.duration)
span-field (SpanFieldAt.error h k) = joined (natural-moves.moves h) (head-moves.moves k) (λ l s r. SpanFieldAt.error)
span-field (SpanFieldAt.attributes h k) = joined (natural-moves.moves h) (attributes-moves.moves k) (λ l s r. SpanFieldAt.attributes)
span-field (SpanFieldAt.span_type h k) = joined (natural-moves.moves h) (text-moves.moves k) (λ l s r. SpanFieldAt.span_type)
span-field (SpanFieldAt.links h k) = joined (natural-moves.moves h) ((array-moves link-moves).moves k) (λ l s r. SpanFieldAt.links)
span-field (SpanFieldAt.events h k) = joined (natural-moves.moves h) ((array-moves event-moves).moves k) (λ l s r. SpanFieldAt.events)
span-field (SpanFieldAt.env h k) = joined (natural-moves.moves h) (text-moves.moves k) (λ l s r. SpanFieldAt.env)
span-field (SpanFieldAt.version h k) = joined (natural-moves.moves h) (text-moves.moves k) (λ l s r. SpanFieldAt.version)
span-field (SpanFieldAt.component h k) = joined (natural-moves.moves h) (text-moves.moves k) (λ l s r. SpanFieldAt.component)
span-field (SpanFieldAt.kind h k) = joined (natural-moves.moves h) (natural-moves.moves k) (λ l s r. SpanFieldAt.kind)
span-field (SpanFieldAt.other h u k) = joined (natural-moves.moves h) ((skipped-moves 64).moves k) (λ l s r a b. SpanFieldAt.other a u b)

span-fields : Moves (MapAt SpanFieldAt)
span-fields = map-moves (record { moves = span-field })

span-at : {v : Span} {p q : Standing} → SpanAt v p q → Moved (λ l r. SpanAt v (at l p) (at r q)) p.bytes q.bytes
span-at (span h e0 e1) = mapped (span-fields.moves h) (λ l r a. span a e0 e1)

span-moves : Moves SpanAt
span-moves = record { moves = span-at }

chunk-field : {f : ChunkField} {p q : Standing} → ChunkFieldAt f p q → Moved (λ l r. ChunkFieldAt f (at l p) (at r q)) p.bytes q.bytes
chunk-field (ChunkFieldAt.priority h k) = joined (natural-moves.moves h) (signed-moves.moves k) (λ l s r. ChunkFieldAt.priority)
chunk-field (ChunkFieldAt.origin h k) = joined (natural-moves.moves h) (text-moves.moves k) (λ l s r. ChunkFieldAt.origin)
chunk-field (ChunkFieldAt.attributes h k) = joined (natural-moves.moves h) (attributes-moves.moves k) (λ l s r. ChunkFieldAt.attributes)
chunk-field (ChunkFieldAt.spans h k) = joined (natural-moves.moves h) ((array-moves span-moves).moves k) (λ l s r. ChunkFieldAt.spans)
chunk-field (ChunkFieldAt.dropped h k) = joined (natural-moves.moves h) (head-moves.moves k) (λ l s r. ChunkFieldAt.dropped)
chunk-field (ChunkFieldAt.trace_id h k) = joined (natural-moves.moves h) (trace_id-moves.moves k) (λ l s r. ChunkFieldAt.trace_id)
chunk-field (ChunkFieldAt.mechanism h k) = joined (natural-moves.moves h) (natural-moves.moves k) (λ l s r. ChunkFieldAt.mechanism)
chunk-field (ChunkFieldAt.other h u k) = joined (natural-moves.moves h) ((skipped-moves 64).moves k) (λ l s r a b. ChunkFieldAt.other a u b)

chunk-fields : Moves (MapAt ChunkFieldAt)
chunk-fields = map-moves (record { moves = chunk-field })

chunk-at : {v : Chunk} {p q : Standing} → ChunkAt v p q → Moved (λ l r. ChunkAt v (at l p) (at r q)) p.bytes q.bytes
chunk-at (chunk h e0 e1) = mapped (chunk-fields.moves h) (λ l r a. chunk a e0 e1)

chunk-moves : Moves ChunkAt
chunk-moves = record { moves = chunk-at }

payload-field : {f : PayloadField} {p q : Standing} → PayloadFieldAt f p q → Moved (λ l r. PayloadFieldAt f (at l p) (at r q)) p.bytes q.bytes
payload-field (PayloadFieldAt.container_id h k) = joined (natural-moves.moves h) (text-moves.moves k) (λ l s r. PayloadFieldAt.container_id)
payload-field (PayloadFieldAt.language_name h k) = joined (natural-moves.moves h) (text-moves.moves k) (λ l s r. PayloadFieldAt.language_name)
payload-field (PayloadFieldAt.language_version h k) = joined (natural-moves.moves h) (text-moves.moves k) (λ l s r. PayloadFieldAt.language_version)
payload-field (PayloadFieldAt.tracer_version h k) = joined (natural-moves.moves h) (text-moves.moves k) (λ l s r. PayloadFieldAt.tracer_version)
payload-field (PayloadFieldAt.runtime_id h k) = joined (natural-moves.moves h) (text-moves.moves k) (λ l s r. PayloadFieldAt.runtime_id)
payload-field (PayloadFieldAt.env h k) = joined (natural-moves.moves h) (text-moves.moves k) (λ l s r. PayloadFieldAt.env)
payload-field (PayloadFieldAt.hostname h k) = joined (natural-moves.moves h) (text-moves.moves k) (λ l s r. PayloadFieldAt.hostname)
payload-field (PayloadFieldAt.app_version h k) = joined (natural-moves.moves h) (text-moves.moves k) (λ l s r. PayloadFieldAt.app_version)
payload-field (PayloadFieldAt.attributes h k) = joined (natural-moves.moves h) (attributes-moves.moves k) (λ l s r. PayloadFieldAt.attributes)
payload-field (PayloadFieldAt.chunks h k) = joined (natural-moves.moves h) ((array-moves chunk-moves).moves k) (λ l s r. PayloadFieldAt.chunks)
payload-field (PayloadFieldAt.other h u k) = joined (natural-moves.moves h) ((skipped-moves 64).moves k) (λ l s r a b. PayloadFieldAt.other a u b)

pub payload-begun : {v : Payload} {p q : Standing} → PayloadAt v p q → Begun (λ l r. PayloadAt v (at l p) (at r q)) p.bytes q.bytes
payload-begun (payload h e) = mapped-begun (map-begun (record { moves = payload-field }) h) (λ l r a. payload a e)
