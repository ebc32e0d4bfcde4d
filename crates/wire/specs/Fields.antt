-- The fields of the records, each by its key, and what all the fields of a record say of it. Assumes nothing.
use Rattle.std.specs.Prelude.{◌≡◌, ℕ, Bool, true, false, ◌||◌, List, [], ◌∷◌, ℤ, pos, Some}
use Rattle.span.specs.Blank.{span_kind_of}
use Rattle.wire.specs.Payload.{Text, Item, Link, Event, Span, Chunk, Payload, no_link, no_event, no_span, no_chunk, no_payload}

-- all fields, put into the record one by one: of a key that is repeated the last counts
abbrev pub filled : {R F : Type 0} → (R → F → R) → R → List F → R
filled with r [] = r
filled with r (f ∷ l) = filled with (with r f) l

-- whether there is a field of the kind
abbrev pub sees : {F : Type 0} → (F → Bool) → List F → Bool
sees kind [] = false
sees kind (f ∷ l) = kind f || sees kind l

pub data LinkField : Type 0 where
  trace_id : List ℕ → LinkField
  span_id : ℕ → LinkField
  attributes : List Item → LinkField
  tracestate : Text → LinkField
  flags : ℕ → LinkField
  -- under an unknown key
  other : LinkField

abbrev pub with_link_field : Link → LinkField → Link
with_link_field v (LinkField.trace_id x) = record v { trace_id = x }
with_link_field v (LinkField.span_id x) = record v { span_id = x }
with_link_field v (LinkField.attributes x) = record v { attributes = x }
with_link_field v (LinkField.tracestate x) = record v { tracestate = x }
with_link_field v (LinkField.flags x) = record v { flags = x }
with_link_field v LinkField.other = v

abbrev pub link_of : List LinkField → Link
link_of l = filled with_link_field no_link l

pub data EventField : Type 0 where
  time : ℕ → EventField
  name : Text → EventField
  attributes : List Item → EventField
  -- under an unknown key
  other : EventField

abbrev pub with_event_field : Event → EventField → Event
with_event_field v (EventField.time x) = record v { time_unix_nano = x }
with_event_field v (EventField.name x) = record v { name = x }
with_event_field v (EventField.attributes x) = record v { attributes = x }
with_event_field v EventField.other = v

abbrev pub event_of : List EventField → Event
event_of l = filled with_event_field no_event l

pub data SpanField : Type 0 where
  service : Text → SpanField
  name : Text → SpanField
  resource : Text → SpanField
  span_type : Text → SpanField
  span_id : ℕ → SpanField
  parent_id : ℕ → SpanField
  start : ℕ → SpanField
  duration : ℕ → SpanField
  error : Bool → SpanField
  kind : ℕ → SpanField
  env : Text → SpanField
  version : Text → SpanField
  component : Text → SpanField
  attributes : List Item → SpanField
  links : List Link → SpanField
  events : List Event → SpanField
  -- under an unknown key
  other : SpanField

abbrev pub with_span_field : Span → SpanField → Span
with_span_field v (SpanField.service x) = record v { service = x }
with_span_field v (SpanField.name x) = record v { name = x }
with_span_field v (SpanField.resource x) = record v { resource = x }
with_span_field v (SpanField.span_type x) = record v { span_type = x }
with_span_field v (SpanField.span_id x) = record v { span_id = x }
with_span_field v (SpanField.parent_id x) = record v { parent_id = x }
with_span_field v (SpanField.start x) = record v { start = pos x }
with_span_field v (SpanField.duration x) = record v { duration = pos x }
with_span_field v (SpanField.error x) = record v { error = x }
with_span_field v (SpanField.kind x) = record v { span_kind = span_kind_of x }
with_span_field v (SpanField.env x) = record v { env = x }
with_span_field v (SpanField.version x) = record v { version = x }
with_span_field v (SpanField.component x) = record v { component = x }
with_span_field v (SpanField.attributes x) = record v { attributes = x }
with_span_field v (SpanField.links x) = record v { span_links = x }
with_span_field v (SpanField.events x) = record v { span_events = x }
with_span_field v SpanField.other = v

abbrev pub span_of : List SpanField → Span
span_of l = filled with_span_field no_span l

abbrev pub is_span_id : SpanField → Bool
is_span_id (SpanField.span_id x) = true
is_span_id _ = false

abbrev pub HasId : List SpanField → Type 0
HasId l = sees is_span_id l ≡ true

abbrev pub is_start : SpanField → Bool
is_start (SpanField.start x) = true
is_start _ = false

abbrev pub HasStart : List SpanField → Type 0
HasStart l = sees is_start l ≡ true

pub data ChunkField : Type 0 where
  trace_id : List ℕ → ChunkField
  priority : ℤ → ChunkField
  origin : Text → ChunkField
  mechanism : ℕ → ChunkField
  dropped : Bool → ChunkField
  attributes : List Item → ChunkField
  spans : List Span → ChunkField
  -- under an unknown key
  other : ChunkField

abbrev pub with_chunk_field : Chunk → ChunkField → Chunk
with_chunk_field v (ChunkField.trace_id x) = record v { trace_id = x }
with_chunk_field v (ChunkField.priority x) = record v { priority = Some x }
with_chunk_field v (ChunkField.origin x) = record v { origin = x }
with_chunk_field v (ChunkField.mechanism x) = record v { sampling_mechanism = Some x }
with_chunk_field v (ChunkField.dropped x) = record v { dropped_trace = x }
with_chunk_field v (ChunkField.attributes x) = record v { attributes = x }
with_chunk_field v (ChunkField.spans x) = record v { spans = x }
with_chunk_field v ChunkField.other = v

abbrev pub chunk_of : List ChunkField → Chunk
chunk_of l = filled with_chunk_field no_chunk l

abbrev pub is_trace_id : ChunkField → Bool
is_trace_id (ChunkField.trace_id x) = true
is_trace_id _ = false

abbrev pub HasTraceId : List ChunkField → Type 0
HasTraceId l = sees is_trace_id l ≡ true

abbrev pub is_spans : ChunkField → Bool
is_spans (ChunkField.spans x) = true
is_spans _ = false

abbrev pub HasSpans : List ChunkField → Type 0
HasSpans l = sees is_spans l ≡ true

pub data PayloadField : Type 0 where
  container_id : Text → PayloadField
  language_name : Text → PayloadField
  language_version : Text → PayloadField
  tracer_version : Text → PayloadField
  runtime_id : Text → PayloadField
  env : Text → PayloadField
  hostname : Text → PayloadField
  app_version : Text → PayloadField
  attributes : List Item → PayloadField
  chunks : List Chunk → PayloadField
  -- under an unknown key
  other : PayloadField

abbrev pub with_payload_field : Payload → PayloadField → Payload
with_payload_field v (PayloadField.container_id x) = record v { container_id = x }
with_payload_field v (PayloadField.language_name x) = record v { language_name = x }
with_payload_field v (PayloadField.language_version x) = record v { language_version = x }
with_payload_field v (PayloadField.tracer_version x) = record v { tracer_version = x }
with_payload_field v (PayloadField.runtime_id x) = record v { runtime_id = x }
with_payload_field v (PayloadField.env x) = record v { env = x }
with_payload_field v (PayloadField.hostname x) = record v { hostname = x }
with_payload_field v (PayloadField.app_version x) = record v { app_version = x }
with_payload_field v (PayloadField.attributes x) = record v { attributes = x }
with_payload_field v (PayloadField.chunks x) = record v { chunks = x }
with_payload_field v PayloadField.other = v

abbrev pub payload_of : List PayloadField → Payload
payload_of l = filled with_payload_field no_payload l

abbrev pub is_chunks : PayloadField → Bool
is_chunks (PayloadField.chunks x) = true
is_chunks _ = false

abbrev pub HasChunks : List PayloadField → Type 0
HasChunks l = sees is_chunks l ≡ true
