-- The five records: maps of fields, each a key and its value, in any order. Assumes nothing.
use Rattle.std.specs.Prelude.{◌≡◌, ℕ, Bool, true, ◌||◌, List, ℤ, nat_lt}
use Rattle.wire.specs.Payload.{Text, Item, Link, Event, Span, Chunk, Payload}
use Rattle.wire.specs.Fields.{LinkField, EventField, SpanField, ChunkField, PayloadField, link_of, event_of, span_of, chunk_of, payload_of, HasId, HasStart, HasTraceId, HasSpans, HasChunks}
use Rattle.wire.specs.Standing.{Standing, count_link, count_event, count_span, count_chunk}
use Rattle.wire.specs.Form.{ArrayAt, MapAt, KeyAt, NaturalAt, SignedAt, BoolAt, TextAt, TraceIdAt}
use Rattle.wire.specs.Skipped.{OtherAt}
use Rattle.wire.specs.Attributes.{AttributesAt}

-- whether the key k is none of those from `first` to `last`
abbrev pub unknown : ℕ → ℕ → ℕ → Bool
unknown first last k = nat_lt k first || nat_lt last k

pub data LinkFieldAt : LinkField → Standing → Standing → Type 0 where
  trace_id : {x : List ℕ} {p m q : Standing} → KeyAt 1 p m → TraceIdAt x m q → LinkFieldAt (LinkField.trace_id x) p q
  span_id : {x : ℕ} {p m q : Standing} → KeyAt 2 p m → NaturalAt 0xffffffffffffffff x m q → LinkFieldAt (LinkField.span_id x) p q
  attributes : {x : List Item} {p m q : Standing} → KeyAt 3 p m → AttributesAt x m q → LinkFieldAt (LinkField.attributes x) p q
  tracestate : {x : Text} {p m q : Standing} → KeyAt 4 p m → TextAt x m q → LinkFieldAt (LinkField.tracestate x) p q
  flags : {x : ℕ} {p m q : Standing} → KeyAt 5 p m → NaturalAt 0xffffffff x m q → LinkFieldAt (LinkField.flags x) p q
  other : {k : ℕ} {p m q : Standing} → KeyAt k p m → unknown 1 5 k ≡ true → OtherAt tt m q → LinkFieldAt LinkField.other p q

-- a link, which is counted before its header
pub data LinkAt : Link → Standing → Standing → Type 0 where
  link : {l : List LinkField} {p q : Standing} → MapAt LinkFieldAt l (count_link p) q → LinkAt (link_of l) p q

pub data EventFieldAt : EventField → Standing → Standing → Type 0 where
  time : {x : ℕ} {p m q : Standing} → KeyAt 1 p m → NaturalAt 0xffffffffffffffff x m q → EventFieldAt (EventField.time x) p q
  name : {x : Text} {p m q : Standing} → KeyAt 2 p m → TextAt x m q → EventFieldAt (EventField.name x) p q
  attributes : {x : List Item} {p m q : Standing} → KeyAt 3 p m → AttributesAt x m q → EventFieldAt (EventField.attributes x) p q
  other : {k : ℕ} {p m q : Standing} → KeyAt k p m → unknown 1 3 k ≡ true → OtherAt tt m q → EventFieldAt EventField.other p q

-- an event, which is counted before its header
pub data EventAt : Event → Standing → Standing → Type 0 where
  event : {l : List EventField} {p q : Standing} → MapAt EventFieldAt l (count_event p) q → EventAt (event_of l) p q

pub data SpanFieldAt : SpanField → Standing → Standing → Type 0 where
  service : {x : Text} {p m q : Standing} → KeyAt 1 p m → TextAt x m q → SpanFieldAt (SpanField.service x) p q
  name : {x : Text} {p m q : Standing} → KeyAt 2 p m → TextAt x m q → SpanFieldAt (SpanField.name x) p q
  resource : {x : Text} {p m q : Standing} → KeyAt 3 p m → TextAt x m q → SpanFieldAt (SpanField.resource x) p q
  span_id : {x : ℕ} {p m q : Standing} → KeyAt 4 p m → NaturalAt 0xffffffffffffffff x m q → SpanFieldAt (SpanField.span_id x) p q
  parent_id : {x : ℕ} {p m q : Standing} → KeyAt 5 p m → NaturalAt 0xffffffffffffffff x m q → SpanFieldAt (SpanField.parent_id x) p q
  start : {x : ℕ} {p m q : Standing} → KeyAt 6 p m → NaturalAt 0x7fffffffffffffff x m q → SpanFieldAt (SpanField.start x) p q
  duration : {x : ℕ} {p m q : Standing} → KeyAt 7 p m → NaturalAt 0x7fffffffffffffff x m q → SpanFieldAt (SpanField.duration x) p q
  error : {x : Bool} {p m q : Standing} → KeyAt 8 p m → BoolAt x m q → SpanFieldAt (SpanField.error x) p q
  attributes : {x : List Item} {p m q : Standing} → KeyAt 9 p m → AttributesAt x m q → SpanFieldAt (SpanField.attributes x) p q
  span_type : {x : Text} {p m q : Standing} → KeyAt 10 p m → TextAt x m q → SpanFieldAt (SpanField.span_type x) p q
  links : {x : List Link} {p m q : Standing} → KeyAt 11 p m → ArrayAt LinkAt x m q → SpanFieldAt (SpanField.links x) p q
  events : {x : List Event} {p m q : Standing} → KeyAt 12 p m → ArrayAt EventAt x m q → SpanFieldAt (SpanField.events x) p q
  env : {x : Text} {p m q : Standing} → KeyAt 13 p m → TextAt x m q → SpanFieldAt (SpanField.env x) p q
  version : {x : Text} {p m q : Standing} → KeyAt 14 p m → TextAt x m q → SpanFieldAt (SpanField.version x) p q
  component : {x : Text} {p m q : Standing} → KeyAt 15 p m → TextAt x m q → SpanFieldAt (SpanField.component x) p q
  kind : {x : ℕ} {p m q : Standing} → KeyAt 16 p m → NaturalAt 0xffffffff x m q → SpanFieldAt (SpanField.kind x) p q
  other : {k : ℕ} {p m q : Standing} → KeyAt k p m → unknown 1 16 k ≡ true → OtherAt tt m q → SpanFieldAt SpanField.other p q

-- a span, which is counted before its header
pub data SpanAt : Span → Standing → Standing → Type 0 where
  span : {l : List SpanField} {p q : Standing} → MapAt SpanFieldAt l (count_span p) q → HasId l → HasStart l → SpanAt (span_of l) p q

pub data ChunkFieldAt : ChunkField → Standing → Standing → Type 0 where
  priority : {x : ℤ} {p m q : Standing} → KeyAt 1 p m → SignedAt 0x80000000 x m q → ChunkFieldAt (ChunkField.priority x) p q
  origin : {x : Text} {p m q : Standing} → KeyAt 2 p m → TextAt x m q → ChunkFieldAt (ChunkField.origin x) p q
  attributes : {x : List Item} {p m q : Standing} → KeyAt 3 p m → AttributesAt x m q → ChunkFieldAt (ChunkField.attributes x) p q
  spans : {x : List Span} {p m q : Standing} → KeyAt 4 p m → ArrayAt SpanAt x m q → ChunkFieldAt (ChunkField.spans x) p q
  dropped : {x : Bool} {p m q : Standing} → KeyAt 5 p m → BoolAt x m q → ChunkFieldAt (ChunkField.dropped x) p q
  trace_id : {x : List ℕ} {p m q : Standing} → KeyAt 6 p m → TraceIdAt x m q → ChunkFieldAt (ChunkField.trace_id x) p q
  mechanism : {x : ℕ} {p m q : Standing} → KeyAt 7 p m → NaturalAt 0xffffffff x m q → ChunkFieldAt (ChunkField.mechanism x) p q
  other : {k : ℕ} {p m q : Standing} → KeyAt k p m → unknown 1 7 k ≡ true → OtherAt tt m q → ChunkFieldAt ChunkField.other p q

-- a chunk, which is counted before its header
pub data ChunkAt : Chunk → Standing → Standing → Type 0 where
  chunk : {l : List ChunkField} {p q : Standing} → MapAt ChunkFieldAt l (count_chunk p) q → HasTraceId l → HasSpans l → ChunkAt (chunk_of l) p q

pub data PayloadFieldAt : PayloadField → Standing → Standing → Type 0 where
  container_id : {x : Text} {p m q : Standing} → KeyAt 2 p m → TextAt x m q → PayloadFieldAt (PayloadField.container_id x) p q
  language_name : {x : Text} {p m q : Standing} → KeyAt 3 p m → TextAt x m q → PayloadFieldAt (PayloadField.language_name x) p q
  language_version : {x : Text} {p m q : Standing} → KeyAt 4 p m → TextAt x m q → PayloadFieldAt (PayloadField.language_version x) p q
  tracer_version : {x : Text} {p m q : Standing} → KeyAt 5 p m → TextAt x m q → PayloadFieldAt (PayloadField.tracer_version x) p q
  runtime_id : {x : Text} {p m q : Standing} → KeyAt 6 p m → TextAt x m q → PayloadFieldAt (PayloadField.runtime_id x) p q
  env : {x : Text} {p m q : Standing} → KeyAt 7 p m → TextAt x m q → PayloadFieldAt (PayloadField.env x) p q
  hostname : {x : Text} {p m q : Standing} → KeyAt 8 p m → TextAt x m q → PayloadFieldAt (PayloadField.hostname x) p q
  app_version : {x : Text} {p m q : Standing} → KeyAt 9 p m → TextAt x m q → PayloadFieldAt (PayloadField.app_version x) p q
  attributes : {x : List Item} {p m q : Standing} → KeyAt 10 p m → AttributesAt x m q → PayloadFieldAt (PayloadField.attributes x) p q
  chunks : {x : List Chunk} {p m q : Standing} → KeyAt 11 p m → ArrayAt ChunkAt x m q → PayloadFieldAt (PayloadField.chunks x) p q
  other : {k : ℕ} {p m q : Standing} → KeyAt k p m → unknown 2 11 k ≡ true → OtherAt tt m q → PayloadFieldAt PayloadField.other p q

-- a payload
pub data PayloadAt : Payload → Standing → Standing → Type 0 where
  payload : {l : List PayloadField} {p q : Standing} → MapAt PayloadFieldAt l p q → HasChunks l → PayloadAt (payload_of l) p q
