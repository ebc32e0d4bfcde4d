-- From one end of a writing to the other the texts and the records only grow. Assumes nothing.
use Rattle.std.proofs.Common.{ℕ, zero, suc, ◌≤◌, Bool, true, false, List, length, ℤ, arith, length-append}
use Rattle.msgpack.specs.declared.Item as msgpack
use Rattle.wire.specs.Payload.{Text, Value, Item, Link, Event, Span, Chunk, Payload}
use Rattle.wire.specs.Fields.{LinkField, EventField, SpanField, ChunkField, PayloadField}
use Rattle.wire.specs.Standing.{Standing, at, noting, count_chunk, count_span, count_link, count_event, count_node, Rooms, Fits}
use Rattle.wire.specs.Form.{Form, Times, done, more, HeadAt, head, BytesAt, bytes, ArrayAt, array, MapAt, map, IntAt, unsigned, signed, NaturalAt, natural, SignedAt, within, TextAt, literal, numbered, BinaryAt, binary, TraceIdAt, trace_id}
use Rattle.wire.specs.Skipped.{SkippedOf, SkippedOver, skipped, SkippedAt}
use Rattle.wire.specs.Attributes.{GroupAt, group, ValueOf, ItemOf, member, entry, ItemAt, AttributesAt}
use Rattle.wire.specs.Records.{LinkFieldAt, LinkAt, link, EventFieldAt, EventAt, event, SpanFieldAt, SpanAt, span, ChunkFieldAt, ChunkAt, chunk, PayloadFieldAt, PayloadAt, payload}

pub record Grown (p q : Standing) : Type 0 where
  pub texts : length p.texts ≤ length q.texts
  pub chunks : p.used.chunks ≤ q.used.chunks
  pub spans : p.used.spans ≤ q.used.spans
  pub links : p.used.links ≤ q.used.links
  pub events : p.used.events ≤ q.used.events
  pub nodes : p.used.nodes ≤ q.used.nodes

pub record Grows {A : Type 0} (X : Form A) : Type 0 where
  pub grows : {a : A} {p q : Standing} → X a p q → Grown p q

-- what fits behind a writing fits before it
pub fits-before : {rooms : Rooms} {p q : Standing} → Grown p q → Fits rooms q → Fits rooms p
fits-before g f = grind arith

pub stays : {p : Standing} → Grown p p
stays = grind arith

elsewhere : (l : List ℕ) (p : Standing) → Grown p (at l p)
elsewhere l p = grind arith

pub then : {p m q : Standing} → Grown p m → Grown m q → Grown p q
then g h = grind arith

noted : (t : Text) (p : Standing) → Grown p (noting t p)
noted t p = grind (arith, length-append)

counted_chunk : (p : Standing) → Grown p (count_chunk p)
counted_chunk p = grind arith

counted_span : (p : Standing) → Grown p (count_span p)
counted_span p = grind arith

counted_link : (p : Standing) → Grown p (count_link p)
counted_link p = grind arith

counted_event : (p : Standing) → Grown p (count_event p)
counted_event p = grind arith

counted_node : (p : Standing) → Grown p (count_node p)
counted_node p = grind arith

head-grown : {x : msgpack.Item} {p q : Standing} → HeadAt x p q → Grown p q
head-grown (head {p = p} {q = l} h) = elsewhere l p

pub head-grows : Grows HeadAt
head-grows = record { grows = head-grown }

pub bytes-grown : {n : ℕ} {x : List ℕ} {p q : Standing} → BytesAt n x p q → Grown p q
bytes-grown (bytes {p = p} {q = l} e h) = elsewhere l p

int-grown : {z : ℤ} {p q : Standing} → IntAt z p q → Grown p q
int-grown (unsigned h) = head-grown h
int-grown (signed h) = head-grown h

natural-grown : {max n : ℕ} {p q : Standing} → NaturalAt max n p q → Grown p q
natural-grown (natural h e) = int-grown h

pub natural-grows : {max : ℕ} → Grows (NaturalAt max)
natural-grows = record { grows = natural-grown }

signed-grown : {half : ℕ} {z : ℤ} {p q : Standing} → SignedAt half z p q → Grown p q
signed-grown (within h e) = int-grown h

pub signed-grows : {half : ℕ} → Grows (SignedAt half)
signed-grows = record { grows = signed-grown }

text-grown : {t : Text} {p q : Standing} → TextAt t p q → Grown p q
text-grown (literal {t = t} {q = q} h k e) = then (head-grown h) (then (bytes-grown k) (noted t q))
text-grown (numbered h e) = head-grown h

pub text-grows : Grows TextAt
text-grows = record { grows = text-grown }

binary-grown : {x : List ℕ} {p q : Standing} → BinaryAt x p q → Grown p q
binary-grown (binary h k) = then (head-grown h) (bytes-grown k)

pub binary-grows : Grows BinaryAt
binary-grows = record { grows = binary-grown }

trace_id-grown : {x : List ℕ} {p q : Standing} → TraceIdAt x p q → Grown p q
trace_id-grown (trace_id h k) = then (head-grown h) (bytes-grown k)

pub trace_id-grows : Grows TraceIdAt
trace_id-grows = record { grows = trace_id-grown }

module _ {A : Type 0} {X : Form A} (hx : Grows X) where
  pub times-grown : {n : ℕ} {a : List A} {p q : Standing} → Times X n a p q → Grown p q
  times-grown done = stays
  times-grown (more h t) = then (hx.grows h) (times-grown t)

  array-grown : {a : List A} {p q : Standing} → ArrayAt X a p q → Grown p q
  array-grown (array h t) = then (head-grown h) (times-grown t)

  pub array-grows : Grows (ArrayAt X)
  array-grows = record { grows = array-grown }

  group-grown : {k : ℕ} {a : List A} {p q : Standing} → GroupAt k X a p q → Grown p q
  group-grown (group h t) = then (head-grown h) (times-grown t)

  pub group-grows : {k : ℕ} → Grows (GroupAt k X)
  group-grows = record { grows = group-grown }

  map-grown : {a : List A} {p q : Standing} → MapAt X a p q → Grown p q
  map-grown (map h t) = then (head-grown h) (times-grown t)

module _ {X : Form (Unit {0})} (hx : Grows X) where
  skipped-of : {x : msgpack.Item} {p q : Standing} → SkippedOf X x p q → Grown p q
  skipped-of SkippedOf.nil = stays
  skipped-of SkippedOf.bool = stays
  skipped-of SkippedOf.unsigned = stays
  skipped-of SkippedOf.signed = stays
  skipped-of SkippedOf.float = stays
  skipped-of SkippedOf.double = stays
  skipped-of (SkippedOf.text {l = l} {q = q} h e) = then (bytes-grown h) (noted l q)
  skipped-of (SkippedOf.no_text h e) = bytes-grown h
  skipped-of (SkippedOf.binary h) = bytes-grown h
  skipped-of (SkippedOf.array t) = times-grown hx t
  skipped-of (SkippedOf.map t) = times-grown hx t
  skipped-of (SkippedOf.ext h) = bytes-grown h

  skipped-over : {u : Unit {0}} {p q : Standing} → SkippedOver X u p q → Grown p q
  skipped-over (skipped h k) = then (head-grown h) (skipped-of k)

pub skipped-grows : (d : ℕ) → Grows (SkippedAt d)
unfolding SkippedAt
skipped-grows zero = record { grows = λ h. absurd h }
skipped-grows (suc d) = record { grows = λ h. skipped-over (skipped-grows d) h }

module _ {X : Bool → Form Item} (hx : (keyed : Bool) → Grows (X keyed)) where
  value_of : {k : ℕ} {v : Value} {p q : Standing} → ValueOf X k v p q → Grown p q
  value_of (ValueOf.text h) = text-grown h
  value_of (ValueOf.bool h) = head-grown h
  value_of (ValueOf.double h) = head-grown h
  value_of (ValueOf.integer h) = signed-grown h
  value_of (ValueOf.binary h) = binary-grown h
  value_of (ValueOf.list h) = group-grown (hx false) h
  value_of (ValueOf.map h) = group-grown (hx true) h

  item_of : {keyed : Bool} {x : Item} {p q : Standing} → ItemOf X keyed x p q → Grown p q
  item_of (member {p = p} h k) = then (counted_node p) (then (natural-grown h) (value_of k))
  item_of (entry {p = p} h k v) = then (counted_node p) (then (text-grown h) (then (natural-grown k) (value_of v)))

pub item-grows : (d : ℕ) (keyed : Bool) → Grows (ItemAt d keyed)
unfolding ItemAt
item-grows zero keyed = record { grows = λ h. absurd h }
item-grows (suc d) keyed = record { grows = λ h. item_of (item-grows d) h }

pub attributes-grows : Grows AttributesAt
attributes-grows = group-grows (item-grows 64 true)

link-field : {f : LinkField} {p q : Standing} → LinkFieldAt f p q → Grown p q
link-field (LinkFieldAt.trace_id h k) = then (natural-grown h) (trace_id-grows.grows k)
link-field (LinkFieldAt.span_id h k) = then (natural-grown h) (natural-grows.grows k)
link-field (LinkFieldAt.attributes h k) = then (natural-grown h) (attributes-grows.grows k)
link-field (LinkFieldAt.tracestate h k) = then (natural-grown h) (text-grows.grows k)
link-field (LinkFieldAt.flags h k) = then (natural-grown h) (natural-grows.grows k)
link-field (LinkFieldAt.other h u k) = then (natural-grown h) ((skipped-grows 64).grows k)

link-grown : {v : Link} {p q : Standing} → LinkAt v p q → Grown p q
link-grown (link {p = p} h) = then (counted_link p) (map-grown (record { grows = link-field }) h)

pub link-grows : Grows LinkAt
link-grows = record { grows = link-grown }

event-field : {f : EventField} {p q : Standing} → EventFieldAt f p q → Grown p q
event-field (EventFieldAt.time h k) = then (natural-grown h) (natural-grows.grows k)
event-field (EventFieldAt.name h k) = then (natural-grown h) (text-grows.grows k)
event-field (EventFieldAt.attributes h k) = then (natural-grown h) (attributes-grows.grows k)
event-field (EventFieldAt.other h u k) = then (natural-grown h) ((skipped-grows 64).grows k)

event-grown : {v : Event} {p q : Standing} → EventAt v p q → Grown p q
event-grown (event {p = p} h) = then (counted_event p) (map-grown (record { grows = event-field }) h)

pub event-grows : Grows EventAt
event-grows = record { grows = event-grown }

span-field : {f : SpanField} {p q : Standing} → SpanFieldAt f p q → Grown p q
span-field (SpanFieldAt.service h k) = then (natural-grown h) (text-grows.grows k)
span-field (SpanFieldAt.name h k) = then (natural-grown h) (text-grows.grows k)
span-field (SpanFieldAt.resource h k) = then (natural-grown h) (text-grows.grows k)
span-field (SpanFieldAt.span_id h k) = then (natural-grown h) (natural-grows.grows k)
span-field (SpanFieldAt.parent_id h k) = then (natural-grown h) (natural-grows.grows k)
span-field (SpanFieldAt.start h k) = then (natural-grown h) (natural-grows.grows k)
span-field (SpanFieldAt.duration h k) = then (natural-grown h) (natural-grows.grows k)
span-field (SpanFieldAt.error h k) = then (natural-grown h) (head-grows.grows k)
span-field (SpanFieldAt.attributes h k) = then (natural-grown h) (attributes-grows.grows k)
span-field (SpanFieldAt.span_type h k) = then (natural-grown h) (text-grows.grows k)
span-field (SpanFieldAt.links h k) = then (natural-grown h) ((array-grows link-grows).grows k)
span-field (SpanFieldAt.events h k) = then (natural-grown h) ((array-grows event-grows).grows k)
span-field (SpanFieldAt.env h k) = then (natural-grown h) (text-grows.grows k)
span-field (SpanFieldAt.version h k) = then (natural-grown h) (text-grows.grows k)
span-field (SpanFieldAt.component h k) = then (natural-grown h) (text-grows.grows k)
span-field (SpanFieldAt.kind h k) = then (natural-grown h) (natural-grows.grows k)
span-field (SpanFieldAt.other h u k) = then (natural-grown h) ((skipped-grows 64).grows k)

span-grown : {v : Span} {p q : Standing} → SpanAt v p q → Grown p q
span-grown (span {p = p} h e0 e1) = then (counted_span p) (map-grown (record { grows = span-field }) h)

pub span-grows : Grows SpanAt
span-grows = record { grows = span-grown }

chunk-field : {f : ChunkField} {p q : Standing} → ChunkFieldAt f p q → Grown p q
chunk-field (ChunkFieldAt.priority h k) = then (natural-grown h) (signed-grows.grows k)
chunk-field (ChunkFieldAt.origin h k) = then (natural-grown h) (text-grows.grows k)
chunk-field (ChunkFieldAt.attributes h k) = then (natural-grown h) (attributes-grows.grows k)
chunk-field (ChunkFieldAt.spans h k) = then (natural-grown h) ((array-grows span-grows).grows k)
chunk-field (ChunkFieldAt.dropped h k) = then (natural-grown h) (head-grows.grows k)
chunk-field (ChunkFieldAt.trace_id h k) = then (natural-grown h) (trace_id-grows.grows k)
chunk-field (ChunkFieldAt.mechanism h k) = then (natural-grown h) (natural-grows.grows k)
chunk-field (ChunkFieldAt.other h u k) = then (natural-grown h) ((skipped-grows 64).grows k)

chunk-grown : {v : Chunk} {p q : Standing} → ChunkAt v p q → Grown p q
chunk-grown (chunk {p = p} h e0 e1) = then (counted_chunk p) (map-grown (record { grows = chunk-field }) h)

pub chunk-grows : Grows ChunkAt
chunk-grows = record { grows = chunk-grown }

payload-field : {f : PayloadField} {p q : Standing} → PayloadFieldAt f p q → Grown p q
payload-field (PayloadFieldAt.container_id h k) = then (natural-grown h) (text-grows.grows k)
payload-field (PayloadFieldAt.language_name h k) = then (natural-grown h) (text-grows.grows k)
payload-field (PayloadFieldAt.language_version h k) = then (natural-grown h) (text-grows.grows k)
payload-field (PayloadFieldAt.tracer_version h k) = then (natural-grown h) (text-grows.grows k)
payload-field (PayloadFieldAt.runtime_id h k) = then (natural-grown h) (text-grows.grows k)
payload-field (PayloadFieldAt.env h k) = then (natural-grown h) (text-grows.grows k)
payload-field (PayloadFieldAt.hostname h k) = then (natural-grown h) (text-grows.grows k)
payload-field (PayloadFieldAt.app_version h k) = then (natural-grown h) (text-grows.grows k)
payload-field (PayloadFieldAt.attributes h k) = then (natural-grown h) (attributes-grows.grows k)
payload-field (PayloadFieldAt.chunks h k) = then (natural-grown h) ((array-grows chunk-grows).grows k)
payload-field (PayloadFieldAt.other h u k) = then (natural-grown h) ((skipped-grows 64).grows k)

payload-grown : {v : Payload} {p q : Standing} → PayloadAt v p q → Grown p q
payload-grown (payload h e) = map-grown (record { grows = payload-field }) h

pub payload-grows : Grows PayloadAt
payload-grows = record { grows = payload-grown }
