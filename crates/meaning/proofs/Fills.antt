-- The fields of a record, put into it one by one: what it says then. Assumes nothing.
use Rattle.std.proofs.Common.{◌≡◌, ℕ, Bool, List, [], ◌∷◌, ◌++◌, length, ℤ, pos, Some, refl, ap, ◌∙◌}
use mathlib.Core.Option.{Option, some, some-injective}
use Rattle.span.specs.Blank.{span_kind_of, blank_link, blank_event, blank_span, blank_chunk, blank_payload}
use Rattle.span.specs.State.{Pools}
use Rattle.span.specs.declared.types.Place.{Place}
use Rattle.span.specs.declared.types.Range.{Range}
use Rattle.span.specs.declared.types.SpanLink.{SpanLink}
use Rattle.span.specs.declared.types.SpanEvent.{SpanEvent}
use Rattle.span.specs.declared.types.Span.{Span}
use Rattle.span.specs.declared.types.TraceChunk.{TraceChunk}
use Rattle.span.specs.declared.types.TracerPayload.{TracerPayload}
use Rattle.decode.specs.Reader.{State, Part, links_part, events_part, spans_part, chunks_part, write_in}
use Rattle.spans.specs.Link as link
use Rattle.spans.specs.Event as event
use Rattle.spans.specs.Span as span
use Rattle.msgpack_decoder.specs.Chunk as chunk
use Rattle.msgpack_decoder.specs.Payload as payload
use Rattle.wire.specs.Payload as wire
use Rattle.wire.specs.Payload.{Text, Item, Link, Event, Chunk, Payload, no_link, no_event, no_span, no_chunk, no_payload}
use Rattle.wire.specs.Fields.{filled, LinkField, EventField, SpanField, ChunkField, PayloadField, with_link_field, with_event_field, with_span_field, with_chunk_field, with_payload_field, link_of, event_of, span_of, chunk_of, payload_of}
use Rattle.meaning.specs.Shown.{contents, shown_in, link_from, event_from, span_from, chunk_from, payload_from, shown_link, shown_links, shown_event, shown_events, shown_span, shown_spans, shown_chunk, shown_chunks, shown_payload}
use Rattle.meaning.proofs.Stays.{Same, both, within_none, Added, added_is, added-also, link-same, event-same, span_same, chunk-same, payload_same}
use Rattle.meaning.proofs.Takes.{Showing, Inside, inside-none, inside-also, Recorded, recorded-one, of_links, of_events, of_spans, of_chunks}

-- what may happen to the pools while fields are read
pub record Moving (In : State → State → Type 0) : Type 0 where
  pub none : (s s' : State) → s'.pools ≡ s.pools → In s s'
  pub both : (s m s' : State) → In s m → In m s' → In s s'
  pub adds : (s s' : State) → In s s' → Added s.pools s'.pools

-- inside a record of a pool, and inside the payload
pub moving-inside : {T V : Type 0} {part : Part T} {show : Pools → T → Option V} {above : Pools → Pools} (laws : Showing part show above) → Moving (Inside laws)
moving-inside laws = record { none = inside-none laws; both = inside-also laws; adds = λ s s' h. h.added }

abbrev pub Growing : State → State → Type 0
Growing s s' = Added s.pools s'.pools

pub moving-growing : Moving Growing
moving-growing = record { none = λ s s' e. added_is e; both = λ s m s' a b. added-also a b; adds = λ s s' h. h }

filled-append : {R F : Type 0} (with : R → F → R) (r : R) (l k : List F) → filled with (filled with r l) k ≡ filled with r (l ++ k)
filled-append with r [] k = refl
filled-append with r (f ∷ l) k = filled-append with (with r f) l k

module _ {T V F : Type 0} (show : Pools → T → Option V) (with : V → F → V) (In : State → State → Type 0) where
  -- from s to s' the record c became d, which says what the fields l make of what c said
  pub record Filled (l : List F) (c d : T) (s s' : State) : Type 0 where
    pub inside : In s s'
    pub says : (v : V) → show s.pools c ≡ some v → show s'.pools d ≡ some (filled with v l)

  module _ (moving : Moving In) where
    pub filled_none : (c : T) (s s' : State) → s'.pools ≡ s.pools → Filled [] c c s s'
    filled_none c s s' e = record { inside = moving.none s s' e; says = λ v h. rw e h }

    pub filled-also : (l k : List F) (c d e : T) (s m s' : State) → Filled l c d s m → Filled k d e m s' → Filled (l ++ k) c e s s'
    filled-also l k c d e s m s' g h = record {
      inside = moving.both s m s' g.inside h.inside;
      says = λ v x. rw (← filled-append with v l k) (h.says _ (g.says v x));
    }

    -- a field, put in when all that belongs to it is there
    pub filled-one : ((p p' : Pools) → Added p p' → (x : T) → Same (show p x) (show p' x)) → (f : F) (c d : T) (s s' : State) → In s s' → ((v : V) → show s'.pools c ≡ some v → show s'.pools d ≡ some (with v f)) → Filled (f ∷ []) c d s s'
    filled-one same f c d s s' i put = record { inside = i; says = λ v h. put v (same s.pools s'.pools (moving.adds s s' i) c v h) }

-- a record was taken (m), all its fields were put in (q), and it is written
pub recorded-filled : {T V F : Type 0} {part : Part T} {show : Pools → T → Option V} {above : Pools → Pools} (laws : Showing part show above) (with : V → F → V) (s m q : State) (j : ℕ) (l : List F) (d : T) (v : V) → j ≡ length (part.of s.pools) → m.pools ≡ part.with (part.of s.pools ++ part.blank ∷ []) s.pools → show m.pools part.blank ≡ some v → Filled show with (Inside laws) l part.blank d m q → Recorded laws s (write_in part j d q).1 (filled with v l ∷ [])
recorded-filled laws with s m q j l d v e r b g = recorded-one laws s m q j d (filled with v l) e r g.inside (g.says v b)

-- a link: what it says, part by part, and field by field
module _ (input : List ℕ) (p : Pools) where
  pub link-blank : shown_link input p blank_link ≡ some no_link
  link-blank = rw (within_none p.nodes)

  module _ (c : SpanLink) where
    pub record LinkSays (v : Link) : Type 0 where
      pub attributes : List Item
      pub in-attributes : shown_in input c.attributes p.nodes ≡ some attributes
      pub all : link_from input c attributes ≡ v

    pub link-says : (v : Link) → shown_link input p c ≡ some v → LinkSays v
    link-says v e =
        let x = both (shown_in input c.attributes p.nodes) _ v e in
        record { attributes = x.value; in-attributes = x.first; all = some-injective _ _ x.second }

    pub link-shown : (v : Link) → LinkSays v → shown_link input p c ≡ some v
    link-shown v h = rw h.in-attributes (ap some h.all)

  module _ (c : SpanLink) (v : Link) (e : shown_link input p c ≡ some v) where
    link-parts : LinkSays c v
    link-parts = link-says c v e

    -- another link with the same ranges
    link-with : (d : SpanLink) (g : Link → Link) → d.attributes ≡ c.attributes → ((a : List Item) → link_from input d a ≡ g (link_from input c a)) → shown_link input p d ≡ some (g v)
    link-with d g r f =
        link-shown d (g v) (record { attributes = link-parts.attributes; in-attributes = rw r link-parts.in-attributes; all = f link-parts.attributes ∙ ap g link-parts.all })

    pub link-trace_id : (x : List ℕ) → shown_link input p (link.with_trace_id x c) ≡ some (with_link_field v (LinkField.trace_id x))
    link-trace_id x = link-with (link.with_trace_id x c) (λ w. with_link_field w (LinkField.trace_id x)) refl (λ a. refl)

    pub link-span_id : (x : ℕ) → shown_link input p (link.with_span_id x c) ≡ some (with_link_field v (LinkField.span_id x))
    link-span_id x = link-with (link.with_span_id x c) (λ w. with_link_field w (LinkField.span_id x)) refl (λ a. refl)

    pub link-attributes : (r : Range) (l : List Item) → shown_in input r p.nodes ≡ some l → shown_link input p (link.with_attributes r c) ≡ some (with_link_field v (LinkField.attributes l))
    link-attributes r l h =
        link-shown (link.with_attributes r c) (with_link_field v (LinkField.attributes l)) (record { attributes = l; in-attributes = h; all = ap (λ w. with_link_field w (LinkField.attributes l)) link-parts.all })

    pub link-tracestate : (x : Place) (t : Text) → contents input x ≡ t → shown_link input p (link.with_tracestate x c) ≡ some (with_link_field v (LinkField.tracestate t))
    link-tracestate x t h = link-with (link.with_tracestate x c) (λ w. with_link_field w (LinkField.tracestate t)) refl (λ a. ap (λ y. with_link_field (link_from input c a) (LinkField.tracestate y)) h)

    pub link-flags : (x : ℕ) → shown_link input p (link.with_flags x c) ≡ some (with_link_field v (LinkField.flags x))
    link-flags x = link-with (link.with_flags x c) (λ w. with_link_field w (LinkField.flags x)) refl (λ a. refl)

-- an event: what it says, part by part, and field by field
module _ (input : List ℕ) (p : Pools) where
  pub event-blank : shown_event input p blank_event ≡ some no_event
  event-blank = rw (within_none p.nodes)

  module _ (c : SpanEvent) where
    pub record EventSays (v : Event) : Type 0 where
      pub attributes : List Item
      pub in-attributes : shown_in input c.attributes p.nodes ≡ some attributes
      pub all : event_from input c attributes ≡ v

    pub event-says : (v : Event) → shown_event input p c ≡ some v → EventSays v
    event-says v e =
        let x = both (shown_in input c.attributes p.nodes) _ v e in
        record { attributes = x.value; in-attributes = x.first; all = some-injective _ _ x.second }

    pub event-shown : (v : Event) → EventSays v → shown_event input p c ≡ some v
    event-shown v h = rw h.in-attributes (ap some h.all)

  module _ (c : SpanEvent) (v : Event) (e : shown_event input p c ≡ some v) where
    event-parts : EventSays c v
    event-parts = event-says c v e

    -- another event with the same ranges
    event-with : (d : SpanEvent) (g : Event → Event) → d.attributes ≡ c.attributes → ((a : List Item) → event_from input d a ≡ g (event_from input c a)) → shown_event input p d ≡ some (g v)
    event-with d g r f =
        event-shown d (g v) (record { attributes = event-parts.attributes; in-attributes = rw r event-parts.in-attributes; all = f event-parts.attributes ∙ ap g event-parts.all })

    pub event-time : (x : ℕ) → shown_event input p (event.with_time x c) ≡ some (with_event_field v (EventField.time x))
    event-time x = event-with (event.with_time x c) (λ w. with_event_field w (EventField.time x)) refl (λ a. refl)

    pub event-name : (x : Place) (t : Text) → contents input x ≡ t → shown_event input p (event.with_name x c) ≡ some (with_event_field v (EventField.name t))
    event-name x t h = event-with (event.with_name x c) (λ w. with_event_field w (EventField.name t)) refl (λ a. ap (λ y. with_event_field (event_from input c a) (EventField.name y)) h)

    pub event-attributes : (r : Range) (l : List Item) → shown_in input r p.nodes ≡ some l → shown_event input p (event.with_attributes r c) ≡ some (with_event_field v (EventField.attributes l))
    event-attributes r l h =
        event-shown (event.with_attributes r c) (with_event_field v (EventField.attributes l)) (record { attributes = l; in-attributes = h; all = ap (λ w. with_event_field w (EventField.attributes l)) event-parts.all })

-- a span: what it says, part by part, and field by field
module _ (input : List ℕ) (p : Pools) where
  pub span-blank : shown_span input p blank_span ≡ some no_span
  span-blank = rw (within_none p.nodes, within_none p.links, within_none p.events)

  module _ (c : Span) where
    pub record SpanSays (v : wire.Span) : Type 0 where
      pub attributes : List Item
      pub links : List Link
      pub events : List Event
      pub in-attributes : shown_in input c.attributes p.nodes ≡ some attributes
      pub in-links : shown_links input p c.span_links ≡ some links
      pub in-events : shown_events input p c.span_events ≡ some events
      pub all : span_from input c attributes links events ≡ v

    pub span-says : (v : wire.Span) → shown_span input p c ≡ some v → SpanSays v
    span-says v e =
        let x = both (shown_in input c.attributes p.nodes) _ v e in
        let y = both (shown_links input p c.span_links) _ v x.second in
        let z = both (shown_events input p c.span_events) _ v y.second in
        record { attributes = x.value; links = y.value; events = z.value; in-attributes = x.first; in-links = y.first; in-events = z.first; all = some-injective _ _ z.second }

    pub span-shown : (v : wire.Span) → SpanSays v → shown_span input p c ≡ some v
    span-shown v h = rw (h.in-attributes, h.in-links, h.in-events) (ap some h.all)

  module _ (c : Span) (v : wire.Span) (e : shown_span input p c ≡ some v) where
    span-parts : SpanSays c v
    span-parts = span-says c v e

    -- another span with the same ranges
    span-with : (d : Span) (g : wire.Span → wire.Span) → d.attributes ≡ c.attributes → d.span_links ≡ c.span_links → d.span_events ≡ c.span_events → ((a : List Item) (l : List Link) (k : List Event) → span_from input d a l k ≡ g (span_from input c a l k)) → shown_span input p d ≡ some (g v)
    span-with d g r s t f =
        span-shown d (g v) (record { attributes = span-parts.attributes; links = span-parts.links; events = span-parts.events; in-attributes = rw r span-parts.in-attributes; in-links = rw s span-parts.in-links; in-events = rw t span-parts.in-events; all = f span-parts.attributes span-parts.links span-parts.events ∙ ap g span-parts.all })

    pub span-service : (x : Place) (t : Text) → contents input x ≡ t → shown_span input p (span.with_service x c) ≡ some (with_span_field v (SpanField.service t))
    span-service x t h = span-with (span.with_service x c) (λ w. with_span_field w (SpanField.service t)) refl refl refl (λ a l k. ap (λ y. with_span_field (span_from input c a l k) (SpanField.service y)) h)

    pub span-name : (x : Place) (t : Text) → contents input x ≡ t → shown_span input p (span.with_name x c) ≡ some (with_span_field v (SpanField.name t))
    span-name x t h = span-with (span.with_name x c) (λ w. with_span_field w (SpanField.name t)) refl refl refl (λ a l k. ap (λ y. with_span_field (span_from input c a l k) (SpanField.name y)) h)

    pub span-resource : (x : Place) (t : Text) → contents input x ≡ t → shown_span input p (span.with_resource x c) ≡ some (with_span_field v (SpanField.resource t))
    span-resource x t h = span-with (span.with_resource x c) (λ w. with_span_field w (SpanField.resource t)) refl refl refl (λ a l k. ap (λ y. with_span_field (span_from input c a l k) (SpanField.resource y)) h)

    pub span_type : (x : Place) (t : Text) → contents input x ≡ t → shown_span input p (span.with_type x c) ≡ some (with_span_field v (SpanField.span_type t))
    span_type x t h = span-with (span.with_type x c) (λ w. with_span_field w (SpanField.span_type t)) refl refl refl (λ a l k. ap (λ y. with_span_field (span_from input c a l k) (SpanField.span_type y)) h)

    pub span-span_id : (x : ℕ) → shown_span input p (span.with_span_id x c) ≡ some (with_span_field v (SpanField.span_id x))
    span-span_id x = span-with (span.with_span_id x c) (λ w. with_span_field w (SpanField.span_id x)) refl refl refl (λ a l k. refl)

    pub span-parent_id : (x : ℕ) → shown_span input p (span.with_parent_id x c) ≡ some (with_span_field v (SpanField.parent_id x))
    span-parent_id x = span-with (span.with_parent_id x c) (λ w. with_span_field w (SpanField.parent_id x)) refl refl refl (λ a l k. refl)

    pub span-start : (x : ℕ) → shown_span input p (span.with_start (pos x) c) ≡ some (with_span_field v (SpanField.start x))
    span-start x = span-with (span.with_start (pos x) c) (λ w. with_span_field w (SpanField.start x)) refl refl refl (λ a l k. refl)

    pub span-duration : (x : ℕ) → shown_span input p (span.with_duration (pos x) c) ≡ some (with_span_field v (SpanField.duration x))
    span-duration x = span-with (span.with_duration (pos x) c) (λ w. with_span_field w (SpanField.duration x)) refl refl refl (λ a l k. refl)

    pub span-error : (x : Bool) → shown_span input p (span.with_error x c) ≡ some (with_span_field v (SpanField.error x))
    span-error x = span-with (span.with_error x c) (λ w. with_span_field w (SpanField.error x)) refl refl refl (λ a l k. refl)

    pub span-kind : (x : ℕ) → shown_span input p (span.with_kind (span_kind_of x) c) ≡ some (with_span_field v (SpanField.kind x))
    span-kind x = span-with (span.with_kind (span_kind_of x) c) (λ w. with_span_field w (SpanField.kind x)) refl refl refl (λ a l k. refl)

    pub span-env : (x : Place) (t : Text) → contents input x ≡ t → shown_span input p (span.with_env x c) ≡ some (with_span_field v (SpanField.env t))
    span-env x t h = span-with (span.with_env x c) (λ w. with_span_field w (SpanField.env t)) refl refl refl (λ a l k. ap (λ y. with_span_field (span_from input c a l k) (SpanField.env y)) h)

    pub span-version : (x : Place) (t : Text) → contents input x ≡ t → shown_span input p (span.with_version x c) ≡ some (with_span_field v (SpanField.version t))
    span-version x t h = span-with (span.with_version x c) (λ w. with_span_field w (SpanField.version t)) refl refl refl (λ a l k. ap (λ y. with_span_field (span_from input c a l k) (SpanField.version y)) h)

    pub span-component : (x : Place) (t : Text) → contents input x ≡ t → shown_span input p (span.with_component x c) ≡ some (with_span_field v (SpanField.component t))
    span-component x t h = span-with (span.with_component x c) (λ w. with_span_field w (SpanField.component t)) refl refl refl (λ a l k. ap (λ y. with_span_field (span_from input c a l k) (SpanField.component y)) h)

    pub span-attributes : (r : Range) (l : List Item) → shown_in input r p.nodes ≡ some l → shown_span input p (span.with_attributes r c) ≡ some (with_span_field v (SpanField.attributes l))
    span-attributes r l h =
        span-shown (span.with_attributes r c) (with_span_field v (SpanField.attributes l)) (record { attributes = l; links = span-parts.links; events = span-parts.events; in-attributes = h; in-links = span-parts.in-links; in-events = span-parts.in-events; all = ap (λ w. with_span_field w (SpanField.attributes l)) span-parts.all })

    pub span-links : (r : Range) (l : List Link) → shown_links input p r ≡ some l → shown_span input p (span.with_links r c) ≡ some (with_span_field v (SpanField.links l))
    span-links r l h =
        span-shown (span.with_links r c) (with_span_field v (SpanField.links l)) (record { attributes = span-parts.attributes; links = l; events = span-parts.events; in-attributes = span-parts.in-attributes; in-links = h; in-events = span-parts.in-events; all = ap (λ w. with_span_field w (SpanField.links l)) span-parts.all })

    pub span-events : (r : Range) (l : List Event) → shown_events input p r ≡ some l → shown_span input p (span.with_events r c) ≡ some (with_span_field v (SpanField.events l))
    span-events r l h =
        span-shown (span.with_events r c) (with_span_field v (SpanField.events l)) (record { attributes = span-parts.attributes; links = span-parts.links; events = l; in-attributes = span-parts.in-attributes; in-links = span-parts.in-links; in-events = h; all = ap (λ w. with_span_field w (SpanField.events l)) span-parts.all })

-- a chunk: what it says, part by part, and field by field
module _ (input : List ℕ) (p : Pools) where
  pub chunk-blank : shown_chunk input p blank_chunk ≡ some no_chunk
  chunk-blank = rw (within_none p.nodes, within_none p.spans)

  module _ (c : TraceChunk) where
    pub record ChunkSays (v : Chunk) : Type 0 where
      pub attributes : List Item
      pub spans : List wire.Span
      pub in-attributes : shown_in input c.attributes p.nodes ≡ some attributes
      pub in-spans : shown_spans input p c.spans ≡ some spans
      pub all : chunk_from input c attributes spans ≡ v

    pub chunk-says : (v : Chunk) → shown_chunk input p c ≡ some v → ChunkSays v
    chunk-says v e =
        let x = both (shown_in input c.attributes p.nodes) _ v e in
        let y = both (shown_spans input p c.spans) _ v x.second in
        record { attributes = x.value; spans = y.value; in-attributes = x.first; in-spans = y.first; all = some-injective _ _ y.second }

    pub chunk-shown : (v : Chunk) → ChunkSays v → shown_chunk input p c ≡ some v
    chunk-shown v h = rw (h.in-attributes, h.in-spans) (ap some h.all)

  module _ (c : TraceChunk) (v : Chunk) (e : shown_chunk input p c ≡ some v) where
    chunk-parts : ChunkSays c v
    chunk-parts = chunk-says c v e

    -- another chunk with the same ranges
    chunk-with : (d : TraceChunk) (g : Chunk → Chunk) → d.attributes ≡ c.attributes → d.spans ≡ c.spans → ((a : List Item) (l : List wire.Span) → chunk_from input d a l ≡ g (chunk_from input c a l)) → shown_chunk input p d ≡ some (g v)
    chunk-with d g r s f =
        chunk-shown d (g v) (record { attributes = chunk-parts.attributes; spans = chunk-parts.spans; in-attributes = rw r chunk-parts.in-attributes; in-spans = rw s chunk-parts.in-spans; all = f chunk-parts.attributes chunk-parts.spans ∙ ap g chunk-parts.all })

    pub chunk-trace_id : (x : List ℕ) → shown_chunk input p (chunk.with_trace_id x c) ≡ some (with_chunk_field v (ChunkField.trace_id x))
    chunk-trace_id x = chunk-with (chunk.with_trace_id x c) (λ w. with_chunk_field w (ChunkField.trace_id x)) refl refl (λ a l. refl)

    pub chunk-priority : (x : ℤ) → shown_chunk input p (chunk.with_priority (Some x) c) ≡ some (with_chunk_field v (ChunkField.priority x))
    chunk-priority x = chunk-with (chunk.with_priority (Some x) c) (λ w. with_chunk_field w (ChunkField.priority x)) refl refl (λ a l. refl)

    pub chunk-origin : (x : Place) (t : Text) → contents input x ≡ t → shown_chunk input p (chunk.with_origin x c) ≡ some (with_chunk_field v (ChunkField.origin t))
    chunk-origin x t h = chunk-with (chunk.with_origin x c) (λ w. with_chunk_field w (ChunkField.origin t)) refl refl (λ a l. ap (λ y. with_chunk_field (chunk_from input c a l) (ChunkField.origin y)) h)

    pub chunk-mechanism : (x : ℕ) → shown_chunk input p (chunk.with_mechanism (Some x) c) ≡ some (with_chunk_field v (ChunkField.mechanism x))
    chunk-mechanism x = chunk-with (chunk.with_mechanism (Some x) c) (λ w. with_chunk_field w (ChunkField.mechanism x)) refl refl (λ a l. refl)

    pub chunk-dropped : (x : Bool) → shown_chunk input p (chunk.with_dropped x c) ≡ some (with_chunk_field v (ChunkField.dropped x))
    chunk-dropped x = chunk-with (chunk.with_dropped x c) (λ w. with_chunk_field w (ChunkField.dropped x)) refl refl (λ a l. refl)

    pub chunk-attributes : (r : Range) (l : List Item) → shown_in input r p.nodes ≡ some l → shown_chunk input p (chunk.with_attributes r c) ≡ some (with_chunk_field v (ChunkField.attributes l))
    chunk-attributes r l h =
        chunk-shown (chunk.with_attributes r c) (with_chunk_field v (ChunkField.attributes l)) (record { attributes = l; spans = chunk-parts.spans; in-attributes = h; in-spans = chunk-parts.in-spans; all = ap (λ w. with_chunk_field w (ChunkField.attributes l)) chunk-parts.all })

    pub chunk-spans : (r : Range) (l : List wire.Span) → shown_spans input p r ≡ some l → shown_chunk input p (chunk.with_spans r c) ≡ some (with_chunk_field v (ChunkField.spans l))
    chunk-spans r l h =
        chunk-shown (chunk.with_spans r c) (with_chunk_field v (ChunkField.spans l)) (record { attributes = chunk-parts.attributes; spans = l; in-attributes = chunk-parts.in-attributes; in-spans = h; all = ap (λ w. with_chunk_field w (ChunkField.spans l)) chunk-parts.all })

-- a payload: what it says, part by part, and field by field
module _ (input : List ℕ) (p : Pools) where
  pub payload-blank : shown_payload input p blank_payload ≡ some no_payload
  payload-blank = rw (within_none p.nodes, within_none p.chunks)

  module _ (c : TracerPayload) where
    pub record PayloadSays (v : Payload) : Type 0 where
      pub attributes : List Item
      pub chunks : List Chunk
      pub in-attributes : shown_in input c.attributes p.nodes ≡ some attributes
      pub in-chunks : shown_chunks input p c.chunks ≡ some chunks
      pub all : payload_from input c attributes chunks ≡ v

    pub payload-says : (v : Payload) → shown_payload input p c ≡ some v → PayloadSays v
    payload-says v e =
        let x = both (shown_in input c.attributes p.nodes) _ v e in
        let y = both (shown_chunks input p c.chunks) _ v x.second in
        record { attributes = x.value; chunks = y.value; in-attributes = x.first; in-chunks = y.first; all = some-injective _ _ y.second }

    pub payload-shown : (v : Payload) → PayloadSays v → shown_payload input p c ≡ some v
    payload-shown v h = rw (h.in-attributes, h.in-chunks) (ap some h.all)

  module _ (c : TracerPayload) (v : Payload) (e : shown_payload input p c ≡ some v) where
    payload-parts : PayloadSays c v
    payload-parts = payload-says c v e

    -- another payload with the same ranges
    payload-with : (d : TracerPayload) (g : Payload → Payload) → d.attributes ≡ c.attributes → d.chunks ≡ c.chunks → ((a : List Item) (l : List Chunk) → payload_from input d a l ≡ g (payload_from input c a l)) → shown_payload input p d ≡ some (g v)
    payload-with d g r s f =
        payload-shown d (g v) (record { attributes = payload-parts.attributes; chunks = payload-parts.chunks; in-attributes = rw r payload-parts.in-attributes; in-chunks = rw s payload-parts.in-chunks; all = f payload-parts.attributes payload-parts.chunks ∙ ap g payload-parts.all })

    pub payload-container_id : (x : Place) (t : Text) → contents input x ≡ t → shown_payload input p (payload.with_container x c) ≡ some (with_payload_field v (PayloadField.container_id t))
    payload-container_id x t h = payload-with (payload.with_container x c) (λ w. with_payload_field w (PayloadField.container_id t)) refl refl (λ a l. ap (λ y. with_payload_field (payload_from input c a l) (PayloadField.container_id y)) h)

    pub payload-language_name : (x : Place) (t : Text) → contents input x ≡ t → shown_payload input p (payload.with_language x c) ≡ some (with_payload_field v (PayloadField.language_name t))
    payload-language_name x t h = payload-with (payload.with_language x c) (λ w. with_payload_field w (PayloadField.language_name t)) refl refl (λ a l. ap (λ y. with_payload_field (payload_from input c a l) (PayloadField.language_name y)) h)

    pub payload-language_version : (x : Place) (t : Text) → contents input x ≡ t → shown_payload input p (payload.with_language_version x c) ≡ some (with_payload_field v (PayloadField.language_version t))
    payload-language_version x t h = payload-with (payload.with_language_version x c) (λ w. with_payload_field w (PayloadField.language_version t)) refl refl (λ a l. ap (λ y. with_payload_field (payload_from input c a l) (PayloadField.language_version y)) h)

    pub payload-tracer_version : (x : Place) (t : Text) → contents input x ≡ t → shown_payload input p (payload.with_tracer x c) ≡ some (with_payload_field v (PayloadField.tracer_version t))
    payload-tracer_version x t h = payload-with (payload.with_tracer x c) (λ w. with_payload_field w (PayloadField.tracer_version t)) refl refl (λ a l. ap (λ y. with_payload_field (payload_from input c a l) (PayloadField.tracer_version y)) h)

    pub payload-runtime_id : (x : Place) (t : Text) → contents input x ≡ t → shown_payload input p (payload.with_runtime x c) ≡ some (with_payload_field v (PayloadField.runtime_id t))
    payload-runtime_id x t h = payload-with (payload.with_runtime x c) (λ w. with_payload_field w (PayloadField.runtime_id t)) refl refl (λ a l. ap (λ y. with_payload_field (payload_from input c a l) (PayloadField.runtime_id y)) h)

    pub payload-env : (x : Place) (t : Text) → contents input x ≡ t → shown_payload input p (payload.with_env x c) ≡ some (with_payload_field v (PayloadField.env t))
    payload-env x t h = payload-with (payload.with_env x c) (λ w. with_payload_field w (PayloadField.env t)) refl refl (λ a l. ap (λ y. with_payload_field (payload_from input c a l) (PayloadField.env y)) h)

    pub payload-hostname : (x : Place) (t : Text) → contents input x ≡ t → shown_payload input p (payload.with_hostname x c) ≡ some (with_payload_field v (PayloadField.hostname t))
    payload-hostname x t h = payload-with (payload.with_hostname x c) (λ w. with_payload_field w (PayloadField.hostname t)) refl refl (λ a l. ap (λ y. with_payload_field (payload_from input c a l) (PayloadField.hostname y)) h)

    pub payload-app_version : (x : Place) (t : Text) → contents input x ≡ t → shown_payload input p (payload.with_app x c) ≡ some (with_payload_field v (PayloadField.app_version t))
    payload-app_version x t h = payload-with (payload.with_app x c) (λ w. with_payload_field w (PayloadField.app_version t)) refl refl (λ a l. ap (λ y. with_payload_field (payload_from input c a l) (PayloadField.app_version y)) h)

    pub payload-attributes : (r : Range) (l : List Item) → shown_in input r p.nodes ≡ some l → shown_payload input p (payload.with_attributes r c) ≡ some (with_payload_field v (PayloadField.attributes l))
    payload-attributes r l h =
        payload-shown (payload.with_attributes r c) (with_payload_field v (PayloadField.attributes l)) (record { attributes = l; chunks = payload-parts.chunks; in-attributes = h; in-chunks = payload-parts.in-chunks; all = ap (λ w. with_payload_field w (PayloadField.attributes l)) payload-parts.all })

    pub payload-chunks : (r : Range) (l : List Chunk) → shown_chunks input p r ≡ some l → shown_payload input p (payload.with_chunks r c) ≡ some (with_payload_field v (PayloadField.chunks l))
    payload-chunks r l h =
        payload-shown (payload.with_chunks r c) (with_payload_field v (PayloadField.chunks l)) (record { attributes = payload-parts.attributes; chunks = l; in-attributes = payload-parts.in-attributes; in-chunks = h; all = ap (λ w. with_payload_field w (PayloadField.chunks l)) payload-parts.all })

-- the same for each kind of record: the fields l were put into c, which is now d
abbrev pub LinkFilled : List ℕ → List LinkField → SpanLink → SpanLink → State → State → Type 0
LinkFilled input = Filled (shown_link input) with_link_field (Inside (of_links input))

abbrev pub EventFilled : List ℕ → List EventField → SpanEvent → SpanEvent → State → State → Type 0
EventFilled input = Filled (shown_event input) with_event_field (Inside (of_events input))

abbrev pub SpanFilled : List ℕ → List SpanField → Span → Span → State → State → Type 0
SpanFilled input = Filled (shown_span input) with_span_field (Inside (of_spans input))

abbrev pub ChunkFilled : List ℕ → List ChunkField → TraceChunk → TraceChunk → State → State → Type 0
ChunkFilled input = Filled (shown_chunk input) with_chunk_field (Inside (of_chunks input))

abbrev pub PayloadFilled : List ℕ → List PayloadField → TracerPayload → TracerPayload → State → State → Type 0
PayloadFilled input = Filled (shown_payload input) with_payload_field Growing

-- one field, put in when all that belongs to it is there
module _ (input : List ℕ) where
  pub link-field : (f : LinkField) (c d : SpanLink) (s s' : State) → Inside (of_links input) s s' → ((v : Link) → shown_link input s'.pools c ≡ some v → shown_link input s'.pools d ≡ some (with_link_field v f)) → LinkFilled input (f ∷ []) c d s s'
  link-field = filled-one (shown_link input) with_link_field (Inside (of_links input)) (moving-inside (of_links input)) (link-same input)

  pub event-field : (f : EventField) (c d : SpanEvent) (s s' : State) → Inside (of_events input) s s' → ((v : Event) → shown_event input s'.pools c ≡ some v → shown_event input s'.pools d ≡ some (with_event_field v f)) → EventFilled input (f ∷ []) c d s s'
  event-field = filled-one (shown_event input) with_event_field (Inside (of_events input)) (moving-inside (of_events input)) (event-same input)

  pub span-field : (f : SpanField) (c d : Span) (s s' : State) → Inside (of_spans input) s s' → ((v : wire.Span) → shown_span input s'.pools c ≡ some v → shown_span input s'.pools d ≡ some (with_span_field v f)) → SpanFilled input (f ∷ []) c d s s'
  span-field = filled-one (shown_span input) with_span_field (Inside (of_spans input)) (moving-inside (of_spans input)) (span_same input)

  pub chunk-field : (f : ChunkField) (c d : TraceChunk) (s s' : State) → Inside (of_chunks input) s s' → ((v : Chunk) → shown_chunk input s'.pools c ≡ some v → shown_chunk input s'.pools d ≡ some (with_chunk_field v f)) → ChunkFilled input (f ∷ []) c d s s'
  chunk-field = filled-one (shown_chunk input) with_chunk_field (Inside (of_chunks input)) (moving-inside (of_chunks input)) (chunk-same input)

  pub payload-field : (f : PayloadField) (c d : TracerPayload) (s s' : State) → Growing s s' → ((v : Payload) → shown_payload input s'.pools c ≡ some v → shown_payload input s'.pools d ≡ some (with_payload_field v f)) → PayloadFilled input (f ∷ []) c d s s'
  payload-field = filled-one (shown_payload input) with_payload_field Growing moving-growing (payload_same input)

-- a record of each kind, taken, filled and written; and the payload
module _ (input : List ℕ) (s m q : State) (j : ℕ) where
  pub link-recorded : (l : List LinkField) (d : SpanLink) → j ≡ length s.pools.links → m.pools ≡ links_part.with (s.pools.links ++ blank_link ∷ []) s.pools → LinkFilled input l blank_link d m q → Recorded (of_links input) s (write_in links_part j d q).1 (link_of l ∷ [])
  link-recorded l d e r g = recorded-filled (of_links input) with_link_field s m q j l d no_link e r (link-blank input m.pools) g

  pub event-recorded : (l : List EventField) (d : SpanEvent) → j ≡ length s.pools.events → m.pools ≡ events_part.with (s.pools.events ++ blank_event ∷ []) s.pools → EventFilled input l blank_event d m q → Recorded (of_events input) s (write_in events_part j d q).1 (event_of l ∷ [])
  event-recorded l d e r g = recorded-filled (of_events input) with_event_field s m q j l d no_event e r (event-blank input m.pools) g

  pub span-recorded : (l : List SpanField) (d : Span) → j ≡ length s.pools.spans → m.pools ≡ spans_part.with (s.pools.spans ++ blank_span ∷ []) s.pools → SpanFilled input l blank_span d m q → Recorded (of_spans input) s (write_in spans_part j d q).1 (span_of l ∷ [])
  span-recorded l d e r g = recorded-filled (of_spans input) with_span_field s m q j l d no_span e r (span-blank input m.pools) g

  pub chunk-recorded : (l : List ChunkField) (d : TraceChunk) → j ≡ length s.pools.chunks → m.pools ≡ chunks_part.with (s.pools.chunks ++ blank_chunk ∷ []) s.pools → ChunkFilled input l blank_chunk d m q → Recorded (of_chunks input) s (write_in chunks_part j d q).1 (chunk_of l ∷ [])
  chunk-recorded l d e r g = recorded-filled (of_chunks input) with_chunk_field s m q j l d no_chunk e r (chunk-blank input m.pools) g

pub payload-filled : (input : List ℕ) (s s' : State) (l : List PayloadField) (d : TracerPayload) → PayloadFilled input l blank_payload d s s' → shown_payload input s'.pools d ≡ some (payload_of l)
payload-filled input s s' l d g = g.says no_payload (payload-blank input s.pools)
