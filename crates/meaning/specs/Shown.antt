-- What records say: the payload that they stand for. Assumes nothing.
use Rattle.std.specs.Prelude.{ℕ, zero, suc, ◌+◌, Bool, true, false, List, [], ◌∷◌, length, take, drop, ◌==◌, nat_le}
use Rattle.std.proofs.Math.Option.{Option, some, none}
use Rattle.std.specs.Int.{w64}
use Rattle.std.proofs.Common.{to_z}
use Rattle.span.specs.State.{Pools}
use Rattle.span.specs.declared.types.Place.{Place}
use Rattle.span.specs.declared.types.Range.{Range}
use Rattle.span.specs.declared.types.Node.{Node}
use Rattle.span.specs.declared.types.SpanLink.{SpanLink}
use Rattle.span.specs.declared.types.SpanEvent.{SpanEvent}
use Rattle.span.specs.declared.types.Span.{Span}
use Rattle.span.specs.declared.types.TraceChunk.{TraceChunk}
use Rattle.span.specs.declared.types.TracerPayload.{TracerPayload}
use Rattle.decode.specs.Binary.{part}
use Rattle.wire.specs.Payload as wire
use Rattle.wire.specs.Payload.{Text, Value, text_value, bool_value, double_value, int_value, bytes_value, list_value, map_value, Item, values, entries, Link, Event, Chunk, Payload}

abbrev pub choose : {A : Type 0} → Bool → A → A → A
choose true a b = a
choose false a b = b

abbrev pub also : {A B : Type 0} → Option A → (A → Option B) → Option B
also none f = none
also (some a) f = f a

-- what each of the records says
abbrev pub shown_all : {T V : Type 0} → (T → Option V) → List T → Option (List V)
shown_all f [] = some []
shown_all f (x ∷ l) = also (f x) (λ v. also (shown_all f l) (λ k. some (v ∷ k)))

-- the records of a range, if all of it lies in the pool
abbrev pub within : {T : Type 0} → Range → List T → Option (List T)
within r l = choose (nat_le (r.first + r.count) (length l)) (some (take r.count (drop r.first l))) none

-- v, if nothing is inside
abbrev pub alone : Value → List Item → Option Value
alone v [] = some v
alone v (i ∷ l) = none

-- 0 or 1
abbrev pub flag : ℕ → Option Bool
flag n = choose (n == 0) (some false) (choose (n == 1) (some true) none)

module _ (input : List ℕ) where
  abbrev pub contents : Place → Text
  contents x = part input x.offset x.length

  -- the value of a type, from a pattern, a place, and what is inside
  abbrev pub meant : ℕ → ℕ → Place → List Item → Option Value
  meant t n x l =
      choose (t == 1) (alone (text_value (contents x)) l) (
      choose (t == 2) (also (flag n) (λ b. alone (bool_value b) l)) (
      choose (t == 3) (alone (double_value n) l) (
      choose (t == 4) (alone (int_value (to_z w64 n)) l) (
      choose (t == 5) (alone (bytes_value (contents x)) l) (
      choose (t == 6) (some (list_value (values l))) (
      choose (t == 7) (some (map_value (entries l)))
      none))))))

  -- the first node, with what is inside, and behind it the rest
  abbrev pub joined : Node → Option (List Item) → Option (List Item) → Option (List Item)
  joined n inner rest =
      also inner (λ l. also (meant n.type_number n.pattern n.place l) (λ v. also rest (λ k. some ((contents n.key, v) ∷ k))))

  abbrev pub shown_by : ℕ → List Node → Option (List Item)
  shown_by zero [] = some []
  shown_by zero (n ∷ l) = none
  shown_by (suc f) [] = some []
  shown_by (suc f) (n ∷ l) =
      choose (nat_le n.inside (length l)) (joined n (shown_by f (take n.inside l)) (shown_by f (drop n.inside l))) none

  -- what the nodes say, one after the other
  abbrev pub shown : List Node → Option (List Item)
  shown l = shown_by (length l) l

  abbrev pub shown_in : Range → List Node → Option (List Item)
  shown_in r l = also (within r l) shown

  -- a link with these attributes, and so for the other records with what their ranges say
  abbrev pub link_from : SpanLink → List Item → Link
  link_from x a = record { trace_id = x.trace_id; span_id = x.span_id; attributes = a; tracestate = contents x.tracestate; flags = x.flags }

  abbrev pub event_from : SpanEvent → List Item → Event
  event_from x a = record { time_unix_nano = x.time_unix_nano; name = contents x.name; attributes = a }

  abbrev pub span_from : Span → List Item → List Link → List Event → wire.Span
  span_from x a l e =
      record {
        service = contents x.service;
        name = contents x.name;
        resource = contents x.resource;
        span_type = contents x.span_type;
        span_id = x.span_id;
        parent_id = x.parent_id;
        start = x.start;
        duration = x.duration;
        error = x.error;
        span_kind = x.span_kind;
        env = contents x.env;
        version = contents x.version;
        component = contents x.component;
        attributes = a;
        span_links = l;
        span_events = e;
      }

  abbrev pub chunk_from : TraceChunk → List Item → List wire.Span → Chunk
  chunk_from x a l =
      record {
        trace_id = x.trace_id;
        priority = x.priority;
        origin = contents x.origin;
        sampling_mechanism = x.sampling_mechanism;
        dropped_trace = x.dropped_trace;
        attributes = a;
        spans = l;
      }

  abbrev pub payload_from : TracerPayload → List Item → List Chunk → Payload
  payload_from x a l =
      record {
        container_id = contents x.container_id;
        language_name = contents x.language_name;
        language_version = contents x.language_version;
        tracer_version = contents x.tracer_version;
        runtime_id = contents x.runtime_id;
        env = contents x.env;
        hostname = contents x.hostname;
        app_version = contents x.app_version;
        attributes = a;
        chunks = l;
      }

  abbrev pub shown_link : Pools → SpanLink → Option Link
  shown_link p x = also (shown_in x.attributes p.nodes) (λ a. some (link_from x a))

  abbrev pub shown_event : Pools → SpanEvent → Option Event
  shown_event p x = also (shown_in x.attributes p.nodes) (λ a. some (event_from x a))

  abbrev pub shown_links : Pools → Range → Option (List Link)
  shown_links p r = also (within r p.links) (shown_all (shown_link p))

  abbrev pub shown_events : Pools → Range → Option (List Event)
  shown_events p r = also (within r p.events) (shown_all (shown_event p))

  abbrev pub shown_span : Pools → Span → Option wire.Span
  shown_span p x =
      also (shown_in x.attributes p.nodes) (λ a.
      also (shown_links p x.span_links) (λ l.
      also (shown_events p x.span_events) (λ e.
      some (span_from x a l e))))

  abbrev pub shown_spans : Pools → Range → Option (List wire.Span)
  shown_spans p r = also (within r p.spans) (shown_all (shown_span p))

  abbrev pub shown_chunk : Pools → TraceChunk → Option Chunk
  shown_chunk p x = also (shown_in x.attributes p.nodes) (λ a. also (shown_spans p x.spans) (λ l. some (chunk_from x a l)))

  abbrev pub shown_chunks : Pools → Range → Option (List Chunk)
  shown_chunks p r = also (within r p.chunks) (shown_all (shown_chunk p))

  abbrev pub shown_payload : Pools → TracerPayload → Option Payload
  shown_payload p x = also (shown_in x.attributes p.nodes) (λ a. also (shown_chunks p x.chunks) (λ l. some (payload_from x a l)))
