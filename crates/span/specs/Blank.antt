-- The records before anything is read: the source's defaults. Assumes nothing.
use Rattle.std.specs.Prelude.{ℕ, false, cond, List, replicate, pos, None, ◌==◌}
use Rattle.span.specs.declared.types.Place.{Place}
use Rattle.span.specs.declared.types.Range.{Range}
use Rattle.span.specs.declared.types.Node.{Node}
use Rattle.span.specs.declared.types.SpanLink.{SpanLink}
use Rattle.span.specs.declared.types.SpanEvent.{SpanEvent}
use Rattle.span.specs.declared.types.Span.{Span}
use Rattle.span.specs.declared.types.SpanKind.{SpanKind}
use Rattle.span.specs.declared.types.SpanKind.TheVariants.{Internal, Server, Client, Producer, Consumer}
use Rattle.span.specs.declared.types.TraceChunk.{TraceChunk}
use Rattle.span.specs.declared.types.TracerPayload.{TracerPayload}

abbrev pub no_place : Place
no_place = record { offset = 0; length = 0 }

abbrev pub no_range : Range
no_range = record { first = 0; count = 0 }

abbrev pub range_of : ℕ → ℕ → Range
range_of first count = cond (count == 0) no_range (record { first = first; count = count })

abbrev pub no_id : List ℕ
no_id = replicate 16 0

abbrev pub span_kind_of : ℕ → SpanKind
span_kind_of n =
    cond (n == 2) Server
    (cond (n == 3) Client
    (cond (n == 4) Producer
    (cond (n == 5) Consumer
    Internal)))

abbrev pub blank_node : Node
blank_node = record { key = no_place; type_number = 0; pattern = 0; place = no_place; inside = 0 }

abbrev pub blank_link : SpanLink
blank_link = record { trace_id = no_id; span_id = 0; attributes = no_range; tracestate = no_place; flags = 0 }

abbrev pub blank_event : SpanEvent
blank_event = record { time_unix_nano = 0; name = no_place; attributes = no_range }

abbrev pub blank_span : Span
blank_span =
    record {
      service = no_place;
      name = no_place;
      resource = no_place;
      span_type = no_place;
      span_id = 0;
      parent_id = 0;
      start = pos 0;
      duration = pos 0;
      error = false;
      span_kind = Internal;
      env = no_place;
      version = no_place;
      component = no_place;
      attributes = no_range;
      span_links = no_range;
      span_events = no_range;
    }

abbrev pub blank_chunk : TraceChunk
blank_chunk =
    record {
      trace_id = no_id;
      priority = None;
      origin = no_place;
      sampling_mechanism = None;
      dropped_trace = false;
      attributes = no_range;
      spans = no_range;
    }

abbrev pub blank_payload : TracerPayload
blank_payload =
    record {
      container_id = no_place;
      language_name = no_place;
      language_version = no_place;
      tracer_version = no_place;
      runtime_id = no_place;
      env = no_place;
      hostname = no_place;
      app_version = no_place;
      attributes = no_range;
      chunks = no_range;
    }
