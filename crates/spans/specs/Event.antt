-- Span events. Assumes nothing.
use Rattle.std.specs.Prelude.{ℕ, List, ◌==◌}
use Rattle.refusal.specs.Runs.{◌>>=◌, give, pick}
use Rattle.refusal.specs.declared.Layer.TheVariants.{Event, Span}
use Rattle.span.specs.Blank.{blank_event}
use Rattle.span.specs.declared.types.Place.{Place}
use Rattle.span.specs.declared.types.Range.{Range}
use Rattle.span.specs.declared.types.SpanEvent.{SpanEvent}
use Rattle.decode.specs.Items.{item_of, up_to}
use Rattle.decode.specs.Reader.{Room, Read, events_part, placed, text}
use Rattle.attributes.specs.Attributes.{attributes}
use Rattle.skipped.specs.Over.{over}
use Rattle.spans.specs.Records.{record_in, records_in}

abbrev pub with_time : ℕ → SpanEvent → SpanEvent
with_time x d = record d { time_unix_nano = x }

abbrev pub with_name : Place → SpanEvent → SpanEvent
with_name x d = record d { name = x }

abbrev pub with_attributes : Range → SpanEvent → SpanEvent
with_attributes x d = record d { attributes = x }

module _ (input : List ℕ) (room : Room) where
  -- what the key k holds, put into the event
  abbrev pub event_at : ℕ → SpanEvent → Read SpanEvent
  event_at k d =
      pick (k == 1) (placed (item_of (up_to 0xffffffffffffffff) input Event) >>= λ x. give (with_time x d)) (
      pick (k == 2) (text input room >>= λ x. give (with_name x d)) (
      pick (k == 3) (attributes input room 64 >>= λ x. give (with_attributes x d)) (
      over input room d)))

  abbrev pub event_field : SpanEvent → Read SpanEvent
  event_field d = placed (item_of (up_to 0xff) input Event) >>= λ k. event_at k d

  abbrev pub event : Unit {0} → Read (Unit {0})
  event = record_in input room Event events_part event_field blank_event (λ at d. give d)

  -- All events of a span, as a range of the pool. Not an `abbrev`: what stands above need not look inside.
  unfoldable pub events : Read Range
  events = records_in input Span events_part event
