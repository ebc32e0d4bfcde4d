-- Span links. Assumes nothing.
use Rattle.std.specs.Prelude.{ℕ, List, ◌==◌}
use Rattle.refusal.specs.Runs.{◌>>=◌, give, pick}
use Rattle.refusal.specs.declared.Layer.TheVariants.{Link, Span}
use Rattle.span.specs.Blank.{blank_link}
use Rattle.span.specs.declared.types.Place.{Place}
use Rattle.span.specs.declared.types.Range.{Range}
use Rattle.span.specs.declared.types.SpanLink.{SpanLink}
use Rattle.decode.specs.Items.{item_of, up_to}
use Rattle.decode.specs.Binary.{trace_id_at}
use Rattle.decode.specs.Reader.{Room, Read, links_part, placed, text}
use Rattle.attributes.specs.Attributes.{attributes}
use Rattle.skipped.specs.Over.{over}
use Rattle.spans.specs.Records.{record_in, records_in}

abbrev pub with_trace_id : List ℕ → SpanLink → SpanLink
with_trace_id x d = record d { trace_id = x }

abbrev pub with_span_id : ℕ → SpanLink → SpanLink
with_span_id x d = record d { span_id = x }

abbrev pub with_attributes : Range → SpanLink → SpanLink
with_attributes x d = record d { attributes = x }

abbrev pub with_tracestate : Place → SpanLink → SpanLink
with_tracestate x d = record d { tracestate = x }

abbrev pub with_flags : ℕ → SpanLink → SpanLink
with_flags x d = record d { flags = x }

module _ (input : List ℕ) (room : Room) where
  -- what the key k holds, put into the link
  abbrev pub link_at : ℕ → SpanLink → Read SpanLink
  link_at k d =
      pick (k == 1) (placed (trace_id_at input Link) >>= λ x. give (with_trace_id x d)) (
      pick (k == 2) (placed (item_of (up_to 0xffffffffffffffff) input Link) >>= λ x. give (with_span_id x d)) (
      pick (k == 3) (attributes input room 64 >>= λ x. give (with_attributes x d)) (
      pick (k == 4) (text input room >>= λ x. give (with_tracestate x d)) (
      pick (k == 5) (placed (item_of (up_to 0xffffffff) input Link) >>= λ x. give (with_flags x d)) (
      over input room d)))))

  abbrev pub link_field : SpanLink → Read SpanLink
  link_field d = placed (item_of (up_to 0xff) input Link) >>= λ k. link_at k d

  abbrev pub link : Unit {0} → Read (Unit {0})
  link = record_in input room Link links_part link_field blank_link (λ at d. give d)

  -- All links of a span, as a range of the pool. Not an `abbrev`: what stands above need not look inside.
  unfoldable pub links : Read Range
  links = records_in input Span links_part link
