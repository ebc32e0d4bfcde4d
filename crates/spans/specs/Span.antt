-- A span, field by field. Assumes nothing.
use Rattle.std.specs.Prelude.{ℕ, Bool, ◌||◌, List, ℤ, pos, Some, None, Option, ◌==◌, if◌then◌else◌}
use Rattle.refusal.specs.Runs.{◌>>=◌, give, refuse, pick}
use Rattle.refusal.specs.declared.Kind.TheVariants.{InvalidFormat}
use Rattle.refusal.specs.declared.Layer.TheVariants as layer
use Rattle.span.specs.Blank.{blank_span, span_kind_of}
use Rattle.span.specs.declared.types.Place.{Place}
use Rattle.span.specs.declared.types.Range.{Range}
use Rattle.span.specs.declared.types.Span.{Span}
use Rattle.span.specs.declared.types.SpanKind.{SpanKind}
use Rattle.decode.specs.Items.{item_of, is_bool, up_to}
use Rattle.decode.specs.Reader.{Room, Read, spans_part, placed, text}
use Rattle.attributes.specs.Attributes.{attributes}
use Rattle.skipped.specs.Over.{over}
use Rattle.spans.specs.Records.{record_in}
use Rattle.spans.specs.Link.{links}
use Rattle.spans.specs.Event.{events}
use Rattle.spans.specs.declared.span_record.SpanDraft.{SpanDraft}

abbrev pub with_service : Place → Span → Span
with_service x d = record d { service = x }

abbrev pub with_name : Place → Span → Span
with_name x d = record d { name = x }

abbrev pub with_resource : Place → Span → Span
with_resource x d = record d { resource = x }

abbrev pub with_type : Place → Span → Span
with_type x d = record d { span_type = x }

abbrev pub with_span_id : ℕ → Span → Span
with_span_id x d = record d { span_id = x }

abbrev pub with_parent_id : ℕ → Span → Span
with_parent_id x d = record d { parent_id = x }

abbrev pub with_start : ℤ → Span → Span
with_start x d = record d { start = x }

abbrev pub with_duration : ℤ → Span → Span
with_duration x d = record d { duration = x }

abbrev pub with_error : Bool → Span → Span
with_error x d = record d { error = x }

abbrev pub with_kind : SpanKind → Span → Span
with_kind x d = record d { span_kind = x }

abbrev pub with_env : Place → Span → Span
with_env x d = record d { env = x }

abbrev pub with_version : Place → Span → Span
with_version x d = record d { version = x }

abbrev pub with_component : Place → Span → Span
with_component x d = record d { component = x }

abbrev pub with_attributes : Range → Span → Span
with_attributes x d = record d { attributes = x }

abbrev pub with_links : Range → Span → Span
with_links x d = record d { span_links = x }

abbrev pub with_events : Range → Span → Span
with_events x d = record d { span_events = x }

-- the keys whose fields are texts
abbrev pub is_text : ℕ → Bool
is_text k = k == 1 || k == 2 || k == 3 || k == 10 || k == 13 || k == 14 || k == 15

-- the text of the key k
abbrev pub with_text : ℕ → Place → Span → Span
with_text k x d =
    if k == 1 then with_service x d
    else if k == 2 then with_name x d
    else if k == 3 then with_resource x d
    else if k == 10 then with_type x d
    else if k == 13 then with_env x d
    else if k == 14 then with_version x d
    else with_component x d

-- the draft with another span, with an id and with a start; and at first
abbrev pub put : Span → SpanDraft → SpanDraft
put x d = record d { span = x }

abbrev pub put_id : ℕ → SpanDraft → SpanDraft
put_id x d = record d { span_id = Some x }

abbrev pub put_start : ℤ → SpanDraft → SpanDraft
put_start x d = record d { start = Some x }

abbrev pub no_span : SpanDraft
no_span = record { span = blank_span; span_id = None; start = None }

-- the span with the id and the start, if both are there; its header began at the place at
abbrev pub finished : ℕ → Span → Option ℕ → Option ℤ → Read Span
finished at x (Some id) (Some start) = give (with_start start (with_span_id id x))
finished at x _ _ = refuse InvalidFormat layer.Span at

abbrev pub finish : ℕ → SpanDraft → Read Span
finish at d = finished at d.span d.span_id d.start

module _ (input : List ℕ) (room : Room) where
  -- what the key k holds, put into the draft
  abbrev pub span_at : ℕ → SpanDraft → Read SpanDraft
  span_at k d =
      pick (is_text k) (text input room >>= λ x. give (put (with_text k x d.span) d)) (
      pick (k == 4) (placed (item_of (up_to 0xffffffffffffffff) input layer.Span) >>= λ x. give (put_id x d)) (
      pick (k == 5) (placed (item_of (up_to 0xffffffffffffffff) input layer.Span) >>= λ x. give (put (with_parent_id x d.span) d)) (
      pick (k == 6) (placed (item_of (up_to 0x7fffffffffffffff) input layer.Span) >>= λ x. give (put_start (pos x) d)) (
      pick (k == 7) (placed (item_of (up_to 0x7fffffffffffffff) input layer.Span) >>= λ x. give (put (with_duration (pos x) d.span) d)) (
      pick (k == 8) (placed (item_of is_bool input layer.Span) >>= λ x. give (put (with_error x d.span) d)) (
      pick (k == 9) (attributes input room 64 >>= λ x. give (put (with_attributes x d.span) d)) (
      pick (k == 11) (links input room >>= λ x. give (put (with_links x d.span) d)) (
      pick (k == 12) (events input room >>= λ x. give (put (with_events x d.span) d)) (
      pick (k == 16) (placed (item_of (up_to 0xffffffff) input layer.Span) >>= λ x. give (put (with_kind (span_kind_of x) d.span) d)) (
      over input room d))))))))))

  abbrev pub span_field : SpanDraft → Read SpanDraft
  span_field d = placed (item_of (up_to 0xff) input layer.Span) >>= λ k. span_at k d

  -- not an `abbrev`: what stands above need not look inside
  unfoldable pub span : Unit {0} → Read (Unit {0})
  span = record_in input room layer.Span spans_part span_field no_span finish
