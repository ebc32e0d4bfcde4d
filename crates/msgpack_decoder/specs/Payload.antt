-- A payload, field by field. Assumes nothing.
use Rattle.std.specs.Prelude.{ℕ, Bool, ◌&&◌, List, Some, None, Option, ◌==◌, nat_le, if◌then◌else◌}
use Rattle.refusal.specs.Runs.{◌>>=◌, give, refuse, pick, repeat}
use Rattle.refusal.specs.declared.Kind.TheVariants.{InvalidFormat}
use Rattle.refusal.specs.declared.Layer.TheVariants.{Payload}
use Rattle.span.specs.Blank.{blank_payload}
use Rattle.span.specs.declared.types.Place.{Place}
use Rattle.span.specs.declared.types.Range.{Range}
use Rattle.span.specs.declared.types.TracerPayload.{TracerPayload}
use Rattle.decode.specs.Items.{item_of, is_map, up_to}
use Rattle.decode.specs.Reader.{Room, Read, placed, text}
use Rattle.attributes.specs.Attributes.{attributes}
use Rattle.skipped.specs.Over.{over}
use Rattle.msgpack_decoder.specs.Chunk.{chunks}
use Rattle.msgpack_decoder.specs.declared.payload.PayloadDraft.{PayloadDraft}

abbrev pub with_container : Place → TracerPayload → TracerPayload
with_container x d = record d { container_id = x }

abbrev pub with_language : Place → TracerPayload → TracerPayload
with_language x d = record d { language_name = x }

abbrev pub with_language_version : Place → TracerPayload → TracerPayload
with_language_version x d = record d { language_version = x }

abbrev pub with_tracer : Place → TracerPayload → TracerPayload
with_tracer x d = record d { tracer_version = x }

abbrev pub with_runtime : Place → TracerPayload → TracerPayload
with_runtime x d = record d { runtime_id = x }

abbrev pub with_env : Place → TracerPayload → TracerPayload
with_env x d = record d { env = x }

abbrev pub with_hostname : Place → TracerPayload → TracerPayload
with_hostname x d = record d { hostname = x }

abbrev pub with_app : Place → TracerPayload → TracerPayload
with_app x d = record d { app_version = x }

abbrev pub with_attributes : Range → TracerPayload → TracerPayload
with_attributes x d = record d { attributes = x }

abbrev pub with_chunks : Range → TracerPayload → TracerPayload
with_chunks x d = record d { chunks = x }

-- the keys whose fields are texts
abbrev pub is_text : ℕ → Bool
is_text k = nat_le 2 k && nat_le k 9

-- the text of the key k
abbrev pub with_text : ℕ → Place → TracerPayload → TracerPayload
with_text k x d =
    if k == 2 then with_container x d
    else if k == 3 then with_language x d
    else if k == 4 then with_language_version x d
    else if k == 5 then with_tracer x d
    else if k == 6 then with_runtime x d
    else if k == 7 then with_env x d
    else if k == 8 then with_hostname x d
    else with_app x d

-- the draft with another payload and with chunks; and at first
abbrev pub put : TracerPayload → PayloadDraft → PayloadDraft
put x d = record d { payload = x }

abbrev pub put_chunks : Range → PayloadDraft → PayloadDraft
put_chunks x d = record d { chunks = Some x }

abbrev pub no_payload : PayloadDraft
no_payload = record { payload = blank_payload; chunks = None }

-- the payload with the chunks, if they are there; its header began at the place at
abbrev pub finished : ℕ → TracerPayload → Option Range → Read TracerPayload
finished at x (Some chunks) = give (with_chunks chunks x)
finished at x None = refuse InvalidFormat Payload at

abbrev pub finish : ℕ → PayloadDraft → Read TracerPayload
finish at d = finished at d.payload d.chunks

module _ (input : List ℕ) (room : Room) where
  -- what the key k holds, put into the draft
  abbrev pub payload_at : ℕ → PayloadDraft → Read PayloadDraft
  payload_at k d =
      pick (is_text k) (text input room >>= λ x. give (put (with_text k x d.payload) d)) (
      pick (k == 10) (attributes input room 64 >>= λ x. give (put (with_attributes x d.payload) d)) (
      pick (k == 11) (chunks input room >>= λ x. give (put_chunks x d)) (
      over input room d)))

  abbrev pub payload_field : PayloadDraft → Read PayloadDraft
  payload_field d = placed (item_of (up_to 0xff) input Payload) >>= λ k. payload_at k d

  -- not an `abbrev`: what stands above need not look inside
  unfoldable pub payload : Read TracerPayload
  payload s =
      (placed (item_of is_map input Payload) >>= λ n.
      repeat payload_field n no_payload >>= λ d.
      finish s.at d) s
