-- A chunk, field by field. Assumes nothing.
use Rattle.std.specs.Prelude.{ℕ, Bool, List, ℤ, Some, None, Option, ◌==◌}
use Rattle.refusal.specs.Runs.{◌>>=◌, give, refuse, pick}
use Rattle.refusal.specs.declared.Kind.TheVariants.{InvalidFormat}
use Rattle.refusal.specs.declared.Layer.TheVariants.{Payload, Chunk}
use Rattle.span.specs.Blank.{blank_chunk}
use Rattle.span.specs.declared.types.Place.{Place}
use Rattle.span.specs.declared.types.Range.{Range}
use Rattle.span.specs.declared.types.TraceChunk.{TraceChunk}
use Rattle.decode.specs.Items.{item_of, is_bool, signed32, up_to}
use Rattle.decode.specs.Binary.{trace_id_at}
use Rattle.decode.specs.Reader.{Room, Read, chunks_part, spans_part, placed, text}
use Rattle.attributes.specs.Attributes.{attributes}
use Rattle.skipped.specs.Over.{over}
use Rattle.spans.specs.Records.{record_in, records_in}
use Rattle.spans.specs.Span.{span}
use Rattle.msgpack_decoder.specs.declared.chunk.ChunkDraft.{ChunkDraft}

abbrev pub with_trace_id : List ℕ → TraceChunk → TraceChunk
with_trace_id x d = record d { trace_id = x }

abbrev pub with_priority : Option ℤ → TraceChunk → TraceChunk
with_priority x d = record d { priority = x }

abbrev pub with_origin : Place → TraceChunk → TraceChunk
with_origin x d = record d { origin = x }

abbrev pub with_mechanism : Option ℕ → TraceChunk → TraceChunk
with_mechanism x d = record d { sampling_mechanism = x }

abbrev pub with_dropped : Bool → TraceChunk → TraceChunk
with_dropped x d = record d { dropped_trace = x }

abbrev pub with_attributes : Range → TraceChunk → TraceChunk
with_attributes x d = record d { attributes = x }

abbrev pub with_spans : Range → TraceChunk → TraceChunk
with_spans x d = record d { spans = x }

-- the draft with another chunk, with a trace id and with spans; and at first
abbrev pub put : TraceChunk → ChunkDraft → ChunkDraft
put x d = record d { chunk = x }

abbrev pub put_id : List ℕ → ChunkDraft → ChunkDraft
put_id x d = record d { trace_id = Some x }

abbrev pub put_spans : Range → ChunkDraft → ChunkDraft
put_spans x d = record d { spans = Some x }

abbrev pub no_chunk : ChunkDraft
no_chunk = record { chunk = blank_chunk; trace_id = None; spans = None }

-- the chunk with the trace id and the spans, if both are there; its header began at the place at
abbrev pub finished : ℕ → TraceChunk → Option (List ℕ) → Option Range → Read TraceChunk
finished at x (Some id) (Some spans) = give (with_spans spans (with_trace_id id x))
finished at x _ _ = refuse InvalidFormat Chunk at

abbrev pub finish : ℕ → ChunkDraft → Read TraceChunk
finish at d = finished at d.chunk d.trace_id d.spans

module _ (input : List ℕ) (room : Room) where
  -- all spans of a chunk, as a range of the pool
  abbrev pub spans_of : Read Range
  spans_of = records_in input Chunk spans_part (span input room)

  -- what the key k holds, put into the draft
  abbrev pub chunk_at : ℕ → ChunkDraft → Read ChunkDraft
  chunk_at k d =
      pick (k == 1) (placed (item_of signed32 input Chunk) >>= λ x. give (put (with_priority (Some x) d.chunk) d)) (
      pick (k == 2) (text input room >>= λ x. give (put (with_origin x d.chunk) d)) (
      pick (k == 3) (attributes input room 64 >>= λ x. give (put (with_attributes x d.chunk) d)) (
      pick (k == 4) (spans_of >>= λ x. give (put_spans x d)) (
      pick (k == 5) (placed (item_of is_bool input Chunk) >>= λ x. give (put (with_dropped x d.chunk) d)) (
      pick (k == 6) (placed (trace_id_at input Chunk) >>= λ x. give (put_id x d)) (
      pick (k == 7) (placed (item_of (up_to 0xffffffff) input Chunk) >>= λ x. give (put (with_mechanism (Some x) d.chunk) d)) (
      over input room d)))))))

  abbrev pub chunk_field : ChunkDraft → Read ChunkDraft
  chunk_field d = placed (item_of (up_to 0xff) input Chunk) >>= λ k. chunk_at k d

  abbrev pub chunk : Unit {0} → Read (Unit {0})
  chunk = record_in input room Chunk chunks_part chunk_field no_chunk finish

  -- All chunks of a payload, as a range of the pool. Not an `abbrev`: what stands above need not look inside.
  unfoldable pub chunks : Read Range
  chunks = records_in input Payload chunks_part chunk
