-- The readers of chunks. Assumes nothing.
use Rattle.std.proofs.Common.{◌≡◌, ℕ, true, ◌||◌, eqb, List, [], ◌∷◌, None, Some, Option, refl, ◌∙◌, arith, eqb-true}
use mathlib.Core.Option.{some}
use borrow.Author.Tests.{eqb_apart}
use Rattle.refusal.specs.Runs.{give, refuse, pick}
use Rattle.refusal.specs.declared.Kind.TheVariants.{InvalidFormat}
use Rattle.span.specs.Blank.{no_id, no_range}
use Rattle.span.specs.declared.types.Range.{Range}
use Rattle.decode.specs.Reader.{State, Room}
use Rattle.skipped.specs.Over.{over}
use Rattle.wire.specs.Payload as wire
use Rattle.wire.proofs.Ranges.{apart, none-known}
use Rattle.meaning.specs.Standings.{standing, rooms_of}
use Rattle.meaning.proofs.Skips.{reads_over}
use Rattle.meaning.proofs.Items.{reads-attributes}
use Rattle.refusal.specs.declared.Layer.TheVariants as layer
use Rattle.span.specs.declared.types.TraceChunk.{TraceChunk}
use Rattle.msgpack_decoder.specs.declared.chunk.ChunkDraft.{ChunkDraft}
use Rattle.msgpack_decoder.specs.Chunk.{with_trace_id, with_priority, with_origin, with_mechanism, with_dropped, with_attributes, with_spans, put, put_id, put_spans, spans_of, chunk_at, chunk_field, chunks}
use Rattle.msgpack_decoder.specs.Chunk as spec
use Rattle.wire.specs.Fields.{sees, ChunkField, with_chunk_field, is_trace_id, is_spans}
use Rattle.wire.specs.Standing.{Standing, count_chunk, Fits}
use Rattle.wire.specs.Form.{ArrayAt}
use Rattle.wire.specs.Records.{unknown, SpanAt, ChunkFieldAt, ChunkAt, chunk}
use Rattle.wire.proofs.Grows.{fits-before, skipped-grows, chunk-grows}
use Rattle.meaning.specs.Shown.{shown_chunk}
use Rattle.meaning.proofs.Reading.{Post, hit, then-post, post-map, Does, pick_post, Stood, Reads, finds}
use Rattle.meaning.proofs.Heads.{reads-item, takes-natural, takes-bool, takes-signed32}
use Rattle.meaning.proofs.Texts.{reads-text, reads-trace_id}
use Rattle.meaning.proofs.Counted.{counts-chunks}
use Rattle.meaning.proofs.Takes.{Inside, Recorded, of_spans, of_chunks, nodes-in-chunk, spans-in-chunk}
use Rattle.meaning.proofs.Fills.{moving-inside, chunk-field, chunk-blank, chunk-trace_id, chunk-priority, chunk-origin, chunk-mechanism, chunk-dropped, chunk-attributes, chunk-spans}
use Rattle.meaning.proofs.Gots.{or_else, has}
use Rattle.meaning.proofs.Drafts.{Draft, Drafted, finish_of, or-none, or_some, keys, one_field, one_same, one-other}
use Rattle.meaning.proofs.Rows.{Opened, Shape, reads-record, Listed, reads-range}
use Rattle.meaning.proofs.Spans.{reads-span}

-- the chunk with what was read of the two that must be there
abbrev got : ChunkDraft → TraceChunk
got d = with_spans (or_else no_range d.spans) (with_trace_id (or_else no_id d.trace_id) d.chunk)

-- a chunk must have its trace id and its spans
abbrev chunk_draft : Draft ChunkDraft TraceChunk ChunkField
chunk_draft = record { get = got; one = λ d. has d.trace_id; two = λ d. has d.spans; is_one = is_trace_id; is-two = is_spans }

ends : (at : ℕ) (d : ChunkDraft) (s : State) → spec.finish at d s ≡ finish_of chunk_draft layer.Chunk at d s
ends at d s = go d.trace_id d.spans
  where
    go : (id : Option (List ℕ)) (r : Option Range) → spec.finished at d.chunk id r s ≡ pick (has id) (pick (has r) (give (with_spans (or_else no_range r) (with_trace_id (or_else no_id id) d.chunk))) (refuse InvalidFormat layer.Chunk at)) (refuse InvalidFormat layer.Chunk at) s
    go (Some id) (Some r) = refl
    go (Some id) None = refl
    go None r = refl

opened : {v : wire.Chunk} {p q : Standing} → ChunkAt v p q → Opened chunk_draft with_chunk_field spec.no_chunk wire.no_chunk ChunkFieldAt v (count_chunk p) q
opened (chunk {l} t a b) = record { fields = l; all = refl; there = t; has_one = or_some a; has-two = or_some b }

shape : Shape chunk_draft with_chunk_field spec.no_chunk wire.no_chunk count_chunk ChunkFieldAt ChunkAt
shape = record { make = λ l a b t. chunk t (or-none _ a) (or-none _ b); open_up = opened; grows = chunk-grows }

module _ (input : List ℕ) (room : Room) where
  reads-spans : Reads input room (ArrayAt SpanAt) (spans_of input room) (Listed input room layer.Chunk (of_spans input))
  reads-spans = reads-range input room layer.Chunk (of_spans input) (reads-span input room)

module _ (input : List ℕ) (room : Room) where
  abbrev Puts : ChunkField → ChunkDraft → ChunkDraft → State → State → Type 0
  Puts f c d s s' = Drafted chunk_draft (shown_chunk input) with_chunk_field (Inside (of_chunks input)) (f ∷ []) c d s s'

  -- a field, where no record is taken
  plain : (f : ChunkField) (c d : ChunkDraft) (s q : State) → q.pools ≡ s.pools → chunk_draft.one d ≡ sees chunk_draft.is_one (f ∷ []) || chunk_draft.one c → chunk_draft.two d ≡ sees chunk_draft.is-two (f ∷ []) || chunk_draft.two c → ((v : wire.Chunk) → shown_chunk input q.pools (got c) ≡ some v → shown_chunk input q.pools (got d) ≡ some (with_chunk_field v f)) → Puts f c d s q
  plain f c d s q e a b put = record { fills = chunk-field input f (got c) (got d) s q ((moving-inside (of_chunks input)).none s q e) put; ones = a; twos = b }

  field-sound : (c : ChunkDraft) (s : State) → Fits (rooms_of room) (standing input s) → Post (λ d s'. Stood input room ChunkFieldAt s s') (chunk_field input room c s)
  field-sound c s i =
      then-post (finds (keys input room layer.Chunk) s i) (λ k m h.
      pick_post _ _ m (eqb k 1) (λ e. then-post ((reads-item input takes-signed32 layer.Chunk room).sound m h.1) (λ x q g. hit (ChunkField.priority g.0, ChunkFieldAt.priority (rw (eqb-true _ _ e) at h.0) g.1, g.2))) (λ e1.
      pick_post _ _ m (eqb k 2) (λ e. then-post ((reads-text input room).sound m h.1) (λ x q g. hit (ChunkField.origin g.0, ChunkFieldAt.origin (rw (eqb-true _ _ e) at h.0) g.1, g.2))) (λ e2.
      pick_post _ _ m (eqb k 3) (λ e. then-post ((reads-attributes input room).sound m h.1) (λ x q g. hit (ChunkField.attributes g.0, ChunkFieldAt.attributes (rw (eqb-true _ _ e) at h.0) g.1, g.2))) (λ e3.
      pick_post _ _ m (eqb k 4) (λ e. then-post ((reads-spans input room).sound m h.1) (λ x q g. hit (ChunkField.spans g.0, ChunkFieldAt.spans (rw (eqb-true _ _ e) at h.0) g.1, g.2))) (λ e4.
      pick_post _ _ m (eqb k 5) (λ e. then-post ((reads-item input takes-bool layer.Chunk room).sound m h.1) (λ x q g. hit (ChunkField.dropped g.0, ChunkFieldAt.dropped (rw (eqb-true _ _ e) at h.0) g.1, g.2))) (λ e5.
      pick_post _ _ m (eqb k 6) (λ e. then-post ((reads-trace_id input layer.Chunk room).sound m h.1) (λ x q g. hit (ChunkField.trace_id g.0, ChunkFieldAt.trace_id (rw (eqb-true _ _ e) at h.0) g.1, g.2))) (λ e6.
      pick_post _ _ m (eqb k 7) (λ e. then-post ((reads-item input (takes-natural 0xffffffff) layer.Chunk room).sound m h.1) (λ x q g. hit (ChunkField.mechanism g.0, ChunkFieldAt.mechanism (rw (eqb-true _ _ e) at h.0) g.1, g.2))) (λ e7.
      post-map ((reads_over input room c).sound m h.1) (λ d q g. (ChunkField.other, ChunkFieldAt.other h.0 (none-known 1 7 k (λ a b. omega (arith, eqb_apart k 1 e1, eqb_apart k 2 e2, eqb_apart k 3 e3, eqb_apart k 4 e4, eqb_apart k 5 e5, eqb_apart k 6 e6, eqb_apart k 7 e7))) g.1, g.2))))))))))

  unknown-over : (c : ChunkDraft) (k : ℕ) → unknown 1 7 k ≡ true → chunk_at input room k c ≡ over input room c
  unknown-over c k u = rw (apart 1 7 k 1 u (omega arith) (omega arith), apart 1 7 k 2 u (omega arith) (omega arith), apart 1 7 k 3 u (omega arith) (omega arith), apart 1 7 k 4 u (omega arith) (omega arith), apart 1 7 k 5 u (omega arith) (omega arith), apart 1 7 k 6 u (omega arith) (omega arith), apart 1 7 k 7 u (omega arith) (omega arith))

  field-complete : (c : ChunkDraft) {f : ChunkField} {p q : Standing} → ChunkFieldAt f p q → Fits (rooms_of room) q → (s : State) → standing input s ≡ p → Does (λ d s'. (standing input s' ≡ q) × Puts f c d s s') (chunk_field input room c s)
  field-complete c (ChunkFieldAt.priority {x} h g) i s e =
      one_same input room layer.Chunk (λ k. chunk_at input room k c) (reads-item input takes-signed32 layer.Chunk room) (λ x. put (with_priority (Some x) c.chunk) c) refl h g i s e (λ q kept. plain (ChunkField.priority x) c (put (with_priority (Some x) c.chunk) c) s q kept refl refl (λ v w. chunk-priority input q.pools (got c) v w x))
  field-complete c (ChunkFieldAt.origin {x} h g) i s e =
      one_field input room layer.Chunk (λ k. chunk_at input room k c) (reads-text input room) (λ x. put (with_origin x c.chunk) c) refl h g i s e (λ y m q kept z. plain (ChunkField.origin x) c (put (with_origin y c.chunk) c) s q (z.1 ∙ kept) refl refl (λ v w. chunk-origin input q.pools (got c) v w y x z.0))
  field-complete c (ChunkFieldAt.attributes {x} h g) i s e =
      one_field input room layer.Chunk (λ k. chunk_at input room k c) (reads-attributes input room) (λ x. put (with_attributes x c.chunk) c) refl h g i s e (λ y m q kept z. record {
        fills = chunk-field input (ChunkField.attributes x) (got c) (with_attributes y (got c)) s q ((moving-inside (of_chunks input)).both s m q ((moving-inside (of_chunks input)).none s m kept) (nodes-in-chunk input m q x z.grew)) (λ v w. chunk-attributes input q.pools (got c) v w y x z.shows);
        ones = refl;
        twos = refl;
      })
  field-complete c (ChunkFieldAt.spans {x} h g) i s e =
      one_field input room layer.Chunk (λ k. chunk_at input room k c) (reads-spans input room) (λ x. put_spans x c) refl h g i s e (λ y m q kept z. record {
        fills = chunk-field input (ChunkField.spans x) (got c) (with_spans y (got c)) s q ((moving-inside (of_chunks input)).both s m q ((moving-inside (of_chunks input)).none s m kept) (spans-in-chunk input m q x z.recorded)) (λ v w. chunk-spans input q.pools (got c) v w y x z.shows);
        ones = refl;
        twos = refl;
      })
  field-complete c (ChunkFieldAt.dropped {x} h g) i s e =
      one_same input room layer.Chunk (λ k. chunk_at input room k c) (reads-item input takes-bool layer.Chunk room) (λ x. put (with_dropped x c.chunk) c) refl h g i s e (λ q kept. plain (ChunkField.dropped x) c (put (with_dropped x c.chunk) c) s q kept refl refl (λ v w. chunk-dropped input q.pools (got c) v w x))
  field-complete c (ChunkFieldAt.trace_id {x} h g) i s e =
      one_same input room layer.Chunk (λ k. chunk_at input room k c) (reads-trace_id input layer.Chunk room) (λ x. put_id x c) refl h g i s e (λ q kept. plain (ChunkField.trace_id x) c (put_id x c) s q kept refl refl (λ v w. chunk-trace_id input q.pools (got c) v w x))
  field-complete c (ChunkFieldAt.mechanism {x} h g) i s e =
      one_same input room layer.Chunk (λ k. chunk_at input room k c) (reads-item input (takes-natural 0xffffffff) layer.Chunk room) (λ x. put (with_mechanism (Some x) c.chunk) c) refl h g i s e (λ q kept. plain (ChunkField.mechanism x) c (put (with_mechanism (Some x) c.chunk) c) s q kept refl refl (λ v w. chunk-mechanism input q.pools (got c) v w x))
  field-complete c (ChunkFieldAt.other {k} h u g) i s e =
      one-other input room layer.Chunk (λ k. chunk_at input room k c) c (unknown-over c k u) h g i s e (λ q kept. plain ChunkField.other c c s q kept refl refl (λ v w. w))

  field_fits : {f : ChunkField} {p q : Standing} → ChunkFieldAt f p q → Fits (rooms_of room) q → Fits (rooms_of room) p
  field_fits (ChunkFieldAt.priority h g) i = (keys input room layer.Chunk).fits h ((reads-item input takes-signed32 layer.Chunk room).fits g i)
  field_fits (ChunkFieldAt.origin h g) i = (keys input room layer.Chunk).fits h ((reads-text input room).fits g i)
  field_fits (ChunkFieldAt.attributes h g) i = (keys input room layer.Chunk).fits h ((reads-attributes input room).fits g i)
  field_fits (ChunkFieldAt.spans h g) i = (keys input room layer.Chunk).fits h ((reads-spans input room).fits g i)
  field_fits (ChunkFieldAt.dropped h g) i = (keys input room layer.Chunk).fits h ((reads-item input takes-bool layer.Chunk room).fits g i)
  field_fits (ChunkFieldAt.trace_id h g) i = (keys input room layer.Chunk).fits h ((reads-trace_id input layer.Chunk room).fits g i)
  field_fits (ChunkFieldAt.mechanism h g) i = (keys input room layer.Chunk).fits h ((reads-item input (takes-natural 0xffffffff) layer.Chunk room).fits g i)
  field_fits (ChunkFieldAt.other h u g) i = (keys input room layer.Chunk).fits h (fits-before ((skipped-grows 64).grows g) i)

  one_chunk : (u : Unit {0}) → Reads input room ChunkAt (spec.chunk input room u) (λ v w s s'. Recorded (of_chunks input) s s' (v ∷ []))
  one_chunk u = reads-record input room layer.Chunk (of_chunks input) counts-chunks chunk_draft spec.finish ends with_chunk_field spec.no_chunk wire.no_chunk (chunk-blank input) shape (λ c. record { sound = field-sound c; complete = field-complete c; fits = field_fits })

  pub reads_chunks : Reads input room (ArrayAt ChunkAt) (chunks input room) (Listed input room layer.Payload (of_chunks input))
  unfolding chunks
  reads_chunks = reads-range input room layer.Payload (of_chunks input) one_chunk
