-- Writings, byte by byte. Assumes nothing.
use Rattle.std.proofs.Common.{ℕ, ◌<◌, true, false, List, [], ◌∷◌, replicate, pos, negsuc, refl, arith}
use Rattle.msgpack.specs.Formats.{positive_fixint, fixmap, fixarray, fixstr, nil, true_format, bin8, negative_fixint}
use Rattle.utf8.specs.Table.{end, ascii}
use Rattle.wire.specs.Payload.{Item, bool_value, int_value, list_value, no_value, value, Link}
use Rattle.wire.specs.Fields.{SpanField, ChunkField, PayloadField, link_of, span_of, chunk_of, payload_of}
use Rattle.wire.specs.Standing.{Used, Standing, before, noting, count_node, count_link, count_span, count_chunk, start_of}
use Rattle.wire.specs.Form.{done, more, head, bytes, array, map, unsigned, signed, natural, within, KeyAt, TextAt, literal, numbered, trace_id}
use Rattle.wire.specs.Skipped.{SkippedOf, skipped, SkippedAt}
use Rattle.wire.specs.Attributes.{group, ValueOf, member, entry, ItemAt}
use Rattle.wire.specs.Records.{LinkAt, link, SpanFieldAt, SpanAt, span, ChunkFieldAt, ChunkAt, chunk, PayloadFieldAt, payload, PayloadAt}

key : (k : ℕ) {p : Standing} → k < 128 → KeyAt k (before (k ∷ []) p) p
key k h = natural (unsigned (head (positive_fixint h))) (omega arith)

-- a text of one letter
letter : (b : ℕ) {p : Standing} → b < 128 → TextAt (b ∷ []) (before (0xa1 ∷ b ∷ []) p) (noting (b ∷ []) p)
letter b h = literal (head (fixstr {n = 1} (omega arith))) (bytes refl refl) (ascii (omega arith) end)

-- The two literals have the numbers 1 and 2, and the last text is told by its number: three fields hold "a".
texts : List PayloadField
texts = PayloadField.runtime_id (0x61 ∷ []) ∷ PayloadField.tracer_version (0x61 ∷ []) ∷ PayloadField.container_id (0x61 ∷ []) ∷ PayloadField.chunks [] ∷ []

three : PayloadAt
    (payload_of texts)
    (start_of (0x84 ∷ 0x06 ∷ 0xa1 ∷ 0x61 ∷ 0x05 ∷ 0xa1 ∷ 0x61 ∷ 0x02 ∷ 0x02 ∷ 0x0b ∷ 0x90 ∷ []))
    (noting (0x61 ∷ []) (noting (0x61 ∷ []) (start_of [])))
unfolding texts
three =
    payload (map (head (fixmap {n = 4} (omega arith)))
    (more (PayloadFieldAt.runtime_id (key 6 (omega arith)) (letter 0x61 (omega arith)))
    (more (PayloadFieldAt.tracer_version (key 5 (omega arith)) (letter 0x61 (omega arith)))
    (more (PayloadFieldAt.container_id (key 2 (omega arith)) (numbered (head (positive_fixint {n = 2} (omega arith))) (omega arith)))
    (more (PayloadFieldAt.chunks (key 11 (omega arith)) (array (head (fixarray {n = 0} (omega arith))) done))
    done))))) refl

-- The attributes "a", a list with the integer 5, and "b", true; and behind them a key that is unknown, with a map from
-- nil to the text "c", and one more text, which is that "c" by its number.
attributes : List Item
attributes = (0x61 ∷ [], list_value (value (int_value (pos 5)) no_value)) ∷ (0x62 ∷ [], bool_value true) ∷ []

fields : List PayloadField
fields = PayloadField.attributes attributes ∷ PayloadField.other ∷ PayloadField.env (0x63 ∷ []) ∷ PayloadField.chunks [] ∷ []

three-nodes : Used
three-nodes = record { chunks = 0; spans = 0; links = 0; events = 0; nodes = 3 }

five : (p : Standing) → ItemAt 63 false ([], int_value (pos 5)) (before (0x04 ∷ 0x05 ∷ []) p) (count_node p)
unfolding ItemAt
five p = member (key 4 (omega arith)) (ValueOf.integer (within (unsigned (head (positive_fixint {n = 5} (omega arith)))) (omega arith)))

listed : (p : Standing) → ItemAt 64 true (0x61 ∷ [], list_value (value (int_value (pos 5)) no_value)) (before (0xa1 ∷ 0x61 ∷ 0x06 ∷ 0x92 ∷ 0x04 ∷ 0x05 ∷ []) p) (noting (0x61 ∷ []) (count_node (count_node p)))
unfolding ItemAt
listed p = entry (letter 0x61 (omega arith)) (key 6 (omega arith)) (ValueOf.list (group {n = 1} (head (fixarray {n = 2} (omega arith))) (more (five _) done)))

yes-no : (p : Standing) → ItemAt 64 true (0x62 ∷ [], bool_value true) (before (0xa1 ∷ 0x62 ∷ 0x02 ∷ 0xc3 ∷ []) p) (noting (0x62 ∷ []) (count_node p))
unfolding ItemAt
yes-no p = entry (letter 0x62 (omega arith)) (key 2 (omega arith)) (ValueOf.bool (head true_format))

nil-at : (p : Standing) → SkippedAt 63 tt (before (0xc0 ∷ []) p) p
unfolding SkippedAt
nil-at p = skipped (head nil) SkippedOf.nil

letter_at : (p : Standing) → SkippedAt 63 tt (before (0xa1 ∷ 0x63 ∷ []) p) (noting (0x63 ∷ []) p)
unfolding SkippedAt
letter_at p = skipped (head (fixstr {n = 1} (omega arith))) (SkippedOf.text (bytes refl refl) (ascii (omega arith) end))

map_at : (p : Standing) → SkippedAt 64 tt (before (0x81 ∷ 0xc0 ∷ 0xa1 ∷ 0x63 ∷ []) p) (noting (0x63 ∷ []) p)
unfolding SkippedAt
map_at p = skipped (head (fixmap {n = 1} (omega arith))) (SkippedOf.map (more (nil-at _) (more (letter_at _) done)))

nested : PayloadAt
    (payload_of fields)
    (start_of (0x84 ∷ 0x0a ∷ 0x96 ∷ 0xa1 ∷ 0x61 ∷ 0x06 ∷ 0x92 ∷ 0x04 ∷ 0x05 ∷ 0xa1 ∷ 0x62 ∷ 0x02 ∷ 0xc3 ∷ 0x0c ∷ 0x81 ∷ 0xc0 ∷ 0xa1 ∷ 0x63 ∷ 0x07 ∷ 0x03 ∷ 0x0b ∷ 0x90 ∷ 0xff ∷ []))
    (record { bytes = 0xff ∷ []; texts = [] ∷ (0x61 ∷ []) ∷ (0x62 ∷ []) ∷ (0x63 ∷ []) ∷ []; used = three-nodes })
unfolding fields attributes three-nodes
nested =
    payload (map (head (fixmap {n = 4} (omega arith)))
    (more (PayloadFieldAt.attributes (key 10 (omega arith)) (group {n = 2} (head (fixarray {n = 6} (omega arith))) (more (listed _) (more (yes-no _) done))))
    (more (PayloadFieldAt.other (key 12 (omega arith)) refl (map_at _))
    (more (PayloadFieldAt.env (key 7 (omega arith)) (numbered (head (positive_fixint {n = 3} (omega arith))) (omega arith)))
    (more (PayloadFieldAt.chunks (key 11 (omega arith)) (array (head (fixarray {n = 0} (omega arith))) done))
    done))))) refl

-- A chunk with one span, which has one link and no more than the fields that it must have.
one_link : List Link
one_link = link_of [] ∷ []

span-fields : List SpanField
span-fields = SpanField.span_id 7 ∷ SpanField.start 5 ∷ SpanField.links one_link ∷ []

chunk-fields : List ChunkField
chunk-fields = ChunkField.trace_id (replicate 16 9) ∷ ChunkField.spans (span_of span-fields ∷ []) ∷ ChunkField.priority (negsuc 0) ∷ []

link_at : (p : Standing) → LinkAt (link_of []) (before (0x80 ∷ []) p) (count_link p)
link_at p = link (map (head (fixmap {n = 0} (omega arith))) done)

span-at : (p : Standing) → SpanAt (span_of span-fields) (before (0x83 ∷ 0x04 ∷ 0x07 ∷ 0x06 ∷ 0x05 ∷ 0x0b ∷ 0x91 ∷ 0x80 ∷ []) p) (count_link (count_span p))
unfolding span-fields one_link
span-at p =
    span (map (head (fixmap {n = 3} (omega arith)))
    (more (SpanFieldAt.span_id (key 4 (omega arith)) (natural (unsigned (head (positive_fixint {n = 7} (omega arith)))) (omega arith)))
    (more (SpanFieldAt.start (key 6 (omega arith)) (natural (unsigned (head (positive_fixint {n = 5} (omega arith)))) (omega arith)))
    (more (SpanFieldAt.links (key 11 (omega arith)) (array (head (fixarray {n = 1} (omega arith))) (more (link_at _) done)))
    done)))) refl refl

chunk-at : (p : Standing) → ChunkAt
    (chunk_of chunk-fields)
    (before (0x83 ∷ 0x06 ∷ 0xc4 ∷ 0x10 ∷ 9 ∷ 9 ∷ 9 ∷ 9 ∷ 9 ∷ 9 ∷ 9 ∷ 9 ∷ 9 ∷ 9 ∷ 9 ∷ 9 ∷ 9 ∷ 9 ∷ 9 ∷ 9 ∷ 0x04 ∷ 0x91 ∷ 0x83 ∷ 0x04 ∷ 0x07 ∷ 0x06 ∷ 0x05 ∷ 0x0b ∷ 0x91 ∷ 0x80 ∷ 0x01 ∷ 0xff ∷ []) p)
    (count_link (count_span (count_chunk p)))
unfolding chunk-fields
chunk-at p =
    chunk (map (head (fixmap {n = 3} (omega arith)))
    (more (ChunkFieldAt.trace_id (key 6 (omega arith)) (trace_id (head (bin8 (record { bytes = 0x10 ∷ []; many = refl; before = refl; value = refl }))) (bytes refl refl)))
    (more (ChunkFieldAt.spans (key 4 (omega arith)) (array (head (fixarray {n = 1} (omega arith))) (more (span-at _) done)))
    (more (ChunkFieldAt.priority (key 1 (omega arith)) (within (signed (head (negative_fixint {n = 31} (omega arith)))) (omega arith)))
    done)))) refl refl
