-- The whole memory of a table and of records. Assumes nothing.
use Rattle.std.proofs.Common.{◌≡◌}
use Rattle.span.specs.Blank.{no_place, blank_node, blank_link, blank_event, blank_span, blank_chunk}
use Rattle.span.specs.State.{most, rooms_of, held_of, memory_of, blank_behind}
use Rattle.span.specs.declared.table.StringTable.{StringTable}
use Rattle.span.specs.declared.records.Records.{Records}
use Rattle.span.proofs.Lists.{whole_filled}

-- the ghost fields tell what is behind what is held
pub memory_is : (t : StringTable) (r : Records) → memory_of t r ≡ blank_behind (most t) (rooms_of r) (held_of t r)
memory_is t r = λ j. record {
  texts = whole_filled no_place t.texts.records.now t.texts.used t.texts.well t.texts.rest j;
  pools = record {
    chunks = whole_filled blank_chunk r.chunks.records.now r.chunks.used r.chunks.well r.chunks.rest j;
    spans = whole_filled blank_span r.spans.records.now r.spans.used r.spans.well r.spans.rest j;
    links = whole_filled blank_link r.links.records.now r.links.used r.links.well r.links.rest j;
    events = whole_filled blank_event r.events.records.now r.events.used r.events.well r.events.rest j;
    nodes = whole_filled blank_node r.nodes.records.now r.nodes.used r.nodes.well r.nodes.rest j;
  };
}
