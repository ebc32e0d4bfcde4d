-- What the table and the records hold, to the definitions of the readers. Assumes nothing.
use Rattle.std.specs.Prelude.{ℕ, cond, List, [], length, Some, None, Option, nat_lt, slice_index_or}
use Rattle.span.specs.Held.{held, room, memory, filled}
use Rattle.span.specs.Blank.{no_place, blank_node, blank_link, blank_event, blank_span, blank_chunk}
use Rattle.span.specs.declared.table.StringTable.{StringTable}
use Rattle.span.specs.declared.records.Records.{Records}
use Rattle.span.specs.declared.types.Place.{Place}
use Rattle.span.specs.declared.types.Node.{Node}
use Rattle.span.specs.declared.types.SpanLink.{SpanLink}
use Rattle.span.specs.declared.types.SpanEvent.{SpanEvent}
use Rattle.span.specs.declared.types.Span.{Span}
use Rattle.span.specs.declared.types.TraceChunk.{TraceChunk}

-- what the pools hold, or their whole memory
pub record Pools : Type 0 where
  pub chunks : List TraceChunk
  pub spans : List Span
  pub links : List SpanLink
  pub events : List SpanEvent
  pub nodes : List Node

-- how many records each pool may hold
pub record Rooms : Type 0 where
  pub chunks : ℕ
  pub spans : ℕ
  pub links : ℕ
  pub events : ℕ
  pub nodes : ℕ

abbrev pub no_pools : Pools
no_pools = record { chunks = []; spans = []; links = []; events = []; nodes = [] }

abbrev pub pools_of : Records → Pools
pools_of r = record { chunks = held r.chunks; spans = held r.spans; links = held r.links; events = held r.events; nodes = held r.nodes }

abbrev pub rooms_of : Records → Rooms
rooms_of r = record { chunks = room r.chunks; spans = room r.spans; links = room r.links; events = room r.events; nodes = room r.nodes }

-- the rooms of pools over such memory
abbrev pub lent : List TraceChunk → List Span → List SpanLink → List SpanEvent → List Node → Rooms
lent c s l e n = record { chunks = length c; spans = length s; links = length l; events = length e; nodes = length n }

abbrev pub texts_of : StringTable → List Place
texts_of t = held t.texts

-- how many texts may have a number
abbrev pub most : StringTable → ℕ
most t = room t.texts

-- the text that has the number n
abbrev pub numbered : ℕ → List Place → Option Place
numbered n l = cond (nat_lt n (length l)) (Some (slice_index_or l n no_place)) None

-- what the table and the records hold, or the whole memory of both
pub record Held : Type 0 where
  pub texts : List Place
  pub pools : Pools

abbrev pub nothing : Held
nothing = record { texts = []; pools = no_pools }

abbrev pub held_of : StringTable → Records → Held
held_of t r = record { texts = texts_of t; pools = pools_of r }

abbrev pub memory_of : StringTable → Records → Held
memory_of t r = record { texts = memory t.texts; pools = record { chunks = memory r.chunks; spans = memory r.spans; links = memory r.links; events = memory r.events; nodes = memory r.nodes } }

-- these texts and records, and blanks behind them: n texts in all, and m records
abbrev pub blank_behind : ℕ → Rooms → Held → Held
blank_behind n m h =
    record {
      texts = filled no_place n h.texts;
      pools = record {
        chunks = filled blank_chunk m.chunks h.pools.chunks;
        spans = filled blank_span m.spans h.pools.spans;
        links = filled blank_link m.links h.pools.links;
        events = filled blank_event m.events h.pools.events;
        nodes = filled blank_node m.nodes h.pools.nodes;
      };
    }
