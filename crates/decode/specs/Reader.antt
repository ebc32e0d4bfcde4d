-- What the readers of records change, and what they run within. Assumes nothing.
use Rattle.std.specs.Prelude.{ℕ, List, [], ◌∷◌, ◌++◌, length, Ok, slice_set}
use Rattle.refusal.specs.Runs.{RanOn, ReadOn, refuse, pick}
use Rattle.refusal.specs.declared.Kind.TheVariants.{PoolFull}
use Rattle.refusal.specs.declared.Layer.{Layer}
use Rattle.span.specs.Held.{fits}
use Rattle.span.specs.Blank.{blank_node, blank_link, blank_event, blank_span, blank_chunk}
use Rattle.span.specs.State.{Pools, Rooms}
use Rattle.span.specs.declared.types.Place.{Place}
use Rattle.span.specs.declared.types.Node.{Node}
use Rattle.span.specs.declared.types.SpanLink.{SpanLink}
use Rattle.span.specs.declared.types.SpanEvent.{SpanEvent}
use Rattle.span.specs.declared.types.Span.{Span}
use Rattle.span.specs.declared.types.TraceChunk.{TraceChunk}
use Rattle.decode.specs.Texts.{Strings, text_in}

pub record State : Type 0 where
  pub at : ℕ
  pub texts : List Place
  pub pools : Pools

-- how many texts and records there may be
pub record Room : Type 0 where
  pub texts : ℕ
  pub pools : Rooms

abbrev pub Read : Type 0 → Type 0
Read A = ReadOn State A

-- the part of the state that texts are read on
abbrev pub strings : State → Strings
strings s = record { at = s.at; texts = s.texts }

-- what ran on texts alone, and what ran on the place alone
abbrev pub on_strings : {A : Type 0} → RanOn Strings A → State → RanOn State A
on_strings (r, t) s = (r, record { at = t.at; texts = t.texts; pools = s.pools })

abbrev pub on_place : {A : Type 0} → RanOn ℕ A → State → RanOn State A
on_place (r, n) s = (r, record { at = n; texts = s.texts; pools = s.pools })

abbrev pub with_pools : Pools → State → State
with_pools p s = record { at = s.at; texts = s.texts; pools = p }

-- One pool among the others: what it holds, all with other records in it, its room, and its blank record.
pub record Part (T : Type 0) : Type 0 where
  pub of : Pools → List T
  pub with : List T → Pools → Pools
  pub room : Rooms → ℕ
  pub blank : T

abbrev pub chunks_part : Part TraceChunk
chunks_part = record { of = λ p. p.chunks; with = λ l p. record { chunks = l; spans = p.spans; links = p.links; events = p.events; nodes = p.nodes }; room = λ m. m.chunks; blank = blank_chunk }

abbrev pub spans_part : Part Span
spans_part = record { of = λ p. p.spans; with = λ l p. record { chunks = p.chunks; spans = l; links = p.links; events = p.events; nodes = p.nodes }; room = λ m. m.spans; blank = blank_span }

abbrev pub links_part : Part SpanLink
links_part = record { of = λ p. p.links; with = λ l p. record { chunks = p.chunks; spans = p.spans; links = l; events = p.events; nodes = p.nodes }; room = λ m. m.links; blank = blank_link }

abbrev pub events_part : Part SpanEvent
events_part = record { of = λ p. p.events; with = λ l p. record { chunks = p.chunks; spans = p.spans; links = p.links; events = l; nodes = p.nodes }; room = λ m. m.events; blank = blank_event }

abbrev pub nodes_part : Part Node
nodes_part = record { of = λ p. p.nodes; with = λ l p. record { chunks = p.chunks; spans = p.spans; links = p.links; events = p.events; nodes = l }; room = λ m. m.nodes; blank = blank_node }

-- takes the next record, blank as yet, and answers its index
abbrev pub reserve_in : {T : Type 0} → Part T → Layer → Room → Read ℕ
reserve_in part layer room s =
    pick (fits (part.room room.pools) (part.of s.pools))
    (λ s. (Ok (length (part.of s.pools)), with_pools (part.with (part.of s.pools ++ part.blank ∷ []) s.pools) s))
    (refuse PoolFull layer s.at)
    s

-- writes the record at the index
abbrev pub write_in : {T : Type 0} → Part T → ℕ → T → Read (Unit {0})
write_in part index x s = (Ok tt, with_pools (part.with (slice_set (part.of s.pools) index x) s.pools) s)

-- a reader of the place alone, and a text, in a reader of records
abbrev pub placed : {A : Type 0} → ReadOn ℕ A → Read A
placed r s = on_place (r s.at) s

abbrev pub text : List ℕ → Room → Read Place
text input room s = on_strings (text_in input room.texts (strings s)) s
