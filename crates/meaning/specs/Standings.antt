-- Where a reader stands, as the format sees it. Assumes nothing.
use Rattle.std.specs.Prelude.{ℕ, List, map, length, drop}
use Rattle.span.specs.State.{Pools}
use Rattle.span.specs.declared.types.Place.{Place}
use Rattle.decode.specs.Binary.{part}
use Rattle.decode.specs.Texts.{Strings}
use Rattle.decode.specs.Reader.{State, Room}
use Rattle.wire.specs.Payload.{Text}
use Rattle.wire.specs.Standing.{Used, Standing, Rooms}

-- the bytes of a place
abbrev pub contents : List ℕ → Place → Text
contents input x = part input x.offset x.length

abbrev pub used : Pools → Used
used p = record { chunks = length p.chunks; spans = length p.spans; links = length p.links; events = length p.events; nodes = length p.nodes }

abbrev pub standing : List ℕ → State → Standing
standing input s = record { bytes = drop s.at input; texts = map (contents input) s.texts; used = used s.pools }

abbrev pub rooms_of : Room → Rooms
rooms_of r = record { texts = r.texts; chunks = r.pools.chunks; spans = r.pools.spans; links = r.pools.links; events = r.pools.events; nodes = r.pools.nodes }

-- the same state at another place, and a state with these pools
abbrev pub moved_to : ℕ → State → State
moved_to n s = record { at = n; texts = s.texts; pools = s.pools }

abbrev pub among : Pools → Strings → State
among p t = record { at = t.at; texts = t.texts; pools = p }

-- what a value means for the answer and for the states before and after
abbrev pub Meaning : Type 0 → Type 0 → Type 1
Meaning A C = A → C → State → State → Type 0
