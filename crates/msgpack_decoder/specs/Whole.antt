-- A payload from bytes: the answer or the refusal, and what the table and the records hold afterwards. Assumes nothing.
use Rattle.std.specs.Prelude.{ℕ, ◌≤◌, Bool, ◌&&◌, List, [], ◌∷◌, length, Ok, Err, Result, nat_le, nat_lt, if◌then◌else◌}
use Rattle.refusal.specs.Runs.{RanOn, refusal_at}
use Rattle.refusal.specs.declared.Kind.TheVariants.{TooLong, BadPool}
use Rattle.refusal.specs.declared.Layer.TheVariants.{NoLayer}
use Rattle.refusal.specs.declared.Refusal.{Refusal}
use Rattle.span.specs.Blank.{no_place}
use Rattle.span.specs.State.{Held, nothing, no_pools}
use Rattle.span.specs.declared.types.TracerPayload.{TracerPayload}
use Rattle.decode.specs.Reader.{State, Room}
use Rattle.msgpack_decoder.specs.Payload.{payload}
use Rattle.msgpack_decoder.specs.declared.whole.ReadPayload.{ReadPayload}

-- no pool has too many records
abbrev pub records_fit : Room → Bool
records_fit room =
    nat_le room.texts 65535
    && (nat_le room.pools.chunks 65535
    && (nat_le room.pools.spans 65535
    && (nat_le room.pools.links 65535
    && (nat_le room.pools.events 65535
    && nat_le room.pools.nodes 65535))))

-- and the text pool has any
abbrev pub pools_fit : Room → Bool
pools_fit room = nat_lt 0 room.texts && records_fit room

-- n bytes, read into pools with that room
abbrev pub limits : ℕ → Room → Result (Unit {0}) Refusal
limits n room = if nat_lt 16777216 n then Err (refusal_at TooLong NoLayer 0) else if pools_fit room then Ok tt else Err (refusal_at BadPool NoLayer 0)

-- as reading begins: the empty text has number 0
abbrev pub start : State
start = record { at = 0; texts = no_place ∷ []; pools = no_pools }

-- what is held at the end; a refusal leaves nothing
abbrev pub ended : RanOn State TracerPayload → Result ReadPayload Refusal × Held
ended (Ok p, s) = (Ok (record { payload = p; read = s.at }), record { texts = s.texts; pools = s.pools })
ended (Err e, s) = (Err e, nothing)

abbrev pub limited : List ℕ → Room → Result (Unit {0}) Refusal → Result ReadPayload Refusal × Held
limited input room (Ok u) = ended (payload input room start)
limited input room (Err e) = (Err e, nothing)

-- what reading answers and leaves; not an `abbrev`: what stands above need not look inside
unfoldable pub decoded : List ℕ → Room → Result ReadPayload Refusal × Held
decoded input room = limited input room (limits (length input) room)

-- where the reading stopped is a place in the input
abbrev pub StoppedWithin : List ℕ → Result ReadPayload Refusal → Type 0
StoppedWithin input (Ok f) = f.read ≤ length input
StoppedWithin input (Err e) = Unit {0}
