-- What is promised of reading a payload. Assumes nothing.
use Rattle.std.specs.Prelude.{◌≡◌, ℕ, ◌≤◌, List, map, length, drop, Ok, Err, Result}
use Rattle.std.proofs.Math.Option.{some}
use Rattle.refusal.specs.declared.Refusal.{Refusal}
use Rattle.span.specs.State.{Held, nothing}
use Rattle.decode.specs.Reader.{Room}
use Rattle.msgpack_decoder.specs.declared.whole.ReadPayload.{ReadPayload}
use Rattle.wire.specs.Payload.{Payload}
use Rattle.wire.specs.Standing.{Standing, start_of, Fits}
use Rattle.wire.specs.Records.{PayloadAt}
use Rattle.meaning.specs.Standings.{contents, used, rooms_of}
use Rattle.meaning.specs.Shown.{shown_payload}

-- how much may be read, into how much: number 0 is the empty text, so there is room for one text at least
pub record Allowed (input : List ℕ) (room : Room) : Type 0 where
  pub bytes : length input ≤ 16777216
  pub one_text : 1 ≤ room.texts
  pub texts : room.texts ≤ 65535
  pub chunks : room.pools.chunks ≤ 65535
  pub spans : room.pools.spans ≤ 65535
  pub links : room.pools.links ≤ 65535
  pub events : room.pools.events ≤ 65535
  pub nodes : room.pools.nodes ≤ 65535

-- A writing of a payload stands at the start, there was room for it, and nothing else is written there. What the records
-- say is that payload; the reading stopped right behind it; the texts have the numbers that the format gives them; and
-- the pools hold one record for each that the writing has.
pub record Accepted (input : List ℕ) (room : Room) (f : ReadPayload) (held : Held) : Type 0 where
  pub allowed : Allowed input room
  pub payload : Payload
  pub behind : Standing
  pub stands : PayloadAt payload (start_of input) behind
  pub fits : Fits (rooms_of room) behind
  pub only : (v : Payload) (q : Standing) → PayloadAt v (start_of input) q → (v ≡ payload) × (q ≡ behind)
  pub shows : shown_payload input held.pools f.payload ≡ some payload
  pub within : f.read ≤ length input
  pub stops : behind.bytes ≡ drop f.read input
  pub texts : behind.texts ≡ map (contents input) held.texts
  pub records : behind.used ≡ used held.pools

-- What is refused does not stand there, or there is no room for it; and nothing is held.
pub record Refused (input : List ℕ) (room : Room) (held : Held) : Type 0 where
  pub blank : held ≡ nothing
  pub none_fits : Allowed input room → (v : Payload) (q : Standing) → PayloadAt v (start_of input) q → ¬ Fits (rooms_of room) q

abbrev pub Decodes : List ℕ → Room → Result ReadPayload Refusal → Held → Type 0
Decodes input room (Ok f) held = Accepted input room f held
Decodes input room (Err e) held = Refused input room held
