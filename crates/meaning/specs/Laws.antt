-- What follows from the promise and of the format. Assumes nothing.
use Rattle.std.specs.Prelude.{◌≡◌, ℕ, ◌≢◌, List, [], ◌∷◌, ◌++◌, Ok, Err}
use Rattle.std.proofs.Math.Option.{some}
use Rattle.refusal.specs.declared.Refusal.{Refusal}
use Rattle.span.specs.State.{Held}
use Rattle.decode.specs.Reader.{Room}
use Rattle.msgpack_decoder.specs.declared.whole.ReadPayload.{ReadPayload}
use Rattle.wire.specs.Payload.{Payload, no_payload}
use Rattle.wire.specs.Standing.{Standing, start_of, Fits}
use Rattle.wire.specs.Records.{PayloadAt}
use Rattle.meaning.specs.Standings.{rooms_of}
use Rattle.meaning.specs.Shown.{shown_payload}
use Rattle.meaning.specs.Promise.{Allowed, Decodes}

-- no bytes begin with two writings, and no writing has two payloads
abbrev pub Unique : Type 0
Unique = (input : List ℕ) (v v' : Payload) (q q' : Standing) → PayloadAt v (start_of input) q → PayloadAt v' (start_of input) q' → (v ≡ v') × (q ≡ q')

-- of the whole writing w ++ r no shorter beginning w is a writing
abbrev pub FrontFree : Type 0
FrontFree =
    (w r : List ℕ) (v v' : Payload) (q q' : Standing) → r ≢ [] → PayloadAt v (start_of (w ++ r)) q → q.bytes ≡ [] → PayloadAt v' (start_of w) q' → q'.bytes ≢ []

-- the bytes of a payload with no chunks and nothing else
abbrev pub empty_bytes : List ℕ
empty_bytes = 0x81 ∷ 0x0b ∷ 0x90 ∷ []

-- What no answer that meets the promise can do. Two rooms may differ: what is read does not depend on them.
pub record Excludes : Type 0 where
  -- refuse an input that begins with a writing for which there is room
  pub refuse : (input : List ℕ) (room : Room) (v : Payload) (q : Standing) (e : Refusal) (held : Held) → Allowed input room → PayloadAt v (start_of input) q → Fits (rooms_of room) q → ¬ Decodes input room (Err e) held
  -- so refuse everything
  pub refuse_all : (room : Room) (e : Refusal) (held : Held) → Allowed empty_bytes room → ¬ Decodes empty_bytes room (Err e) held
  -- stop at another byte than another that meets it
  pub stop_elsewhere : (input : List ℕ) (room room' : Room) (f f' : ReadPayload) (held held' : Held) → Decodes input room (Ok f) held → Decodes input room' (Ok f') held' → f.read ≡ f'.read
  -- show another payload
  pub show_another : (input : List ℕ) (room room' : Room) (f f' : ReadPayload) (held held' : Held) → Decodes input room (Ok f) held → Decodes input room' (Ok f') held' → shown_payload input held.pools f.payload ≡ shown_payload input held'.pools f'.payload
  -- show the empty payload where another is written, so show it always
  pub show_empty : (input : List ℕ) (room : Room) (v : Payload) (q : Standing) (f : ReadPayload) (held : Held) → PayloadAt v (start_of input) q → v ≢ no_payload → Decodes input room (Ok f) held → shown_payload input held.pools f.payload ≢ some no_payload
  -- accept what begins with no writing
  pub accept : (input : List ℕ) (room : Room) (f : ReadPayload) (held : Held) → ((v : Payload) (q : Standing) → PayloadAt v (start_of input) q → ⊥) → ¬ Decodes input room (Ok f) held
