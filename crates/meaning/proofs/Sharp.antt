-- The promise leaves one answer. Assumes nothing.
use Rattle.std.proofs.Common.{◌≡◌, ◌≢◌, ℕ, List, [], ◌∷◌, map, length, Ok, Err, sym, refl, ap, ◌∙◌, arith, length-drop}
use mathlib.Core.Option.{some, some-injective}
use Rattle.msgpack.specs.Formats.{positive_fixint, fixmap, fixarray}
use Rattle.refusal.specs.declared.Refusal.{Refusal}
use Rattle.span.specs.State.{Held}
use Rattle.decode.specs.Reader.{Room}
use Rattle.msgpack_decoder.specs.declared.whole.ReadPayload.{ReadPayload}
use Rattle.wire.specs.Payload.{Payload, no_payload}
use Rattle.wire.specs.Standing.{Standing, start_of, Fits}
use Rattle.wire.specs.Form.{MapAt, done, more, head, array, unsigned, natural}
use Rattle.wire.specs.Records.{PayloadFieldAt, PayloadAt, payload}
use Rattle.meaning.specs.Standings.{contents, used, rooms_of}
use Rattle.meaning.specs.Shown.{shown_payload}
use Rattle.meaning.specs.Promise.{Allowed, Accepted, Decodes}

module _ {input : List ℕ} {room room' : Room} {f f' : ReadPayload} {held held' : Held} (a : Accepted input room f held) (b : Accepted input room' f' held') where
  once : (a.payload ≡ b.payload) × (a.behind ≡ b.behind)
  once = b.only a.payload a.behind a.stands

  -- so none may stop elsewhere
  pub stops-once : f.read ≡ f'.read
  stops-once =
      let e = ap length (sym a.stops ∙ ap (λ q. q.bytes) once.1 ∙ b.stops) in
      omega (arith, e, a.within, b.within, length-drop f.read input, length-drop f'.read input)

  -- nor show another payload
  pub shows-once : shown_payload input held.pools f.payload ≡ shown_payload input held'.pools f'.payload
  shows-once = a.shows ∙ ap some once.0 ∙ sym b.shows

  -- nor have other texts, or more records
  pub texts-once : map (contents input) held.texts ≡ map (contents input) held'.texts
  texts-once = sym a.texts ∙ ap (λ q. q.texts) once.1 ∙ b.texts

  pub records_once : used held.pools ≡ used held'.pools
  records_once = sym a.records ∙ ap (λ q. q.used) once.1 ∙ b.records

-- none may refuse an input that has a writing for which there is room
pub not-refused : (input : List ℕ) (room : Room) (v : Payload) (q : Standing) (e : Refusal) (held : Held) → Allowed input room → PayloadAt v (start_of input) q → Fits (rooms_of room) q → ¬ Decodes input room (Err e) held
not-refused input room v q e held a h f d = d.none_fits a v q h f

-- nor show the empty payload where another is written
pub shows_written : (input : List ℕ) (room : Room) (v : Payload) (q : Standing) (f : ReadPayload) (held : Held) → PayloadAt v (start_of input) q → v ≢ no_payload → Decodes input room (Ok f) held → shown_payload input held.pools f.payload ≢ some no_payload
shows_written input room v q f held h other a e = other ((a.only v q h).0 ∙ some-injective _ _ (sym a.shows ∙ e))

-- nor accept one that has none
pub not-accepted : (input : List ℕ) (room : Room) (f : ReadPayload) (held : Held) → ((v : Payload) (q : Standing) → PayloadAt v (start_of input) q → ⊥) → ¬ Decodes input room (Ok f) held
not-accepted input room f held none a = none a.payload a.behind a.stands

-- a payload with no chunks, in three bytes
pub empty_stands : PayloadAt no_payload (start_of (0x81 ∷ 0x0b ∷ 0x90 ∷ [])) (start_of [])
empty_stands = payload (MapAt.map (head (fixmap {n = 1} (omega arith))) (more (PayloadFieldAt.chunks (natural (unsigned (head (positive_fixint {n = 11} (omega arith)))) (omega arith)) (array (head (fixarray {n = 0} (omega arith))) done)) done)) refl

-- so none may refuse all
pub empty-accepted : (room : Room) (e : Refusal) (held : Held) → Allowed (0x81 ∷ 0x0b ∷ 0x90 ∷ []) room → ¬ Decodes (0x81 ∷ 0x0b ∷ 0x90 ∷ []) room (Err e) held
empty-accepted room e held a = not-refused (0x81 ∷ 0x0b ∷ 0x90 ∷ []) room no_payload (start_of []) e held a empty_stands (record { texts = a.one_text; chunks = omega arith; spans = omega arith; links = omega arith; events = omega arith; nodes = omega arith })
