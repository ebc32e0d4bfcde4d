-- No bytes begin with two writings, and no writing has two payloads. Assumes nothing.
use Rattle.std.proofs.Common.{◌≡◌, ℕ, max, List, length, Ok, sym, ap, ◌∙◌, ap₂, arith}
use mathlib.Core.Path.{Path}
use mathlib.Core.Option.{some-injective}
use Rattle.refusal.specs.Runs.{RanOn}
use Rattle.span.specs.declared.types.TracerPayload.{TracerPayload}
use Rattle.decode.specs.Reader.{State, Room}
use Rattle.msgpack_decoder.specs.Whole.{start}
use Rattle.wire.specs.Payload.{Payload}
use Rattle.wire.specs.Standing.{Standing, start_of, Fits}
use Rattle.wire.specs.Records.{PayloadAt}
use Rattle.meaning.specs.Standings.{standing, rooms_of}
use Rattle.meaning.specs.Shown.{shown_payload}
use Rattle.meaning.proofs.Reading.{exact-complete}
use Rattle.meaning.proofs.Payloads.{reads-payload}

-- room for both
roomy : Standing → Standing → Room
roomy q q' =
    record {
      texts = max (length q.texts) (length q'.texts);
      pools = record {
        chunks = max q.used.chunks q'.used.chunks;
        spans = max q.used.spans q'.used.spans;
        links = max q.used.links q'.used.links;
        events = max q.used.events q'.used.events;
        nodes = max q.used.nodes q'.used.nodes;
      };
    }

roomy-left : (q q' : Standing) → Fits (rooms_of (roomy q q')) q
unfolding roomy
roomy-left q q' = record { texts = omega arith; chunks = omega arith; spans = omega arith; links = omega arith; events = omega arith; nodes = omega arith }

roomy-right : (q q' : Standing) → Fits (rooms_of (roomy q q')) q'
unfolding roomy
roomy-right q q' = record { texts = omega arith; chunks = omega arith; spans = omega arith; links = omega arith; events = omega arith; nodes = omega arith }

-- one writing at the start, with one meaning
pub unique : (input : List ℕ) (q q' : Standing) (v v' : Payload) → PayloadAt v (start_of input) q → PayloadAt v' (start_of input) q' → (v ≡ v') × (q ≡ q')
unique input q q' v v' h h' =
    let r = reads-payload input (roomy q q') in
    let a = exact-complete r start q v h (roomy-left q q') in
    let b = exact-complete r start q' v' h' (roomy-right q q') in
    let k : Path (RanOn State TracerPayload) (Ok a.0, a.1) (Ok b.0, b.1) = sym a.2 ∙ b.2 in
    let answer = ap (λ o. o.0) k in
    let left = ap (λ o. o.1) k in
    let same : a.0 ≡ b.0 = cc in
    (some-injective _ _ (sym a.4.says ∙ ap₂ (λ c s. shown_payload input s.pools c) same left ∙ b.4.says), sym a.3 ∙ ap (standing input) left ∙ b.3)
