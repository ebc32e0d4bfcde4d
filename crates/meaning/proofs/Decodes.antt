-- What reading answers is what is promised. Assumes nothing.
use Rattle.std.proofs.Common.{◌≡◌, ℕ, Bool, true, false, cond, ◌&&◌, ltb, List, length, Ok, Err, Result, sym, refl, ap, ◌∙◌, subst, arith, ltb-false, ltb-true, le-ltb, lt-ltb, le-leb, leb-true}
use mathlib.Core.Path.{Path}
use Rattle.refusal.specs.Runs.{RanOn}
use Rattle.refusal.specs.declared.Refusal.{Refusal}
use Rattle.span.specs.State.{Held}
use Rattle.span.specs.declared.types.TracerPayload.{TracerPayload}
use Rattle.decode.specs.Reader.{State, Room}
use Rattle.msgpack_decoder.specs.Payload.{payload}
use Rattle.msgpack_decoder.specs.Whole.{pools_fit, limits, start, ended, limited, decoded, StoppedWithin}
use Rattle.msgpack_decoder.specs.declared.whole.ReadPayload.{ReadPayload}
use Rattle.wire.specs.Standing.{Fits}
use Rattle.meaning.specs.Standings.{standing, rooms_of}
use Rattle.meaning.specs.Promise.{Allowed, Decodes}
use Rattle.meaning.proofs.Reading.{exact-sound, exact-complete}
use Rattle.meaning.proofs.Payloads.{reads-payload}
use Rattle.meaning.proofs.Unique.{unique}

and_both : (x y : Bool) → (x && y) ≡ true → (x ≡ true) × (y ≡ true)
and_both true y e = (refl, e)
and_both false y e = let z : ◌≡◌ {A = ℕ} 0 1 = cc in absurd (omega arith)

module _ (input : List ℕ) (room : Room) where
  -- the limits are those that are promised
  rooms-allowed : ltb 16777216 (length input) ≡ false → pools_fit room ≡ true → Allowed input room
  rooms-allowed e f =
      let a = and_both _ _ f in
      let b = and_both _ _ a.1 in
      let c = and_both _ _ b.1 in
      let d = and_both _ _ c.1 in
      let g = and_both _ _ d.1 in
      let h = and_both _ _ g.1 in
      record {
        bytes = ltb-false _ _ e;
        one_text = ltb-true _ _ a.0;
        texts = leb-true _ _ b.0;
        chunks = leb-true _ _ c.0;
        spans = leb-true _ _ d.0;
        links = leb-true _ _ g.0;
        events = leb-true _ _ h.0;
        nodes = leb-true _ _ h.1;
      }

  limits-allow : (u : Unit {0}) → limits (length input) room ≡ Ok u → Allowed input room
  limits-allow u h = go (ltb 16777216 (length input)) (pools_fit room) refl refl _ _ h
    where
      go : (b c : Bool) → ltb 16777216 (length input) ≡ b → pools_fit room ≡ c → (x y : Refusal) → cond b (Err x) (cond c (Ok tt) (Err y)) ≡ Ok u → Allowed input room
      go true c e f x y h = let z : ◌≡◌ {A = ℕ} 0 1 = cc in absurd (omega arith)
      go false true e f x y h = rooms-allowed e f
      go false false e f x y h = let z : ◌≡◌ {A = ℕ} 0 1 = cc in absurd (omega arith)

  allowed-limits : Allowed input room → limits (length input) room ≡ Ok tt
  allowed-limits a =
      rw (
        le-ltb 16777216 (length input) a.bytes,
        lt-ltb 0 room.texts (omega arith),
        le-leb room.texts 65535 a.texts,
        le-leb room.pools.chunks 65535 a.chunks,
        le-leb room.pools.spans 65535 a.spans,
        le-leb room.pools.links 65535 a.links,
        le-leb room.pools.events 65535 a.events,
        le-leb room.pools.nodes 65535 a.nodes,
      )

  start_fits : Allowed input room → Fits (rooms_of room) (standing input start)
  start_fits a = record { texts = a.one_text; chunks = omega arith; spans = omega arith; links = omega arith; events = omega arith; nodes = omega arith }

  meant : (o : RanOn State TracerPayload) → payload input room start ≡ o → Allowed input room → StoppedWithin input (ended o).0 → Decodes input room (ended o).0 (ended o).1
  meant (Ok c, s) e a w =
      let h = exact-sound (reads-payload input room) start s c (start_fits a) e in
      record { allowed = a; payload = h.0; behind = standing input s; stands = h.1; fits = h.2; only = λ v q g. unique input q (standing input s) v h.0 g h.1; shows = h.3.says; within = w; stops = refl; texts = refl; records = refl }
  meant (Err x, s) e a w = record {
    blank = refl;
    none_fits = λ b v q h f.
        let d = exact-complete (reads-payload input room) start q v h f in
        let k : Path (RanOn State TracerPayload) (Err x, s) (Ok d.0, d.1) = sym e ∙ d.2 in
        let answer = ap (λ o. o.0) k in
        let z : ◌≡◌ {A = ℕ} 0 1 = cc in
        absurd (omega arith);
  }

  within-limits : (l : Result (Unit {0}) Refusal) → limits (length input) room ≡ l → StoppedWithin input (limited input room l).0 → Decodes input room (limited input room l).0 (limited input room l).1
  within-limits (Ok u) e w = meant (payload input room start) refl (limits-allow u e) w
  within-limits (Err x) e w = record {
    blank = refl;
    none_fits = λ a v q h f.
        let k = allowed-limits a in
        let z : ◌≡◌ {A = ℕ} 0 1 = cc in
        absurd (omega arith);
  }

  pub decodes : (r : Result ReadPayload Refusal) (held : Held) → (r, held) ≡ decoded input room → StoppedWithin input r → Decodes input room r held
  unfolding decoded
  decodes r held e w =
      subst (λ (o : Result ReadPayload Refusal × Held). Decodes input room o.0 o.1) (sym e) (within-limits (limits (length input) room) refl (subst (λ (o : Result ReadPayload Refusal × Held). StoppedWithin input o.0) e w))
