-- The refusal that was told is the one that is computed. Assumes nothing.
use Rattle.std.proofs.Common.{◌≡◌, ℕ, List, Ok, Err, Result, sym, ap}
use Rattle.refusal.specs.declared.Refusal.{Refusal}
use Rattle.span.specs.State.{Held}
use Rattle.decode.specs.Reader.{Room}
use Rattle.msgpack_decoder.specs.Whole.{decoded}
use Rattle.msgpack_decoder.specs.declared.whole.ReadPayload.{ReadPayload}
use Rattle.reading.specs.Refusals.{Which}

pub which : (input : List ℕ) (room : Room) (r : Result ReadPayload Refusal) (held : Held) → (r, held) ≡ decoded input room → Which input room r
which input room (Ok f) held e = tt
which input room (Err x) held e = sym (ap (λ (o : Result ReadPayload Refusal × Held). o.0) e)
