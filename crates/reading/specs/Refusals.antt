-- Which refusal it is, where there is one. Assumes nothing.
use Rattle.std.specs.Prelude.{◌≡◌, ℕ, List, Ok, Err, Result}
use Rattle.refusal.specs.declared.Refusal.{Refusal}
use Rattle.decode.specs.Reader.{Room}
use Rattle.msgpack_decoder.specs.Whole.{decoded}
use Rattle.msgpack_decoder.specs.declared.whole.ReadPayload.{ReadPayload}

-- the first fault from the left, or a limit that is passed: the refusal that the definition of reading computes
abbrev pub Which : List ℕ → Room → Result ReadPayload Refusal → Type 0
Which input room (Ok f) = Unit {0}
Which input room (Err e) = (decoded input room).0 ≡ Err e
