-- A text field that is lent to be written. Assumes nothing.
use Rattle.std.specs.Prelude.{ℕ, Option}
use Rattle.std.specs.Borrow.{LendsIf, MutBor, Fml}
use Rattle.span.specs.contracts.types.Place as place
use Rattle.span.specs.contracts.types.TracerPayload as payload
use Rattle.span.specs.declared.types.Place.{Place}
use Rattle.span.specs.declared.types.TracerPayload.{TracerPayload}
use Rattle.msgpack_decoder.specs.Payload.{with_text}

-- x ends with the text of the key k that was last written behind r, and as it was where nothing is lent
abbrev pub LendsText : MutBor TracerPayload → ℕ → Option (MutBor Place) → Fml
LendsText x k r = LendsIf payload.the_row place.the_row x r (λ w. with_text k w x.now) x.now
