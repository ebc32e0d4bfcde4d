-- A text field that is lent to be written. Assumes nothing.
use Rattle.std.specs.Prelude.{ℕ, Option}
use Rattle.std.specs.Borrow.{LendsIf, MutBor, Fml}
use Rattle.span.specs.contracts.types.Place as place
use Rattle.span.specs.contracts.types.Span as span
use Rattle.span.specs.declared.types.Place.{Place}
use Rattle.span.specs.declared.types.Span.{Span}
use Rattle.spans.specs.Span.{with_text}

-- x ends with the text of the key k that was last written behind r, and as it was where nothing is lent
abbrev pub LendsText : MutBor Span → ℕ → Option (MutBor Place) → Fml
LendsText x k r = LendsIf span.the_row place.the_row x r (λ w. with_text k w x.now) x.now
