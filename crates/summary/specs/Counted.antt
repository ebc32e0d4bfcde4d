-- What was read, by counts. Assumes nothing.
use Rattle.std.specs.Prelude.{◌≡◌, ℕ, List, Ok, Err, Result}
use Rattle.refusal.specs.declared.Refusal.{Refusal}
use Rattle.span.specs.State.{Held, nothing}
use Rattle.decode.specs.Reader.{Room}
use Rattle.msgpack_decoder.specs.declared.whole.ReadPayload.{ReadPayload}
use Rattle.meaning.specs.Promise.{Decodes}
use Rattle.reading.specs.Refusals.{Which}
use Rattle.summary.specs.Answers.{summary_of}
use Rattle.summary.specs.declared.Summary.{Summary}

-- the counts of what was read as promised, or the refusal
abbrev pub Counted : List ℕ → Room → Result Summary Refusal → Type 0
Counted input room (Ok s) = (p : ReadPayload) × (h : Held) × Decodes input room (Ok p) h × (s ≡ summary_of p h)
Counted input room (Err e) = Decodes input room (Err e) nothing × Which input room (Err e)
