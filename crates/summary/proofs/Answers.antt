-- What is answered is counted as promised. Assumes nothing.
use Rattle.std.proofs.Common.{◌≡◌, ℕ, List, Ok, Err, Result, refl, subst, sym}
use Rattle.refusal.specs.declared.Refusal.{Refusal}
use Rattle.span.specs.State.{Held}
use Rattle.decode.specs.Reader.{Room}
use Rattle.msgpack_decoder.specs.Whole.{decoded, StoppedWithin}
use Rattle.msgpack_decoder.specs.declared.whole.ReadPayload.{ReadPayload}
use Rattle.meaning.proofs.Decodes.{decodes}
use Rattle.reading.proofs.Told.{which}
use Rattle.summary.specs.Answers.{answered}
use Rattle.summary.specs.Counted.{Counted}
use Rattle.summary.specs.declared.Summary.{Summary}

pub counted : (input : List ℕ) (room : Room) (r : Result ReadPayload Refusal) (held : Held) (a : Result Summary Refusal) → (r, held) ≡ decoded input room → StoppedWithin input r → a ≡ answered (r, held) → Counted input room a
counted input room (Ok f) held a e w s = subst (Counted input room) (sym s) (f, held, decodes input room (Ok f) held e w, refl)
counted input room (Err x) held a e w s =
    subst (Counted input room) (sym s) (record { blank = refl; none_fits = (decodes input room (Err x) held e w).none_fits }, which input room (Err x) held e)
