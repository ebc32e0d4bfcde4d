-- The worked cases that are read are writings: what is accepted stands there. Assumes nothing.
use Rattle.std.proofs.Common.{◌≡◌, ℕ, List, length, drop, Ok, Err, Result, sym, refl, ap, ◌∙◌, subst, arith}
use mathlib.Core.Option.{Option, some, none, none-ne-some, some-injective}
use lib.Seq.{drop-length}
use Rattle.refusal.specs.declared.Refusal.{Refusal}
use Rattle.span.specs.State.{Held}
use Rattle.msgpack.specs.Items.{item_from}
use Rattle.utf8.specs.Machine.{next}
use Rattle.skipped.specs.Skip.{skip}
use Rattle.attributes.specs.Attributes.{member}
use Rattle.msgpack_decoder.specs.Chunk.{chunks}
use Rattle.msgpack_decoder.specs.Payload.{payload}
use Rattle.msgpack_decoder.specs.Whole.{decoded}
use Rattle.msgpack_decoder.specs.declared.whole.ReadPayload.{ReadPayload}
use Rattle.wire.specs.Payload.{Payload}
use Rattle.wire.specs.Standing.{start_of}
use Rattle.wire.specs.Records.{PayloadAt}
use Rattle.meaning.specs.Shown.{also, shown_payload}
use Rattle.meaning.proofs.Stays.{both}
use Rattle.meaning.proofs.Decodes.{decodes}
use Rattle.summary.specs.Answers.{check_room}
use Rattle.cases.specs.Written.{Written, CasesWritten}

-- how many bytes were read, and what the records say
abbrev told : List ℕ → Result ReadPayload Refusal × Held → Option (ℕ × Payload)
told input (Ok f, held) = also (shown_payload input held.pools f.payload) (λ v. some (f.read, v))
told input (Err e, held) = none

-- what is read to the end is a writing of what the records say
written : (input : List ℕ) (v : Payload) → told input (decoded input check_room) ≡ some (length input, v) → Written input v
written input v h = go (decoded input check_room) refl h
  where
    go : (o : Result ReadPayload Refusal × Held) → decoded input check_room ≡ o → told input o ≡ some (length input, v) → Written input v
    go (Ok f, held) e h =
        let b = both (shown_payload input held.pools f.payload) _ (length input, v) h in
        let t : ◌≡◌ {A = ℕ × Payload} (f.read, b.value) (length input, v) = some-injective _ _ b.second in
        let n : f.read ≡ length input = ap (λ (p : ℕ × Payload). p.0) t in
        let a = decodes input check_room (Ok f) held (sym e) (omega arith) in
        let same : a.payload ≡ v = some-injective _ _ (sym a.shows ∙ b.first) ∙ ap (λ (p : ℕ × Payload). p.1) t in
        (a.behind, subst (λ x. PayloadAt x (start_of input) a.behind) same a.stands, a.stops ∙ ap (λ k. drop k input) n ∙ drop-length input)
    go (Err x, held) e h = absurd (none-ne-some _ h)

pub cases_written : CasesWritten
unfolding decoded payload chunks member skip item_from next
cases_written = ((written _ _ refl, (written _ _ refl, (written _ _ refl, (written _ _ refl, (written _ _ refl, tt))))), refl)
