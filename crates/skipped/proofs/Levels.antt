-- One level of a value that is stepped over, and one turn of the loop over its members. Assumes nothing.
use Rattle.std.proofs.Common.{◌≡◌, ℕ, suc, ◌+◌, ◌-◌, ◌<◌, Bool, List, Ok, Err, ap, ◌∙◌, arith}
use Rattle.refusal.specs.Runs.{ReadOn, refuse, repeat}
use Rattle.refusal.specs.declared.Kind.TheVariants.{TooDeep}
use Rattle.refusal.specs.declared.Layer.TheVariants.{Skipped}
use Rattle.refusal.specs.declared.Refusal.{Refusal}
use Rattle.refusal.proofs.Turns.{again_more, again_refused}
use Rattle.decode.specs.Texts.{Strings}
use Rattle.skipped.specs.declared.Skipper.{Skipper}
use Rattle.skipped.specs.Skip.{level, skip}
use Rattle.skipped.specs.State.{input_of, most_of, noting_of, at_of, Kept, Did}

module _ (input : List ℕ) (most : ℕ) (noting : Bool) (start : ℕ) where
  pub skip_none : (depth : ℕ) (s : Strings) → depth ≡ 0 → skip input most noting start depth tt s ≡ refuse TooDeep Skipped start s
  unfolding skip
  skip_none depth s e = ap (λ n. skip input most noting start n tt s) e

  pub skip_at : (depth : ℕ) (s : Strings) → 0 < depth → skip input most noting start depth tt s ≡ level input most noting start (skip input most noting start (depth - 1)) s
  unfolding skip
  skip_at depth s h = let e : depth ≡ suc (depth - 1) = omega arith in ap (λ n. skip input most noting start n tt s) e

-- members with so many levels below them, which a skipper steps over from a on
module _ {n : ℕ} (depth : ℕ) (a : Skipper n) where
  -- a step is given the bytes, the room for texts and where the value begins
  abbrev given : List ℕ × ℕ × ℕ → Unit {0} → ReadOn Strings (Unit {0})
  given p = skip p.0 p.1 (noting_of a) p.2 depth

  abbrev known : Skipper n → List ℕ × ℕ × ℕ
  known b = (input_of b, most_of b, b.start)

  abbrev member : Unit {0} → ReadOn Strings (Unit {0})
  member = given (known a)

  -- i of them so far: what is left to read at b gives what all of them give
  abbrev pub Left : ℕ → ℕ → Skipper n → Type 0
  Left count i b = Kept a b × (repeat member (count - i) tt (at_of b) ≡ repeat member count tt (at_of a))

  same : {b : Skipper n} → Kept a b → known b ≡ known a
  same k = λ j. (k.bytes j, k.most j, k.start j)

  kept_also : {b c : Skipper n} → Kept a b → Kept b c → Kept a c
  kept_also k m = record { bytes = m.bytes ∙ k.bytes; most = m.most ∙ k.most; start = m.start ∙ k.start; buf = m.buf ∙ k.buf; table = m.table ∙ k.table }

  pub turn_more : {count i : ℕ} {b c : Skipper n} → Left count i b → i < count → Did (λ input most noting start. skip input most noting start depth tt) b c (Ok tt) → Left count (i + 1) c
  turn_more inv h did = (kept_also inv.0 did.kept, again_more given (same inv.0) inv.1 h did.ran)

  pub turn_refused : {count i : ℕ} {b c : Skipper n} {e : Refusal} → Left count i b → i < count → Did (λ input most noting start. skip input most noting start depth tt) b c (Err e) → Did (λ input most noting start. repeat (skip input most noting start depth) count tt) a c (Err e)
  turn_refused inv h did = record { ran = again_refused given (same inv.0) inv.1 h did.ran; kept = kept_also inv.0 did.kept }
