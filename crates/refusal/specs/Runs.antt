-- What a reader did: its answer or its refusal, and the state that it left, in both cases. Assumes nothing.
use Rattle.std.specs.Prelude.{ℕ, zero, suc, Bool, true, false, Ok, Err, Result}
use Rattle.refusal.specs.declared.Kind.{Kind}
use Rattle.refusal.specs.declared.Layer.{Layer}
use Rattle.refusal.specs.declared.Refusal.{Refusal}

abbrev pub RanOn : Type 0 → Type 0 → Type 0
RanOn S A = Result A Refusal × S

-- a reader, over the state that it changes
abbrev pub ReadOn : Type 0 → Type 0 → Type 0
ReadOn S A = S → RanOn S A

-- goes on with what was read; a refusal stands
abbrev pub then : {S A B : Type 0} → RanOn S A → (A → ReadOn S B) → RanOn S B
then (Ok a, s) f = f a s
then (Err e, s) f = (Err e, s)

infixl 20 ◌>>=◌
abbrev pub ◌>>=◌ : {S A B : Type 0} → ReadOn S A → (A → ReadOn S B) → ReadOn S B
(r >>= f) s = then (r s) f

abbrev pub give : {S A : Type 0} → A → ReadOn S A
give a s = (Ok a, s)

abbrev pub refusal_at : Kind → Layer → ℕ → Refusal
refusal_at k l n = record { kind = k; layer = l; place = n }

abbrev pub refuse : {S A : Type 0} → Kind → Layer → ℕ → ReadOn S A
refuse k l n s = (Err (refusal_at k l n), s)

-- one of two readers, of which the other is then not run
abbrev pub pick : {S A : Type 0} → Bool → ReadOn S A → ReadOn S A → ReadOn S A
pick true r r' = r
pick false r r' = r'

-- n times, each with what the last one gave
abbrev pub repeat : {S C : Type 0} → (C → ReadOn S C) → ℕ → C → ReadOn S C
repeat step zero c = give c
repeat step (suc n) c = step c >>= repeat step n

-- a reader that fills in c where it stands: its answer is c as it is then
abbrev pub filled : {C : Type 0} → Result (Unit {0}) Refusal → C → Result C Refusal
filled (Ok u) c = Ok c
filled (Err e) c = Err e
