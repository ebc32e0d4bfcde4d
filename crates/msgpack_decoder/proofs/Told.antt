-- What reading tells, from what its parts told. Assumes nothing.
use Rattle.std.proofs.Common.{◌≡◌, ℕ, Bool, true, false, ◌&&◌, ltb, List, [], ◌∷◌, length, Ok, Err, Result, refl, ap, ◌∙◌, arith, if◌then◌else◌}
use Rattle.refusal.specs.declared.Refusal.{Refusal}
use Rattle.span.specs.Blank.{no_place}
use Rattle.span.specs.Held.{pushed}
use Rattle.span.specs.State.{Held, nothing}
use Rattle.span.specs.declared.types.Place.{Place}
use Rattle.span.specs.declared.types.TracerPayload.{TracerPayload}
use Rattle.decode.specs.Reader.{State, Room}
use Rattle.msgpack_decoder.specs.declared.whole.ReadPayload.{ReadPayload}
use Rattle.msgpack_decoder.specs.Payload.{payload}
use Rattle.msgpack_decoder.specs.Whole.{records_fit, pools_fit, limits, start, ended, limited, decoded}

-- a table with room takes the empty text as number 0
pub first_text : (n : ℕ) (x : Place) (l l' : List Place) → ltb 0 n ≡ true → x ≡ no_place → l ≡ [] → l' ≡ pushed n x l → l' ≡ no_place ∷ []
first_text n x l l' h d e p = p ∙ (λ j. pushed n (d j) (e j)) ∙ ap (λ b. if b then no_place ∷ [] else []) h

first_true : (a b : Bool) → a && b ≡ true → a ≡ true
first_true true b e = refl
first_true false b e = e

-- what passes two tests passes the second
passed : (a b : Bool) (x y : Refusal) → ◌≡◌ {A = Result (Unit {0}) Refusal} (Ok tt) (if a then Err x else if b then Ok tt else Err y) → b ≡ true
passed true b x y e = let z : ◌≡◌ {A = ℕ} 0 1 = cc in absurd (omega arith)
passed false true x y e = refl
passed false false x y e = let z : ◌≡◌ {A = ℕ} 0 1 = cc in absurd (omega arith)

-- within the limits there is room for a text
pub has_text : (n : ℕ) (R : Room) → Ok tt ≡ limits n R → ltb 0 R.texts ≡ true
has_text n R e = first_true (ltb 0 R.texts) (records_fit R) (passed (ltb 16777216 n) (pools_fit R) _ _ e)

-- what is held where a reader stopped
abbrev left : State → Held
left s = record { texts = s.texts; pools = s.pools }

-- the limits were tested on the room R₁, which is R₀
module _ (input : List ℕ) (R₀ R₁ : Room) (room : R₁ ≡ R₀) where
  pub told_limits : (h : Held) (e : Refusal) → Err e ≡ limits (length input) R₁ → h ≡ nothing → ◌≡◌ {A = Result ReadPayload Refusal × Held} (Err e, h) (decoded input R₀)
  unfolding decoded
  told_limits h e is none = ap (λ m. (Err e, m)) none ∙ ap (limited input R₀) (is ∙ ap (limits (length input)) room)

  -- and the payload was read from the bytes i and the state s, with room for R₂
  module _ (i : List ℕ) (R₂ : Room) (s : State) (is : Ok tt ≡ limits (length input) R₁) (bytes : i ≡ input) (same : R₂ ≡ R₀) (first : s ≡ start) where
    whole : ended (payload i R₂ s) ≡ decoded input R₀
    unfolding decoded
    whole = (λ j. ended (payload (bytes j) (same j) (first j))) ∙ ap (limited input R₀) (is ∙ ap (limits (length input)) room)

    pub told_accepted : (s' : State) (c : TracerPayload) (n : ℕ) (h : Held) → (Ok c, s') ≡ payload i R₂ s → n ≡ s'.at → h ≡ left s' → ◌≡◌ {A = Result ReadPayload Refusal × Held} (Ok (record { payload = c; read = n }), h) (decoded input R₀)
    told_accepted s' c n h ran stop held = (λ j. (Ok (record { payload = c; read = stop j }), held j)) ∙ ap ended ran ∙ whole

    pub told_refused : (h : Held) (s' : State) (e : Refusal) → (Err e, s') ≡ payload i R₂ s → h ≡ nothing → ◌≡◌ {A = Result ReadPayload Refusal × Held} (Err e, h) (decoded input R₀)
    told_refused h s' e ran none = ap (λ m. (Err e, m)) none ∙ ap ended ran ∙ whole
