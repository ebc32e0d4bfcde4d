-- One turn of a loop of readers on the decoder d, which began on d₀. Assumes nothing.
use Rattle.std.proofs.Common.{◌≡◌, ℕ, ◌+◌, ◌-◌, ◌<◌, List, Ok, Err}
use Rattle.refusal.specs.Runs.{repeat}
use Rattle.refusal.specs.declared.Refusal.{Refusal}
use Rattle.refusal.proofs.Turns.{again_more, again_refused}
use Rattle.decode.specs.declared.decoder.Decoder.{Decoder}
use Rattle.decode.specs.Reader.{Room, Read}
use Rattle.decode.specs.State.{at_of, input_of, space_of, Kept, Did}
use Rattle.decode.proofs.Kepts.{kept_also}

module _ {C : Type 0} (step : List ℕ → Room → C → Read C) where
  abbrev before : Decoder → C → Read C
  before d = step (input_of d) (space_of d)

  -- after i of n turns: what is left to read gives what the whole gives
  pub record Left (d₀ d : Decoder) (n i : ℕ) (c₀ c : C) : Type 0 where
    pub kept : Kept d₀ d
    pub rest : repeat (before d₀) (n - i) c (at_of d) ≡ repeat (before d₀) n c₀ (at_of d₀)

  -- a step is given the bytes and the room
  abbrev given : List ℕ × Room → C → Read C
  given p = step p.0 p.1

  abbrev known : Decoder → List ℕ × Room
  known d = (input_of d, space_of d)

  same : {d₀ d : Decoder} → Kept d₀ d → known d ≡ known d₀
  same k = λ j. (k.bytes j, k.room j)

  pub turn_more : {d₀ d d' : Decoder} {n i : ℕ} {c₀ c e : C} → Left d₀ d n i c₀ c → i < n → Did (λ input room. step input room c) d d' (Ok e) → Left d₀ d' n (i + 1) c₀ e
  turn_more l h e = record { kept = kept_also l.kept e.kept; rest = again_more given (same l.kept) l.rest h e.ran }

  pub turn_refused : {d₀ d d' : Decoder} {n i : ℕ} {c₀ c : C} {e : Refusal} → Left d₀ d n i c₀ c → i < n → Did (λ input room. step input room c) d d' (Err e) → Did (λ input room. repeat (step input room) n c₀) d₀ d' (Err e)
  turn_refused l h e = record { ran = again_refused given (same l.kept) l.rest h e.ran; kept = kept_also l.kept e.kept }
