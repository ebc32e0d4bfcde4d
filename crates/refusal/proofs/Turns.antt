-- The turns of a loop that reads n things, i of them so far: what remains gives the whole outcome `out`. Assumes nothing.
use Rattle.std.proofs.Common.{◌≡◌, ℕ, suc, ◌+◌, ◌-◌, ◌<◌, Ok, Err, sym, ap, ◌∙◌, arith}
use Rattle.refusal.specs.Runs.{RanOn, ReadOn, then, repeat}
use Rattle.refusal.specs.declared.Refusal.{Refusal}

module _ {S C : Type 0} (step : C → ReadOn S C) where
  more : (n i : ℕ) (c : C) (s : S) → i < n → repeat step (n - i) c s ≡ then (step c s) (repeat step (n - (i + 1)))
  more n i c s h = let e : n - i ≡ suc (n - (i + 1)) = omega arith in ap (λ k. repeat step k c s) e

  pub repeat-more : {n i : ℕ} {c d : C} {s t : S} {out : RanOn S C} → repeat step (n - i) c s ≡ out → i < n → (Ok d, t) ≡ step c s → repeat step (n - (i + 1)) d t ≡ out
  repeat-more {n} {i} {c} {d} {s} inv h ran = ap (λ r. then r (repeat step (n - (i + 1)))) ran ∙ sym (more n i c s h) ∙ inv

  pub repeat-refused : {n i : ℕ} {c : C} {e : Refusal} {s t : S} {out : RanOn S C} → repeat step (n - i) c s ≡ out → i < n → (Err e, t) ≡ step c s → (Err e, t) ≡ out
  repeat-refused {n} {i} {c} {e} {s} inv h ran = ap (λ r. then r (repeat step (n - (i + 1)))) ran ∙ sym (more n i c s h) ∙ inv

-- the same of a reader with parameters, p₀ as the loop began and p now
module _ {P S C : Type 0} (step : P → C → ReadOn S C) {p₀ p : P} (same : p ≡ p₀) where
  pub again_more : {n i : ℕ} {c d : C} {s t : S} {out : RanOn S C} → repeat (step p₀) (n - i) c s ≡ out → i < n → (Ok d, t) ≡ step p c s → repeat (step p₀) (n - (i + 1)) d t ≡ out
  again_more {c = c} {s = s} inv h ran = repeat-more (step p₀) inv h (ran ∙ λ j. step (same j) c s)

  pub again_refused : {n i : ℕ} {c : C} {e : Refusal} {s t : S} {out : RanOn S C} → repeat (step p₀) (n - i) c s ≡ out → i < n → (Err e, t) ≡ step p c s → (Err e, t) ≡ out
  again_refused {c = c} {s = s} inv h ran = repeat-refused (step p₀) inv h (ran ∙ λ j. step (same j) c s)
