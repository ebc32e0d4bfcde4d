-- More bytes than may be read are enough to answer. Assumes nothing.
use Rattle.std.proofs.Common.{◌≡◌, ℕ, List, take, Some, None, Option, Result, subst, arith, ◌<◌}
use Rattle.std.proofs.lemmas.List.{take_all, length-take}
use Rattle.std.specs.Prelude.{IfSome}
use Rattle.refusal.specs.declared.Refusal.{Refusal}
use Rattle.summary.specs.Answers.{check_room}
use Rattle.summary.specs.Counted.{Counted}
use Rattle.summary.specs.declared.Summary.{Summary}
use Rattle.check_payload.specs.Program.{ProgramAnswers}

module _ (n : ℕ) (a : Result Summary Refusal) where
  enough : (bytes : List ℕ) → ProgramAnswers (take n bytes) a → 60000 < n → ProgramAnswers bytes a
  enough bytes p more =
      let l = length-take n bytes in
      record {
        too_long = λ long. p.too_long (omega arith);
        counted = λ short. subst (λ xs. Counted xs check_room a) (take_all n bytes (omega arith)) (p.counted (omega arith));
      }

  -- what was taken of the bytes of a reader, where they are known, is answered as all of them
  pub enough_taken : (known : Option (List ℕ)) (taken : List ℕ) → IfSome known (λ xs. taken ≡ take n xs) → ProgramAnswers taken a → 60000 < n → IfSome known (λ bytes. ProgramAnswers bytes a)
  enough_taken None taken h p more = tt
  enough_taken (Some bytes) taken h p more = enough bytes (subst (λ xs. ProgramAnswers xs a) h p) more
