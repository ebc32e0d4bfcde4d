-- What the program answers to its input. Assumes nothing.
use Rattle.std.specs.Prelude.{◌≡◌, ℕ, ◌<◌, ◌≤◌, List, length, Err, Result}
use Rattle.refusal.specs.Runs.{refusal_at}
use Rattle.refusal.specs.declared.Kind.TheVariants.{TooLong}
use Rattle.refusal.specs.declared.Layer.TheVariants.{NoLayer}
use Rattle.refusal.specs.declared.Refusal.{Refusal}
use Rattle.summary.specs.Answers.{check_room}
use Rattle.summary.specs.Counted.{Counted}
use Rattle.summary.specs.declared.Summary.{Summary}

-- More than 60,000 bytes are too long; else the answer is the counts of what was read as promised, or the refusal.
pub record ProgramAnswers (input : List ℕ) (answer : Result Summary Refusal) : Type 0 where
  pub too_long : 60000 < length input → answer ≡ Err (refusal_at TooLong NoLayer 0)
  pub counted : length input ≤ 60000 → Counted input check_room answer
