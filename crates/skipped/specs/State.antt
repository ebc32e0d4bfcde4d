-- What stepping over a value does to the skipper. Assumes nothing.
use Rattle.std.specs.Prelude.{◌≡◌, ℕ, Bool, not, ◌==◌, List, Result}
use Rattle.refusal.specs.Runs.{ReadOn}
use Rattle.refusal.specs.declared.Refusal.{Refusal}
use Rattle.span.specs.State.{most}
use Rattle.decode.specs.Texts.{Strings}
use Rattle.decode.specs.State.{bytes_of, strings_of}
use Rattle.skipped.specs.declared.Skipper.{Skipper}

-- n is the skipper's constant NOTING, as a number
module _ {n : ℕ} where
  abbrev pub input_of : Skipper n → List ℕ
  input_of s = bytes_of s.buf.now

  abbrev pub at_of : Skipper n → Strings
  at_of s = strings_of s.buf.now s.table.now

  abbrev pub most_of : Skipper n → ℕ
  most_of s = most s.table.now

  abbrev pub noting_of : Skipper n → Bool
  noting_of s = not (n == 0)

  -- what stays: the bytes, the room for texts, where the value begins, and which buffer and which table are held
  pub record Kept (s s' : Skipper n) : Type 0 where
    pub bytes : input_of s' ≡ input_of s
    pub most : most_of s' ≡ most_of s
    pub start : s'.start ≡ s.start
    pub buf : s'.buf.ghost_name ≡ s.buf.ghost_name
    pub table : s'.table.ghost_name ≡ s.table.ghost_name

  -- the reader ran from s to s' and answered or refused as x says
  pub record Did (reader : List ℕ → ℕ → Bool → ℕ → ReadOn Strings (Unit {0})) (s s' : Skipper n) (x : Result (Unit {0}) Refusal) : Type 0 where
    pub ran : (x, at_of s') ≡ reader (input_of s) (most_of s) (noting_of s) s.start (at_of s)
    pub kept : Kept s s'
