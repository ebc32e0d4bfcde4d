-- What is promised of the format. Assumes nothing.
use Rattle.std.specs.Prelude.{◌≡◌, ℕ, ◌≢◌, List, [], ◌++◌}
use Rattle.wire.specs.Payload.{Payload}
use Rattle.wire.specs.Standing.{Standing, at}
use Rattle.wire.specs.Records.{PayloadAt}

-- The writing of v from p to q: some bytes, which are the same writing before whatever else follows.
pub record Writing (v : Payload) (p q : Standing) : Type 0 where
  pub written : List ℕ
  pub never_empty : written ≢ []
  pub before : p.bytes ≡ written ++ q.bytes
  pub anywhere : (r : List ℕ) → PayloadAt v (at (written ++ r) p) (at r q)

-- what follows a payload is no matter to it
abbrev pub Independent : Type 0
Independent = (v : Payload) (p q : Standing) → PayloadAt v p q → Writing v p q
