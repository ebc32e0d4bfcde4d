-- What a pool holds. Assumes nothing.
use Rattle.std.specs.Prelude.{ℕ, ◌-◌, Bool, List, [], ◌∷◌, ◌++◌, length, take, replicate, Some, None, Option, nat_lt, if◌then◌else◌}
use Rattle.span.specs.declared.pool.Pool.{Pool}

-- g is what T is known to be: a record
module _ {T : Type 0} {g : _} where
  -- the whole memory
  abbrev pub memory : Pool T g → List T
  memory p = p.records.now

  abbrev pub held : Pool T g → List T
  held p = take p.used p.records.now

  abbrev pub room : Pool T g → ℕ
  room p = length p.records.now

module _ {T : Type 0} where
  abbrev pub fits : ℕ → List T → Bool
  fits n l = nat_lt (length l) n

  -- the index of one more record, where there is room for it
  abbrev pub next_in : ℕ → List T → Option ℕ
  next_in n l = if fits n l then Some (length l) else None

  abbrev pub pushed : ℕ → T → List T → List T
  pushed n x l = if fits n l then l ++ x ∷ [] else l

  -- the records l, and blanks behind them, n in all
  abbrev pub filled : T → ℕ → List T → List T
  filled b n l = l ++ replicate (n - length l) b
