-- A value that is stepped over, in a reader of records. Assumes nothing.
use Rattle.std.specs.Prelude.{ℕ, List}
use Rattle.refusal.specs.Runs.{◌>>=◌, give}
use Rattle.decode.specs.Reader.{Room, Read, strings, on_strings}
use Rattle.skipped.specs.Skip.{skipped}

-- c stays what it is
abbrev pub over : {C : Type 0} → List ℕ → Room → C → Read C
over input room c = (λ s. on_strings (skipped input room.texts (strings s)) s) >>= λ u. give c
