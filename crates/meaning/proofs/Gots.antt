-- What a draft has read. Assumes nothing.
use Rattle.std.specs.Prelude.{Bool, true, false, None, Some, Option}

-- what was read, or what stands for it
abbrev pub or_else : {A : Type 0} → A → Option A → A
or_else a None = a
or_else a (Some x) = x

abbrev pub has : {A : Type 0} → Option A → Bool
has None = false
has (Some x) = true
