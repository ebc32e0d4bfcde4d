-- The types of values and their numbers. Assumes nothing.
use Rattle.std.specs.Prelude.{◌≡◌, ℕ, ◌<◌, ◌⊎◌, Result, MatchResult}
use Rattle.span.specs.declared.keys.AnyValueKey.{AnyValueKey}
use Rattle.span.specs.declared.keys.AnyValueKey.TheVariants as v
use Rattle.span.specs.declared.keys.UnknownKey.{UnknownKey}

abbrev pub key_number : AnyValueKey → ℕ
key_number v.String = 1
key_number v.Bool = 2
key_number v.Double = 3
key_number v.Int64 = 4
key_number v.Bytes = 5
key_number v.Array = 6
key_number v.KeyValueList = 7

-- the key that has this number, if one has it
abbrev pub Decodes : ℕ → Result AnyValueKey UnknownKey → Type 0
Decodes n r = MatchResult r (λ key. key_number key ≡ n) (λ e. (n ≡ 0) ⊎ (7 < n))
