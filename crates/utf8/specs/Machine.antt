-- UTF-8 as a fold of a step over the bytes. Assumes nothing.
use Rattle.std.specs.Prelude.{ℕ, Bool, true, false, List, [], ◌∷◌, nat_le, if◌then◌else◌}
use Rattle.utf8.specs.declared.State.{State}
use Rattle.utf8.specs.declared.State.TheVariants.{Start, One, Two, Three, E0, Ed, F0, F4, Bad}

-- s where the byte is from lo to hi, else t
abbrev pub within : ℕ → ℕ → ℕ → State → State → State
within lo hi b s t = if nat_le lo b then (if nat_le b hi then s else t) else t

abbrev pub stepped : State → ℕ → State
stepped Start b =
    within 0 0x7f b Start
    (within 0xc2 0xdf b One
    (within 0xe0 0xe0 b E0
    (within 0xed 0xed b Ed
    (within 0xe1 0xef b Two
    (within 0xf0 0xf0 b F0
    (within 0xf1 0xf3 b Three
    (within 0xf4 0xf4 b F4 Bad)))))))
stepped One b = within 0x80 0xbf b Start Bad
stepped Two b = within 0x80 0xbf b One Bad
stepped Three b = within 0x80 0xbf b Two Bad
stepped E0 b = within 0xa0 0xbf b One Bad
stepped Ed b = within 0x80 0x9f b One Bad
stepped F0 b = within 0x90 0xbf b Two Bad
stepped F4 b = within 0x80 0x8f b Two Bad
stepped Bad b = Bad

abbrev pub accepts : State → Bool
accepts Start = true
accepts s = false

-- the same, shut: a proof opens one step at a time
unfoldable pub next : State → ℕ → State
next s b = stepped s b

abbrev pub run : State → List ℕ → State
run s [] = s
run s (b ∷ bs) = run (next s b) bs

abbrev pub well_formed : List ℕ → Bool
well_formed bs = accepts (run Start bs)
