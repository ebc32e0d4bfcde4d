-- Plain items: which items a reader takes, and for what. Assumes nothing.
use Rattle.std.specs.Prelude.{ℕ, Bool, List, ℤ, pos, negsuc, Some, None, Ok, Option, nat_le, nat_lt, if◌then◌else◌}
use Rattle.msgpack.specs.declared.Item.{Item}
use Rattle.msgpack.specs.declared.Item.TheVariants as i
use Rattle.msgpack.specs.Items.{item_from}
use Rattle.refusal.specs.Runs.{RanOn, ReadOn, refuse}
use Rattle.refusal.specs.declared.Kind.TheVariants.{InvalidFormat}
use Rattle.refusal.specs.declared.Layer.{Layer}

abbrev pub is_bool : Item → Option Bool
is_bool (i.Bool b) = Some b
is_bool _ = None

abbrev pub is_double : Item → Option ℕ
is_double (i.Double n) = Some n
is_double _ = None

abbrev pub is_map : Item → Option ℕ
is_map (i.Map n) = Some n
is_map _ = None

abbrev pub is_array : Item → Option ℕ
is_array (i.Array n) = Some n
is_array _ = None

abbrev pub is_bin : Item → Option ℕ
is_bin (i.Bin n) = Some n
is_bin _ = None

abbrev pub is_natural : ℤ → Option ℕ
is_natural (pos n) = Some n
is_natural (negsuc n) = None

-- an integer from 0 up
abbrev pub natural : Item → Option ℕ
natural (i.Unsigned n) = Some n
natural (i.Signed z) = is_natural z
natural _ = None

-- an integer of 64 bits with a sign
abbrev pub integer : Item → Option ℤ
integer (i.Unsigned n) = if nat_le n 0x7fffffffffffffff then Some (pos n) else None
integer (i.Signed z) = Some z
integer _ = None

-- the numbers of 32 bits with a sign
abbrev pub fits32 : ℤ → Option ℤ
fits32 (pos n) = if nat_lt n 0x80000000 then Some (pos n) else None
fits32 (negsuc n) = if nat_lt n 0x80000000 then Some (negsuc n) else None

abbrev pub narrowed : Option ℤ → Option ℤ
narrowed None = None
narrowed (Some z) = fits32 z

abbrev pub signed32 : Item → Option ℤ
signed32 x = narrowed (integer x)

abbrev pub at_most : ℕ → Option ℕ → Option ℕ
at_most max None = None
at_most max (Some n) = if nat_le n max then Some n else None

-- an integer from 0 to max
abbrev pub up_to : ℕ → Item → Option ℕ
up_to max x = at_most max (natural x)

abbrev pub or_refuse : {A : Type 0} → Option A → Layer → ℕ → ℕ → RanOn ℕ A
or_refuse (Some a) l at end = (Ok a, end)
or_refuse None l at end = refuse InvalidFormat l at at

abbrev pub item_taken : {A : Type 0} → (Item → Option A) → Option (Item × ℕ) → Layer → ReadOn ℕ A
item_taken f None l at = refuse InvalidFormat l at at
item_taken f (Some (x, end)) l at = or_refuse (f x) l at end

-- an item for which f has a value; else InvalidFormat at its first byte
abbrev pub item_of : {A : Type 0} → (Item → Option A) → List ℕ → Layer → ReadOn ℕ A
item_of f input l at = item_taken f (item_from input at) l at
