-- What the readers answer, as functions of the bytes. Assumes nothing.
use Rattle.std.specs.Prelude.{◌≡◌, ℕ, zero, suc, ◌+◌, ◌-◌, ◌*◌, ◌<◌, ◌≤◌, true, false, cond, List, [], ◌∷◌, length, drop, Some, None, Option, ◌==◌, nat_le, nat_lt}
use Rattle.std.specs.Borrow.{Bor}
use Rattle.std.specs.Option.{option_map}
use Rattle.msgpack.specs.declared.Item.{Item}
use Rattle.msgpack.specs.declared.Item.TheVariants.{Nil, Bool, Unsigned, Signed, Float, Double, Str, Bin, Array, Map, Ext}
use Rattle.msgpack.specs.Formats.{twos}

-- what was read, and the bytes that follow it
abbrev pub front : {X : Type 0} → X × Bor (List ℕ) → X × List ℕ
front p = (p.0, p.1.now)

-- what is left to read behind what was read, if anything was
abbrev pub and_then : {X Y : Type 0} → Option (X × List ℕ) → (X → List ℕ → Option (Y × List ℕ)) → Option (Y × List ℕ)
and_then None f = None
and_then (Some p) f = f p.0 p.1

-- the number that k bytes spell behind v, most significant first, and what follows
abbrev pub be : ℕ → ℕ → List ℕ → Option (ℕ × List ℕ)
be zero v xs = Some (v, xs)
be (suc k) v [] = None
be (suc k) v (x ∷ xs) = be k (v * 256 + x) xs

-- a reader answers an item that has to the number that stands there the relation P, and what follows the number; it
-- answers nothing where no number stands
abbrev pub Tells : (ℕ → Item → Type 0) → Option (ℕ × List ℕ) → Option (Item × Bor (List ℕ)) → Type 0
Tells P None r = r ≡ None
Tells P (Some p) r = (i : Item) × P p.0 i × (option_map front r ≡ Some (i, p.1))

-- the item that a number of k bytes tells
abbrev pub told : ℕ → (ℕ → Item) → List ℕ → Option (Item × List ℕ)
told k item xs = option_map (λ p. (item p.0, p.1)) (be k 0 xs)

-- an extension of n bytes, over its type
abbrev pub typed : ℕ → List ℕ → Option (Item × List ℕ)
typed n [] = None
typed n (t ∷ xs) = Some (Ext n, xs)

-- behind a marker m: the families of formats, and then all of them
abbrev pub bin_mark : ℕ → List ℕ → Option (Item × List ℕ)
bin_mark m xs =
    cond (m == 0xc4) (told 1 Bin xs)
    (cond (m == 0xc5) (told 2 Bin xs)
    (cond (m == 0xc6) (told 4 Bin xs)
    None))

abbrev pub ext_mark : ℕ → List ℕ → Option (Item × List ℕ)
ext_mark m xs =
    cond (m == 0xc7) (and_then (be 1 0 xs) typed)
    (cond (m == 0xc8) (and_then (be 2 0 xs) typed)
    (cond (m == 0xc9) (and_then (be 4 0 xs) typed)
    None))

abbrev pub float_mark : ℕ → List ℕ → Option (Item × List ℕ)
float_mark m xs =
    cond (m == 0xca) (told 4 Float xs)
    (cond (m == 0xcb) (told 8 Double xs)
    None)

abbrev pub uint_mark : ℕ → List ℕ → Option (Item × List ℕ)
uint_mark m xs =
    cond (m == 0xcc) (told 1 Unsigned xs)
    (cond (m == 0xcd) (told 2 Unsigned xs)
    (cond (m == 0xce) (told 4 Unsigned xs)
    (cond (m == 0xcf) (told 8 Unsigned xs)
    None)))

abbrev pub int_mark : ℕ → List ℕ → Option (Item × List ℕ)
int_mark m xs =
    cond (m == 0xd0) (told 1 (λ n. Signed (twos 1 n)) xs)
    (cond (m == 0xd1) (told 2 (λ n. Signed (twos 2 n)) xs)
    (cond (m == 0xd2) (told 4 (λ n. Signed (twos 4 n)) xs)
    (cond (m == 0xd3) (told 8 (λ n. Signed (twos 8 n)) xs)
    None)))

abbrev pub fixext_mark : ℕ → List ℕ → Option (Item × List ℕ)
fixext_mark m xs =
    cond (m == 0xd4) (typed 1 xs)
    (cond (m == 0xd5) (typed 2 xs)
    (cond (m == 0xd6) (typed 4 xs)
    (cond (m == 0xd7) (typed 8 xs)
    (cond (m == 0xd8) (typed 16 xs)
    None))))

abbrev pub str_mark : ℕ → List ℕ → Option (Item × List ℕ)
str_mark m xs =
    cond (m == 0xd9) (told 1 Str xs)
    (cond (m == 0xda) (told 2 Str xs)
    (cond (m == 0xdb) (told 4 Str xs)
    None))

abbrev pub count_mark : ℕ → List ℕ → Option (Item × List ℕ)
count_mark m xs =
    cond (m == 0xdc) (told 2 Array xs)
    (cond (m == 0xdd) (told 4 Array xs)
    (cond (m == 0xde) (told 2 Map xs)
    (cond (m == 0xdf) (told 4 Map xs)
    None)))

-- nil, false and true
abbrev pub fixed_mark : ℕ → List ℕ → Option (Item × List ℕ)
fixed_mark m xs =
    cond (m == 0xc0) (Some (Nil, xs))
    (cond (m == 0xc2) (Some (Bool false, xs))
    (cond (m == 0xc3) (Some (Bool true, xs))
    None))

abbrev pub item_mark : ℕ → List ℕ → Option (Item × List ℕ)
item_mark m xs =
    cond (nat_lt m 0x80) (Some (Unsigned m, xs))
    (cond (nat_lt m 0x90) (Some (Map (m - 0x80), xs))
    (cond (nat_lt m 0xa0) (Some (Array (m - 0x90), xs))
    (cond (nat_lt m 0xc0) (Some (Str (m - 0xa0), xs))
    (cond (nat_lt m 0xc4) (fixed_mark m xs)
    (cond (nat_lt m 0xc7) (bin_mark m xs)
    (cond (nat_lt m 0xca) (ext_mark m xs)
    (cond (nat_lt m 0xcc) (float_mark m xs)
    (cond (nat_lt m 0xd0) (uint_mark m xs)
    (cond (nat_lt m 0xd4) (int_mark m xs)
    (cond (nat_lt m 0xd9) (fixext_mark m xs)
    (cond (nat_lt m 0xdc) (str_mark m xs)
    (cond (nat_lt m 0xe0) (count_mark m xs)
    (cond (nat_lt m 0x100) (Some (Signed (twos 1 m), xs))
    None)))))))))))))

-- the item that bytes begin with, and what follows its head
abbrev pub item_at : List ℕ → Option (Item × List ℕ)
item_at [] = None
item_at (m ∷ xs) = item_mark m xs

-- an item with its offset behind, in an input of n bytes, for one with what follows it
abbrev pub placed : ℕ → Item × List ℕ → Item × ℕ
placed n p = (p.0, n - length p.1)

-- the item at an offset, and the offset behind its head
unfoldable pub item_from : List ℕ → ℕ → Option (Item × ℕ)
item_from input at = cond (nat_le at (length input)) (option_map (placed (length input)) (item_at (drop at input))) None

-- the offset behind lies further on, and in the input or at its end
abbrev pub Within : ℕ → List ℕ → Option (Item × ℕ) → Type 0
Within at input None = Unit {0}
Within at input (Some p) = (at < p.1) × (p.1 ≤ length input)
