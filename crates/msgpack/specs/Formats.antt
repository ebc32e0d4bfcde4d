-- The formats of MessagePack, as a relation: `Head i p q` says that the bytes p begin with the head of the item i,
-- and that q follows it. One constructor for each format, in the order of the first byte. That bytes are below 256
-- is no matter here.
-- Assumes nothing.
use Rattle.std.specs.Prelude.{◌≡◌, ℕ, suc, ◌+◌, ◌-◌, ◌*◌, ◌^◌, ◌<◌, true, false, cond, List, [], ◌∷◌, ◌++◌, length, ℤ, pos, negsuc, nat_lt}
use Rattle.msgpack.specs.declared.Item.{Item}
use Rattle.msgpack.specs.declared.Item.TheVariants.{Nil, Bool, Unsigned, Signed, Float, Double, Str, Bin, Array, Map, Ext}

-- the number that bytes spell behind the number v, most significant first
abbrev pub number_from : ℕ → List ℕ → ℕ
number_from v [] = v
number_from v (b ∷ l) = number_from (v * 256 + b) l

abbrev pub number : List ℕ → ℕ
number l = number_from 0 l

-- p begins with k bytes that spell n, and q follows them
pub record Spelt (k n : ℕ) (p q : List ℕ) : Type 0 where
  pub bytes : List ℕ
  pub many : length bytes ≡ k
  pub before : p ≡ bytes ++ q
  pub value : n ≡ number bytes

-- two's complement over 8 * k bits
abbrev pub twos : ℕ → ℕ → ℤ
twos k n = cond (nat_lt n (2 ^ (8 * k - 1))) (pos n) (negsuc (2 ^ (8 * k) - suc n))

-- The number of a str, bin or ext counts the bytes that follow, of an array the items, of a map the pairs of items.
-- An extension's type, the byte t, belongs to its head. A float is told by its bits.
pub data Head : Item → List ℕ → List ℕ → Type 0 where
  positive_fixint : {n : ℕ} {q : List ℕ} → n < 128 → Head (Unsigned n) (n ∷ q) q
  fixmap : {n : ℕ} {q : List ℕ} → n < 16 → Head (Map n) ((0x80 + n) ∷ q) q
  fixarray : {n : ℕ} {q : List ℕ} → n < 16 → Head (Array n) ((0x90 + n) ∷ q) q
  fixstr : {n : ℕ} {q : List ℕ} → n < 32 → Head (Str n) ((0xa0 + n) ∷ q) q
  nil : {q : List ℕ} → Head Nil (0xc0 ∷ q) q
  -- 0xc1 is never used
  false_format : {q : List ℕ} → Head (Bool false) (0xc2 ∷ q) q
  true_format : {q : List ℕ} → Head (Bool true) (0xc3 ∷ q) q
  bin8 : {n : ℕ} {p q : List ℕ} → Spelt 1 n p q → Head (Bin n) (0xc4 ∷ p) q
  bin16 : {n : ℕ} {p q : List ℕ} → Spelt 2 n p q → Head (Bin n) (0xc5 ∷ p) q
  bin32 : {n : ℕ} {p q : List ℕ} → Spelt 4 n p q → Head (Bin n) (0xc6 ∷ p) q
  ext8 : {n t : ℕ} {p q : List ℕ} → Spelt 1 n p (t ∷ q) → Head (Ext n) (0xc7 ∷ p) q
  ext16 : {n t : ℕ} {p q : List ℕ} → Spelt 2 n p (t ∷ q) → Head (Ext n) (0xc8 ∷ p) q
  ext32 : {n t : ℕ} {p q : List ℕ} → Spelt 4 n p (t ∷ q) → Head (Ext n) (0xc9 ∷ p) q
  float32 : {n : ℕ} {p q : List ℕ} → Spelt 4 n p q → Head (Float n) (0xca ∷ p) q
  float64 : {n : ℕ} {p q : List ℕ} → Spelt 8 n p q → Head (Double n) (0xcb ∷ p) q
  uint8 : {n : ℕ} {p q : List ℕ} → Spelt 1 n p q → Head (Unsigned n) (0xcc ∷ p) q
  uint16 : {n : ℕ} {p q : List ℕ} → Spelt 2 n p q → Head (Unsigned n) (0xcd ∷ p) q
  uint32 : {n : ℕ} {p q : List ℕ} → Spelt 4 n p q → Head (Unsigned n) (0xce ∷ p) q
  uint64 : {n : ℕ} {p q : List ℕ} → Spelt 8 n p q → Head (Unsigned n) (0xcf ∷ p) q
  int8 : {n : ℕ} {p q : List ℕ} → Spelt 1 n p q → Head (Signed (twos 1 n)) (0xd0 ∷ p) q
  int16 : {n : ℕ} {p q : List ℕ} → Spelt 2 n p q → Head (Signed (twos 2 n)) (0xd1 ∷ p) q
  int32 : {n : ℕ} {p q : List ℕ} → Spelt 4 n p q → Head (Signed (twos 4 n)) (0xd2 ∷ p) q
  int64 : {n : ℕ} {p q : List ℕ} → Spelt 8 n p q → Head (Signed (twos 8 n)) (0xd3 ∷ p) q
  fixext1 : {t : ℕ} {q : List ℕ} → Head (Ext 1) (0xd4 ∷ t ∷ q) q
  fixext2 : {t : ℕ} {q : List ℕ} → Head (Ext 2) (0xd5 ∷ t ∷ q) q
  fixext4 : {t : ℕ} {q : List ℕ} → Head (Ext 4) (0xd6 ∷ t ∷ q) q
  fixext8 : {t : ℕ} {q : List ℕ} → Head (Ext 8) (0xd7 ∷ t ∷ q) q
  fixext16 : {t : ℕ} {q : List ℕ} → Head (Ext 16) (0xd8 ∷ t ∷ q) q
  str8 : {n : ℕ} {p q : List ℕ} → Spelt 1 n p q → Head (Str n) (0xd9 ∷ p) q
  str16 : {n : ℕ} {p q : List ℕ} → Spelt 2 n p q → Head (Str n) (0xda ∷ p) q
  str32 : {n : ℕ} {p q : List ℕ} → Spelt 4 n p q → Head (Str n) (0xdb ∷ p) q
  array16 : {n : ℕ} {p q : List ℕ} → Spelt 2 n p q → Head (Array n) (0xdc ∷ p) q
  array32 : {n : ℕ} {p q : List ℕ} → Spelt 4 n p q → Head (Array n) (0xdd ∷ p) q
  map16 : {n : ℕ} {p q : List ℕ} → Spelt 2 n p q → Head (Map n) (0xde ∷ p) q
  map32 : {n : ℕ} {p q : List ℕ} → Spelt 4 n p q → Head (Map n) (0xdf ∷ p) q
  negative_fixint : {n : ℕ} {q : List ℕ} → n < 32 → Head (Signed (twos 1 (0xe0 + n))) ((0xe0 + n) ∷ q) q
