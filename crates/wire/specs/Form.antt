-- The parts of the format: `X v p q` says that a writing of v stands at p, and q is right behind it. Assumes nothing.
use Rattle.std.specs.Prelude.{◌≡◌, ℕ, suc, ◌<◌, ◌≤◌, Bool, List, [], ◌∷◌, ◌++◌, length, ℤ, pos, negsuc, slice_index_or}
use Rattle.msgpack.specs.Formats.{Head}
use Rattle.msgpack.specs.declared.Item.{Item}
use Rattle.msgpack.specs.declared.Item.TheVariants as i
use Rattle.utf8.specs.Table.{Formed}
use Rattle.wire.specs.Payload.{Text}
use Rattle.wire.specs.Standing.{Standing, at, noting}

abbrev pub Form : Type 0 → Type 1
Form A = A → Standing → Standing → Type 0

-- n of X, one after the other
pub data Times {A : Type 0} (X : Form A) : ℕ → List A → Standing → Standing → Type 0 where
  done : {p : Standing} → Times X 0 [] p p
  more : {n : ℕ} {a : A} {l : List A} {p m q : Standing} → X a p m → Times X n l m q → Times X (suc n) (a ∷ l) p q

-- the head of an item, in any of its formats
pub data HeadAt : Item → Standing → Standing → Type 0 where
  head : {x : Item} {p : Standing} {q : List ℕ} → Head x p.bytes q → HeadAt x p (at q p)

-- n bytes as they are
pub data BytesAt (n : ℕ) : List ℕ → Standing → Standing → Type 0 where
  bytes : {l : List ℕ} {p : Standing} {q : List ℕ} → length l ≡ n → p.bytes ≡ l ++ q → BytesAt n l p (at q p)

-- an array of X's
pub data ArrayAt {A : Type 0} (X : Form A) : List A → Standing → Standing → Type 0 where
  array : {n : ℕ} {l : List A} {p m q : Standing} → HeadAt (i.Array n) p m → Times X n l m q → ArrayAt X l p q

-- a map whose pairs are X's
pub data MapAt {A : Type 0} (X : Form A) : List A → Standing → Standing → Type 0 where
  map : {n : ℕ} {l : List A} {p m q : Standing} → HeadAt (i.Map n) p m → Times X n l m q → MapAt X l p q

-- an integer, in an unsigned format or a signed one
pub data IntAt : ℤ → Standing → Standing → Type 0 where
  unsigned : {n : ℕ} {p q : Standing} → HeadAt (i.Unsigned n) p q → IntAt (pos n) p q
  signed : {z : ℤ} {p q : Standing} → HeadAt (i.Signed z) p q → IntAt z p q

-- from 0 to max
pub data NaturalAt (max : ℕ) : ℕ → Standing → Standing → Type 0 where
  natural : {n : ℕ} {p q : Standing} → IntAt (pos n) p q → n ≤ max → NaturalAt max n p q

-- from −half to half − 1
abbrev pub Within : ℕ → ℤ → Type 0
Within half (pos n) = n < half
Within half (negsuc n) = n < half

pub data SignedAt (half : ℕ) : ℤ → Standing → Standing → Type 0 where
  within : {z : ℤ} {p q : Standing} → IntAt z p q → Within half z → SignedAt half z p q

-- the key of a field, and the type number of an attribute: from 0 to 255
abbrev pub KeyAt : Form ℕ
KeyAt = NaturalAt 255

abbrev pub BoolAt : Form Bool
BoolAt b = HeadAt (i.Bool b)

-- a double, by its bits
abbrev pub DoubleAt : Form ℕ
DoubleAt n = HeadAt (i.Double n)

-- A text: in full, and then it takes the next number; or by a number that a text has, in an unsigned format.
pub data TextAt : Text → Standing → Standing → Type 0 where
  literal : {n : ℕ} {t : Text} {p m q : Standing} → HeadAt (i.Str n) p m → BytesAt n t m q → Formed t → TextAt t p (noting t q)
  numbered : {n : ℕ} {p q : Standing} → HeadAt (i.Unsigned n) p q → n < length p.texts → TextAt (slice_index_or p.texts n []) p q

pub data BinaryAt : List ℕ → Standing → Standing → Type 0 where
  binary : {n : ℕ} {l : List ℕ} {p m q : Standing} → HeadAt (i.Bin n) p m → BytesAt n l m q → BinaryAt l p q

-- a binary of 16 bytes
pub data TraceIdAt : List ℕ → Standing → Standing → Type 0 where
  trace_id : {l : List ℕ} {p m q : Standing} → HeadAt (i.Bin 16) p m → BytesAt 16 l m q → TraceIdAt l p q
