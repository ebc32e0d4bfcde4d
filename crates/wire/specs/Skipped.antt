-- The value of an unknown key: any value, of which only the texts count. Assumes nothing.
use Rattle.std.specs.Prelude.{ℕ, zero, suc, ◌*◌, Bool, List, ℤ}
use Rattle.msgpack.specs.declared.Item.{Item}
use Rattle.msgpack.specs.declared.Item.TheVariants as i
use Rattle.utf8.specs.Table.{Formed}
use Rattle.wire.specs.Standing.{Standing, noting}
use Rattle.wire.specs.Form.{Form, Times, HeadAt, BytesAt}

-- What follows the head of an item, where its members are X's: a map has two for each pair, the key before the value.
-- A string that is text takes the next number; any other takes none.
pub data SkippedOf (X : Form (Unit {0})) : Item → Standing → Standing → Type 0 where
  nil : {p : Standing} → SkippedOf X i.Nil p p
  bool : {b : Bool} {p : Standing} → SkippedOf X (i.Bool b) p p
  unsigned : {n : ℕ} {p : Standing} → SkippedOf X (i.Unsigned n) p p
  signed : {z : ℤ} {p : Standing} → SkippedOf X (i.Signed z) p p
  float : {n : ℕ} {p : Standing} → SkippedOf X (i.Float n) p p
  double : {n : ℕ} {p : Standing} → SkippedOf X (i.Double n) p p
  text : {n : ℕ} {l : List ℕ} {p q : Standing} → BytesAt n l p q → Formed l → SkippedOf X (i.Str n) p (noting l q)
  no_text : {n : ℕ} {l : List ℕ} {p q : Standing} → BytesAt n l p q → ¬ Formed l → SkippedOf X (i.Str n) p q
  binary : {n : ℕ} {l : List ℕ} {p q : Standing} → BytesAt n l p q → SkippedOf X (i.Bin n) p q
  array : {n : ℕ} {l : List (Unit {0})} {p q : Standing} → Times X n l p q → SkippedOf X (i.Array n) p q
  map : {n : ℕ} {l : List (Unit {0})} {p q : Standing} → Times X (2 * n) l p q → SkippedOf X (i.Map n) p q
  ext : {n : ℕ} {l : List ℕ} {p q : Standing} → BytesAt n l p q → SkippedOf X (i.Ext n) p q

-- the whole of one
pub data SkippedOver (X : Form (Unit {0})) : Unit {0} → Standing → Standing → Type 0 where
  skipped : {x : Item} {p m q : Standing} → HeadAt x p m → SkippedOf X x m q → SkippedOver X tt p q

-- a value with at most d levels
unfoldable pub SkippedAt : ℕ → Form (Unit {0})
SkippedAt zero u p q = ⊥
SkippedAt (suc d) u p q = SkippedOver (SkippedAt d) u p q

abbrev pub OtherAt : Form (Unit {0})
OtherAt = SkippedAt 64
