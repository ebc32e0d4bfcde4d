-- Attributes: arrays of key, type number, value for a map, and of type number, value for a list. Assumes nothing.
use Rattle.std.specs.Prelude.{ℕ, zero, suc, ◌*◌, Bool, true, false, List, [], ℤ}
use Rattle.msgpack.specs.declared.Item.TheVariants as i
use Rattle.wire.specs.Payload.{Text, Value, text_value, bool_value, double_value, int_value, bytes_value, list_value, map_value, Item, values, entries}
use Rattle.wire.specs.Standing.{Standing, count_node}
use Rattle.wire.specs.Form.{Form, Times, HeadAt, KeyAt, TextAt, BoolAt, DoubleAt, SignedAt, BinaryAt}

-- an array of k items or values for each X
pub data GroupAt {A : Type 0} (k : ℕ) (X : Form A) : List A → Standing → Standing → Type 0 where
  group : {n : ℕ} {l : List A} {p m q : Standing} → HeadAt (i.Array (k * n)) p m → Times X n l m q → GroupAt k X l p q

-- a value of the type k, where X false are the members of a list and X true the entries of a map
pub data ValueOf (X : Bool → Form Item) : ℕ → Value → Standing → Standing → Type 0 where
  text : {t : Text} {p q : Standing} → TextAt t p q → ValueOf X 1 (text_value t) p q
  bool : {b : Bool} {p q : Standing} → BoolAt b p q → ValueOf X 2 (bool_value b) p q
  double : {n : ℕ} {p q : Standing} → DoubleAt n p q → ValueOf X 3 (double_value n) p q
  integer : {z : ℤ} {p q : Standing} → SignedAt 0x8000000000000000 z p q → ValueOf X 4 (int_value z) p q
  binary : {l : List ℕ} {p q : Standing} → BinaryAt l p q → ValueOf X 5 (bytes_value l) p q
  list : {l : List Item} {p q : Standing} → GroupAt 2 (X false) l p q → ValueOf X 6 (list_value (values l)) p q
  map : {l : List Item} {p q : Standing} → GroupAt 3 (X true) l p q → ValueOf X 7 (map_value (entries l)) p q

-- a member of a list, or the entry of a map; its node is counted first
pub data ItemOf (X : Bool → Form Item) : Bool → Item → Standing → Standing → Type 0 where
  member : {k : ℕ} {v : Value} {p m q : Standing} → KeyAt k (count_node p) m → ValueOf X k v m q → ItemOf X false ([], v) p q
  entry : {t : Text} {k : ℕ} {v : Value} {p m o q : Standing} → TextAt t (count_node p) m → KeyAt k m o → ValueOf X k v o q → ItemOf X true (t, v) p q

-- one with at most d levels
unfoldable pub ItemAt : ℕ → Bool → Form Item
ItemAt zero keyed x p q = ⊥
ItemAt (suc d) keyed x p q = ItemOf (ItemAt d) keyed x p q

abbrev pub AttributesAt : Form (List Item)
AttributesAt = GroupAt 3 (ItemAt 64 true)
