-- What places and nodes show of the bytes. Assumes nothing.
use Rattle.std.specs.Prelude.{ℕ, ◌+◌, ◌-◌, Bool, List, length, take, drop, ℤ, Ok, Err, Result, ◌==◌, nat_le, nat_lt, slice_index_or, if◌then◌else◌}
use Rattle.std.specs.Borrow.{Bor}
use Rattle.std.specs.Int.{w64}
use Rattle.std.proofs.Common.{to_z}
use Rattle.refusal.specs.Runs.{refusal_at}
use Rattle.refusal.specs.declared.Kind.TheVariants.{BadRecord}
use Rattle.refusal.specs.declared.Layer.TheVariants.{NoLayer}
use Rattle.refusal.specs.declared.Refusal.{Refusal}
use Rattle.span.specs.Blank.{blank_node, range_of}
use Rattle.span.specs.declared.types.Node.{Node}
use Rattle.span.specs.declared.types.Place.{Place}
use Rattle.span.specs.declared.types.Range.{Range}
use Rattle.source.specs.declared.types.AttributeValue.{AttributeValue}
use Rattle.source.specs.declared.types.AttributeValue.TheVariants as a

-- a value with the bytes themselves in place of a part of them
pub data Shown : Type 0 where
  String : List ℕ → Shown
  Truth : Bool → Shown
  Float : ℕ → Shown
  Int : ℤ → Shown
  Bytes : List ℕ → Shown
  Members : Range → Shown
  Entries : Range → Shown

abbrev pub plain : AttributeValue → Shown
plain (a.String t) = String t.now
plain (a.Bool b) = Truth b
plain (a.Float n) = Float n
plain (a.Int z) = Int z
plain (a.Bytes t) = Bytes t.now
plain (a.List r) = Members r
plain (a.KeyValue r) = Entries r

abbrev pub value_of : Result AttributeValue Refusal → Result Shown Refusal
value_of (Ok v) = Ok (plain v)
value_of (Err e) = Err e

abbrev pub part_of : Result (Bor (List ℕ)) Refusal → Result (List ℕ) Refusal
part_of (Ok t) = Ok t.now
part_of (Err e) = Err e

abbrev pub bad : {A : Type 0} → Result A Refusal
bad = Err (refusal_at BadRecord NoLayer 0)

abbrev pub map_ok : {A B : Type 0} → (A → B) → Result A Refusal → Result B Refusal
map_ok f (Ok x) = Ok (f x)
map_ok f (Err e) = Err e

module _ (bytes : List ℕ) where
  -- the bytes at a place within them
  abbrev pub text_shown : Place → Result (List ℕ) Refusal
  text_shown p =
      if nat_le p.offset (length bytes)
      then (if nat_le p.length (length bytes - p.offset) then Ok (take p.length (drop p.offset bytes)) else bad)
      else bad

  -- a node with nothing inside
  abbrev pub leaf_shown : Node → Result Shown Refusal
  leaf_shown n =
      if n.type_number == 1 then map_ok String (text_shown n.place)
      else if n.type_number == 2 then (if nat_lt n.pattern 2 then Ok (Truth (n.pattern == 1)) else bad)
      else if n.type_number == 3 then Ok (Float n.pattern)
      else if n.type_number == 4 then Ok (Int (to_z w64 n.pattern))
      else if n.type_number == 5 then map_ok Bytes (text_shown n.place)
      else bad

  -- the node at the index i, with as many behind it as there are
  abbrev pub node_shown : ℕ → Node → Result Shown Refusal
  node_shown i n =
      if n.type_number == 6 then Ok (Members (range_of (i + 1) n.inside))
      else if n.type_number == 7 then Ok (Entries (range_of (i + 1) n.inside))
      else if nat_lt 0 n.inside then bad
      else leaf_shown n

  -- the node at the index i of the nodes l
  abbrev pub value_shown : List Node → ℕ → Result Shown Refusal
  value_shown l i =
      if nat_lt i (length l)
      then (if nat_le (slice_index_or l i blank_node).inside (length l - i - 1) then node_shown i (slice_index_or l i blank_node) else bad)
      else bad
