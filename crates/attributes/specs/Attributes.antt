-- Attribute maps and lists. Assumes nothing.
use Rattle.std.specs.Prelude.{ℕ, zero, suc, ◌-◌, ◌/◌, ◌%◌, Bool, true, false, List, length, Ok, ◌==◌}
use Rattle.std.specs.Int.{w64}
use Rattle.std.proofs.Common.{of_z}
use Rattle.refusal.specs.Runs.{then, ◌>>=◌, give, refuse, pick, repeat}
use Rattle.refusal.specs.declared.Kind.TheVariants.{InvalidFormat, TooDeep}
use Rattle.refusal.specs.declared.Layer.TheVariants.{Attribute}
use Rattle.span.specs.Blank.{no_place, range_of}
use Rattle.span.specs.declared.types.Place.{Place}
use Rattle.span.specs.declared.types.Range.{Range}
use Rattle.decode.specs.Items.{item_of, is_bool, is_double, is_array, integer, up_to}
use Rattle.decode.specs.Binary.{bin_at}
use Rattle.decode.specs.Reader.{Room, Read, nodes_part, reserve_in, write_in, placed, text}
use Rattle.attributes.specs.declared.node.Body.{Body}

-- writes the node at the index, now that all that belongs to it lies behind it
abbrev pub close : ℕ → Place → ℕ → Body → Read (Unit {0})
close index key t b s =
    write_in nodes_part index (record { key = key; type_number = t; pattern = b.pattern; place = b.place; inside = length s.pools.nodes - index - 1 }) s

-- the nodes that were taken since there were n of them
abbrev pub since : ℕ → Read Range
since n s = (Ok (range_of n (length s.pools.nodes - n)), s)

abbrev pub number : ℕ → Body
number n = record { pattern = n; place = no_place }

abbrev pub content : Place → Body
content t = record { pattern = 0; place = t }

abbrev pub bit : Bool → ℕ
bit true = 1
bit false = 0

module _ (input : List ℕ) (room : Room) where
  -- a map's entry has a key; a list's member has none
  abbrev pub key : Bool → Read Place
  key true = text input room
  key false = give no_place

  -- an array of `each` items for every r
  abbrev pub group : ℕ → Read (Unit {0}) → Read (Unit {0})
  group each r s =
      then (placed (item_of is_array input Attribute) s)
      (λ n. pick (n % each == 0) (repeat (λ u. r) (n / each) tt) (refuse InvalidFormat Attribute s.at))

  -- a map's entries, as the range of their nodes
  abbrev pub map_of : (Bool → Read (Unit {0})) → Read Range
  map_of below s = (group 3 (below true) >>= λ u. since (length s.pools.nodes)) s

  -- the value of the type t, whose number began at the place at
  abbrev pub body : (Bool → Read (Unit {0})) → ℕ → ℕ → Read Body
  body below at t =
      pick (t == 1) (text input room >>= λ x. give (content x)) (
      pick (t == 2) (placed (item_of is_bool input Attribute) >>= λ b. give (number (bit b))) (
      pick (t == 3) (placed (item_of is_double input Attribute) >>= λ n. give (number n)) (
      pick (t == 4) (placed (item_of integer input Attribute) >>= λ z. give (number (of_z w64 z))) (
      pick (t == 5) (placed (bin_at input Attribute) >>= λ x. give (content x)) (
      pick (t == 6) (group 2 (below false) >>= λ u. give (number 0)) (
      pick (t == 7) (map_of below >>= λ x. give (number 0)) (
      refuse InvalidFormat Attribute at)))))))

  -- what stands behind the key: the type number and the value
  abbrev pub typed : (Bool → Read (Unit {0})) → ℕ → Place → Read (Unit {0})
  typed below index k s =
      (placed (item_of (up_to 0xff) input Attribute) >>= λ t. body below s.at t >>= λ b. close index k t b) s

  abbrev pub member_of : (Bool → Read (Unit {0})) → Bool → Read (Unit {0})
  member_of below keyed = reserve_in nodes_part Attribute room >>= λ index. key keyed >>= λ k. typed below index k

  -- An entry or a member with at most so many levels. Not an `abbrev`: at a numeral that would unfold level by level.
  unfoldable pub member : ℕ → Bool → Read (Unit {0})
  member zero keyed s = refuse TooDeep Attribute s.at s
  member (suc d) keyed s = member_of (member d) keyed s

  -- a map whose entries have at most so many levels
  abbrev pub attributes : ℕ → Read Range
  attributes d = map_of (member d)
