-- What follows a skipped value, or attributes, is no matter to them. Assumes nothing.
use Rattle.std.proofs.Common.{ℕ, zero, suc, Bool, true, false}
use Rattle.msgpack.specs.declared.Item as msgpack
use Rattle.wire.specs.Payload.{Value, Item}
use Rattle.wire.specs.Standing.{Standing, at}
use Rattle.wire.specs.Form.{Form}
use Rattle.wire.specs.Skipped.{SkippedOf, SkippedOver, skipped, SkippedAt}
use Rattle.wire.specs.Attributes.{ValueOf, ItemOf, member, entry, ItemAt, AttributesAt}
use Rattle.wire.proofs.Moves.{Moved, Moves, stayed, mapped, joined, joined-three, times-moved}
use Rattle.wire.proofs.Parts.{head-moves, bytes-moved, natural-moves, signed-moves, text-moves, binary-moves, group-moves}

module _ {X : Form (Unit {0})} (hx : Moves X) where
  skipped-of : {x : msgpack.Item} {p q : Standing} → SkippedOf X x p q → Moved (λ l r. SkippedOf X x (at l p) (at r q)) p.bytes q.bytes
  skipped-of SkippedOf.nil = stayed (λ l. SkippedOf.nil)
  skipped-of SkippedOf.bool = stayed (λ l. SkippedOf.bool)
  skipped-of SkippedOf.unsigned = stayed (λ l. SkippedOf.unsigned)
  skipped-of SkippedOf.signed = stayed (λ l. SkippedOf.signed)
  skipped-of SkippedOf.float = stayed (λ l. SkippedOf.float)
  skipped-of SkippedOf.double = stayed (λ l. SkippedOf.double)
  skipped-of (SkippedOf.text h e) = mapped (bytes-moved h) (λ l r a. SkippedOf.text a e)
  skipped-of (SkippedOf.no_text h e) = mapped (bytes-moved h) (λ l r a. SkippedOf.no_text a e)
  skipped-of (SkippedOf.binary h) = mapped (bytes-moved h) (λ l r. SkippedOf.binary)
  skipped-of (SkippedOf.array t) = mapped (times-moved hx t) (λ l r. SkippedOf.array)
  skipped-of (SkippedOf.map t) = mapped (times-moved hx t) (λ l r. SkippedOf.map)
  skipped-of (SkippedOf.ext h) = mapped (bytes-moved h) (λ l r. SkippedOf.ext)

  skipped-over : {u : Unit {0}} {p q : Standing} → SkippedOver X u p q → Moved (λ l r. SkippedOver X u (at l p) (at r q)) p.bytes q.bytes
  skipped-over (skipped h k) = joined (head-moves.moves h) (skipped-of k) (λ l s r. skipped)

pub skipped-moves : (d : ℕ) → Moves (SkippedAt d)
unfolding SkippedAt
skipped-moves zero = record { moves = λ h. absurd h }
skipped-moves (suc d) = record { moves = λ h. skipped-over (skipped-moves d) h }

module _ {X : Bool → Form Item} (hx : (keyed : Bool) → Moves (X keyed)) where
  value_of : {k : ℕ} {v : Value} {p q : Standing} → ValueOf X k v p q → Moved (λ l r. ValueOf X k v (at l p) (at r q)) p.bytes q.bytes
  value_of (ValueOf.text h) = mapped (text-moves.moves h) (λ l r. ValueOf.text)
  value_of (ValueOf.bool h) = mapped (head-moves.moves h) (λ l r. ValueOf.bool)
  value_of (ValueOf.double h) = mapped (head-moves.moves h) (λ l r. ValueOf.double)
  value_of (ValueOf.integer h) = mapped (signed-moves.moves h) (λ l r. ValueOf.integer)
  value_of (ValueOf.binary h) = mapped (binary-moves.moves h) (λ l r. ValueOf.binary)
  value_of (ValueOf.list h) = mapped ((group-moves (hx false)).moves h) (λ l r. ValueOf.list)
  value_of (ValueOf.map h) = mapped ((group-moves (hx true)).moves h) (λ l r. ValueOf.map)

  item_of : {keyed : Bool} {x : Item} {p q : Standing} → ItemOf X keyed x p q → Moved (λ l r. ItemOf X keyed x (at l p) (at r q)) p.bytes q.bytes
  item_of (member h k) = joined (natural-moves.moves h) (value_of k) (λ l s r. member)
  item_of (entry h k v) = joined-three (text-moves.moves h) (natural-moves.moves k) (value_of v) (λ l s u r. entry)

pub item-moves : (d : ℕ) (keyed : Bool) → Moves (ItemAt d keyed)
unfolding ItemAt
item-moves zero keyed = record { moves = λ h. absurd h }
item-moves (suc d) keyed = record { moves = λ h. item_of (item-moves d) h }

pub attributes-moves : Moves AttributesAt
attributes-moves = group-moves (item-moves 64 true)
