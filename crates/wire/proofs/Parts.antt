-- What follows heads, numbers, texts and arrays is no matter to them. Assumes nothing.
use Rattle.std.proofs.Common.{ℕ, List, ℤ, refl}
use Rattle.msgpack.specs.declared.Item.{Item}
use Rattle.msgpack.proofs.Writings.{writing}
use Rattle.wire.specs.Payload.{Text}
use Rattle.wire.specs.Standing.{Standing, at}
use Rattle.wire.specs.Form.{Form, HeadAt, head, BytesAt, bytes, ArrayAt, array, MapAt, map, IntAt, unsigned, signed, NaturalAt, natural, SignedAt, within, TextAt, literal, numbered, BinaryAt, binary, TraceIdAt, trace_id}
use Rattle.wire.specs.Attributes.{GroupAt, group}
use Rattle.wire.proofs.Moves.{Moved, Begun, Moves, moved, mapped, joined, joined-begun, times-moved}

pub head-begun : {x : Item} {p q : Standing} → HeadAt x p q → Begun (λ l r. HeadAt x (at l p) (at r q)) p.bytes q.bytes
head-begun (head h) = let w = writing h in record { first = w.marker; others = w.others; before = w.before; anywhere = λ r. head (w.anywhere r) }

pub head-moves : Moves HeadAt
head-moves = record { moves = λ h. moved (head-begun h) }

pub bytes-moved : {n : ℕ} {x : List ℕ} {p q : Standing} → BytesAt n x p q → Moved (λ l r. BytesAt n x (at l p) (at r q)) p.bytes q.bytes
bytes-moved (bytes {l = x} e h) = record { written = x; before = h; anywhere = λ r. bytes e refl }

int-moved : {z : ℤ} {p q : Standing} → IntAt z p q → Moved (λ l r. IntAt z (at l p) (at r q)) p.bytes q.bytes
int-moved (unsigned h) = mapped (head-moves.moves h) (λ l r. unsigned)
int-moved (signed h) = mapped (head-moves.moves h) (λ l r. signed)

natural-moved : {max n : ℕ} {p q : Standing} → NaturalAt max n p q → Moved (λ l r. NaturalAt max n (at l p) (at r q)) p.bytes q.bytes
natural-moved (natural h e) = mapped (int-moved h) (λ l r a. natural a e)

pub natural-moves : {max : ℕ} → Moves (NaturalAt max)
natural-moves = record { moves = natural-moved }

signed-moved : {half : ℕ} {z : ℤ} {p q : Standing} → SignedAt half z p q → Moved (λ l r. SignedAt half z (at l p) (at r q)) p.bytes q.bytes
signed-moved (within h e) = mapped (int-moved h) (λ l r a. within a e)

pub signed-moves : {half : ℕ} → Moves (SignedAt half)
signed-moves = record { moves = signed-moved }

text-moved : {t : Text} {p q : Standing} → TextAt t p q → Moved (λ l r. TextAt t (at l p) (at r q)) p.bytes q.bytes
text-moved (literal h k e) = joined (head-moves.moves h) (bytes-moved k) (λ l s r a b. literal a b e)
text-moved (numbered h e) = mapped (head-moves.moves h) (λ l r a. numbered a e)

pub text-moves : Moves TextAt
text-moves = record { moves = text-moved }

binary-moved : {x : List ℕ} {p q : Standing} → BinaryAt x p q → Moved (λ l r. BinaryAt x (at l p) (at r q)) p.bytes q.bytes
binary-moved (binary h k) = joined (head-moves.moves h) (bytes-moved k) (λ l s r. binary)

pub binary-moves : Moves BinaryAt
binary-moves = record { moves = binary-moved }

trace_id-moved : {x : List ℕ} {p q : Standing} → TraceIdAt x p q → Moved (λ l r. TraceIdAt x (at l p) (at r q)) p.bytes q.bytes
trace_id-moved (trace_id h k) = joined (head-moves.moves h) (bytes-moved k) (λ l s r. trace_id)

pub trace_id-moves : Moves TraceIdAt
trace_id-moves = record { moves = trace_id-moved }

module _ {A : Type 0} {X : Form A} (hx : Moves X) where
  array-moved : {a : List A} {p q : Standing} → ArrayAt X a p q → Moved (λ l r. ArrayAt X a (at l p) (at r q)) p.bytes q.bytes
  array-moved (array h t) = joined (head-moves.moves h) (times-moved hx t) (λ l s r. array)

  pub array-moves : Moves (ArrayAt X)
  array-moves = record { moves = array-moved }

  group-moved : {k : ℕ} {a : List A} {p q : Standing} → GroupAt k X a p q → Moved (λ l r. GroupAt k X a (at l p) (at r q)) p.bytes q.bytes
  group-moved (group h t) = joined (head-moves.moves h) (times-moved hx t) (λ l s r. group)

  pub group-moves : {k : ℕ} → Moves (GroupAt k X)
  group-moves = record { moves = group-moved }

  pub map-begun : {a : List A} {p q : Standing} → MapAt X a p q → Begun (λ l r. MapAt X a (at l p) (at r q)) p.bytes q.bytes
  map-begun (map h t) = joined-begun (head-begun h) (times-moved hx t) (λ l s r. map)

  pub map-moves : Moves (MapAt X)
  map-moves = record { moves = λ h. moved (map-begun h) }
