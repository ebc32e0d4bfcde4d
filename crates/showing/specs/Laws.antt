-- What places and nodes show is what the payload has there. Assumes nothing.
use Rattle.std.specs.Prelude.{◌≡◌, ℕ, suc, ◌+◌, ◌-◌, ◌≤◌, List, [], ◌∷◌, length, take, drop, Ok, slice_index_or}
use Rattle.std.proofs.Math.Option.{some}
use Rattle.span.specs.Blank.{blank_node}
use Rattle.span.specs.declared.types.Node.{Node}
use Rattle.span.specs.declared.types.Place.{Place}
use Rattle.span.specs.declared.types.Range.{Range}
use Rattle.source.specs.Shows.{Shown, String, Truth, Float, Int, Bytes, Members, Entries, text_shown, value_shown}
use Rattle.wire.specs.Payload.{Text, Value, text_value, bool_value, double_value, int_value, bytes_value, list_value, map_value, Item, values, entries}
use Rattle.meaning.specs.Shown.{contents, shown, shown_in}

-- The text that is answered at a place is the one that the payload has there.
abbrev pub TextShown : Type 0
TextShown = (input : List ℕ) (x : Place) (t : Text) → text_shown input x ≡ Ok t → contents input x ≡ t

-- the place lies in the bytes
abbrev pub Lies : List ℕ → Place → Type 0
Lies input x = x.offset + x.length ≤ length input

-- At a place that lies in the bytes the text is answered.
abbrev pub TextAnswered : Type 0
TextAnswered = (input : List ℕ) (x : Place) → Lies input x → text_shown input x ≡ Ok (contents input x)

-- A value that is answered says v: it is v itself, or a range of nodes that show what is inside v.
abbrev pub Says : List ℕ → List Node → Shown → Value → Type 0
Says input nodes (String t) v = v ≡ text_value t
Says input nodes (Truth b) v = v ≡ bool_value b
Says input nodes (Float n) v = v ≡ double_value n
Says input nodes (Int z) v = v ≡ int_value z
Says input nodes (Bytes t) v = v ≡ bytes_value t
Says input nodes (Members r) v = (l : List Item) × (shown_in input r nodes ≡ some l) × (v ≡ list_value (values l))
Says input nodes (Entries r) v = (l : List Item) × (shown_in input r nodes ≡ some l) × (v ≡ map_value (entries l))

-- how many nodes are inside the one at the index i
abbrev pub inside_at : List Node → ℕ → ℕ
inside_at nodes i = (slice_index_or nodes i blank_node).inside

-- the node at the index i, with those inside it, shows the one item a
abbrev pub ItemAt : List ℕ → List Node → ℕ → Item → Type 0
ItemAt input nodes i a = shown input (take (suc (inside_at nodes i)) (drop i nodes)) ≡ some (a ∷ [])

-- The value that is answered of a node says the value of the item that the node shows.
abbrev pub ValueShown : Type 0
ValueShown =
    (input : List ℕ) (nodes : List Node) (i : ℕ) (k : Text) (v : Value) (s : Shown) → ItemAt input nodes i (k, v) → value_shown input nodes i ≡ Ok s → Says input nodes s v

-- Of a node that shows an item a value is answered, if its place lies in the bytes.
abbrev pub ValueAnswered : Type 0
ValueAnswered =
    (input : List ℕ) (nodes : List Node) (i : ℕ) (a : Item) → ItemAt input nodes i a → Lies input (slice_index_or nodes i blank_node).place → (s : Shown) × (value_shown input nodes i ≡ Ok s)

-- The text at the place of a node's key is the key of the item that the node shows.
abbrev pub KeyShown : Type 0
KeyShown = (input : List ℕ) (nodes : List Node) (i : ℕ) (k : Text) (v : Value) → ItemAt input nodes i (k, v) → contents input (slice_index_or nodes i blank_node).key ≡ k

-- what is left of a range behind its first node and those inside it
abbrev pub rest_of : List Node → Range → Range
rest_of nodes r = let n = suc (inside_at nodes r.first) in record { first = r.first + n; count = r.count - n }

-- The range has its first node with those inside it, which shows a, and what is left of the range shows l.
pub record First (input : List ℕ) (nodes : List Node) (r : Range) (a : Item) (l : List Item) : Type 0 where
  pub within : suc (inside_at nodes r.first) ≤ r.count
  pub first : ItemAt input nodes r.first a
  pub rest : shown_in input (rest_of nodes r) nodes ≡ some l

-- A range that shows any item begins with a node that shows the first, and the rest of it shows the others.
abbrev pub Walk : Type 0
Walk = (input : List ℕ) (nodes : List Node) (r : Range) (a : Item) (l : List Item) → shown_in input r nodes ≡ some (a ∷ l) → First input nodes r a l

-- A range that shows none has no node.
abbrev pub End : Type 0
End = (input : List ℕ) (nodes : List Node) (r : Range) → shown_in input r nodes ≡ some [] → r.count ≡ 0
