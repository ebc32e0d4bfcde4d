-- What is promised of the formats and of their readers. Assumes nothing.
use Rattle.std.specs.Prelude.{◌≡◌, ℕ, ◌-◌, ◌≤◌, List, length, drop, Some}
use Rattle.msgpack.specs.declared.Item.{Item}
use Rattle.msgpack.specs.Formats.{Head}
use Rattle.msgpack.specs.Items.{item_at, item_from}

-- what is read stands there, and what stands there is read
abbrev pub Agrees : Type 0
Agrees = (p : List ℕ) (i : Item) (q : List ℕ) → (item_at p ≡ Some (i, q) → Head i p q) × (Head i p q → item_at p ≡ Some (i, q))

-- reading at an offset is reading what is left from there: the offset behind an item is where the bytes behind it begin
abbrev pub Behind : Type 0
Behind =
    ((input : List ℕ) (at : ℕ) (i : Item) (end : ℕ) → item_from input at ≡ Some (i, end) → item_at (drop at input) ≡ Some (i, drop end input))
    × ((input : List ℕ) (at : ℕ) (i : Item) (q : List ℕ) → at ≤ length input → item_at (drop at input) ≡ Some (i, q) → (item_from input at ≡ Some (i, length input - length q)) × (q ≡ drop (length input - length q) input))
