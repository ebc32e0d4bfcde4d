-- Records of pools, read from maps. Assumes nothing.
use Rattle.std.specs.Prelude.{ℕ, List, length}
use Rattle.refusal.specs.Runs.{◌>>=◌, give, repeat}
use Rattle.refusal.specs.declared.Layer.{Layer}
use Rattle.span.specs.Blank.{range_of}
use Rattle.span.specs.declared.types.Range.{Range}
use Rattle.decode.specs.Items.{item_of, is_array, is_map}
use Rattle.decode.specs.Reader.{Room, Read, Part, reserve_in, write_in, placed}

-- A record is taken before its header is read, and written when all its fields are. They are put into a draft, which
-- becomes the record, or is refused at its header's place.
abbrev pub record_in : {T D : Type 0} → List ℕ → Room → Layer → Part T → (D → Read D) → D → (ℕ → D → Read T) → Unit {0} → Read (Unit {0})
record_in input room layer part field first finish u s =
    (reserve_in part layer room >>= λ index.
    placed (item_of is_map input layer) >>= λ n.
    repeat field n first >>= λ d.
    finish s.at d >>= λ x.
    write_in part index x) s

-- an array of them, as a range of the pool
abbrev pub records_in : {T : Type 0} → List ℕ → Layer → Part T → (Unit {0} → Read (Unit {0})) → Read Range
records_in input layer part one s =
    (placed (item_of is_array input layer) >>= λ n.
    repeat one n tt >>= λ u.
    give (range_of (length (part.of s.pools)) n)) s
