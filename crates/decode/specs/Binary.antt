-- Binaries. Assumes nothing.
use Rattle.std.specs.Prelude.{ℕ, ◌+◌, ◌-◌, Bool, List, length, take, drop, Some, None, Ok, Err, Option, ◌==◌, nat_le, if◌then◌else◌}
use Rattle.refusal.specs.Runs.{RanOn, ReadOn, refuse, pick}
use Rattle.refusal.specs.declared.Kind.TheVariants.{InvalidFormat}
use Rattle.refusal.specs.declared.Layer.{Layer}
use Rattle.span.specs.declared.types.Place.{Place}
use Rattle.decode.specs.Items.{item_of, is_bin}

-- n bytes from the offset on
abbrev pub part : List ℕ → ℕ → ℕ → List ℕ
part input offset n = take n (drop offset input)

-- whether n bytes are left from the offset on
abbrev pub enough : List ℕ → ℕ → ℕ → Bool
enough input offset n = nat_le n (length input - offset)

-- n bytes from the offset on, if so many are left; and the offset behind them
abbrev pub slice_at : List ℕ → ℕ → ℕ → Option (List ℕ)
slice_at input offset n = if enough input offset n then Some (part input offset n) else None

abbrev pub advanced : List ℕ → ℕ → ℕ → ℕ
advanced input offset n = if enough input offset n then offset + n else offset

abbrev pub bin_of : List ℕ → Layer → ℕ → RanOn ℕ ℕ → RanOn ℕ Place
bin_of input l at (Ok n, offset) = pick (enough input offset n) (λ _. (Ok (record { offset = offset; length = n }), offset + n)) (λ _. refuse InvalidFormat l at at) at
bin_of input l at (Err e, offset) = (Err e, offset)

abbrev pub bin_at : List ℕ → Layer → ReadOn ℕ Place
bin_at input l at = bin_of input l at (item_of is_bin input l at)

abbrev pub trace_id_of : List ℕ → Layer → ℕ → RanOn ℕ ℕ → RanOn ℕ (List ℕ)
trace_id_of input l at (Ok n, offset) =
    pick (n == 16) (pick (enough input offset 16) (λ _. (Ok (part input offset 16), offset + 16)) (λ _. refuse InvalidFormat l at at)) (λ _. refuse InvalidFormat l at at) at
trace_id_of input l at (Err e, offset) = (Err e, offset)

-- a binary of 16 bytes
abbrev pub trace_id_at : List ℕ → Layer → ReadOn ℕ (List ℕ)
trace_id_at input l at = trace_id_of input l at (item_of is_bin input l at)
