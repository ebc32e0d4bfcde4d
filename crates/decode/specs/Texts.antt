-- Texts. Assumes nothing.
use Rattle.std.specs.Prelude.{ℕ, ◌+◌, Bool, ◌&&◌, ◌||◌, List, [], ◌∷◌, ◌++◌, length, Some, None, Ok, Option, nat_le, nat_lt, slice_index, if◌then◌else◌}
use Rattle.msgpack.specs.declared.Item.{Item}
use Rattle.msgpack.specs.declared.Item.TheVariants as i
use Rattle.msgpack.specs.Items.{item_from}
use Rattle.utf8.specs.Machine.{well_formed}
use Rattle.refusal.specs.Runs.{RanOn, ReadOn, then, refuse, pick}
use Rattle.refusal.specs.declared.Kind.TheVariants.{InvalidConversion, InvalidType, InvalidFormat, IOError, Utf8Error, TextsFull}
use Rattle.refusal.specs.declared.Layer.TheVariants.{Text}
use Rattle.span.specs.declared.types.Place.{Place}
use Rattle.span.specs.Held.{fits}
use Rattle.span.specs.State.{numbered}
use Rattle.decode.specs.Binary.{part, enough}

-- what the readers of texts change
pub record Strings : Type 0 where
  pub at : ℕ
  pub texts : List Place

-- what ran on the place alone
abbrev pub on_at : {A : Type 0} → RanOn ℕ A → Strings → RanOn Strings A
on_at (r, n) s = (r, record { at = n; texts = s.texts })

abbrev pub between : ℕ → ℕ → ℕ → Bool
between lo hi m = nat_le lo m && nat_le m hi

-- the first bytes of strings, and of integers from 0 up in their unsigned formats
abbrev pub is_string : ℕ → Bool
is_string m = between 0xa0 0xbf m || between 0xd9 0xdb m

abbrev pub is_number : ℕ → Bool
is_number m = nat_le m 0x7f || between 0xcc 0xcf m

module _ (input : List ℕ) where
  abbrev pub marker_at : ℕ → Option ℕ
  marker_at at = if nat_lt at (length input) then Some (slice_index input at) else None

  -- n bytes of text from the offset on, of a string whose first byte is at the present place
  abbrev pub contents : ℕ → ℕ → ReadOn ℕ Place
  contents offset n at =
      pick (enough input offset n)
      (pick (well_formed (part input offset n)) (λ _. (Ok (record { offset = offset; length = n }), offset + n)) (refuse Utf8Error Text at))
      (refuse IOError Text at)
      at

  abbrev pub length_of : Option (Item × ℕ) → ReadOn ℕ Place
  length_of (Some (i.Str n, end)) at = contents end n at
  length_of _ at = refuse InvalidConversion Text at at

  abbrev pub string_by : Option ℕ → ReadOn ℕ Place
  string_by None at = refuse InvalidFormat Text at at
  string_by (Some m) at = pick (is_string m) (length_of (item_from input at)) (refuse InvalidType Text at) at

  -- a string in full
  abbrev pub string_at : ReadOn ℕ Place
  string_at at = string_by (marker_at at) at

  -- the text takes the next number, of which there are at most `most`
  abbrev pub note : ℕ → ℕ → Place → ReadOn Strings Place
  note most at t s = pick (fits most s.texts) (λ s. (Ok t, record { at = s.at; texts = s.texts ++ t ∷ [] })) (refuse TextsFull Text at) s

  abbrev pub literal : ℕ → ReadOn Strings Place
  literal most s = (then) (on_at (string_at s.at) s) (note most s.at)

  abbrev pub found : Option Place → ℕ → ReadOn Strings Place
  found None end s = refuse InvalidFormat Text s.at s
  found (Some t) end s = (Ok t, record { at = end; texts = s.texts })

  abbrev pub number_of : Option (Item × ℕ) → ReadOn Strings Place
  number_of (Some (i.Unsigned n, end)) s = found (numbered n s.texts) end s
  number_of _ s = refuse InvalidFormat Text s.at s

  abbrev pub by_number : ReadOn Strings Place
  by_number s = number_of (item_from input s.at) s

  abbrev pub text_by : ℕ → Option ℕ → ReadOn Strings Place
  text_by most None s = refuse InvalidFormat Text s.at s
  text_by most (Some m) s = pick (is_string m) (literal most) (pick (is_number m) by_number (refuse InvalidFormat Text s.at)) s

  -- a literal, which takes the next number, or a number that is taken
  abbrev pub text_in : ℕ → ReadOn Strings Place
  text_in most s = text_by most (marker_at s.at) s
