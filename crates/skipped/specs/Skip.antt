-- A value that is stepped over. Assumes nothing.
use Rattle.std.specs.Prelude.{ℕ, zero, suc, ◌+◌, ◌*◌, Bool, true, false, ◌&&◌, List, [], ◌∷◌, ◌++◌, Some, None, Ok, Option}
use Rattle.msgpack.specs.declared.Item.{Item}
use Rattle.msgpack.specs.declared.Item.TheVariants as i
use Rattle.msgpack.specs.Items.{item_from}
use Rattle.utf8.specs.Machine.{well_formed}
use Rattle.refusal.specs.Runs.{ReadOn, then, give, refuse, pick, repeat}
use Rattle.refusal.specs.declared.Kind.TheVariants.{InvalidFormat, TooDeep, TextsFull}
use Rattle.refusal.specs.declared.Layer.TheVariants.{Skipped}
use Rattle.span.specs.declared.types.Place.{Place}
use Rattle.span.specs.Held.{fits}
use Rattle.decode.specs.Binary.{part, enough}
use Rattle.decode.specs.Texts.{Strings}

abbrev pub moved : ℕ → Strings → Strings
moved n s = record s { at = n }

-- n bytes of the value that begins at start
abbrev pub body : List ℕ → ℕ → ℕ → ReadOn Strings (Unit {0})
body input start n s = pick (enough input s.at n) (λ s. (Ok tt, moved (s.at + n) s)) (refuse InvalidFormat Skipped start) s

-- Noting: whether the strings take their numbers. The value begins at start, and there its faults are.
module _ (input : List ℕ) (most : ℕ) (noting : Bool) (start : ℕ) where
  -- the text takes the next number; the string begins at the place at
  abbrev pub note : ℕ → Place → ReadOn Strings (Unit {0})
  note at t s = pick (fits most s.texts) (λ s. (Ok tt, record s { texts = s.texts ++ t ∷ [] })) (refuse TextsFull Skipped at) s

  -- what the string that began at the place at, with n bytes from the offset on, adds to the texts
  abbrev pub note_if : ℕ → ℕ → ℕ → ReadOn Strings (Unit {0})
  note_if at offset n = pick (noting && well_formed (part input offset n)) (note at (record { offset = offset; length = n })) (give tt)

  abbrev pub skip_string : ℕ → ℕ → ReadOn Strings (Unit {0})
  skip_string at n s = then (body input start n s) (λ _. note_if at s.at n)

  -- what follows an item's head, where members are read by below; the head began at the place at
  abbrev pub skip_of : (Unit {0} → ReadOn Strings (Unit {0})) → ℕ → Item → ReadOn Strings (Unit {0})
  skip_of below at (i.Str n) = skip_string at n
  skip_of below at (i.Bin n) = body input start n
  skip_of below at (i.Ext n) = body input start n
  skip_of below at (i.Array n) = repeat below n tt
  skip_of below at (i.Map n) = repeat below (2 * n) tt
  skip_of below at _ = give tt

  abbrev pub headed : (Unit {0} → ReadOn Strings (Unit {0})) → Option (Item × ℕ) → ReadOn Strings (Unit {0})
  headed below None s = refuse InvalidFormat Skipped start s
  headed below (Some (x, end)) s = skip_of below s.at x (moved end s)

  abbrev pub level : (Unit {0} → ReadOn Strings (Unit {0})) → ReadOn Strings (Unit {0})
  level below s = headed below (item_from input s.at) s

  -- A value with at most so many levels. Not an `abbrev`: at a numeral that would unfold level by level.
  unfoldable pub skip : ℕ → Unit {0} → ReadOn Strings (Unit {0})
  skip zero u = refuse TooDeep Skipped start
  skip (suc d) u = level (skip d)

-- read whole first; then its strings take their numbers
abbrev pub skipped : List ℕ → ℕ → ReadOn Strings (Unit {0})
skipped input most s = then (skip input most false s.at 64 tt s) (λ _ t. skip input most true s.at 64 tt (moved s.at t))
