-- Which elements have a key, and how many items they take. Assumes nothing.
use Rattle.std.specs.Prelude.{ℕ, Bool, true, false}
use Rattle.attributes.specs.declared.element.Element.{Element}
use Rattle.attributes.specs.declared.element.Element.TheVariants.{Entry, Member}

abbrev pub has_key : Element → Bool
has_key Entry = true
has_key Member = false

abbrev pub stride_of : Element → ℕ
stride_of Entry = 3
stride_of Member = 2
