-- How a refusal is printed. Assumes nothing.
use Rattle.std.specs.Prelude.{ℕ, List, ◌++◌, codes, decimal}
use Rattle.refusal.specs.Numbers.{kind_number, layer_number}
use Rattle.refusal.specs.declared.Refusal.{Refusal}

-- its numbers, with a space between two
abbrev pub refusal_text : Refusal → List ℕ
refusal_text e = decimal (kind_number e.kind) ++ codes " " ++ decimal (layer_number e.layer) ++ codes " " ++ decimal e.place
