-- Well-formed UTF-8 byte sequences, as the rows of Table 3-7 of the Unicode standard. Assumes nothing.
use Rattle.std.specs.Prelude.{◌≡◌, ℕ, true, List, [], ◌∷◌, IsUtf8}
use Rattle.std.specs.Int.{IsInRange}
use Rattle.utf8.specs.Machine.{well_formed}

pub data Formed : List ℕ → Type 0 where
  end : Formed []
  ascii : {a : ℕ} {bs : List ℕ} → IsInRange 0x00 0x7f a → Formed bs → Formed (a ∷ bs)
  two : {a b : ℕ} {bs : List ℕ} → IsInRange 0xc2 0xdf a → IsInRange 0x80 0xbf b → Formed bs → Formed (a ∷ b ∷ bs)
  three_e0 : {a b c : ℕ} {bs : List ℕ} → IsInRange 0xe0 0xe0 a → IsInRange 0xa0 0xbf b → IsInRange 0x80 0xbf c → Formed bs → Formed (a ∷ b ∷ c ∷ bs)
  three_low : {a b c : ℕ} {bs : List ℕ} → IsInRange 0xe1 0xec a → IsInRange 0x80 0xbf b → IsInRange 0x80 0xbf c → Formed bs → Formed (a ∷ b ∷ c ∷ bs)
  three_ed : {a b c : ℕ} {bs : List ℕ} → IsInRange 0xed 0xed a → IsInRange 0x80 0x9f b → IsInRange 0x80 0xbf c → Formed bs → Formed (a ∷ b ∷ c ∷ bs)
  three_high : {a b c : ℕ} {bs : List ℕ} → IsInRange 0xee 0xef a → IsInRange 0x80 0xbf b → IsInRange 0x80 0xbf c → Formed bs → Formed (a ∷ b ∷ c ∷ bs)
  four_f0 : {a b c d : ℕ} {bs : List ℕ} → IsInRange 0xf0 0xf0 a → IsInRange 0x90 0xbf b → IsInRange 0x80 0xbf c → IsInRange 0x80 0xbf d → Formed bs → Formed (a ∷ b ∷ c ∷ d ∷ bs)
  four_mid : {a b c d : ℕ} {bs : List ℕ} → IsInRange 0xf1 0xf3 a → IsInRange 0x80 0xbf b → IsInRange 0x80 0xbf c → IsInRange 0x80 0xbf d → Formed bs → Formed (a ∷ b ∷ c ∷ d ∷ bs)
  four_f4 : {a b c d : ℕ} {bs : List ℕ} → IsInRange 0xf4 0xf4 a → IsInRange 0x80 0x8f b → IsInRange 0x80 0xbf c → IsInRange 0x80 0xbf d → Formed bs → Formed (a ∷ b ∷ c ∷ d ∷ bs)

-- the fold accepts the concatenations of the table's sequences, and no other list
abbrev pub AcceptsTable : Type 0
AcceptsTable = (bs : List ℕ) → (well_formed bs ≡ true → Formed bs) × (Formed bs → well_formed bs ≡ true)

-- and those are the texts
abbrev pub AcceptsText : Type 0
AcceptsText = (bs : List ℕ) → (well_formed bs ≡ true → IsUtf8 bs) × (IsUtf8 bs → well_formed bs ≡ true)
