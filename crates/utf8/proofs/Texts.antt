-- Table 3-7 and the encoding of characters. Assumes nothing.
use Rattle.std.proofs.Common.{◌≡◌, ℕ, ◌+◌, ◌-◌, ◌*◌, ◌/◌, ◌<◌, ◌≤◌, true, ◌⊎◌, List, [], ◌∷◌, ◌++◌, IsUtf8, Decides, sym, subst, inl, inr, ⊎_elim, arith}
use lib.Utf8.{next, encode, encodes, scalar, scalars, scalar_cases}
use Rattle.std.specs.Int.{IsInRange}
use Rattle.std.proofs.lemmas.Str.{IsUtf8-append, IsUtf8-nil}
use Rattle.std.proofs.str.Laws.{order, one, two, three, four, both}
use Rattle.std.proofs.str.Valid.{of_one, of_two, of_three, of_four}
use Rattle.utf8.specs.Machine.{well_formed}
use Rattle.utf8.proofs.Tables.{to_fold, from_fold}
use Rattle.utf8.specs.Table as t
use Rattle.utf8.specs.Table.{Formed}

-- a sequence of three or four bytes in front of a text
by_three : (a b c : ℕ) (bs : List ℕ) → IsInRange 0xe0 0xef a → IsInRange 0x80 0xbf b → IsInRange 0x80 0xbf c → 2048 ≤ (a - 224) * 4096 + (b - 128) * 64 + (c - 128) → ((a - 224) * 4096 + (b - 128) * 64 + (c - 128) < 55296) ⊎ (57344 ≤ (a - 224) * 4096 + (b - 128) * 64 + (c - 128)) → IsUtf8 bs → IsUtf8 (a ∷ b ∷ c ∷ bs)
by_three a b c bs h i j low u = IsUtf8-append (a ∷ b ∷ c ∷ []) bs (of_three (a ∷ b ∷ c ∷ []) 0 (omega arith) (omega arith, omega arith) (omega arith, omega arith) (omega arith, omega arith) low u)

by_four : (a b c d : ℕ) (bs : List ℕ) → 0xf0 ≤ a → IsInRange 0x80 0xbf b → IsInRange 0x80 0xbf c → IsInRange 0x80 0xbf d → 16 ≤ (a - 240) * 64 + (b - 128) → (a - 240) * 64 + (b - 128) < 272 → IsUtf8 bs → IsUtf8 (a ∷ b ∷ c ∷ d ∷ bs)
by_four a b c d bs h i j k low high = IsUtf8-append (a ∷ b ∷ c ∷ d ∷ []) bs (of_four (a ∷ b ∷ c ∷ d ∷ []) 0 (omega arith) (omega arith) (omega arith, omega arith) (omega arith, omega arith) (omega arith, omega arith) (low, high))

-- from the table to the characters
pub to_text : {bs : List ℕ} → Formed bs → IsUtf8 bs
to_text t.end = IsUtf8-nil
to_text (t.ascii {a} {bs} h f) = IsUtf8-append (a ∷ []) bs (of_one (a ∷ []) 0 (omega arith) (omega arith)) (to_text f)
to_text (t.two {a} {b} {bs} h i f) = IsUtf8-append (a ∷ b ∷ []) bs (of_two (a ∷ b ∷ []) 0 (omega arith) (omega arith, omega arith) (omega arith, omega arith)) (to_text f)
to_text (t.three_e0 {a} {b} {c} {bs} h i j f) = by_three a b c bs (omega arith, omega arith) (omega arith, omega arith) j (omega arith) (inl (omega arith)) (to_text f)
to_text (t.three_low {a} {b} {c} {bs} h i j f) = by_three a b c bs (omega arith, omega arith) (omega arith, omega arith) j (omega arith) (inl (omega arith)) (to_text f)
to_text (t.three_ed {a} {b} {c} {bs} h i j f) = by_three a b c bs (omega arith, omega arith) (omega arith, omega arith) j (omega arith) (inl (omega arith)) (to_text f)
to_text (t.three_high {a} {b} {c} {bs} h i j f) = by_three a b c bs (omega arith, omega arith) (omega arith, omega arith) j (omega arith) (inr (omega arith)) (to_text f)
to_text (t.four_f0 {a} {b} {c} {d} {bs} h i j k f) = by_four a b c d bs (omega arith) (omega arith, omega arith) j k (omega arith) (omega arith) (to_text f)
to_text (t.four_mid {a} {b} {c} {d} {bs} h i j k f) = by_four a b c d bs (omega arith) (omega arith, omega arith) j k (omega arith) (omega arith) (to_text f)
to_text (t.four_f4 {a} {b} {c} {d} {bs} h i j k f) = by_four a b c d bs (omega arith) (omega arith, omega arith) j k (omega arith) (omega arith) (to_text f)

-- the bytes of a character are a row of the table
row_three : (c : ℕ) (bs : List ℕ) → 2048 ≤ c → c < 65536 → (c < 55296) ⊎ ((57344 ≤ c) × (c < 1114112)) → Formed bs → Formed ((224 + c / 4096) ∷ next (c / 64) ∷ next c ∷ bs)
row_three c bs g l (inl s) f =
    ⊎_elim (λ h. t.three_e0 (omega arith, omega arith) (omega arith, omega arith) (omega arith, omega arith) f)
    (λ g₂. ⊎_elim (λ h. t.three_low (omega arith, omega arith) (omega arith, omega arith) (omega arith, omega arith) f)
    (λ g₃. t.three_ed (omega arith, omega arith) (omega arith, omega arith) (omega arith, omega arith) f)
    (order c 53248)) (order c 4096)
row_three c bs g l (inr s) f = t.three_high (omega arith, omega arith) (omega arith, omega arith) (omega arith, omega arith) f

row_four : (c : ℕ) (bs : List ℕ) → 65536 ≤ c → c < 1114112 → Formed bs → Formed ((240 + c / 262144) ∷ next (c / 4096) ∷ next (c / 64) ∷ next c ∷ bs)
row_four c bs g l f =
    ⊎_elim (λ h. t.four_f0 (omega arith, omega arith) (omega arith, omega arith) (omega arith, omega arith) (omega arith, omega arith) f)
    (λ g₂. ⊎_elim (λ h. t.four_mid (omega arith, omega arith) (omega arith, omega arith) (omega arith, omega arith) (omega arith, omega arith) f)
    (λ g₃. t.four_f4 (omega arith, omega arith) (omega arith, omega arith) (omega arith, omega arith) (omega arith, omega arith) f)
    (order c 1048576)) (order c 262144)

row : (c : ℕ) (bs : List ℕ) → scalar c ≡ true → Formed bs → Formed (encode c ++ bs)
row c bs s f =
    let P : List ℕ → Type 0 = λ e. Formed (e ++ bs) in
    let k = scalar_cases c s in
    ⊎_elim (λ l. subst P (sym (one c l)) (t.ascii (omega arith, omega arith) f))
    (λ g. ⊎_elim (λ l. subst P (sym (two c g l)) (t.two (omega arith, omega arith) (omega arith, omega arith) f))
    (λ g₂. ⊎_elim (λ l. subst P (sym (three c g₂ l)) (row_three c bs g₂ l k f))
    (λ g₃. subst P (sym (four c g₃)) (row_four c bs g₃ (omega arith) f))
    (order c 65536)) (order c 2048)) (order c 128)

from_chars : (cs : List ℕ) → scalars cs ≡ true → Formed (encodes cs)
from_chars [] s = t.end
from_chars (c ∷ cs) s = let p = both (scalar c) (scalars cs) s in row c (encodes cs) p.0 (from_chars cs p.1)

pub from_text : (bs : List ℕ) → IsUtf8 bs → Formed bs
from_text bs u = subst Formed u.1.1 (from_chars u.0 u.1.0)

pub accepts_text : (bs : List ℕ) → Decides (well_formed bs) (IsUtf8 bs)
accepts_text bs = (λ e. to_text (from_fold bs e), λ u. to_fold (from_text bs u))
