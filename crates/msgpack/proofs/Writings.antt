-- The bytes of a head: there is a marker, and what follows them is no matter to them. Assumes nothing.
use Rattle.std.proofs.Common.{◌≡◌, ℕ, ◌+◌, ◌<◌, List, [], ◌∷◌, ◌++◌, length, Some, None, Option, sym, refl, ap, subst, ◌∙◌, append_assoc, arith, length-append}
use Rattle.msgpack.specs.declared.Item.{Item}
use Rattle.msgpack.specs.Formats.{Head, Spelt, positive_fixint, fixmap, fixarray, fixstr, nil, false_format, true_format, bin8, bin16, bin32, ext8, ext16, ext32, float32, float64, uint8, uint16, uint32, uint64, int8, int16, int32, int64, fixext1, fixext2, fixext4, fixext8, fixext16, str8, str16, str32, array16, array32, map16, map32, negative_fixint}
use Rattle.std.specs.Prelude.{IfSome}
use Rattle.std.specs.Borrow.{Bor}
use Rattle.std.specs.Option.{option_map}
use Rattle.msgpack.specs.Items.{front, item_at}
use Rattle.std.proofs.lemmas.Option.{some_pair_parts}
use Rattle.msgpack.proofs.Complete.{complete}
use Rattle.msgpack.proofs.Sound.{sound}

pub record Writing (i : Item) (p q : List ℕ) : Type 0 where
  pub marker : ℕ
  pub others : List ℕ
  pub before : p ≡ (marker ∷ others) ++ q
  pub anywhere : (r : List ℕ) → Head i ((marker ∷ others) ++ r) r

one : {i : Item} (m : ℕ) (q : List ℕ) → ((r : List ℕ) → Head i (m ∷ r) r) → Writing i (m ∷ q) q
one m q f = record { marker = m; others = []; before = refl; anywhere = f }

two : {i : Item} (m t : ℕ) (q : List ℕ) → ((r : List ℕ) → Head i (m ∷ t ∷ r) r) → Writing i (m ∷ t ∷ q) q
two m t q f = record { marker = m; others = t ∷ []; before = refl; anywhere = f }

spelt : {i : Item} {k n : ℕ} {p q : List ℕ} (m : ℕ) → Spelt k n p q → ((p r : List ℕ) → Spelt k n p r → Head i (m ∷ p) r) → Writing i (m ∷ p) q
spelt {i} {k} {n} {p} {q} m s f = record {
  marker = m;
  others = s.bytes;
  before = ap (λ l. m ∷ l) s.before;
  anywhere = λ r. f (s.bytes ++ r) r (record { bytes = s.bytes; many = s.many; before = refl; value = s.value });
}

-- the same, with a type behind the number
spelt_type : {i : Item} {k n t : ℕ} {p q : List ℕ} (m : ℕ) → Spelt k n p (t ∷ q) → ((p r : List ℕ) → Spelt k n p (t ∷ r) → Head i (m ∷ p) r) → Writing i (m ∷ p) q
spelt_type {i} {k} {n} {t} {p} {q} m s f = record {
  marker = m;
  others = s.bytes ++ t ∷ [];
  before = ap (λ l. m ∷ l) (s.before ∙ sym (append_assoc s.bytes (t ∷ []) q));
  anywhere = λ r. f ((s.bytes ++ t ∷ []) ++ r) r (record { bytes = s.bytes; many = s.many; before = append_assoc s.bytes (t ∷ []) r; value = s.value });
}

pub writing : {i : Item} {p q : List ℕ} → Head i p q → Writing i p q
writing (positive_fixint {n} {q} h) = one n q (λ r. positive_fixint h)
writing (fixmap {n} {q} h) = one (0x80 + n) q (λ r. fixmap h)
writing (fixarray {n} {q} h) = one (0x90 + n) q (λ r. fixarray h)
writing (fixstr {n} {q} h) = one (0xa0 + n) q (λ r. fixstr h)
writing (nil {q}) = one 0xc0 q (λ r. nil)
writing (false_format {q}) = one 0xc2 q (λ r. false_format)
writing (true_format {q}) = one 0xc3 q (λ r. true_format)
writing (bin8 s) = spelt 0xc4 s (λ p r. bin8)
writing (bin16 s) = spelt 0xc5 s (λ p r. bin16)
writing (bin32 s) = spelt 0xc6 s (λ p r. bin32)
writing (ext8 s) = spelt_type 0xc7 s (λ p r. ext8)
writing (ext16 s) = spelt_type 0xc8 s (λ p r. ext16)
writing (ext32 s) = spelt_type 0xc9 s (λ p r. ext32)
writing (float32 s) = spelt 0xca s (λ p r. float32)
writing (float64 s) = spelt 0xcb s (λ p r. float64)
writing (uint8 s) = spelt 0xcc s (λ p r. uint8)
writing (uint16 s) = spelt 0xcd s (λ p r. uint16)
writing (uint32 s) = spelt 0xce s (λ p r. uint32)
writing (uint64 s) = spelt 0xcf s (λ p r. uint64)
writing (int8 s) = spelt 0xd0 s (λ p r. int8)
writing (int16 s) = spelt 0xd1 s (λ p r. int16)
writing (int32 s) = spelt 0xd2 s (λ p r. int32)
writing (int64 s) = spelt 0xd3 s (λ p r. int64)
writing (fixext1 {t} {q}) = two 0xd4 t q (λ r. fixext1)
writing (fixext2 {t} {q}) = two 0xd5 t q (λ r. fixext2)
writing (fixext4 {t} {q}) = two 0xd6 t q (λ r. fixext4)
writing (fixext8 {t} {q}) = two 0xd7 t q (λ r. fixext8)
writing (fixext16 {t} {q}) = two 0xd8 t q (λ r. fixext16)
writing (str8 s) = spelt 0xd9 s (λ p r. str8)
writing (str16 s) = spelt 0xda s (λ p r. str16)
writing (str32 s) = spelt 0xdb s (λ p r. str32)
writing (array16 s) = spelt 0xdc s (λ p r. array16)
writing (array32 s) = spelt 0xdd s (λ p r. array32)
writing (map16 s) = spelt 0xde s (λ p r. map16)
writing (map32 s) = spelt 0xdf s (λ p r. map32)
writing (negative_fixint {n} {q} h) = one (0xe0 + n) q (λ r. negative_fixint h)

-- a head stays one when bytes are added behind
pub extends : {i : Item} {p q : List ℕ} → Head i p q → (x : List ℕ) → Head i (p ++ x) (q ++ x)
extends {i} {p} {q} h x =
    let w = writing h in
    let l : List ℕ = w.marker ∷ w.others in
    subst (λ (b : List ℕ). Head i b (q ++ x)) (sym (ap (λ b. b ++ x) w.before ∙ append_assoc l q x)) (w.anywhere (q ++ x))

-- what follows a head is shorter than what begins with it
pub head-shorter : {i : Item} {p q : List ℕ} → Head i p q → length q < length p
head-shorter {i} {p} {q} h =
    let w = writing h in omega (arith, ap length w.before, length-append (w.marker ∷ w.others) q)

pub shorter : {i : Item} {q : List ℕ} (p : List ℕ) → item_at p ≡ Some (i, q) → length q < length p
shorter p e = head-shorter (sound p e)

-- bytes begin with one head, and of one item
pub unique : {i j : Item} {p q r : List ℕ} → Head i p q → Head j p r → (i ≡ j) × (q ≡ r)
unique {i} {j} {p} {q} {r} h k = some_pair_parts i j q r (sym (complete h) ∙ complete k)

-- `shorter` of what a reader answers
pub read_shorter : (r : Option (Item × Bor (List ℕ))) (p : List ℕ) → option_map front r ≡ item_at p → IfSome r (λ s. length s.1.now < length p)
read_shorter None p e = tt
read_shorter (Some s) p e = shorter p (sym e)
