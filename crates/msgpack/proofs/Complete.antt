-- What stands there is read. Assumes nothing.
use Rattle.std.proofs.Common.{◌≡◌, ℕ, List, ◌∷◌, Some, refl, ap, arith}
use Rattle.std.specs.Option.{option_map}
use Rattle.std.proofs.lemmas.Bool.Decides.{nat_tests}
use Rattle.msgpack.specs.declared.Item.{Item}
use Rattle.msgpack.specs.declared.Item.TheVariants.{Unsigned, Signed, Float, Double, Str, Bin, Array, Map, Ext}
use Rattle.msgpack.specs.Formats.{Head, Spelt, twos, positive_fixint, fixmap, fixarray, fixstr, nil, false_format, true_format, bin8, bin16, bin32, ext8, ext16, ext32, float32, float64, uint8, uint16, uint32, uint64, int8, int16, int32, int64, fixext1, fixext2, fixext4, fixext8, fixext16, str8, str16, str32, array16, array32, map16, map32, negative_fixint}
use Rattle.msgpack.specs.Items.{be, told, typed, and_then, item_at}
use Rattle.msgpack.proofs.Spelling.{spelt_is}

told_is : {k n : ℕ} {p q : List ℕ} (item : ℕ → Item) → Spelt k n p q → told k item p ≡ Some (item n, q)
told_is item s = ap (option_map (λ p. (item p.0, p.1))) (spelt_is s)

ext_is : {k n t : ℕ} {p q : List ℕ} → Spelt k n p (t ∷ q) → and_then (be k 0 p) typed ≡ Some (Ext n, q)
ext_is s = ap (λ o. and_then o typed) (spelt_is s)

pub complete : {i : Item} {p q : List ℕ} → Head i p q → item_at p ≡ Some (i, q)
complete (positive_fixint {n} {q} h) = grind (arith, nat_tests)
complete (fixmap {n} {q} h) = grind (arith, nat_tests)
complete (fixarray {n} {q} h) = grind (arith, nat_tests)
complete (fixstr {n} {q} h) = grind (arith, nat_tests)
complete nil = refl
complete false_format = refl
complete true_format = refl
complete (bin8 s) = told_is Bin s
complete (bin16 s) = told_is Bin s
complete (bin32 s) = told_is Bin s
complete (ext8 s) = ext_is s
complete (ext16 s) = ext_is s
complete (ext32 s) = ext_is s
complete (float32 s) = told_is Float s
complete (float64 s) = told_is Double s
complete (uint8 s) = told_is Unsigned s
complete (uint16 s) = told_is Unsigned s
complete (uint32 s) = told_is Unsigned s
complete (uint64 s) = told_is Unsigned s
complete (int8 s) = told_is (λ n. Signed (twos 1 n)) s
complete (int16 s) = told_is (λ n. Signed (twos 2 n)) s
complete (int32 s) = told_is (λ n. Signed (twos 4 n)) s
complete (int64 s) = told_is (λ n. Signed (twos 8 n)) s
complete fixext1 = refl
complete fixext2 = refl
complete fixext4 = refl
complete fixext8 = refl
complete fixext16 = refl
complete (str8 s) = told_is Str s
complete (str16 s) = told_is Str s
complete (str32 s) = told_is Str s
complete (array16 s) = told_is Array s
complete (array32 s) = told_is Array s
complete (map16 s) = told_is Map s
complete (map32 s) = told_is Map s
complete (negative_fixint {n} {q} h) = grind (arith, nat_tests)
