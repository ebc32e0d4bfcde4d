-- What is read stands there. Assumes nothing.
use Rattle.std.proofs.Common.{◌≡◌, ℕ, ◌+◌, ◌-◌, ◌≤◌, Bool as Truth, true, false, cond, eqb, ltb, List, [], ◌∷◌, Some, None, Option, sym, refl, subst, subst₂, arith, ltb-false, ltb-true, eqb-true}
use Rattle.std.proofs.lemmas.Option.{some_pair_parts}
use Rattle.std.specs.Option.{option_map}
use Rattle.msgpack.specs.declared.Item.{Item}
use Rattle.msgpack.specs.declared.Item.TheVariants.{Unsigned, Signed, Float, Double, Str, Bin, Array, Map, Ext}
use Rattle.msgpack.specs.Formats.{Head, Spelt, twos, positive_fixint, fixmap, fixarray, fixstr, nil, false_format, true_format, bin8, bin16, bin32, ext8, ext16, ext32, float32, float64, uint8, uint16, uint32, uint64, int8, int16, int32, int64, fixext1, fixext2, fixext4, fixext8, fixext16, str8, str16, str32, array16, array32, map16, map32, negative_fixint}
use Rattle.msgpack.specs.Items.{be, told, typed, and_then, fixed_mark, bin_mark, ext_mark, float_mark, uint_mark, int_mark, fixext_mark, str_mark, count_mark, item_mark, item_at}
use Rattle.msgpack.proofs.Spelling.{Post, no, hit, spelt_post}

mapped_post : {A B : Type 0} {P : A → List ℕ → Type 0} {Q : B → List ℕ → Type 0} {o : Option (A × List ℕ)} (f : A → B) → Post P o → ((a : A) (q : List ℕ) → P a q → Q (f a) q) → Post Q (option_map (λ s. (f s.0, s.1)) o)
mapped_post f no k = no
mapped_post f (hit {a} {q} h) k = hit (k a q h)

then_post : {A B : Type 0} {P : A → List ℕ → Type 0} {Q : B → List ℕ → Type 0} {o : Option (A × List ℕ)} {f : A → List ℕ → Option (B × List ℕ)} → Post P o → ((a : A) (q : List ℕ) → P a q → Post Q (f a q)) → Post Q (and_then o f)
then_post no k = no
then_post (hit {a} {q} h) k = k a q h

cond_post : {A : Type 0} {Q : A → List ℕ → Type 0} {o o' : Option (A × List ℕ)} (b : Truth) → (b ≡ true → Post Q o) → (b ≡ false → Post Q o') → Post Q (cond b o o')
cond_post true h k = h refl
cond_post false h k = k refl

-- what stands behind a marker m
abbrev BehindMarker : ℕ → List ℕ → Option (Item × List ℕ) → Type 0
BehindMarker m p o = Post (λ i q. Head i (m ∷ p) q) o

-- behind the marker k, if it is that
test : {o o' : Option (Item × List ℕ)} {m : ℕ} {p : List ℕ} (k : ℕ) → BehindMarker k p o → BehindMarker m p o' → BehindMarker m p (cond (eqb m k) o o')
test {o} {o'} {m} {p} k h h' = cond_post (eqb m k) (λ e. subst (λ j. Post (λ i q. Head i (j ∷ p) q) o) (sym (eqb-true m k e)) h) (λ _. h')

end : {m : ℕ} {p : List ℕ} → BehindMarker m p None
end = no

told_post : {m : ℕ} {p : List ℕ} (k : ℕ) (item : ℕ → Item) → ((n : ℕ) (q : List ℕ) → Spelt k n p q → Head (item n) (m ∷ p) q) → BehindMarker m p (told k item p)
told_post {m} {p} k item f = mapped_post item (spelt_post k p) f

typed_post : {m : ℕ} (n : ℕ) (p : List ℕ) → ((t : ℕ) (q : List ℕ) → Head (Ext n) (m ∷ t ∷ q) q) → BehindMarker m p (typed n p)
typed_post n [] f = no
typed_post n (t ∷ q) f = hit (f t q)

ext_post : {m : ℕ} {p : List ℕ} (k : ℕ) → ((n t : ℕ) (q : List ℕ) → Spelt k n p (t ∷ q) → Head (Ext n) (m ∷ p) q) → BehindMarker m p (and_then (be k 0 p) typed)
ext_post {m} {p} k f = then_post (spelt_post k p) go
  where
    go : (n : ℕ) (q : List ℕ) → Spelt k n p q → Post (λ i q. Head i (m ∷ p) q) (typed n q)
    go n [] s = no
    go n (t ∷ q) s = hit (f n t q s)

module _ (m : ℕ) (p : List ℕ) where
  fixed_post : BehindMarker m p (fixed_mark m p)
  fixed_post = test 0xc0 (hit nil) (test 0xc2 (hit false_format) (test 0xc3 (hit true_format) end))

  bin_post : BehindMarker m p (bin_mark m p)
  bin_post = test 0xc4 (told_post 1 Bin (λ n q. bin8)) (test 0xc5 (told_post 2 Bin (λ n q. bin16)) (test 0xc6 (told_post 4 Bin (λ n q. bin32)) end))

  exts_post : BehindMarker m p (ext_mark m p)
  exts_post = test 0xc7 (ext_post 1 (λ n t q. ext8)) (test 0xc8 (ext_post 2 (λ n t q. ext16)) (test 0xc9 (ext_post 4 (λ n t q. ext32)) end))

  float_post : BehindMarker m p (float_mark m p)
  float_post = test 0xca (told_post 4 Float (λ n q. float32)) (test 0xcb (told_post 8 Double (λ n q. float64)) end)

  uint_post : BehindMarker m p (uint_mark m p)
  uint_post =
      test 0xcc (told_post 1 Unsigned (λ n q. uint8)) (test 0xcd (told_post 2 Unsigned (λ n q. uint16)) (
      test 0xce (told_post 4 Unsigned (λ n q. uint32)) (test 0xcf (told_post 8 Unsigned (λ n q. uint64)) end)))

  int_post : BehindMarker m p (int_mark m p)
  int_post =
      test 0xd0 (told_post 1 (λ n. Signed (twos 1 n)) (λ n q. int8)) (test 0xd1 (told_post 2 (λ n. Signed (twos 2 n)) (λ n q. int16)) (
      test 0xd2 (told_post 4 (λ n. Signed (twos 4 n)) (λ n q. int32)) (test 0xd3 (told_post 8 (λ n. Signed (twos 8 n)) (λ n q. int64)) end)))

  fixext_post : BehindMarker m p (fixext_mark m p)
  fixext_post =
      test 0xd4 (typed_post 1 p (λ t q. fixext1)) (test 0xd5 (typed_post 2 p (λ t q. fixext2)) (test 0xd6 (typed_post 4 p (λ t q. fixext4)) (
      test 0xd7 (typed_post 8 p (λ t q. fixext8)) (test 0xd8 (typed_post 16 p (λ t q. fixext16)) end))))

  str_post : BehindMarker m p (str_mark m p)
  str_post = test 0xd9 (told_post 1 Str (λ n q. str8)) (test 0xda (told_post 2 Str (λ n q. str16)) (test 0xdb (told_post 4 Str (λ n q. str32)) end))

  count_post : BehindMarker m p (count_mark m p)
  count_post =
      test 0xdc (told_post 2 Array (λ n q. array16)) (test 0xdd (told_post 4 Array (λ n q. array32)) (
      test 0xde (told_post 2 Map (λ n q. map16)) (test 0xdf (told_post 4 Map (λ n q. map32)) end)))

  up : (lo : ℕ) → lo ≤ m → lo + (m - lo) ≡ m
  up lo h = omega arith

  mark_post : BehindMarker m p (item_mark m p)
  mark_post =
      cond_post (ltb m 0x80) (λ e. hit (positive_fixint (ltb-true _ _ e))) (λ e₁.
      cond_post (ltb m 0x90) (λ e. hit (rw (up 0x80 (omega (arith, ltb-false))) at (fixmap {n = m - 0x80} {q = p} (omega (arith, ltb-true, ltb-false))))) (λ e₂.
      cond_post (ltb m 0xa0) (λ e. hit (rw (up 0x90 (omega (arith, ltb-false))) at (fixarray {n = m - 0x90} {q = p} (omega (arith, ltb-true, ltb-false))))) (λ e₃.
      cond_post (ltb m 0xc0) (λ e. hit (rw (up 0xa0 (omega (arith, ltb-false))) at (fixstr {n = m - 0xa0} {q = p} (omega (arith, ltb-true, ltb-false))))) (λ e₄.
      cond_post (ltb m 0xc4) (λ e. fixed_post) (λ e₅.
      cond_post (ltb m 0xc7) (λ e. bin_post) (λ e₆.
      cond_post (ltb m 0xca) (λ e. exts_post) (λ e₇.
      cond_post (ltb m 0xcc) (λ e. float_post) (λ e₈.
      cond_post (ltb m 0xd0) (λ e. uint_post) (λ e₉.
      cond_post (ltb m 0xd4) (λ e. int_post) (λ e₁₀.
      cond_post (ltb m 0xd9) (λ e. fixext_post) (λ e₁₁.
      cond_post (ltb m 0xdc) (λ e. str_post) (λ e₁₂.
      cond_post (ltb m 0xe0) (λ e. count_post) (λ e₁₃.
      cond_post (ltb m 0x100) (λ e. hit (rw (up 0xe0 (omega (arith, ltb-false))) at (negative_fixint {n = m - 0xe0} {q = p} (omega (arith, ltb-true, ltb-false)))))
      (λ e₁₄. no))))))))))))))

item_post : (p : List ℕ) → Post (λ i q. Head i p q) (item_at p)
item_post [] = no
item_post (m ∷ p) = mark_post m p

from_post : {A : Type 0} {P : A → List ℕ → Type 0} {o : Option (A × List ℕ)} {a : A} {q : List ℕ} → Post P o → o ≡ Some (a, q) → P a q
from_post no e = cc
from_post {P = P} (hit {a} {q} h) e = let s = some_pair_parts a _ q _ e in subst₂ P s.0 s.1 h

pub sound : {i : Item} {q : List ℕ} (p : List ℕ) → item_at p ≡ Some (i, q) → Head i p q
sound p e = from_post (item_post p) e
