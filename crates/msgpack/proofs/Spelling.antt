-- The numbers that are read are those that are spelt. Assumes nothing.
use Rattle.std.proofs.Common.{◌≡◌, ℕ, zero, suc, ◌+◌, ◌*◌, List, [], ◌∷◌, ◌++◌, length, Some, None, Option, refl, ap}
use Rattle.msgpack.specs.Formats.{number_from, Spelt}
use Rattle.msgpack.specs.Items.{be}

-- what is read, if anything is, has the property P
pub data Post {A : Type 0} (P : A → List ℕ → Type 0) : Option (A × List ℕ) → Type 0 where
  no : Post P None
  hit : {a : A} {q : List ℕ} → P a q → Post P (Some (a, q))

pub post_map : {A : Type 0} {P Q : A → List ℕ → Type 0} {o : Option (A × List ℕ)} → Post P o → ((a : A) (q : List ℕ) → P a q → Q a q) → Post Q o
post_map no k = no
post_map (hit {a} {q} h) k = hit (k a q h)

-- k bytes at the start of p spell n behind the number v
record From (v k n : ℕ) (p q : List ℕ) : Type 0 where
  bytes : List ℕ
  many : length bytes ≡ k
  before : p ≡ bytes ++ q
  value : n ≡ number_from v bytes

be_post : (k v : ℕ) (p : List ℕ) → Post (λ n q. From v k n p q) (be k v p)
be_post zero v p = hit (record { bytes = []; many = refl; before = refl; value = refl })
be_post (suc k) v [] = no
be_post (suc k) v (b ∷ p) =
    post_map (be_post k (v * 256 + b) p) (λ n q s. record { bytes = b ∷ s.bytes; many = ap suc s.many; before = ap (λ l. b ∷ l) s.before; value = s.value })

pub spelt_post : (k : ℕ) (p : List ℕ) → Post (λ n q. Spelt k n p q) (be k 0 p)
spelt_post k p = post_map (be_post k 0 p) (λ n q s. record { bytes = s.bytes; many = s.many; before = s.before; value = s.value })

be_all : (l : List ℕ) (v : ℕ) (q : List ℕ) → be (length l) v (l ++ q) ≡ Some (number_from v l, q)
be_all [] v q = refl
be_all (b ∷ l) v q = be_all l (v * 256 + b) q

pub spelt_is : {k n : ℕ} {p q : List ℕ} → Spelt k n p q → be k 0 p ≡ Some (n, q)
spelt_is {k} {n} {p} {q} s = cc (be_all s.bytes 0 q)
