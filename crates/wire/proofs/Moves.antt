-- What follows a writing is no matter to it: the parts that relations are made of. Assumes nothing.
use Rattle.std.proofs.Common.{◌≡◌, ℕ, List, [], ◌∷◌, ◌++◌, sym, refl, ap, ◌∙◌, subst, append_assoc}
use Rattle.wire.specs.Standing.{Standing, at}
use Rattle.wire.specs.Form.{Form, Times, done, more}

-- The bytes p are some that P holds of, and q behind them; and P holds of those whatever stands behind them.
pub record Moved (P : List ℕ → List ℕ → Type 0) (p q : List ℕ) : Type 0 where
  pub written : List ℕ
  pub before : p ≡ written ++ q
  pub anywhere : (r : List ℕ) → P (written ++ r) r

-- the same, where they are not none
pub record Begun (P : List ℕ → List ℕ → Type 0) (p q : List ℕ) : Type 0 where
  pub first : ℕ
  pub others : List ℕ
  pub before : p ≡ (first ∷ others) ++ q
  pub anywhere : (r : List ℕ) → P ((first ∷ others) ++ r) r

pub record Moves {A : Type 0} (X : Form A) : Type 0 where
  pub moves : {a : A} {p q : Standing} → X a p q → Moved (λ l r. X a (at l p) (at r q)) p.bytes q.bytes

pub moved : {P : List ℕ → List ℕ → Type 0} {p q : List ℕ} → Begun P p q → Moved P p q
moved h = record { written = h.first ∷ h.others; before = h.before; anywhere = h.anywhere }

pub stayed : {P : List ℕ → List ℕ → Type 0} {p : List ℕ} → ((l : List ℕ) → P l l) → Moved P p p
stayed f = record { written = []; before = refl; anywhere = f }

pub mapped : {P R : List ℕ → List ℕ → Type 0} {p q : List ℕ} → Moved P p q → ((l r : List ℕ) → P l r → R l r) → Moved R p q
mapped h f = record { written = h.written; before = h.before; anywhere = λ r. f (h.written ++ r) r (h.anywhere r) }

pub joined : {P Q R : List ℕ → List ℕ → Type 0} {p m q : List ℕ} → Moved P p m → Moved Q m q → ((l s r : List ℕ) → P l s → Q s r → R l r) → Moved R p q
joined {R = R} {q = q} h k f = record {
  written = h.written ++ k.written;
  before = h.before ∙ ap (λ (s : List ℕ). h.written ++ s) k.before ∙ sym (append_assoc h.written k.written q);
  anywhere = λ r. subst (λ (l : List ℕ). R l r) (sym (append_assoc h.written k.written r)) (f (h.written ++ (k.written ++ r)) (k.written ++ r) r (h.anywhere (k.written ++ r)) (k.anywhere r));
}

pub joined-three : {P Q S R : List ℕ → List ℕ → Type 0} {p m o q : List ℕ} → Moved P p m → Moved Q m o → Moved S o q → ((l s u r : List ℕ) → P l s → Q s u → S u r → R l r) → Moved R p q
joined-three {Q = Q} {S = S} h k t f =
    let b : Moved (λ s r. (u : List ℕ) × Q s u × S u r) _ _ = joined k t (λ s u r b c. (u, b, c)) in
    joined h b (λ l s r a b. f l s b.0 r a b.1 b.2)

pub joined-begun : {P Q R : List ℕ → List ℕ → Type 0} {p m q : List ℕ} → Begun P p m → Moved Q m q → ((l s r : List ℕ) → P l s → Q s r → R l r) → Begun R p q
joined-begun {R = R} {q = q} h k f =
    let w : List ℕ = h.first ∷ h.others in
    record {
      first = h.first;
      others = h.others ++ k.written;
      before = h.before ∙ ap (λ (s : List ℕ). w ++ s) k.before ∙ sym (append_assoc w k.written q);
      anywhere = λ r. subst (λ (l : List ℕ). R l r) (sym (append_assoc w k.written r)) (f (w ++ (k.written ++ r)) (k.written ++ r) r (h.anywhere (k.written ++ r)) (k.anywhere r));
    }

pub mapped-begun : {P R : List ℕ → List ℕ → Type 0} {p q : List ℕ} → Begun P p q → ((l r : List ℕ) → P l r → R l r) → Begun R p q
mapped-begun h f = record { first = h.first; others = h.others; before = h.before; anywhere = λ r. f ((h.first ∷ h.others) ++ r) r (h.anywhere r) }

module _ {A : Type 0} {X : Form A} (hx : Moves X) where
  pub times-moved : {n : ℕ} {a : List A} {p q : Standing} → Times X n a p q → Moved (λ l r. Times X n a (at l p) (at r q)) p.bytes q.bytes
  times-moved done = stayed (λ l. done)
  times-moved (more h t) = joined (hx.moves h) (times-moved t) (λ l s r. more)
