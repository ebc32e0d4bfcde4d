-- The fold and Table 3-7. Assumes nothing.
use Rattle.std.proofs.Common.{◌≡◌, ℕ, true, List, [], ◌∷◌, refl, ⊎_elim, arith}
use Rattle.std.specs.Int.{IsInRange}
use Rattle.std.proofs.lemmas.Bool.Decides.{nat_tests, leb_tells}
use Rattle.std.proofs.str.Laws.{order}
use Rattle.utf8.specs.Machine.{next, accepts, run, well_formed, within}
use Rattle.utf8.specs.Table.{Formed, end, ascii, two, three_e0, three_low, three_ed, three_high, four_f0, four_mid, four_f4}
use Rattle.utf8.specs.declared.State.{State}
use Rattle.utf8.specs.declared.State.TheVariants.{Start, One, Two, Three, E0, Ed, F0, F4, Bad}

-- from the table to the fold
pub to_fold : {bs : List ℕ} → Formed bs → well_formed bs ≡ true
unfolding next
to_fold end = refl
to_fold (ascii h f) = grind (arith, nat_tests, to_fold f)
to_fold (two h i f) = grind (arith, nat_tests, to_fold f)
to_fold (three_e0 h i j f) = grind (arith, nat_tests, to_fold f)
to_fold (three_low h i j f) = grind (arith, nat_tests, to_fold f)
to_fold (three_ed h i j f) = grind (arith, nat_tests, to_fold f)
to_fold (three_high h i j f) = grind (arith, nat_tests, to_fold f)
to_fold (four_f0 h i j k f) = grind (arith, nat_tests, to_fold f)
to_fold (four_mid h i j k f) = grind (arith, nat_tests, to_fold f)
to_fold (four_f4 h i j k f) = grind (arith, nat_tests, to_fold f)

-- what is to follow in each state
abbrev Rest : State → List ℕ → Type 0
Rest Start bs = Formed bs
Rest One (b ∷ bs) = IsInRange 0x80 0xbf b × Formed bs
Rest Two (b ∷ bs) = IsInRange 0x80 0xbf b × Rest One bs
Rest Three (b ∷ bs) = IsInRange 0x80 0xbf b × Rest Two bs
Rest E0 (b ∷ bs) = IsInRange 0xa0 0xbf b × Rest One bs
Rest Ed (b ∷ bs) = IsInRange 0x80 0x9f b × Rest One bs
Rest F0 (b ∷ bs) = IsInRange 0x90 0xbf b × Rest Two bs
Rest F4 (b ∷ bs) = IsInRange 0x80 0x8f b × Rest Two bs
Rest _ _ = ⊥

-- a sequence by its first byte
with_two : (a : ℕ) (bs : List ℕ) → IsInRange 0xc2 0xdf a → Rest One bs → Formed (a ∷ bs)
with_two a [] h r = absurd r
with_two a (b ∷ bs) h r = two h r.0 r.1

with_e0 : (a : ℕ) (bs : List ℕ) → IsInRange 0xe0 0xe0 a → Rest E0 bs → Formed (a ∷ bs)
with_e0 a [] h r = absurd r
with_e0 a (b ∷ []) h r = absurd r.1
with_e0 a (b ∷ c ∷ bs) h r = three_e0 h r.0 r.1.0 r.1.1

with_ed : (a : ℕ) (bs : List ℕ) → IsInRange 0xed 0xed a → Rest Ed bs → Formed (a ∷ bs)
with_ed a [] h r = absurd r
with_ed a (b ∷ []) h r = absurd r.1
with_ed a (b ∷ c ∷ bs) h r = three_ed h r.0 r.1.0 r.1.1

with_three : (a : ℕ) (bs : List ℕ) → IsInRange 0xe1 0xef a → (IsInRange 0xed 0xed a → ⊥) → Rest Two bs → Formed (a ∷ bs)
with_three a [] h n r = absurd r
with_three a (b ∷ []) h n r = absurd r.1
with_three a (b ∷ c ∷ bs) h n r =
    ⊎_elim (λ l. three_low (h.0, omega arith) r.0 r.1.0 r.1.1)
    (λ l. three_high (⊎_elim (λ e. absurd (n (omega arith, omega arith))) (λ e. e) (order a 0xee), h.1) r.0 r.1.0 r.1.1)
    (order a 0xed)

with_f0 : (a : ℕ) (bs : List ℕ) → IsInRange 0xf0 0xf0 a → Rest F0 bs → Formed (a ∷ bs)
with_f0 a [] h r = absurd r
with_f0 a (b ∷ []) h r = absurd r.1
with_f0 a (b ∷ c ∷ []) h r = absurd r.1.1
with_f0 a (b ∷ c ∷ d ∷ bs) h r = four_f0 h r.0 r.1.0 r.1.1.0 r.1.1.1

with_f1 : (a : ℕ) (bs : List ℕ) → IsInRange 0xf1 0xf3 a → Rest Three bs → Formed (a ∷ bs)
with_f1 a [] h r = absurd r
with_f1 a (b ∷ []) h r = absurd r.1
with_f1 a (b ∷ c ∷ []) h r = absurd r.1.1
with_f1 a (b ∷ c ∷ d ∷ bs) h r = four_mid h r.0 r.1.0 r.1.1.0 r.1.1.1

with_f4 : (a : ℕ) (bs : List ℕ) → IsInRange 0xf4 0xf4 a → Rest F4 bs → Formed (a ∷ bs)
with_f4 a [] h r = absurd r
with_f4 a (b ∷ []) h r = absurd r.1
with_f4 a (b ∷ c ∷ []) h r = absurd r.1.1
with_f4 a (b ∷ c ∷ d ∷ bs) h r = four_f4 h r.0 r.1.0 r.1.1.0 r.1.1.1

-- cases on a range
by_range : {Q : Type 0} (P : State → Type 0) (lo hi b : ℕ) (s t : State) → (IsInRange lo hi b → P s → Q) → ((IsInRange lo hi b → ⊥) → P t → Q) → P (within lo hi b s t) → Q
by_range P lo hi b s t yes_in out p =
    ⊎_elim
    (λ l. ⊎_elim (λ h. yes_in (l.1, h.1) (simp (l.0, h.0) at p)) (λ h. out (λ i. omega arith) (simp (l.0, h.0) at p)) (leb_tells b hi))
    (λ l. out (λ i. omega arith) (simp l.0 at p))
    (leb_tells lo b)

-- a byte of the range, and what follows it
followed : (bs : List ℕ) (lo hi b : ℕ) (s : State) → Rest (within lo hi b s Bad) bs → IsInRange lo hi b × Rest s bs
followed bs lo hi b s = by_range (λ s. Rest s bs) lo hi b s Bad (λ h r. (h, r)) (λ _ r. absurd r)

from_run : (bs : List ℕ) (s : State) → accepts (run s bs) ≡ true → Rest s bs
unfolding next
from_run [] Start e = end
from_run [] _ e = grind arith
from_run (b ∷ bs) Start e =
    let P : State → Type 0 = λ s. Rest s bs in
    by_range P 0x00 0x7f b _ _ ascii
    (λ _. by_range P 0xc2 0xdf b _ _ (with_two b bs)
    (λ _. by_range P 0xe0 0xe0 b _ _ (with_e0 b bs)
    (λ _. by_range P 0xed 0xed b _ _ (with_ed b bs)
    (λ n. by_range P 0xe1 0xef b _ _ (λ h. with_three b bs h n)
    (λ _. by_range P 0xf0 0xf0 b _ _ (with_f0 b bs)
    (λ _. by_range P 0xf1 0xf3 b _ _ (with_f1 b bs)
    (λ _. by_range P 0xf4 0xf4 b _ _ (with_f4 b bs)
    (λ _ r. absurd r))))))))
    (from_run bs (next Start b) e)
from_run (b ∷ bs) One e = followed bs 0x80 0xbf b Start (from_run bs (next One b) e)
from_run (b ∷ bs) Two e = followed bs 0x80 0xbf b One (from_run bs (next Two b) e)
from_run (b ∷ bs) Three e = followed bs 0x80 0xbf b Two (from_run bs (next Three b) e)
from_run (b ∷ bs) E0 e = followed bs 0xa0 0xbf b One (from_run bs (next E0 b) e)
from_run (b ∷ bs) Ed e = followed bs 0x80 0x9f b One (from_run bs (next Ed b) e)
from_run (b ∷ bs) F0 e = followed bs 0x90 0xbf b Two (from_run bs (next F0 b) e)
from_run (b ∷ bs) F4 e = followed bs 0x80 0x8f b Two (from_run bs (next F4 b) e)
from_run (b ∷ bs) Bad e = from_run bs (next Bad b) e

pub from_fold : (bs : List ℕ) → well_formed bs ≡ true → Formed bs
from_fold bs e = from_run bs Start e
