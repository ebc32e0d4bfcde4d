-- A range of nodes, one item after the other. Assumes nothing.
use Rattle.std.proofs.Common.{◌≡◌, ℕ, zero, suc, ◌+◌, ◌-◌, ◌≤◌, Bool, true, false, leb, List, [], ◌∷◌, length, get_or, take, drop, sym, refl, ap, ◌∙◌, ap₂, arith, length-drop, length-take-le, drop-cons, take-take, drop-drop, le-leb, leb-true}
use mathlib.Core.Option.{some, none, none-ne-some, some-injective}
use Rattle.std.proofs.lemmas.List.{drop-take}
use Rattle.span.specs.Blank.{blank_node}
use Rattle.span.specs.declared.types.Node.{Node}
use Rattle.wire.specs.Payload.{Item}
use Rattle.meaning.specs.Shown.{choose, within, contents, shown, shown_in}
use Rattle.meaning.proofs.Stays.{both}
use Rattle.showing.specs.Laws.{First, Walk, End}
use Rattle.showing.proofs.Nodes.{Step, step, shows-one}

-- the nodes of a range are there
there : (nodes l : List Node) (f c : ℕ) → within (record { first = f; count = c }) nodes ≡ some l → (f + c ≤ length nodes) × (take c (drop f nodes) ≡ l)
there nodes l f c h = go (leb (f + c) (length nodes)) refl h
  where
    go : (b : Bool) → leb (f + c) (length nodes) ≡ b → choose b (some (take c (drop f nodes))) none ≡ some l → (f + c ≤ length nodes) × (take c (drop f nodes) ≡ l)
    go true e h = (leb-true _ _ e, some-injective _ _ h)
    go false e h = absurd (none-ne-some _ h)

module _ (input : List ℕ) (nodes : List Node) where
  -- the first node of a range that has one
  record Front (f c : ℕ) (a : List Item) : Type 0 where
    room : f + suc c ≤ length nodes
    steps : Step input (get_or nodes f blank_node) (take c (drop (suc f) nodes)) a

  front : (f c : ℕ) (a : List Item) → shown_in input (record { first = f; count = suc c }) nodes ≡ some a → Front f c a
  front f c a h =
      let b = both (within (record { first = f; count = suc c }) nodes) (shown input) a h in
      let w = there nodes b.value f (suc c) b.first in
      let room : f + suc c ≤ length nodes = w.0 in
      let cut = drop-cons nodes f blank_node (omega arith) in
      record { room = room; steps = step input (get_or nodes f blank_node) (take c (drop (suc f) nodes)) a (ap (λ m. shown input (take (suc c) m)) (sym cut) ∙ ap (shown input) w.1 ∙ b.second) }

  walk_from : (f c : ℕ) (a : Item) (l : List Item) → shown_in input (record { first = f; count = c }) nodes ≡ some (a ∷ l) → First input nodes (record { first = f; count = c }) a l
  walk_from f zero a l h =
      let b = both (within (record { first = f; count = 0 }) nodes) (shown input) (a ∷ l) h in
      let w = there nodes b.value f 0 b.first in
      let e = ap (shown input) w.1 ∙ b.second in
      let z : ◌≡◌ {A = ℕ} 0 1 = cc in
      absurd (omega arith)
  walk_from f (suc c) a l h =
      let x = front f c (a ∷ l) h in
      let s = x.steps in
      let n = get_or nodes f blank_node in
      let m = drop (suc f) nodes in
      let j = n.inside in
      let room : f + suc c ≤ length nodes = x.room in
      let size : length m ≡ length nodes - suc f = length-drop (suc f) nodes in
      let long : length (take c m) ≡ c = length-take-le c m (omega arith) in
      let fits : j ≤ c = omega (arith, s.within) in
      let head : (contents input n.key, s.value) ≡ a = cc s.whole in
      let tail : s.others ≡ l = cc s.whole in
      let cut = drop-cons nodes f blank_node (omega arith) in
      let inner = ap (shown input) (sym (take-take j c m fits)) ∙ s.inside in
      let one = shows-one input n (take j m) s.inner s.value (sym (length-take-le j m (omega arith))) inner s.means in
      let parts : c ≡ j + (c - j) = omega arith in
      let count : suc c - suc j ≡ c - j = omega arith in
      let first : f + suc j ≡ suc f + j = omega arith in
      let left : take (suc c - suc j) (drop (f + suc j) nodes) ≡ drop j (take c m) =
      ap₂ (λ x y. take x (drop y nodes)) count first ∙ ap (take (c - j)) (sym (drop-drop j (suc f) nodes)) ∙ sym (drop-take j (c - j) m) ∙ ap (λ x. drop j (take x m)) (sym parts) in
      let end : f + suc j + (suc c - suc j) ≤ length nodes = omega arith in
      record {
        within = omega arith;
        first = ap (λ m. shown input (take (suc j) m)) cut ∙ one ∙ ap (λ x. some (x ∷ [])) head;
        rest = rw (le-leb (f + suc j + (suc c - suc j)) (length nodes) end, left) (s.behind ∙ ap some tail);
      }

  end-from : (f c : ℕ) → shown_in input (record { first = f; count = c }) nodes ≡ some [] → c ≡ 0
  end-from f zero h = refl
  end-from f (suc c) h =
      let x = front f c [] h in
      let w = x.steps.whole in
      let z : ◌≡◌ {A = ℕ} 0 1 = cc in
      absurd (omega arith)

pub walk : Walk
walk input nodes r a l h = walk_from input nodes r.first r.count a l h

pub end : End
end input nodes r h = end-from input nodes r.first r.count h
