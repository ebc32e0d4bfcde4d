-- One node, with those inside it, and those behind. Assumes nothing.
use Rattle.std.proofs.Common.{◌≡◌, ℕ, zero, suc, ◌<◌, ◌≤◌, Bool, true, false, leb, List, [], ◌∷◌, length, get_or, take, drop, sym, refl, ap, ◌∙◌, ap₂, arith, length-drop, length-take, drop-cons, take-take, le-leb, leb-true}
use mathlib.Core.Option.{some, none, none-ne-some}
use lib.Seq.{take-length, drop-length}
use Rattle.span.specs.Blank.{blank_node}
use Rattle.span.specs.declared.types.Node.{Node}
use Rattle.wire.specs.Payload.{Value, Item}
use Rattle.meaning.specs.Shown.{choose, contents, meant, joined, shown_by, shown}
use Rattle.meaning.proofs.Stays.{both}
use Rattle.showing.specs.Laws.{inside_at, ItemAt}

module _ (input : List ℕ) where
  by-any : (f g : ℕ) (l : List Node) → length l ≤ f → length l ≤ g → shown_by input f l ≡ shown_by input g l
  by-any zero zero l h k = refl
  by-any zero (suc g) [] h k = refl
  by-any zero (suc g) (n ∷ l) h k = absurd (omega arith)
  by-any (suc f) zero [] h k = refl
  by-any (suc f) zero (n ∷ l) h k = absurd (omega arith)
  by-any (suc f) (suc g) [] h k = refl
  by-any (suc f) (suc g) (n ∷ l) h k =
      let a = length-take n.inside l in
      let b = length-drop n.inside l in
      ap₂ (λ x y. choose (leb n.inside (length l)) (joined input n x y) none) (by-any f g (take n.inside l) (omega arith) (omega arith)) (by-any f g (drop n.inside l) (omega arith) (omega arith))

  by-none : (f : ℕ) → shown_by input f [] ≡ some []
  by-none zero = refl
  by-none (suc f) = refl

  -- what a node and l behind it show, where they show the items a
  pub record Step (n : Node) (l : List Node) (a : List Item) : Type 0 where
    pub inner : List Item
    pub value : Value
    pub others : List Item
    pub within : n.inside ≤ length l
    pub inside : shown input (take n.inside l) ≡ some inner
    pub means : meant input n.type_number n.pattern n.place inner ≡ some value
    pub behind : shown input (drop n.inside l) ≡ some others
    pub whole : (contents input n.key, value) ∷ others ≡ a

  pub step : (n : Node) (l : List Node) (a : List Item) → shown input (n ∷ l) ≡ some a → Step n l a
  step n l a e = go (leb n.inside (length l)) refl e
    where
      go : (b : Bool) → leb n.inside (length l) ≡ b → choose b (joined input n (shown_by input (length l) (take n.inside l)) (shown_by input (length l) (drop n.inside l))) none ≡ some a → Step n l a
      go true t h =
          let x = both (shown_by input (length l) (take n.inside l)) _ a h in
          let y = both (meant input n.type_number n.pattern n.place x.value) _ a x.second in
          let z = both (shown_by input (length l) (drop n.inside l)) _ a y.second in
          let w : (contents input n.key, y.value) ∷ z.value ≡ a = cc z.second in
          let p = length-take n.inside l in
          let q = length-drop n.inside l in
          record {
            inner = x.value;
            value = y.value;
            others = z.value;
            within = leb-true _ _ t;
            inside = by-any (length (take n.inside l)) (length l) (take n.inside l) (omega arith) (omega arith) ∙ x.first;
            means = y.first;
            behind = by-any (length (drop n.inside l)) (length l) (drop n.inside l) (omega arith) (omega arith) ∙ z.first;
            whole = w;
          }
      go false t h = absurd (none-ne-some _ h)

  -- a node, and those inside it
  pub shows-one : (n : Node) (k : List Node) (l : List Item) (v : Value) → n.inside ≡ length k → shown input k ≡ some l → meant input n.type_number n.pattern n.place l ≡ some v → shown input (n ∷ k) ≡ some ((contents input n.key, v) ∷ [])
  shows-one n k l v e a m =
      rw (e, le-leb (length k) (length k) (omega arith), take-length k, drop-length k, by-none (length k), a, m)

  module _ (nodes : List Node) (i : ℕ) where
    -- the node at the index i, where it shows the item a: what is inside, and the item
    pub record Seen (a : Item) : Type 0 where
      pub inner : List Item
      pub value : Value
      pub fits : i < length nodes
      pub within : inside_at nodes i ≤ length (drop (suc i) nodes)
      pub inside : shown input (take (inside_at nodes i) (drop (suc i) nodes)) ≡ some inner
      pub means : meant input (get_or nodes i blank_node).type_number (get_or nodes i blank_node).pattern (get_or nodes i blank_node).place inner ≡ some value
      pub whole : (contents input (get_or nodes i blank_node).key, value) ≡ a

    pub seen : (a : Item) → i < length nodes → ItemAt input nodes i a → Seen a
    seen a h e =
        let n = get_or nodes i blank_node in
        let l = drop (suc i) nodes in
        let s = step n (take n.inside l) (a ∷ []) (ap (λ m. shown input (take (suc n.inside) m)) (sym (drop-cons nodes i blank_node h)) ∙ e) in
        let w : (contents input n.key, s.value) ≡ a = cc s.whole in
        record {
          inner = s.inner;
          value = s.value;
          fits = h;
          within = omega (arith, s.within, length-take n.inside l);
          inside = ap (shown input) (sym (take-take n.inside n.inside l (omega arith))) ∙ s.inside;
          means = s.means;
          whole = w;
        }

    -- where it shows one, it is there
    pub there : (a : Item) → ItemAt input nodes i a → i < length nodes
    there a e = go (drop i nodes) refl e
      where
        go : (l : List Node) → drop i nodes ≡ l → shown input (take (suc (inside_at nodes i)) l) ≡ some (a ∷ []) → i < length nodes
        go [] d h = let z : ◌≡◌ {A = ℕ} 0 1 = cc in absurd (omega arith)
        go (n ∷ l) d h = omega (arith, ap length d, length-drop i nodes)
