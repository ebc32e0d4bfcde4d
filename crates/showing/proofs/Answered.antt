-- Where an item is shown, and its place lies in the bytes, it is answered. Assumes nothing.
use Rattle.std.proofs.Common.{◌≡◌, ℕ, zero, suc, ◌+◌, ◌-◌, ◌≤◌, true, false, cond, eqb, ltb, leb, List, [], ◌∷◌, length, get_or, take, drop, Ok, Result, sym, refl, ap, ◌∙◌, arith, length-drop, w64, to_z, lt-ltb, le-leb}
use mathlib.Core.Option.{some, none-ne-some}
use Rattle.refusal.specs.declared.Refusal.{Refusal}
use Rattle.span.specs.Blank.{blank_node, range_of}
use Rattle.span.specs.declared.types.Node.{Node}
use Rattle.span.specs.declared.types.Place.{Place}
use Rattle.source.specs.Shows.{Shown, String, Truth, Float, Int, Bytes, Members, Entries, bad, map_ok, text_shown, node_shown}
use Rattle.wire.specs.Payload.{Value, bool_value, Item}
use Rattle.meaning.specs.Shown.{also, alone, flag, contents, meant, shown}
use Rattle.showing.specs.Laws.{Lies, TextAnswered, ValueAnswered}
use Rattle.showing.proofs.Nodes.{step, seen, there}
use Rattle.showing.proofs.Values.{flag-none, meant-none}

pub text-answered : TextAnswered
text-answered input x h = rw (le-leb x.offset (length input) (omega arith), le-leb x.length (length input - x.offset) (omega arith))

-- a value that has nothing inside
lonely : (w v : Value) (l : List Item) → alone w l ≡ some v → l ≡ []
lonely w v [] h = refl
lonely w v (i ∷ l) h = absurd (none-ne-some _ h)

leaf : (c : ℕ) (r : Result Shown Refusal) (s : Shown) → c ≡ 0 → r ≡ Ok s → (s : Shown) × (cond (ltb 0 c) bad r ≡ Ok s)
leaf c r s z e = (s, ap (λ k. cond (ltb 0 k) bad r) z ∙ e)

module _ (input : List ℕ) where
  -- nodes that show nothing are none
  no-nodes : (c : ℕ) (l : List Node) (a : List Item) → c ≤ length l → shown input (take c l) ≡ some a → a ≡ [] → c ≡ 0
  no-nodes zero l a w h e = refl
  no-nodes (suc c) [] a w h e = absurd (omega arith)
  no-nodes (suc c) (n ∷ l) a w h e =
      let f = (step input n (take c l) a h).whole ∙ e in
      let z : ◌≡◌ {A = ℕ} 0 1 = cc in
      absurd (omega arith)

  -- a Bool, with nothing inside
  truth : (n c : ℕ) (l : List Item) (v : Value) → also (flag n) (λ b. alone (bool_value b) l) ≡ some v → (l ≡ [] → c ≡ 0) → (s : Shown) × (cond (ltb 0 c) bad (cond (ltb n 2) (Ok (Truth (eqb n 1))) bad) ≡ Ok s)
  truth zero c l v m o = leaf c (Ok (Truth false)) (Truth false) (o (lonely _ v l m)) refl
  truth (suc zero) c l v m o = leaf c (Ok (Truth true)) (Truth true) (o (lonely _ v l m)) refl
  truth (suc (suc n)) c l v m o =
      absurd (none-ne-some _ (ap (λ o. also o (λ b. alone (bool_value b) l)) (sym (flag-none input (suc (suc n)) (omega arith))) ∙ m))

  -- the node at the index i, by its type
  node : (i : ℕ) (key : Place) (t n : ℕ) (x : Place) (c : ℕ) (l : List Item) (v : Value) → meant input t n x l ≡ some v → (l ≡ [] → c ≡ 0) → Lies input x → (s : Shown) × (node_shown input i (record { key = key; type_number = t; pattern = n; place = x; inside = c }) ≡ Ok s)
  node i key zero n x c l v m o h = absurd (none-ne-some _ m)
  node i key (suc zero) n x c l v m o h = leaf c (map_ok String (text_shown input x)) (String (contents input x)) (o (lonely _ v l m)) (ap (map_ok String) (text-answered input x h))
  node i key (suc (suc zero)) n x c l v m o h = truth n c l v m o
  node i key (suc (suc (suc zero))) n x c l v m o h = leaf c (Ok (Float n)) (Float n) (o (lonely _ v l m)) refl
  node i key (suc (suc (suc (suc zero)))) n x c l v m o h = leaf c (Ok (Int (to_z w64 n))) (Int (to_z w64 n)) (o (lonely _ v l m)) refl
  node i key (suc (suc (suc (suc (suc zero))))) n x c l v m o h = leaf c (map_ok Bytes (text_shown input x)) (Bytes (contents input x)) (o (lonely _ v l m)) (ap (map_ok Bytes) (text-answered input x h))
  node i key (suc (suc (suc (suc (suc (suc zero)))))) n x c l v m o h = (Members (range_of (i + 1) c), refl)
  node i key (suc (suc (suc (suc (suc (suc (suc zero))))))) n x c l v m o h = (Entries (range_of (i + 1) c), refl)
  node i key (suc (suc (suc (suc (suc (suc (suc (suc t)))))))) n x c l v m o h =
      absurd (none-ne-some _ (sym (meant-none input (suc (suc (suc (suc (suc (suc (suc (suc t)))))))) n x l (omega arith)) ∙ m))

pub value-answered : ValueAnswered
value-answered input nodes i a e h =
    let b = seen input nodes i a (there input nodes i a e) e in
    let n = get_or nodes i blank_node in
    let m = drop (suc i) nodes in
    let d = node input i n.key n.type_number n.pattern n.place n.inside b.inner b.value b.means (no-nodes input n.inside m b.inner b.within b.inside) h in
    let room : n.inside ≤ length nodes - i - 1 = omega (arith, b.within, length-drop (suc i) nodes) in
    (d.0, ap (λ t. cond t (cond (leb n.inside (length nodes - i - 1)) (node_shown input i n) bad) bad) (lt-ltb i (length nodes) b.fits) ∙ ap (λ t. cond t (node_shown input i n) bad) (le-leb n.inside (length nodes - i - 1) room) ∙ d.1)
