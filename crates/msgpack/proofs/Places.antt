-- Items at offsets. Assumes nothing.
use Rattle.std.proofs.Common.{◌≡◌, ℕ, ◌+◌, ◌-◌, ◌≤◌, Bool, true, false, cond, leb, List, ◌∷◌, length, drop, Some, None, Option, sym, refl, ap, ◌∙◌, arith, length-append, length-drop, leb-true}
use Rattle.std.specs.Option.{option_map}
use Rattle.std.proofs.lemmas.Bool.Decides.{nat_tests}
use Rattle.std.proofs.lemmas.Option.{some_pair_parts}
use Rattle.std.proofs.lemmas.List.{drop-drop, drop_at}
use Rattle.msgpack.specs.declared.Item.{Item}
use Rattle.msgpack.specs.Items.{item_at, placed, item_from}
use Rattle.msgpack.specs.Laws.{Agrees, Behind}
use Rattle.msgpack.proofs.Sound.{sound}
use Rattle.msgpack.proofs.Complete.{complete}
use Rattle.msgpack.proofs.Writings.{writing, shorter}

-- what follows an item is the end of what begins with it
rest_is : {i : Item} {q : List ℕ} (p : List ℕ) → item_at p ≡ Some (i, q) → q ≡ drop (length p - length q) p
rest_is {i} {q} p e =
    let w = writing (sound p e) in
    let l : List ℕ = w.marker ∷ w.others in
    let n : length l ≡ length p - length q = omega (arith, ap length w.before, length-append l q) in
    sym (ap (drop (length p - length q)) w.before ∙ drop_at l q (length p - length q) n)

-- what an answer at an offset tells
record There (input : List ℕ) (at : ℕ) (i : Item) (end : ℕ) : Type 0 where
  rest : List ℕ
  inside : at ≤ length input
  stands : item_at (drop at input) ≡ Some (i, rest)
  ends : end ≡ length input - length rest

module _ (input : List ℕ) (at : ℕ) where
  module _ (h : at ≤ length input) where
    pub from_some : (i : Item) (q : List ℕ) → item_at (drop at input) ≡ Some (i, q) → item_from input at ≡ Some (i, length input - length q)
    unfolding item_from
    from_some i q e = grind (arith, nat_tests)

    pub rest-behind : (i : Item) (q : List ℕ) → item_at (drop at input) ≡ Some (i, q) → q ≡ drop (length input - length q) input
    rest-behind i q e =
        let n : at + (length (drop at input) - length q) ≡ length input - length q = omega (arith, shorter (drop at input) e, length-drop at input) in
        rest_is (drop at input) e ∙ drop-drop (length (drop at input) - length q) at input ∙ ap (λ j. drop j input) n

    there : (i : Item) (end : ℕ) (o : Option (Item × List ℕ)) → item_at (drop at input) ≡ o → option_map (placed (length input)) o ≡ Some (i, end) → There input at i end
    there i end None e k = cc
    there i end (Some s) e k =
        let w = some_pair_parts s.0 i (length input - length s.1) end k in
        record { rest = s.1; inside = h; stands = e ∙ ap (λ j. Some (j, s.1)) w.0; ends = sym w.1 }

  by_test : (i : Item) (end : ℕ) (b : Bool) → leb at (length input) ≡ b → cond b (option_map (placed (length input)) (item_at (drop at input))) None ≡ Some (i, end) → There input at i end
  by_test i end true t e = there (leb-true _ _ t) i end (item_at (drop at input)) refl e
  by_test i end false t e = cc

  module _ {i : Item} {end : ℕ} (e : item_from input at ≡ Some (i, end)) where
    item_there : There input at i end
    unfolding item_from
    item_there = by_test i end (leb at (length input)) refl e

    pub item-behind : item_at (drop at input) ≡ Some (i, drop end input)
    item-behind = let t = item_there in let k = rest-behind t.inside i t.rest t.stands in cc

pub agrees : Agrees
agrees p i q = (sound p, complete)

pub behind : Behind
behind = (λ input at i end e. item-behind input at e, λ input at i q h e. (from_some input at h i q e, rest-behind input at h i q e))
