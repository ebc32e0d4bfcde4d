-- What is answered of a place and of a node is what the payload has there. Assumes nothing.
use Rattle.std.proofs.Common.{◌≡◌, ℕ, zero, suc, ◌+◌, ◌-◌, ◌<◌, ◌≤◌, Bool, true, false, cond, eqb, ltb, leb, List, [], ◌∷◌, length, get_or, take, drop, Ok, Err, Result, sym, refl, ap, ◌∙◌, subst, arith, length-drop, w64, to_z, ne_eqb, le-leb}
use mathlib.Core.Option.{some, none, none-ne-some, some-injective}
use Rattle.refusal.specs.declared.Refusal.{Refusal}
use Rattle.span.specs.Blank.{blank_node, range_of}
use Rattle.span.specs.declared.types.Node.{Node}
use Rattle.span.specs.declared.types.Place.{Place}
use Rattle.source.specs.Shows.{Shown, String, Truth, Float, Int, Bytes, Members, Entries, bad, map_ok, text_shown, node_shown}
use Rattle.wire.specs.Payload.{Value, text_value, bool_value, bytes_value, Item}
use Rattle.meaning.specs.Shown.{also, alone, flag, contents, meant, shown, shown_in}
use Rattle.meaning.proofs.Stays.{within_none}
use Rattle.showing.specs.Laws.{Says, TextShown, ValueShown, KeyShown}
use Rattle.showing.proofs.Nodes.{seen, there}

-- a refusal is no answer
no_answer : {A X : Type 0} (e : Refusal) (x : A) → ◌≡◌ {A = Result A Refusal} (Err e) (Ok x) → X
no_answer e x h = let z : ◌≡◌ {A = ℕ} 0 1 = cc in absurd (omega arith)

-- what is answered though a test may refuse
passed : {A : Type 0} (b : Bool) (r : Result A Refusal) (x : A) → cond b r bad ≡ Ok x → r ≡ Ok x
passed true r x h = h
passed false r x h = no_answer _ x h

passed-not : {A : Type 0} (b : Bool) (r : Result A Refusal) (x : A) → cond b bad r ≡ Ok x → r ≡ Ok x
passed-not true r x h = no_answer _ x h
passed-not false r x h = h

pub text-shown : TextShown
text-shown input x t h =
    let e = passed (leb x.length (length input - x.offset)) (Ok (take x.length (drop x.offset input))) t (passed (leb x.offset (length input)) _ t h) in
    cc e

-- of what is answered in a form, the answer itself
record Formed {A : Type 0} (f : A → Shown) (r : Result A Refusal) (s : Shown) : Type 0 where
  value : A
  answered : r ≡ Ok value
  form : f value ≡ s

formed : {A : Type 0} (f : A → Shown) (r : Result A Refusal) (s : Shown) → map_ok f r ≡ Ok s → Formed f r s
formed f (Ok x) s h = let e : f x ≡ s = cc h in record { value = x; answered = refl; form = e }
formed f (Err e) s h = no_answer e s h

-- a value with nothing inside
lone : (w v : Value) (l : List Item) → alone w l ≡ some v → v ≡ w
lone w v [] h = sym (some-injective _ _ h)
lone w v (i ∷ l) h = absurd (none-ne-some _ h)

module _ (input : List ℕ) where
  pub flag-none : (n : ℕ) → 2 ≤ n → flag n ≡ none
  flag-none n h = rw (ne_eqb n 0 (λ e. omega arith), ne_eqb n 1 (λ e. omega arith))

  pub meant-none : (t n : ℕ) (x : Place) (l : List Item) → 8 ≤ t → meant input t n x l ≡ none
  meant-none t n x l h =
      rw (
        ne_eqb t 1 (λ e. omega arith),
        ne_eqb t 2 (λ e. omega arith),
        ne_eqb t 3 (λ e. omega arith),
        ne_eqb t 4 (λ e. omega arith),
        ne_eqb t 5 (λ e. omega arith),
        ne_eqb t 6 (λ e. omega arith),
        ne_eqb t 7 (λ e. omega arith),
      )

  module _ (nodes : List Node) where
    -- the nodes behind the one at the index i that are inside it
    inside-shown : (i n : ℕ) (l : List Item) → i < length nodes → n ≤ length (drop (suc i) nodes) → shown input (take n (drop (suc i) nodes)) ≡ some l → shown_in input (range_of (i + 1) n) nodes ≡ some l
    inside-shown i zero l h w e = rw (within_none nodes) e
    inside-shown i (suc n) l h w e =
        let next : i + 1 ≡ suc i = omega arith in
        let room : suc i + suc n ≤ length nodes = omega (arith, length-drop (suc i) nodes) in
        rw (ne_eqb (suc n) 0 (λ z. omega arith), next, le-leb (suc i + suc n) (length nodes) room) e

    -- a text, and a binary
    text_says : (x : Place) (l : List Item) (v : Value) (s : Shown) → alone (text_value (contents input x)) l ≡ some v → map_ok String (text_shown input x) ≡ Ok s → Says input nodes s v
    text_says x l v s m h =
        let f = formed String (text_shown input x) s h in
        subst (λ y. Says input nodes y v) f.form (lone _ v l m ∙ ap text_value (text-shown input x f.value f.answered))

    bytes-says : (x : Place) (l : List Item) (v : Value) (s : Shown) → alone (bytes_value (contents input x)) l ≡ some v → map_ok Bytes (text_shown input x) ≡ Ok s → Says input nodes s v
    bytes-says x l v s m h =
        let f = formed Bytes (text_shown input x) s h in
        subst (λ y. Says input nodes y v) f.form (lone _ v l m ∙ ap bytes_value (text-shown input x f.value f.answered))

    -- a Bool is 0 or 1
    truth-says : (n : ℕ) (l : List Item) (v : Value) (s : Shown) → also (flag n) (λ b. alone (bool_value b) l) ≡ some v → cond (ltb n 2) (Ok (Truth (eqb n 1))) bad ≡ Ok s → Says input nodes s v
    truth-says zero l v s m h = let e : Truth false ≡ s = cc h in subst (λ y. Says input nodes y v) e (lone _ v l m)
    truth-says (suc zero) l v s m h = let e : Truth true ≡ s = cc h in subst (λ y. Says input nodes y v) e (lone _ v l m)
    truth-says (suc (suc n)) l v s m h =
        absurd (none-ne-some _ (ap (λ o. also o (λ b. alone (bool_value b) l)) (sym (flag-none (suc (suc n)) (omega arith))) ∙ m))

    -- the node at the index i, by its type
    node-says : (i : ℕ) (key : Place) (t n : ℕ) (x : Place) (c : ℕ) (l : List Item) (v : Value) (s : Shown) → meant input t n x l ≡ some v → shown_in input (range_of (i + 1) c) nodes ≡ some l → node_shown input i (record { key = key; type_number = t; pattern = n; place = x; inside = c }) ≡ Ok s → Says input nodes s v
    node-says i key zero n x c l v s m r h = absurd (none-ne-some _ m)
    node-says i key (suc zero) n x c l v s m r h = text_says x l v s m (passed-not (ltb 0 c) _ s h)
    node-says i key (suc (suc zero)) n x c l v s m r h = truth-says n l v s m (passed-not (ltb 0 c) _ s h)
    node-says i key (suc (suc (suc zero))) n x c l v s m r h =
        let g = passed-not (ltb 0 c) (Ok (Float n)) s h in
        let e : Float n ≡ s = cc g in
        subst (λ y. Says input nodes y v) e (lone _ v l m)
    node-says i key (suc (suc (suc (suc zero)))) n x c l v s m r h =
        let g = passed-not (ltb 0 c) (Ok (Int (to_z w64 n))) s h in
        let e : Int (to_z w64 n) ≡ s = cc g in
        subst (λ y. Says input nodes y v) e (lone _ v l m)
    node-says i key (suc (suc (suc (suc (suc zero))))) n x c l v s m r h = bytes-says x l v s m (passed-not (ltb 0 c) _ s h)
    node-says i key (suc (suc (suc (suc (suc (suc zero)))))) n x c l v s m r h =
        let e : Members (range_of (i + 1) c) ≡ s = cc h in
        subst (λ y. Says input nodes y v) e (l, r, sym (some-injective _ _ m))
    node-says i key (suc (suc (suc (suc (suc (suc (suc zero))))))) n x c l v s m r h =
        let e : Entries (range_of (i + 1) c) ≡ s = cc h in
        subst (λ y. Says input nodes y v) e (l, r, sym (some-injective _ _ m))
    node-says i key (suc (suc (suc (suc (suc (suc (suc (suc t)))))))) n x c l v s m r h =
        absurd (none-ne-some _ (sym (meant-none (suc (suc (suc (suc (suc (suc (suc (suc t)))))))) n x l (omega arith)) ∙ m))

pub value-shown : ValueShown
value-shown input nodes i k v s a h =
    let b = seen input nodes i (k, v) (there input nodes i (k, v) a) a in
    let n = get_or nodes i blank_node in
    let e = passed (leb n.inside (length nodes - i - 1)) (node_shown input i n) s (passed (ltb i (length nodes)) _ s h) in
    let same : b.value ≡ v = ap (λ (p : Item). p.1) b.whole in
    node-says input nodes i n.key n.type_number n.pattern n.place n.inside b.inner v s (b.means ∙ ap some same) (inside-shown input nodes i n.inside b.inner b.fits b.within b.inside) e

pub key-shown : KeyShown
key-shown input nodes i k v a =
    let b = seen input nodes i (k, v) (there input nodes i (k, v) a) a in
    ap (λ (p : Item). p.0) b.whole
