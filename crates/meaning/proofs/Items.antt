-- The readers of attributes. Assumes nothing.
use Rattle.std.proofs.Common.{◌≡◌, ℕ, zero, suc, ◌*◌, ◌/◌, ◌%◌, Bool, true, false, eqb, List, [], ◌∷◌, length, ℤ, sym, refl, ◌∙◌, subst, arith, eq-eqb, eqb-true}
use mathlib.Core.Option.{some}
use Rattle.msgpack.specs.declared.Item.TheVariants as item
use Rattle.refusal.specs.Runs.{repeat}
use Rattle.refusal.specs.declared.Layer.TheVariants.{Attribute}
use Rattle.span.specs.Blank.{no_place, blank_node}
use Rattle.span.specs.declared.types.Place.{Place}
use Rattle.span.specs.declared.types.Range.{Range}
use Rattle.decode.specs.Items.{item_of, is_array, up_to}
use Rattle.decode.specs.Reader.{State, Room, Read, placed}
use Rattle.attributes.specs.declared.node.Body.{Body}
use Rattle.attributes.specs.Attributes.{close, map_of, body, typed, member_of}
use Rattle.attributes.specs.Attributes
use Rattle.wire.specs.Payload.{Text, Value, text_value, bool_value, double_value, int_value, bytes_value, list_value, map_value, Item, values, entries}
use Rattle.wire.specs.Standing.{Standing, Fits}
use Rattle.wire.specs.Form.{Form, Times, KeyAt, TextAt, Within, SignedAt, within}
use Rattle.wire.specs.Attributes.{GroupAt, group, ValueOf, ItemOf, member, entry, ItemAt, AttributesAt}
use Rattle.wire.proofs.Grows.{Grows, fits-before, item-grows}
use Rattle.meaning.specs.Standings.{contents, standing, rooms_of, Meaning}
use Rattle.meaning.specs.Shown.{shown_in}
use Rattle.meaning.proofs.Reading.{Post, no, hit, then-post, post-map, Does, does, then-does, does-map, pick_post, pick_yes, Same, Stood, Reads, finds, then_same, Adding, reads-repeat}
use Rattle.meaning.proofs.Heads.{CountAt, reads-item, takes-bool, takes-double, takes-integer, takes_array, takes-natural}
use Rattle.meaning.proofs.Texts.{reads-bin, reads-text}
use Rattle.meaning.proofs.Counted.{counts-nodes, reserve-sound, reserve-complete}
use Rattle.meaning.proofs.Shows.{add_nodes, Grew, grew_none, grew-also, grew-within, Bodied, bodied-text, bodied-bool, bodied-double, bodied-int, bodied-bytes, bodied-list, bodied-map, closing, shown-range}

-- three facts about k: how many k there are in a number
record Whole (k : ℕ) : Type 0 where
  all : (n : ℕ) → n % k ≡ 0 → k * (n / k) ≡ n
  rest : (n : ℕ) → k * n % k ≡ 0
  back : (n : ℕ) → k * n / k ≡ n

twos : Whole 2
twos = record { all = λ n h. omega arith; rest = λ n. omega arith; back = λ n. omega arith }

threes : Whole 3
threes = record { all = λ n h. omega arith; rest = λ n. omega arith; back = λ n. omega arith }

signed-bound : {half : ℕ} {z : ℤ} {p q : Standing} → SignedAt half z p q → Within half z
signed-bound (within h lt) = lt

module _ (input : List ℕ) (room : Room) where
  -- items are answered as nodes
  abbrev pub AddedAll : Meaning (List Item) (Unit {0})
  AddedAll l u s s' = Grew input s s' l

  abbrev pub AddedOne : Meaning Item (Unit {0})
  AddedOne x u s s' = Grew input s s' (x ∷ [])

  -- and a map of them as their range
  pub record Ranged (l : List Item) (r : Range) (s s' : State) : Type 0 where
    pub grew : Grew input s s' l
    pub shows : shown_in input r s'.pools.nodes ≡ some l

  adding : Adding (λ (u : Unit {0}). AddedAll)
  adding = record { none = λ u s s' e. grew_none input s s' e; also = λ c d e l k s m s' g h. grew-also input s m s' l k g h }

  counts : Reads input room (CountAt item.Array) (placed (item_of is_array input Attribute)) Same
  counts = reads-item input takes_array Attribute room

  -- an array of k for each X
  module _ (k : ℕ) (w : Whole k) {X : Form Item} {r : Read (Unit {0})} (hr : Reads input room X r AddedOne) where
    loop : (n : ℕ) → Reads input room (Times X n) (repeat (λ u. r) n tt) AddedAll
    loop n = reads-repeat (λ u. AddedAll) adding (λ u. hr) n tt

    group-sound : (s : State) → Fits (rooms_of room) (standing input s) → Post (λ u s'. Stood input room (GroupAt k X) s s') (Attributes.group input room k r s)
    group-sound s i =
        then-post (finds counts s i) (λ n m h.
        pick_post _ _ m (eqb (n % k) 0) (λ e. post-map ((loop (n / k)).sound m h.1) (λ u s' t.
        (t.0, group (subst (λ x. CountAt item.Array x (standing input s) (standing input m)) (sym (w.all n (eqb-true _ _ e))) h.0) t.1, t.2))) (λ e. no))

    group-complete : {l : List Item} {p q : Standing} → GroupAt k X l p q → Fits (rooms_of room) q → (s : State) → standing input s ≡ p → Does (λ u s'. (standing input s' ≡ q) × AddedAll l u s s') (Attributes.group input room k r s)
    group-complete (group {n} {l} h t) i s e =
        then_same counts _ h ((loop n).fits t i) s e (λ m d kept.
        pick_yes _ _ m (eq-eqb _ _ (w.rest n)) (rw (w.back n) (
        does-map ((loop n).complete t i m d) (λ u s' g. (g.0, grew-within input s m s' s' l kept refl g.1)))))

    group-fits : {l : List Item} {p q : Standing} → GroupAt k X l p q → Fits (rooms_of room) q → Fits (rooms_of room) p
    group-fits (group {n} h t) i = counts.fits h ((loop n).fits t i)

    groups : Reads input room (GroupAt k X) (Attributes.group input room k r) AddedAll
    groups = record { sound = group-sound; complete = group-complete; fits = group-fits }

  module _ {X : Bool → Form Item} {below : Bool → Read (Unit {0})} (hb : (keyed : Bool) → Reads input room (X keyed) (below keyed) AddedOne) where
    maps : Reads input room (GroupAt 3 (X true)) (map_of input room below) Ranged
    maps = record {
      sound = λ s i. then-post ((groups 3 threes (hb true)).sound s i) (λ u q h. hit h);
      complete = λ {a} h i s e. then-does ((groups 3 threes (hb true)).complete h i s e) (λ u q d. does (d.0, record { grew = d.1; shows = shown-range input s q a d.1 }));
      fits = (groups 3 threes (hb true)).fits;
    }

    value-sound : (at k : ℕ) (s : State) → Fits (rooms_of room) (standing input s) → Post (λ b s'. Stood input room (ValueOf X k) s s') (body input room below at k s)
    value-sound at k s r =
        pick_post _ _ s (eqb k 1) (λ e. then-post ((reads-text input room).sound s r) (λ x q h. hit (text_value h.0, rw (eqb-true _ _ e) (ValueOf.text h.1), h.2))) (λ e.
        pick_post _ _ s (eqb k 2) (λ e. then-post ((reads-item input takes-bool Attribute room).sound s r) (λ x q h. hit (bool_value h.0, rw (eqb-true _ _ e) (ValueOf.bool h.1), h.2))) (λ e.
        pick_post _ _ s (eqb k 3) (λ e. then-post ((reads-item input takes-double Attribute room).sound s r) (λ x q h. hit (double_value h.0, rw (eqb-true _ _ e) (ValueOf.double h.1), h.2))) (λ e.
        pick_post _ _ s (eqb k 4) (λ e. then-post ((reads-item input takes-integer Attribute room).sound s r) (λ x q h. hit (int_value h.0, rw (eqb-true _ _ e) (ValueOf.integer h.1), h.2))) (λ e.
        pick_post _ _ s (eqb k 5) (λ e. then-post ((reads-bin input Attribute room).sound s r) (λ x q h. hit (bytes_value h.0, rw (eqb-true _ _ e) (ValueOf.binary h.1), h.2))) (λ e.
        pick_post _ _ s (eqb k 6) (λ e. then-post ((groups 2 twos (hb false)).sound s r) (λ x q h. hit (list_value (values h.0), rw (eqb-true _ _ e) (ValueOf.list h.1), h.2))) (λ e.
        pick_post _ _ s (eqb k 7) (λ e. then-post (maps.sound s r) (λ x q h. hit (map_value (entries h.0), rw (eqb-true _ _ e) (ValueOf.map h.1), h.2))) (λ e.
        no)))))))

    value-complete : (at k : ℕ) {v : Value} {p q : Standing} → ValueOf X k v p q → Fits (rooms_of room) q → (s : State) → standing input s ≡ p → Does (λ b s'. (standing input s' ≡ q) × Bodied input k v b s s') (body input room below at k s)
    value-complete at k (ValueOf.text {t} h) r s e = then-does ((reads-text input room).complete h r s e) (λ x q d. does (d.0, bodied-text input x t s q d.1.0 d.1.1))
    value-complete at k (ValueOf.bool {b} h) r s e = then_same (reads-item input takes-bool Attribute room) _ h r s e (λ q d kept. does (d, bodied-bool input b s q kept))
    value-complete at k (ValueOf.double {n} h) r s e = then_same (reads-item input takes-double Attribute room) _ h r s e (λ q d kept. does (d, bodied-double input n s q kept))
    value-complete at k (ValueOf.integer {z} h) r s e = then_same (reads-item input takes-integer Attribute room) _ h r s e (λ q d kept. does (d, bodied-int input z s q (signed-bound h) kept))
    value-complete at k (ValueOf.binary {l} h) r s e = then-does ((reads-bin input Attribute room).complete h r s e) (λ x q d. does (d.0, bodied-bytes input x l s q d.1.0 d.1.1))
    value-complete at k (ValueOf.list {l} h) r s e = then-does ((groups 2 twos (hb false)).complete h r s e) (λ u q d. does (d.0, bodied-list input l s q d.1))
    value-complete at k (ValueOf.map {l} h) r s e = then-does (maps.complete h r s e) (λ x q d. does (d.0, bodied-map input l s q d.1.grew))

    value-fits : (k : ℕ) {v : Value} {p q : Standing} → ValueOf X k v p q → Fits (rooms_of room) q → Fits (rooms_of room) p
    value-fits k (ValueOf.text h) r = (reads-text input room).fits h r
    value-fits k (ValueOf.bool h) r = (reads-item input takes-bool Attribute room).fits h r
    value-fits k (ValueOf.double h) r = (reads-item input takes-double Attribute room).fits h r
    value-fits k (ValueOf.integer h) r = (reads-item input takes-integer Attribute room).fits h r
    value-fits k (ValueOf.binary h) r = (reads-bin input Attribute room).fits h r
    value-fits k (ValueOf.list h) r = (groups 2 twos (hb false)).fits h r
    value-fits k (ValueOf.map h) r = maps.fits h r

    keys : Reads input room KeyAt (placed (item_of (up_to 0xff) input Attribute)) Same
    keys = reads-item input (takes-natural 0xff) Attribute room

    -- closing a node changes nothing that the format sees
    closed : (q : State) (j : ℕ) (key : Place) (k : ℕ) (b : Body) → standing input (close j key k b q).1 ≡ standing input q
    closed q j key k b = counts-nodes.as_many input q j _

    -- the rest of an item, behind its key
    typed-sound : (m : State) (j : ℕ) (key : Place) → Fits (rooms_of room) (standing input m) → Post (λ u s'. (k : ℕ) × (v : Value) × (o : State) × KeyAt k (standing input m) (standing input o) × ValueOf X k v (standing input o) (standing input s') × Fits (rooms_of room) (standing input s')) (typed input room below j key m)
    typed-sound m j key i =
        then-post (finds keys m i) (λ k o h. then-post (value-sound m.at k o h.1) (λ b q g.
        hit (k, g.0, o, h.0, subst (λ x. ValueOf X k g.0 (standing input o) x) (sym (closed q j key k b)) g.1, subst (Fits (rooms_of room)) (sym (closed q j key k b)) g.2)))

    item-sound : (keyed : Bool) (s : State) → Fits (rooms_of room) (standing input s) → Post (λ u s'. Stood input room (ItemOf X keyed) s s') (member_of input room below keyed s)
    item-sound true s i =
        then-post (reserve-sound input room counts-nodes Attribute s i) (λ j m h. then-post ((reads-text input room).sound m h.1) (λ t o g. post-map (typed-sound o j t g.2) (λ u q z.
        ((g.0, z.1), entry (subst (λ x. TextAt g.0 x (standing input o)) h.0 g.1) z.3 z.4, z.5))))
    item-sound false s i =
        then-post (reserve-sound input room counts-nodes Attribute s i) (λ j m h. post-map (typed-sound m j no_place h.1) (λ u q z.
        (([], z.1), member (subst (λ x. KeyAt z.0 x (standing input z.2)) h.0 z.3) z.4, z.5)))

    typed-complete : (s m : State) (j : ℕ) (key : Place) (t : Text) {k : ℕ} {v : Value} {p o q : Standing} → KeyAt k p o → ValueOf X k v o q → Fits (rooms_of room) q → standing input m ≡ p → j ≡ length s.pools.nodes → m.pools ≡ add_nodes (blank_node ∷ []) s.pools → contents input key ≡ t → Does (λ u s'. (standing input s' ≡ q) × AddedOne (t, v) u s s') (typed input room below j key m)
    typed-complete s m j key t {k} {v} h g i e ej em et =
        then_same keys _ h (value-fits k g i) m e (λ o d kept. then-does (value-complete m.at k g i o d) (λ b q z.
        does (closed q j key k b ∙ z.0, closing input s o q j key t k b v ej (kept ∙ em) et z.1)))

    item-complete : (keyed : Bool) {a : Item} {p q : Standing} → ItemOf X keyed a p q → Fits (rooms_of room) q → (s : State) → standing input s ≡ p → Does (λ u s'. (standing input s' ≡ q) × AddedOne a u s s') (member_of input room below keyed s)
    item-complete keyed (member {k} h g) i s e =
        let f = keys.fits h (value-fits k g i) in
        then-does (reserve-complete input room counts-nodes Attribute f s e) (λ j m d. typed-complete s m j no_place [] h g i d.0 d.1 d.2 refl)
    item-complete keyed (entry {t} {k} c h g) i s e =
        let f = keys.fits h (value-fits k g i) in
        then-does (reserve-complete input room counts-nodes Attribute ((reads-text input room).fits c f) s e) (λ j m d.
        then-does ((reads-text input room).complete c f m d.0) (λ key o z.
        typed-complete s o j key t h g i z.0 d.1 (z.1.1 ∙ d.2) z.1.0))

    one-level : (keyed : Bool) → Grows (ItemOf X keyed) → Reads input room (ItemOf X keyed) (member_of input room below keyed) AddedOne
    one-level keyed grows = record { sound = item-sound keyed; complete = item-complete keyed; fits = λ h. fits-before (grows.grows h) }

  pub levels : (d : ℕ) (keyed : Bool) → Reads input room (ItemAt d keyed) (Attributes.member input room d keyed) AddedOne
  unfolding ItemAt Attributes.member
  levels zero keyed = record { sound = λ s i. no; complete = λ h. absurd h; fits = λ h. absurd h }
  levels (suc d) keyed = one-level (levels d) keyed (record { grows = λ h. (item-grows (suc d) keyed).grows h })

  pub reads-attributes : Reads input room AttributesAt (Attributes.attributes input room 64) Ranged
  reads-attributes = maps (levels 64)
