-- What nodes say, as they are added. Assumes nothing.
use Rattle.std.proofs.Common.{◌≡◌, ℕ, zero, suc, ◌-◌, ◌≤◌, Bool, true, false, leb, List, [], ◌∷◌, ◌++◌, length, take, drop, set, ℤ, pos, negsuc, sym, refl, ap, ◌∙◌, ap₂, append_assoc, append-nil, arith, length-append, length-drop, length-take, to_z-of_z, w64, SFits, of_z, le-leb}
use mathlib.Core.Option.{some, none}
use lib.Seq.{take-append_seam, drop-append_seam, set-append_seam}
use Rattle.span.specs.Blank.{blank_node, range_of}
use Rattle.span.specs.State.{Pools}
use Rattle.span.specs.declared.types.Place.{Place}
use Rattle.span.specs.declared.types.Node.{Node}
use Rattle.decode.specs.Reader.{State, nodes_part}
use Rattle.attributes.specs.declared.node.Body.{Body}
use Rattle.attributes.specs.Attributes.{close, number, content, bit}
use Rattle.wire.specs.Payload.{Text, Value, text_value, bool_value, double_value, int_value, bytes_value, list_value, map_value, Item, values, entries}
use Rattle.wire.specs.Form.{Within}
use Rattle.meaning.specs.Shown.{choose, contents, meant, joined, shown_by, shown, shown_in}
use Rattle.meaning.proofs.Stays.{Added, behind-none, within-last}

-- the pools with these nodes behind the others
abbrev pub add_nodes : List Node → Pools → Pools
add_nodes l p = nodes_part.with (p.nodes ++ l) p

module _ (input : List ℕ) where
  by-any : (f g : ℕ) (l : List Node) → length l ≤ f → length l ≤ g → shown_by input f l ≡ shown_by input g l
  by-any zero zero l h k = refl
  by-any zero (suc g) [] h k = refl
  by-any zero (suc g) (n ∷ l) h k = absurd (omega arith)
  by-any (suc f) zero [] h k = refl
  by-any (suc f) zero (n ∷ l) h k = absurd (omega arith)
  by-any (suc f) (suc g) [] h k = refl
  by-any (suc f) (suc g) (n ∷ l) h k =
      let a = length-take n.inside l in
      let b = length-drop n.inside l in
      ap₂ (λ x y. choose (leb n.inside (length l)) (joined input n x y) none) (by-any f g (take n.inside l) (omega arith) (omega arith)) (by-any f g (drop n.inside l) (omega arith) (omega arith))

  -- a node, those that belong to it, and the rest
  shown-node : (n : Node) (inner rest : List Node) (l k : List Item) (v : Value) → n.inside ≡ length inner → shown input inner ≡ some l → meant input n.type_number n.pattern n.place l ≡ some v → shown input rest ≡ some k → shown input (n ∷ inner ++ rest) ≡ some ((contents input n.key, v) ∷ k)
  shown-node n inner rest l k v e a m b =
      let c = length-append inner rest in
      rw (
        e,
        le-leb (length inner) (length (inner ++ rest)) (omega arith),
        take-append_seam inner rest,
        drop-append_seam inner rest,
        by-any (length (inner ++ rest)) (length inner) inner (omega arith) (omega arith),
        by-any (length (inner ++ rest)) (length rest) rest (omega arith) (omega arith),
        a,
        m,
        b,
      )

  -- from s to s' nodes were added that say l, and no other record
  pub record Grew (s s' : State) (l : List Item) : Type 0 where
    pub nodes : List Node
    pub kept : s'.pools ≡ add_nodes nodes s.pools
    pub says : (rest : List Node) (k : List Item) → shown input rest ≡ some k → shown input (nodes ++ rest) ≡ some (l ++ k)

  pub grew_none : (s s' : State) → s'.pools ≡ s.pools → Grew s s' []
  grew_none s s' e = record { nodes = []; kept = e ∙ ap (λ x. nodes_part.with x s.pools) (sym (append-nil s.pools.nodes)); says = λ rest k h. h }

  pub grew-also : (s m s' : State) (l k : List Item) → Grew s m l → Grew m s' k → Grew s s' (l ++ k)
  grew-also s m s' l k g h = record {
    nodes = g.nodes ++ h.nodes;
    kept = h.kept ∙ ap (add_nodes h.nodes) g.kept ∙ ap (λ x. nodes_part.with x s.pools) (append_assoc s.pools.nodes g.nodes h.nodes);
    says = λ rest x e. rw (append_assoc g.nodes h.nodes rest, append_assoc l k x) (g.says _ _ (h.says rest x e));
  }

  -- the same, between states with the same pools
  pub grew-within : (s m n s' : State) (l : List Item) → m.pools ≡ s.pools → s'.pools ≡ n.pools → Grew m n l → Grew s s' l
  grew-within s m n s' l a b g = record { nodes = g.nodes; kept = b ∙ g.kept ∙ ap (add_nodes g.nodes) a; says = g.says }

  -- what is shown of all that was added
  pub grew-shown : (s s' : State) (l : List Item) (g : Grew s s' l) → shown input g.nodes ≡ some l
  grew-shown s s' l g = rw (append-nil g.nodes, append-nil l) at (g.says [] [] refl)

  pub grew-added : (s s' : State) (l : List Item) → Grew s s' l → Added s.pools s'.pools
  grew-added s s' l g = rw g.kept (record { chunks = behind-none _; spans = behind-none _; links = behind-none _; events = behind-none _; nodes = record { more = g.nodes; all = refl } })

  -- the body of a value of the type t, between s and s'
  pub record Bodied (t : ℕ) (v : Value) (b : Body) (s s' : State) : Type 0 where
    pub inner : List Item
    pub grew : Grew s s' inner
    pub means : meant input t b.pattern b.place inner ≡ some v

  pub bodied-text : (x : Place) (t : Text) (s s' : State) → contents input x ≡ t → s'.pools ≡ s.pools → Bodied 1 (text_value t) (content x) s s'
  bodied-text x t s s' c e = record { inner = []; grew = grew_none s s' e; means = ap (λ y. some (text_value y)) c }

  pub bodied-bool : (b : Bool) (s s' : State) → s'.pools ≡ s.pools → Bodied 2 (bool_value b) (number (bit b)) s s'
  bodied-bool true s s' e = record { inner = []; grew = grew_none s s' e; means = refl }
  bodied-bool false s s' e = record { inner = []; grew = grew_none s s' e; means = refl }

  pub bodied-double : (n : ℕ) (s s' : State) → s'.pools ≡ s.pools → Bodied 3 (double_value n) (number n) s s'
  bodied-double n s s' e = record { inner = []; grew = grew_none s s' e; means = refl }

  fits : (z : ℤ) → Within 0x8000000000000000 z → SFits w64 z
  fits (pos n) h = record { sfits = h }
  fits (negsuc n) h = record { sfits = h }

  pub bodied-int : (z : ℤ) (s s' : State) → Within 0x8000000000000000 z → s'.pools ≡ s.pools → Bodied 4 (int_value z) (number (of_z w64 z)) s s'
  bodied-int z s s' h e = record { inner = []; grew = grew_none s s' e; means = ap (λ y. some (int_value y)) (to_z-of_z {w = w64} (fits z h)) }

  pub bodied-bytes : (x : Place) (l : List ℕ) (s s' : State) → contents input x ≡ l → s'.pools ≡ s.pools → Bodied 5 (bytes_value l) (content x) s s'
  bodied-bytes x l s s' c e = record { inner = []; grew = grew_none s s' e; means = ap (λ y. some (bytes_value y)) c }

  pub bodied-list : (l : List Item) (s s' : State) → Grew s s' l → Bodied 6 (list_value (values l)) (number 0) s s'
  bodied-list l s s' g = record { inner = l; grew = g; means = refl }

  pub bodied-map : (l : List Item) (s s' : State) → Grew s s' l → Bodied 7 (map_value (entries l)) (number 0) s s'
  bodied-map l s s' g = record { inner = l; grew = g; means = refl }

  -- A node was taken at j, blank as yet (m); its body was read (q); then it is written.
  pub closing : (s m q : State) (j : ℕ) (key : Place) (k : Text) (t : ℕ) (b : Body) (v : Value) → j ≡ length s.pools.nodes → m.pools ≡ add_nodes (blank_node ∷ []) s.pools → contents input key ≡ k → Bodied t v b m q → Grew s (close j key t b q).1 ((k, v) ∷ [])
  closing s m q j key k t b v e r c h =
      let ns = h.grew.nodes in
      let whole : q.pools ≡ add_nodes ns (add_nodes (blank_node ∷ []) s.pools) = h.grew.kept ∙ ap (add_nodes ns) r in
      let all : q.pools.nodes ≡ s.pools.nodes ++ blank_node ∷ ns = ap (λ p. p.nodes) whole ∙ append_assoc s.pools.nodes (blank_node ∷ []) ns in
      let node : Node = record { key = key; type_number = t; pattern = b.pattern; place = b.place; inside = length q.pools.nodes - j - 1 } in
      let size = ap length all ∙ length-append s.pools.nodes (blank_node ∷ ns) in
      let written : set q.pools.nodes j node ≡ s.pools.nodes ++ node ∷ ns = ap₂ (λ x n. set x n node) all e ∙ set-append_seam s.pools.nodes blank_node ns node in
      record {
        nodes = node ∷ ns;
        kept = ap (λ p. nodes_part.with (set q.pools.nodes j node) p) whole ∙ ap (λ x. nodes_part.with x s.pools) written;
        says = λ rest x o. rw (← c) (shown-node node ns rest h.inner x v (omega arith) (grew-shown m q h.inner h.grew) h.means o);
      }

  -- the range of the nodes that were added says what was added
  pub shown-range : (s s' : State) (l : List Item) → Grew s s' l → shown_in input (range_of (length s.pools.nodes) (length s'.pools.nodes - length s.pools.nodes)) s'.pools.nodes ≡ some l
  shown-range s s' l g =
      let there : s'.pools.nodes ≡ s.pools.nodes ++ g.nodes = ap (λ p. p.nodes) g.kept in
      let size = ap length there ∙ length-append s.pools.nodes g.nodes in
      let count : length s'.pools.nodes - length s.pools.nodes ≡ length g.nodes = omega arith in
      rw (count, there, within-last s.pools.nodes g.nodes) (grew-shown s s' l g)
