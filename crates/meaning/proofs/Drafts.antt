-- Maps of fields, read into a draft: a record, and whether up to two fields that must be there were read. Assumes nothing.
use Rattle.std.proofs.Common.{◌≡◌, ℕ, Bool, true, false, ◌&&◌, ◌||◌, eqb, List, [], ◌∷◌, ◌++◌, sym, refl, ap, ◌∙◌, subst, eqb-true}
use mathlib.Core.Option.{Option}
use borrow.Author.Tests.{clash}
use Rattle.msgpack.specs.declared.Item.TheVariants as item
use Rattle.refusal.specs.Runs.{then, ◌>>=◌, give, refuse, pick, repeat}
use Rattle.refusal.specs.declared.Kind.TheVariants.{InvalidFormat}
use Rattle.refusal.specs.declared.Layer.{Layer}
use Rattle.span.specs.State.{Pools}
use Rattle.decode.specs.Items.{item_of, is_map, up_to}
use Rattle.decode.specs.Reader.{State, Room, Read, placed}
use Rattle.skipped.specs.Over.{over}
use Rattle.wire.specs.Standing.{Standing, Fits}
use Rattle.wire.specs.Form.{Form, Times, MapAt, map, KeyAt}
use Rattle.wire.specs.Skipped.{OtherAt}
use Rattle.wire.specs.Fields.{sees}
use Rattle.meaning.specs.Standings.{standing, rooms_of, Meaning}
use Rattle.meaning.proofs.Reading.{Post, no, hit, then-post, Does, does, then-does, does-map, Same, Reads, found, then_same, Adding, reads-repeat}
use Rattle.meaning.proofs.Heads.{CountAt, reads-item, takes-map, takes-natural}
use Rattle.meaning.proofs.Skips.{reads_over}
use Rattle.meaning.proofs.Fills.{Moving, Filled, filled_none, filled-also}

-- the record that a draft makes, whether the two were read, and the fields that say so
pub record Draft (D T F : Type 0) : Type 0 where
  pub get : D → T
  pub one : D → Bool
  pub two : D → Bool
  pub is_one : F → Bool
  pub is-two : F → Bool

pub or-true : (b : Bool) → b || true ≡ true
or-true true = refl
or-true false = refl

pub or-none : (b : Bool) → b || false ≡ true → b ≡ true
or-none true e = refl
or-none false e = e

pub or_some : {b : Bool} → b ≡ true → b || false ≡ true
or_some e = rw e

pub both_true : (a b : Bool) → a && b ≡ true → (a ≡ true) × (b ≡ true)
both_true true b e = (refl, e)
both_true false b e = absurd (clash e)

-- whether the key is j
pub by_eqb : {A : Type 0} (k j : ℕ) → (k ≡ j → A) → (eqb k j ≡ false → A) → A
by_eqb {A} k j h n = go (eqb k j) refl
  where
    go : (b : Bool) → eqb k j ≡ b → A
    go true e = h (eqb-true _ _ e)
    go false e = n e

sees_both : {F : Type 0} (kind : F → Bool) (l k : List F) (b : Bool) → sees kind (l ++ k) || b ≡ sees kind k || (sees kind l || b)
sees_both kind [] k b = refl
sees_both kind (f ∷ l) k b = go (kind f) (sees_both kind l k b)
  where
    go : (t : Bool) → sees kind (l ++ k) || b ≡ sees kind k || (sees kind l || b) → (t || sees kind (l ++ k)) || b ≡ sees kind k || ((t || sees kind l) || b)
    go true e = sym (or-true (sees kind k))
    go false e = e

module _ {D T V F : Type 0} (dr : Draft D T F) (show : Pools → T → Option V) (with : V → F → V) (In : State → State → Type 0) where
  -- the fields l were put into c, which is now d
  pub record Drafted (l : List F) (c d : D) (s s' : State) : Type 0 where
    pub fills : Filled show with In l (dr.get c) (dr.get d) s s'
    pub ones : dr.one d ≡ sees dr.is_one l || dr.one c
    pub twos : dr.two d ≡ sees dr.is-two l || dr.two c

  abbrev pub Drafts : D → Meaning (List F) D
  Drafts c l d s s' = Drafted l c d s s'

  pub drafting : Moving In → Adding Drafts
  drafting mv = record {
    none = λ c s s' e. record { fills = filled_none show with In mv (dr.get c) s s' e; ones = refl; twos = refl };
    also = λ c d e l k s m s' g h. record {
      fills = filled-also show with In mv l k (dr.get c) (dr.get d) (dr.get e) s m s' g.fills h.fills;
      ones = h.ones ∙ ap (λ b. sees dr.is_one k || b) g.ones ∙ sym (sees_both dr.is_one l k (dr.one c));
      twos = h.twos ∙ ap (λ b. sees dr.is-two k || b) g.twos ∙ sym (sees_both dr.is-two l k (dr.two c));
    };
  }

-- the record, if both were read
module _ {D T F : Type 0} (dr : Draft D T F) (layer : Layer) where
  abbrev pub finish_of : ℕ → D → Read T
  finish_of at d = pick (dr.one d) (pick (dr.two d) (give (dr.get d)) (refuse InvalidFormat layer at)) (refuse InvalidFormat layer at)

  pub finish-post : {Q : T → State → Type 0} (at : ℕ) (d : D) (s : State) → (dr.one d ≡ true → dr.two d ≡ true → Q (dr.get d) s) → Post Q (finish_of at d s)
  finish-post {Q} at d s h = go (dr.one d) (dr.two d) h
    where
      go : (a b : Bool) → (a ≡ true → b ≡ true → Q (dr.get d) s) → Post Q (pick a (pick b (give (dr.get d)) (refuse InvalidFormat layer at)) (refuse InvalidFormat layer at) s)
      go true true h = hit (h refl refl)
      go true false h = no
      go false true h = no
      go false false h = no

  pub finish-does : {Q : T → State → Type 0} (at : ℕ) (d : D) (s : State) → dr.one d ≡ true → dr.two d ≡ true → Q (dr.get d) s → Does Q (finish_of at d s)
  finish-does at d s a b h = rw (a, b) (does h)

module _ (input : List ℕ) (room : Room) (layer : Layer) where
  heads : Reads input room (CountAt item.Map) (placed (item_of is_map input layer)) Same
  heads = reads-item input takes-map layer room

  pub keys : Reads input room KeyAt (placed (item_of (up_to 0xff) input layer)) Same
  keys = reads-item input (takes-natural 0xff) layer room

  -- a map of fields, and what follows
  module _ {D F : Type 0} {X : Form F} {field : D → Read D} (Ms : D → Meaning (List F) D) (ad : Adding Ms) (hr : (d : D) → Reads input room X (field d) (λ f. Ms d (f ∷ []))) where
    loop : (n : ℕ) (d : D) → Reads input room (Times X n) (repeat field n d) (Ms d)
    loop = reads-repeat Ms ad hr

    pub map-post : {E : Type 0} {Q : E → State → Type 0} (d : D) (k : D → Read E) (s : State) → Fits (rooms_of room) (standing input s) → ((e : D) (q : State) (l : List F) → MapAt X l (standing input s) (standing input q) → Fits (rooms_of room) (standing input q) → Ms d l e s q → Post Q (k e q)) → Post Q (then (placed (item_of is_map input layer) s) (λ n. repeat field n d >>= k))
    map-post d k s i c =
        then-post (found heads s i) (λ n m h.
        then-post (found (loop n d) m h.0.2) (λ e q g.
        c e q g.0.0 (map (subst (λ a. CountAt item.Map a (standing input s) (standing input m)) (sym h.1.0) h.0.1) g.0.1) g.0.2 (ad.also d d e [] g.0.0 s m q (ad.none d s m h.1.1) g.1)))

    pub map-does : {E : Type 0} {Q : E → State → Type 0} (d : D) (k : D → Read E) {l : List F} {p q : Standing} → MapAt X l p q → Fits (rooms_of room) q → (s : State) → standing input s ≡ p → ((e : D) (m : State) → standing input m ≡ q → Ms d l e s m → Does Q (k e m)) → Does Q (then (placed (item_of is_map input layer) s) (λ n. repeat field n d >>= k))
    map-does d k (map {n} {l} h t) i s e c =
        then_same heads _ h ((loop n d).fits t i) s e (λ m f kept.
        then-does ((loop n d).complete t i m f) (λ x o g. c x o g.0 (ad.also d d x [] l s m o (ad.none d s m kept) g.1)))

    pub map-fits : D → {l : List F} {p q : Standing} → MapAt X l p q → Fits (rooms_of room) q → Fits (rooms_of room) p
    map-fits d (map {n} h t) i = heads.fits h ((loop n d).fits t i)

  -- one field: its key, and then its value, which is put into the draft
  module _ {D : Type 0} (at : ℕ → Read D) where
    pub one_field : {A C : Type 0} {Y : Form A} {r : Read C} {M : Meaning A C} {R : D → State → Type 0} (hr : Reads input room Y r M) (put : C → D) {k : ℕ} {a : A} {p m q : Standing} → at k ≡ (r >>= λ x. give (put x)) → KeyAt k p m → Y a m q → Fits (rooms_of room) q → (s : State) → standing input s ≡ p → ((x : C) (o s' : State) → o.pools ≡ s.pools → M a x o s' → R (put x) s') → Does (λ d s'. (standing input s' ≡ q) × R d s') (then (placed (item_of (up_to 0xff) input layer) s) at)
    one_field {R = R} hr put {q = q} is h g i s e k =
        then_same keys at h (hr.fits g i) s e (λ o d kept.
        subst (λ (f : Read D). Does (λ d s'. (standing input s' ≡ q) × R d s') (f o)) (sym is) (then-does (hr.complete g i o d) (λ x s' z. does (z.0, k x o s' kept z.1))))

    -- the same where the value is answered as it is
    pub one_same : {A : Type 0} {Y : Form A} {r : Read A} {R : D → State → Type 0} (hr : Reads input room Y r Same) (put : A → D) {k : ℕ} {a : A} {p m q : Standing} → at k ≡ (r >>= λ x. give (put x)) → KeyAt k p m → Y a m q → Fits (rooms_of room) q → (s : State) → standing input s ≡ p → ((s' : State) → s'.pools ≡ s.pools → R (put a) s') → Does (λ d s'. (standing input s' ≡ q) × R d s') (then (placed (item_of (up_to 0xff) input layer) s) at)
    one_same {R = R} hr put {q = q} is h g i s e k =
        then_same keys at h (hr.fits g i) s e (λ o d kept.
        subst (λ (f : Read D). Does (λ d s'. (standing input s' ≡ q) × R d s') (f o)) (sym is) (then_same hr _ g i o d (λ s' z more. does (z, k s' (more ∙ kept)))))

    -- and where it is stepped over
    pub one-other : {R : D → State → Type 0} (c : D) {k : ℕ} {u : Unit {0}} {p m q : Standing} → at k ≡ over input room c → KeyAt k p m → OtherAt u m q → Fits (rooms_of room) q → (s : State) → standing input s ≡ p → ((s' : State) → s'.pools ≡ s.pools → R c s') → Does (λ d s'. (standing input s' ≡ q) × R d s') (then (placed (item_of (up_to 0xff) input layer) s) at)
    one-other {R} c {q = q} is h g i s e k =
        then_same keys at h ((reads_over input room c).fits g i) s e (λ o d kept.
        subst (λ (f : Read D). Does (λ d s'. (standing input s' ≡ q) × R d s') (f o)) (sym is) (does-map ((reads_over input room c).complete g i o d) (λ x s' z. (z.0, subst (λ y. R y s') (sym z.1.0) (k s' (z.1.1 ∙ kept))))))
