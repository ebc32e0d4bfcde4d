-- The readers of items. Assumes nothing.
use Rattle.std.proofs.Common.{◌≡◌, ℕ, ◌-◌, ◌≤◌, Bool, true, false, cond, ltb, leb, List, length, drop, ℤ, pos, negsuc, Some, None, Option, sym, refl, ap, ◌∙◌, subst, arith, length-drop, ltb-true, lt-ltb, le-leb, leb-true}
use Rattle.msgpack.specs.declared.Item.{Item}
use Rattle.msgpack.specs.declared.Item.TheVariants as i
use Rattle.msgpack.specs.Items.{item_at, item_from}
use Rattle.msgpack.proofs.Places.{item-behind, from_some, rest-behind}
use Rattle.msgpack.proofs.Sound
use Rattle.msgpack.proofs.Complete
use Rattle.msgpack.proofs.Writings.{head-shorter}
use Rattle.refusal.specs.declared.Layer.{Layer}
use Rattle.decode.specs.Items.{is_bool, is_double, is_map, is_array, is_bin, integer, fits32, narrowed, signed32, up_to, or_refuse, item_taken, item_of}
use Rattle.decode.specs.Reader.{State, Room, placed}
use Rattle.wire.specs.Standing.{Standing, Fits}
use Rattle.wire.specs.Form.{Form, HeadAt, head, IntAt, unsigned, signed, NaturalAt, Within, SignedAt, within, BoolAt, DoubleAt}
use Rattle.wire.specs.Form
use Rattle.wire.proofs.Grows.{Grows, fits-before, head-grows, natural-grows, signed-grows}
use Rattle.wire.proofs.Ranges.{signed-within}
use Rattle.meaning.specs.Standings.{standing, rooms_of, moved_to}
use Rattle.meaning.proofs.Reading.{Post, no, hit, post-map, Does, does, does-map, place-post, place-does, Same, Reads}

-- if there is a value, it has the property P
pub data Opt {A : Type 0} (P : A → Type 0) : Option A → Type 0 where
  none : Opt P None
  some : {a : A} → P a → Opt P (Some a)

pub opt-if : {A : Type 0} {P : A → Type 0} (a : A) (b : Bool) → (b ≡ true → P a) → Opt P (cond b (Some a) None)
opt-if a true h = some (h refl)
opt-if a false h = none

-- the items for which f has a value are the writings of X
pub record Takes {A : Type 0} (f : Item → Option A) (X : Form A) : Type 0 where
  pub to : (x : Item) {p q : Standing} → HeadAt x p q → Opt (λ a. X a p q) (f x)
  pub from : {a : A} {p q : Standing} → X a p q → (x : Item) × HeadAt x p q × (f x ≡ Some a)
  pub grows : Grows X

-- item by item
abbrev Each : {A : Type 0} → (Item → Option A) → Form A → Standing → Standing → Item → Type 0
Each f X p q x = HeadAt x p q → Opt (λ a. X a p q) (f x)

module _ {A : Type 0} (f : Item → Option A) (X : Form A) where
  by-item : {p q : Standing} → Each f X p q i.Nil → ((b : Bool) → Each f X p q (i.Bool b)) → ((n : ℕ) → Each f X p q (i.Unsigned n)) → ((z : ℤ) → Each f X p q (i.Signed z)) → ((n : ℕ) → Each f X p q (i.Float n)) → ((n : ℕ) → Each f X p q (i.Double n)) → ((n : ℕ) → Each f X p q (i.Str n)) → ((n : ℕ) → Each f X p q (i.Bin n)) → ((n : ℕ) → Each f X p q (i.Array n)) → ((n : ℕ) → Each f X p q (i.Map n)) → ((n : ℕ) → Each f X p q (i.Ext n)) → (x : Item) → Each f X p q x
  by-item a b c d e f' g h j k l i.Nil = a
  by-item a b c d e f' g h j k l (i.Bool t) = b t
  by-item a b c d e f' g h j k l (i.Unsigned n) = c n
  by-item a b c d e f' g h j k l (i.Signed z) = d z
  by-item a b c d e f' g h j k l (i.Float n) = e n
  by-item a b c d e f' g h j k l (i.Double n) = f' n
  by-item a b c d e f' g h j k l (i.Str n) = g n
  by-item a b c d e f' g h j k l (i.Bin n) = h n
  by-item a b c d e f' g h j k l (i.Array n) = j n
  by-item a b c d e f' g h j k l (i.Map n) = k n
  by-item a b c d e f' g h j k l (i.Ext n) = l n

-- elsewhere there is as much room
pub fits-there : (input : List ℕ) {room : Room} (s : State) (n : ℕ) → Fits (rooms_of room) (standing input s) → Fits (rooms_of room) (standing input (moved_to n s))
fits-there input s n i = record { texts = i.texts; chunks = i.chunks; spans = i.spans; links = i.links; events = i.events; nodes = i.nodes }

module _ (input : List ℕ) where
  -- what the item reader answers stands there
  pub head-found : {x : Item} {end : ℕ} (s : State) → item_from input s.at ≡ Some (x, end) → HeadAt x (standing input s) (standing input (moved_to end s))
  head-found s e = head (Sound.sound (drop s.at input) (item-behind input s.at e))

  -- and what stands there, it answers
  pub record Answered (x : Item) (s : State) (q : Standing) : Type 0 where
    pub end : ℕ
    pub reads : item_from input s.at ≡ Some (x, end)
    pub stops : standing input (moved_to end s) ≡ q

  pub head-answered : {x : Item} {p q : Standing} → HeadAt x p q → (s : State) → standing input s ≡ p → Answered x s q
  head-answered (head {x} {p} {q} h) s e =
      let left : drop s.at input ≡ p.bytes = ap (λ k. k.bytes) e in
      let item : item_at (drop s.at input) ≡ Some (x, q) = ap item_at left ∙ Complete.complete h in
      let inside : s.at ≤ length input = omega (arith, head-shorter h, ap length left, length-drop s.at input) in
      record {
        end = length input - length q;
        reads = from_some input s.at inside x q item;
        stops = λ j. record { bytes = sym (rest-behind input s.at inside x q item) j; texts = (e j).texts; used = (e j).used };
      }

  module _ {A : Type 0} {f : Item → Option A} {X : Form A} (t : Takes f X) (l : Layer) where
    taken-or : {o : Option A} (s : State) (at end : ℕ) → Opt (λ a. X a (standing input s) (standing input (moved_to end s))) o → Post (λ a n. X a (standing input s) (standing input (moved_to n s))) (or_refuse o l at end)
    taken-or s at end none = no
    taken-or s at end (some h) = hit h

    item-post : (s : State) (o : Option (Item × ℕ)) → item_from input s.at ≡ o → Post (λ a n. X a (standing input s) (standing input (moved_to n s))) (item_taken f o l s.at)
    item-post s None e = no
    item-post s (Some (x, end)) e = taken-or s s.at end (t.to x (head-found s e))

    -- on the place alone
    pub item-sound : (s : State) → Post (λ a n. X a (standing input s) (standing input (moved_to n s))) (item_of f input l s.at)
    item-sound s = item-post s (item_from input s.at) refl

    pub item-complete : {a : A} {p q : Standing} → X a p q → (s : State) → standing input s ≡ p → Does (λ c n. (c ≡ a) × (standing input (moved_to n s) ≡ q)) (item_of f input l s.at)
    item-complete {a} {q = q} h s e =
        let (x, k, is) = t.from h in
        let w = head-answered k s e in
        let there : Does (λ c n. (c ≡ a) × (standing input (moved_to n s) ≡ q)) (or_refuse (f x) l s.at w.end) = rw is (does (refl, w.stops)) in
        subst (λ o. Does (λ c n. (c ≡ a) × (standing input (moved_to n s) ≡ q)) (item_taken f o l s.at)) (sym w.reads) there

    module _ (room : Room) where
      pub reads-item : Reads input room X (placed (item_of f input l)) Same
      reads-item = record {
        sound = λ s i. place-post s (post-map (item-sound s) (λ a n h. (a, h, fits-there input s n i)));
        complete = λ h i s e. place-does s (does-map (item-complete h s e) (λ c n k. (k.1, (k.0, refl))));
        fits = λ h. fits-before (t.grows.grows h);
      }

any_head : {A : Type 0} (item : A → Item) → Grows (λ a. HeadAt (item a))
any_head item = record { grows = head-grows.grows }

pub takes-bool : Takes is_bool BoolAt
takes-bool = record {
  to = λ x h. by-item is_bool BoolAt (λ h. none) (λ b h. some h) (λ n h. none) (λ z h. none) (λ n h. none) (λ n h. none) (λ n h. none) (λ n h. none) (λ n h. none) (λ n h. none) (λ n h. none) x h;
  from = λ {a} h. (i.Bool a, h, refl);
  grows = any_head i.Bool;
}

pub takes-double : Takes is_double DoubleAt
takes-double = record {
  to = λ x h. by-item is_double DoubleAt (λ h. none) (λ b h. none) (λ n h. none) (λ z h. none) (λ n h. none) (λ n h. some h) (λ n h. none) (λ n h. none) (λ n h. none) (λ n h. none) (λ n h. none) x h;
  from = λ {a} h. (i.Double a, h, refl);
  grows = any_head i.Double;
}

abbrev pub CountAt : (ℕ → Item) → Form ℕ
CountAt item n = HeadAt (item n)

pub takes-bin : Takes is_bin (CountAt i.Bin)
takes-bin = record {
  to = λ x h. by-item is_bin (CountAt i.Bin) (λ h. none) (λ b h. none) (λ n h. none) (λ z h. none) (λ n h. none) (λ n h. none) (λ n h. none) (λ n h. some h) (λ n h. none) (λ n h. none) (λ n h. none) x h;
  from = λ {a} h. (i.Bin a, h, refl);
  grows = any_head i.Bin;
}

pub takes_array : Takes is_array (CountAt i.Array)
takes_array = record {
  to = λ x h. by-item is_array (CountAt i.Array) (λ h. none) (λ b h. none) (λ n h. none) (λ z h. none) (λ n h. none) (λ n h. none) (λ n h. none) (λ n h. none) (λ n h. some h) (λ n h. none) (λ n h. none) x h;
  from = λ {a} h. (i.Array a, h, refl);
  grows = any_head i.Array;
}

pub takes-map : Takes is_map (CountAt i.Map)
takes-map = record {
  to = λ x h. by-item is_map (CountAt i.Map) (λ h. none) (λ b h. none) (λ n h. none) (λ z h. none) (λ n h. none) (λ n h. none) (λ n h. none) (λ n h. none) (λ n h. none) (λ n h. some h) (λ n h. none) x h;
  from = λ {a} h. (i.Map a, h, refl);
  grows = any_head i.Map;
}

-- the integers from 0 up
module _ (max : ℕ) where
  natural-to : (z : ℤ) {p q : Standing} → HeadAt (i.Signed z) p q → Opt (λ n. NaturalAt max n p q) (up_to max (i.Signed z))
  natural-to (pos n) h = opt-if n (leb n max) (λ e. Form.natural (signed h) (leb-true _ _ e))
  natural-to (negsuc n) h = none

  natural-from : {n : ℕ} {p q : Standing} → NaturalAt max n p q → (x : Item) × HeadAt x p q × (up_to max x ≡ Some n)
  natural-from (Form.natural {n} (unsigned h) le) = (i.Unsigned n, h, ap (λ b. cond b (Some n) None) (le-leb n max le))
  natural-from (Form.natural {n} (signed h) le) = (i.Signed (pos n), h, ap (λ b. cond b (Some n) None) (le-leb n max le))

  pub takes-natural : Takes (up_to max) (NaturalAt max)
  takes-natural = record {
    to = λ x h. by-item (up_to max) (NaturalAt max) (λ h. none) (λ b h. none) (λ n h. opt-if n (leb n max) (λ e. Form.natural (unsigned h) (leb-true _ _ e))) (λ z h. natural-to z h) (λ n h. none) (λ n h. none) (λ n h. none) (λ n h. none) (λ n h. none) (λ n h. none) (λ n h. none) x h;
    from = natural-from;
    grows = natural-grows;
  }

-- the integers with a sign
signed-from : {z : ℤ} {p q : Standing} → SignedAt 0x8000000000000000 z p q → (x : Item) × HeadAt x p q × (integer x ≡ Some z)
signed-from (within (unsigned {n} h) lt) = (i.Unsigned n, h, ap (λ b. cond b (Some (pos n)) None) (le-leb n 0x7fffffffffffffff (omega arith)))
signed-from (within (signed {z} h) lt) = (i.Signed z, h, refl)

pub takes-integer : Takes integer (SignedAt 0x8000000000000000)
takes-integer = record {
  to = λ x h. by-item integer (SignedAt 0x8000000000000000) (λ h. none) (λ b h. none) (λ n h. opt-if (pos n) (leb n 0x7fffffffffffffff) (λ e. within (unsigned h) (omega (arith, leb-true _ _ e)))) (λ z h. some (within (signed h) (signed-within h))) (λ n h. none) (λ n h. none) (λ n h. none) (λ n h. none) (λ n h. none) (λ n h. none) (λ n h. none) x h;
  from = signed-from;
  grows = signed-grows;
}

narrow : {p q : Standing} (z : ℤ) → IntAt z p q → Opt (λ y. SignedAt 0x80000000 y p q) (fits32 z)
narrow (pos n) h = opt-if (pos n) (ltb n 0x80000000) (λ e. within h (ltb-true _ _ e))
narrow (negsuc n) h = opt-if (negsuc n) (ltb n 0x80000000) (λ e. within h (ltb-true _ _ e))

narrow-all : {p q : Standing} {o : Option ℤ} → Opt (λ z. SignedAt 0x8000000000000000 z p q) o → Opt (λ y. SignedAt 0x80000000 y p q) (narrowed o)
narrow-all none = none
narrow-all (some (within {z} h lt)) = narrow z h

narrow-fits : (z : ℤ) → Within 0x80000000 z → (Within 0x8000000000000000 z) × (fits32 z ≡ Some z)
narrow-fits (pos n) lt = (omega arith, ap (λ b. cond b (Some (pos n)) None) (lt-ltb n 0x80000000 lt))
narrow-fits (negsuc n) lt = (omega arith, ap (λ b. cond b (Some (negsuc n)) None) (lt-ltb n 0x80000000 lt))

narrow-from : {z : ℤ} {p q : Standing} → SignedAt 0x80000000 z p q → (x : Item) × HeadAt x p q × (signed32 x ≡ Some z)
narrow-from (within {z} h lt) =
    let (wide, is) = narrow-fits z lt in
    let (x, k, e) = signed-from (within h wide) in
    (x, k, ap narrowed e ∙ is)

pub takes-signed32 : Takes signed32 (SignedAt 0x80000000)
takes-signed32 = record { to = λ x h. narrow-all (takes-integer.to x h); from = narrow-from; grows = signed-grows }
