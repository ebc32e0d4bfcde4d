-- The readers of records, and of ranges of them. Assumes nothing.
use Rattle.std.proofs.Common.{◌≡◌, ℕ, suc, true, ◌||◌, List, [], ◌∷◌, length, sym, refl, ap, ◌∙◌, subst}
use mathlib.Core.Option.{Option, some}
use Rattle.msgpack.specs.declared.Item.TheVariants as item
use Rattle.refusal.specs.Runs.{repeat}
use Rattle.refusal.specs.declared.Layer.{Layer}
use Rattle.span.specs.State.{Pools}
use Rattle.span.specs.declared.types.Range.{Range}
use Rattle.decode.specs.Items.{item_of, is_array}
use Rattle.decode.specs.Reader.{State, Room, Read, Part, placed, write_in}
use Rattle.spans.specs.Records.{record_in, records_in}
use Rattle.wire.specs.Standing.{Standing, Fits}
use Rattle.wire.specs.Form.{Form, Times, done, more, ArrayAt, array, MapAt}
use Rattle.wire.specs.Fields.{filled, sees}
use Rattle.wire.proofs.Grows.{Grows, fits-before}
use Rattle.meaning.specs.Standings.{standing, rooms_of}
use Rattle.meaning.specs.Shown.{also, within, shown_all}
use Rattle.meaning.proofs.Reading.{Post, hit, then-post, Does, does, then-does, Same, Stood, Reads, finds, then_same, Adding, reads-repeat}
use Rattle.meaning.proofs.Heads.{CountAt, reads-item, takes_array}
use Rattle.meaning.proofs.Counted.{Counts, reserve-sound, reserve-complete}
use Rattle.meaning.proofs.Takes.{Showing, Inside, Recorded, recorded-none, recorded-also, recorded-one, recorded-range}
use Rattle.meaning.proofs.Fills.{moving-inside}
use Rattle.meaning.proofs.Drafts.{Draft, Drafts, drafting, finish_of, finish-post, finish-does, map-post, map-does, map-fits}

-- a map of the fields l, which make v of v₀, and have what must be there
pub record Opened {D T V F : Type 0} (dr : Draft D T F) (with : V → F → V) (blank : D) (v₀ : V) (Y : Form F) (v : V) (p q : Standing) : Type 0 where
  pub fields : List F
  pub all : filled with v₀ fields ≡ v
  pub there : MapAt Y fields p q
  pub has_one : sees dr.is_one fields || dr.one blank ≡ true
  pub has-two : sees dr.is-two fields || dr.two blank ≡ true

-- those are the writings of X
pub record Shape {D T V F : Type 0} (dr : Draft D T F) (with : V → F → V) (blank : D) (v₀ : V) (count : Standing → Standing) (Y : Form F) (X : Form V) : Type 0 where
  pub make : (l : List F) {p q : Standing} → sees dr.is_one l || dr.one blank ≡ true → sees dr.is-two l || dr.two blank ≡ true → MapAt Y l (count p) q → X (filled with v₀ l) p q
  pub open_up : {v : V} {p q : Standing} → X v p q → Opened dr with blank v₀ Y v (count p) q
  pub grows : Grows X

module _ (input : List ℕ) (room : Room) (layer : Layer) where
  module _ {D T V F : Type 0} {part : Part T} {show : Pools → T → Option V} {above : Pools → Pools} (laws : Showing part show above) {count : Standing → Standing} (counts : Counts part count) (dr : Draft D T F) (finish : ℕ → D → Read T) (ends : (at : ℕ) (d : D) (s : State) → finish at d s ≡ finish_of dr layer at d s) (with : V → F → V) (blank : D) (v₀ : V) (says : (p : Pools) → show p (dr.get blank) ≡ some v₀) {Y : Form F} {X : Form V} (sh : Shape dr with blank v₀ count Y X) {field : D → Read D} (hr : (d : D) → Reads input room Y (field d) (λ f. Drafts dr show with (Inside laws) d (f ∷ []))) where
    adding : Adding (Drafts dr show with (Inside laws))
    adding = drafting dr show with (Inside laws) (moving-inside laws)

    record-sound : (s : State) → Fits (rooms_of room) (standing input s) → Post (λ u s'. Stood input room X s s') (record_in input room layer part field blank finish tt s)
    record-sound s i =
        then-post (reserve-sound input room counts layer s i) (λ j m h.
        map-post input room layer (Drafts dr show with (Inside laws)) adding hr blank _ m h.1 (λ d q l t f ms.
        let Q : T → State → Type 0 = λ x o. (x ≡ dr.get d) × (o ≡ q) × (dr.one d ≡ true) × (dr.two d ≡ true) in
        then-post (subst (Post Q) (sym (ends s.at d q)) (finish-post dr layer {Q = Q} s.at d q (λ a b. (refl, refl, a, b)))) (λ x o z.
        let same : standing input (write_in part j x o).1 ≡ standing input q = counts.as_many input o j x ∙ ap (standing input) z.1 in
        let here : MapAt Y l (count (standing input s)) (standing input q) = subst (λ p. MapAt Y l p (standing input q)) h.0 t in
        let stands = sh.make l (sym ms.ones ∙ z.2) (sym ms.twos ∙ z.3) here in
        hit (filled with v₀ l, subst (X (filled with v₀ l) (standing input s)) (sym same) stands, subst (Fits (rooms_of room)) (sym same) f))))

    record-complete : {v : V} {p q : Standing} → X v p q → Fits (rooms_of room) q → (s : State) → standing input s ≡ p → Does (λ u s'. (standing input s' ≡ q) × Recorded laws s s' (v ∷ [])) (record_in input room layer part field blank finish tt s)
    record-complete {v} {p} {q} h i s e =
        let w = sh.open_up h in
        let l = w.fields in
        let t = w.there in
        let f = map-fits input room layer (Drafts dr show with (Inside laws)) adding hr blank t i in
        then-does (reserve-complete input room counts layer f s e) (λ j m d.
        map-does input room layer (Drafts dr show with (Inside laws)) adding hr blank _ t i m d.0 (λ x o z ms.
        let Q : T → State → Type 0 = λ y c. (y ≡ dr.get x) × (c ≡ o) in
        then-does (subst (Does Q) (sym (ends s.at x o)) (finish-does dr layer {Q = Q} s.at x o (ms.ones ∙ w.has_one) (ms.twos ∙ w.has-two) (refl, refl))) (λ y c k.
        let row : Recorded laws s (write_in part j (dr.get x) o).1 (filled with v₀ l ∷ []) = recorded-one laws s m o j (dr.get x) (filled with v₀ l) d.1 d.2 ms.fills.inside (ms.fills.says v₀ (says m.pools)) in
        let row' : Recorded laws s (write_in part j y c).1 (v ∷ []) = rw (k.0, k.1, ← w.all) row in
        does (counts.as_many input c j y ∙ ap (standing input) k.1 ∙ z, row'))))

    pub reads-record : Reads input room X (record_in input room layer part field blank finish tt) (λ v u s s'. Recorded laws s s' (v ∷ []))
    reads-record = record { sound = record-sound; complete = record-complete; fits = λ h. fits-before (sh.grows.grows h) }

  -- as many records as the header says, as a range
  times-length : {A : Type 0} {X : Form A} {n : ℕ} {l : List A} {p q : Standing} → Times X n l p q → length l ≡ n
  times-length done = refl
  times-length (more h t) = ap suc (times-length t)

  module _ {T V : Type 0} {part : Part T} {show : Pools → T → Option V} {above : Pools → Pools} (laws : Showing part show above) where
    -- records were added that say vs, and the range shows them
    pub record Listed (vs : List V) (r : Range) (s s' : State) : Type 0 where
      pub recorded : Recorded laws s s' vs
      pub shows : also (within r (part.of s'.pools)) (shown_all (show s'.pools)) ≡ some vs

    module _ {X : Form V} {one : Unit {0} → Read (Unit {0})} (hr : (u : Unit {0}) → Reads input room X (one u) (λ v w s s'. Recorded laws s s' (v ∷ []))) where
      many : (n : ℕ) → Reads input room (Times X n) (repeat one n tt) (λ vs w s s'. Recorded laws s s' vs)
      many n = reads-repeat (λ (u : Unit {0}) vs w s s'. Recorded laws s s' vs) (record { none = λ u s s' e. recorded-none laws s s' e; also = λ c d e l k s m s' g h. recorded-also laws s m s' l k g h }) hr n tt

      counted : Reads input room (CountAt item.Array) (placed (item_of is_array input layer)) Same
      counted = reads-item input takes_array layer room

      range-complete : {vs : List V} {p q : Standing} → ArrayAt X vs p q → Fits (rooms_of room) q → (s : State) → standing input s ≡ p → Does (λ r s'. (standing input s' ≡ q) × Listed vs r s s') (records_in input layer part one s)
      range-complete {vs} (array {n} h t) i s e =
          then_same counted _ h ((many n).fits t i) s e (λ m d kept.
          then-does ((many n).complete t i m d) (λ u q z.
          let all : Recorded laws s q vs = recorded-also laws s m q [] vs (recorded-none laws s m kept) z.1 in
          does (z.0, record { recorded = all; shows = rw (← times-length t) (recorded-range laws s q vs all) })))

      range-fits : {vs : List V} {p q : Standing} → ArrayAt X vs p q → Fits (rooms_of room) q → Fits (rooms_of room) p
      range-fits (array {n} h t) i = counted.fits h ((many n).fits t i)

      pub reads-range : Reads input room (ArrayAt X) (records_in input layer part one) Listed
      reads-range = record {
        sound = λ s i. then-post (finds counted s i) (λ n m h. then-post ((many n).sound m h.1) (λ u q z. hit (z.0, array h.0 z.1, z.2)));
        complete = range-complete;
        fits = range-fits;
      }
