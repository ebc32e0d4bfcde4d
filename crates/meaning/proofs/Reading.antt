-- What a reader and a relation have to do with one another. Assumes nothing.
use Rattle.std.proofs.Common.{◌≡◌, ℕ, zero, suc, Bool, true, false, List, [], ◌∷◌, ◌++◌, Ok, Err, sym, refl, subst}
use Rattle.refusal.specs.Runs.{RanOn, ReadOn, then, pick, repeat}
use Rattle.refusal.specs.declared.Refusal.{Refusal}
use Rattle.decode.specs.Texts.{Strings}
use Rattle.decode.specs.Reader.{State, Room, Read, on_strings, on_place}
use Rattle.wire.specs.Standing.{Standing, Fits}
use Rattle.wire.specs.Form.{Form, Times, done, more}
use Rattle.meaning.specs.Standings.{standing, rooms_of, moved_to, among, Meaning}

-- if there is an answer, it has the property P
pub data Post {S C : Type 0} (P : C → S → Type 0) : RanOn S C → Type 0 where
  no : {e : Refusal} {s : S} → Post P (Err e, s)
  hit : {c : C} {s : S} → P c s → Post P (Ok c, s)

-- there is an answer, and it has the property P
pub data Does {S C : Type 0} (P : C → S → Type 0) : RanOn S C → Type 0 where
  does : {c : C} {s : S} → P c s → Does P (Ok c, s)

module _ {S : Type 0} where
  pub then-post : {C D : Type 0} {P : C → S → Type 0} {Q : D → S → Type 0} {o : RanOn S C} {f : C → ReadOn S D} → Post P o → ((c : C) (s : S) → P c s → Post Q (f c s)) → Post Q (then o f)
  then-post no k = no
  then-post (hit {c} {s} h) k = k c s h

  pub then-does : {C D : Type 0} {P : C → S → Type 0} {Q : D → S → Type 0} {o : RanOn S C} {f : C → ReadOn S D} → Does P o → ((c : C) (s : S) → P c s → Does Q (f c s)) → Does Q (then o f)
  then-does (does {c} {s} h) k = k c s h

  pub post-map : {C : Type 0} {P Q : C → S → Type 0} {o : RanOn S C} → Post P o → ((c : C) (s : S) → P c s → Q c s) → Post Q o
  post-map no k = no
  post-map (hit {c} {s} h) k = hit (k c s h)

  pub does-map : {C : Type 0} {P Q : C → S → Type 0} {o : RanOn S C} → Does P o → ((c : C) (s : S) → P c s → Q c s) → Does Q o
  does-map (does {c} {s} h) k = does (k c s h)

  pub post_is : {C : Type 0} {P Q : C → S → Type 0} {o : RanOn S C} → Post P o → ((c : C) (s : S) → P c s → o ≡ (Ok c, s) → Q c s) → Post Q o
  post_is no k = no
  post_is (hit {c} {s} h) k = hit (k c s h refl)

  pub taken : {C : Type 0} {P : C → S → Type 0} {c : C} {s : S} → Does P (Ok c, s) → P c s
  taken (does h) = h

  pub given_by : {C : Type 0} {P : C → S → Type 0} {o : RanOn S C} → Does P o → (c : C) × (s : S) × (o ≡ (Ok c, s)) × P c s
  given_by (does {c} {s} h) = (c, s, refl, h)

  pub given : {C : Type 0} {P : C → S → Type 0} {c : C} {s : S} → Post P (Ok c, s) → P c s
  given (hit h) = h

  -- both at once
  pub both : {C : Type 0} {P Q : C → S → Type 0} {o : RanOn S C} → Does P o → Post Q o → Does (λ c s. P c s × Q c s) o
  both (does h) k = does (h, given k)

  module _ {C : Type 0} {Q : C → S → Type 0} (r r' : ReadOn S C) (s : S) where
    pub pick_post : (b : Bool) → (b ≡ true → Post Q (r s)) → (b ≡ false → Post Q (r' s)) → Post Q (pick b r r' s)
    pick_post true h k = h refl
    pick_post false h k = k refl

    pub pick_yes : {b : Bool} → b ≡ true → Does Q (r s) → Does Q (pick b r r' s)
    pick_yes e h = rw e h

    pub pick_no : {b : Bool} → b ≡ false → Does Q (r' s) → Does Q (pick b r r' s)
    pick_no e h = rw e h

-- what ran on a part of the state ran on the whole
module _ {C : Type 0} where
  pub place-post : {P : C → State → Type 0} {o : RanOn ℕ C} (s : State) → Post (λ c n. P c (moved_to n s)) o → Post P (on_place o s)
  place-post s no = no
  place-post s (hit h) = hit h

  pub place-does : {P : C → State → Type 0} {o : RanOn ℕ C} (s : State) → Does (λ c n. P c (moved_to n s)) o → Does P (on_place o s)
  place-does s (does h) = does h

  pub strings-post : {P : C → State → Type 0} {o : RanOn Strings C} (s : State) → Post (λ c t. P c (among s.pools t)) o → Post P (on_strings o s)
  strings-post s no = no
  strings-post s (hit h) = hit h

  pub strings-does : {P : C → State → Type 0} {o : RanOn Strings C} (s : State) → Does (λ c t. P c (among s.pools t)) o → Does P (on_strings o s)
  strings-does s (does h) = does h

-- the value is answered as it is, and no record is taken
abbrev pub Same : {A : Type 0} → Meaning A A
Same a c s s' = (c ≡ a) × (s'.pools ≡ s.pools)

-- what can be said of many, one after the other, each with what the last one gave
pub record Adding {A C : Type 0} (Ms : C → Meaning (List A) C) : Type 0 where
  pub none : (c : C) (s s' : State) → s'.pools ≡ s.pools → Ms c [] c s s'
  pub also : (c d e : C) (l k : List A) (s m s' : State) → Ms c l d s m → Ms d k e m s' → Ms c (l ++ k) e s s'

module _ (input : List ℕ) (room : Room) where
  -- X stands at the state s, up to the state s', and there was room
  abbrev pub Stood : {A : Type 0} → Form A → State → State → Type 0
  Stood {A} X s s' = (a : A) × X a (standing input s) (standing input s') × Fits (rooms_of room) (standing input s')

  -- the reader r reads X: it accepts nothing but what stands there, and that it accepts where there is room, with an answer that means it
  pub record Reads {A C : Type 0} (X : Form A) (r : Read C) (M : Meaning A C) : Type 0 where
    pub sound : (s : State) → Fits (rooms_of room) (standing input s) → Post (λ c s'. Stood X s s') (r s)
    pub complete : {a : A} {p q : Standing} → X a p q → Fits (rooms_of room) q → (s : State) → standing input s ≡ p → Does (λ c s'. (standing input s' ≡ q) × M a c s s') (r s)
    pub fits : {a : A} {p q : Standing} → X a p q → Fits (rooms_of room) q → Fits (rooms_of room) p

module _ {input : List ℕ} {room : Room} where
  module _ {A C : Type 0} {X : Form A} {r : Read C} {M : Meaning A C} (hr : Reads input room X r M) where
    -- what it accepts has its meaning too
    pub found : (s : State) → Fits (rooms_of room) (standing input s) → Post (λ c s'. (st : Stood input room X s s') × M st.0 c s s') (r s)
    found s i = post_is (hr.sound s i) (λ c s' st e. (st, (taken (subst (Does _) e (hr.complete st.1 st.2 s refl))).1))

    pub exact-sound : (s s' : State) (c : C) → Fits (rooms_of room) (standing input s) → r s ≡ (Ok c, s') → (a : A) × X a (standing input s) (standing input s') × Fits (rooms_of room) (standing input s') × M a c s s'
    exact-sound s s' c i e = let (st, m) = given (subst (Post _) e (found s i)) in (st.0, st.1, st.2, m)

    pub exact-complete : (s : State) (q : Standing) (a : A) → X a (standing input s) q → Fits (rooms_of room) q → (c : C) × (s' : State) × (r s ≡ (Ok c, s')) × (standing input s' ≡ q) × M a c s s'
    exact-complete s q a h i = let d = given_by (hr.complete h i s refl) in (d.0, d.1, d.2, d.3.0, d.3.1)

  module _ {A : Type 0} {X : Form A} {r : Read A} (hr : Reads input room X r Same) where
    pub finds : (s : State) → Fits (rooms_of room) (standing input s) → Post (λ c s'. X c (standing input s) (standing input s') × Fits (rooms_of room) (standing input s')) (r s)
    finds s i = post-map (found hr s i) (λ c s' h. (subst (λ a. X a (standing input s) (standing input s')) (sym h.1.0) h.0.1, h.0.2))

    pub then_same : {D : Type 0} {Q : D → State → Type 0} (f : A → Read D) {a : A} {p q : Standing} → X a p q → Fits (rooms_of room) q → (s : State) → standing input s ≡ p → ((s' : State) → standing input s' ≡ q → s'.pools ≡ s.pools → Does Q (f a s')) → Does Q (then (r s) f)
    then_same {Q = Q} f h i s e k = then-does (hr.complete h i s e) (λ c s' d. subst (λ a. Does Q (f a s')) (sym d.1.0) (k s' d.0 d.1.1))

  -- a loop
  module _ {A C : Type 0} {X : Form A} {step : C → Read C} (Ms : C → Meaning (List A) C) (ad : Adding Ms) (hr : (c : C) → Reads input room X (step c) (λ a. Ms c (a ∷ []))) where
    repeat-sound : (n : ℕ) (c : C) (s : State) → Fits (rooms_of room) (standing input s) → Post (λ d s'. Stood input room (Times X n) s s') (repeat step n c s)
    repeat-sound zero c s i = hit ([], done, i)
    repeat-sound (suc n) c s i =
        then-post ((hr c).sound s i) (λ d m h. post-map (repeat-sound n d m h.2) (λ e s' k. (h.0 ∷ k.0, more h.1 k.1, k.2)))

    repeat-fits : (c : C) {n : ℕ} {l : List A} {p q : Standing} → Times X n l p q → Fits (rooms_of room) q → Fits (rooms_of room) p
    repeat-fits c done i = i
    repeat-fits c (more h t) i = (hr c).fits h (repeat-fits c t i)

    repeat-complete : {n : ℕ} {l : List A} {p q : Standing} → Times X n l p q → Fits (rooms_of room) q → (c : C) (s : State) → standing input s ≡ p → Does (λ d s'. (standing input s' ≡ q) × Ms c l d s s') (repeat step n c s)
    repeat-complete done i c s e = does (e, ad.none c s s refl)
    repeat-complete (more h t) i c s e =
        then-does ((hr c).complete h (repeat-fits c t i) s e) (λ d m k. does-map (repeat-complete t i d m k.0) (λ x s' g. (g.0, ad.also c d x (_ ∷ []) _ s m s' k.1 g.1)))

    pub reads-repeat : (n : ℕ) (c : C) → Reads input room (Times X n) (repeat step n c) (Ms c)
    reads-repeat n c = record { sound = repeat-sound n c; complete = λ t i s e. repeat-complete t i c s e; fits = repeat-fits c }
