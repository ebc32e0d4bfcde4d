-- The reader of what is stepped over. It walks the value twice: once to see that it is whole, and then its texts take
-- their numbers. Assumes nothing.
use Rattle.std.proofs.Common.{◌≡◌, ℕ, zero, suc, ◌+◌, ◌*◌, Bool, true, false, List, [], ◌∷◌, map, drop, Some, None, Option, sym, refl, ap, ◌∙◌, subst, ap₂}
use borrow.Author.Tests.{clash}
use Rattle.msgpack.specs.declared.Item.{Item}
use Rattle.msgpack.specs.declared.Item.TheVariants as i
use Rattle.msgpack.specs.Items.{item_from}
use Rattle.utf8.specs.Machine.{well_formed}
use Rattle.utf8.specs.Table.{Formed}
use Rattle.utf8.proofs.Tables.{to_fold, from_fold}
use Rattle.refusal.specs.Runs.{ReadOn, repeat}
use Rattle.span.specs.Held.{fits}
use Rattle.span.specs.State.{Pools}
use Rattle.span.specs.declared.types.Place.{Place}
use Rattle.decode.specs.Binary.{part, enough}
use Rattle.decode.specs.Texts.{Strings}
use Rattle.decode.specs.Reader.{State, Room, Read, strings, on_strings}
use Rattle.skipped.specs.Skip.{moved, body, note_if, skip_of, headed, skip}
use Rattle.skipped.specs.Skip
use Rattle.skipped.specs.Over.{over}
use Rattle.wire.specs.Standing.{Standing, at, noting, Fits}
use Rattle.wire.specs.Form.{Form, Times, done, more, HeadAt, head, BytesAt, bytes}
use Rattle.wire.specs.Skipped.{SkippedOf, SkippedOver, skipped, SkippedAt, OtherAt}
use Rattle.wire.proofs.Grows.{Grows, fits-before, times-grown, skipped-grows}
use Rattle.meaning.specs.Standings.{contents, used, standing, rooms_of, among}
use Rattle.meaning.proofs.Reading.{Post, no, hit, then-post, post-map, pick_post, Does, does, then-does, does-map, both, pick_yes, pick_no, strings-post, strings-does, Stood, Reads}
use Rattle.meaning.proofs.Heads.{head-found, head-answered, fits-there}
use Rattle.meaning.proofs.Texts.{bytes-here, bytes_cut, noted-place, noted-fits, room-left}

abbrev Walk : Type 0
Walk = Unit {0} → ReadOn Strings (Unit {0})

-- The first walk leaves the texts as they are.
abbrev Keeps : Strings → Unit {0} → Strings → Type 0
Keeps s u t = t.texts ≡ s.texts

module _ (input : List ℕ) (most start : ℕ) where
  module _ {below : Walk} (hb : (u : Unit {0}) (s : Strings) → Post (Keeps s) (below u s)) where
    quiet-repeat : (n : ℕ) (u : Unit {0}) (s : Strings) → Post (Keeps s) (repeat below n u s)
    quiet-repeat zero u s = hit refl
    quiet-repeat (suc n) u s = then-post (hb u s) (λ v m h. post-map (quiet-repeat n v m) (λ w t k. k ∙ h))

    quiet-body : (n : ℕ) (s : Strings) → Post (Keeps s) (body input start n s)
    quiet-body n s = pick_post _ _ s (enough input s.at n) (λ e. hit refl) (λ e. no)

    quiet_of : (at : ℕ) (x : Item) (s : Strings) → Post (Keeps s) (skip_of input most false start below at x s)
    quiet_of at i.Nil s = hit refl
    quiet_of at (i.Bool b) s = hit refl
    quiet_of at (i.Unsigned n) s = hit refl
    quiet_of at (i.Signed z) s = hit refl
    quiet_of at (i.Float n) s = hit refl
    quiet_of at (i.Double n) s = hit refl
    quiet_of at (i.Str n) s = then-post (quiet-body n s) (λ u t h. hit h)
    quiet_of at (i.Bin n) s = quiet-body n s
    quiet_of at (i.Array n) s = quiet-repeat n tt s
    quiet_of at (i.Map n) s = quiet-repeat (2 * n) tt s
    quiet_of at (i.Ext n) s = quiet-body n s

    quiet-headed : (o : Option (Item × ℕ)) (s : Strings) → Post (Keeps s) (headed input most false start below o s)
    quiet-headed None s = no
    quiet-headed (Some (x, end)) s = quiet_of s.at x (moved end s)

  quiet : (d : ℕ) (u : Unit {0}) (s : Strings) → Post (Keeps s) (skip input most false start d u s)
  unfolding skip
  quiet zero u s = no
  quiet (suc d) u s = quiet-headed (quiet d) (item_from input s.at) s

not-formed : (l : List ℕ) → ¬ Formed l → well_formed l ≡ false
not-formed l h = go (well_formed l) refl
  where
    go : (b : Bool) → well_formed l ≡ b → b ≡ false
    go true e = absurd (h (from_fold l e))
    go false e = refl

formed-not : (l : List ℕ) → well_formed l ≡ false → ¬ Formed l
formed-not l e f = clash (sym e ∙ to_fold f)

module _ (input : List ℕ) (room : Room) (P : Pools) (start : ℕ) where
  abbrev Fit : Strings → Type 0
  Fit t = Fits (rooms_of room) (standing input (among P t))

  -- The second walk steps over nothing but what stands there.
  abbrev Over : Form (Unit {0}) → Strings → Unit {0} → Strings → Type 0
  Over X s u t = X tt (standing input (among P s)) (standing input (among P t)) × Fit t

  walk-body : (n : ℕ) (s : Strings) → Fit s → Post (λ u t. (t ≡ moved (s.at + n) s) × BytesAt n (part input s.at n) (standing input (among P s)) (standing input (among P (moved (s.at + n) s))) × Fit (moved (s.at + n) s)) (body input start n s)
  walk-body n s f = pick_post _ _ s (enough input s.at n) (λ e. hit (refl, bytes-here input n (among P s) e, fits-there input (among P s) (s.at + n) f)) (λ e. no)

  abbrev Behind : Form (Unit {0}) → Item → Strings → Unit {0} → Strings → Type 0
  Behind X x s u t = SkippedOf X x (standing input (among P s)) (standing input (among P t)) × Fit t

  module _ (X : Form (Unit {0})) {below : Walk} (hb : (u : Unit {0}) (s : Strings) → Fit s → Post (Over X s) (below u s)) where
    walk-repeat : (n : ℕ) (u : Unit {0}) (s : Strings) → Fit s → Post (λ v t. (l : List (Unit {0})) × Times X n l (standing input (among P s)) (standing input (among P t)) × Fit t) (repeat below n u s)
    walk-repeat zero u s f = hit ([], done, f)
    walk-repeat (suc n) u s f = then-post (hb u s f) (λ v m h. post-map (walk-repeat n v m h.1) (λ w t k. (tt ∷ k.0, more h.0 k.1, k.2)))

    walk-bytes : (x : Item) (n : ℕ) (s : Strings) → Fit s → ((l : List ℕ) (p q : Standing) → BytesAt n l p q → SkippedOf X x p q) → Post (Behind X x s) (body input start n s)
    walk-bytes x n s f k = post-map (walk-body n s f) (λ u t h. subst (λ t. Behind X x s u t) (sym h.0) (k _ _ _ h.1, h.2))

    walk-note : (at n : ℕ) (s : Strings) → BytesAt n (part input s.at n) (standing input (among P s)) (standing input (among P (moved (s.at + n) s))) → Fit (moved (s.at + n) s) → Post (Behind X (i.Str n) s) (note_if input room.texts true start at s.at n (moved (s.at + n) s))
    walk-note at n s h f =
        let t = moved (s.at + n) s in
        let c : Place = record { offset = s.at; length = n } in
        pick_post _ _ t (well_formed (part input s.at n)) (λ e.
        pick_post _ _ t (fits room.texts s.texts) (λ k.
        hit (subst (SkippedOf X (i.Str n) (standing input (among P s))) (sym (noted-place input (among P t) c)) (SkippedOf.text h (from_fold (part input s.at n) e)), noted-fits input (among P t) c f k)) (λ k. no)) (λ e.
        hit (SkippedOf.no_text h (formed-not (part input s.at n) e), f))

    walk_of : (at : ℕ) (x : Item) (s : Strings) → Fit s → Post (Behind X x s) (skip_of input room.texts true start below at x s)
    walk_of at i.Nil s f = hit (SkippedOf.nil, f)
    walk_of at (i.Bool b) s f = hit (SkippedOf.bool, f)
    walk_of at (i.Unsigned n) s f = hit (SkippedOf.unsigned, f)
    walk_of at (i.Signed z) s f = hit (SkippedOf.signed, f)
    walk_of at (i.Float n) s f = hit (SkippedOf.float, f)
    walk_of at (i.Double n) s f = hit (SkippedOf.double, f)
    walk_of at (i.Str n) s f =
        then-post (walk-body n s f) (λ u t h. subst (λ t. Post (Behind X (i.Str n) s) (note_if input room.texts true start at s.at n t)) (sym h.0) (walk-note at n s h.1 h.2))
    walk_of at (i.Bin n) s f = walk-bytes (i.Bin n) n s f (λ l p q h. SkippedOf.binary h)
    walk_of at (i.Array n) s f = post-map (walk-repeat n tt s f) (λ u t h. (SkippedOf.array h.1, h.2))
    walk_of at (i.Map n) s f = post-map (walk-repeat (2 * n) tt s f) (λ u t h. (SkippedOf.map h.1, h.2))
    walk_of at (i.Ext n) s f = walk-bytes (i.Ext n) n s f (λ l p q h. SkippedOf.ext h)

    walk-headed : (s : Strings) → Fit s → (o : Option (Item × ℕ)) → item_from input s.at ≡ o → Post (Over (SkippedOver X) s) (headed input room.texts true start below o s)
    walk-headed s f None e = no
    walk-headed s f (Some (x, end)) e = post-map (walk_of s.at x (moved end s) (fits-there input (among P s) end f)) (λ u t h. (skipped (head-found input (among P s) e) h.0, h.1))

  walk : (d : ℕ) (u : Unit {0}) (s : Strings) → Fit s → Post (Over (SkippedAt d) s) (skip input room.texts true start d u s)
  unfolding skip SkippedAt
  walk zero u s f = no
  walk (suc d) u s f = walk-headed (SkippedAt d) (walk d) s f (item_from input s.at) refl

  -- Where a walk stands; only the second knows the texts.
  record At (b : Bool) (t : Strings) (q : Standing) : Type 0 where
    left : drop t.at input ≡ q.bytes
    texts : b ≡ true → map (contents input) t.texts ≡ q.texts
    counts : used P ≡ q.used

  at_true : {t : Strings} {q : Standing} → At true t q → standing input (among P t) ≡ q
  at_true a j = record { bytes = a.left j; texts = a.texts refl j; used = a.counts j }

  at-any : (b : Bool) {t : Strings} {q : Standing} → standing input (among P t) ≡ q → At b t q
  at-any b e = record { left = ap (λ k. k.bytes) e; texts = λ h. ap (λ k. k.texts) e; counts = ap (λ k. k.used) e }

  module _ (b : Bool) where
    -- the head and bytes of an item
    record ReadHead (x : Item) (s : Strings) (q : Standing) : Type 0 where
      end : ℕ
      reads : item_from input s.at ≡ Some (x, end)
      stops : At b (moved end s) q

    head_read : {x : Item} {p q : Standing} → HeadAt x p q → (s : Strings) → At b s p → ReadHead x s q
    head_read (head {x} {p} {q} h) s a =
        let here : Standing = at p.bytes (standing input (among P s)) in
        let w = head-answered input (head {x = x} {p = here} h) (among P s) (λ j. at (a.left j) (standing input (among P s))) in
        record { end = w.end; reads = w.reads; stops = record { left = ap (λ k. k.bytes) w.stops; texts = a.texts; counts = a.counts } }

    record ReadBytes (n : ℕ) (l : List ℕ) (s : Strings) (q : Standing) : Type 0 where
      left : enough input s.at n ≡ true
      says : part input s.at n ≡ l
      stops : At b (moved (s.at + n) s) q

    bytes_read : {n : ℕ} {l : List ℕ} {p q : Standing} → BytesAt n l p q → (s : Strings) → At b s p → ReadBytes n l s q
    bytes_read {n} (bytes {l} {p} {q} many split) s a =
        let here : Standing = at p.bytes (standing input (among P s)) in
        let w = bytes_cut input (bytes {l = l} {p = here} many split) (among P s) (λ j. at (a.left j) (standing input (among P s))) in
        record { left = w.left; says = w.says; stops = record { left = ap (λ k. k.bytes) w.stops; texts = a.texts; counts = a.counts } }

  -- the string is noted by the second walk
  note-done : (b : Bool) (at n : ℕ) (s : Strings) (l : List ℕ) (q : Standing) → ReadBytes b n l s q → Formed l → Fits (rooms_of room) (noting l q) → Does (λ u t. At b t (noting l q)) (note_if input room.texts b start at s.at n (moved (s.at + n) s))
  note-done true at n s l q w f i =
      let t = moved (s.at + n) s in
      let c : Place = record { offset = s.at; length = n } in
      let here = at_true w.stops in
      pick_yes _ _ t (ap well_formed w.says ∙ to_fold f) (
      pick_yes _ _ t (room-left input l q (among P t) i here) (
      does (at-any true (noted-place input (among P t) c ∙ ap₂ noting w.says here))))
  note-done false at n s l q w f i = does (record { left = w.stops.left; texts = λ e. absurd (clash e); counts = w.stops.counts })

  pass-done : (b : Bool) (at n : ℕ) (s : Strings) (l : List ℕ) (q : Standing) → ReadBytes b n l s q → ¬ Formed l → Does (λ u t. At b t q) (note_if input room.texts b start at s.at n (moved (s.at + n) s))
  pass-done true at n s l q w f = pick_no _ _ (moved (s.at + n) s) (ap well_formed w.says ∙ not-formed l f) (does w.stops)
  pass-done false at n s l q w f = does w.stops

  module _ (b : Bool) where
    -- What stands there is stepped over.
    record Steps (X : Form (Unit {0})) (below : Walk) : Type 0 where
      over-it : {u : Unit {0}} {p q : Standing} → X u p q → Fits (rooms_of room) q → (v : Unit {0}) (s : Strings) → At b s p → Does (λ w t. At b t q) (below v s)

    steps-body : {n : ℕ} {l : List ℕ} {p q : Standing} → BytesAt n l p q → (s : Strings) → At b s p → Does (λ u t. At b t q) (body input start n s)
    steps-body h s a = let w = bytes_read b h s a in pick_yes _ _ s w.left (does w.stops)

    module _ {X : Form (Unit {0})} {below : Walk} (hx : Grows X) (hb : Steps X below) where
      steps-repeat : {n : ℕ} {l : List (Unit {0})} {p q : Standing} → Times X n l p q → Fits (rooms_of room) q → (u : Unit {0}) (s : Strings) → At b s p → Does (λ w t. At b t q) (repeat below n u s)
      steps-repeat done i u s a = does a
      steps-repeat (more h t) i u s a = then-does (hb.over-it h (fits-before (times-grown hx t) i) u s a) (λ v m k. steps-repeat t i v m k)

      steps_of : {x : Item} {p q : Standing} → SkippedOf X x p q → Fits (rooms_of room) q → (at : ℕ) (s : Strings) → At b s p → Does (λ u t. At b t q) (skip_of input room.texts b start below at x s)
      steps_of SkippedOf.nil i at s a = does a
      steps_of SkippedOf.bool i at s a = does a
      steps_of SkippedOf.unsigned i at s a = does a
      steps_of SkippedOf.signed i at s a = does a
      steps_of SkippedOf.float i at s a = does a
      steps_of SkippedOf.double i at s a = does a
      steps_of (SkippedOf.text {n} {l} {p} {q} h f) i at s a =
          let w = bytes_read b h s a in
          let there : Does (λ u t. t ≡ moved (s.at + n) s) (body input start n s) = pick_yes _ _ s w.left (does refl) in
          then-does there (λ u t e. subst (λ t. Does (λ u t. At b t (noting l q)) (note_if input room.texts b start at s.at n t)) (sym e) (note-done b at n s l q w f i))
      steps_of (SkippedOf.no_text {n} {l} {p} {q} h f) i at s a =
          let w = bytes_read b h s a in
          let there : Does (λ u t. t ≡ moved (s.at + n) s) (body input start n s) = pick_yes _ _ s w.left (does refl) in
          then-does there (λ u t e. subst (λ t. Does (λ u t. At b t q) (note_if input room.texts b start at s.at n t)) (sym e) (pass-done b at n s l q w f))
      steps_of (SkippedOf.binary h) i at s a = steps-body h s a
      steps_of (SkippedOf.array t) i at s a = steps-repeat t i tt s a
      steps_of (SkippedOf.map t) i at s a = steps-repeat t i tt s a
      steps_of (SkippedOf.ext h) i at s a = steps-body h s a

      steps-headed : {u : Unit {0}} {p q : Standing} → SkippedOver X u p q → Fits (rooms_of room) q → (s : Strings) → At b s p → Does (λ w t. At b t q) (headed input room.texts b start below (item_from input s.at) s)
      steps-headed (skipped {q = q} h k) i s a =
          let w = head_read b h s a in
          subst (λ o. Does (λ w t. At b t q) (headed input room.texts b start below o s)) (sym w.reads) (steps_of k i s.at (moved w.end s) w.stops)

    steps : (d : ℕ) {u : Unit {0}} {p q : Standing} → SkippedAt d u p q → Fits (rooms_of room) q → (v : Unit {0}) (s : Strings) → At b s p → Does (λ w t. At b t q) (skip input room.texts b start d v s)
    unfolding skip SkippedAt
    steps zero h i v s a = absurd h
    steps (suc d) h i v s a = steps-headed (skipped-grows d) (record { over-it = steps d }) h i s a

module _ (input : List ℕ) (room : Room) where
  -- both walks
  abbrev step_over : Read (Unit {0})
  step_over s = on_strings (Skip.skipped input room.texts (strings s)) s

  again : (s : State) (t : Strings) → t.texts ≡ s.texts → strings s ≡ moved s.at t
  again s t e j = record { at = s.at; texts = sym e j }

  step-sound : (s : State) → Fits (rooms_of room) (standing input s) → Post (λ u s'. Stood input room OtherAt s s') (step_over s)
  step-sound s i =
      strings-post s (then-post (quiet input room.texts s.at 64 tt (strings s)) (λ u t e.
      subst (λ m. Post (λ u t. Stood input room OtherAt s (among s.pools t)) (skip input room.texts true s.at 64 tt m)) (again s t e) (
      post-map (walk input room s.pools s.at 64 tt (strings s) i) (λ v t h. (tt, h.0, h.1)))))

  step-complete : {u : Unit {0}} {p q : Standing} → OtherAt u p q → Fits (rooms_of room) q → (s : State) → standing input s ≡ p → Does (λ v s'. (standing input s' ≡ q) × (s'.pools ≡ s.pools)) (step_over s)
  step-complete {q = q} h i s e =
      let P = s.pools in
      let first = both (steps input room P s.at false 64 h i tt (strings s) (at-any input room P s.at false e)) (quiet input room.texts s.at 64 tt (strings s)) in
      strings-does s (then-does first (λ u t k.
      subst (λ m. Does (λ v t. (standing input (among P t) ≡ q) × (P ≡ P)) (skip input room.texts true s.at 64 tt m)) (again s t k.1) (
      does-map (steps input room P s.at true 64 h i tt (strings s) (at-any input room P s.at true e)) (λ v t a. (at_true input room P s.at a, refl)))))

  -- c stays what it is, and no record is taken
  pub reads_over : {C : Type 0} (c : C) → Reads input room OtherAt (over input room c) (λ u d s s'. (d ≡ c) × (s'.pools ≡ s.pools))
  reads_over c = record {
    sound = λ s i. then-post (step-sound s i) (λ u s' h. hit h);
    complete = λ h i s e. then-does (step-complete h i s e) (λ u s' k. does (k.0, (refl, k.1)));
    fits = λ h. fits-before ((skipped-grows 64).grows h);
  }
