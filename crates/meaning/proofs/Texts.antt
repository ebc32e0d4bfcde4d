-- The readers of binaries and of texts. Assumes nothing.
use Rattle.std.proofs.Common.{◌≡◌, ℕ, ◌+◌, ◌-◌, ◌<◌, ◌≤◌, Bool, true, false, cond, eqb, ltb, List, [], ◌∷◌, ◌++◌, length, get_or, take, drop, Some, None, Option, sym, refl, ap, ◌∙◌, subst, ap₂, arith, length-append, length-drop, take-append-drop, length-take-le, drop-drop, ltb-false, ltb-true, lt-ltb, eqb-true, le-leb, leb-true}
use lib.ListN.{length-map}
use lib.Seq.{take-append_seam, drop-append_seam}
use borrow.Author.Tests.{lt-leb}
use Rattle.std.proofs.lemmas.List.{drop_more, drop_all, map_push, get_or-map, length_push}
use Rattle.msgpack.specs.declared.Item.{Item}
use Rattle.msgpack.specs.declared.Item.TheVariants as i
use Rattle.msgpack.specs.Formats.{Head, positive_fixint, uint8, uint16, uint32, uint64, fixstr, str8, str16, str32}
use Rattle.msgpack.specs.Items.{item_from}
use Rattle.utf8.specs.Machine.{well_formed}
use Rattle.utf8.specs.Table.{Formed}
use Rattle.utf8.proofs.Tables.{to_fold, from_fold}
use Rattle.refusal.specs.Runs.{RanOn, then}
use Rattle.refusal.specs.declared.Layer.{Layer}
use Rattle.span.specs.Blank.{no_place}
use Rattle.span.specs.Held.{fits}
use Rattle.span.specs.declared.types.Place.{Place}
use Rattle.decode.specs.Binary.{part, enough, bin_of, bin_at, trace_id_of, trace_id_at}
use Rattle.decode.specs.Texts.{Strings, on_at, is_string, is_number, marker_at, length_of, string_by, note, found, number_of, text_by}
use Rattle.decode.specs.Texts
use Rattle.decode.specs.Reader.{State, Room, placed, strings, text}
use Rattle.wire.specs.Payload.{Text}
use Rattle.wire.specs.Standing.{Standing, noting, Fits}
use Rattle.wire.specs.Form.{HeadAt, head, BytesAt, bytes, BinaryAt, binary, TraceIdAt, trace_id, TextAt, literal, numbered}
use Rattle.wire.proofs.Grows.{fits-before, text-grows, binary-grows, trace_id-grows}
use Rattle.meaning.specs.Standings.{contents, standing, rooms_of, moved_to, among, Meaning}
use Rattle.meaning.proofs.Reading.{Post, no, hit, post-map, Does, does, does-map, pick_post, pick_yes, pick_no, place-post, place-does, strings-post, strings-does, Same, Stood, Reads}
use Rattle.meaning.proofs.Heads.{head-found, head-answered, takes-bin, item-sound, item-complete, fits-there}

module _ (input : List ℕ) where
  -- the next n bytes, if so many are left
  pub bytes-here : (n : ℕ) (s : State) → enough input s.at n ≡ true → BytesAt n (part input s.at n) (standing input s) (standing input (moved_to (s.at + n) s))
  bytes-here n s e =
      bytes
      (length-take-le n (drop s.at input) (omega (arith, leb-true _ _ e, length-drop s.at input)))
      (sym (take-append-drop n (drop s.at input)) ∙ ap (λ x. part input s.at n ++ x) (drop-drop n s.at input))

  pub record Cut (n : ℕ) (l : List ℕ) (s : State) (q : Standing) : Type 0 where
    pub left : enough input s.at n ≡ true
    pub says : part input s.at n ≡ l
    pub stops : standing input (moved_to (s.at + n) s) ≡ q

  pub bytes_cut : {n : ℕ} {l : List ℕ} {p q : Standing} → BytesAt n l p q → (s : State) → standing input s ≡ p → Cut n l s q
  bytes_cut {n} (bytes {l} {p} {q} many split) s e =
      let left : drop s.at input ≡ l ++ q = ap (λ k. k.bytes) e ∙ split in
      let behind : drop (s.at + n) input ≡ q = sym (drop-drop n s.at input) ∙ ap₂ drop (sym many) left ∙ drop-append_seam l q in
      record {
        left = le-leb n (length input - s.at) (omega (arith, length-drop s.at input, ap length left, length-append l q));
        says = ap₂ take (sym many) left ∙ take-append_seam l q;
        stops = λ j. record { bytes = behind j; texts = (e j).texts; used = (e j).used };
      }

  -- bytes are answered as their place
  abbrev pub Told : Meaning (List ℕ) Place
  Told a c s s' = (contents input c ≡ a) × (s'.pools ≡ s.pools)

  module _ (l : Layer) where
    bin-post : (s : State) {o : RanOn ℕ ℕ} → Post (λ n at. HeadAt (i.Bin n) (standing input s) (standing input (moved_to at s))) o → Post (λ c at. BinaryAt (contents input c) (standing input s) (standing input (moved_to at s))) (bin_of input l s.at o)
    bin-post s no = no
    bin-post s (hit {c = n} {s = at} h) = pick_post _ _ s.at (enough input at n) (λ e. hit (binary h (bytes-here n (moved_to at s) e))) (λ e. no)

    bin-does : (s : State) {o : RanOn ℕ ℕ} {n : ℕ} {x : List ℕ} {m q : Standing} → Does (λ c at. (c ≡ n) × (standing input (moved_to at s) ≡ m)) o → BytesAt n x m q → Does (λ c at. (contents input c ≡ x) × (standing input (moved_to at s) ≡ q)) (bin_of input l s.at o)
    bin-does s {x = x} {m} {q} (does {c} {s = at} h) b =
        let w = bytes_cut (subst (λ k. BytesAt k x m q) (sym h.0) b) (moved_to at s) h.1 in
        pick_yes _ _ s.at w.left (does (w.says, w.stops))

    bin-complete : {x : List ℕ} {p q : Standing} → BinaryAt x p q → (s : State) → standing input s ≡ p → Does (λ c at. (contents input c ≡ x) × (standing input (moved_to at s) ≡ q)) (bin_at input l s.at)
    bin-complete (binary h b) s e = bin-does s (item-complete input takes-bin l h s e) b

    trace-post : (s : State) {o : RanOn ℕ ℕ} → Post (λ n at. HeadAt (i.Bin n) (standing input s) (standing input (moved_to at s))) o → Post (λ c at. TraceIdAt c (standing input s) (standing input (moved_to at s))) (trace_id_of input l s.at o)
    trace-post s no = no
    trace-post s (hit {c = n} {s = at} h) =
        pick_post _ _ s.at (eqb n 16) (λ e.
        pick_post _ _ s.at (enough input at 16) (λ k. hit (trace_id (subst (λ n. HeadAt (i.Bin n) (standing input s) (standing input (moved_to at s))) (eqb-true _ _ e) h) (bytes-here 16 (moved_to at s) k))) (λ k. no)) (λ e. no)

    trace-does : (s : State) {o : RanOn ℕ ℕ} {x : List ℕ} {m q : Standing} → Does (λ c at. (c ≡ 16) × (standing input (moved_to at s) ≡ m)) o → BytesAt 16 x m q → Does (λ c at. (c ≡ x) × (standing input (moved_to at s) ≡ q)) (trace_id_of input l s.at o)
    trace-does s (does {c} {s = at} h) b =
        let w = bytes_cut b (moved_to at s) h.1 in
        pick_yes _ _ s.at (ap (λ n. eqb n 16) h.0) (pick_yes _ _ s.at w.left (does (w.says, w.stops)))

    trace-complete : {x : List ℕ} {p q : Standing} → TraceIdAt x p q → (s : State) → standing input s ≡ p → Does (λ c at. (c ≡ x) × (standing input (moved_to at s) ≡ q)) (trace_id_at input l s.at)
    trace-complete (trace_id h b) s e = trace-does s (item-complete input takes-bin l h s e) b

    module _ (room : Room) where
      pub reads-bin : Reads input room BinaryAt (placed (bin_at input l)) Told
      reads-bin = record {
        sound = λ s i. place-post s (post-map (bin-post s (item-sound input takes-bin l s)) (λ c n h. (contents input c, h, fits-there input s n i)));
        complete = λ h i s e. place-does s (does-map (bin-complete h s e) (λ c n k. (k.1, (k.0, refl))));
        fits = λ h. fits-before (binary-grows.grows h);
      }

      pub reads-trace_id : Reads input room TraceIdAt (placed (trace_id_at input l)) Same
      reads-trace_id = record {
        sound = λ s i. place-post s (post-map (trace-post s (item-sound input takes-bin l s)) (λ c n h. (c, h, fits-there input s n i)));
        complete = λ h i s e. place-does s (does-map (trace-complete h s e) (λ c n k. (k.1, (k.0, refl))));
        fits = λ h. fits-before (trace_id-grows.grows h);
      }

-- the first bytes of strings and of unsigned integers
string-low : (m : ℕ) → 0xa0 ≤ m → m ≤ 0xbf → is_string m ≡ true
string-low m a b = rw (le-leb 0xa0 m a, le-leb m 0xbf b)

number-low : (m : ℕ) → m ≤ 0x7f → (is_string m ≡ false) × (is_number m ≡ true)
number-low m a = (rw (lt-leb 0xa0 m (omega arith), lt-leb 0xd9 m (omega arith)), rw (le-leb m 0x7f a))

record First (l : List ℕ) (T : ℕ → Type 0) : Type 0 where
  first : ℕ
  rest : List ℕ
  begins : l ≡ first ∷ rest
  kind : T first

first-is : {T : ℕ → Type 0} (b : ℕ) (r : List ℕ) → T b → First (b ∷ r) T
first-is b r h = record { first = b; rest = r; begins = refl; kind = h }

string-first : {n : ℕ} {l q : List ℕ} → Head (i.Str n) l q → First l (λ b. is_string b ≡ true)
string-first (fixstr {n} {q} h) = first-is (0xa0 + n) q (string-low (0xa0 + n) (omega arith) (omega arith))
string-first (str8 s) = first-is 0xd9 _ refl
string-first (str16 s) = first-is 0xda _ refl
string-first (str32 s) = first-is 0xdb _ refl

number-first : {n : ℕ} {l q : List ℕ} → Head (i.Unsigned n) l q → First l (λ b. (is_string b ≡ false) × (is_number b ≡ true))
number-first (positive_fixint {n} {q} h) = first-is n q (number-low n (omega arith))
number-first (uint8 s) = first-is 0xcc _ (refl, refl)
number-first (uint16 s) = first-is 0xcd _ (refl, refl)
number-first (uint32 s) = first-is 0xce _ (refl, refl)
number-first (uint64 s) = first-is 0xcf _ (refl, refl)

module _ (input : List ℕ) where
  marker-is : (at b : ℕ) (r : List ℕ) → drop at input ≡ b ∷ r → marker_at input at ≡ Some b
  marker-is at b r h = go (ltb at (length input)) refl
    where
      go : (t : Bool) → ltb at (length input) ≡ t → cond t (Some (get_or input at 0)) None ≡ Some b
      go true e = let k = drop_more input at 0 (ltb-true _ _ e) in (cc)
      go false e = let k = drop_all at input (ltb-false _ _ e) in let z : ◌≡◌ {A = ℕ} 0 1 = cc in absurd (omega arith)

  record Marked (at : ℕ) (T : ℕ → Type 0) : Type 0 where
    byte : ℕ
    there : marker_at input at ≡ Some byte
    kind : T byte

  marked : {T : ℕ → Type 0} {l : List ℕ} (at : ℕ) → drop at input ≡ l → First l T → Marked at T
  marked at e f = record { byte = f.first; there = marker-is at f.first f.rest (e ∙ f.begins); kind = f.kind }

  string-marked : {n : ℕ} {p q : Standing} → HeadAt (i.Str n) p q → (at : ℕ) → drop at input ≡ p.bytes → Marked at (λ b. is_string b ≡ true)
  string-marked (head h) at e = marked at e (string-first h)

  number-marked : {n : ℕ} {p q : Standing} → HeadAt (i.Unsigned n) p q → (at : ℕ) → drop at input ≡ p.bytes → Marked at (λ b. (is_string b ≡ false) × (is_number b ≡ true))
  number-marked (head h) at e = marked at e (number-first h)

  -- a text takes the next number
  pub noted-place : (s : State) (c : Place) → standing input (record { at = s.at; texts = s.texts ++ c ∷ []; pools = s.pools }) ≡ noting (contents input c) (standing input s)
  noted-place s c j = record { bytes = drop s.at input; texts = map_push (contents input) s.texts c j; used = (standing input s).used }

  pub noted-fits : {room : Room} (s : State) (c : Place) → Fits (rooms_of room) (standing input s) → fits room.texts s.texts ≡ true → Fits (rooms_of room) (standing input (record { at = s.at; texts = s.texts ++ c ∷ []; pools = s.pools }))
  noted-fits s c i e = record { texts = omega (arith, length-map (s.texts ++ c ∷ []) (contents input), length_push s.texts c, ltb-true _ _ e); chunks = i.chunks; spans = i.spans; links = i.links; events = i.events; nodes = i.nodes }

  -- and there is room for it
  pub room-left : {room : Room} (t : Text) (q : Standing) (s : State) → Fits (rooms_of room) (noting t q) → standing input s ≡ q → fits room.texts s.texts ≡ true
  room-left {room} t q s i e = lt-ltb (length s.texts) room.texts (omega (arith, i.texts, length_push q.texts t, ap (λ k. length k.texts) e, length-map s.texts (contents input)))

  -- a string in full
  record Spelt (s : State) (c : Place) (at : ℕ) : Type 0 where
    size : ℕ
    offset : ℕ
    header : HeadAt (i.Str size) (standing input s) (standing input (moved_to offset s))
    body : BytesAt size (contents input c) (standing input (moved_to offset s)) (standing input (moved_to at s))
    formed : Formed (contents input c)

  length-post : (s : State) (o : Option (Item × ℕ)) → item_from input s.at ≡ o → Post (Spelt s) (length_of input o s.at)
  length-post s None e = no
  length-post s (Some (i.Nil, end)) e = no
  length-post s (Some (i.Bool b, end)) e = no
  length-post s (Some (i.Unsigned n, end)) e = no
  length-post s (Some (i.Signed z, end)) e = no
  length-post s (Some (i.Float n, end)) e = no
  length-post s (Some (i.Double n, end)) e = no
  length-post s (Some (i.Str n, end)) e =
      pick_post _ _ s.at (enough input end n) (λ k.
      pick_post _ _ s.at (well_formed (part input end n)) (λ f.
      hit (record { size = n; offset = end; header = head-found input s e; body = bytes-here input n (moved_to end s) k; formed = from_fold (part input end n) f })) (λ f. no)) (λ k. no)
  length-post s (Some (i.Bin n, end)) e = no
  length-post s (Some (i.Array n, end)) e = no
  length-post s (Some (i.Map n, end)) e = no
  length-post s (Some (i.Ext n, end)) e = no

  string-post : (s : State) (o : Option ℕ) → Post (Spelt s) (string_by input o s.at)
  string-post s None = no
  string-post s (Some m) = pick_post _ _ s.at (is_string m) (λ e. length-post s (item_from input s.at) refl) (λ e. no)

  module _ (room : Room) where
    abbrev Texted : State → Place → Strings → Type 0
    Texted s c t = Stood input room TextAt s (among s.pools t)

    note-post : (s : State) (c : Place) (n : ℕ) → Fits (rooms_of room) (standing input s) → Spelt s c n → Post (Texted s) (note input room.texts s.at c (record { at = n; texts = s.texts }))
    note-post s c n i h =
        pick_post _ _ (record { at = n; texts = s.texts }) (fits room.texts s.texts) (λ e.
        hit (contents input c, subst (TextAt (contents input c) (standing input s)) (sym (noted-place (moved_to n s) c)) (literal h.header h.body h.formed), noted-fits (moved_to n s) c (fits-there input s n i) e)) (λ e. no)

    literal-post : (s : State) → Fits (rooms_of room) (standing input s) → {o : RanOn ℕ Place} → Post (Spelt s) o → Post (Texted s) (then (on_at o (strings s)) (note input room.texts s.at))
    literal-post s i no = no
    literal-post s i (hit {c} {s = n} h) = note-post s c n i h

    known-post : (s : State) (n end : ℕ) → Fits (rooms_of room) (standing input s) → HeadAt (i.Unsigned n) (standing input s) (standing input (moved_to end s)) → (b : Bool) → ltb n (length s.texts) ≡ b → Post (Texted s) (found input (cond b (Some (get_or s.texts n no_place)) None) end (strings s))
    known-post s n end i h true e = hit (_, numbered h (omega (arith, ltb-true _ _ e, length-map s.texts (contents input))), fits-there input s end i)
    known-post s n end i h false e = no

    number_post : (s : State) → Fits (rooms_of room) (standing input s) → (o : Option (Item × ℕ)) → item_from input s.at ≡ o → Post (Texted s) (number_of input o (strings s))
    number_post s r None e = no
    number_post s r (Some (i.Nil, end)) e = no
    number_post s r (Some (i.Bool b, end)) e = no
    number_post s r (Some (i.Unsigned n, end)) e = known-post s n end r (head-found input s e) (ltb n (length s.texts)) refl
    number_post s r (Some (i.Signed z, end)) e = no
    number_post s r (Some (i.Float n, end)) e = no
    number_post s r (Some (i.Double n, end)) e = no
    number_post s r (Some (i.Str n, end)) e = no
    number_post s r (Some (i.Bin n, end)) e = no
    number_post s r (Some (i.Array n, end)) e = no
    number_post s r (Some (i.Map n, end)) e = no
    number_post s r (Some (i.Ext n, end)) e = no

    text-post : (s : State) → Fits (rooms_of room) (standing input s) → (o : Option ℕ) → Post (Texted s) (text_by input room.texts o (strings s))
    text-post s i None = no
    text-post s i (Some m) =
        pick_post _ _ (strings s) (is_string m) (λ e. literal-post s i (string-post s (marker_at input s.at))) (λ e.
        pick_post _ _ (strings s) (is_number m) (λ k. number_post s i (item_from input s.at) refl) (λ k. no))

    -- what a text says, and where it stops
    abbrev Says : Text → State → Standing → Place → Strings → Type 0
    Says a s q c t = (contents input c ≡ a) × (standing input (among s.pools t) ≡ q)

    abbrev Said : Text → State → Standing → Place → ℕ → Type 0
    Said a s q c n = (contents input c ≡ a) × (standing input (moved_to n s) ≡ q)

    note-does : (s : State) (t : Text) (q : Standing) (c : Place) (n : ℕ) → Fits (rooms_of room) (noting t q) → Said t s q c n → Does (Says t s (noting t q)) (note input room.texts s.at c (record { at = n; texts = s.texts }))
    note-does s t q c n i h =
        pick_yes _ _ (record { at = n; texts = s.texts }) (room-left t q (moved_to n s) i h.1) (
        does (h.0, noted-place (moved_to n s) c ∙ ap₂ noting h.0 h.1))

    literal-does : (s : State) {t : Text} {q : Standing} → Fits (rooms_of room) (noting t q) → {o : RanOn ℕ Place} → Does (Said t s q) o → Does (Says t s (noting t q)) (then (on_at o (strings s)) (note input room.texts s.at))
    literal-does s {t} {q} i (does {c} {s = n} h) = note-does s t q c n i h

    string-does : {n : ℕ} {t : Text} {p m q : Standing} → HeadAt (i.Str n) p m → BytesAt n t m q → Formed t → (s : State) → standing input s ≡ p → (b : ℕ) → is_string b ≡ true → Does (Said t s q) (string_by input (Some b) s.at)
    string-does {t = t} {q = q} h k f s e b is =
        let w = head-answered input h s e in
        let x = bytes_cut input k (moved_to w.end s) w.stops in
        pick_yes _ _ s.at is (subst (λ o. Does (Said t s q) (length_of input o s.at)) (sym w.reads) (
        pick_yes _ _ s.at x.left (pick_yes _ _ s.at (ap well_formed x.says ∙ to_fold f) (does (x.says, x.stops)))))

    known-does : (s : State) {n : ℕ} {p q : Standing} (end : ℕ) → standing input s ≡ p → standing input (moved_to end s) ≡ q → n < length p.texts → Does (Says (get_or p.texts n []) s q) (found input (cond (ltb n (length s.texts)) (Some (get_or s.texts n no_place)) None) end (strings s))
    known-does s {n} {p} {q} end e stops lt =
        let less : n < length s.texts = omega (arith, ap (λ k. length k.texts) e, length-map s.texts (contents input)) in
        let says : contents input (get_or s.texts n no_place) ≡ get_or p.texts n [] = sym (get_or-map (contents input) s.texts n no_place [] less) ∙ ap (λ k. get_or k.texts n []) e in
        subst (λ b. Does (Says (get_or p.texts n []) s q) (found input (cond b (Some (get_or s.texts n no_place)) None) end (strings s))) (sym (lt-ltb n (length s.texts) less)) (does (says, stops))

    text-does : {a : Text} {p q : Standing} → TextAt a p q → Fits (rooms_of room) q → (s : State) → standing input s ≡ p → Does (Says a s q) (text_by input room.texts (marker_at input s.at) (strings s))
    text-does (literal {t = t} {q = q} h k f) i s e =
        let m = string-marked h s.at (ap (λ k. k.bytes) e) in
        let there : Does (Says t s (noting t q)) (Texts.literal input room.texts (strings s)) = literal-does s i (subst (λ o. Does (Said t s q) (string_by input o s.at)) (sym m.there) (string-does h k f s e m.byte m.kind)) in
        subst (λ o. Does (Says t s (noting t q)) (text_by input room.texts o (strings s))) (sym m.there) (pick_yes _ _ (strings s) m.kind there)
    text-does (numbered {n} {p} {q} h lt) i s e =
        let m = number-marked h s.at (ap (λ k. k.bytes) e) in
        let w = head-answered input h s e in
        let a = get_or p.texts n [] in
        subst (λ o. Does (Says a s q) (text_by input room.texts o (strings s))) (sym m.there) (
        pick_no _ _ (strings s) m.kind.0 (pick_yes _ _ (strings s) m.kind.1 (
        subst (λ o. Does (Says a s q) (number_of input o (strings s))) (sym w.reads) (known-does s w.end e w.stops lt))))

    pub reads-text : Reads input room TextAt (text input room) (Told input)
    reads-text = record {
      sound = λ s i. strings-post s (text-post s i (marker_at input s.at));
      complete = λ h i s e. strings-does s (does-map (text-does h i s e) (λ c t k. (k.1, (k.0, refl))));
      fits = λ h. fits-before (text-grows.grows h);
    }
