-- What records say is the same when more is added behind. Assumes nothing.
use Rattle.std.proofs.Common.{◌≡◌, ℕ, suc, ◌+◌, Bool, true, false, leb, List, [], ◌∷◌, ◌++◌, length, take, drop, sym, refl, ap, ◌∙◌, append_assoc, append-nil, arith, length-append, length-drop, ne_eqb, le-leb, leb-true}
use mathlib.Core.Option.{Option, some, none, none-ne-some}
use lib.Seq.{drop-append_seam, take-append-le, drop-append-le, take-length}
use Rattle.span.specs.Blank.{no_range, range_of}
use Rattle.span.specs.State.{Pools}
use Rattle.span.specs.declared.types.Range.{Range}
use Rattle.span.specs.declared.types.Node.{Node}
use Rattle.span.specs.declared.types.SpanLink.{SpanLink}
use Rattle.span.specs.declared.types.SpanEvent.{SpanEvent}
use Rattle.span.specs.declared.types.Span.{Span}
use Rattle.span.specs.declared.types.TraceChunk.{TraceChunk}
use Rattle.span.specs.declared.types.TracerPayload.{TracerPayload}
use Rattle.meaning.specs.Shown.{choose, also, shown_all, within, shown_in, shown_link, shown_links, shown_event, shown_events, shown_span, shown_spans, shown_chunk, shown_chunks, shown_payload}

-- where o says something, o' says the same
abbrev pub Same : {A : Type 0} → Option A → Option A → Type 0
Same {A} o o' = (a : A) → o ≡ some a → o' ≡ some a

pub also-same : {A B : Type 0} (o o' : Option A) (f f' : A → Option B) → Same o o' → ((a : A) → Same (f a) (f' a)) → Same (also o f) (also o' f')
also-same none o' f f' h k b e = absurd (none-ne-some _ e)
also-same (some a) o' f f' h k b e = rw (h a refl) (k a b e)

pub all_same : {T V : Type 0} (f f' : T → Option V) → ((x : T) → Same (f x) (f' x)) → (l : List T) → Same (shown_all f l) (shown_all f' l)
all_same f f' h [] = λ v e. e
all_same f f' h (x ∷ l) = also-same (f x) (f' x) _ _ (h x) (λ v. also-same (shown_all f l) (shown_all f' l) _ _ (all_same f f' h l) (λ k w e. e))

-- where `also` says something, so did both
pub record Both {A B : Type 0} (o : Option A) (f : A → Option B) (b : B) : Type 0 where
  pub value : A
  pub first : o ≡ some value
  pub second : f value ≡ some b

pub both : {A B : Type 0} (o : Option A) (f : A → Option B) (b : B) → also o f ≡ some b → Both o f b
both none f b e = absurd (none-ne-some _ e)
both (some a) f b e = record { value = a; first = refl; second = e }

-- the first record, and the others
record Apart {T V : Type 0} (f : T → Option V) (x : T) (l : List T) (vs : List V) : Type 0 where
  head : V
  tail : List V
  says : f x ≡ some head
  others : shown_all f l ≡ some tail
  whole : head ∷ tail ≡ vs

apart : {T V : Type 0} (f : T → Option V) (x : T) (l : List T) (vs : List V) → shown_all f (x ∷ l) ≡ some vs → Apart f x l vs
apart f x l vs e =
    let a = both (f x) _ vs e in
    let b = both (shown_all f l) _ vs a.second in
    let w : a.value ∷ b.value ≡ vs = cc b.second in
    record { head = a.value; tail = b.value; says = a.first; others = b.first; whole = w }

-- more records say more
pub all-also : {T V : Type 0} (f : T → Option V) (l k : List T) (vs ws : List V) → shown_all f l ≡ some vs → shown_all f k ≡ some ws → shown_all f (l ++ k) ≡ some (vs ++ ws)
all-also f [] k vs ws a b = let e : [] ≡ vs = cc in rw (← e) b
all-also f (x ∷ l) k vs ws a b = let h = apart f x l vs a in rw (h.says, all-also f l k h.tail ws h.others b) (ap (λ y. some (y ++ ws)) h.whole)

-- each of the records says one thing
pub all-length : {T V : Type 0} (f : T → Option V) (l : List T) (vs : List V) → shown_all f l ≡ some vs → length l ≡ length vs
all-length f [] vs a = let e : [] ≡ vs = cc in ap length e
all-length f (x ∷ l) vs a = let h = apart f x l vs a in ap suc (all-length f l h.tail h.others) ∙ ap length h.whole

-- one record
pub all_one : {T V : Type 0} (f : T → Option V) (x : T) (v : V) → f x ≡ some v → shown_all f (x ∷ []) ≡ some (v ∷ [])
all_one f x v e = rw e

-- a range of what is there is the same with more behind
pub within_same : {T : Type 0} (r : Range) (l more : List T) → Same (within r l) (within r (l ++ more))
within_same r l more x h = go (leb (r.first + r.count) (length l)) refl h
  where
    go : (b : Bool) → leb (r.first + r.count) (length l) ≡ b → choose b (some (take r.count (drop r.first l))) none ≡ some x → within r (l ++ more) ≡ some x
    go true e h =
        let a = leb-true _ _ e in
        let b = length-drop r.first l in
        rw (le-leb (r.first + r.count) (length (l ++ more)) (omega (arith, length-append l more)), drop-append-le r.first l more (omega arith), take-append-le r.count (drop r.first l) more (omega arith)) h
    go false e h = absurd (none-ne-some _ h)

-- none of them
pub within_none : {T : Type 0} (l : List T) → within no_range l ≡ some []
within_none l = rw (le-leb 0 (length l) (omega arith))

-- those that were added last
pub within-last : {T : Type 0} (l new : List T) → within (range_of (length l) (length new)) (l ++ new) ≡ some new
within-last l [] = within_none (l ++ [])
within-last l (x ∷ k) =
    let n = length (x ∷ k) in
    rw (ne_eqb n 0 (λ e. omega arith), le-leb (length l + n) (length (l ++ x ∷ k)) (omega (arith, length-append l (x ∷ k))), drop-append_seam l (x ∷ k), take-length (x ∷ k))

-- and what they say
pub shown-last : {T V : Type 0} (f : T → Option V) (l new : List T) (vs : List V) → shown_all f new ≡ some vs → also (within (range_of (length l) (length new)) (l ++ new)) (shown_all f) ≡ some vs
shown-last f l new vs e = rw (within-last l new) e

-- a pool, with more behind
pub record Behind {T : Type 0} (l l' : List T) : Type 0 where
  pub more : List T
  pub all : l' ≡ l ++ more

pub behind-none : {T : Type 0} (l : List T) → Behind l l
behind-none l = record { more = []; all = sym (append-nil l) }

pub behind-also : {T : Type 0} {l m k : List T} → Behind l m → Behind m k → Behind l k
behind-also {l} a b = record { more = a.more ++ b.more; all = b.all ∙ ap (λ x. x ++ b.more) a.all ∙ append_assoc l a.more b.more }

pub behind-is : {T : Type 0} {l l' : List T} → l' ≡ l → Behind l l'
behind-is {l} e = record { more = []; all = e ∙ sym (append-nil l) }

-- p' is p, with more behind in each pool
pub record Added (p p' : Pools) : Type 0 where
  pub chunks : Behind p.chunks p'.chunks
  pub spans : Behind p.spans p'.spans
  pub links : Behind p.links p'.links
  pub events : Behind p.events p'.events
  pub nodes : Behind p.nodes p'.nodes

pub added_none : (p : Pools) → Added p p
added_none p = record { chunks = behind-none _; spans = behind-none _; links = behind-none _; events = behind-none _; nodes = behind-none _ }

pub added_is : {p p' : Pools} → p' ≡ p → Added p p'
added_is {p} e = rw e (added_none p)

pub added-also : {p m p' : Pools} → Added p m → Added m p' → Added p p'
added-also a b =
    record {
      chunks = behind-also a.chunks b.chunks;
      spans = behind-also a.spans b.spans;
      links = behind-also a.links b.links;
      events = behind-also a.events b.events;
      nodes = behind-also a.nodes b.nodes;
    }

pub within-behind : {T : Type 0} (r : Range) {l l' : List T} → Behind l l' → Same (within r l) (within r l')
within-behind r {l} h x e = rw h.all (within_same r l h.more x e)

-- what a range of records says, where each of them says the same
range_same : {T V : Type 0} (f f' : T → Option V) (r : Range) {l l' : List T} → Behind l l' → ((x : T) → Same (f x) (f' x)) → Same (also (within r l) (shown_all f)) (also (within r l') (shown_all f'))
range_same f f' r {l} {l'} h k = also-same (within r l) (within r l') _ _ (within-behind r h) (all_same f f' k)

module _ (input : List ℕ) where
  pub in-same : (r : Range) {l l' : List Node} → Behind l l' → Same (shown_in input r l) (shown_in input r l')
  in-same r {l} {l'} h = also-same (within r l) (within r l') _ _ (within-behind r h) (λ x v e. e)

  module _ (p p' : Pools) (h : Added p p') where
    pub link-same : (x : SpanLink) → Same (shown_link input p x) (shown_link input p' x)
    link-same x = also-same _ _ _ _ (in-same x.attributes h.nodes) (λ a v e. e)

    pub event-same : (x : SpanEvent) → Same (shown_event input p x) (shown_event input p' x)
    event-same x = also-same _ _ _ _ (in-same x.attributes h.nodes) (λ a v e. e)

    pub links-same : (r : Range) → Same (shown_links input p r) (shown_links input p' r)
    links-same r = range_same _ _ r h.links link-same

    pub events-same : (r : Range) → Same (shown_events input p r) (shown_events input p' r)
    events-same r = range_same _ _ r h.events event-same

    pub span_same : (x : Span) → Same (shown_span input p x) (shown_span input p' x)
    span_same x =
        also-same _ _ _ _ (in-same x.attributes h.nodes) (λ a.
        also-same _ _ _ _ (links-same x.span_links) (λ l.
        also-same _ _ _ _ (events-same x.span_events) (λ k v e. e)))

    pub spans-same : (r : Range) → Same (shown_spans input p r) (shown_spans input p' r)
    spans-same r = range_same _ _ r h.spans span_same

    pub chunk-same : (x : TraceChunk) → Same (shown_chunk input p x) (shown_chunk input p' x)
    chunk-same x =
        also-same _ _ _ _ (in-same x.attributes h.nodes) (λ a.
        also-same _ _ _ _ (spans-same x.spans) (λ l v e. e))

    pub chunks-same : (r : Range) → Same (shown_chunks input p r) (shown_chunks input p' r)
    chunks-same r = range_same _ _ r h.chunks chunk-same

    pub payload_same : (x : TracerPayload) → Same (shown_payload input p x) (shown_payload input p' x)
    payload_same x =
        also-same _ _ _ _ (in-same x.attributes h.nodes) (λ a.
        also-same _ _ _ _ (chunks-same x.chunks) (λ l v e. e))
