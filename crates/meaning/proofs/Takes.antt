-- Records as they are taken, filled and written: what they say, and what else changes. Assumes nothing.
use Rattle.std.proofs.Common.{◌≡◌, ℕ, Bool, true, false, List, [], ◌∷◌, ◌++◌, length, set, Ok, sym, refl, ap, ◌∙◌, ap₂, append_assoc, append-nil, arith}
use mathlib.Core.Option.{Option, some}
use lib.Seq.{set-append_seam}
use Rattle.span.specs.Blank.{range_of}
use Rattle.span.specs.State.{Pools, no_pools}
use Rattle.refusal.specs.Runs.{refuse, pick}
use Rattle.refusal.specs.declared.Kind.TheVariants.{PoolFull}
use Rattle.refusal.specs.declared.Layer.{Layer}
use Rattle.span.specs.Held.{fits}
use Rattle.decode.specs.Reader.{State, Room, Part, links_part, events_part, spans_part, chunks_part, with_pools, reserve_in, write_in}
use Rattle.wire.specs.Payload as wire
use Rattle.wire.specs.Payload.{Item, Link, Event, Chunk}
use Rattle.meaning.specs.Shown.{also, shown_all, within, shown_link, shown_links, shown_event, shown_events, shown_span, shown_spans, shown_chunk, shown_chunks}
use Rattle.meaning.proofs.Stays.{Same, all_same, all-also, all_one, all-length, shown-last, Behind, Added, added_is, added-also, link-same, event-same, span_same, chunk-same}
use Rattle.meaning.proofs.Shows.{Grew, grew-added}

-- what taking a record answers: the index right behind the others, and a blank record there
pub taken : {T : Type 0} (part : Part T) (layer : Layer) (room : Room) (s m : State) (j : ℕ) → reserve_in part layer room s ≡ (Ok j, m) → (j ≡ length (part.of s.pools)) × (m.pools ≡ part.with (part.of s.pools ++ part.blank ∷ []) s.pools)
taken part layer room s m j h = go (fits (part.room room.pools) (part.of s.pools)) h
  where
    go : (b : Bool) → pick b (λ t. (Ok (length (part.of t.pools)), with_pools (part.with (part.of t.pools ++ part.blank ∷ []) t.pools) t)) (refuse PoolFull layer s.at) s ≡ (Ok j, m) → (j ≡ length (part.of s.pools)) × (m.pools ≡ part.with (part.of s.pools ++ part.blank ∷ []) s.pools)
    go true e = let a = ap (λ r. r.0) e in ((cc a), sym (ap (λ r. r.1.pools) e))
    go false e = let a = ap (λ r. r.0) e in let z : ◌≡◌ {A = ℕ} 0 1 = cc in absurd (omega arith)

-- Records of one pool: what each says does not look at that pool, and what stands above it is not changed by it.
pub record Showing {T V : Type 0} (part : Part T) (show : Pools → T → Option V) (above : Pools → Pools) : Type 0 where
  pub put : (l : List T) (p : Pools) → part.of (part.with l p) ≡ l
  pub others : (p q : Pools) (l k : List T) → Added (part.with l p) q → Behind (part.of p) k → Added p (part.with k q)
  pub aside : (l : List T) (p : Pools) (x : T) → show (part.with l p) x ≡ show p x
  pub over : (l : List T) (p : Pools) → above (part.with l p) ≡ above p
  pub same : (p p' : Pools) → Added p p' → (x : T) → Same (show p x) (show p' x)

module _ {T V : Type 0} {part : Part T} {show : Pools → T → Option V} {above : Pools → Pools} (laws : Showing part show above) where
  -- while the fields of a record are read: no record of its own pool is added, and none above it
  pub record Inside (s s' : State) : Type 0 where
    pub added : Added s.pools s'.pools
    pub own : part.of s'.pools ≡ part.of s.pools
    pub over : above s'.pools ≡ above s.pools

  pub inside-none : (s s' : State) → s'.pools ≡ s.pools → Inside s s'
  inside-none s s' e = record { added = added_is e; own = ap part.of e; over = ap above e }

  pub inside-also : (s m s' : State) → Inside s m → Inside m s' → Inside s s'
  inside-also s m s' a b = record { added = added-also a.added b.added; own = b.own ∙ a.own; over = b.over ∙ a.over }

  -- from s to s' records were added that say vs; none above them
  pub record Recorded (s s' : State) (vs : List V) : Type 0 where
    pub rows : List T
    pub kept : part.of s'.pools ≡ part.of s.pools ++ rows
    pub added : Added s.pools s'.pools
    pub over : above s'.pools ≡ above s.pools
    pub says : shown_all (show s'.pools) rows ≡ some vs

  pub recorded-none : (s s' : State) → s'.pools ≡ s.pools → Recorded s s' []
  recorded-none s s' e = record { rows = []; kept = ap part.of e ∙ sym (append-nil (part.of s.pools)); added = added_is e; over = ap above e; says = refl }

  pub recorded-also : (s m s' : State) (vs ws : List V) → Recorded s m vs → Recorded m s' ws → Recorded s s' (vs ++ ws)
  recorded-also s m s' vs ws g h = record {
    rows = g.rows ++ h.rows;
    kept = h.kept ∙ ap (λ x. x ++ h.rows) g.kept ∙ append_assoc (part.of s.pools) g.rows h.rows;
    added = added-also g.added h.added;
    over = h.over ∙ g.over;
    says = all-also (show s'.pools) g.rows h.rows vs ws (all_same (show m.pools) (show s'.pools) (laws.same m.pools s'.pools h.added) g.rows vs g.says) h.says;
  }

  -- The next record was taken, blank as yet (m); its fields were read (q); then it is written, and is the last of its pool.
  pub written : (s m q : State) (j : ℕ) (x : T) → j ≡ length (part.of s.pools) → m.pools ≡ part.with (part.of s.pools ++ part.blank ∷ []) s.pools → part.of q.pools ≡ part.of m.pools → part.of (write_in part j x q).1.pools ≡ part.of s.pools ++ x ∷ []
  written s m q j x e r own =
      let l = part.of s.pools in
      let there : part.of q.pools ≡ l ++ part.blank ∷ [] = own ∙ ap part.of r ∙ laws.put (l ++ part.blank ∷ []) s.pools in
      laws.put (set (part.of q.pools) j x) q.pools ∙ ap₂ (λ y n. set y n x) there e ∙ set-append_seam l part.blank [] x

  pub recorded-one : (s m q : State) (j : ℕ) (x : T) (v : V) → j ≡ length (part.of s.pools) → m.pools ≡ part.with (part.of s.pools ++ part.blank ∷ []) s.pools → Inside m q → show q.pools x ≡ some v → Recorded s (write_in part j x q).1 (v ∷ [])
  recorded-one s m q j x v e r i says =
      let l = part.of s.pools in
      let k = set (part.of q.pools) j x in
      let last = written s m q j x e r i.own in
      let at-end : k ≡ l ++ x ∷ [] = sym (laws.put k q.pools) ∙ last in
      let middle : Added (part.with (l ++ part.blank ∷ []) s.pools) q.pools = rw r at i.added in
      record {
        rows = x ∷ [];
        kept = last;
        added = laws.others s.pools q.pools (l ++ part.blank ∷ []) k middle (record { more = x ∷ []; all = at-end });
        over = laws.over k q.pools ∙ i.over ∙ ap above r ∙ laws.over (l ++ part.blank ∷ []) s.pools;
        says = all_one (show (part.with k q.pools)) x v (laws.aside k q.pools x ∙ says);
      }

  -- as many records as they say things
  pub recorded-count : (s s' : State) (vs : List V) (g : Recorded s s' vs) → length g.rows ≡ length vs
  recorded-count s s' vs g = all-length (show s'.pools) g.rows vs g.says

  -- the range of the records that were added says what was added
  pub recorded-range : (s s' : State) (vs : List V) → Recorded s s' vs → also (within (range_of (length (part.of s.pools)) (length vs)) (part.of s'.pools)) (shown_all (show s'.pools)) ≡ some vs
  recorded-range s s' vs g = rw (← recorded-count s s' vs g, g.kept) (shown-last (show s'.pools) (part.of s.pools) g.rows vs g.says)

-- what stands above links and events, above spans, and above chunks
abbrev pub above_parts : Pools → Pools
above_parts p = record { chunks = p.chunks; spans = p.spans; links = []; events = []; nodes = [] }

abbrev pub above_spans : Pools → Pools
above_spans p = record { chunks = p.chunks; spans = []; links = []; events = []; nodes = [] }

abbrev pub above_chunks : Pools → Pools
above_chunks p = no_pools

module _ (input : List ℕ) where
  pub of_links : Showing links_part (shown_link input) above_parts
  of_links = record {
    put = λ l p. refl;
    others = λ p q l k h b. record { chunks = h.chunks; spans = h.spans; links = b; events = h.events; nodes = h.nodes };
    aside = λ l p x. refl;
    over = λ l p. refl;
    same = link-same input;
  }

  pub of_events : Showing events_part (shown_event input) above_parts
  of_events = record {
    put = λ l p. refl;
    others = λ p q l k h b. record { chunks = h.chunks; spans = h.spans; links = h.links; events = b; nodes = h.nodes };
    aside = λ l p x. refl;
    over = λ l p. refl;
    same = event-same input;
  }

  pub of_spans : Showing spans_part (shown_span input) above_spans
  of_spans = record {
    put = λ l p. refl;
    others = λ p q l k h b. record { chunks = h.chunks; spans = b; links = h.links; events = h.events; nodes = h.nodes };
    aside = λ l p x. refl;
    over = λ l p. refl;
    same = span_same input;
  }

  pub of_chunks : Showing chunks_part (shown_chunk input) above_chunks
  of_chunks = record {
    put = λ l p. refl;
    others = λ p q l k h b. record { chunks = b; spans = h.spans; links = h.links; events = h.events; nodes = h.nodes };
    aside = λ l p x. refl;
    over = λ l p. refl;
    same = chunk-same input;
  }

  -- attributes inside a record; links and events inside a span; spans inside a chunk
  module _ (s s' : State) where
    pub nodes-in-link : (l : List Item) → Grew input s s' l → Inside of_links s s'
    nodes-in-link l g = record { added = grew-added input s s' l g; own = ap (λ p. p.links) g.kept; over = ap above_parts g.kept }

    pub nodes-in-event : (l : List Item) → Grew input s s' l → Inside of_events s s'
    nodes-in-event l g = record { added = grew-added input s s' l g; own = ap (λ p. p.events) g.kept; over = ap above_parts g.kept }

    pub nodes-in-span : (l : List Item) → Grew input s s' l → Inside of_spans s s'
    nodes-in-span l g = record { added = grew-added input s s' l g; own = ap (λ p. p.spans) g.kept; over = ap above_spans g.kept }

    pub nodes-in-chunk : (l : List Item) → Grew input s s' l → Inside of_chunks s s'
    nodes-in-chunk l g = record { added = grew-added input s s' l g; own = ap (λ p. p.chunks) g.kept; over = refl }

    pub links-in-span : (vs : List Link) → Recorded of_links s s' vs → Inside of_spans s s'
    links-in-span vs g = record { added = g.added; own = ap (λ p. p.spans) g.over; over = ap above_spans g.over }

    pub events-in-span : (vs : List Event) → Recorded of_events s s' vs → Inside of_spans s s'
    events-in-span vs g = record { added = g.added; own = ap (λ p. p.spans) g.over; over = ap above_spans g.over }

    pub spans-in-chunk : (vs : List wire.Span) → Recorded of_spans s s' vs → Inside of_chunks s s'
    spans-in-chunk vs g = record { added = g.added; own = ap (λ p. p.chunks) g.over; over = refl }

    pub links-range : (vs : List Link) → Recorded of_links s s' vs → shown_links input s'.pools (range_of (length s.pools.links) (length vs)) ≡ some vs
    links-range vs g = recorded-range of_links s s' vs g

    pub events-range : (vs : List Event) → Recorded of_events s s' vs → shown_events input s'.pools (range_of (length s.pools.events) (length vs)) ≡ some vs
    events-range vs g = recorded-range of_events s s' vs g

    pub spans-range : (vs : List wire.Span) → Recorded of_spans s s' vs → shown_spans input s'.pools (range_of (length s.pools.spans) (length vs)) ≡ some vs
    spans-range vs g = recorded-range of_spans s s' vs g

    pub chunks-range : (vs : List Chunk) → Recorded of_chunks s s' vs → shown_chunks input s'.pools (range_of (length s.pools.chunks) (length vs)) ≡ some vs
    chunks-range vs g = recorded-range of_chunks s s' vs g
