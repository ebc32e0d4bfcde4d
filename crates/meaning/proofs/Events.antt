-- The readers of events. Assumes nothing.
use Rattle.std.proofs.Common.{◌≡◌, ℕ, true, false, ◌||◌, eqb, List, [], ◌∷◌, refl, ◌∙◌, arith, eqb-true}
use mathlib.Core.Option.{some}
use borrow.Author.Tests.{eqb_apart}
use Rattle.refusal.specs.Runs.{give}
use Rattle.decode.specs.Reader.{State, Room}
use Rattle.skipped.specs.Over.{over}
use Rattle.wire.specs.Payload as wire
use Rattle.wire.proofs.Ranges.{apart, none-known}
use Rattle.meaning.specs.Standings.{standing, rooms_of}
use Rattle.meaning.proofs.Skips.{reads_over}
use Rattle.meaning.proofs.Items.{reads-attributes}
use Rattle.refusal.specs.declared.Layer.TheVariants.{Event, Span}
use Rattle.span.specs.Blank.{blank_event}
use Rattle.span.specs.declared.types.SpanEvent.{SpanEvent}
use Rattle.spans.specs.Event.{with_time, with_name, with_attributes, event_at, event_field, events}
use Rattle.spans.specs.Event
use Rattle.wire.specs.Payload.{no_event}
use Rattle.wire.specs.Fields.{sees, EventField, with_event_field}
use Rattle.wire.specs.Standing.{Standing, count_event, Fits}
use Rattle.wire.specs.Form.{ArrayAt}
use Rattle.wire.specs.Records.{unknown, EventFieldAt, EventAt, event}
use Rattle.wire.proofs.Grows.{fits-before, skipped-grows, event-grows}
use Rattle.meaning.specs.Shown.{shown_event}
use Rattle.meaning.proofs.Reading.{Post, hit, then-post, post-map, Does, pick_post, Stood, Reads, finds}
use Rattle.meaning.proofs.Heads.{reads-item, takes-natural}
use Rattle.meaning.proofs.Texts.{reads-text}
use Rattle.meaning.proofs.Counted.{counts-events}
use Rattle.meaning.proofs.Takes.{Inside, Recorded, of_events, nodes-in-event}
use Rattle.meaning.proofs.Fills.{moving-inside, event-field, event-blank, event-time, event-name, event-attributes}
use Rattle.meaning.proofs.Drafts.{Draft, Drafted, or-true, keys, one_field, one_same, one-other}
use Rattle.meaning.proofs.Rows.{Opened, Shape, reads-record, Listed, reads-range}

-- an event has no field that must be there
abbrev event_draft : Draft SpanEvent SpanEvent EventField
event_draft = record { get = λ d. d; one = λ d. true; two = λ d. true; is_one = λ f. false; is-two = λ f. false }

opened : {v : wire.Event} {p q : Standing} → EventAt v p q → Opened event_draft with_event_field blank_event no_event EventFieldAt v (count_event p) q
opened (event {l} t) = record { fields = l; all = refl; there = t; has_one = or-true _; has-two = or-true _ }

shape : Shape event_draft with_event_field blank_event no_event count_event EventFieldAt EventAt
shape = record { make = λ l a b t. event t; open_up = opened; grows = event-grows }

module _ (input : List ℕ) (room : Room) where
  abbrev Puts : EventField → SpanEvent → SpanEvent → State → State → Type 0
  Puts f c d s s' = Drafted event_draft (shown_event input) with_event_field (Inside (of_events input)) (f ∷ []) c d s s'

  -- a field, where no record is taken
  plain : (f : EventField) (c d : SpanEvent) (s q : State) → q.pools ≡ s.pools → event_draft.one d ≡ sees event_draft.is_one (f ∷ []) || event_draft.one c → event_draft.two d ≡ sees event_draft.is-two (f ∷ []) || event_draft.two c → ((v : wire.Event) → shown_event input q.pools c ≡ some v → shown_event input q.pools d ≡ some (with_event_field v f)) → Puts f c d s q
  plain f c d s q e a b put = record { fills = event-field input f c d s q ((moving-inside (of_events input)).none s q e) put; ones = a; twos = b }

  field-sound : (c : SpanEvent) (s : State) → Fits (rooms_of room) (standing input s) → Post (λ d s'. Stood input room EventFieldAt s s') (event_field input room c s)
  field-sound c s i =
      then-post (finds (keys input room Event) s i) (λ k m h.
      pick_post _ _ m (eqb k 1) (λ e. then-post ((reads-item input (takes-natural 0xffffffffffffffff) Event room).sound m h.1) (λ x q g. hit (EventField.time g.0, EventFieldAt.time (rw (eqb-true _ _ e) at h.0) g.1, g.2))) (λ e1.
      pick_post _ _ m (eqb k 2) (λ e. then-post ((reads-text input room).sound m h.1) (λ x q g. hit (EventField.name g.0, EventFieldAt.name (rw (eqb-true _ _ e) at h.0) g.1, g.2))) (λ e2.
      pick_post _ _ m (eqb k 3) (λ e. then-post ((reads-attributes input room).sound m h.1) (λ x q g. hit (EventField.attributes g.0, EventFieldAt.attributes (rw (eqb-true _ _ e) at h.0) g.1, g.2))) (λ e3.
      post-map ((reads_over input room c).sound m h.1) (λ d q g. (EventField.other, EventFieldAt.other h.0 (none-known 1 3 k (λ a b. omega (arith, eqb_apart k 1 e1, eqb_apart k 2 e2, eqb_apart k 3 e3))) g.1, g.2))))))

  unknown-over : (c : SpanEvent) (k : ℕ) → unknown 1 3 k ≡ true → event_at input room k c ≡ over input room c
  unknown-over c k u = rw (apart 1 3 k 1 u (omega arith) (omega arith), apart 1 3 k 2 u (omega arith) (omega arith), apart 1 3 k 3 u (omega arith) (omega arith))

  field-complete : (c : SpanEvent) {f : EventField} {p q : Standing} → EventFieldAt f p q → Fits (rooms_of room) q → (s : State) → standing input s ≡ p → Does (λ d s'. (standing input s' ≡ q) × Puts f c d s s') (event_field input room c s)
  field-complete c (EventFieldAt.time {x} h g) i s e =
      one_same input room Event (λ k. event_at input room k c) (reads-item input (takes-natural 0xffffffffffffffff) Event room) (λ x. with_time x c) refl h g i s e (λ q kept. plain (EventField.time x) c (with_time x c) s q kept refl refl (λ v w. event-time input q.pools c v w x))
  field-complete c (EventFieldAt.name {x} h g) i s e =
      one_field input room Event (λ k. event_at input room k c) (reads-text input room) (λ x. with_name x c) refl h g i s e (λ y m q kept z. plain (EventField.name x) c (with_name y c) s q (z.1 ∙ kept) refl refl (λ v w. event-name input q.pools c v w y x z.0))
  field-complete c (EventFieldAt.attributes {x} h g) i s e =
      one_field input room Event (λ k. event_at input room k c) (reads-attributes input room) (λ x. with_attributes x c) refl h g i s e (λ y m q kept z. record {
        fills = event-field input (EventField.attributes x) c (with_attributes y c) s q ((moving-inside (of_events input)).both s m q ((moving-inside (of_events input)).none s m kept) (nodes-in-event input m q x z.grew)) (λ v w. event-attributes input q.pools c v w y x z.shows);
        ones = refl;
        twos = refl;
      })
  field-complete c (EventFieldAt.other {k} h u g) i s e =
      one-other input room Event (λ k. event_at input room k c) c (unknown-over c k u) h g i s e (λ q kept. plain EventField.other c c s q kept refl refl (λ v w. w))

  field_fits : {f : EventField} {p q : Standing} → EventFieldAt f p q → Fits (rooms_of room) q → Fits (rooms_of room) p
  field_fits (EventFieldAt.time h g) i = (keys input room Event).fits h ((reads-item input (takes-natural 0xffffffffffffffff) Event room).fits g i)
  field_fits (EventFieldAt.name h g) i = (keys input room Event).fits h ((reads-text input room).fits g i)
  field_fits (EventFieldAt.attributes h g) i = (keys input room Event).fits h ((reads-attributes input room).fits g i)
  field_fits (EventFieldAt.other h u g) i = (keys input room Event).fits h (fits-before ((skipped-grows 64).grows g) i)

  one-event : (u : Unit {0}) → Reads input room EventAt (Event.event input room u) (λ v w s s'. Recorded (of_events input) s s' (v ∷ []))
  one-event u = reads-record input room Event (of_events input) counts-events event_draft (λ at d. give d) (λ at d s. refl) with_event_field blank_event no_event (event-blank input) shape (λ c. record { sound = field-sound c; complete = field-complete c; fits = field_fits })

  pub reads-events : Reads input room (ArrayAt EventAt) (events input room) (Listed input room Span (of_events input))
  unfolding events
  reads-events = reads-range input room Span (of_events input) one-event
