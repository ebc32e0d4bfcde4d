-- The readers of spans. Assumes nothing.
use Rattle.std.proofs.Common.{◌≡◌, ℕ, true, false, ◌||◌, eqb, List, [], ◌∷◌, ℤ, pos, None, Some, Option, sym, refl, ap, ◌∙◌, arith, eqb-true}
use mathlib.Core.Option.{some}
use borrow.Author.Tests.{eqb_apart, clash}
use Rattle.refusal.specs.Runs.{give, refuse, pick}
use Rattle.refusal.specs.declared.Kind.TheVariants.{InvalidFormat}
use Rattle.decode.specs.Reader.{State, Room}
use Rattle.skipped.specs.Over.{over}
use Rattle.wire.specs.Payload as wire
use Rattle.wire.proofs.Ranges.{apart, none-known}
use Rattle.meaning.specs.Standings.{standing, rooms_of}
use Rattle.meaning.proofs.Skips.{reads_over}
use Rattle.meaning.proofs.Items.{reads-attributes}
use Rattle.refusal.specs.declared.Layer.TheVariants as layer
use Rattle.span.specs.Blank.{span_kind_of}
use Rattle.span.specs.declared.types.Span.{Span}
use Rattle.spans.specs.declared.span_record.SpanDraft.{SpanDraft}
use Rattle.spans.specs.Span.{with_service, with_name, with_resource, with_type, with_span_id, with_parent_id, with_start, with_duration, with_error, with_kind, with_env, with_version, with_component, with_attributes, with_links, with_events, is_text, put, put_id, put_start, span_at, span_field}
use Rattle.spans.specs.Span as spec
use Rattle.wire.specs.Fields.{sees, SpanField, with_span_field, is_span_id, is_start}
use Rattle.wire.specs.Standing.{Standing, count_span, Fits}
use Rattle.wire.specs.Form.{KeyAt, TextAt}
use Rattle.wire.specs.Records.{unknown, SpanFieldAt, SpanAt, span}
use Rattle.wire.proofs.Grows.{fits-before, skipped-grows, span-grows}
use Rattle.meaning.specs.Shown.{shown_span}
use Rattle.meaning.proofs.Reading.{Post, hit, then-post, post-map, Does, pick_post, Stood, Reads, finds}
use Rattle.meaning.proofs.Heads.{reads-item, takes-natural, takes-bool}
use Rattle.meaning.proofs.Texts.{reads-text}
use Rattle.meaning.proofs.Counted.{counts-spans}
use Rattle.meaning.proofs.Takes.{Inside, Recorded, of_spans, nodes-in-span, links-in-span, events-in-span}
use Rattle.meaning.proofs.Fills.{moving-inside, span-field, span-blank, span-service, span-name, span-resource, span_type, span-span_id, span-parent_id, span-start, span-duration, span-error, span-kind, span-env, span-version, span-component, span-attributes, span-links, span-events}
use Rattle.meaning.proofs.Gots.{or_else, has}
use Rattle.meaning.proofs.Drafts.{Draft, Drafted, finish_of, or-none, or_some, by_eqb, keys, one_field, one_same, one-other}
use Rattle.meaning.proofs.Rows.{Opened, Shape, reads-record}
use Rattle.meaning.proofs.Links.{reads-links}
use Rattle.meaning.proofs.Events.{reads-events}

-- the span with what was read of the two that must be there
abbrev got : SpanDraft → Span
got d = with_start (or_else (pos 0) d.start) (with_span_id (or_else 0 d.span_id) d.span)

-- a span must have its id and its start
abbrev span_draft : Draft SpanDraft Span SpanField
span_draft = record { get = got; one = λ d. has d.span_id; two = λ d. has d.start; is_one = is_span_id; is-two = is_start }

ends : (at : ℕ) (d : SpanDraft) (s : State) → spec.finish at d s ≡ finish_of span_draft layer.Span at d s
ends at d s = go d.span_id d.start
  where
    go : (id : Option ℕ) (t : Option ℤ) → spec.finished at d.span id t s ≡ pick (has id) (pick (has t) (give (with_start (or_else (pos 0) t) (with_span_id (or_else 0 id) d.span))) (refuse InvalidFormat layer.Span at)) (refuse InvalidFormat layer.Span at) s
    go (Some id) (Some t) = refl
    go (Some id) None = refl
    go None t = refl

opened : {v : wire.Span} {p q : Standing} → SpanAt v p q → Opened span_draft with_span_field spec.no_span wire.no_span SpanFieldAt v (count_span p) q
opened (span {l} t a b) = record { fields = l; all = refl; there = t; has_one = or_some a; has-two = or_some b }

shape : Shape span_draft with_span_field spec.no_span wire.no_span count_span SpanFieldAt SpanAt
shape = record { make = λ l a b t. span t (or-none _ a) (or-none _ b); open_up = opened; grows = span-grows }

apart-text : (k j : ℕ) → is_text j ≡ true → is_text k ≡ false → ¬ (k ≡ j)
apart-text k j is not e = clash (sym not ∙ ap is_text e ∙ is)

module _ (input : List ℕ) (room : Room) where
  abbrev Puts : SpanField → SpanDraft → SpanDraft → State → State → Type 0
  Puts f c d s s' = Drafted span_draft (shown_span input) with_span_field (Inside (of_spans input)) (f ∷ []) c d s s'

  -- a field, where no record is taken
  plain : (f : SpanField) (c d : SpanDraft) (s q : State) → q.pools ≡ s.pools → span_draft.one d ≡ sees span_draft.is_one (f ∷ []) || span_draft.one c → span_draft.two d ≡ sees span_draft.is-two (f ∷ []) || span_draft.two c → ((v : wire.Span) → shown_span input q.pools (got c) ≡ some v → shown_span input q.pools (got d) ≡ some (with_span_field v f)) → Puts f c d s q
  plain f c d s q e a b put = record { fills = span-field input f (got c) (got d) s q ((moving-inside (of_spans input)).none s q e) put; ones = a; twos = b }

  text-field : (k : ℕ) {x : wire.Text} {p m q : Standing} → is_text k ≡ true → KeyAt k p m → TextAt x m q → (f : SpanField) × SpanFieldAt f p q
  text-field k {x} is h t =
      by_eqb k 1 (λ e. (SpanField.service x, SpanFieldAt.service (rw e at h) t)) (λ e1.
      by_eqb k 2 (λ e. (SpanField.name x, SpanFieldAt.name (rw e at h) t)) (λ e2.
      by_eqb k 3 (λ e. (SpanField.resource x, SpanFieldAt.resource (rw e at h) t)) (λ e3.
      by_eqb k 10 (λ e. (SpanField.span_type x, SpanFieldAt.span_type (rw e at h) t)) (λ e10.
      by_eqb k 13 (λ e. (SpanField.env x, SpanFieldAt.env (rw e at h) t)) (λ e13.
      by_eqb k 14 (λ e. (SpanField.version x, SpanFieldAt.version (rw e at h) t)) (λ e14.
      by_eqb k 15 (λ e. (SpanField.component x, SpanFieldAt.component (rw e at h) t)) (λ e15.
      absurd (clash (rw (e1, e2, e3, e10, e13, e14, e15) at is)))))))))

  field-sound : (c : SpanDraft) (s : State) → Fits (rooms_of room) (standing input s) → Post (λ d s'. Stood input room SpanFieldAt s s') (span_field input room c s)
  field-sound c s i =
      then-post (finds (keys input room layer.Span) s i) (λ k m h.
      pick_post _ _ m (is_text k) (λ e. then-post ((reads-text input room).sound m h.1) (λ x q g. let (f, t) = text-field k e h.0 g.1 in hit (f, t, g.2))) (λ e0.
      pick_post _ _ m (eqb k 4) (λ e. then-post ((reads-item input (takes-natural 0xffffffffffffffff) layer.Span room).sound m h.1) (λ x q g. hit (SpanField.span_id g.0, SpanFieldAt.span_id (rw (eqb-true _ _ e) at h.0) g.1, g.2))) (λ e4.
      pick_post _ _ m (eqb k 5) (λ e. then-post ((reads-item input (takes-natural 0xffffffffffffffff) layer.Span room).sound m h.1) (λ x q g. hit (SpanField.parent_id g.0, SpanFieldAt.parent_id (rw (eqb-true _ _ e) at h.0) g.1, g.2))) (λ e5.
      pick_post _ _ m (eqb k 6) (λ e. then-post ((reads-item input (takes-natural 0x7fffffffffffffff) layer.Span room).sound m h.1) (λ x q g. hit (SpanField.start g.0, SpanFieldAt.start (rw (eqb-true _ _ e) at h.0) g.1, g.2))) (λ e6.
      pick_post _ _ m (eqb k 7) (λ e. then-post ((reads-item input (takes-natural 0x7fffffffffffffff) layer.Span room).sound m h.1) (λ x q g. hit (SpanField.duration g.0, SpanFieldAt.duration (rw (eqb-true _ _ e) at h.0) g.1, g.2))) (λ e7.
      pick_post _ _ m (eqb k 8) (λ e. then-post ((reads-item input takes-bool layer.Span room).sound m h.1) (λ x q g. hit (SpanField.error g.0, SpanFieldAt.error (rw (eqb-true _ _ e) at h.0) g.1, g.2))) (λ e8.
      pick_post _ _ m (eqb k 9) (λ e. then-post ((reads-attributes input room).sound m h.1) (λ x q g. hit (SpanField.attributes g.0, SpanFieldAt.attributes (rw (eqb-true _ _ e) at h.0) g.1, g.2))) (λ e9.
      pick_post _ _ m (eqb k 11) (λ e. then-post ((reads-links input room).sound m h.1) (λ x q g. hit (SpanField.links g.0, SpanFieldAt.links (rw (eqb-true _ _ e) at h.0) g.1, g.2))) (λ e11.
      pick_post _ _ m (eqb k 12) (λ e. then-post ((reads-events input room).sound m h.1) (λ x q g. hit (SpanField.events g.0, SpanFieldAt.events (rw (eqb-true _ _ e) at h.0) g.1, g.2))) (λ e12.
      pick_post _ _ m (eqb k 16) (λ e. then-post ((reads-item input (takes-natural 0xffffffff) layer.Span room).sound m h.1) (λ x q g. hit (SpanField.kind g.0, SpanFieldAt.kind (rw (eqb-true _ _ e) at h.0) g.1, g.2))) (λ e16.
      post-map ((reads_over input room c).sound m h.1) (λ d q g. (SpanField.other, SpanFieldAt.other h.0 (none-known 1 16 k (λ a b. omega (arith, apart-text k 1 refl e0, apart-text k 2 refl e0, apart-text k 3 refl e0, eqb_apart k 4 e4, eqb_apart k 5 e5, eqb_apart k 6 e6, eqb_apart k 7 e7, eqb_apart k 8 e8, eqb_apart k 9 e9, apart-text k 10 refl e0, eqb_apart k 11 e11, eqb_apart k 12 e12, apart-text k 13 refl e0, apart-text k 14 refl e0, apart-text k 15 refl e0, eqb_apart k 16 e16))) g.1, g.2)))))))))))))

  unknown-over : (c : SpanDraft) (k : ℕ) → unknown 1 16 k ≡ true → span_at input room k c ≡ over input room c
  unknown-over c k u = rw (apart 1 16 k 1 u (omega arith) (omega arith), apart 1 16 k 2 u (omega arith) (omega arith), apart 1 16 k 3 u (omega arith) (omega arith), apart 1 16 k 4 u (omega arith) (omega arith), apart 1 16 k 5 u (omega arith) (omega arith), apart 1 16 k 6 u (omega arith) (omega arith), apart 1 16 k 7 u (omega arith) (omega arith), apart 1 16 k 8 u (omega arith) (omega arith), apart 1 16 k 9 u (omega arith) (omega arith), apart 1 16 k 10 u (omega arith) (omega arith), apart 1 16 k 11 u (omega arith) (omega arith), apart 1 16 k 12 u (omega arith) (omega arith), apart 1 16 k 13 u (omega arith) (omega arith), apart 1 16 k 14 u (omega arith) (omega arith), apart 1 16 k 15 u (omega arith) (omega arith), apart 1 16 k 16 u (omega arith) (omega arith))

  field-complete : (c : SpanDraft) {f : SpanField} {p q : Standing} → SpanFieldAt f p q → Fits (rooms_of room) q → (s : State) → standing input s ≡ p → Does (λ d s'. (standing input s' ≡ q) × Puts f c d s s') (span_field input room c s)
  field-complete c (SpanFieldAt.service {x} h g) i s e =
      one_field input room layer.Span (λ k. span_at input room k c) (reads-text input room) (λ x. put (with_service x c.span) c) refl h g i s e (λ y m q kept z. plain (SpanField.service x) c (put (with_service y c.span) c) s q (z.1 ∙ kept) refl refl (λ v w. span-service input q.pools (got c) v w y x z.0))
  field-complete c (SpanFieldAt.name {x} h g) i s e =
      one_field input room layer.Span (λ k. span_at input room k c) (reads-text input room) (λ x. put (with_name x c.span) c) refl h g i s e (λ y m q kept z. plain (SpanField.name x) c (put (with_name y c.span) c) s q (z.1 ∙ kept) refl refl (λ v w. span-name input q.pools (got c) v w y x z.0))
  field-complete c (SpanFieldAt.resource {x} h g) i s e =
      one_field input room layer.Span (λ k. span_at input room k c) (reads-text input room) (λ x. put (with_resource x c.span) c) refl h g i s e (λ y m q kept z. plain (SpanField.resource x) c (put (with_resource y c.span) c) s q (z.1 ∙ kept) refl refl (λ v w. span-resource input q.pools (got c) v w y x z.0))
  field-complete c (SpanFieldAt.span_id {x} h g) i s e =
      one_same input room layer.Span (λ k. span_at input room k c) (reads-item input (takes-natural 0xffffffffffffffff) layer.Span room) (λ x. put_id x c) refl h g i s e (λ q kept. plain (SpanField.span_id x) c (put_id x c) s q kept refl refl (λ v w. span-span_id input q.pools (got c) v w x))
  field-complete c (SpanFieldAt.parent_id {x} h g) i s e =
      one_same input room layer.Span (λ k. span_at input room k c) (reads-item input (takes-natural 0xffffffffffffffff) layer.Span room) (λ x. put (with_parent_id x c.span) c) refl h g i s e (λ q kept. plain (SpanField.parent_id x) c (put (with_parent_id x c.span) c) s q kept refl refl (λ v w. span-parent_id input q.pools (got c) v w x))
  field-complete c (SpanFieldAt.start {x} h g) i s e =
      one_same input room layer.Span (λ k. span_at input room k c) (reads-item input (takes-natural 0x7fffffffffffffff) layer.Span room) (λ x. put_start (pos x) c) refl h g i s e (λ q kept. plain (SpanField.start x) c (put_start (pos x) c) s q kept refl refl (λ v w. span-start input q.pools (got c) v w x))
  field-complete c (SpanFieldAt.duration {x} h g) i s e =
      one_same input room layer.Span (λ k. span_at input room k c) (reads-item input (takes-natural 0x7fffffffffffffff) layer.Span room) (λ x. put (with_duration (pos x) c.span) c) refl h g i s e (λ q kept. plain (SpanField.duration x) c (put (with_duration (pos x) c.span) c) s q kept refl refl (λ v w. span-duration input q.pools (got c) v w x))
  field-complete c (SpanFieldAt.error {x} h g) i s e =
      one_same input room layer.Span (λ k. span_at input room k c) (reads-item input takes-bool layer.Span room) (λ x. put (with_error x c.span) c) refl h g i s e (λ q kept. plain (SpanField.error x) c (put (with_error x c.span) c) s q kept refl refl (λ v w. span-error input q.pools (got c) v w x))
  field-complete c (SpanFieldAt.attributes {x} h g) i s e =
      one_field input room layer.Span (λ k. span_at input room k c) (reads-attributes input room) (λ x. put (with_attributes x c.span) c) refl h g i s e (λ y m q kept z. record {
        fills = span-field input (SpanField.attributes x) (got c) (with_attributes y (got c)) s q ((moving-inside (of_spans input)).both s m q ((moving-inside (of_spans input)).none s m kept) (nodes-in-span input m q x z.grew)) (λ v w. span-attributes input q.pools (got c) v w y x z.shows);
        ones = refl;
        twos = refl;
      })
  field-complete c (SpanFieldAt.span_type {x} h g) i s e =
      one_field input room layer.Span (λ k. span_at input room k c) (reads-text input room) (λ x. put (with_type x c.span) c) refl h g i s e (λ y m q kept z. plain (SpanField.span_type x) c (put (with_type y c.span) c) s q (z.1 ∙ kept) refl refl (λ v w. span_type input q.pools (got c) v w y x z.0))
  field-complete c (SpanFieldAt.links {x} h g) i s e =
      one_field input room layer.Span (λ k. span_at input room k c) (reads-links input room) (λ x. put (with_links x c.span) c) refl h g i s e (λ y m q kept z. record {
        fills = span-field input (SpanField.links x) (got c) (with_links y (got c)) s q ((moving-inside (of_spans input)).both s m q ((moving-inside (of_spans input)).none s m kept) (links-in-span input m q x z.recorded)) (λ v w. span-links input q.pools (got c) v w y x z.shows);
        ones = refl;
        twos = refl;
      })
  field-complete c (SpanFieldAt.events {x} h g) i s e =
      one_field input room layer.Span (λ k. span_at input room k c) (reads-events input room) (λ x. put (with_events x c.span) c) refl h g i s e (λ y m q kept z. record {
        fills = span-field input (SpanField.events x) (got c) (with_events y (got c)) s q ((moving-inside (of_spans input)).both s m q ((moving-inside (of_spans input)).none s m kept) (events-in-span input m q x z.recorded)) (λ v w. span-events input q.pools (got c) v w y x z.shows);
        ones = refl;
        twos = refl;
      })
  field-complete c (SpanFieldAt.env {x} h g) i s e =
      one_field input room layer.Span (λ k. span_at input room k c) (reads-text input room) (λ x. put (with_env x c.span) c) refl h g i s e (λ y m q kept z. plain (SpanField.env x) c (put (with_env y c.span) c) s q (z.1 ∙ kept) refl refl (λ v w. span-env input q.pools (got c) v w y x z.0))
  field-complete c (SpanFieldAt.version {x} h g) i s e =
      one_field input room layer.Span (λ k. span_at input room k c) (reads-text input room) (λ x. put (with_version x c.span) c) refl h g i s e (λ y m q kept z. plain (SpanField.version x) c (put (with_version y c.span) c) s q (z.1 ∙ kept) refl refl (λ v w. span-version input q.pools (got c) v w y x z.0))
  field-complete c (SpanFieldAt.component {x} h g) i s e =
      one_field input room layer.Span (λ k. span_at input room k c) (reads-text input room) (λ x. put (with_component x c.span) c) refl h g i s e (λ y m q kept z. plain (SpanField.component x) c (put (with_component y c.span) c) s q (z.1 ∙ kept) refl refl (λ v w. span-component input q.pools (got c) v w y x z.0))
  field-complete c (SpanFieldAt.kind {x} h g) i s e =
      one_same input room layer.Span (λ k. span_at input room k c) (reads-item input (takes-natural 0xffffffff) layer.Span room) (λ x. put (with_kind (span_kind_of x) c.span) c) refl h g i s e (λ q kept. plain (SpanField.kind x) c (put (with_kind (span_kind_of x) c.span) c) s q kept refl refl (λ v w. span-kind input q.pools (got c) v w x))
  field-complete c (SpanFieldAt.other {k} h u g) i s e =
      one-other input room layer.Span (λ k. span_at input room k c) c (unknown-over c k u) h g i s e (λ q kept. plain SpanField.other c c s q kept refl refl (λ v w. w))

  field_fits : {f : SpanField} {p q : Standing} → SpanFieldAt f p q → Fits (rooms_of room) q → Fits (rooms_of room) p
  field_fits (SpanFieldAt.service h g) i = (keys input room layer.Span).fits h ((reads-text input room).fits g i)
  field_fits (SpanFieldAt.name h g) i = (keys input room layer.Span).fits h ((reads-text input room).fits g i)
  field_fits (SpanFieldAt.resource h g) i = (keys input room layer.Span).fits h ((reads-text input room).fits g i)
  field_fits (SpanFieldAt.span_id h g) i = (keys input room layer.Span).fits h ((reads-item input (takes-natural 0xffffffffffffffff) layer.Span room).fits g i)
  field_fits (SpanFieldAt.parent_id h g) i = (keys input room layer.Span).fits h ((reads-item input (takes-natural 0xffffffffffffffff) layer.Span room).fits g i)
  field_fits (SpanFieldAt.start h g) i = (keys input room layer.Span).fits h ((reads-item input (takes-natural 0x7fffffffffffffff) layer.Span room).fits g i)
  field_fits (SpanFieldAt.duration h g) i = (keys input room layer.Span).fits h ((reads-item input (takes-natural 0x7fffffffffffffff) layer.Span room).fits g i)
  field_fits (SpanFieldAt.error h g) i = (keys input room layer.Span).fits h ((reads-item input takes-bool layer.Span room).fits g i)
  field_fits (SpanFieldAt.attributes h g) i = (keys input room layer.Span).fits h ((reads-attributes input room).fits g i)
  field_fits (SpanFieldAt.span_type h g) i = (keys input room layer.Span).fits h ((reads-text input room).fits g i)
  field_fits (SpanFieldAt.links h g) i = (keys input room layer.Span).fits h ((reads-links input room).fits g i)
  field_fits (SpanFieldAt.events h g) i = (keys input room layer.Span).fits h ((reads-events input room).fits g i)
  field_fits (SpanFieldAt.env h g) i = (keys input room layer.Span).fits h ((reads-text input room).fits g i)
  field_fits (SpanFieldAt.version h g) i = (keys input room layer.Span).fits h ((reads-text input room).fits g i)
  field_fits (SpanFieldAt.component h g) i = (keys input room layer.Span).fits h ((reads-text input room).fits g i)
  field_fits (SpanFieldAt.kind h g) i = (keys input room layer.Span).fits h ((reads-item input (takes-natural 0xffffffff) layer.Span room).fits g i)
  field_fits (SpanFieldAt.other h u g) i = (keys input room layer.Span).fits h (fits-before ((skipped-grows 64).grows g) i)

  pub reads-span : (u : Unit {0}) → Reads input room SpanAt (spec.span input room u) (λ v w s s'. Recorded (of_spans input) s s' (v ∷ []))
  unfolding spec.span
  reads-span u = reads-record input room layer.Span (of_spans input) counts-spans span_draft spec.finish ends with_span_field spec.no_span wire.no_span (span-blank input) shape (λ c. record { sound = field-sound c; complete = field-complete c; fits = field_fits })
