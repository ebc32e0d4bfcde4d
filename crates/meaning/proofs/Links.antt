-- The readers of links. Assumes nothing.
use Rattle.std.proofs.Common.{◌≡◌, ℕ, true, false, eqb, List, [], ◌∷◌, refl, ◌∙◌, arith, eqb-true}
use mathlib.Core.Option.{some}
use borrow.Author.Tests.{eqb_apart}
use Rattle.refusal.specs.declared.Layer.TheVariants.{Link, Span}
use Rattle.span.specs.Blank.{blank_link}
use Rattle.span.specs.declared.types.SpanLink.{SpanLink}
use Rattle.refusal.specs.Runs.{give}
use Rattle.decode.specs.Reader.{State, Room}
use Rattle.skipped.specs.Over.{over}
use Rattle.spans.specs.Link.{with_trace_id, with_span_id, with_attributes, with_tracestate, with_flags, link_at, link_field, links}
use Rattle.spans.specs.Link
use Rattle.wire.specs.Payload.{no_link}
use Rattle.wire.specs.Payload
use Rattle.wire.specs.Fields.{LinkField, with_link_field}
use Rattle.wire.specs.Standing.{Standing, count_link, Fits}
use Rattle.wire.specs.Form.{ArrayAt}
use Rattle.wire.specs.Records.{unknown, LinkFieldAt, LinkAt, link}
use Rattle.wire.proofs.Grows.{fits-before, skipped-grows, link-grows}
use Rattle.wire.proofs.Ranges.{apart, none-known}
use Rattle.meaning.specs.Standings.{standing, rooms_of}
use Rattle.meaning.specs.Shown.{shown_link}
use Rattle.meaning.proofs.Reading.{Post, hit, then-post, post-map, Does, pick_post, Stood, Reads, finds}
use Rattle.meaning.proofs.Heads.{reads-item, takes-natural}
use Rattle.meaning.proofs.Texts.{reads-trace_id, reads-text}
use Rattle.meaning.proofs.Skips.{reads_over}
use Rattle.meaning.proofs.Items.{reads-attributes}
use Rattle.meaning.proofs.Counted.{counts-links}
use Rattle.meaning.proofs.Shows.{grew-within}
use Rattle.meaning.proofs.Takes.{Inside, inside-none, Recorded, of_links, nodes-in-link}
use Rattle.meaning.proofs.Fills.{link-field, link-blank, link-trace_id, link-span_id, link-attributes, link-tracestate, link-flags}
use Rattle.meaning.proofs.Drafts.{Draft, Drafted, or-true, keys, one_field, one_same, one-other}
use Rattle.meaning.proofs.Rows.{Opened, Shape, reads-record, Listed, reads-range}

-- a link has no field that must be there
abbrev link_draft : Draft SpanLink SpanLink LinkField
link_draft = record { get = λ d. d; one = λ d. true; two = λ d. true; is_one = λ f. false; is-two = λ f. false }

opened : {v : Payload.Link} {p q : Standing} → LinkAt v p q → Opened link_draft with_link_field blank_link no_link LinkFieldAt v (count_link p) q
opened (link {l} t) = record { fields = l; all = refl; there = t; has_one = or-true _; has-two = or-true _ }

shape : Shape link_draft with_link_field blank_link no_link count_link LinkFieldAt LinkAt
shape = record { make = λ l a b t. link t; open_up = opened; grows = link-grows }

module _ (input : List ℕ) (room : Room) where
  abbrev Puts : LinkField → SpanLink → SpanLink → State → State → Type 0
  Puts f c d s s' = Drafted link_draft (shown_link input) with_link_field (Inside (of_links input)) (f ∷ []) c d s s'

  -- a field, where no record is taken
  plain : (f : LinkField) (c d : SpanLink) (s q : State) → q.pools ≡ s.pools → ((v : Payload.Link) → shown_link input q.pools c ≡ some v → shown_link input q.pools d ≡ some (with_link_field v f)) → Puts f c d s q
  plain f c d s q e put = record { fills = link-field input f c d s q (inside-none (of_links input) s q e) put; ones = refl; twos = refl }

  field-sound : (c : SpanLink) (s : State) → Fits (rooms_of room) (standing input s) → Post (λ d s'. Stood input room LinkFieldAt s s') (link_field input room c s)
  field-sound c s i =
      then-post (finds (keys input room Link) s i) (λ k m h.
      pick_post _ _ m (eqb k 1) (λ e. then-post ((reads-trace_id input Link room).sound m h.1) (λ x q g. hit (LinkField.trace_id g.0, LinkFieldAt.trace_id (rw (eqb-true _ _ e) at h.0) g.1, g.2))) (λ e1.
      pick_post _ _ m (eqb k 2) (λ e. then-post ((reads-item input (takes-natural 0xffffffffffffffff) Link room).sound m h.1) (λ x q g. hit (LinkField.span_id g.0, LinkFieldAt.span_id (rw (eqb-true _ _ e) at h.0) g.1, g.2))) (λ e2.
      pick_post _ _ m (eqb k 3) (λ e. then-post ((reads-attributes input room).sound m h.1) (λ x q g. hit (LinkField.attributes g.0, LinkFieldAt.attributes (rw (eqb-true _ _ e) at h.0) g.1, g.2))) (λ e3.
      pick_post _ _ m (eqb k 4) (λ e. then-post ((reads-text input room).sound m h.1) (λ x q g. hit (LinkField.tracestate g.0, LinkFieldAt.tracestate (rw (eqb-true _ _ e) at h.0) g.1, g.2))) (λ e4.
      pick_post _ _ m (eqb k 5) (λ e. then-post ((reads-item input (takes-natural 0xffffffff) Link room).sound m h.1) (λ x q g. hit (LinkField.flags g.0, LinkFieldAt.flags (rw (eqb-true _ _ e) at h.0) g.1, g.2))) (λ e5.
      post-map ((reads_over input room c).sound m h.1) (λ d q g. (LinkField.other, LinkFieldAt.other h.0 (none-known 1 5 k (λ a b. omega (arith, eqb_apart k 1 e1, eqb_apart k 2 e2, eqb_apart k 3 e3, eqb_apart k 4 e4, eqb_apart k 5 e5))) g.1, g.2))))))))

  unknown-over : (c : SpanLink) (k : ℕ) → unknown 1 5 k ≡ true → link_at input room k c ≡ over input room c
  unknown-over c k u = rw (apart 1 5 k 1 u (omega arith) (omega arith), apart 1 5 k 2 u (omega arith) (omega arith), apart 1 5 k 3 u (omega arith) (omega arith), apart 1 5 k 4 u (omega arith) (omega arith), apart 1 5 k 5 u (omega arith) (omega arith))

  field-complete : (c : SpanLink) {f : LinkField} {p q : Standing} → LinkFieldAt f p q → Fits (rooms_of room) q → (s : State) → standing input s ≡ p → Does (λ d s'. (standing input s' ≡ q) × Puts f c d s s') (link_field input room c s)
  field-complete c (LinkFieldAt.trace_id {x} h g) i s e =
      one_same input room Link (λ k. link_at input room k c) (reads-trace_id input Link room) (λ x. with_trace_id x c) refl h g i s e (λ q kept. plain (LinkField.trace_id x) c (with_trace_id x c) s q kept (λ v w. link-trace_id input q.pools c v w x))
  field-complete c (LinkFieldAt.span_id {x} h g) i s e =
      one_same input room Link (λ k. link_at input room k c) (reads-item input (takes-natural 0xffffffffffffffff) Link room) (λ x. with_span_id x c) refl h g i s e (λ q kept. plain (LinkField.span_id x) c (with_span_id x c) s q kept (λ v w. link-span_id input q.pools c v w x))
  field-complete c (LinkFieldAt.attributes {x} h g) i s e =
      one_field input room Link (λ k. link_at input room k c) (reads-attributes input room) (λ x. with_attributes x c) refl h g i s e (λ r m q kept z. record {
        fills = link-field input (LinkField.attributes x) c (with_attributes r c) s q (nodes-in-link input s q x (grew-within input s m q q x kept refl z.grew)) (λ v w. link-attributes input q.pools c v w r x z.shows);
        ones = refl;
        twos = refl;
      })
  field-complete c (LinkFieldAt.tracestate {x} h g) i s e =
      one_field input room Link (λ k. link_at input room k c) (reads-text input room) (λ x. with_tracestate x c) refl h g i s e (λ t m q kept z. plain (LinkField.tracestate x) c (with_tracestate t c) s q (z.1 ∙ kept) (λ v w. link-tracestate input q.pools c v w t x z.0))
  field-complete c (LinkFieldAt.flags {x} h g) i s e =
      one_same input room Link (λ k. link_at input room k c) (reads-item input (takes-natural 0xffffffff) Link room) (λ x. with_flags x c) refl h g i s e (λ q kept. plain (LinkField.flags x) c (with_flags x c) s q kept (λ v w. link-flags input q.pools c v w x))
  field-complete c (LinkFieldAt.other {k} h u g) i s e =
      one-other input room Link (λ k. link_at input room k c) c (unknown-over c k u) h g i s e (λ q kept. plain LinkField.other c c s q kept (λ v w. w))

  field_fits : {f : LinkField} {p q : Standing} → LinkFieldAt f p q → Fits (rooms_of room) q → Fits (rooms_of room) p
  field_fits (LinkFieldAt.trace_id h g) i = (keys input room Link).fits h ((reads-trace_id input Link room).fits g i)
  field_fits (LinkFieldAt.span_id h g) i = (keys input room Link).fits h ((reads-item input (takes-natural 0xffffffffffffffff) Link room).fits g i)
  field_fits (LinkFieldAt.attributes h g) i = (keys input room Link).fits h ((reads-attributes input room).fits g i)
  field_fits (LinkFieldAt.tracestate h g) i = (keys input room Link).fits h ((reads-text input room).fits g i)
  field_fits (LinkFieldAt.flags h g) i = (keys input room Link).fits h ((reads-item input (takes-natural 0xffffffff) Link room).fits g i)
  field_fits (LinkFieldAt.other h u g) i = (keys input room Link).fits h (fits-before ((skipped-grows 64).grows g) i)

  one_link : (u : Unit {0}) → Reads input room LinkAt (Link.link input room u) (λ v w s s'. Recorded (of_links input) s s' (v ∷ []))
  one_link u = reads-record input room Link (of_links input) counts-links link_draft (λ at d. give d) (λ at d s. refl) with_link_field blank_link no_link (link-blank input) shape (λ c. record { sound = field-sound c; complete = field-complete c; fits = field_fits })

  pub reads-links : Reads input room (ArrayAt LinkAt) (links input room) (Listed input room Span (of_links input))
  unfolding links
  reads-links = reads-range input room Span (of_links input) one_link
