-- The readers of payloads. Assumes nothing.
use Rattle.std.proofs.Common.{◌≡◌, ℕ, ◌≤◌, Bool, true, false, ◌||◌, eqb, leb, List, [], ◌∷◌, None, Some, Option, sym, refl, ap, ◌∙◌, subst, arith, eq-eqb, eqb-true, leb-true}
use mathlib.Core.Option.{some}
use borrow.Author.Tests.{eqb_apart, clash}
use Rattle.refusal.specs.Runs.{give, refuse, pick}
use Rattle.refusal.specs.declared.Kind.TheVariants.{InvalidFormat}
use Rattle.span.specs.Blank.{no_range}
use Rattle.span.specs.declared.types.Range.{Range}
use Rattle.decode.specs.Reader.{State, Room}
use Rattle.skipped.specs.Over.{over}
use Rattle.wire.specs.Payload as wire
use Rattle.wire.proofs.Ranges.{apart, none-known}
use Rattle.meaning.specs.Standings.{standing, rooms_of, Meaning}
use Rattle.meaning.proofs.Skips.{reads_over}
use Rattle.meaning.proofs.Items.{reads-attributes}
use Rattle.refusal.specs.declared.Layer.TheVariants as layer
use Rattle.span.specs.declared.types.TracerPayload.{TracerPayload}
use Rattle.msgpack_decoder.specs.declared.payload.PayloadDraft.{PayloadDraft}
use Rattle.msgpack_decoder.specs.Payload.{with_container, with_language, with_language_version, with_tracer, with_runtime, with_env, with_hostname, with_app, with_attributes, with_chunks, is_text, put, put_chunks, payload_at, payload_field}
use Rattle.msgpack_decoder.specs.Payload as spec
use Rattle.wire.specs.Fields.{filled, sees, PayloadField, with_payload_field, is_chunks}
use Rattle.wire.specs.Standing.{Standing, Fits}
use Rattle.wire.specs.Form.{KeyAt, TextAt}
use Rattle.wire.specs.Records.{unknown, PayloadFieldAt, PayloadAt, payload}
use Rattle.wire.proofs.Grows.{fits-before, skipped-grows, payload-grows}
use Rattle.meaning.specs.Shown.{shown_payload}
use Rattle.meaning.proofs.Reading.{Post, hit, then-post, post-map, Does, pick_post, Stood, Reads, finds, Adding}
use Rattle.meaning.proofs.Texts.{reads-text}
use Rattle.meaning.proofs.Stays.{Added}
use Rattle.meaning.proofs.Shows.{grew-added}
use Rattle.meaning.proofs.Fills.{Growing, moving-growing, payload-field, payload-blank, payload-container_id, payload-language_name, payload-language_version, payload-tracer_version, payload-runtime_id, payload-env, payload-hostname, payload-app_version, payload-attributes, payload-chunks}
use Rattle.meaning.proofs.Gots.{or_else, has}
use Rattle.meaning.proofs.Drafts.{Draft, Drafted, Drafts, finish_of, drafting, or-none, or_some, both_true, by_eqb, finish-post, finish-does, map-post, map-does, keys, one_field, one-other}
use Rattle.meaning.proofs.Chunks.{reads_chunks}

-- the payload with what was read of its chunks, which must be there
abbrev got : PayloadDraft → TracerPayload
got d = with_chunks (or_else no_range d.chunks) d.payload

-- a payload must have its chunks
abbrev payload_draft : Draft PayloadDraft TracerPayload PayloadField
payload_draft = record { get = got; one = λ d. has d.chunks; two = λ d. true; is_one = is_chunks; is-two = λ f. false }

ends : (at : ℕ) (d : PayloadDraft) (s : State) → spec.finish at d s ≡ finish_of payload_draft layer.Payload at d s
ends at d s = go d.chunks
  where
    go : (r : Option Range) → spec.finished at d.payload r s ≡ pick (has r) (give (with_chunks (or_else no_range r) d.payload)) (refuse InvalidFormat layer.Payload at) s
    go (Some r) = refl
    go None = refl

apart-text : (k j : ℕ) → is_text j ≡ true → is_text k ≡ false → ¬ (k ≡ j)
apart-text k j is not e = clash (sym not ∙ ap is_text e ∙ is)

text-range : (k : ℕ) → is_text k ≡ true → (2 ≤ k) × (k ≤ 9)
text-range k e = let (a, b) = both_true (leb 2 k) (leb k 9) e in (leb-true 2 k a, leb-true k 9 b)

-- an unknown key is none of a text
not-text : (k : ℕ) → unknown 2 11 k ≡ true → is_text k ≡ false
not-text k u = go (is_text k) refl
  where
    go : (b : Bool) → is_text k ≡ b → b ≡ false
    go true e = absurd (clash (sym (apart 2 11 k k u (omega (arith, text-range k e)) (omega (arith, text-range k e))) ∙ eq-eqb k k refl))
    go false e = refl

module _ (input : List ℕ) (room : Room) where
  abbrev Puts : PayloadField → PayloadDraft → PayloadDraft → State → State → Type 0
  Puts f c d s s' = Drafted payload_draft (shown_payload input) with_payload_field Growing (f ∷ []) c d s s'

  -- a field, where no record is taken
  plain : (f : PayloadField) (c d : PayloadDraft) (s q : State) → q.pools ≡ s.pools → payload_draft.one d ≡ sees payload_draft.is_one (f ∷ []) || payload_draft.one c → payload_draft.two d ≡ sees payload_draft.is-two (f ∷ []) || payload_draft.two c → ((v : wire.Payload) → shown_payload input q.pools (got c) ≡ some v → shown_payload input q.pools (got d) ≡ some (with_payload_field v f)) → Puts f c d s q
  plain f c d s q e a b put = record { fills = payload-field input f (got c) (got d) s q (moving-growing.none s q e) put; ones = a; twos = b }

  text-field : (k : ℕ) {x : wire.Text} {p m q : Standing} → is_text k ≡ true → KeyAt k p m → TextAt x m q → (f : PayloadField) × PayloadFieldAt f p q
  text-field k {x} is h t =
      by_eqb k 2 (λ e. (PayloadField.container_id x, PayloadFieldAt.container_id (rw e at h) t)) (λ e2.
      by_eqb k 3 (λ e. (PayloadField.language_name x, PayloadFieldAt.language_name (rw e at h) t)) (λ e3.
      by_eqb k 4 (λ e. (PayloadField.language_version x, PayloadFieldAt.language_version (rw e at h) t)) (λ e4.
      by_eqb k 5 (λ e. (PayloadField.tracer_version x, PayloadFieldAt.tracer_version (rw e at h) t)) (λ e5.
      by_eqb k 6 (λ e. (PayloadField.runtime_id x, PayloadFieldAt.runtime_id (rw e at h) t)) (λ e6.
      by_eqb k 7 (λ e. (PayloadField.env x, PayloadFieldAt.env (rw e at h) t)) (λ e7.
      by_eqb k 8 (λ e. (PayloadField.hostname x, PayloadFieldAt.hostname (rw e at h) t)) (λ e8.
      by_eqb k 9 (λ e. (PayloadField.app_version x, PayloadFieldAt.app_version (rw e at h) t)) (λ e9.
      absurd (omega (arith, text-range k is, eqb_apart k 2 e2, eqb_apart k 3 e3, eqb_apart k 4 e4, eqb_apart k 5 e5, eqb_apart k 6 e6, eqb_apart k 7 e7, eqb_apart k 8 e8, eqb_apart k 9 e9))))))))))

  field-sound : (c : PayloadDraft) (s : State) → Fits (rooms_of room) (standing input s) → Post (λ d s'. Stood input room PayloadFieldAt s s') (payload_field input room c s)
  field-sound c s i =
      then-post (finds (keys input room layer.Payload) s i) (λ k m h.
      pick_post _ _ m (is_text k) (λ e. then-post ((reads-text input room).sound m h.1) (λ x q g. let (f, t) = text-field k e h.0 g.1 in hit (f, t, g.2))) (λ e0.
      pick_post _ _ m (eqb k 10) (λ e. then-post ((reads-attributes input room).sound m h.1) (λ x q g. hit (PayloadField.attributes g.0, PayloadFieldAt.attributes (rw (eqb-true _ _ e) at h.0) g.1, g.2))) (λ e10.
      pick_post _ _ m (eqb k 11) (λ e. then-post ((reads_chunks input room).sound m h.1) (λ x q g. hit (PayloadField.chunks g.0, PayloadFieldAt.chunks (rw (eqb-true _ _ e) at h.0) g.1, g.2))) (λ e11.
      post-map ((reads_over input room c).sound m h.1) (λ d q g. (PayloadField.other, PayloadFieldAt.other h.0 (none-known 2 11 k (λ a b. omega (arith, apart-text k 2 refl e0, apart-text k 3 refl e0, apart-text k 4 refl e0, apart-text k 5 refl e0, apart-text k 6 refl e0, apart-text k 7 refl e0, apart-text k 8 refl e0, apart-text k 9 refl e0, eqb_apart k 10 e10, eqb_apart k 11 e11))) g.1, g.2))))))

  unknown-over : (c : PayloadDraft) (k : ℕ) → unknown 2 11 k ≡ true → payload_at input room k c ≡ over input room c
  unknown-over c k u = rw (not-text k u, apart 2 11 k 10 u (omega arith) (omega arith), apart 2 11 k 11 u (omega arith) (omega arith))

  field-complete : (c : PayloadDraft) {f : PayloadField} {p q : Standing} → PayloadFieldAt f p q → Fits (rooms_of room) q → (s : State) → standing input s ≡ p → Does (λ d s'. (standing input s' ≡ q) × Puts f c d s s') (payload_field input room c s)
  field-complete c (PayloadFieldAt.container_id {x} h g) i s e =
      one_field input room layer.Payload (λ k. payload_at input room k c) (reads-text input room) (λ x. put (with_container x c.payload) c) refl h g i s e (λ y m q kept z. plain (PayloadField.container_id x) c (put (with_container y c.payload) c) s q (z.1 ∙ kept) refl refl (λ v w. payload-container_id input q.pools (got c) v w y x z.0))
  field-complete c (PayloadFieldAt.language_name {x} h g) i s e =
      one_field input room layer.Payload (λ k. payload_at input room k c) (reads-text input room) (λ x. put (with_language x c.payload) c) refl h g i s e (λ y m q kept z. plain (PayloadField.language_name x) c (put (with_language y c.payload) c) s q (z.1 ∙ kept) refl refl (λ v w. payload-language_name input q.pools (got c) v w y x z.0))
  field-complete c (PayloadFieldAt.language_version {x} h g) i s e =
      one_field input room layer.Payload (λ k. payload_at input room k c) (reads-text input room) (λ x. put (with_language_version x c.payload) c) refl h g i s e (λ y m q kept z. plain (PayloadField.language_version x) c (put (with_language_version y c.payload) c) s q (z.1 ∙ kept) refl refl (λ v w. payload-language_version input q.pools (got c) v w y x z.0))
  field-complete c (PayloadFieldAt.tracer_version {x} h g) i s e =
      one_field input room layer.Payload (λ k. payload_at input room k c) (reads-text input room) (λ x. put (with_tracer x c.payload) c) refl h g i s e (λ y m q kept z. plain (PayloadField.tracer_version x) c (put (with_tracer y c.payload) c) s q (z.1 ∙ kept) refl refl (λ v w. payload-tracer_version input q.pools (got c) v w y x z.0))
  field-complete c (PayloadFieldAt.runtime_id {x} h g) i s e =
      one_field input room layer.Payload (λ k. payload_at input room k c) (reads-text input room) (λ x. put (with_runtime x c.payload) c) refl h g i s e (λ y m q kept z. plain (PayloadField.runtime_id x) c (put (with_runtime y c.payload) c) s q (z.1 ∙ kept) refl refl (λ v w. payload-runtime_id input q.pools (got c) v w y x z.0))
  field-complete c (PayloadFieldAt.env {x} h g) i s e =
      one_field input room layer.Payload (λ k. payload_at input room k c) (reads-text input room) (λ x. put (with_env x c.payload) c) refl h g i s e (λ y m q kept z. plain (PayloadField.env x) c (put (with_env y c.payload) c) s q (z.1 ∙ kept) refl refl (λ v w. payload-env input q.pools (got c) v w y x z.0))
  field-complete c (PayloadFieldAt.hostname {x} h g) i s e =
      one_field input room layer.Payload (λ k. payload_at input room k c) (reads-text input room) (λ x. put (with_hostname x c.payload) c) refl h g i s e (λ y m q kept z. plain (PayloadField.hostname x) c (put (with_hostname y c.payload) c) s q (z.1 ∙ kept) refl refl (λ v w. payload-hostname input q.pools (got c) v w y x z.0))
  field-complete c (PayloadFieldAt.app_version {x} h g) i s e =
      one_field input room layer.Payload (λ k. payload_at input room k c) (reads-text input room) (λ x. put (with_app x c.payload) c) refl h g i s e (λ y m q kept z. plain (PayloadField.app_version x) c (put (with_app y c.payload) c) s q (z.1 ∙ kept) refl refl (λ v w. payload-app_version input q.pools (got c) v w y x z.0))
  field-complete c (PayloadFieldAt.attributes {x} h g) i s e =
      one_field input room layer.Payload (λ k. payload_at input room k c) (reads-attributes input room) (λ x. put (with_attributes x c.payload) c) refl h g i s e (λ y m q kept z. record {
        fills = payload-field input (PayloadField.attributes x) (got c) (with_attributes y (got c)) s q (moving-growing.both s m q (moving-growing.none s m kept) (grew-added input m q x z.grew)) (λ v w. payload-attributes input q.pools (got c) v w y x z.shows);
        ones = refl;
        twos = refl;
      })
  field-complete c (PayloadFieldAt.chunks {x} h g) i s e =
      one_field input room layer.Payload (λ k. payload_at input room k c) (reads_chunks input room) (λ x. put_chunks x c) refl h g i s e (λ y m q kept z. record {
        fills = payload-field input (PayloadField.chunks x) (got c) (with_chunks y (got c)) s q (moving-growing.both s m q (moving-growing.none s m kept) z.recorded.added) (λ v w. payload-chunks input q.pools (got c) v w y x z.shows);
        ones = refl;
        twos = refl;
      })
  field-complete c (PayloadFieldAt.other {k} h u g) i s e =
      one-other input room layer.Payload (λ k. payload_at input room k c) c (unknown-over c k u) h g i s e (λ q kept. plain PayloadField.other c c s q kept refl refl (λ v w. w))

  field_fits : {f : PayloadField} {p q : Standing} → PayloadFieldAt f p q → Fits (rooms_of room) q → Fits (rooms_of room) p
  field_fits (PayloadFieldAt.container_id h g) i = (keys input room layer.Payload).fits h ((reads-text input room).fits g i)
  field_fits (PayloadFieldAt.language_name h g) i = (keys input room layer.Payload).fits h ((reads-text input room).fits g i)
  field_fits (PayloadFieldAt.language_version h g) i = (keys input room layer.Payload).fits h ((reads-text input room).fits g i)
  field_fits (PayloadFieldAt.tracer_version h g) i = (keys input room layer.Payload).fits h ((reads-text input room).fits g i)
  field_fits (PayloadFieldAt.runtime_id h g) i = (keys input room layer.Payload).fits h ((reads-text input room).fits g i)
  field_fits (PayloadFieldAt.env h g) i = (keys input room layer.Payload).fits h ((reads-text input room).fits g i)
  field_fits (PayloadFieldAt.hostname h g) i = (keys input room layer.Payload).fits h ((reads-text input room).fits g i)
  field_fits (PayloadFieldAt.app_version h g) i = (keys input room layer.Payload).fits h ((reads-text input room).fits g i)
  field_fits (PayloadFieldAt.attributes h g) i = (keys input room layer.Payload).fits h ((reads-attributes input room).fits g i)
  field_fits (PayloadFieldAt.chunks h g) i = (keys input room layer.Payload).fits h ((reads_chunks input room).fits g i)
  field_fits (PayloadFieldAt.other h u g) i = (keys input room layer.Payload).fits h (fits-before ((skipped-grows 64).grows g) i)

  abbrev Ms : PayloadDraft → Meaning (List PayloadField) PayloadDraft
  Ms = Drafts payload_draft (shown_payload input) with_payload_field Growing

  adding : Adding Ms
  adding = drafting payload_draft (shown_payload input) with_payload_field Growing moving-growing

  fields : (c : PayloadDraft) → Reads input room PayloadFieldAt (payload_field input room c) (λ f. Ms c (f ∷ []))
  fields c = record { sound = field-sound c; complete = field-complete c; fits = field_fits }

  -- the records say the payload, and none that was there is changed
  pub record Shows (v : wire.Payload) (x : TracerPayload) (s s' : State) : Type 0 where
    pub says : shown_payload input s'.pools x ≡ some v
    pub added : Added s.pools s'.pools

  payload-sound : (s : State) → Fits (rooms_of room) (standing input s) → Post (λ x s'. Stood input room PayloadAt s s') (spec.payload input room s)
  unfolding spec.payload
  payload-sound s i =
      map-post input room layer.Payload Ms adding fields spec.no_payload (spec.finish s.at) s i (λ d q l t f ms.
      subst (Post (λ x s'. Stood input room PayloadAt s s')) (sym (ends s.at d q)) (finish-post payload_draft layer.Payload s.at d q (λ a b. (filled with_payload_field wire.no_payload l, payload t (or-none _ (sym ms.ones ∙ a)), f))))

  payload-complete : {v : wire.Payload} {p q : Standing} → PayloadAt v p q → Fits (rooms_of room) q → (s : State) → standing input s ≡ p → Does (λ x s'. (standing input s' ≡ q) × Shows v x s s') (spec.payload input room s)
  unfolding spec.payload
  payload-complete {v} {q = q} (payload {l} t seen) i s e =
      map-does input room layer.Payload Ms adding fields spec.no_payload (spec.finish s.at) t i s e (λ d m z ms.
      subst (Does (λ x s'. (standing input s' ≡ q) × Shows v x s s')) (sym (ends s.at d m)) (finish-does payload_draft layer.Payload s.at d m (ms.ones ∙ or_some seen) refl (z, record { says = ms.fills.says wire.no_payload (payload-blank input s.pools); added = ms.fills.inside })))

  pub reads-payload : Reads input room PayloadAt (spec.payload input room) Shows
  reads-payload = record { sound = payload-sound; complete = payload-complete; fits = λ h. fits-before (payload-grows.grows h) }
