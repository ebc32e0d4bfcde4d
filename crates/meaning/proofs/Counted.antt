-- A record is taken, and written: what the format sees of that. Assumes nothing.
use Rattle.std.proofs.Common.{◌≡◌, ℕ, suc, ◌<◌, List, [], ◌∷◌, ◌++◌, length, set, refl, ap, ◌∙◌, add-one, arith, length-set, ltb-true, lt-ltb}
use Rattle.std.proofs.lemmas.List.{length_push}
use Rattle.refusal.specs.declared.Layer.{Layer}
use Rattle.span.specs.Held.{fits}
use Rattle.decode.specs.Reader.{State, Room, Part, chunks_part, spans_part, links_part, events_part, nodes_part, with_pools, reserve_in}
use Rattle.wire.specs.Standing.{Used, Standing, with_used, count_chunk, count_span, count_link, count_event, count_node, Fits}
use Rattle.meaning.specs.Standings.{standing, rooms_of}
use Rattle.meaning.proofs.Reading.{Post, no, hit, Does, does, pick_post, pick_yes}

-- s with one record more, and with a record written
abbrev pub grown : {T : Type 0} → Part T → State → State
grown part s = with_pools (part.with (part.of s.pools ++ part.blank ∷ []) s.pools) s

abbrev pub changed : {T : Type 0} → Part T → ℕ → T → State → State
changed part j x s = with_pools (part.with (set (part.of s.pools) j x) s.pools) s

-- the records of a part are counted by `count`
pub record Counts {T : Type 0} (part : Part T) (count : Standing → Standing) : Type 0 where
  pub one_more : (input : List ℕ) (s : State) → standing input (grown part s) ≡ count (standing input s)
  pub as_many : (input : List ℕ) (s : State) (j : ℕ) (x : T) → standing input (changed part j x s) ≡ standing input s
  pub fitting : (input : List ℕ) (room : Room) (s : State) → Fits (rooms_of room) (standing input s) → length (part.of s.pools) < part.room room.pools → Fits (rooms_of room) (count (standing input s))
  pub left : (input : List ℕ) (room : Room) (s : State) → Fits (rooms_of room) (count (standing input s)) → length (part.of s.pools) < part.room room.pools

more : {T : Type 0} (l : List T) (x : T) → length (l ++ x ∷ []) ≡ suc (length l)
more l x = length_push l x ∙ add-one (length l)

with-used : (p : Standing) {u v : Used} → u ≡ v → with_used u p ≡ with_used v p
with-used p e = ap (λ u. with_used u p) e

pub counts-nodes : Counts nodes_part count_node
counts-nodes = record {
  one_more = λ input s. with-used (standing input s) (ap (λ n. record { chunks = length s.pools.chunks; spans = length s.pools.spans; links = length s.pools.links; events = length s.pools.events; nodes = n }) (more s.pools.nodes _));
  as_many = λ input s j x. with-used (standing input s) (ap (λ n. record { chunks = length s.pools.chunks; spans = length s.pools.spans; links = length s.pools.links; events = length s.pools.events; nodes = n }) (length-set s.pools.nodes j x));
  fitting = λ input room s i h. record { texts = i.texts; chunks = i.chunks; spans = i.spans; links = i.links; events = i.events; nodes = omega arith };
  left = λ input room s i. omega (arith, i.nodes);
}

pub counts-events : Counts events_part count_event
counts-events = record {
  one_more = λ input s. with-used (standing input s) (ap (λ n. record { chunks = length s.pools.chunks; spans = length s.pools.spans; links = length s.pools.links; events = n; nodes = length s.pools.nodes }) (more s.pools.events _));
  as_many = λ input s j x. with-used (standing input s) (ap (λ n. record { chunks = length s.pools.chunks; spans = length s.pools.spans; links = length s.pools.links; events = n; nodes = length s.pools.nodes }) (length-set s.pools.events j x));
  fitting = λ input room s i h. record { texts = i.texts; chunks = i.chunks; spans = i.spans; links = i.links; events = omega arith; nodes = i.nodes };
  left = λ input room s i. omega (arith, i.events);
}

pub counts-links : Counts links_part count_link
counts-links = record {
  one_more = λ input s. with-used (standing input s) (ap (λ n. record { chunks = length s.pools.chunks; spans = length s.pools.spans; links = n; events = length s.pools.events; nodes = length s.pools.nodes }) (more s.pools.links _));
  as_many = λ input s j x. with-used (standing input s) (ap (λ n. record { chunks = length s.pools.chunks; spans = length s.pools.spans; links = n; events = length s.pools.events; nodes = length s.pools.nodes }) (length-set s.pools.links j x));
  fitting = λ input room s i h. record { texts = i.texts; chunks = i.chunks; spans = i.spans; links = omega arith; events = i.events; nodes = i.nodes };
  left = λ input room s i. omega (arith, i.links);
}

pub counts-spans : Counts spans_part count_span
counts-spans = record {
  one_more = λ input s. with-used (standing input s) (ap (λ n. record { chunks = length s.pools.chunks; spans = n; links = length s.pools.links; events = length s.pools.events; nodes = length s.pools.nodes }) (more s.pools.spans _));
  as_many = λ input s j x. with-used (standing input s) (ap (λ n. record { chunks = length s.pools.chunks; spans = n; links = length s.pools.links; events = length s.pools.events; nodes = length s.pools.nodes }) (length-set s.pools.spans j x));
  fitting = λ input room s i h. record { texts = i.texts; chunks = i.chunks; spans = omega arith; links = i.links; events = i.events; nodes = i.nodes };
  left = λ input room s i. omega (arith, i.spans);
}

pub counts-chunks : Counts chunks_part count_chunk
counts-chunks = record {
  one_more = λ input s. with-used (standing input s) (ap (λ n. record { chunks = n; spans = length s.pools.spans; links = length s.pools.links; events = length s.pools.events; nodes = length s.pools.nodes }) (more s.pools.chunks _));
  as_many = λ input s j x. with-used (standing input s) (ap (λ n. record { chunks = n; spans = length s.pools.spans; links = length s.pools.links; events = length s.pools.events; nodes = length s.pools.nodes }) (length-set s.pools.chunks j x));
  fitting = λ input room s i h. record { texts = i.texts; chunks = omega arith; spans = i.spans; links = i.links; events = i.events; nodes = i.nodes };
  left = λ input room s i. omega (arith, i.chunks);
}

module _ (input : List ℕ) (room : Room) {T : Type 0} {part : Part T} {count : Standing → Standing} (laws : Counts part count) (layer : Layer) where
  pub reserve-sound : (s : State) → Fits (rooms_of room) (standing input s) → Post (λ j m. (standing input m ≡ count (standing input s)) × Fits (rooms_of room) (standing input m)) (reserve_in part layer room s)
  reserve-sound s i =
      pick_post _ _ s (fits (part.room room.pools) (part.of s.pools)) (λ e.
      hit (laws.one_more input s, rw (laws.one_more input s) (laws.fitting input room s i (ltb-true _ _ e)))) (λ e. no)

  pub reserve-complete : {p : Standing} → Fits (rooms_of room) (count p) → (s : State) → standing input s ≡ p → Does (λ j m. (standing input m ≡ count p) × (j ≡ length (part.of s.pools)) × (m.pools ≡ part.with (part.of s.pools ++ part.blank ∷ []) s.pools)) (reserve_in part layer room s)
  reserve-complete {p} i s e =
      pick_yes _ _ s (lt-ltb _ _ (laws.left input room s (rw e i))) (
      does (laws.one_more input s ∙ ap count e, refl, refl))
