-- What a payload holds that was read into the pools of the program check_payload. Assumes nothing.
use Rattle.std.specs.Prelude.{ℕ, if◌then◌else◌, List, [], ◌∷◌, map, Some, None, Ok, Err, Option, Result, ◌==◌}
use Rattle.refusal.specs.declared.Refusal.{Refusal}
use Rattle.span.specs.State.{Held}
use Rattle.span.specs.declared.types.Node.{Node}
use Rattle.span.specs.declared.types.Place.{Place}
use Rattle.span.specs.declared.types.TracerPayload.{TracerPayload}
use Rattle.decode.specs.Binary.{part}
use Rattle.msgpack_decoder.specs.Whole.{decoded}
use Rattle.msgpack_decoder.specs.declared.whole.ReadPayload.{ReadPayload}
use Rattle.summary.specs.Answers.{check_room}

-- texts by their bytes
pub record Contents : Type 0 where
  -- the payload's texts by their keys, those that are not empty
  pub fields : List (ℕ × List ℕ)
  -- all texts by their numbers
  pub texts : List (List ℕ)
  -- all nodes: key, type number, pattern
  pub nodes : List (List ℕ × ℕ × ℕ)

module _ (input : List ℕ) where
  abbrev pub shown : Place → List ℕ
  shown t = part input t.offset t.length

  abbrev pub field : ℕ → Place → List (ℕ × List ℕ) → List (ℕ × List ℕ)
  field k t l = if t.length == 0 then l else (k, shown t) ∷ l

  abbrev pub fields_of : TracerPayload → List (ℕ × List ℕ)
  fields_of p =
      field 2 p.container_id (field 3 p.language_name (field 4 p.language_version (field 5 p.tracer_version (
      field 6 p.runtime_id (field 7 p.env (field 8 p.hostname (field 9 p.app_version [])))))))

  abbrev pub node : Node → List ℕ × ℕ × ℕ
  node n = (shown n.key, n.type_number, n.pattern)

  abbrev pub contained : Result ReadPayload Refusal × Held → Option Contents
  contained (Ok p, h) = Some (record { fields = fields_of p.payload; texts = map shown h.texts; nodes = map node h.pools.nodes })
  contained (Err e, h) = None

abbrev pub contents_of : List ℕ → Option Contents
contents_of input = contained input (decoded input check_room)
