-- The worked cases that are read, as writings of the format. Assumes nothing.
use Rattle.std.specs.Prelude.{◌≡◌, ℕ, List, [], ◌∷◌, map, filter, negsuc, is_ok, codes}
use Rattle.std.specs.List.{AllByRecursion}
use Rattle.wire.specs.Payload.{Payload, int_value}
use Rattle.wire.specs.Fields.{PayloadField, payload_of}
use Rattle.wire.specs.Standing.{Standing, start_of}
use Rattle.wire.specs.Records.{PayloadAt}
use Rattle.cases.specs.Cases.{Case, cases}

-- a writing of v stands at the start, and nothing is left behind it
abbrev pub Written : List ℕ → Payload → Type 0
Written input v = (q : Standing) × PayloadAt v (start_of input) q × (q.bytes ≡ [])

-- the input of a case, and the fields that are written there, as they stand
abbrev pub writings : List (List ℕ × List PayloadField)
writings =
    -- an empty array of chunks
    (0x81 ∷ 0x0b ∷ 0x90 ∷ [], PayloadField.chunks [] ∷ [])
    -- an unknown key with a text, and the number of that text
    ∷ (0x83 ∷ 0x1e ∷ 0xa3 ∷ 0x70 ∷ 0x70 ∷ 0x73 ∷ 0x0b ∷ 0x90 ∷ 0x06 ∷ 0x01 ∷ [], PayloadField.other ∷ PayloadField.chunks [] ∷ PayloadField.runtime_id (codes "pps") ∷ [])
    -- the number of the empty text
    ∷ (0x82 ∷ 0x06 ∷ 0x00 ∷ 0x0b ∷ 0x90 ∷ [], PayloadField.runtime_id [] ∷ PayloadField.chunks [] ∷ [])
    -- an attribute, which is the integer -128
    ∷ (0x82 ∷ 0x0a ∷ 0x93 ∷ 0xa1 ∷ 0x6b ∷ 0x04 ∷ 0xd0 ∷ 0x80 ∷ 0x0b ∷ 0x90 ∷ [], PayloadField.attributes ((codes "k", int_value (negsuc 127)) ∷ []) ∷ PayloadField.chunks [] ∷ [])
    -- two equal texts, and the number of the second
    ∷ (0x84 ∷ 0x06 ∷ 0xa1 ∷ 0x61 ∷ 0x05 ∷ 0xa1 ∷ 0x61 ∷ 0x02 ∷ 0x02 ∷ 0x0b ∷ 0x90 ∷ [], PayloadField.runtime_id (codes "a") ∷ PayloadField.tracer_version (codes "a") ∷ PayloadField.container_id (codes "a") ∷ PayloadField.chunks [] ∷ [])
    ∷ []

-- the inputs of the cases that are read
abbrev pub inputs_read : List Case → List (List ℕ)
inputs_read l = map (λ c. c.input) (filter (λ c. is_ok c.answer) l)

-- Each input that is read is written, from its first byte to its last, with the payload of those fields; and these are
-- all that are read.
abbrev pub CasesWritten : Type 0
CasesWritten = AllByRecursion (λ w. Written w.0 (payload_of w.1)) writings × (map (λ w. w.0) writings ≡ inputs_read cases)
