-- What reading answers by counts, and what it answers in the pools of the program check_payload. Assumes nothing.
use Rattle.std.specs.Prelude.{ℕ, List, length, Ok, Err, Result}
use Rattle.refusal.specs.declared.Refusal.{Refusal}
use Rattle.span.specs.State.{Held}
use Rattle.decode.specs.Reader.{Room}
use Rattle.msgpack_decoder.specs.Whole.{decoded}
use Rattle.msgpack_decoder.specs.declared.whole.ReadPayload.{ReadPayload}
use Rattle.summary.specs.declared.Summary.{Summary}

abbrev pub summary_of : ReadPayload → Held → Summary
summary_of p h =
    record {
      read = p.read;
      chunks = length h.pools.chunks;
      spans = length h.pools.spans;
      links = length h.pools.links;
      events = length h.pools.events;
      nodes = length h.pools.nodes;
      texts = length h.texts;
    }

abbrev pub answered : Result ReadPayload Refusal × Held → Result Summary Refusal
answered (Ok p, h) = Ok (summary_of p h)
answered (Err e, h) = Err e

abbrev pub check_room : Room
check_room = record { texts = 1024; pools = record { chunks = 64; spans = 256; links = 64; events = 64; nodes = 512 } }

abbrev pub answer_of : List ℕ → Result Summary Refusal
answer_of input = answered (decoded input check_room)
