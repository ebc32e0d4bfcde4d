-- The memory of the program, before anything is lent. Assumes nothing.
use Rattle.std.specs.Prelude.{replicate}
use Rattle.span.specs.Blank.{no_place, blank_node, blank_link, blank_event, blank_span, blank_chunk}
use Rattle.summary.specs.declared.memory.Memory.{Memory}

abbrev pub blank_memory : Memory
blank_memory =
    record {
      texts = replicate 1024 no_place;
      chunks = replicate 64 blank_chunk;
      spans = replicate 256 blank_span;
      links = replicate 64 blank_link;
      events = replicate 64 blank_event;
      nodes = replicate 512 blank_node;
    }
