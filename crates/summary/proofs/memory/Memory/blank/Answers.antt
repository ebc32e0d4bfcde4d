-- The check does not find this alone.
use Rattle.std.proofs.Common.{replicate}
use Rattle.summary.proofs.memory.Memory.blank.Goals as goal

pub returns : goal.returns
returns c = λ j. record {
  texts = replicate 1024 (c.blank.ensures j);
  chunks = replicate 64 (c.blank-2.ensures j);
  spans = replicate 256 (c.blank-3.ensures j);
  links = replicate 64 (c.blank-4.ensures j);
  events = replicate 64 (c.blank-5.ensures j);
  nodes = replicate 512 (c.blank-6.ensures j);
}
