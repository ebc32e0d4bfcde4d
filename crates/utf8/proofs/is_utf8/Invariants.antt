use Rattle.std.proofs.Common.{◌≡◌, drop}
use Rattle.utf8.specs.Machine.{run}
use Rattle.utf8.specs.declared.State.TheVariants.{Start}
use Rattle.utf8.proofs.is_utf8.Given as goal

-- what is left, from the present state on, gives what the whole gives
abbrev pub invariant-loop-byte : goal.invariant-loop-byte
invariant-loop-byte l = run l.state (drop l.byte-index l.bytes) ≡ run Start l.bytes
