-- Each turn brought a byte, and what lies at the front of the memory is what was read.
use Rattle.std.proofs.Common.{◌≤◌, length, take}
use Rattle.std.specs.Io.KnownBytes.{Consumes}
use Rattle.check_payload.proofs.fill.fill.Given as goal

abbrev pub invariant-loop : goal.invariant-loop
invariant-loop g l = (l.counter ≤ l.used) × (l.used ≤ length l.buf) × Consumes (g.R.Read.remaining l.initial.source) (g.R.Read.remaining l.source) (take l.used l.buf)
