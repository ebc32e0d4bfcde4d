-- The check does not find this alone.
use Rattle.std.proofs.Common.{rules}
use Rattle.check_payload.proofs.Filled.{filled_more}
use Rattle.check_payload.proofs.fill.fill.Goals as goal

pub loop-preserved : goal.loop-preserved
loop-preserved g c =
    let before = c.loop.invariant in
    let read = c.in_ok-count.ensures in
    let more = filled_more _ _ _ c.loop.buf c.read.new.buf _ c.loop.used c.in_ok-count.count before.1 read.bound.0 before.2 read.bytes.0 in
    (search rules, more.0, more.1)
