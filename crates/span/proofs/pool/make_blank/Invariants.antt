use Rattle.std.proofs.Common.{◌≡◌, length, take, replicate}
use Rattle.span.proofs.pool.make_blank.Given as goal

abbrev pub invariant-loop-record : goal.invariant-loop-record
invariant-loop-record g l = (length l.records ≡ l.record-index-end) × (take l.record-index l.records ≡ replicate l.record-index g.T.Record.blank)
