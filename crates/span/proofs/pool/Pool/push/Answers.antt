-- The check does not find this alone. What is written is left to be found, so that it may be any record.
use Rattle.std.proofs.Common.{arith}
use Rattle.span.proofs.Lists.{push_well, push_rest}
use Rattle.span.proofs.pool.Pool.push.Goals as goal

pub invariant_of-self : goal.invariant_of-self
invariant_of-self g c =
    let p = c.args.self.now in
    record { well = push_well p.records.now p.used _ (omega arith); rest = push_rest _ p.records.now p.used _ (omega arith) p.rest }
