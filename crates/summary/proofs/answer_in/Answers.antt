-- The check does not find these alone.
use Rattle.std.proofs.Common.{rules, Ok}
use Rattle.decode.specs.State.{room_of}
use Rattle.summary.proofs.Answers.{counted}
use Rattle.summary.proofs.answer_in.Goals as goal

pub returns-in_err-found-clause-promise : goal.returns-in_err-found-clause-promise
returns-in_err-found-clause-promise c =
    let e = c.in_err-found.ensures in
    counted _ _ _ _ c.from_residual.result e.told e.within (search rules)

pub returns-clause-promise : goal.returns-clause-promise
returns-clause-promise c =
    let e = c.in_ok-found.ensures in
    counted c.args.input.now (room_of c.args.table.now c.args.records.now) _ _ (Ok _) e.told e.within (search rules)
