-- The check does not find this alone.
use Rattle.std.proofs.Common.{rules, length}
use Rattle.check_payload.proofs.Enough.{enough_taken}
use Rattle.check_payload.proofs.answer_from.Goals as goal

pub returns : goal.returns
returns g c = enough_taken (length c.fill.new.buf) _ _ _ c.in_ok-used.ensures.bytes c.answer.ensures (search rules)
