-- The check does not find these alone.
use Rattle.std.proofs.lemmas.Result.{err_from_is_err_and}
use Rattle.decode.proofs.Turns.{turn_more, turn_refused}
use Rattle.attributes.specs.Element.{has_key}
use Rattle.attributes.specs.Attributes.{member}
use Rattle.attributes.proofs.map.+attributes.Goals as goal

pub repeat_member-returns-in_err-read_member : goal.repeat_member-returns-in_err-read_member
repeat_member-returns-in_err-read_member t c =
    let p = err_from_is_err_and c.from_residual.result c.from_residual.ensures.1 in
    rw (p.1, p.2) (turn_refused (λ input room u. member input room c.args.depth (has_key c.args.element)) c.loop.invariant c.loop-test.true c.in_err-read_member.ensures)

pub repeat_member-loop-preserved : goal.repeat_member-loop-preserved
repeat_member-loop-preserved t c =
    turn_more (λ input room u. member input room c.args.depth (has_key c.args.element)) c.loop.invariant c.loop-test.true c.in_ok-read_member.ensures
