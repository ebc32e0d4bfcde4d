-- The check does not find these alone.
use Rattle.std.proofs.Common.{rules, ◌≡◌, ap, ◌∙◌}
use Rattle.std.proofs.lemmas.Result.{err_from_is_err_and}
use Rattle.span.specs.State.{texts_of, most, rooms_of}
use Rattle.decode.specs.State.{room_of, state_of, bytes_of, at_of}
use Rattle.msgpack_decoder.specs.Whole.{start}
use Rattle.msgpack_decoder.proofs.Told.{first_text, has_text, told_limits, told_accepted, told_refused}
use Rattle.msgpack_decoder.proofs.whole.from_slice.Goals as goal

pub returns-in_err-test_limits-clause-told : goal.returns-in_err-test_limits-clause-told
returns-in_err-test_limits-clause-told c =
    let p = err_from_is_err_and c.from_residual.result c.from_residual.ensures.1 in
    let z = c.blank_all.ensures in
    rw (p.1, p.2) (told_limits c.args.input.now (room_of c.args.table.now c.args.records.now) (room_of c.blank_all.new.table c.blank_all.new.records) z.room _ _ c.in_err-test_limits.ensures z.held)

pub returns-in-Ok-clause-told : goal.returns-in-Ok-clause-told
returns-in-Ok-clause-told c =
    let z = c.blank_all.ensures in
    let t = c.blank_all.new.table in
    let r = c.blank_all.new.records in
    let u = c.record.new.self in
    let b = c.new-buf.result in
    let is = c.in_ok-test_limits.ensures in
    let same : room_of u r ≡ room_of c.args.table.now c.args.records.now = (λ j. record { texts = c.record.ensures.same j; pools = rooms_of r }) ∙ z.room in
    let texts = first_text (most t) c.blank.result (texts_of t) (texts_of u) (has_text _ (room_of t r) is) c.blank.ensures (ap (λ h. h.texts) z.held) c.record.ensures.after in
    let first : state_of b u r ≡ start = λ j. record { at = c.new-buf.ensures.at j; texts = texts j; pools = (z.held j).pools } in
    told_accepted c.args.input.now (room_of c.args.table.now c.args.records.now) (room_of t r) z.room (bytes_of b) (room_of u r) (state_of b u r) is c.new-buf.ensures.bytes same first (at_of c.decode_payload.new.decoder) c.in-Ok.payload _ _ c.in-Ok.ensures.ran (search rules) (search rules)

pub returns-in-Err-clause-told : goal.returns-in-Err-clause-told
returns-in-Err-clause-told c =
    let z = c.blank_all.ensures in
    let t = c.blank_all.new.table in
    let r = c.blank_all.new.records in
    let u = c.record.new.self in
    let b = c.new-buf.result in
    let is = c.in_ok-test_limits.ensures in
    let same : room_of u r ≡ room_of c.args.table.now c.args.records.now = (λ j. record { texts = c.record.ensures.same j; pools = rooms_of r }) ∙ z.room in
    let texts = first_text (most t) c.blank.result (texts_of t) (texts_of u) (has_text _ (room_of t r) is) c.blank.ensures (ap (λ h. h.texts) z.held) c.record.ensures.after in
    let first : state_of b u r ≡ start = λ j. record { at = c.new-buf.ensures.at j; texts = texts j; pools = (z.held j).pools } in
    told_refused c.args.input.now (room_of c.args.table.now c.args.records.now) (room_of t r) z.room (bytes_of b) (room_of u r) (state_of b u r) is c.new-buf.ensures.bytes same first _ _ c.in-Err.refusal c.in-Err.ensures.ran c.blank_all-in-Err.ensures.held
