-- The check does not find this alone.
use Rattle.meaning.proofs.Sharp.{stops-once, shows-once, shows_written, not-refused, not-accepted, empty-accepted}
use Rattle.meaning.proofs.promise_excludes.Goals as goal

pub returns-clause-excludes : goal.returns-clause-excludes
returns-clause-excludes c = record {
  refuse = not-refused;
  refuse_all = empty-accepted;
  stop_elsewhere = λ input room room' f f' held held' a b. stops-once a b;
  show_another = λ input room room' f f' held held' a b. shows-once a b;
  show_empty = shows_written;
  accept = not-accepted;
}
