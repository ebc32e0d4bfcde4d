use Rattle.std.proofs.Common.{◌+◌, ◌*◌}
use Rattle.skipped.proofs.Levels.{Left}
use Rattle.skipped.proofs.Skipper.+skip.Given as goal

-- the loop stands above the value that it steps over, and below the one whose members it goes over
abbrev pub decreases-skip_values : goal.decreases-skip_values
decreases-skip_values g l = 2 * l.depth + 1

abbrev pub decreases-skip_value : goal.decreases-skip_value
decreases-skip_value g l = 2 * l.depth

abbrev pub invariant-skip_values-loop : goal.invariant-skip_values-loop
invariant-skip_values-loop g l = Left l.depth l.initial.self l.count l.counter l.self
