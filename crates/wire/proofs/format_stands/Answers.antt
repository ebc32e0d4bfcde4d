-- The check does not find this alone.
use Rattle.wire.proofs.Stands.{independent}
use Rattle.wire.proofs.format_stands.Goals as goal

pub returns-clause-independent : goal.returns-clause-independent
returns-clause-independent c = independent
