-- The check does not find these alone.
use Rattle.meaning.proofs.Unique.{unique}
use Rattle.meaning.proofs.Fronts.{front-free}
use Rattle.meaning.proofs.writings_stand.Goals as goal

pub returns-clause-unique : goal.returns-clause-unique
returns-clause-unique c = λ input v v' q q'. unique input q q' v v'

pub returns-clause-front : goal.returns-clause-front
returns-clause-front c = front-free
