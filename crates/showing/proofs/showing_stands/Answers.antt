-- The check does not find these alone.
use Rattle.showing.proofs.Values.{value-shown}
use Rattle.showing.proofs.Answered.{value-answered}
use Rattle.showing.proofs.Walks.{walk, end}
use Rattle.showing.proofs.showing_stands.Goals as goal

pub returns-clause-value : goal.returns-clause-value
returns-clause-value c = value-shown

pub returns-clause-answered : goal.returns-clause-answered
returns-clause-answered c = value-answered

pub returns-clause-walk : goal.returns-clause-walk
returns-clause-walk c = walk

pub returns-clause-end : goal.returns-clause-end
returns-clause-end c = end
