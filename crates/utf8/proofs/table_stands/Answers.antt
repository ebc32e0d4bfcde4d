-- The check does not find these alone.
use Rattle.utf8.proofs.Tables.{to_fold, from_fold}
use Rattle.utf8.proofs.Texts.{accepts_text}
use Rattle.utf8.proofs.table_stands.Goals as goal

pub returns-clause-table : goal.returns-clause-table
returns-clause-table c bs = (from_fold bs, to_fold)

pub returns-clause-text : goal.returns-clause-text
returns-clause-text c = accepts_text
