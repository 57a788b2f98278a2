use Rattle.merge_rows.proofs.UniqueRows.{rows_unique}
use Rattle.merge_rows.proofs.laws.rows_are_unique.Goals as goal

pub returns : goal.returns
returns c = rows_unique
