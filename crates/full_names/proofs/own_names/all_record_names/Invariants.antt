use Rattle.full_names.proofs.OwnNameLaws.{AreKnownBelow}
use Rattle.full_names.proofs.own_names.all_record_names.Given as goal

abbrev pub invariant-loop-cell : goal.invariant-loop-cell
invariant-loop-cell l = AreKnownBelow l.exts l.reached l.cell l.records.items
