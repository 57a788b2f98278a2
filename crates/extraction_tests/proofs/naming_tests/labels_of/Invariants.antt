use Rattle.std.specs.Prelude.{All}
use Rattle.names.specs.Labels.{IsLabelOf}
use Rattle.extraction_tests.proofs.naming_tests.labels_of.Given as goal

abbrev pub invariant-loop-row : goal.invariant-loop-row
invariant-loop-row l = All (IsLabelOf l.tech) l.labels.items
