use Rattle.cif_forms.proofs.WrittenWords.{unmarked-line_of}
use Rattle.cif_forms.proofs.WrittenLaws.{unmarked-call, unmarked-layer, unmarked-name, unmarked-numbers}
use Rattle.cif_forms.proofs.laws.written_commands_are_unmarked.Goals as goal

pub returns-clause-line : goal.returns-clause-line
returns-clause-line c = unmarked-line_of

pub returns-clause-name : goal.returns-clause-name
returns-clause-name c = unmarked-name

pub returns-clause-layer : goal.returns-clause-layer
returns-clause-layer c = unmarked-layer

pub returns-clause-numbers : goal.returns-clause-numbers
returns-clause-numbers c = unmarked-numbers

pub returns-clause-call : goal.returns-clause-call
returns-clause-call c = unmarked-call
