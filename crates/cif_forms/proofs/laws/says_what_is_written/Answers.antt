use Rattle.cif_forms.proofs.WrittenLaws.{is_layer_name-part, says-area, says-call, says-end, says-finish, says-half, says-layer}
use Rattle.cif_forms.proofs.WrittenLaws.{says-line_feed, says-name, says-start}
use Rattle.cif_forms.proofs.laws.says_what_is_written.Goals as goal

pub returns-clause-start : goal.returns-clause-start
returns-clause-start c = says-start

pub returns-clause-half : goal.returns-clause-half
returns-clause-half c = says-half

pub returns-clause-name : goal.returns-clause-name
returns-clause-name c = says-name

pub returns-clause-layer : goal.returns-clause-layer
returns-clause-layer c = says-layer

pub returns-clause-part : goal.returns-clause-part
returns-clause-part c = is_layer_name-part

pub returns-clause-area : goal.returns-clause-area
returns-clause-area c = says-area

pub returns-clause-call : goal.returns-clause-call
returns-clause-call c = says-call

pub returns-clause-finish : goal.returns-clause-finish
returns-clause-finish c = says-finish

pub returns-clause-end : goal.returns-clause-end
returns-clause-end c = says-end

pub returns-clause-line_feed : goal.returns-clause-line_feed
returns-clause-line_feed c = says-line_feed
