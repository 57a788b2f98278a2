use Rattle.network_runs.proofs.ShownLines.{shows_steady_values}
use Rattle.network_runs.proofs.laws.shown_lines_tell_steady_values.Goals as goal

pub returns : goal.returns
returns c = shows_steady_values
