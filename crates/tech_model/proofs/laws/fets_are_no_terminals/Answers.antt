use Rattle.tech_model.proofs.WithinLaws.{fet_no_terminal}
use Rattle.tech_model.proofs.laws.fets_are_no_terminals.Goals as goal

pub returns : goal.returns
returns c = fet_no_terminal
