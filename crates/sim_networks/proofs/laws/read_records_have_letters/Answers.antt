use Rattle.sim_networks.proofs.LetterLaws.{read_letters}
use Rattle.sim_networks.proofs.laws.read_records_have_letters.Goals as goal

pub returns : goal.returns
returns c = read_letters
