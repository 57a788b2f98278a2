use Rattle.switch_net.proofs.Paths.{each_has_simple_path}
use Rattle.switch_net.proofs.laws.simple_path_law.Goals as goal

pub returns : goal.returns
returns c = each_has_simple_path
