use Rattle.uniqueness.proofs.OneHull.{one_hull}
use Rattle.uniqueness.proofs.libraries.hulls_are_unique.Goals as goal

pub returns : goal.returns
returns c = λ view cell hull other cells. one_hull view cells cell hull other
