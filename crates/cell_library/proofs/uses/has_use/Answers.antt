use Rattle.cell_library.proofs.Common.{sym}
use Rattle.cell_library.proofs.UseLists.{has_none}
use Rattle.cell_library.proofs.UseSteps.{has_at}
use Rattle.cell_library.proofs.uses.has_use.Goals as goal

pub returns-in-Some : goal.returns-in-Some
returns-in-Some c = sym (has_at _ _ _ c.in-Some.ensures.found)

pub returns-in-None : goal.returns-in-None
returns-in-None c = sym (has_none _ _ c.in-None.ensures.absent)
