use Rattle.cell_bodies.proofs.GridLaws.{IsLawful-is_grid}
use Rattle.cell_bodies.proofs.forms.grids_of_uses_are_lawful.Goals as goal

pub returns : goal.returns
returns c = λ grid is. IsLawful-is_grid grid is
