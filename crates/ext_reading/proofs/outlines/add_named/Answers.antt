use Rattle.ext_reading.proofs.Common.{Option, sym, Grid, HasIdForm, grid_in}
use Rattle.ext_reading.proofs.LawfulDrafts.{grid_in-has}
use Rattle.ext_reading.proofs.Outcomes.{value_has}
use Rattle.ext_reading.proofs.outlines.add_named.Goals as goal

pub add_elements-requires : goal.add_elements-requires
add_elements-requires c =
    let name = c.args.name in
    value_has (λ (grid : Option Grid). HasIdForm grid name.id) (grid_in name.grid) c.in-Ok.grid (grid_in-has name.grid name.id c.requires)
    (sym c.in-Ok.ensures)
