use Rattle.ext_reading.proofs.Common.{Option, sym, Grid, HasIdForm, grid_in}
use Rattle.ext_reading.proofs.LawfulDrafts.{grid_in-has}
use Rattle.ext_reading.proofs.Outcomes.{value_has}
use Rattle.ext_reading.proofs.drafts.ExtDraft.take_use.Goals as goal

pub take_new_use-requires : goal.take_new_use-requires
take_new_use-requires c =
    let name = c.args.line.name in
    value_has (λ (grid : Option Grid). HasIdForm grid name.id) (grid_in name.grid) c.in_ok-grid.grid (grid_in-has name.grid name.id c.requires)
    (sym c.in_ok-grid.ensures)
