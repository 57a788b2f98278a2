use Rattle.cell_loading.proofs.ArrivalLaws.{more_cells}
use Rattle.cell_loading.proofs.Common.{◌∙◌}
use Rattle.cell_loading.proofs.loading.add_cells.Goals as goal

pub returns-in-Ok-clause-arrives : goal.returns-in-Ok-clause-arrives
returns-in-Ok-clause-arrives c = record {
  edits = c.in-Ok.ensures.edit.edits;
  after = c.in-Ok.ensures.added;
  count_is = c.len-count.ensures ∙ c.args.cells.ok.0;
  may_come = c.in-Ok.ensures.answers;
}

pub returns-in-Ok-clause-more : goal.returns-in-Ok-clause-more
returns-in-Ok-clause-more c = more_cells c.args.library.now c.add_all.new.self c.args.cells.items c.requires.some c.in-Ok.ensures.added

pub returns-in-Ok-clause-stamped : goal.returns-in-Ok-clause-stamped
returns-in-Ok-clause-stamped c = (c.args.cells.items, c.in-Ok.ensures.edit, c.in-Ok.ensures.added)
