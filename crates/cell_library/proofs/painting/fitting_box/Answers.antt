use Rattle.cell_library.proofs.Common.{subst, sym, ap, ◌∙◌, Rect, IsLawfulBox, cell_at, box_with}
use Rattle.std.specs.Prelude.{Option}
use Rattle.cell_library.proofs.BoxSteps.{box_with_lawful, own_lawful, some_lawful}
use Rattle.cell_library.proofs.painting.fitting_box.Goals as goal

pub fits_box-requires-clause-lawful : goal.fits_box-requires-clause-lawful
fits_box-requires-clause-lawful c =
    some_lawful c.box_with-own.result (subst IsLawfulBox (sym (c.box_with-own.ensures ∙ ap (λ (old : Option Rect). box_with old c.args.area) c.own_box.ensures))
    (box_with_lawful (cell_at c.args.tree.now.cells c.args.cell).own c.args.area (own_lawful c.args.tree.now c.args.cell c.lawful.ensures c.requires.cell)
    c.requires.area))

pub returns-in-Ok-clause-lawful : goal.returns-in-Ok-clause-lawful
returns-in-Ok-clause-lawful c =
    subst IsLawfulBox (sym (c.box_with-own.ensures ∙ ap (λ (old : Option Rect). box_with old c.args.area) c.own_box.ensures))
    (box_with_lawful (cell_at c.args.tree.now.cells c.args.cell).own c.args.area (own_lawful c.args.tree.now c.args.cell c.lawful.ensures c.requires.cell)
    c.requires.area)
