use Rattle.cell_library.proofs.Common.{◌<◌, ◌∙◌, length, sym, ap, subst, Held, LibraryParts, uses_in, CellView}
use Rattle.cell_library.proofs.ViewLaws.{cell_viewed}
use Rattle.cell_library.proofs.library.Library.labels_of.Goals as goal

pub returns : goal.returns
returns c =
    let below : c.args.cell.0 < length c.self.inside.contents = subst (λ (l : LibraryParts). c.args.cell.0 < length l.contents) (sym c.self.view_is) c.requires
    in
    let here = cell_viewed c.self.inside.contents (uses_in c.self.inside.tree.cells) c.args.cell.0 below in
    rw (← c.self.view_is) (c.as_slice.ensures.value ∙ ap (λ (held : Held). held.labels) c.get.ensures ∙ ap (λ (view : CellView). view.labels) (sym here))
