use Rattle.cell_library.proofs.Common.{◌<◌, length, sym, ap, subst, TypeRec, Layout, layout_of, IsSoundPaint, held_at, no_held, LibraryParts}
use Rattle.cell_library.proofs.Common.{uses_in, CellView}
use Rattle.std.specs.Prelude.{List}
use Rattle.cell_library.proofs.ViewLaws.{cell_viewed}
use Rattle.cell_library.proofs.library.Library.sound.Goals as goal

pub returns : goal.returns
returns c =
    let inside : LibraryParts = record {
      tech = c.self.inside.tech;
      scale = c.self.inside.scale;
      contents = c.self.inside.contents;
      tree = c.self.inside.tree;
    } in
    let below : c.args.cell.0 < length inside.contents = subst (λ (l : LibraryParts). c.args.cell.0 < length l.contents) (sym c.self.view_is) c.requires in
    let here = cell_viewed inside.contents (uses_in inside.tree.cells) c.args.cell.0 below in
    let kinds = (c.self.invariant.each c.args.cell.0 no_held below).kinds in
    let own = layout_of (held_at inside.contents c.args.cell.0).paint in
    let now : IsSoundPaint inside.tech.types own = subst (λ (types : List TypeRec). IsSoundPaint types own) kinds c.sound.ensures in
    rw (← c.self.view_is) (subst (λ (layout : Layout). IsSoundPaint inside.tech.types layout) (ap (λ (view : CellView). view.own) (sym here)) now)
