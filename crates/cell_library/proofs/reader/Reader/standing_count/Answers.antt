use Rattle.cell_library.proofs.Common.{◌≡◌, ◌<◌, length, sym, ap, subst, ◌∙◌, standings, size_at, Tree, LibraryParts, seen}
use Rattle.cell_library.specs.LayoutTrees.{tree_at}
use Rattle.cell_library.proofs.StandingCounts.{standings_counted}
use Rattle.cell_library.proofs.reader.Reader.standing_count.Goals as goal

pub returns : goal.returns
returns c =
    let library : LibraryParts = c.self.inside.library.now in
    let cell = c.args.cell.0 in
    let below : cell < length library.contents = subst (λ (l : LibraryParts). c.args.cell.0 < length l.contents) (sym c.self.view_is) c.requires in
    subst (λ (l : LibraryParts). c.elements.result ≡ length (standings (tree_at (seen l) c.args.cell.0))) c.self.view_is
    (c.elements.ensures ∙ ap (λ (tree : Tree). (size_at tree.sizes cell).elements) c.tree.ensures
    ∙ sym (standings_counted library c.lawful.ensures cell below))
