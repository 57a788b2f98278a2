use Rattle.cell_library.proofs.Common.{subst, IsTyped, LibraryParts, seen}
use Rattle.cell_library.specs.LayoutTrees.{tree_at}
use Rattle.cell_library.proofs.TreeTypes.{library_is_typed}
use Rattle.cell_library.proofs.reader.Reader.typed.Goals as goal

pub returns : goal.returns
returns c =
    subst (λ (l : LibraryParts). IsTyped l.tech (tree_at (seen l) c.args.cell.0)) c.self.view_is
    (library_is_typed c.self.inside.library.now c.lawful.ensures c.all_sound.ensures c.args.cell.0)
