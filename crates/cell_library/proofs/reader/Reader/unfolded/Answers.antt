use Rattle.cell_library.proofs.Common.{subst, LibraryParts, IsLawfulLibrary}
use Rattle.cell_library.proofs.LayoutTreeLaws.{tree_unfolds}
use Rattle.cell_library.proofs.reader.Reader.unfolded.Goals as goal

pub returns : goal.returns
returns c = tree_unfolds c.args.self.now (subst (λ (l : LibraryParts). IsLawfulLibrary l) c.self.view_is c.lawful.ensures)
