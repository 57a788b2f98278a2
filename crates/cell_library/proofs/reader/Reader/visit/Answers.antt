use Rattle.cell_library.proofs.Common.{◌≡◌, ℕ, subst, IfOk, Lists, Covers, Place, LibraryParts, seen, set_of_part, set_of_tiles, IsPartTileIn}
use Rattle.cell_library.specs.LayoutTrees.{tree_at}
use Rattle.cell_library.proofs.reader.Reader.visit.Goals as goal

pub returns-clause-tiles : goal.returns-clause-tiles
returns-clause-tiles g c =
    subst (λ (library : LibraryParts). IfOk c.visit.result (λ tiles. Lists (IsPartTileIn (tree_at (seen library) c.args.cell.0) c.args.area) tiles.items))
    c.visitor-visitor.ensures c.visit.ensures.tiles

pub returns-clause-sets : goal.returns-clause-sets
returns-clause-sets g c =
    subst (λ (library : LibraryParts). IfOk c.visit.result (λ tiles. (part : ℕ) (place : Place) → Covers c.args.area place.square
    → set_of_tiles library.tech tiles.items part place ≡ set_of_part library.tech (tree_at (seen library) c.args.cell.0) part place))
    c.visitor-visitor.ensures c.visit.ensures.sets
