use Rattle.cell_library.proofs.Common.{◌≡◌, ℕ, subst, Lists, Covers, Place, LibraryParts, seen, set_of_part, set_of_tiles, IsPartTileIn}
use Rattle.cell_library.specs.LayoutTrees.{tree_at}
use Rattle.cell_library.proofs.visitor.Visitor.visit.Goals as goal

pub returns-clause-tiles : goal.returns-clause-tiles
returns-clause-tiles g c =
    subst (λ (library : LibraryParts). Lists (IsPartTileIn (tree_at (seen library) c.args.cell.0) c.args.area) c.in_ok-tiles.tiles.items)
    c.self.view_is
    c.in_ok-tiles.ensures.tiles

pub returns-clause-sets : goal.returns-clause-sets
returns-clause-sets g c =
    subst (λ (library : LibraryParts). (part : ℕ) (place : Place) → Covers c.args.area place.square
    → set_of_tiles library.tech c.in_ok-tiles.tiles.items part place ≡ set_of_part library.tech (tree_at
    (seen library) c.args.cell.0) part place) c.self.view_is
    c.in_ok-tiles.ensures.sets
