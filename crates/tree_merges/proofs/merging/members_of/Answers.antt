use Rattle.tree_merges.proofs.Common.{List, arith, length, ap, sym, subst, All, PartTile, seen, AreTileMembers}
use Rattle.std.specs.Prelude.{IfOk}
use Rattle.hier_merge.specs.CellLibrary.LayoutTrees.{tree_at}
use Rattle.tile_members.specs.LibraryTrees.NamedCells.{named_tree_at}
use Rattle.tile_members.specs.TileMembers.{IsPartTile}
use Rattle.tree_merges.proofs.merging.members_of.Goals as goal

pub tile_members-requires-clause-tiles : goal.tile_members-requires-clause-tiles
tile_members-requires-clause-tiles g c =
    subst (λ (tiles : List PartTile). All (IsPartTile (tree_at (seen c.args.library.now) c.args.cell.0)) tiles) (sym c.as_slice.ensures.value)
    c.requires.tiles

pub returns-clause-members : goal.returns-clause-members
returns-clause-members g c =
    subst (λ (tiles : List PartTile). IfOk c.tile_members.result (λ found.
    AreTileMembers c.args.library.now.tech (named_tree_at (seen c.args.library.now) c.args.cell.0) tiles found.names.items found.numbers.items))
    c.as_slice.ensures.value c.tile_members.ensures.members

pub returns-clause-steps : goal.returns-clause-steps
returns-clause-steps g c = omega (arith, c.tile_members.ensures.steps, ap length c.as_slice.ensures.value)
