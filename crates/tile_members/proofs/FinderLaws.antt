-- A finder of members, tile by tile.
use Rattle.tile_members.proofs.Common.{◌≡◌, ◌+◌, ℕ, List, [], ◌∷◌, ◌++◌, Some, sym, ap, subst, ◌∙◌, slice_get, CellKey, Table, PartTile}
use Rattle.tile_members.proofs.Common.{LibraryParts, seen, OpenedCells, HasMembers, AddsNameOrNone, AreOpened, KeepOpened, HasTile, IsPartTile}
use Rattle.element_paths.specs.CellLibrary.LayoutTrees.{tree_at}
use Rattle.element_paths.specs.LibraryTrees.NamedCells.{named_tree_at}
use Rattle.tile_members.specs.declared.finding.MemberFinder.{MemberFinder}
use Rattle.tile_members.specs.steps.Finding.{IsFinderOf}
use Rattle.tile_members.proofs.FoundTiles.{AreFound, found_more, found_none}
use Rattle.tile_members.proofs.KnownLaws.{known_kept}

-- a finder that opened more cells
pub finder_entered : (library : LibraryParts) (finder : MemberFinder) (opened : OpenedCells) → IsFinderOf library finder
    → AreOpened (seen library) opened → KeepOpened finder.opened opened → IsFinderOf library (record finder { opened = opened })
finder_entered library finder opened is are keep = record {
  paths = is.paths;
  opened = are;
  groups = is.groups;
  known = known_kept (seen library) finder.cell.0 finder.opened opened finder.known keep is.known;
}

-- The finder is of this cell and these records, and has found the members of the first tiles.
pub record IsFinding (library : LibraryParts) (table : Table) (cell : ℕ) (tiles : List PartTile) (count : ℕ) (finder : MemberFinder) (numbers : List ℕ)
    : Type 0 where
  pub cell_is : finder.cell.0 ≡ cell
  pub table_is : finder.names.records.now ≡ table
  pub is : IsFinderOf library finder
  pub found : AreFound library.tech (named_tree_at (seen library) cell) tiles count finder.known.names.items numbers

-- no tiles yet
pub finding_none : (library : LibraryParts) (table : Table) (cell : CellKey) (tiles : List PartTile) (finder : MemberFinder) (numbers : List ℕ)
    → finder.cell ≡ cell → finder.names.records.now ≡ table → IsFinderOf library finder → finder.known.names.items ≡ [] → numbers ≡ []
    → IsFinding library table cell.0 tiles 0 finder numbers
finding_none library table cell tiles finder numbers cell_is table_is is no_names no_numbers = record {
  cell_is = ap (λ (c : CellKey). c.0) cell_is;
  table_is = table_is;
  is = is;
  found = found_none library.tech (named_tree_at (seen library) cell.0) tiles finder.known.names.items numbers no_names no_numbers;
}

-- members that can be found by a finder
pub finder_members : (library : LibraryParts) (table : Table) (cell : ℕ) (finder : MemberFinder) → finder.cell.0 ≡ cell
    → finder.names.records.now ≡ table → HasMembers library table cell → HasMembers library finder.names.records.now finder.cell.0
finder_members library table cell finder cell_is table_is has =
    subst (λ (t : Table). HasMembers library t finder.cell.0) (sym table_is) (subst (HasMembers library table) (sym cell_is) has)

-- the next tile is one of the cell of the finder
pub finder_tile : (library : LibraryParts) (cell : ℕ) (tiles : List PartTile) (finder : MemberFinder) (tile : PartTile) → finder.cell.0 ≡ cell
    → IsPartTile (tree_at (seen library) cell) tile → IsPartTile (tree_at (seen library) finder.cell.0) tile
finder_tile library cell tiles finder tile cell_is is = subst (λ (n : ℕ). IsPartTile (tree_at (seen library) n) tile) (sym cell_is) is

-- one tile more
pub finding_more : (library : LibraryParts) (table : Table) (cell : ℕ) (tiles : List PartTile) (count next : ℕ) (finder new : MemberFinder)
    (numbers more : List ℕ) (tile : PartTile) (number : ℕ) → IsFinding library table cell tiles count finder numbers → next ≡ count + 1
    → more ≡ numbers ++ number ∷ [] → slice_get tiles count ≡ Some tile → IsFinderOf library new → new.cell ≡ finder.cell
    → new.names.records ≡ finder.names.records → AddsNameOrNone finder.known.names.items new.known.names.items number
    → HasTile library.tech (named_tree_at (seen library) finder.cell.0) new.known.names.items number tile
    → IsFinding library table cell tiles next new more
finding_more library table cell tiles count next finder new numbers more tile number finding after is there finder_is same_cell same_table adds has =
    record {
      cell_is = ap (λ c. c.0) same_cell ∙ finding.cell_is;
      table_is = ap (λ r. r.now) same_table ∙ finding.table_is;
      is = finder_is;
      found = found_more library.tech (named_tree_at (seen library) cell) tiles count next finder.known.names.items new.known.names.items numbers more tile
          number finding.found after is there adds
          (subst (λ (n : ℕ). HasTile library.tech (named_tree_at (seen library) n) new.known.names.items number tile) finding.cell_is has);
    }
