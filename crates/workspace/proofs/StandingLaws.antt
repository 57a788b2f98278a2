-- How many cells stand at and below a cell, as elements with names.
use Rattle.workspace.proofs.Common.{◌≡◌, ◌<◌, ℕ, length, map, refl, ap, length-map, IsLawfulLibrary, LibraryParts, seen, named_tree_at}
use Rattle.std.proofs.Common.{◌≤◌, suc, arith, length-append}
use Rattle.circuit_model.specs.declared.limits.TheConstants.{MOST_FLAT_ELEMENTS}
use Rattle.tree_circuits.specs.LayoutModel.CellTrees.{CellTree, standings, standings_from, under}
use Rattle.ext_cache.specs.CellLibrary.LayoutTrees.{tree_at}
use Rattle.ext_cache.proofs.CellLibrary.StandingCounts.{standings_few}
use Rattle.circuit_laws.specs.TreeRecords.NamedTrees.{NamedElements, NamedTree, layouts_below, layouts_of, named_above, named_standings, named_standings_below}
use Rattle.circuit_laws.specs.TreeRecords.NamedTrees.NamedTree.{named_tree}
use Rattle.circuit_laws.specs.TreeRecords.NamedTrees.NamedElements.{no_more, element_then}
use Rattle.ext_cache.proofs.LibraryTrees.LayoutLaws.{layouts_of_cell}

mutual
  -- without names, as many cells stand at and below a cell
  layouts_counted : (tree : NamedTree) → length (standings (layouts_of tree)) ≡ length (named_standings tree)
  layouts_counted (named_tree own elements) = ap suc (layouts_counted_below 1 elements)

  layouts_counted_below : (part : ℕ) (elements : NamedElements)
      → length (standings_from part (layouts_below elements)) ≡ length (named_standings_below elements)
  layouts_counted_below part no_more = refl
  layouts_counted_below part (element_then id placed tree rest) =
      let first = standings (layouts_of tree) in
      let named = named_standings tree in
      let here = layouts_counted tree in
      let later = layouts_counted_below (suc part) rest in
      omega (
        arith,
        here,
        later,
        length-append (map (under part placed) first) (standings_from (suc part) (layouts_below rest)),
        length-append (map (named_above id placed) named) (named_standings_below rest),
        length-map first (under part placed),
        length-map named (named_above id placed),
      )

-- no more cells stand at and below a cell of the library than a circuit may have elements
pub few_elements : (library : LibraryParts) → IsLawfulLibrary library → (cell : ℕ) → cell < length library.contents
    → length (named_standings (named_tree_at (seen library) cell)) ≤ MOST_FLAT_ELEMENTS
few_elements library lawful cell there =
    let few = standings_few library lawful cell there in
    let counted = layouts_counted (named_tree_at (seen library) cell) in
    let same : length (standings (layouts_of (named_tree_at (seen library) cell))) ≡ length (standings (tree_at (seen library) cell)) =
    ap (λ (tree : CellTree). length (standings tree)) (layouts_of_cell (seen library) cell) in
    omega (arith, few, counted, same)
