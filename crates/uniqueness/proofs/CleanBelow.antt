-- Where a cell of a lawful library is clean, so is each cell below it.
use Rattle.uniqueness.proofs.Common.{◌≡◌, ◌<◌, ℕ, ℤ, inl, inr, List, [], ◌∷◌, length, refl, sym, subst, arith, Option, Some, None, stay, go, In}
use Rattle.uniqueness.proofs.Common.{Chain-one, In-map_source, Grid, Rect, RawTech, UseBody, children_in, IsLawfulLibrary, LibraryParts, seen}
use Rattle.uniqueness.proofs.Common.{view_at, IsCleanCell, IsUncleanBelow}
use Rattle.finite_sets.specs.Chain.{Chain}
use Rattle.finite_sets.proofs.Members.{In-append_right}
use Rattle.geo_core.specs.declared.transforms.Transform.{Transform}
use Rattle.geo_core.proofs.ElementLaws.{length-elements_of}
use Rattle.use_orders.specs.Uses.{UsesCell}
use Rattle.use_orders.proofs.Visiting.{library_order-lists}
use Rattle.cell_loading.specs.LayoutModel.CellTrees.{CellTree, Elements}
use Rattle.tree_circuits.specs.HierarchyModel.CleanCells.{AreClean, IsClean}
use Rattle.cell_loading.specs.CellTree.Uses.{displacements}
use Rattle.edit_script.specs.CellLibrary.LayoutTrees.{elements_at, elements_from, tree_at}
use Rattle.edit_script.proofs.CellLibrary.GridSteps.{displacement_count}
use Rattle.edit_script.proofs.CellLibrary.LayoutTreeLaws.{tree_unfolds}
use Rattle.edit_script.proofs.CellLibrary.ChildLaws.{below_there, child_of, children_at}

-- a use has some element
some_element : (grid : Option Grid) → 0 < length (displacements grid)
some_element None = omega arith
some_element (Some grid) = omega (arith, displacement_count grid, length-elements_of grid)

-- elements of one child are clean only where it is
child_is_clean : (raw : RawTech) (tree : CellTree) (placed : Transform) (steps : List (ℤ × ℤ)) (rest : Elements) → 0 < length steps
    → AreClean raw (elements_at tree placed steps rest) → IsClean raw tree
child_is_clean raw tree placed [] rest some clean = absurd (omega arith)
child_is_clean raw tree placed (step ∷ steps) rest some clean = clean.0

-- and so are those behind them
others_are_clean : (raw : RawTech) (tree : CellTree) (placed : Transform) (steps : List (ℤ × ℤ)) (rest : Elements)
    → AreClean raw (elements_at tree placed steps rest) → AreClean raw rest
others_are_clean raw tree placed [] rest clean = clean
others_are_clean raw tree placed (step ∷ steps) rest clean = others_are_clean raw tree placed steps rest clean.1

-- so the child of each use is clean
children_are_clean : (raw : RawTech) (trees : ℕ → CellTree) (uses : List (List ℕ × UseBody)) → AreClean raw (elements_from trees uses)
    → (entry : List ℕ × UseBody) → In entry uses → IsClean raw (trees entry.1.child.0)
children_are_clean raw trees [] clean entry here = absurd here
children_are_clean raw trees (first ∷ uses) clean entry (inl same) =
    subst (λ (one : List ℕ × UseBody). IsClean raw (trees one.1.child.0)) same
    (child_is_clean raw (trees first.1.child.0) first.1.placed (displacements first.1.grid) (elements_from trees uses) (some_element first.1.grid) clean)
children_are_clean raw trees (first ∷ uses) clean entry (inr later) =
    children_are_clean raw trees uses
    (others_are_clean raw (trees first.1.child.0) first.1.placed (displacements first.1.grid) (elements_from trees uses) clean) entry later

module _ (library : LibraryParts) (lawful : IsLawfulLibrary library) where
  -- what a clean cell uses is clean
  used_is_clean : (cell child : ℕ) → cell < length library.contents → IsCleanCell (seen library) cell → UsesCell (children_in (seen library)) cell child
      → IsCleanCell (seen library) child
  used_is_clean cell child below clean uses =
      let view = seen library in
      let source = In-map_source child_of child (view_at view cell).uses
      (subst (λ (children : List ℕ). In child children) (children_at view.cells cell) uses) in
      let whole = subst (λ (tree : CellTree). IsClean library.tech tree) (tree_unfolds library lawful cell below) clean in
      subst (λ (key : ℕ). IsCleanCell view key) source.1.1
      (children_are_clean library.tech (tree_at view) (view_at view cell).uses whole.0 source.0 source.1.0)

  -- and so is all below it
  pub all_are_clean : (root cell : ℕ) → root < length library.contents → IsCleanCell (seen library) root
      → Chain (UsesCell (children_in (seen library))) root cell → IsCleanCell (seen library) cell
  all_are_clean root cell there clean stay = clean
  all_are_clean root cell there clean (go {b = child} step rest) =
      all_are_clean child cell (below_there library lawful root child there (Chain-one step)) (used_is_clean root child there clean step) rest

  -- so none is told
  pub none_unclean : (root cell : ℕ) (squares : List (ℕ × Rect)) → root < length library.contents → IsCleanCell (seen library) root
      → ¬ (IsUncleanBelow (seen library) root cell squares)
  none_unclean root cell squares there clean told =
      let stands = subst (λ (order : List ℕ). In cell order) (sym told.first.stands)
      (In-append_right cell told.first.before (cell ∷ told.first.after) (inl refl)) in
      told.first.unclean (all_are_clean root cell there clean
      ((library_order-lists (children_in (seen library)) root told.order told.is_order).2 cell stands))
