-- Library orders: their cells are cells of the library, and each stands behind those that are below it.
use Rattle.hier_merge.proofs.Common.{◌≡◌, ◌<◌, ◌+◌, ◌∙◌, ℕ, suc, refl, sym, ap, subst, arith, List, [], ◌∷◌, ◌++◌, length, map, take, drop, get_or}
use Rattle.hier_merge.proofs.Common.{All, Some, slice_get, length-map, take-append-drop, In, In-get_or, RawTech, CellTree, Elements, cell_tree}
use Rattle.hier_merge.proofs.Common.{AreClean, IsClean, IsCleanBelow, own_cell, tree_at, IsLawfulLibrary, LibraryParts, seen, LibraryView, view_at}
use Rattle.std.proofs.Common.{ℤ}
use Rattle.std.proofs.lemmas.List.{drop_more, get_or-map}
use Rattle.std.proofs.lemmas.List.Elements.{All-get_or, All-more}
use Rattle.finite_sets.specs.Lists.{Lists}
use Rattle.finite_sets.proofs.Members.{In-index}
use Rattle.geo_core.specs.declared.transforms.Transform.{Transform}
use Rattle.ext_model.specs.declared.tables.CellKey.{CellKey}
use Rattle.cell_library.specs.UseOrders.Uses.{AreBehindChildren, IsAtOrBelow, UsesCell}
use Rattle.hier_merge.specs.UncleanCells.{IsCleanCell, IsFirstUnclean}
use Rattle.cell_library.specs.CellTree.declared.use_tables.UseBody.{UseBody}
use Rattle.cell_library.specs.CellTree.Uses.{displacements}
use Rattle.cell_library.specs.Additions.{children_in}
use Rattle.cell_library.specs.LayoutTrees.{elements_at, elements_from}
use Rattle.cell_library.proofs.ChildLaws.{below_there, child_of, child_used}

-- ---- clean trees

-- uses of a cell, each with its id
abbrev Uses : Type 0
Uses = List (List ℕ × UseBody)

-- elements of a clean child are clean
elements_clean : (raw : RawTech) (tree : CellTree) (placed : Transform) (steps : List (ℤ × ℤ)) (rest : Elements) → IsClean raw tree
    → AreClean raw rest → AreClean raw (elements_at tree placed steps rest)
elements_clean raw tree placed [] rest clean others = others
elements_clean raw tree placed (step ∷ steps) rest clean others = (clean, elements_clean raw tree placed steps rest clean others)

-- the elements of uses of clean children are clean
uses_clean : (raw : RawTech) (trees : ℕ → CellTree) (uses : Uses)
    → ((k : ℕ) (entry : List ℕ × UseBody) → slice_get uses k ≡ Some entry → IsClean raw (trees entry.1.child.0))
    → AreClean raw (elements_from trees uses)
uses_clean raw trees [] clean = tt
uses_clean raw trees (entry ∷ rest) clean =
    elements_clean raw (trees entry.1.child.0) entry.1.placed (displacements entry.1.grid) (elements_from trees rest) (clean 0 entry refl)
    (uses_clean raw trees rest (λ k other is. clean (suc k) other is))

-- ---- library orders

-- the cells of an order by their keys
abbrev pub numbers : List CellKey → List ℕ
numbers order = map (λ key. key.0) order

-- the cell at a place of an order
pub number_at : (order : List CellKey) (place : ℕ) (d : CellKey) (e : ℕ) → place < length order
    → get_or (numbers order) place e ≡ (get_or order place d).0
number_at order place d e below = get_or-map (λ (key : CellKey). key.0) order place d e below

-- each cell of an order is a cell of the library
pub ordered_there : (library : LibraryParts) → IsLawfulLibrary library → (root : ℕ) → root < length library.contents → (order : List CellKey)
    → Lists (IsAtOrBelow (children_in (seen library)) root) (numbers order)
    → (place : ℕ) (d : CellKey) → place < length order → (get_or order place d).0 < length library.contents
ordered_there library lawful root there order lists place d below =
    let here : In (get_or (numbers order) place d.0) (numbers order) =
    In-get_or (numbers order) place d.0 (omega (arith, length-map order (λ (key : CellKey). key.0))) in
    subst (λ (cell : ℕ). cell < length library.contents) (number_at order place d d.0 below)
    (below_there library lawful root (get_or (numbers order) place d.0) there (lists.2 (get_or (numbers order) place d.0) here))

-- where all cells before a place of an order are clean, so is what is below the cell there
pub clean_before : (library : LibraryParts) (order : List CellKey) → AreBehindChildren (UsesCell (children_in (seen library))) (numbers order)
    → (place : ℕ) (d : CellKey) → place < length order → All (IsCleanCell (seen library)) (take place (numbers order))
    → tree_at (seen library) (get_or order place d).0
    ≡ cell_tree (own_cell (seen library) (get_or order place d).0)
    (elements_from (tree_at (seen library)) (view_at (seen library) (get_or order place d).0).uses)
    → IsCleanBelow library.tech (tree_at (seen library) (get_or order place d).0)
clean_before library order behind place d below before unfolds =
    let cell : ℕ = (get_or order place d).0 in
    let view : LibraryView = seen library in
    let here : get_or (numbers order) place 0 ≡ cell = number_at order place d 0 below in
    subst (λ (tree : CellTree). IsCleanBelow library.tech tree) (sym unfolds)
    (uses_clean library.tech (tree_at view) (view_at view cell).uses (λ k entry is.
    let earlier : In (child_of entry) (take place (numbers order)) =
    behind place (child_of entry) (omega (arith, below, length-map order (λ (key : CellKey). key.0)))
    (subst (λ (upper : ℕ). UsesCell (children_in view) upper (child_of entry)) (sym here) (child_used view cell k entry is)) in
    clean_in (take place (numbers order)) before (child_of entry) earlier)) where
      clean_in : (cells : List ℕ) → All (IsCleanCell (seen library)) cells → (child : ℕ) → In child cells → IsCleanCell (seen library) child
      clean_in cells all child there =
          let at = In-index child cells there in
          subst (λ (c : ℕ). IsCleanCell (seen library) c) (at.1.1 0) (All-get_or (IsCleanCell (seen library)) cells at.0 0 at.1.0 all)

-- one more cell that is clean
pub one_more_clean : (view : LibraryView) (order : List CellKey) (place : ℕ) (d : CellKey) → place < length order
    → All (IsCleanCell view) (take place (numbers order)) → IsCleanCell view (get_or order place d).0
    → All (IsCleanCell view) (take (place + 1) (numbers order))
one_more_clean view order place d below before clean =
    All-more (IsCleanCell view) (numbers order) place d.0 (omega (arith, below, length-map order (λ (key : CellKey). key.0))) before
    (subst (λ (cell : ℕ). IsCleanCell view cell) (sym (number_at order place d d.0 below)) clean)

-- the first that is not
pub first_unclean_there : (view : LibraryView) (order : List CellKey) (place : ℕ) (d : CellKey) → place < length order
    → All (IsCleanCell view) (take place (numbers order)) → (IsCleanCell view (get_or order place d).0 → ⊥)
    → IsFirstUnclean view (numbers order) (get_or order place d).0
first_unclean_there view order place d below before unclean =
    let within : place < length (numbers order) = omega (arith, below, length-map order (λ (key : CellKey). key.0)) in
    record {
      before = take place (numbers order);
      after = drop (place + 1) (numbers order);
      stands = sym (take-append-drop place (numbers order))
          ∙ ap (λ (rest : List ℕ). take place (numbers order) ++ rest) (drop_more (numbers order) place d.0 within)
          ∙ ap (λ (cell : ℕ). take place (numbers order) ++ cell ∷ drop (place + 1) (numbers order)) (number_at order place d d.0 below);
      clean = before;
      unclean = unclean;
    }
