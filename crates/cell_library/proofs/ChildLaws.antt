-- The children of a cell: those of its uses, which are cells of the library.
use Rattle.cell_library.proofs.Common.{◌≡◌, ◌<◌, ℕ, zero, suc, List, [], ◌∷◌, length, map, refl, sym, subst, Some, slice_get, slice_index_or, In}
use Rattle.cell_library.proofs.Common.{In-map, In-map_source, In-slice_get, UseBody, IsLawfulLibrary, LibraryParts, seen, CellView, LibraryView}
use Rattle.cell_library.proofs.Common.{no_cell, view_at}
use Rattle.geo_core.specs.FiniteSets.Chain.{Chain}
use Rattle.geo_core.proofs.FiniteSets.Chains.{Chain-carries}
use Rattle.geo_core.proofs.FiniteSets.Places.{slice_get-In}
use Rattle.cell_tree.specs.UseOrders.Uses.{UsesCell}
use Rattle.cell_library.specs.Additions.{children_in}
use Rattle.cell_library.proofs.ElementCounts.{use_is_lawful}

-- the child of a use
abbrev pub child_of : List ℕ × UseBody → ℕ
child_of entry = entry.1.child.0

-- the children of the cell at a position
pub children_at : (cells : List CellView) (cell : ℕ)
    → slice_index_or (map (λ (body : CellView). map child_of body.uses) cells) cell [] ≡ map child_of (slice_index_or cells cell no_cell).uses
children_at [] cell = refl
children_at (body ∷ cells) zero = refl
children_at (body ∷ cells) (suc cell) = children_at cells cell

-- a cell uses the child of each of its uses
pub child_used : (view : LibraryView) (cell k : ℕ) (entry : List ℕ × UseBody) → slice_get (view_at view cell).uses k ≡ Some entry
    → UsesCell (children_in view) cell (child_of entry)
child_used view cell k entry at =
    subst (In (child_of entry)) (sym (children_at view.cells cell))
    (In-map child_of entry (view_at view cell).uses (In-slice_get (view_at view cell).uses k entry at))

module _ (library : LibraryParts) (lawful : IsLawfulLibrary library) where
  -- what a cell uses is a cell of the library
  pub child_there : (cell child : ℕ) → UsesCell (children_in (seen library)) cell child → cell < length library.contents
      → child < length library.contents
  child_there cell child uses below =
      let own = (view_at (seen library) cell).uses in
      let from = In-map_source child_of child own (subst (In child) (children_at (seen library).cells cell) uses) in
      let at = slice_get-In from.0 own from.1.0 in
      subst (λ (c : ℕ). c < length library.contents) from.1.1 (use_is_lawful library lawful cell below at.0 from.0.0 from.0.1 at.1).1

  -- and so is what stands at or below one
  pub below_there : (root cell : ℕ) → root < length library.contents → Chain (UsesCell (children_in (seen library))) root cell
      → cell < length library.contents
  below_there root cell there way =
      Chain-carries (λ (c : ℕ). c < length library.contents) (λ a b uses below. child_there a b uses below) way there
