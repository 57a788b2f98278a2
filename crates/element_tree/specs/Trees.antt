-- The elements of a tree of records, by numbers.
use Rattle.std.specs.Prelude.{◌≡◌, ◌⊎◌, ◌<◌, ◌+◌, ℕ, Option, Some, None, List, [], ◌∷◌, ◌++◌, length, slice_get, slice_index_or}
use Rattle.std.specs.Int.{w32}
use Rattle.std.specs.Int.RustNames.{FitsSigned}
use Rattle.std.specs.Ordering.{nat_cmp}
use Rattle.std.specs.Option.{option_or}
use Rattle.std.specs.Cmp.Lexicographic.{slice_cmp}
use Rattle.geo_core.specs.declared.squares.Square.{Square}
use Rattle.geo_core.specs.Images.{image}
use Rattle.geo_core.specs.Reach.{MovesInReach}
use Rattle.ext_model.specs.declared.records.UseRec.{UseRec}
use Rattle.ext_model.specs.declared.records.CellExt.{CellExt}
use Rattle.ext_model.specs.NameParts.{element_cmp, path_length}
use Rattle.circuit_model.specs.declared.faults.FlatFault.{FlatFault}
use Rattle.circuit_model.specs.declared.limits.CircuitLimit.TheVariants.{Depth, Elements}
use Rattle.circuit_model.specs.declared.limits.TheConstants.{LONGEST_CHAIN, MOST_FLAT_ELEMENTS}
use Rattle.circuit_model.specs.Elements.{Element, ids_of, elements_of, placed}
use Rattle.circuit_model.specs.Refusals.{past, depth_of}
use Rattle.element_tree.specs.declared.tree.Branch.{Branch}
use Rattle.element_tree.specs.declared.tree.TreeElement.{TreeElement}
use Rattle.element_tree.specs.declared.tree.ElementTree.{ElementTree}

-- the branches of a record
abbrev pub branches_of : List (List Branch) → ℕ → List Branch
branches_of branches cell = slice_index_or branches cell []

-- What the tree has of an element is true of it.
pub record StandsFor (exts : List CellExt) (element : Element) (flat : TreeElement) : Type 0 where
  pub record_ : slice_get exts flat.cell ≡ Some element.ext
  pub depth : flat.depth ≡ length element.uses
  pub bytes : flat.bytes ≡ path_length (ids_of element)
  pub moves : MovesInReach flat.to_root
  pub places : (square : Square) → FitsSigned w32 square.x → FitsSigned w32 square.y → image flat.to_root square ≡ placed element.uses square

-- The element stands in its parent, which has a lesser number, by the use that the tree has of it.
pub record StandsIn (elements : List Element) (number : ℕ) (element : Element) (flat : TreeElement) : Type 0 where
  pub parent : Element
  pub used : UseRec
  pub lesser : flat.parent < number
  pub found : slice_get elements flat.parent ≡ Some parent
  pub use_of : slice_get parent.ext.uses flat.at ≡ Some used
  pub uses : element.uses ≡ parent.uses ++ used ∷ []

-- The use leads from an element to the one whose number is as far above its own as the branch says.
pub record LeadsTo (exts : List CellExt) (elements : List Element) (branches : List Branch) (number : ℕ) (element : Element) (at : ℕ) (used : UseRec)
    : Type 0 where
  pub branch : Branch
  pub child : CellExt
  pub found : slice_get branches at ≡ Some branch
  pub record_ : slice_get exts branch.child ≡ Some child
  pub below : slice_get elements (number + branch.step) ≡ Some (record { uses = element.uses ++ used ∷ []; ext = child })

-- The element and what the tree has of it stand at the number.
pub record AreAt (elements : List Element) (flats : List TreeElement) (number : ℕ) (element : Element) (flat : TreeElement) : Type 0 where
  pub is : slice_get elements number ≡ Some element
  pub has : slice_get flats number ≡ Some flat

-- The tree is of these elements.
pub record IsTreeOfElements (exts : List CellExt) (elements : List Element) (tree : ElementTree) : Type 0 where
  pub long : length tree.elements ≡ length elements
  pub long_branches : length tree.branches ≡ length exts
  pub elements_are : (number : ℕ) (element : Element) (flat : TreeElement) → AreAt elements tree.elements number element flat
      → StandsFor exts element flat
  pub ranks_small : (number : ℕ) (element : Element) (flat : TreeElement) → AreAt elements tree.elements number element flat
      → flat.rank < length elements
  pub parents : (number : ℕ) (element : Element) (flat : TreeElement) → AreAt elements tree.elements number element flat
      → (element.uses ≡ []) ⊎ StandsIn elements number element flat
  pub steps : (number : ℕ) (element : Element) (flat : TreeElement) → AreAt elements tree.elements number element flat
      → (at : ℕ) (used : UseRec) → slice_get element.ext.uses at ≡ Some used
      → LeadsTo exts elements (branches_of tree.branches flat.cell) number element at used
  pub ranks : (a b : ℕ) (one other : Element) (flat next : TreeElement) → AreAt elements tree.elements a one flat
      → AreAt elements tree.elements b other next → flat.depth ≡ next.depth
      → nat_cmp flat.rank next.rank ≡ slice_cmp element_cmp (ids_of one) (ids_of other)
  pub apart : (a b : ℕ) (one other : Element) → slice_get elements a ≡ Some one → slice_get elements b ≡ Some other → ids_of one ≡ ids_of other
      → a ≡ b

-- The tree is that of the elements of the records below the root.
abbrev pub IsTreeOf : List CellExt → ℕ → ElementTree → Type 0
IsTreeOf exts root tree = (top : CellExt) → slice_get exts root ≡ Some top → IsTreeOfElements exts (elements_of exts top) tree

-- the chains of uses, and then the elements, are past their limit
abbrev pub tree_fault : List CellExt → CellExt → Option FlatFault
tree_fault exts top =
    option_or (past LONGEST_CHAIN Depth (depth_of exts top)) (past MOST_FLAT_ELEMENTS Elements (length (elements_of exts top)))

abbrev pub HasNoTreeFault : List CellExt → ℕ → Type 0
HasNoTreeFault exts root = (top : CellExt) → slice_get exts root ≡ Some top → tree_fault exts top ≡ None

abbrev pub IsTreeFaultOf : List CellExt → ℕ → FlatFault → Type 0
IsTreeFaultOf exts root fault = (top : CellExt) → slice_get exts root ≡ Some top → tree_fault exts top ≡ Some fault
