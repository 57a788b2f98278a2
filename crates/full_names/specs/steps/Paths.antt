-- The paths of elements, written out.
use Rattle.std.specs.Prelude.{◌≡◌, ◌<◌, ℕ, Some, List, [], ◌∷◌, ◌++◌, slice_get}
use Rattle.ext_model.specs.declared.names.TheConstants.{SLASH}
use Rattle.ext_model.specs.declared.records.CellExt.{CellExt}
use Rattle.circuit_model.specs.Elements.{Element, ids_of}
use Rattle.element_tree.specs.declared.tree.ElementTree.{ElementTree}
use Rattle.element_tree.specs.Trees.{IsTreeOfElements}

-- the names of elements in a path, each with the slash behind it
abbrev pub path_front : List (List ℕ) → List ℕ
path_front [] = []
path_front (id ∷ ids) = id ++ SLASH ∷ path_front ids

-- The tree is that of some elements.
pub record IsTree (exts : List CellExt) (tree : ElementTree) : Type 0 where
  pub elements : List Element
  pub is : IsTreeOfElements exts elements tree

-- the fact holds of the element with this number
abbrev pub HoldsOfElement : List CellExt → ElementTree → ℕ → (List Element → Element → Type 0) → Type 0
HoldsOfElement exts tree number P =
    (elements : List Element) → IsTreeOfElements exts elements tree → (element : Element) → slice_get elements number ≡ Some element → P elements element

-- no element leads to the one with this number
abbrev pub IsAtRoot : List CellExt → ElementTree → ℕ → Type 0
IsAtRoot exts tree number = HoldsOfElement exts tree number (λ elements element. ids_of element ≡ [])

-- What leads to the element is what leads to the one that it stands in, and its name there.
pub record HasParent (elements : List Element) (parent : ℕ) (id : List ℕ) (element : Element) : Type 0 where
  pub above : Element
  pub stands : slice_get elements parent ≡ Some above
  pub ids : ids_of element ≡ ids_of above ++ id ∷ []

-- The element with this number stands in the one that has the lesser number, by this name.
pub record LeadsFrom (exts : List CellExt) (tree : ElementTree) (parent : ℕ) (id : List ℕ) (number : ℕ) : Type 0 where
  pub lesser : parent < number
  pub leads : HoldsOfElement exts tree number (λ elements element. HasParent elements parent id element)

-- the new text is the old one and the names that lead to the element with this number, with a slash behind each
abbrev pub EndsInPath : List CellExt → ElementTree → ℕ → List ℕ → List ℕ → Type 0
EndsInPath exts tree number old new = HoldsOfElement exts tree number (λ elements element. new ≡ old ++ path_front (ids_of element))
