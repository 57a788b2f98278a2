-- The elements of a library's cells, as records have them: their names, their cells' names and their transforms.
use Rattle.lawful_trees.proofs.Common.{◌≡◌, ◌<◌, ℕ, List, [], ◌∷◌, length, inl, inr, refl, sym, ap, subst, arith, All, In, All-from_In, All-In}
use Rattle.lawful_trees.proofs.Common.{slice_get-In, Transform, six_of, MOST_DEPTH, UseBody, LibraryParts, IsLawfulLibrary, seen, use_is_lawful}
use Rattle.lawful_trees.proofs.Common.{UseRec, IsLawfulUse, is_node_name, NamedTree, NamedElements, named_elements_in, own_body, named_tree, no_more}
use Rattle.lawful_trees.proofs.Common.{element_then, UseElement, use_elements}
use Rattle.std.proofs.Common.{zero, suc}
use Rattle.std.specs.Prelude.{IsTrue}
use Rattle.std.proofs.lemmas.Bool.{cases_lt}
use Rattle.text_scan.specs.PlainNames.{is_plain_name}
use Rattle.library_trees.specs.CellLibrary.CellBodies.Words.{is_use_id}
use Rattle.library_trees.specs.CellTree.Trees.{cell_at, empty_cell}
use Rattle.library_trees.specs.CellLibrary.Contents.{no_held}
use Rattle.library_trees.specs.CellLibrary.LayoutTrees.{element_transform}
use Rattle.library_trees.specs.CellLibrary.Libraries.{uses_in}
use Rattle.library_trees.specs.CellLibrary.Views.{CellView, LibraryView, view_at}
use Rattle.library_trees.proofs.CellLibrary.LayoutTreeLaws.{uses_seen}
use Rattle.library_trees.proofs.CellLibrary.ViewLaws.{cell_viewed}
use Rattle.library_trees.specs.TreeRecords.TreeRecords.{use_records}
use Rattle.library_trees.specs.NamedCells.{named_elements_at, named_elements_from, named_tree_at, named_tree_to}
use Rattle.library_trees.proofs.WholeTrees.{UsesWithIds, named_tree_unfolds, no_cell_seen}
use Rattle.lawful_trees.proofs.ElementForms.{element_form}
use Rattle.lawful_trees.proofs.ElementPlaces.{element_placement}

-- ---- what holds of each element

-- a fact of an element: its name, its transform and its cell
abbrev pub ElementFact : Type 1
ElementFact = List ℕ → Transform → NamedTree → Type 0

-- It holds of each of the elements.
abbrev pub HoldsOfElements : ElementFact → NamedElements → Type 0
HoldsOfElements P no_more = Unit {0}
HoldsOfElements P (element_then id placed tree rest) = P id placed tree × HoldsOfElements P rest

-- elements of one child, and those behind them
holds_at : (P : ElementFact) (tree : NamedTree) (placed : Transform) (elements : List UseElement) (rest : NamedElements)
    → ((element : UseElement) → In element elements → P element.name (element_transform placed element.step) tree) → HoldsOfElements P rest
    → HoldsOfElements P (named_elements_at tree placed elements rest)
holds_at P tree placed [] rest each later = later
holds_at P tree placed (element ∷ elements) rest each later =
    (each element (inl refl), holds_at P tree placed elements rest (λ other here. each other (inr here)) later)

-- what holds of the elements of each use holds of all
pub holds_from : (P : ElementFact) (trees : ℕ → NamedTree) (uses : UsesWithIds)
    → ((entry : List ℕ × UseBody) → In entry uses → (element : UseElement) → In element (use_elements entry.0 entry.1.grid)
    → P element.name (element_transform entry.1.placed element.step) (trees entry.1.child.0))
    → HoldsOfElements P (named_elements_from trees uses)
holds_from P trees [] each = tt
holds_from P trees (entry ∷ rest) each =
    holds_at P (trees entry.1.child.0) entry.1.placed (use_elements entry.0 entry.1.grid) (named_elements_from trees rest)
    (λ element here. each entry (inl refl) element here) (holds_from P trees rest (λ other later. each other (inr later)))

-- ---- forms of names

-- The names of the elements of each cell at and below the cell have the form of names of nodes.
abbrev mutual
  pub HasForms : NamedTree → Type 0
  HasForms (named_tree own elements) = HaveForms elements

  pub HaveForms : NamedElements → Type 0
  HaveForms no_more = Unit {0}
  HaveForms (element_then id placed tree rest) = IsTrue (is_node_name id) × HasForms tree × HaveForms rest

-- The element's name and all below it have it.
abbrev ElementHasForms : ElementFact
ElementHasForms id placed tree = IsTrue (is_node_name id) × HasForms tree

-- where each element has such names, all have
forms_of_each : (elements : NamedElements) → HoldsOfElements ElementHasForms elements → HaveForms elements
forms_of_each no_more each = tt
forms_of_each (element_then id placed tree rest) each = (each.0.0, each.0.1, forms_of_each rest each.1)

-- The ids of these uses are of their form.
abbrev pub AreUseIds : UsesWithIds → Type 0
AreUseIds uses = (entry : List ℕ × UseBody) → In entry uses → IsTrue (is_use_id entry.0)

-- the names of the elements of trees have it where ids are of their form
forms_to : (view : LibraryView) → ((cell : ℕ) → AreUseIds (view_at view cell).uses) → (depth cell : ℕ) → HasForms (named_tree_to view depth cell)
forms_to view formed zero cell = tt
forms_to view formed (suc depth) cell =
    forms_of_each (named_elements_from (named_tree_to view depth) (view_at view cell).uses)
    (holds_from ElementHasForms (named_tree_to view depth) (view_at view cell).uses
    (λ entry listed element here.
    (element_form entry.0 entry.1.grid (formed cell entry listed) element here, forms_to view formed depth entry.1.child.0)))

module _ (library : LibraryParts) (lawful : IsLawfulLibrary library) where
  -- the ids of the uses of each cell
  pub use_ids : (cell : ℕ) → AreUseIds (view_at (seen library) cell).uses
  use_ids cell entry listed =
      elim (cases_lt cell (length library.contents)) [
        | inl below ↦
            let ids = lawful.ids cell empty_cell (omega (arith, lawful.so_many, below)) in
            All-In (λ (e : List ℕ × UseBody). IsTrue (is_use_id e.0)) (cell_at library.tree.cells cell).uses entry ids
            (subst (λ (uses : UsesWithIds). In entry uses) (uses_seen library lawful cell below) listed)
        | inr past ↦ absurd (subst (λ (c : CellView). In entry c.uses) (no_cell_seen library cell past) listed)
      ]

  -- the names of all elements at and below a cell
  pub forms_below : (cell : ℕ) → HasForms (named_tree_at (seen library) cell)
  unfolding named_tree_at
  forms_below cell = forms_to (seen library) use_ids MOST_DEPTH cell

  -- ---- uses

  -- a cell's name is plain
  plain_cell : (cell : ℕ) → cell < length library.contents → IsTrue (is_plain_name (own_body (named_tree_at (seen library) cell)).name)
  unfolding named_tree_at
  plain_cell cell below =
      subst (λ (c : CellView). IsTrue (is_plain_name c.name)) (sym (cell_viewed library.contents (uses_in library.tree.cells) cell below))
      (lawful.each cell no_held below).name

  -- each element makes a lawful use of a record
  abbrev IsLawfulElement : ElementFact
  IsLawfulElement id placed tree = IsLawfulUse (record { cell = (own_body tree).name; id = id; six = six_of placed })

  -- the elements of the uses of a cell do
  lawful_element : (cell : ℕ) → cell < length library.contents → (entry : List ℕ × UseBody) → In entry (view_at (seen library) cell).uses
      → (element : UseElement) → In element (use_elements entry.0 entry.1.grid)
      → IsLawfulElement element.name (element_transform entry.1.placed element.step) (named_tree_at (seen library) entry.1.child.0)
  lawful_element cell below entry listed element here =
      let at = slice_get-In entry (view_at (seen library) cell).uses listed in
      let used = use_is_lawful library lawful cell below at.0 entry.0 entry.1 at.1 in
      record {
        cell = plain_cell entry.1.child.0 used.1;
        id = element_form entry.0 entry.1.grid (use_ids cell entry listed) element here;
        six = element_placement entry.0 entry.1 used.0 element here;
      }

  -- the elements of a cell are those of its uses
  elements_are : (cell : ℕ) → cell < length library.contents
      → named_elements_in (named_tree_at (seen library) cell)
      ≡ named_elements_from (named_tree_at (seen library)) (view_at (seen library) cell).uses
  elements_are cell below = ap named_elements_in (named_tree_unfolds library lawful cell below)

  -- so the uses that elements make are lawful
  uses_lawful : (elements : NamedElements) → HoldsOfElements IsLawfulElement elements → (used : UseRec) → In used (use_records elements)
      → IsLawfulUse used
  uses_lawful no_more each used none = absurd none
  uses_lawful (element_then id placed tree rest) each used (inl same) = subst IsLawfulUse same each.0
  uses_lawful (element_then id placed tree rest) each used (inr later) = uses_lawful rest each.1 used later

  -- the uses of the record of a cell are lawful
  pub lawful_uses : (cell : ℕ) → cell < length library.contents
      → All IsLawfulUse (use_records (named_elements_in (named_tree_at (seen library) cell)))
  lawful_uses cell below =
      let uses = (view_at (seen library) cell).uses in
      let trees = named_tree_at (seen library) in
      let each = holds_from IsLawfulElement trees uses (lawful_element cell below) in
      All-from_In IsLawfulUse (use_records (named_elements_in (named_tree_at (seen library) cell)))
      (uses_lawful (named_elements_in (named_tree_at (seen library) cell))
      (subst (HoldsOfElements IsLawfulElement) (sym (elements_are cell below)) each))
