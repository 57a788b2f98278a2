-- The cells of the elements of a cell of a library.
use Rattle.tile_members.proofs.Common.{◌≡◌, ◌⊎◌, ◌<◌, ℕ, zero, suc, List, [], ◌∷◌, length, inl, inr, refl, sym, ap, subst, ◌∙◌, Transform, RawTech}
use Rattle.tile_members.proofs.Common.{Place, place_back, path_text, MOST_DEPTH, LibraryParts, IsLawfulLibrary, seen, LibraryView, view_at}
use Rattle.tile_members.proofs.Common.{IsGroupName, IsMemberOfPart, UsesWithIds, named_tree_unfolds}
use Rattle.std.specs.Prelude.{Some}
use Rattle.element_paths.specs.CellTree.Uses.{HasChild}
use Rattle.element_paths.proofs.CellLibrary.LayoutTreeLaws.{children_are_cells}
use Rattle.element_paths.specs.LibraryTrees.TreeRecords.NamedTrees.{NamedTree, NamedElements, named_elements_in, own_body}
use Rattle.element_paths.specs.LibraryTrees.TreeRecords.NamedTrees.NamedTree.{named_tree}
use Rattle.element_paths.specs.LibraryTrees.TreeRecords.NamedTrees.NamedElements.{no_more, element_then}
use Rattle.tile_members.specs.GroupMeetings.Members.{IsMemberOfElement}
use Rattle.element_paths.specs.LibraryTrees.TreeNames.CleanTrees.{IsCleanTree}
use Rattle.element_paths.proofs.LibraryTrees.TreeNames.CleanTrees.{AreCleanTrees, clean_below, clean_first, clean_rest}
use Rattle.element_paths.specs.LibraryTrees.ElementNames.{UseElement, use_elements}
use Rattle.element_paths.specs.LibraryTrees.NamedCells.{named_elements_at, named_elements_from, named_tree_at, named_tree_to}
use Rattle.element_paths.specs.ElementPaths.{NamedElement, element_at}

-- ---- elements of trees

-- the tree of an element of a clean tree is clean
clean_among : (raw : RawTech) (elements : NamedElements) (position : ℕ) (below : NamedElement) → AreCleanTrees raw elements
    → element_at elements position ≡ Some below → IsCleanTree raw below.tree
clean_among raw no_more position below are is = absurd (cc)
clean_among raw (element_then id placed tree rest) zero below are is =
    let first : NamedElement = record { id = id; placed = placed; tree = tree } in
    let same : first ≡ below = cc in
    subst (λ (e : NamedElement). IsCleanTree raw e.tree) same (clean_first raw id placed tree rest are)
clean_among raw (element_then id placed tree rest) (suc position) below are is =
    clean_among raw rest position below (clean_rest raw id placed tree rest are) is

pub clean_element : (raw : RawTech) (tree : NamedTree) (position : ℕ) (below : NamedElement) → IsCleanTree raw tree
    → element_at (named_elements_in tree) position ≡ Some below → IsCleanTree raw below.tree
clean_element raw (named_tree own elements) position below is there = clean_among raw elements position below (clean_below raw own elements is) there

-- a group of an element's cell is a member of the element
member_among : (raw : RawTech) (elements : NamedElements) (position : ℕ) (below : NamedElement) (place : Place) (group : List ℕ)
    → element_at elements position ≡ Some below → IsGroupName raw below.tree (place_back below.placed place) group
    → IsMemberOfElement raw elements position place (path_text (below.id ∷ []) group)
member_among raw no_more position below place group is named = absurd (cc)
member_among raw (element_then id placed tree rest) zero below place group is named =
    let first : NamedElement = record { id = id; placed = placed; tree = tree } in
    let same : below ≡ first = cc in (
      group,
      subst (λ (e : NamedElement). IsGroupName raw e.tree (place_back e.placed place) group) same named,
      ap (λ (e : NamedElement). path_text (e.id ∷ []) group) same,
    )
member_among raw (element_then id placed tree rest) (suc position) below place group is named =
    member_among raw rest position below place group is named

pub element_member : (raw : RawTech) (tree : NamedTree) (position : ℕ) (below : NamedElement) (place : Place) (group : List ℕ)
    → element_at (named_elements_in tree) position ≡ Some below → IsGroupName raw below.tree (place_back below.placed place) group
    → IsMemberOfPart raw tree (suc position) place (path_text (below.id ∷ []) group)
element_member raw (named_tree own elements) position below place group there named = member_among raw elements position below place group there named

-- ---- elements of uses

-- an element of a use, or of those behind it
at_or_behind : (tree : NamedTree) (placed : Transform) (elements : List UseElement) (rest : NamedElements) (position : ℕ) (below : NamedElement)
    → element_at (named_elements_at tree placed elements rest) position ≡ Some below
    → (tree ≡ below.tree) ⊎ ((later : ℕ) × (element_at rest later ≡ Some below))
at_or_behind tree placed [] rest position below is = inr (position, is)
at_or_behind tree placed (element ∷ elements) rest zero below is =
    inl (ap (λ (e : NamedElement). e.tree) (let same = some_of is in same))
  where
    some_of : {X : Type 0} {x y : X} → Some x ≡ Some y → x ≡ y
    some_of is = cc
at_or_behind tree placed (element ∷ elements) rest (suc position) below is = at_or_behind tree placed elements rest position below is

-- The tree is that of the child of one of the uses.
record IsOfUse (trees : ℕ → NamedTree) (uses : UsesWithIds) (tree : NamedTree) : Type 0 where
  child : ℕ
  uses_it : HasChild uses child
  is : trees child ≡ tree

of_later : (trees : ℕ → NamedTree) (entry : _) (uses : UsesWithIds) (tree : NamedTree) → IsOfUse trees uses tree → IsOfUse trees (entry ∷ uses) tree
of_later trees entry uses tree of = record {
  child = of.child;
  uses_it = record { k = suc of.uses_it.k; entry = of.uses_it.entry; stands = of.uses_it.stands; same = of.uses_it.same };
  is = of.is;
}

-- the tree of an element of uses is that of a child
of_use : (trees : ℕ → NamedTree) (uses : UsesWithIds) (position : ℕ) (below : NamedElement)
    → element_at (named_elements_from trees uses) position ≡ Some below → IsOfUse trees uses below.tree
of_use trees [] position below is = absurd (cc)
of_use trees (entry ∷ rest) position below is =
    elim (at_or_behind (trees entry.1.child.0) entry.1.placed (use_elements entry.0 entry.1.grid) (named_elements_from trees rest) position below is) [
      | inl here ↦
          record { child = entry.1.child.0; uses_it = record { k = 0; entry = entry; stands = refl; same = refl }; is = here }
      | inr later ↦ of_later trees entry rest below.tree (of_use trees rest later.0 below later.1)
    ]

-- ---- cells

-- a tree tells its cell
cell_told-to : (view : LibraryView) (depth cell : ℕ) → (own_body (named_tree_to view depth cell)).cell ≡ cell
cell_told-to view zero cell = refl
cell_told-to view (suc depth) cell = refl

cell_told : (view : LibraryView) (cell : ℕ) → (own_body (named_tree_at view cell)).cell ≡ cell
unfolding named_tree_at
cell_told view cell = cell_told-to view MOST_DEPTH cell

-- The cell is a child of the other, and one of the library.
pub record IsChildOf (library : LibraryParts) (cell child : ℕ) : Type 0 where
  pub uses_it : HasChild (view_at (seen library) cell).uses child
  pub there : child < length library.contents

-- where an element of a cell of a lawful library has the tree of a cell, this is a child of the cell
pub element_child : (library : LibraryParts) → IsLawfulLibrary library → (cell position child : ℕ) (id : List ℕ) (placed : Transform)
    → cell < length library.contents
    → element_at (named_elements_in (named_tree_at (seen library) cell)) position
    ≡ Some (record { id = id; placed = placed; tree = named_tree_at (seen library) child })
    → IsChildOf library cell child
element_child library lawful cell position child id placed below is =
    let view = seen library in
    let element : NamedElement = record { id = id; placed = placed; tree = named_tree_at view child } in
    let uses = (view_at view cell).uses in
    let unfolded : element_at (named_elements_from (named_tree_at view) uses) position ≡ Some element =
    subst (λ (tree : NamedTree). element_at (named_elements_in tree) position ≡ Some element) (named_tree_unfolds library lawful cell below) is in
    let of = of_use (named_tree_at view) uses position element unfolded in
    let same : of.child ≡ child =
    sym (cell_told view of.child) ∙ ap (λ (tree : NamedTree). (own_body tree).cell) of.is ∙ cell_told view child in
    let has : HasChild uses child = subst (HasChild uses) same of.uses_it in
    record {
      uses_it = has;
      there = subst (λ (n : ℕ). n < length library.contents) has.same (children_are_cells library lawful cell below has.k has.entry has.stands);
    }
