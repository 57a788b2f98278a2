-- The names of the elements of the cells of a library: they have no slash, and differ.
use Rattle.library_trees.proofs.Common.{◌≡◌, ℕ, zero, suc, true, List, [], ◌∷◌, ◌++◌, length, map, inl, inr, refl, sym, ap, subst, arith}
use Rattle.library_trees.proofs.Common.{AllByRecursion, cases_lt, Distinct, In, In-append_cases, Transform, UseBody, cell_at, LibraryParts}
use Rattle.library_trees.proofs.Common.{IsLawfulLibrary, seen, CellView, LibraryView, view_at, uses_seen, state_is, NamedTree, NamedElements}
use Rattle.library_trees.proofs.Common.{UseElement, use_elements, named_elements_at, named_elements_from, named_tree_to, MOST_DEPTH}
use Rattle.std.specs.Prelude.{All, IsTrue}
use Rattle.std.proofs.lemmas.List.Elements.{All-tail}
use Rattle.finite_sets.proofs.Distincts.{Distinct-append}
use Rattle.cell_library.specs.CellBodies.Words.{is_use_id}
use Rattle.cell_library.specs.CellTree.Trees.{empty_cell}
use Rattle.ext_model.specs.NodeNames.{slashes_in}
use Rattle.tree_names.specs.CleanTrees.{HasElementNames, HaveElementNames, ids_in}
use Rattle.library_trees.specs.Laws.{ElementNamesTellElements}
use Rattle.library_trees.specs.NamedCells.{named_tree_at}
use Rattle.library_trees.proofs.ElementNameLaws.{names_differ, names_in, names_tell_id, names_whole}
use Rattle.ext_model.proofs.TextCuts.{front_of}
use Rattle.library_trees.proofs.WholeTrees.{UsesWithIds, no_cell_seen}

-- the ids of uses
abbrev use_ids : UsesWithIds → List (List ℕ)
use_ids uses = map (λ (entry : List ℕ × UseBody). entry.0) uses

-- The ids of the uses are of their form.
abbrev AreUseIds : UsesWithIds → Type 0
AreUseIds uses = All (λ (entry : List ℕ × UseBody). IsTrue (is_use_id entry.0)) uses

-- The ids of the uses differ, and are of their form.
record HasLawfulIds (uses : UsesWithIds) : Type 0 where
  differ : Distinct (use_ids uses)
  formed : AreUseIds uses

first_id : (entry : List ℕ × UseBody) (rest : UsesWithIds) → AreUseIds (entry ∷ rest) → is_use_id entry.0 ≡ true
first_id entry rest formed = formed 0 entry (omega arith)

later_ids : (entry : List ℕ × UseBody) (rest : UsesWithIds) → AreUseIds (entry ∷ rest) → AreUseIds rest
later_ids entry rest formed = All-tail (λ (e : List ℕ × UseBody). IsTrue (is_use_id e.0)) entry rest formed

-- ---- the names of the elements of uses

-- the names of elements of one child, and of those behind them
ids_at : (tree : NamedTree) (placed : Transform) (elements : List UseElement) (rest : NamedElements)
    → names_in elements ++ ids_in rest ≡ ids_in (named_elements_at tree placed elements rest)
ids_at tree placed [] rest = refl
ids_at tree placed (element ∷ elements) rest = ap (λ (names : List (List ℕ)). element.name ∷ names) (ids_at tree placed elements rest)

-- an element's name tells the id of one of the uses
name_tells_use : (s : ℕ → NamedTree) (uses : UsesWithIds) → AreUseIds uses → (name : List ℕ) → In name (ids_in (named_elements_from s uses))
    → In (front_of 91 name) (use_ids uses)
name_tells_use s [] formed name none = absurd none
name_tells_use s (entry ∷ rest) formed name listed =
    let behind : NamedElements = named_elements_from s rest in
    let elements : List UseElement = use_elements entry.0 entry.1.grid in
    let there : In name (names_in elements ++ ids_in behind) =
    subst (λ (names : List (List ℕ)). In name names) (sym (ids_at (s entry.1.child.0) entry.1.placed elements behind)) listed in
    elim (In-append_cases name (names_in elements) (ids_in behind) there) [
      | inl here ↦ inl (sym (names_tell_id entry.0 entry.1.grid (first_id entry rest formed) name here))
      | inr later ↦ inr (name_tells_use s rest (later_ids entry rest formed) name later)
    ]

-- the names of the elements of uses differ
names_of_uses_differ : (s : ℕ → NamedTree) (uses : UsesWithIds) → Distinct (use_ids uses) → AreUseIds uses
    → Distinct (ids_in (named_elements_from s uses))
names_of_uses_differ s [] differ formed = tt
names_of_uses_differ s (entry ∷ rest) differ formed =
    let behind : NamedElements = named_elements_from s rest in
    let elements : List UseElement = use_elements entry.0 entry.1.grid in
    let is = first_id entry rest formed in
    subst Distinct (ids_at (s entry.1.child.0) entry.1.placed elements behind)
    (Distinct-append (names_in elements) (ids_in behind) (names_differ entry.0 entry.1.grid is)
    (names_of_uses_differ s rest differ.1 (later_ids entry rest formed))
    (λ name here later. differ.0 (subst (λ (id : List ℕ). In id (use_ids rest)) (names_tell_id entry.0 entry.1.grid is name here)
    (name_tells_use s rest (later_ids entry rest formed) name later))))

-- names in order, of elements of one child and of those behind them
names_at : (tree : NamedTree) (placed : Transform) (elements : List UseElement) (rest : NamedElements)
    → AllByRecursion (λ (element : UseElement). slashes_in element.name ≡ 0) elements → HasElementNames tree → HaveElementNames rest
    → HaveElementNames (named_elements_at tree placed elements rest)
names_at tree placed [] rest whole below later = later
names_at tree placed (element ∷ elements) rest whole below later = (whole.0, below, names_at tree placed elements rest whole.1 below later)

-- names in order, of the elements of uses
names_from : (s : ℕ → NamedTree) → ((cell : ℕ) → HasElementNames (s cell)) → (uses : UsesWithIds) → AreUseIds uses
    → HaveElementNames (named_elements_from s uses)
names_from s below [] formed = tt
names_from s below (entry ∷ rest) formed =
    names_at (s entry.1.child.0) entry.1.placed (use_elements entry.0 entry.1.grid) (named_elements_from s rest)
    (names_whole entry.0 entry.1.grid (first_id entry rest formed)) (below entry.1.child.0)
    (names_from s below rest (later_ids entry rest formed))

-- ---- the names of the elements of cells

names_to : (view : LibraryView) → ((cell : ℕ) → HasLawfulIds (view_at view cell).uses) → (depth cell : ℕ)
    → HasElementNames (named_tree_to view depth cell)
names_to view lawful zero cell = (tt, tt)
names_to view lawful (suc depth) cell =
    let ids = lawful cell in (
      names_of_uses_differ (named_tree_to view depth) (view_at view cell).uses ids.differ ids.formed,
      names_from (named_tree_to view depth) (names_to view lawful depth) (view_at view cell).uses ids.formed,
    )

no_ids : HasLawfulIds []
no_ids = record { differ = tt; formed = λ k d inside. absurd (omega arith) }

-- the ids of the uses of each cell of a lawful library
lawful_ids : (library : LibraryParts) → IsLawfulLibrary library → (cell : ℕ) → HasLawfulIds (view_at (seen library) cell).uses
lawful_ids library lawful cell =
    elim (cases_lt cell (length library.contents)) [
      | inl below ↦
          let ids : HasLawfulIds (cell_at library.tree.cells cell).uses = record {
            differ = (lawful.tree.each cell (cell_at library.tree.cells cell) (state_is library lawful cell below)).ids;
            formed = lawful.ids cell empty_cell (omega (arith, lawful.so_many, below));
          } in
          subst HasLawfulIds (sym (uses_seen library lawful cell below)) ids
      | inr past ↦ subst (λ (c : CellView). HasLawfulIds c.uses) (sym (no_cell_seen library cell past)) no_ids
    ]

-- the names of the elements of each cell at and below a cell of a lawful library
pub element_names : (library : LibraryParts) → IsLawfulLibrary library → ElementNamesTellElements library
unfolding named_tree_at
element_names library lawful cell = names_to (seen library) (lawful_ids library lawful) MOST_DEPTH cell
