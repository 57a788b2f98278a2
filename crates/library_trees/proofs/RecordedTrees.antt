-- The records of the tree of a cell, from the records that are kept of cells.
use Rattle.library_trees.proofs.Common.{◌≡◌, ◌<◌, ◌≤◌, ℕ, zero, suc, List, [], ◌∷◌, length, map, inl, inr, refl, sym, ap, subst, ◌∙◌, arith, Option}
use Rattle.library_trees.proofs.Common.{Some, slice_get, cases_lt, stay, go, In, In-map_source, Transform, RawTech, CellExt, ext_of, UseBody}
use Rattle.library_trees.proofs.Common.{CellState, size_at, cell_at, HasChild, Size, child_is_lower, LibraryParts, IsLawfulLibrary, cells_seen, seen}
use Rattle.library_trees.proofs.Common.{uses_in, LibraryView, no_cell, view_at, children_are_cells, uses_seen, depth_is, state_is, length-cell_views}
use Rattle.library_trees.proofs.Common.{UseElement, use_elements, IsAtOrBelow, named_elements_at, named_elements_from}
use Rattle.std.proofs.Common.{get_or}
use Rattle.std.specs.Option.{option_map}
use Rattle.std.proofs.lemmas.Bool.{cases_eq}
use Rattle.std.proofs.lemmas.Option.{same_Some}
use Rattle.std.proofs.lemmas.List.{get_or-map, length-map}
use Rattle.finite_sets.proofs.Distincts.{Distinct-places}
use Rattle.finite_sets.proofs.Members.{In-map}
use Rattle.ext_model.specs.declared.arrays.ArrayExt.{ArrayExt}
use Rattle.ext_model.specs.Plain.{plain}
use Rattle.cell_library.specs.Contents.{Held}
use Rattle.cell_library.proofs.ViewLaws.{names_seen}
use Rattle.library_trees.specs.TreeRecords.NamedTrees.{NamedTree, NamedElements, named_elements_in, own_body}
use Rattle.library_trees.specs.TreeRecords.TreeRecords.{HasTreeRecord, HasTreeRecords, HaveTreeRecords, IsTreeRecord}
use Rattle.library_trees.specs.NamedCells.{named_tree_at}
use Rattle.library_trees.proofs.EditedTrees.{below_is_cell}
use Rattle.library_trees.proofs.WholeTrees.{UsesWithIds, named_tree_unfolds}
use Rattle.library_trees.specs.KeptRecords.{KeptRecords, HasKeptRecord}
use Rattle.library_trees.specs.RecordLaws.{KeptRecordsAreOfTheTree, ListedRecordsAreOfTheTree}
use Rattle.library_trees.proofs.NamedRecords.{IsKeptAt, PlainRecords, found_under, kept_there, listed_there, records_to}

-- The same of a record with each element and each merge by itself.
pub record HasPlainRecord (view : LibraryView) (kept : PlainRecords) (cell : ℕ) : Type 0 where
  pub ext : CellExt
  pub is_kept : kept cell ≡ Some ext
  pub is : IsTreeRecord view.tech (named_tree_at view cell) ext

-- the records that are kept, in their plain forms
abbrev plain_kept : KeptRecords → PlainRecords
plain_kept kept cell = option_map plain (kept cell)

-- the plain form of a kept record is the cell's
abbrev plain_record : (view : LibraryView) (kept : KeptRecords) (cell : ℕ) → HasKeptRecord view kept cell → HasPlainRecord view (plain_kept kept) cell
plain_record view kept cell has = record { ext = plain has.ext; is_kept = ap (option_map plain) has.is_kept; is = has.is }

-- elements of one child have records where the child and the others have
have_at : (raw : RawTech) (exts : List CellExt) (tree : NamedTree) (placed : Transform) (elements : List UseElement) (rest : NamedElements)
    → HasTreeRecords raw exts tree → HaveTreeRecords raw exts rest → HaveTreeRecords raw exts (named_elements_at tree placed elements rest)
have_at raw exts tree placed [] rest has have = have
have_at raw exts tree placed (element ∷ elements) rest has have = (has, have_at raw exts tree placed elements rest has have)

-- and the elements of uses where all children have
have_from : (raw : RawTech) (exts : List CellExt) (trees : ℕ → NamedTree) (uses : UsesWithIds)
    → ((k : ℕ) (entry : List ℕ × UseBody) → slice_get uses k ≡ Some entry → HasTreeRecords raw exts (trees entry.1.child.0))
    → HaveTreeRecords raw exts (named_elements_from trees uses)
have_from raw exts trees [] each = tt
have_from raw exts trees (entry ∷ rest) each =
    have_at raw exts (trees entry.1.child.0) entry.1.placed (use_elements entry.0 entry.1.grid) (named_elements_from trees rest)
    (each 0 entry refl) (have_from raw exts trees rest (λ k e is. each (suc k) e is))

module _ (library : LibraryParts) (lawful : IsLawfulLibrary library) where
  -- the name of the cell at a position
  abbrev pub name_at : ℕ → List ℕ
  name_at cell = (view_at (seen library) cell).name

  abbrev count : ℕ
  count = length library.contents

  -- it is the name in the list of names
  name_is : (cell : ℕ) → cell < count → get_or (map (λ (held : Held). held.name) library.contents) cell [] ≡ name_at cell
  name_is cell below =
      let views = cells_seen library.contents library.tree in
      ap (λ (names : List (List ℕ)). get_or names cell []) (sym (names_seen library.contents (uses_in library.tree.cells)))
      ∙ get_or-map (λ view. view.name) views cell no_cell [] (omega (arith, below, length-cell_views library.contents (uses_in library.tree.cells)))

  -- names tell positions
  names_tell : (a b : ℕ) → a < count → b < count → name_at a ≡ name_at b → a ≡ b
  names_tell a b a_below b_below same = elim (cases_eq a b) [
    | inl one ↦ one
    | inr apart ↦ elim (cases_lt a b) [
      | inl before ↦ absurd (differ a b before b_below (name_is a a_below ∙ same ∙ sym (name_is b b_below)))
      | inr behind ↦ absurd (differ b a (omega (arith, apart, behind)) a_below (name_is b b_below ∙ sym same ∙ sym (name_is a a_below)))
    ]
  ]
    where
      names : List (List ℕ)
      names = map (λ (held : Held). held.name) library.contents

      differ : (i j : ℕ) → i < j → j < count → get_or names i [] ≡ get_or names j [] → ⊥
      differ i j before within =
          Distinct-places names i j [] lawful.names_differ before (omega (arith, within, length-map library.contents (λ (held : Held). held.name)))

  -- what stands at the top of a cell's tree is the cell
  own_is : (cell : ℕ) → cell < count → (own_body (named_tree_at (seen library) cell)).name ≡ name_at cell
  own_is cell below = ap (λ (tree : NamedTree). (own_body tree).name) (named_tree_unfolds library lawful cell below)

  -- a child is less deep
  child_is_less_deep : (cell : ℕ) → cell < count → (k : ℕ) (entry : List ℕ × UseBody) → slice_get (view_at (seen library) cell).uses k ≡ Some entry
      → (size_at library.tree.sizes entry.1.child.0).depth < (size_at library.tree.sizes cell).depth
  child_is_less_deep cell below k entry is =
      let state : CellState = cell_at library.tree.cells cell in
      let there : slice_get state.uses k ≡ Some entry =
      sym (ap (λ (uses : UsesWithIds). slice_get uses k) (uses_seen library lawful cell below)) ∙ is in
      let size = ap (λ (s : Size). s.depth) (lawful.tree.sizes.right cell state (state_is library lawful cell below)) in
      omega (arith, size, child_is_lower (size_at library.tree.sizes) state k entry there)

  module _ (kept : PlainRecords) (exts : List CellExt) (of : (ext : CellExt) → In ext exts → IsKeptAt name_at kept count ext) where
    -- the kept record of a cell, which is among the records, is found under its name
    has_record : (cell : ℕ) → cell < count → (has : HasPlainRecord (seen library) kept cell) → In has.ext exts
        → HasTreeRecord library.tech exts (named_tree_at (seen library) cell)
    has_record cell below has listed = record {
      ext = has.ext;
      found = ap (λ (name : List ℕ). ext_of exts name) (own_is cell below)
          ∙ found_under exts (name_at cell) has.ext listed (has.is.cell ∙ own_is cell below) one;
      is = has.is;
    }
      where
        one : (other : CellExt) → In other exts → other.cell ≡ name_at cell → other ≡ has.ext
        one other among named =
            let at = of other among in
            let same : at.position ≡ cell = names_tell at.position cell at.below below (sym at.named ∙ named) in
            same_Some other has.ext (sym (ap kept (sym same) ∙ at.is) ∙ has.is_kept)

    -- The kept records of all cells at and below the cell are among the records.
    abbrev AreListedBelow : ℕ → Type 0
    AreListedBelow cell = (below : ℕ) → IsAtOrBelow (seen library) cell below → (has : HasPlainRecord (seen library) kept below) × In has.ext exts

    -- the records are those of the tree, where they are of all cells at and below the cell
    pub has_all : (depth cell : ℕ) → cell < count → (size_at library.tree.sizes cell).depth ≤ depth → AreListedBelow cell
        → HasTreeRecords library.tech exts (named_tree_at (seen library) cell)
    has_all zero cell below shallow listed = absurd (omega (arith, shallow, depth_is library lawful cell below))
    has_all (suc depth) cell below shallow listed =
        let unfolds = named_tree_unfolds library lawful cell below in
        let here = listed cell stay in
        let P : NamedTree → Type 0 = λ tree. HasTreeRecords library.tech exts tree in
        let Q : NamedTree → Type 0 = λ tree. HasTreeRecord library.tech exts tree in
        subst P (sym unfolds) (
          subst Q unfolds (has_record cell below here.0 here.1),
          have_from library.tech exts (named_tree_at (seen library)) (view_at (seen library) cell).uses (λ k entry is.
              let uses : HasChild (view_at (seen library) cell).uses entry.1.child.0 = record { k = k; entry = entry; stands = is; same = refl } in
              has_all depth entry.1.child.0 (children_are_cells library lawful cell below k entry is)
              (omega (arith, shallow, child_is_less_deep cell below k entry is))
              (λ lower chain. listed lower (go uses chain))),
        )

  -- ---- the laws

  -- of records that are kept
  pub kept_are : KeptRecordsAreOfTheTree library
  kept_are kept cell below have =
      let exts = records_to name_at (plain_kept kept) count in
      let view = seen library in
      let P : NamedTree → Type 0 = λ tree. HaveTreeRecords library.tech exts (named_elements_in tree) in (
        exts,
        subst P (sym (named_tree_unfolds library lawful cell below))
            (have_from library.tech exts (named_tree_at view) (view_at view cell).uses (λ k entry is.
            let child = entry.1.child.0 in
            let child_below = children_are_cells library lawful cell below k entry is in
            has_all (plain_kept kept) exts (kept_there name_at (plain_kept kept) count) (size_at library.tree.sizes child).depth child child_below (omega arith)
            (λ lower chain. listed child child_below (record { k = k; entry = entry; stands = is; same = refl }) lower chain))),
      )
    where
      listed : (child : ℕ) → child < count → HasChild (view_at (seen library) cell).uses child → (lower : ℕ) → IsAtOrBelow (seen library) child lower
          → (has : HasPlainRecord (seen library) (plain_kept kept) lower) × In has.ext (records_to name_at (plain_kept kept) count)
      listed child child_below uses lower chain =
          let has = plain_record (seen library) kept lower (have lower (record { child = child; uses = uses; at_or_below = chain })) in
          let within = below_is_cell library lawful child lower child_below chain in (
            has,
            listed_there name_at (plain_kept kept) count has.ext
                (record { position = lower; below = within; is = has.is_kept; named = has.is.cell ∙ own_is lower within }),
          )

  -- and of lists of them
  pub listed_are : ListedRecordsAreOfTheTree library
  listed_are kept cell exts below listed of =
      has_all (plain_kept kept) (map plain exts) at (size_at library.tree.sizes cell).depth cell below (omega arith) (λ lower chain.
      let has = listed lower chain in
      (plain_record (seen library) kept lower has.0, In-map plain has.0.ext exts has.1))
    where
      at : (ext : CellExt) → In ext (map plain exts) → IsKeptAt name_at (plain_kept kept) count ext
      at ext among =
          let made = In-map_source plain ext exts among in
          let found = of made.0 made.1.0 in
          let has = plain_record (seen library) kept found.0 found.2 in
          let same : has.ext ≡ ext = ap plain found.3 ∙ made.1.1 in
          record {
            position = found.0;
            below = found.1;
            is = has.is_kept ∙ ap (λ (e : CellExt). Some e) same;
            named = ap (λ (e : CellExt). e.cell) (sym same) ∙ has.is.cell ∙ own_is found.0 found.1;
          }
