-- The records that are kept of a cell and of all below it, where none of these is dirty.
use Rattle.workspace.proofs.Common.{◌≡◌, ◌<◌, ◌∙◌, ℕ, List, [], ◌∷◌, length, map, Option, Some, refl, sym, ap, subst, inl, inr, All, IsSome}
use Rattle.workspace.proofs.Common.{Distinct, In, IsAtOrBelow, ArrayExt, CellKey, AreArrayRecords, plains, IsCleanCell, children_in, IsLawfulLibrary}
use Rattle.workspace.proofs.Common.{LibraryParts, seen, LibraryView, view_at, below_there, HasTreeRecords, named_tree_at, Agrees, IsRecordNow}
use Rattle.workspace.proofs.Common.{Records, record_in, numbers, kept_clean, IsFreshBelow}
use Rattle.std.proofs.lemmas.Option.{same_Some}
use Rattle.finite_sets.specs.Chain.Chain.{stay, go}
use Rattle.finite_sets.proofs.Distincts.{Distinct-map}
use Rattle.finite_sets.proofs.Members.{In-index, In-map, In-map_source}
use Rattle.finite_sets.proofs.Searches.{All-from_In}
use Rattle.finite_sets.proofs.Places.{In-take}
use Rattle.use_orders.specs.LibraryOrder.{IsLibraryOrder}
use Rattle.use_orders.proofs.Visiting.{library_order-behind, library_order-lists}
use Rattle.ext_model.specs.LawfulArrays.{IsLawfulArrayExt}
use Rattle.ext_cache.specs.CellTree.Uses.{HasChild}
use Rattle.ext_cache.specs.LibraryTrees.NamedCells.{IsAtOrBelow as IsSeenAtOrBelow}
use Rattle.ext_cache.specs.LibraryTrees.KeptRecords.{HasKeptRecord}
use Rattle.ext_cache.specs.LibraryTrees.RecordLaws.{ListedRecordsAreOfTheTree}
use Rattle.workspace.proofs.CellNames.{names_tell, tree_named}
use Rattle.ext_cache.proofs.OrderLaws.{below_is_before}

-- the key of a cell of an order
key_of : (order : List CellKey) (cell : ℕ) → In cell (numbers order) → (key : CellKey) × (In key order × (key.0 ≡ cell))
key_of order cell there = In-map_source (λ (key : CellKey). key.0) cell order there

module _ (kept : ℕ → Option ArrayExt) (order : List CellKey) (exts : List ArrayExt)
    (copied : map (λ ext. Some ext) exts ≡ map (λ (key : CellKey). kept key.0) order) where
  -- a record that is kept of a cell of the order is one of the copies
  copied_there : (cell : ℕ) (ext : ArrayExt) → In cell (numbers order) → kept cell ≡ Some ext → In ext exts
  copied_there cell ext there is =
      let key = key_of order cell there in
      let placed : In (kept key.0.0) (map (λ (one : ArrayExt). Some one) exts) =
      subst (λ (all : List (Option ArrayExt)). In (kept key.0.0) all) (sym copied) (In-map (λ (k : CellKey). kept k.0) key.0 order key.1.0) in
      let source = In-map_source (λ (one : ArrayExt). Some one) (kept key.0.0) exts placed in
      let same : Some source.0 ≡ Some ext = source.1.1 ∙ ap kept key.1.1 ∙ is in
      subst (λ (one : ArrayExt). In one exts) (same_Some source.0 ext same) source.1.0

  -- each copy is of a record that is kept of one of the cells
  copied_from : (ext : ArrayExt) → In ext exts → (cell : ℕ) × (In cell (numbers order) × (kept cell ≡ Some ext))
  copied_from ext there =
      let placed : In (Some ext) (map (λ (key : CellKey). kept key.0) order) =
      subst (λ (all : List (Option ArrayExt)). In (Some ext) all) copied (In-map (λ (one : ArrayExt). Some one) ext exts there) in
      let source = In-map_source (λ (key : CellKey). kept key.0) (Some ext) order placed in
      (source.0.0, (In-map (λ (key : CellKey). key.0) source.0 order source.1.0, source.1.1))

-- the names of the cells are those of the records
copied_names : (kept : ℕ → Option ArrayExt) (names : ℕ → List ℕ) (order : List CellKey) (exts : List ArrayExt)
    → map (λ ext. Some ext) exts ≡ map (λ (key : CellKey). kept key.0) order
    → ((cell : ℕ) (ext : ArrayExt) → In cell (numbers order) → kept cell ≡ Some ext → ext.cell ≡ names cell)
    → map (λ (ext : ArrayExt). ext.cell) exts ≡ map names (numbers order)
copied_names kept names [] [] copied named = refl
copied_names kept names [] (ext ∷ exts) copied named = absurd (cc)
copied_names kept names (key ∷ order) [] copied named = absurd (cc)
copied_names kept names (key ∷ order) (ext ∷ exts) copied named =
    let first : Some ext ≡ kept key.0 = cc in
    let rest : map (λ (one : ArrayExt). Some one) exts ≡ map (λ (k : CellKey). kept k.0) order = cc in
    let here : ext.cell ≡ names key.0 = named key.0 ext (inl refl) (sym first) in
    let later = copied_names kept names order exts rest (λ cell one there is. named cell one (inr there) is) in
    λ i. here i ∷ later i

module _ (library : LibraryParts) (lawful : IsLawfulLibrary library) (records : Records) (agrees : Agrees library records) (root : ℕ)
    (there : root < length library.contents) (fresh : IsFreshBelow library records root) where
  -- a cell at or below the root has a record, which is that of the cell as it is
  kept_below : (cell : ℕ) → IsAtOrBelow (children_in (seen library)) root cell
      → (ext : ArrayExt) × ((record_in records cell ≡ Some ext) × IsRecordNow (seen library) cell ext)
  kept_below cell down = kept_clean library records cell agrees (fresh cell down)

  -- the root is clean
  pub root_clean : IsCleanCell (seen library) root
  root_clean = (kept_below root stay).1.1.clean

  module _ (order : List CellKey) (is_order : IsLibraryOrder (children_in (seen library)) root (numbers order)) where
    -- a cell of the order stands at or below the root
    listed_below : (cell : ℕ) → In cell (numbers order) → IsAtOrBelow (children_in (seen library)) root cell
    listed_below cell listed = (library_order-lists (children_in (seen library)) root (numbers order) is_order).2 cell listed

    -- what is seen to stand at or below the root is a cell of the order
    seen_listed : (cell : ℕ) → IsSeenAtOrBelow (seen library) root cell → In cell (numbers order)
    seen_listed cell stay = (library_order-lists (children_in (seen library)) root (numbers order) is_order).1 root stay
    seen_listed cell (go {b = child} has rest) =
        let view : LibraryView = seen library in
        let lists = library_order-lists (children_in view) root (numbers order) is_order in
        let at = In-index root (numbers order) (lists.1 root stay) in
        let uses = subst (λ (upper : ℕ). HasChild (view_at view upper).uses child) (sym (at.1.1 0)) has in
        In-take at.0 (numbers order) cell
        (below_is_before library (numbers order) (library_order-behind (children_in view) root (numbers order) is_order) at.0 at.1.0 cell
        (record { child = child; uses = uses; at_or_below = rest }))

    -- no cell stands there twice
    pub order_once : Distinct (numbers order)
    order_once = (library_order-lists (children_in (seen library)) root (numbers order) is_order).0

    -- a record is kept of each cell of the order
    pub order_kept : All (λ key. IsSome (record_in records key.0)) order
    order_kept =
        All-from_In (λ (key : CellKey). IsSome (record_in records key.0)) order (λ key listed.
        let kept = kept_below key.0 (listed_below key.0 (In-map (λ (k : CellKey). k.0) key order listed)) in
        subst (λ (found : Option ArrayExt). IsSome found) (sym kept.1.0) refl)

    module _ (exts : List ArrayExt) (copied : map (λ ext. Some ext) exts ≡ map (λ (key : CellKey). record_in records key.0) order) where
      -- a record that is kept of a cell of the order is that of the cell as it is
      record_now : (cell : ℕ) (ext : ArrayExt) → In cell (numbers order) → record_in records cell ≡ Some ext → IsRecordNow (seen library) cell ext
      record_now cell ext listed is =
          let kept = kept_below cell (listed_below cell listed) in
          let same : Some kept.0 ≡ Some ext = sym kept.1.0 ∙ is in
          subst (λ (one : ArrayExt). IsRecordNow (seen library) cell one) (same_Some kept.0 ext same) kept.1.1

      -- it is a cell of the library
      is_cell : (cell : ℕ) → In cell (numbers order) → cell < length library.contents
      is_cell cell listed = below_there library lawful root cell there (listed_below cell listed)

      -- the record has the name of its cell
      name_kept : (cell : ℕ) (ext : ArrayExt) → In cell (numbers order) → record_in records cell ≡ Some ext
          → ext.cell ≡ (view_at (seen library) cell).name
      name_kept cell ext listed is = (record_now cell ext listed is).is.means.cell ∙ tree_named library lawful cell (is_cell cell listed)

      -- the copies are lawful, and of cells of different names
      pub are_records : AreArrayRecords exts
      are_records = record {
        lawful = All-from_In IsLawfulArrayExt exts (λ ext listed.
            let from = copied_from (record_in records) order exts copied ext listed in
            (record_now from.0 ext from.1.0 from.1.1).lawful);
        cells_differ = subst (λ (names : List (List ℕ)). Distinct names)
            (sym (copied_names (record_in records) (λ cell. (view_at (seen library) cell).name) order exts copied name_kept))
            (Distinct-map (λ (cell : ℕ). (view_at (seen library) cell).name) (numbers order)
            (λ a b a_listed b_listed same. names_tell library lawful a b (is_cell a a_listed) (is_cell b b_listed) same)
            (library_order-lists (children_in (seen library)) root (numbers order) is_order).0);
      }

      -- and the records of the root's tree
      pub tree_records : ListedRecordsAreOfTheTree library → HasTreeRecords library.tech (plains exts) (named_tree_at (seen library) root)
      tree_records law = law (record_in records) root exts there listed of
        where
          listed : (cell : ℕ) → IsSeenAtOrBelow (seen library) root cell
              → (has : HasKeptRecord (seen library) (record_in records) cell) × In has.ext exts
          listed cell down =
              let within = seen_listed cell down in
              let kept = kept_below cell (listed_below cell within) in (
                record { ext = kept.0; is_kept = kept.1.0; lawful = kept.1.1.lawful; is = kept.1.1.is.means },
                copied_there (record_in records) order exts copied cell kept.0 within kept.1.0,
              )

          of : (ext : ArrayExt) → In ext exts
              → (cell : ℕ) × (cell < length library.contents) × (has : HasKeptRecord (seen library) (record_in records) cell) × (has.ext ≡ ext)
          of ext among =
              let from = copied_from (record_in records) order exts copied ext among in (
                from.0,
                is_cell from.0 from.1.0,
                (let now = record_now from.0 ext from.1.0 from.1.1 in record { ext = ext; is_kept = from.1.1; lawful = now.lawful; is = now.is.means }),
                refl,
              )
