-- What an extraction comes to, and what is dirty after it.
use Rattle.workspace.proofs.Common.{◌≡◌, ◌<◌, ◌∙◌, ℕ, List, [], ◌∷◌, length, map, Option, Some, refl, sym, ap, subst, inl, inr, All, flat_map, In}
use Rattle.workspace.proofs.Common.{IsAtOrBelow, Store, ArrayExt, CellKey, children_in, IsLawfulLibrary, LibraryParts, seen, LibraryView, view_at}
use Rattle.workspace.proofs.Common.{below_there, Extracted, Agrees, Extracts, Records, is_dirty, kept_clean, Edited, Extraction, HasLawfulRecord}
use Rattle.workspace.proofs.Common.{IsExtracted, IsFreshBelow, kept_store, told_lines, Workspace}
use Rattle.std.proofs.Common.{◌⊎◌, ◌==◌, ◌&&◌, not, suc, Bool, true, false}
use Rattle.std.specs.Prelude.{option_map}
use Rattle.std.specs.List.{list_any}
use Rattle.std.proofs.lemmas.Bool.{eq-eqb, ne_eqb, true≢false}
use Rattle.std.proofs.lemmas.Bool.Decides.{eqb_tells}
use Rattle.finite_sets.specs.Chain.Chain.{stay}
use Rattle.finite_sets.proofs.Members.{In-filter, In-filter_passes, In-filter_source}
use Rattle.finite_sets.proofs.Searches.{All-from_In, list_any-In}
use Rattle.use_orders.proofs.Visiting.{library_order-lists}
use Rattle.session_model.specs.declared.report.ReportLine.{ReportLine}
use Rattle.ext_cache.specs.Caches.{MakesRecords as KeepsRecords, dirty_cells, stamp_in, with_record}
use Rattle.ext_cache.proofs.MakingLaws.{clean_making, dirty_unmade}
use Rattle.workspace.specs.declared.extractions.Extracting.TheVariants.{Done}
use Rattle.library_answers.specs.UndoLog.Inverses.{Inverses}
use Rattle.workspace.specs.KeptSessions.{edited_state}
use Rattle.workspace.specs.Extractions.{MakesRecords, ext_store, with_clean}
use Rattle.workspace.proofs.WorkspaceLaws.{workspace_of}

-- ---- cells of an order

-- the cell is one of an order
abbrev stands : ℕ → List ℕ → Bool
stands other order = list_any (λ cell. cell == other) order

-- where a cell is in the list, it is told so
told_there : (other : ℕ) (order : List ℕ) → In other order → stands other order ≡ true
told_there other order there = go (stands other order) refl
  where
    go : (told : Bool) → stands other order ≡ told → told ≡ true
    go true is = refl
    go false is = absurd (true≢false (sym (eq-eqb other other refl) ∙ list_any-In (λ cell. cell == other) order other is there))

-- and where it isn't, that too
told_absent : (other : ℕ) (order : List ℕ) → (In other order → ⊥) → stands other order ≡ false
told_absent other [] absent = refl
told_absent other (cell ∷ order) absent =
    rw (ne_eqb cell other (λ same. absent (inl same)), told_absent other order (λ there. absent (inr there))) refl

-- it is told which
listed_or_not : (other : ℕ) (order : List ℕ) → (In other order × (stands other order ≡ true)) ⊎ ((In other order → ⊥) × (stands other order ≡ false))
listed_or_not other [] = inr (λ absent. absent, refl)
listed_or_not other (cell ∷ order) = elim (eqb_tells cell other) [
  | inl same ↦ inl (inl same.1, told_there other (cell ∷ order) (inl same.1))
  | inr differ ↦ elim (listed_or_not other order) [
    | inl later ↦ inl (inr later.0, told_there other (cell ∷ order) (inr later.0))
    | inr never ↦
        let absent : In other (cell ∷ order) → ⊥ = λ there. elim there [ inl same ↦ differ.1 same | inr later ↦ never.0 later ] in
        inr (absent, told_absent other (cell ∷ order) absent)
  ]
]

-- ---- what is dirty

-- after the records of the dirty cells of an order were made, the cells of the order are not dirty, and the others are as before
marks_made : (library : LibraryParts) (records after : Records) (order : List ℕ) (told : List Extracted)
    → KeepsRecords library (dirty_cells library records order) records after told → (other : ℕ)
    → is_dirty library after other ≡ (not (stands other order) && is_dirty library records other)
marks_made library records after order told makes other = go (is_dirty library records other) refl (listed_or_not other order)
  where
    go : (dirty : Bool) → is_dirty library records other ≡ dirty
        → (In other order × (stands other order ≡ true)) ⊎ ((In other order → ⊥) × (stands other order ≡ false))
        → is_dirty library after other ≡ (not (stands other order) && dirty)
    go dirty is (inr (absent, tells)) =
        rw tells (dirty_unmade library (dirty_cells library records order) records after told makes other
        (λ there. absent (In-filter_source (is_dirty library records) other order there)) ∙ is)
    go true is (inl (there, tells)) =
        rw tells (clean_making library (dirty_cells library records order) records after told makes other
        (In-filter (is_dirty library records) other order there is))
    go false is (inl (there, tells)) =
        rw tells (dirty_unmade library (dirty_cells library records order) records after told makes other
        (λ here. true≢false (sym (In-filter_passes (is_dirty library records) other order here) ∙ is)) ∙ is)

-- what is edited after an extraction
pub clean_workspace : (library : LibraryParts) (current : Option CellKey) (records after : Records) (log : Inverses) (order : List ℕ)
    (told : List Extracted)
    → KeepsRecords library (dirty_cells library records order) records after told
    → workspace_of library current after log ≡ with_clean (workspace_of library current records log) order
clean_workspace library current records after log order told makes =
    λ i. record (workspace_of library current records log) { dirty = λ other. marks_made library records after order told makes other i }

-- none of the cells of the order is dirty then
pub fresh_in : (work after : Workspace) (order : List ℕ) (cell : ℕ) → after ≡ with_clean work order → In cell order → after.dirty cell ≡ false
fresh_in work after order cell is there = ap (λ (w : Workspace). w.dirty cell) is ∙ rw (told_there cell order there) refl

-- and so none at or below the cell that was extracted
pub fresh_below : (number : ℕ) (old new : Edited) (cell : ℕ) (extraction : Extraction) → new.library ≡ old.library
    → IsExtracted number (edited_state old) (edited_state new) cell (Done extraction) → IsFreshBelow new.library new.cache cell
fresh_below number old new cell extraction same is below down =
    let listed = library_order-lists (children_in (seen old.library)) cell is.0.order is.0.is_order in
    fresh_in (edited_state old) (edited_state new) is.0.order below is.1
    (listed.1 below (subst (λ (library : LibraryParts). IsAtOrBelow (children_in (seen library)) cell below) same down))

-- ---- what is told

-- as many cells are told as records are made
told_count : (library : LibraryParts) (cells : List ℕ) (records after : Records) (told : List Extracted) → KeepsRecords library cells records after told
    → length told ≡ length cells
told_count library [] records after told (same, none) = ap (λ (all : List Extracted). length all) none
told_count library (cell ∷ cells) records after told (ext, unattached, rest, now, are, told_is, later) =
    ap (λ (all : List Extracted). length all) told_is
    ∙ ap suc (told_count library cells (with_record records cell ext (stamp_in library cell)) after rest later)

-- what is told is of one of the cells
told_source : (library : LibraryParts) (cells : List ℕ) (records after : Records) (told : List Extracted) → KeepsRecords library cells records after told
    → (one : Extracted) → In one told → In one.cell.0 cells
told_source library [] records after told (same, none) one there = absurd (subst (λ (all : List Extracted). In one all) none there)
told_source library (cell ∷ cells) records after told (ext, unattached, rest, now, are, told_is, later) one there =
    elim (subst (λ (all : List Extracted). In one all) told_is there) [
      | inl same ↦ inl (ap (λ (e : Extracted). e.cell.0) same)
      | inr behind ↦ inr (told_source library cells (with_record records cell ext (stamp_in library cell)) after rest later one behind)
    ]

module _ (library : LibraryParts) (after : Records) (agrees : Agrees library after) where
  -- the first of stores that are those of records, and the others
  first_store : (stores : List Store) (store : Option Store) (rest : List (Option Store)) → map (λ one. Some one) stores ≡ store ∷ rest
      → (first : Store) × (others : List Store) × (stores ≡ first ∷ others) × (Some first ≡ store) × (map (λ one. Some one) others ≡ rest)
  first_store [] store rest is = absurd (cc)
  first_store (first ∷ others) store rest is = (first, others, refl, cc, cc)

  -- the records that are told were made and stored
  made_records : (cells : List ℕ) (records : Records) (told : List Extracted) → KeepsRecords library cells records after told
      → ((cell : ℕ) → In cell cells → is_dirty library after cell ≡ false) → (lines : List ReportLine) (stores : List Store)
      → lines ≡ flat_map (told_lines (seen library)) told → map (λ store. Some store) stores ≡ map (kept_store (seen library) after) told
      → MakesRecords (seen library) cells lines stores
  made_records [] records told (same, none) fresh lines stores lines_are stores_are = (
    lines_are ∙ ap (λ (all : List Extracted). flat_map (told_lines (seen library)) all) none,
    no_stores stores (stores_are ∙ ap (λ (all : List Extracted). map (kept_store (seen library) after) all) none),
  )
    where
      no_stores : (all : List Store) → map (λ store. Some store) all ≡ [] → all ≡ []
      no_stores [] is = refl
      no_stores (store ∷ all) is = absurd (cc)
  made_records (cell ∷ cells) records told (ext, unattached, rest, now, are, told_is, later) fresh lines stores lines_are stores_are =
      let view : LibraryView = seen library in
      let one : Extracted = record { cell = record { 0 = cell }; unattached = unattached } in
      let kept = kept_clean library after cell agrees (fresh cell (inl refl)) in
      let stored = first_store stores (kept_store view after one) (map (kept_store view after) rest)
      (stores_are ∙ ap (λ (all : List Extracted). map (kept_store view after) all) told_is) in
      let same : Some stored.0 ≡ Some (ext_store (view_at view cell).name kept.0) =
      stored.3 ∙ ap (λ (found : Option ArrayExt). option_map (ext_store (view_at view cell).name) found) kept.1.0 in (
        told_lines view one,
        stored.0,
        flat_map (told_lines view) rest,
        stored.1,
        record {
          ext = kept.0;
          is_record = kept.1.1.is;
          texts = unattached;
          are_unattached = are;
          lines_are = refl;
          store_is = cc;
        },
        made_records cells (with_record records cell ext (stamp_in library cell)) rest later (λ other there. fresh other (inr there))
            (flat_map (told_lines view) rest) stored.1 refl stored.4,
        lines_are ∙ ap (λ (all : List Extracted). flat_map (told_lines view) all) told_is,
        stored.2,
      )

-- ---- what an extraction comes to

module _ (library : LibraryParts) (records : Records) (root : ℕ) (after : Records) (told : List Extracted)
    (extracts : Extracts library records root after told) where
  -- no cell of its order is dirty then
  fresh_then : (cell : ℕ) → In cell extracts.order → is_dirty library after cell ≡ false
  fresh_then cell there = marks_made library records after extracts.order told extracts.makes cell ∙ rw (told_there cell extracts.order there) refl

  -- each cell that is told is one of the order
  told_ordered : (one : Extracted) → In one told → In one.cell.0 extracts.order
  told_ordered one there =
      In-filter_source (is_dirty library records) one.cell.0 extracts.order
      (told_source library (dirty_cells library records extracts.order) records after told extracts.makes one there)

  -- and a cell of the library
  pub told_there_all : IsLawfulLibrary library → root < length library.contents → All (λ one. one.cell.0 < length library.contents) told
  told_there_all lawful there =
      All-from_In (λ (one : Extracted). one.cell.0 < length library.contents) told (λ one listed.
      below_there library lawful root one.cell.0 there
      ((library_order-lists (children_in (seen library)) root extracts.order extracts.is_order).2 one.cell.0 (told_ordered one listed)))

  -- of which a lawful record is kept
  pub told_kept : Agrees library after → All (HasLawfulRecord after) told
  told_kept agrees =
      All-from_In (HasLawfulRecord after) told (λ one listed.
      let kept = kept_clean library after one.cell.0 agrees (fresh_then one.cell.0 (told_ordered one listed)) in
      record { ext = kept.0; is_kept = kept.1.0; lawful = kept.1.1.lawful })

  -- what the program tells of it is what it comes to
  pub extraction_told : (current : Option CellKey) (log : Inverses) (number : ℕ) (extraction : Extraction) → Agrees library after
      → extraction.lines ≡ flat_map (told_lines (seen library)) told
      → map (λ store. Some store) extraction.stores ≡ map (kept_store (seen library) after) told → extraction.count ≡ length told
      → IsExtracted number (workspace_of library current records log) (workspace_of library current after log) root (Done extraction)
  extraction_told current log number extraction agrees lines stores count =
      let listed : In root extracts.order = (library_order-lists (children_in (seen library)) root extracts.order extracts.is_order).1 root stay in
      let kept = kept_clean library after root agrees (fresh_then root listed) in (
        record {
          clean = kept.1.1.clean;
          order = extracts.order;
          is_order = extracts.is_order;
          makes = made_records library after agrees (dirty_cells library records extracts.order) records told extracts.makes
              (λ cell there. fresh_then cell (In-filter_source (is_dirty library records) cell extracts.order there)) extraction.lines extraction.stores
              lines stores;
          count = count ∙ told_count library (dirty_cells library records extracts.order) records after told extracts.makes;
        },
        clean_workspace library current records after log extracts.order told extracts.makes,
      )
