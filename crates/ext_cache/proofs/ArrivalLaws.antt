-- Records after cells came: those of the cells that were there stay as they are, and a cell that came has none.
use Rattle.ext_cache.proofs.Common.{◌≡◌, ◌<◌, ◌≤◌, ℕ, List, [], ◌∷◌, ◌++◌, length, map, Option, Some, None, refl, sym, ap, ◌∙◌, arith, length-append}
use Rattle.ext_cache.proofs.Common.{get_or_append_left, ExtEntry, stamp_at, LibraryParts, IsLawfulLibrary, seen, no_cell, view_at, Agrees, Records}
use Rattle.ext_cache.proofs.Common.{entry_in, is_dirty, is_stale, stamp_in}
use Rattle.tree_merges.specs.CellLibrary.CellBodies.declared.bodies.CellBody.{CellBody}
use Rattle.tree_merges.specs.CellLibrary.Additions.{AreNextCells, kept_cell, names_with, with_all}
use Rattle.tree_merges.specs.CellLibrary.Libraries.{IsNextCell, edits_of}
use Rattle.tree_merges.proofs.CellLibrary.ViewLaws.{count_seen}
use Rattle.tree_merges.proofs.ElementPaths.LibraryTrees.EditedTrees.{below_is_cell}
use Rattle.ext_cache.proofs.RecordLaws.{StaysBelow, agrees_with}

module _ (old new : LibraryParts) (records : Records) (more : List ℕ) (lawful : IsLawfulLibrary old)
    (stamps : new.tree.stamps ≡ old.tree.stamps ++ more) (agrees : Agrees old records) where
  -- a cell that has a record keeps its stamp
  stamp_kept : (cell : ℕ) (entry : ExtEntry) → entry_in records cell ≡ Some entry → stamp_in new cell ≡ stamp_in old cell
  stamp_kept cell entry is =
      ap (λ (all : List ℕ). stamp_at all cell) stamps
      ∙ get_or_append_left old.tree.stamps more 0 cell (omega (arith, agrees.known cell entry is, lawful.so_many, lawful.tree.stamps))

  -- what is seen of a cell that was there and of those below it is the same, where all that were there stay
  tree_kept : ((cell : ℕ) → cell < length (seen old).cells → view_at (seen new) cell ≡ view_at (seen old) cell) → (cell : ℕ)
      → cell < length old.contents → StaysBelow (seen old) (seen new) cell
  tree_kept earlier cell there below chain =
      let known = below_is_cell old lawful cell below there chain in
      sym (earlier below (omega (arith, known, count_seen old)))

  -- records agree where the cells that were there stay
  agrees_more : length (seen old).cells ≤ length (seen new).cells → (seen new).tech ≡ (seen old).tech
      → ((cell : ℕ) → cell < length (seen old).cells → view_at (seen new) cell ≡ view_at (seen old) cell) → Agrees new records
  agrees_more count tech earlier =
      agrees_with old new records count tech (λ cell entry is. omega (arith, agrees.past cell entry is, stamp_kept cell entry is))
      (λ cell entry is stamp. (stamp_kept cell entry is, tree_kept earlier cell (agrees.known cell entry is))) agrees

  -- the same cells are dirty
  dirty_more : (cell : ℕ) → is_dirty new records cell ≡ is_dirty old records cell
  dirty_more cell = same_marks (entry_in records cell) (stamp_kept cell)
    where
      same_marks : (found : Option ExtEntry) → ((entry : ExtEntry) → found ≡ Some entry → stamp_in new cell ≡ stamp_in old cell)
          → is_stale found (stamp_in new cell) ≡ is_stale found (stamp_in old cell)
      same_marks None kept = refl
      same_marks (Some entry) kept = ap (is_stale (Some entry)) (kept entry refl)

-- ---- one cell

module _ (old new : LibraryParts) (records : Records) (lawful : IsLawfulLibrary old) (came : IsNextCell old new) (agrees : Agrees old records) where
  -- Records agree after a cell came, where those that were there stay as they were.
  pub agrees_cell : length (seen old).cells ≤ length (seen new).cells → (seen new).tech ≡ (seen old).tech
      → ((cell : ℕ) → cell < length (seen old).cells → view_at (seen new) cell ≡ view_at (seen old) cell) → Agrees new records
  agrees_cell = agrees_more old new records (edits_of new ∷ []) lawful came.stamps agrees

  -- The same cells are dirty: one that came has no record, as before.
  pub dirty_cell : (cell : ℕ) → is_dirty new records cell ≡ is_dirty old records cell
  dirty_cell = dirty_more old new records (edits_of new ∷ []) lawful came.stamps agrees

-- ---- many cells

module _ (old new : LibraryParts) (records : Records) (cells : List (List ℕ × CellBody)) (lawful : IsLawfulLibrary old)
    (came : AreNextCells old new cells) (agrees : Agrees old records) where
  -- Records agree after cells came, where those that were there stay as they were.
  pub agrees_cells : length (seen old).cells ≤ length (seen new).cells → (seen new).tech ≡ (seen old).tech
      → ((cell : ℕ) → cell < length (seen old).cells → view_at (seen new) cell ≡ view_at (seen old) cell) → Agrees new records
  agrees_cells = agrees_more old new records (map (λ _. edits_of new) cells) lawful came.stamps agrees

  -- The same cells are dirty.
  pub dirty_cells : (cell : ℕ) → is_dirty new records cell ≡ is_dirty old records cell
  dirty_cells = dirty_more old new records (map (λ _. edits_of new) cells) lawful came.stamps agrees

  -- Records agree after cells came to what is seen.
  pub agrees_all : seen new ≡ with_all (seen old) cells → Agrees new records
  agrees_all after =
      agrees_cells (let long : length (seen new).cells ≡ length (with_all (seen old) cells).cells = λ i. length (after i).cells in
      omega (arith, long, length-append (seen old).cells (map (kept_cell (names_with (seen old) cells)) cells)))
      (λ i. (after i).tech)
      (λ cell below. (λ i. view_at (after i) cell)
      ∙ get_or_append_left (seen old).cells (map (kept_cell (names_with (seen old) cells)) cells) no_cell cell below)
