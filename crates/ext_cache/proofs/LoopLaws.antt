-- What an extraction has made at a place of the order, and how it goes on with the cell there.
use Rattle.ext_cache.proofs.Common.{◌≡◌, ◌⊎◌, ◌<◌, ◌≤◌, ◌+◌, ◌*◌, ◌∙◌, ℕ, Bool, true, false, cond, List, [], ◌∷◌, ◌++◌, length, take, get_or, inl}
use Rattle.ext_cache.proofs.Common.{inr, refl, sym, ap, subst, All, Distinct, In, ArrayExt, AreUnattached, AreBehindChildren, UsesCell, children_in}
use Rattle.ext_cache.proofs.Common.{LibraryParts, seen, view_at, IsWork, IsCleanCell, HaveKeptRecordsBelow, IsBelow, Extracted, Undo, Agrees}
use Rattle.ext_cache.proofs.Common.{IsRecordNow, IsWorkOfAll, MakesRecords, Records, dirty_cells, entry_in, is_dirty, is_stale, record_in, stamp_in}
use Rattle.ext_cache.proofs.Common.{with_record, IsLogOf, undo_of}
use Rattle.std.proofs.Common.{drop}
use Rattle.std.proofs.Common.{append-nil, true≢false}
use Rattle.std.proofs.lemmas.List.{drop_more, take-append-drop}
use Rattle.std.proofs.lemmas.List.Elements.{All-more, filter-append, filter_more}
use Rattle.finite_sets.proofs.Distincts.{Distinct-places}
use Rattle.finite_sets.proofs.Members.{In-filter, In-filter_passes, In-filter_source}
use Rattle.ext_cache.proofs.MakingLaws.{clean_making, dirty_unmade, makes_more}
use Rattle.ext_cache.proofs.OrderLaws.{below_is_before, place_of}
use Rattle.ext_cache.proofs.RecordLaws.{agrees_made, kept_clean}
use Rattle.ext_cache.proofs.UndoingLaws.{log_more}
use Rattle.ext_cache.proofs.WorkLaws.{HasWorkOf, has_work_more, work_within}

-- The cells before the place are clean, and a record was made of each of them that was dirty, and was told and logged.
pub record IsMadeTo (library : LibraryParts) (order : List ℕ) (place : ℕ) (before records : Records) (told : List Extracted) (log : List Undo)
    : Type 0 where
  pub clean : All (IsCleanCell (seen library)) (take place order)
  pub makes : MakesRecords library (dirty_cells library before (take place order)) before records told
  pub agrees : Agrees library records
  pub logged : IsLogOf before log records

-- one of two
true_or_false : (test : Bool) → (test ≡ true) ⊎ (test ≡ false)
true_or_false true = inl refl
true_or_false false = inr refl

-- the same of equal things
pub made_along : (library : LibraryParts) (order : List ℕ) (place : ℕ) (before records other : Records) (told words : List Extracted)
    (log notes : List Undo) → other ≡ records → words ≡ told → notes ≡ log → IsMadeTo library order place before records told log
    → IsMadeTo library order place before other words notes
made_along library order place before records other told words log notes same_records same_told same_log made =
    subst (λ (r : Records). IsMadeTo library order place before r words notes) (sym same_records)
    (subst (λ (t : List Extracted). IsMadeTo library order place before records t notes) (sym same_told)
    (subst (λ (l : List Undo). IsMadeTo library order place before records told l) (sym same_log) made))

-- what was answered when it was asked whether the cell is stale
pub told_dirty : (library : LibraryParts) (records : Records) (cell stamp : ℕ) (stale answer : Bool) → stamp ≡ stamp_in library cell
    → stale ≡ is_stale (entry_in records cell) stamp → stale ≡ answer → is_dirty library records cell ≡ answer
told_dirty library records cell stamp stale answer now is told = ap (is_stale (entry_in records cell)) (sym now) ∙ sym is ∙ told

-- ---- which cells are dirty

module _ (library : LibraryParts) (before : Records) (order : List ℕ) (place cell : ℕ) (below : place < length order)
    (here : get_or order place 0 ≡ cell) where
  -- the dirty cells up to the cell at the place
  dirty_next : dirty_cells library before (take (place + 1) order)
      ≡ dirty_cells library before (take place order) ++ cond (is_dirty library before cell) (cell ∷ []) []
  dirty_next =
      filter_more (is_dirty library before) order place 0 below
      ∙ ap (λ (key : ℕ). dirty_cells library before (take place order) ++ cond (is_dirty library before key) (key ∷ []) []) here

  -- where the cell is dirty, it is one more of them
  pub dirty_one_more : is_dirty library before cell ≡ true
      → dirty_cells library before (take (place + 1) order) ≡ dirty_cells library before (take place order) ++ cell ∷ []
  dirty_one_more dirty =
      dirty_next ∙ ap (λ (test : Bool). dirty_cells library before (take place order) ++ cond test (cell ∷ []) []) dirty

  -- and else there are as many
  pub dirty_no_more : is_dirty library before cell ≡ false
      → dirty_cells library before (take (place + 1) order) ≡ dirty_cells library before (take place order)
  dirty_no_more clean =
      dirty_next
      ∙ ap (λ (test : Bool). dirty_cells library before (take place order) ++ cond test (cell ∷ []) []) clean
      ∙ append-nil (dirty_cells library before (take place order))

  -- where the cell is dirty, all dirty cells are those before it, the cell, and those behind it
  pub dirty_split : is_dirty library before cell ≡ true → dirty_cells library before order
      ≡ dirty_cells library before (take place order) ++ cell ∷ dirty_cells library before (drop (place + 1) order)
  dirty_split dirty =
      let rest : List ℕ = drop (place + 1) order in
      ap (dirty_cells library before) (sym (take-append-drop place order))
      ∙ filter-append (is_dirty library before) (take place order) (drop place order)
      ∙ ap (λ (cells : List ℕ). dirty_cells library before (take place order) ++ dirty_cells library before cells)
      (drop_more order place 0 below ∙ ap (λ (key : ℕ). key ∷ rest) here)
      ∙ ap (λ (test : Bool). dirty_cells library before (take place order) ++ cond test (cell ∷ dirty_cells library before rest)
      (dirty_cells library before rest)) dirty

-- ---- the cell at the place

module _ (library : LibraryParts) (order : List ℕ) (place : ℕ) (before records : Records) (told : List Extracted) (log : List Undo) (cell : ℕ)
    (below : place < length order) (at : get_or order place 0 ≡ cell) (once : Distinct order)
    (made : IsMadeTo library order place before records told log) where
  -- the cell is not among those before it
  absent : In cell (take place order) → ⊥
  absent listed =
      let earlier = place_of order place cell below listed in
      Distinct-places order earlier.0 place 0 once earlier.1.0 below (earlier.1.1 ∙ sym at)

  -- so it is dirty as it was
  pub dirty_here : is_dirty library records cell ≡ is_dirty library before cell
  dirty_here =
      dirty_unmade library (dirty_cells library before (take place order)) before records told made.makes cell
      (λ listed. absent (In-filter_source (is_dirty library before) cell (take place order) listed))

  -- what stands before it is not dirty now
  clean_now : (key : ℕ) → In key (take place order) → is_dirty library records key ≡ false
  clean_now key listed = elim (true_or_false (is_dirty library before key)) [
    | inl dirty ↦
        clean_making library (dirty_cells library before (take place order)) before records told made.makes key
        (In-filter (is_dirty library before) key (take place order) listed dirty)
    | inr clean ↦
        dirty_unmade library (dirty_cells library before (take place order)) before records told made.makes key
        (λ made_now. true≢false (sym (In-filter_passes (is_dirty library before) key (take place order) made_now) ∙ clean))
        ∙ clean
  ]

  -- what stands below it has a record, as it is now
  pub kept_below : AreBehindChildren (UsesCell (children_in (seen library))) order → HaveKeptRecordsBelow (seen library) (record_in records) cell
  kept_below behind key is =
      let listed : In key (take place order) =
      below_is_before library order behind place below key (subst (λ (upper : ℕ). IsBelow (seen library) upper key) (sym at) is) in
      let known = kept_clean library records key made.agrees (clean_now key listed) in
      record { ext = known.0; is_kept = known.1.0; lawful = known.1.1.lawful; is = known.1.1.is.means }

  -- where the cell is not dirty, it is passed over
  pub passed : is_dirty library records cell ≡ false → IsMadeTo library order (place + 1) before records told log
  passed clean = record {
    clean = All-more (IsCleanCell (seen library)) order place 0 below made.clean
        (subst (λ (key : ℕ). IsCleanCell (seen library) key) (sym at) (kept_clean library records cell made.agrees clean).1.1.clean);
    makes = subst (λ (cells : List ℕ). MakesRecords library cells before records told)
        (sym (dirty_no_more library before order place cell below at (sym dirty_here ∙ clean))) made.makes;
    agrees = made.agrees;
    logged = made.logged;
  }

  -- and else a new record of it is made
  pub renewed : (ext : ArrayExt) (unattached : List (List ℕ)) → is_dirty library records cell ≡ true → cell < length library.contents
      → IsRecordNow (seen library) cell ext
      → AreUnattached (seen library).tech (view_at (seen library) cell).own (view_at (seen library) cell).labels unattached
      → IsMadeTo library order (place + 1) before (with_record records cell ext (stamp_in library cell))
      (told ++ record { cell = record { 0 = cell }; unattached = unattached } ∷ []) (log ++ undo_of records cell ∷ [])
  renewed ext unattached dirty there now are =
      let after : Records = with_record records cell ext (stamp_in library cell) in
      let all : List Extracted = told ++ record { cell = record { 0 = cell }; unattached = unattached } ∷ [] in
      record {
        clean = All-more (IsCleanCell (seen library)) order place 0 below made.clean
            (subst (λ (key : ℕ). IsCleanCell (seen library) key) (sym at) now.clean);
        makes = subst (λ (cells : List ℕ). MakesRecords library cells before after all)
            (sym (dirty_one_more library before order place cell below at (sym dirty_here ∙ dirty)))
            (makes_more library (dirty_cells library before (take place order)) cell before records told ext unattached made.makes now are);
        agrees = agrees_made library records cell ext there now made.agrees;
        logged = log_more before records log cell ext (stamp_in library cell) made.logged;
      }

  -- ---- the work

  -- a cell that is passed over adds none
  pub has_work_passed : (start here : ℕ) → is_dirty library records cell ≡ false
      → HasWorkOf (seen library) (dirty_cells library before (take place order)) start here
      → HasWorkOf (seen library) (dirty_cells library before (take (place + 1) order)) start here
  has_work_passed start here clean =
      subst (λ (cells : List ℕ). HasWorkOf (seen library) cells start here)
      (sym (dirty_no_more library before order place cell below at (sym dirty_here ∙ clean)))

  -- and one of which a new record is made adds its own
  pub has_work_next : (start here after : ℕ) → is_dirty library records cell ≡ true
      → ((own : ℕ) × IsWork (seen library) cell own × (after ≤ here + (2 * own + 2)))
      → HasWorkOf (seen library) (dirty_cells library before (take place order)) start here
      → HasWorkOf (seen library) (dirty_cells library before (take (place + 1) order)) start after
  has_work_next start here after dirty own work =
      subst (λ (cells : List ℕ). HasWorkOf (seen library) cells start after)
      (sym (dirty_one_more library before order place cell below at (sym dirty_here ∙ dirty)))
      (has_work_more (seen library) (dirty_cells library before (take place order)) cell start here after work own)

  module _ (start here : ℕ)
      (bound : (work : ℕ) → IsWorkOfAll (seen library) (dirty_cells library before (take place order)) work → here ≤ start + work) where
    -- a cell that is passed over adds nothing
    pub work_passed : is_dirty library records cell ≡ false → (work : ℕ)
        → IsWorkOfAll (seen library) (dirty_cells library before (take (place + 1) order)) work → here ≤ start + work
    work_passed clean work is =
        bound work
        (subst (λ (cells : List ℕ). IsWorkOfAll (seen library) cells work)
        (dirty_no_more library before order place cell below at (sym dirty_here ∙ clean)) is)

    module _ (after : ℕ) (dirty : is_dirty library records cell ≡ true)
        (own : (work : ℕ) → IsWork (seen library) cell work → after ≤ here + (2 * work + 2)) where
      -- the work up to a cell of which a new record is made
      pub work_next : (work : ℕ) → IsWorkOfAll (seen library) (dirty_cells library before (take (place + 1) order)) work → after ≤ start + work
      work_next work is =
          work_within (seen library) (dirty_cells library before (take place order)) [] cell start here after bound own work
          (subst (λ (cells : List ℕ). IsWorkOfAll (seen library) cells work)
          (dirty_one_more library before order place cell below at (sym dirty_here ∙ dirty)) is)

      -- which is within the work of all
      pub work_all : (work : ℕ) → IsWorkOfAll (seen library) (dirty_cells library before order) work → after ≤ start + work
      work_all work is =
          work_within (seen library) (dirty_cells library before (take place order)) (dirty_cells library before (drop (place + 1) order)) cell start
          here after bound own work
          (subst (λ (cells : List ℕ). IsWorkOfAll (seen library) cells work)
          (dirty_split library before order place cell below at (sym dirty_here ∙ dirty)) is)
