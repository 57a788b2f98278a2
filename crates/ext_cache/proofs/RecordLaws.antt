-- Records that are kept, one more of them, and which cells are dirty then.
use Rattle.ext_cache.proofs.Common.{◌≡◌, ◌⊎◌, ◌<◌, ◌≤◌, ◌==◌, ℕ, Bool, true, false, cond, length, map, Option, Some, None, refl, sym, ap, subst, ◌∙◌}
use Rattle.ext_cache.proofs.Common.{inl, inr, arith, option_map, unsigned_tied, nat_cmp, eqb_tells, nat_tests, nat_cmp_total, ArrayExt, ExtEntry}
use Rattle.ext_cache.proofs.Common.{RawTech, IsClean, tree_at, stay, go, map-same, stamp_at, HasChild, LibraryParts, seen, CellView, LibraryView}
use Rattle.ext_cache.proofs.Common.{view_at, Agrees, IsRecordNow, Records, entry_in, is_dirty, is_stale, record_in, stamp_in, with_record}
use Rattle.std.proofs.Common.{◌≢◌, not}
use Rattle.std.specs.Prelude.{nat_lt, suc}
use Rattle.std.specs.FinMap as fin_map
use Rattle.std.proofs.lemmas.Bool.{cases_lt, eq-eqb, ne_eqb}
use Rattle.tree_merges.specs.LayoutModel.CellTrees.{CellTree}
use Rattle.tree_merges.specs.TreeRecords.NamedTrees.{NamedTree, layouts_of}
use Rattle.tree_merges.specs.TreeRecords.TreeRecords.{IsTreeRecord}
use Rattle.tree_merges.specs.ElementPaths.LibraryTrees.NamedCells.{IsAtOrBelow, named_tree_at}
use Rattle.tree_merges.proofs.ElementPaths.LibraryTrees.AgreeingViews.{agreeing_views}
use Rattle.tree_merges.proofs.ElementPaths.LibraryTrees.LayoutLaws.{layouts_of_cell}
use Rattle.finite_sets.proofs.Places.{slice_get-In}
use Rattle.geo_core.specs.Images.{six_of}
use Rattle.ext_model.specs.declared.arrays.ArrayUse.{ArrayUse}
use Rattle.ext_model.specs.Plain.{plain}
use Rattle.tree_merges.specs.ElementPaths.LibraryTrees.CellRecords.{library_use, library_uses}
use Rattle.tree_merges.specs.CellLibrary.Libraries.{IsSame}
use Rattle.tree_merges.proofs.CellLibrary.ViewLaws.{count_seen}
use Rattle.ext_cache.specs.declared.limits.TheConstants.{LAST_SERIAL}
use Rattle.ext_cache.specs.Caches.{next_serial, no_records}

-- ---- without records

-- no cell has one
none_in : (cell : ℕ) → entry_in no_records cell ≡ None
none_in cell = fin_map.get-empty nat_cmp cell

-- no records agree with any library, as one without cells
pub agrees_none : (library : LibraryParts) → Agrees library no_records
agrees_none library = record {
  known = λ cell entry is. absurd (some_none entry (sym (none_in cell) ∙ is));
  past = λ cell entry is. absurd (some_none entry (sym (none_in cell) ∙ is));
  now = λ cell entry is. absurd (some_none entry (sym (none_in cell) ∙ is));
  serials = λ cell entry is. absurd (some_none entry (sym (none_in cell) ∙ is));
}
  where
    some_none : (entry : ExtEntry) → ◌≡◌ {A = Option ExtEntry} None (Some entry) → ⊥
    some_none entry is = cc

-- and every cell is dirty then
pub dirty_none : (library : LibraryParts) (cell : ℕ) → is_dirty library no_records cell ≡ true
dirty_none library cell = ap (λ (found : Option ExtEntry). is_stale found (stamp_in library cell)) (none_in cell)

-- ---- cells that stay as they are

-- What is seen of each cell at and below the cell is the same.
abbrev pub StaysBelow : LibraryView → LibraryView → ℕ → Type 0
StaysBelow old new cell = (below : ℕ) → IsAtOrBelow old cell below → view_at old below ≡ view_at new below

-- then it has the same uses
uses_stay : (old new : LibraryView) (cell : ℕ) → StaysBelow old new cell → library_uses new cell ≡ library_uses old cell
uses_stay old new cell same =
    ap (λ (own : CellView). map (library_use new) own.uses) (sym (same cell stay))
    ∙ sym (map-same (library_use old) (library_use new) (view_at old cell).uses (λ entry listed.
    let at = slice_get-In entry (view_at old cell).uses listed in
    let has : HasChild (view_at old cell).uses entry.1.child.0 = record { k = at.0; entry = entry; stands = at.1; same = refl } in
    let use_of : CellView → ArrayUse = λ child. record { cell = child.name; id = entry.0; six = six_of entry.1.placed; grid = entry.1.grid } in
    ap use_of (same entry.1.child.0 (go has stay))))

-- a record of a cell as it is stays one, where the technology and what is seen of the cell and of those below it stay
pub record_stays : (old new : LibraryView) (cell : ℕ) (ext : ArrayExt) → new.tech ≡ old.tech → StaysBelow old new cell → IsRecordNow old cell ext
    → IsRecordNow new cell ext
record_stays old new cell ext tech stays now =
    let same : named_tree_at new cell ≡ named_tree_at old cell = sym (agreeing_views old new cell stays) in
    let layouts : tree_at new cell ≡ tree_at old cell = sym (layouts_of_cell new cell) ∙ ap layouts_of same ∙ layouts_of_cell old cell in
    record {
      clean = subst (λ (raw : RawTech). IsClean raw (tree_at new cell)) (sym tech)
          (subst (λ (tree : CellTree). IsClean old.tech tree) (sym layouts) now.clean);
      is = record {
        means = subst (λ (raw : RawTech). IsTreeRecord raw (named_tree_at new cell) (plain ext)) (sym tech)
            (subst (λ (tree : NamedTree). IsTreeRecord old.tech tree (plain ext)) (sym same) now.is.means);
        uses = now.is.uses ∙ sym (uses_stay old new cell stays);
        merges = now.is.merges;
      };
      lawful = now.lawful;
    }

-- Records agree with another library that has these cells and maybe more, where the record of each is of no later stamp than the cell has
-- there, and of its stamp only where the cell and all below it stayed as they were.
pub agrees_with : (old new : LibraryParts) (records : Records) → length (seen old).cells ≤ length (seen new).cells
    → (seen new).tech ≡ (seen old).tech
    → ((cell : ℕ) (entry : ExtEntry) → entry_in records cell ≡ Some entry → entry.stamp ≤ stamp_in new cell)
    → ((cell : ℕ) (entry : ExtEntry) → entry_in records cell ≡ Some entry → entry.stamp ≡ stamp_in new cell
    → (stamp_in new cell ≡ stamp_in old cell) × StaysBelow (seen old) (seen new) cell)
    → Agrees old records → Agrees new records
agrees_with old new records more tech past now agrees = record {
  known = λ cell entry is. omega (arith, agrees.known cell entry is, count_seen old, count_seen new);
  past = past;
  now = λ cell entry is stamp.
      let stayed = now cell entry is stamp in
      record_stays (seen old) (seen new) cell entry.ext tech stayed.1 (agrees.now cell entry is (stamp ∙ stayed.0));
  serials = agrees.serials;
}

-- Where nothing changed, records agree as before.
pub agrees_same : (old new : LibraryParts) (records : Records) → IsSame old new → Agrees old records → Agrees new records
agrees_same old new records same agrees =
    let stamps : (cell : ℕ) → stamp_in new cell ≡ stamp_in old cell = λ cell i. stamp_at (same.tree i).stamps cell in
    agrees_with old new records (let long : length (seen new).cells ≡ length (seen old).cells = λ i. length (same.seen i).cells in omega arith)
    (λ i. (same.seen i).tech) (λ cell entry is. omega (arith, agrees.past cell entry is, stamps cell))
    (λ cell entry is stamp. (stamps cell, λ below chain. sym (λ i. view_at (same.seen i) below))) agrees

-- And the same cells are dirty.
pub dirty_same : (old new : LibraryParts) (records : Records) (cell : ℕ) → IsSame old new → is_dirty new records cell ≡ is_dirty old records cell
dirty_same old new records cell same = λ i. is_stale (entry_in records cell) (stamp_at (same.tree i).stamps cell)

-- ---- serials

-- the count never falls
pub serial_keeps : (made : ℕ) → made ≤ next_serial made
serial_keeps made = elim (cases_lt made LAST_SERIAL) [
  | inl below ↦ let is : nat_lt made LAST_SERIAL ≡ true = grind (arith, nat_tests) in rw is (omega arith)
  | inr last ↦ let is : nat_lt made LAST_SERIAL ≡ false = grind (arith, nat_tests) in rw is (omega arith)
]

-- and rises by one, as long as it has not come to its end
pub serial_rises : (made : ℕ) → made < LAST_SERIAL → next_serial made ≡ suc made
serial_rises made below = let is : nat_lt made LAST_SERIAL ≡ true = grind (arith, nat_tests) in rw is refl

-- ---- one more record

-- an entry of this stamp is up to date, and one of another is not
fresh : (entry : ExtEntry) (stamp : ℕ) → entry.stamp ≡ stamp → is_stale (Some entry) stamp ≡ false
fresh entry stamp same = ap not (eq-eqb entry.stamp stamp same)

stamp_of_fresh : (entry : ExtEntry) (stamp : ℕ) → is_stale (Some entry) stamp ≡ false → entry.stamp ≡ stamp
stamp_of_fresh entry stamp is = elim (eqb_tells entry.stamp stamp) [
  | inl same ↦ same.1
  | inr other ↦ absurd (cc (ap not other.0, is))
]

-- where no entry is of the stamp, what there is of entries is out of date
pub stale_if : (found : Option ExtEntry) (stamp : ℕ) → ((entry : ExtEntry) → found ≡ Some entry → entry.stamp ≢ stamp) → is_stale found stamp ≡ true
stale_if None stamp other = refl
stale_if (Some entry) stamp other = ap not (ne_eqb entry.stamp stamp (other entry refl))

module _ (records : Records) (cell : ℕ) (ext : ArrayExt) (stamp : ℕ) where
  -- the entry of the record that was made
  abbrev pub entry_made : ExtEntry
  entry_made = record { ext = ext; serial = next_serial records.made; stamp = stamp }

  found_in : (key : ℕ) → entry_in (with_record records cell ext stamp) key ≡ cond (key == cell) (Some entry_made) (entry_in records key)
  found_in key =
      fin_map.get-insert nat_cmp_total records.entries cell entry_made key
      ∙ ap (λ (tied : Bool). cond tied (Some entry_made) (entry_in records key)) (unsigned_tied key cell)

  -- The cell has the new entry.
  pub found_here : entry_in (with_record records cell ext stamp) cell ≡ Some entry_made
  found_here = found_in cell ∙ ap (λ (tied : Bool). cond tied (Some entry_made) (entry_in records cell)) (eq-eqb cell cell refl)

  -- and any other cell the one that it had
  pub found_there : (key : ℕ) → key ≢ cell → entry_in (with_record records cell ext stamp) key ≡ entry_in records key
  found_there key other =
      found_in key ∙ ap (λ (tied : Bool). cond tied (Some entry_made) (entry_in records key)) (ne_eqb key cell other)

  -- an entry is the new one of the cell, or was there before
  pub found_as : (key : ℕ) (entry : ExtEntry) → entry_in (with_record records cell ext stamp) key ≡ Some entry
      → ((key ≡ cell) × (entry_made ≡ entry)) ⊎ (entry_in records key ≡ Some entry)
  found_as key entry is = elim (eqb_tells key cell) [
    | inl here ↦
        let there : entry_in (with_record records cell ext stamp) key ≡ Some entry_made =
        subst (λ (at : ℕ). entry_in (with_record records cell ext stamp) at ≡ Some entry_made) (sym here.1) found_here in
        inl (here.1, cc)
    | inr other ↦ inr (sym (found_there key other.1) ∙ is)
  ]

module _ (library : LibraryParts) (records : Records) (cell : ℕ) (ext : ArrayExt) where
  -- Records with a new one of a cell as it is agree with the library.
  pub agrees_made : cell < length library.contents → IsRecordNow (seen library) cell ext → Agrees library records
      → Agrees library (with_record records cell ext (stamp_in library cell))
  agrees_made below now agrees = record {
    known = λ key entry is. elim (found_as records cell ext (stamp_in library cell) key entry is) [
      | inl here ↦ subst (λ (at : ℕ). at < length library.contents) (sym here.0) below
      | inr there ↦ agrees.known key entry there
    ];
    past = λ key entry is. elim (found_as records cell ext (stamp_in library cell) key entry is) [
      | inl here ↦
          let stamp : stamp_in library cell ≡ entry.stamp = ap (λ (e : ExtEntry). e.stamp) here.1 in
          let same : stamp_in library key ≡ stamp_in library cell = ap (stamp_in library) here.0 in
          omega arith
      | inr there ↦ agrees.past key entry there
    ];
    now = λ key entry is stamp. elim (found_as records cell ext (stamp_in library cell) key entry is) [
      | inl here ↦
          subst (λ (at : ℕ). IsRecordNow (seen library) at entry.ext) (sym here.0)
          (subst (λ (e : ExtEntry). IsRecordNow (seen library) cell e.ext) here.1 now)
      | inr there ↦ agrees.now key entry there stamp
    ];
    serials = λ key entry is. elim (found_as records cell ext (stamp_in library cell) key entry is) [
      | inl here ↦
          let serial : next_serial records.made ≡ entry.serial = ap (λ (e : ExtEntry). e.serial) here.1 in
          omega (arith, serial)
      | inr there ↦ omega (arith, agrees.serials key entry there, serial_keeps records.made)
    ];
  }

  -- The cell is not dirty then.
  pub clean_made : is_dirty library (with_record records cell ext (stamp_in library cell)) cell ≡ false
  clean_made =
      ap (λ (found : Option ExtEntry). is_stale found (stamp_in library cell)) (found_here records cell ext (stamp_in library cell))
      ∙ fresh (entry_made records cell ext (stamp_in library cell)) (stamp_in library cell) refl

-- A cell that is not dirty has a record, which is that of the cell as it is.
pub kept_clean : (library : LibraryParts) (records : Records) (cell : ℕ) → Agrees library records → is_dirty library records cell ≡ false
    → (ext : ArrayExt) × ((record_in records cell ≡ Some ext) × IsRecordNow (seen library) cell ext)
kept_clean library records cell agrees clean = go (entry_in records cell) refl clean
  where
    go : (found : Option ExtEntry) → entry_in records cell ≡ found → is_stale found (stamp_in library cell) ≡ false
        → (ext : ArrayExt) × ((record_in records cell ≡ Some ext) × IsRecordNow (seen library) cell ext)
    go None is clean = absurd (cc clean)
    go (Some entry) is clean = (
      entry.ext,
      (
        ap (λ (found : Option ExtEntry). option_map (λ (e : ExtEntry). e.ext) found) is,
        agrees.now cell entry is (stamp_of_fresh entry (stamp_in library cell) clean),
      ),
    )
