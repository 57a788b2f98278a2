-- A record that is put together of a cell's own paint, its uses and its merges is the cell's.
use Rattle.ext_cache.proofs.Common.{◌≡◌, ◌==◌, ◌∙◌, ℕ, ◌<◌, Bool, true, List, [], ◌∷◌, length, refl, sym, ap, subst, arith, nat_tests, RawTech}
use Rattle.ext_cache.proofs.Common.{IsOwnRecord, IsLawfulLibrary, LibraryParts, seen, LibraryView, view_at, IsCleanCell, MadeRecord, IsRecordNow}
use Rattle.std.specs.List.{flat_map}
use Rattle.geo_core.specs.declared.squares.Rect.{Rect}
use Rattle.tech_model.specs.declared.raw.Label.{Label}
use Rattle.tree_merges.specs.LayoutModel.Layouts.{Layout}
use Rattle.cell_records.specs.TreeRecords.FetRecords.{AreFetRecords, IsNodeBefore}
use Rattle.cell_records.specs.CellNodes.NodeRecords.{AreNodeRecords}
use Rattle.tree_merges.specs.TreeRecords.NamedTrees.{OwnBody, named_elements_in, own_body}
use Rattle.tree_merges.specs.TreeRecords.Merges.{AreGroupMerges}
use Rattle.tree_merges.specs.TreeRecords.TreeRecords.{use_records}
use Rattle.tree_merges.specs.ElementPaths.LibraryTrees.NamedCells.{named_tree_at, own_body_of}
use Rattle.lawful_trees.specs.Laws.{RecordIsLawful}
use Rattle.ext_model.specs.declared.records.CellExt.{CellExt}
use Rattle.ext_model.specs.declared.records.MergeRec.{MergeRec}
use Rattle.ext_model.specs.Plain.{plain_uses}
use Rattle.ext_model.specs.Rows.{AreRowsOf}
use Rattle.tree_merges.specs.ElementPaths.LibraryTrees.CellRecords.{IsRecordOf, library_uses}
use Rattle.tree_merges.proofs.ElementPaths.RecordLaws.{uses_are_elements}
use Rattle.cell_records.specs.declared.records.CellRecord.{CellRecord}
use Rattle.tree_merges.specs.declared.relating.Related.{Related}
use Rattle.tree_merges.proofs.CellMerges.{body_at}
use Rattle.ext_cache.specs.steps.MadeRecords.{IsMadeOf}

-- an own record stays one, along equations
pub own_record_of : (raw other : RawTech) (layout there : Layout) (labels words : List Label) (name text : List ℕ) (ext : CellExt) → raw ≡ other
    → layout ≡ there → labels ≡ words → name ≡ text → IsOwnRecord raw layout labels name ext → IsOwnRecord other there words text ext
own_record_of raw other layout there labels words name text ext same_raw same_layout same_labels same_name is =
    subst (λ (r : RawTech). IsOwnRecord r there words text ext) same_raw
    (subst (λ (l : Layout). IsOwnRecord raw l words text ext) same_layout
    (subst (λ (w : List Label). IsOwnRecord raw layout w text ext) same_labels
    (subst (λ (n : List ℕ). IsOwnRecord raw layout labels n ext) same_name is)))

-- a list that is found to be empty is
pub found_empty : (strips items : List (ℕ × Rect)) (empty : Bool) → items ≡ strips → empty ≡ (length items == 0) → empty ≡ true → strips ≡ []
found_empty [] items empty same is holds = refl
found_empty (strip ∷ strips) items empty same is holds = absurd (grind (arith, nat_tests, ap length same))

module _ (view : LibraryView) (cell : ℕ) (own : CellRecord) (related : Related) (made : MadeRecord)
    (is_own : IsOwnRecord view.tech (view_at view cell).own (view_at view cell).labels (view_at view cell).name own.ext)
    (is_made : IsMadeOf view cell own related made) where
  -- the record has the cell's uses, and its merges in rows, so it is the record of the cell
  pub made_is_of_cell : flat_map plain_uses (library_uses view cell) ≡ use_records (named_elements_in (named_tree_at view cell))
      → (merges : List MergeRec) → AreGroupMerges view.tech (named_tree_at view cell) merges → AreRowsOf merges related.merges
      → IsRecordOf view cell made.ext
  made_is_of_cell elements merges are rows =
      let there : OwnBody = own_body (named_tree_at view cell) in
      let body : own_body_of view cell ≡ there = sym (body_at view cell) in
      let Nodes : OwnBody → Type 0 = λ own_of. AreNodeRecords view.tech own_of.layout own_of.labels own.ext.nodes in
      let Fets : OwnBody → Type 0 =
      λ own_of. AreFetRecords view.tech own_of.layout own_of.labels (IsNodeBefore view.tech own_of.layout own_of.labels) own.ext.fets in
      subst (IsRecordOf view cell) (sym is_made.ext)
      (record {
        means = record {
          cell = is_own.cell ∙ ap (λ (own : OwnBody). own.name) body;
          tech = is_own.tech;
          classes = is_own.classes;
          uses = elements;
          nodes = subst Nodes body is_own.nodes;
          fets = subst Fets body is_own.fets;
          merges = subst (AreGroupMerges view.tech (named_tree_at view cell)) (sym rows.are) are;
        };
        uses = refl;
        merges = record { each = rows.each; are = refl; longest = rows.longest };
      })

-- Where the cell is clean, that is its record now.
pub made_is_now : (library : LibraryParts) (cell : ℕ) (own : CellRecord) (related : Related) (made : MadeRecord)
    → IsLawfulLibrary library → cell < length library.contents → RecordIsLawful library cell → IsCleanCell (seen library) cell
    → IsOwnRecord library.tech (view_at (seen library) cell).own (view_at (seen library) cell).labels (view_at (seen library) cell).name own.ext
    → ((merges : List MergeRec) × AreGroupMerges library.tech (named_tree_at (seen library) cell) merges × AreRowsOf merges related.merges)
    → IsMadeOf (seen library) cell own related made → IsRecordNow (seen library) cell made.ext
made_is_now library cell own related made lawful below law clean is_own merges is_made =
    let is : IsRecordOf (seen library) cell made.ext =
    made_is_of_cell (seen library) cell own related made is_own is_made (uses_are_elements library lawful cell below) merges.0 merges.1 merges.2 in
    record { clean = clean; is = is; lawful = law made.ext clean is }
