-- A clean cell of a library has one record.
use Rattle.uniqueness.proofs.Common.{◌≡◌, ℕ, List, sym, ◌∙◌, ap, subst, CellExt, MergeRec, IsLawfulLibrary, LibraryParts, seen}
use Rattle.ext_model.specs.Plain.{plain}
use Rattle.ext_model.specs.Rows.{AreRowsOf}
use Rattle.merge_rows.proofs.UniqueRows.{rows_unique}
use Rattle.edit_script.specs.CellLibrary.LayoutModel.FlatSets.{IsTyped}
use Rattle.edit_script.specs.CellLibrary.LayoutTrees.{tree_at}
use Rattle.uniqueness.proofs.SameTreeRecords.{tree_records_are_one}
use Rattle.library_trees.specs.NamedCells.{named_tree_at}
use Rattle.library_trees.proofs.CleanTrees.{clean_tree}
use Rattle.uniqueness.specs.LibraryRecords.{RecordIsUnique}

-- the record of a cell whose types are the technology's
pub one_record : (library : LibraryParts) → IsLawfulLibrary library → (cell : ℕ) → IsTyped library.tech (tree_at (seen library) cell)
    → RecordIsUnique library cell
one_record library lawful cell typed ext other clean p q =
    let says : plain ext ≡ plain other =
    tree_records_are_one library.tech (named_tree_at (seen library) cell) (plain ext) (plain other) lawful.well_formed lawful.rules
    (clean_tree library lawful cell typed clean) p.means q.means in
    let uses : ext.uses ≡ other.uses = p.uses ∙ sym q.uses in
    let merges : ext.merges ≡ other.merges =
    rows_unique (plain other).merges ext.merges other.merges
    (subst (λ (merges : List MergeRec). AreRowsOf merges ext.merges) (ap (λ (e : CellExt). e.merges) says) p.merges) q.merges in
    (λ i. record {
      cell = (says i).cell;
      tech = (says i).tech;
      classes = (says i).classes;
      uses = uses i;
      nodes = (says i).nodes;
      fets = (says i).fets;
      merges = merges i;
    })
