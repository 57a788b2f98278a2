-- The records of the cells of a library are lawful.
use Rattle.lawful_trees.proofs.Common.{◌≡◌, ◌<◌, ◌≤◌, ℕ, List, map, length, IsTrue, sym, ap, subst, ◌∙◌, arith, All, length-map, In, Distinct}
use Rattle.lawful_trees.proofs.Common.{All-from_In, RawTech, CellExt, MergeRec, UseRec, is_word, IsLawfulUse, HasTypesOf, class_of, rules_of}
use Rattle.lawful_trees.proofs.Common.{CellTree, IsTyped, LibraryParts, IsLawfulLibrary, seen, NamedTree, layouts_of, named_elements_in, own_body}
use Rattle.lawful_trees.proofs.Common.{named_tree, IsCleanTree, ids_in, tree_parts}
use Rattle.finite_sets.proofs.Images.{In-flat_map_source}
use Rattle.ext_model.specs.declared.arrays.ArrayUse.{ArrayUse}
use Rattle.ext_model.specs.Lawful.{AreMeasures, IsLawful, IsLawfulMerge}
use Rattle.ext_model.specs.LawfulArrays.{IsArrayUse, IsLawfulArrayExt}
use Rattle.ext_model.specs.Plain.{plain}
use Rattle.group_meetings.specs.LayoutModel.FlatSets.{parts_in}
use Rattle.library_trees.specs.CellLibrary.LayoutTrees.{tree_at}
use Rattle.library_trees.proofs.CellLibrary.ElementCounts.{few_elements, part_count}
use Rattle.library_trees.specs.HierarchyModel.CleanCells.{IsClean}
use Rattle.library_trees.proofs.OwnRecordLaws.NameForms.{plain_word}
use Rattle.library_trees.specs.TreeRecords.Merges.{group_merges}
use Rattle.library_trees.specs.TreeRecords.TreeRecords.{IsTreeRecord}
use Rattle.library_trees.specs.TreeNames.CleanTrees.{HasElementNames}
use Rattle.library_trees.proofs.TreeNames.GroupMerges.{merge_members}
use Rattle.library_trees.specs.NamedCells.{named_tree_at}
use Rattle.library_trees.proofs.CleanTrees.{clean_tree}
use Rattle.library_trees.proofs.LayoutLaws.{layouts_of_cell}
use Rattle.library_trees.specs.CellRecords.{IsRecordOf}
use Rattle.lawful_trees.specs.Laws.{RecordIsLawful}
use Rattle.lawful_trees.proofs.LawfulMerges.{group_merge_small}
use Rattle.lawful_trees.proofs.LibraryElements.{forms_below, lawful_uses}
use Rattle.lawful_trees.proofs.LibraryUses.{array_uses}
use Rattle.lawful_trees.proofs.NearPlaces.{flat_is_near, own_in_range}
use Rattle.lawful_trees.proofs.OwnParts.{among, class_limit, lawful_fets, lawful_nodes, node_names_apart}
use Rattle.lawful_trees.proofs.TreePaths.{element_ids, member_path}

-- the types of the own layout are the technology's
own_typed : (raw : RawTech) (tree : NamedTree) → IsTyped raw (layouts_of tree) → HasTypesOf raw (own_body tree).layout
own_typed raw (named_tree own elements) typed = typed.0

-- the names of the elements of the cell differ
ids_differ : (tree : NamedTree) → HasElementNames tree → Distinct (ids_in (named_elements_in tree))
ids_differ (named_tree own elements) names = names.0

module _ (library : LibraryParts) (lawful : IsLawfulLibrary library) (cell : ℕ) (below : cell < length library.contents) where
  -- a cell has no more parts than elements may stand below it
  few_parts : length (parts_in library.tech (tree_at (seen library) cell)) ≤ 1000000
  unfolding tree_at
  few_parts = omega (arith, part_count library.tech (seen library) 63 cell, few_elements library lawful cell below)

  module _ (typed : IsTyped library.tech (tree_at (seen library) cell)) (clean : IsClean library.tech (tree_at (seen library) cell)) (ext : CellExt)
      (is : IsTreeRecord library.tech (named_tree_at (seen library) cell) ext) where
    -- the cell with what stands below it
    abbrev tree : NamedTree
    tree = named_tree_at (seen library) cell

    -- its layouts
    layouts_are : layouts_of tree ≡ tree_at (seen library) cell
    layouts_are = layouts_of_cell (seen library) cell

    -- it is clean
    is_clean : IsCleanTree library.tech tree
    is_clean = clean_tree library lawful cell typed clean

    -- there is a value for each class
    classes_are : length (rules_of library.tech).classes ≡ length ext.classes
    classes_are =
        length-map library.tech.classes class_of
        ∙ sym (ap length is.classes ∙ length-map library.tech.classes (λ class. class.value))

    -- and has few parts
    few : length (tree_parts library.tech tree) ≤ 1000000
    few = subst (λ (t : CellTree). length (parts_in library.tech t) ≤ 1000000) (sym layouts_are) few_parts

    -- a merge of the record is lawful
    lawful_merge : (merge : MergeRec) → In merge ext.merges → IsLawfulMerge ext merge
    lawful_merge merge listed =
        let raw = library.tech in
        let formed = lawful.well_formed in
        let merges = is.merges in
        let classes = (rules_of raw).classes in
        let source = In-flat_map_source (group_merges classes) merge merges.groups (subst (In merge) merges.are listed) in
        let group = merges.sound source.0 source.1.0 in
        let joins = merge_members classes source.0.adjustment source.0.members merge source.1.1 in
        let first = (group.members merge.first).0 joins.first in
        let second = (group.members merge.second).0 joins.second in
        let path = member_path raw formed tree ext is_clean.typed (forms_below library lawful cell) is.uses
        (among raw (own_body tree).layout (own_body tree).labels ext formed (own_typed raw tree is_clean.typed)
        (own_in_range library lawful cell tree layouts_are) is.classes is.nodes is.fets) in
        let small = group_merge_small raw formed lawful.rules tree is_clean (flat_is_near library lawful cell tree layouts_are is_clean.typed) few
        source.0 group merge source.1.1 in
        record {
          first = path first.0 merge.first first.2;
          second = path second.0 merge.second second.2;
          cap = small.cap;
          measures = subst (λ (count : ℕ). AreMeasures count merge.measures) classes_are small.measures;
        }

    -- and so is the record
    lawful_record : IsLawful ext
    lawful_record =
        let raw = library.tech in
        let formed = lawful.well_formed in
        let layout = (own_body tree).layout in
        let labels = (own_body tree).labels in
        let types = own_typed raw tree is_clean.typed in
        let range = own_in_range library lawful cell tree layouts_are in
        record {
          tech = subst (λ (text : List ℕ). IsTrue (is_word text)) (sym is.tech) (plain_word raw.name formed.name);
          classes = class_limit raw formed ext.classes is.classes;
          uses = subst (All IsLawfulUse) (sym is.uses) (lawful_uses library lawful cell below);
          nodes = lawful_nodes raw layout labels ext formed types range is.classes is.nodes is.fets;
          fets = lawful_fets raw layout labels ext formed types range is.classes is.nodes is.fets;
          merges = All-from_In (IsLawfulMerge ext) ext.merges lawful_merge;
          node_names_differ = node_names_apart raw layout labels ext formed types range is.classes is.nodes is.fets;
          element_names_differ = subst Distinct (element_ids (named_elements_in tree) ∙ ap (map (λ (used : UseRec). used.id)) (sym is.uses))
              (ids_differ tree is_clean.names);
        }

  -- the record of a cell whose types are the technology's
  pub record_lawful : IsTyped library.tech (tree_at (seen library) cell) → RecordIsLawful library cell
  record_lawful typed ext clean is = record {
    uses = All-from_In IsArrayUse ext.uses (λ used here. array_uses library lawful cell below used (subst (In used) is.uses here));
    rows = is.merges.each;
    plain = lawful_record typed clean (plain ext) is.means;
  }
