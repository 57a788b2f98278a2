-- Uses lead from the root of a clean tree to cells of the tree alone, so lists with the tree's records agree on all that is reached.
use Rattle.extract_commands.proofs.Common.{◌≡◌, ℕ, List, [], map, inl, inr, refl, sym, ap, ◌∙◌, subst, In, KeepsRules, IsWellFormed, CellExt}
use Rattle.extract_commands.proofs.Common.{NamedTree, own_body, IsCleanTree}
use Rattle.std.specs.Prelude.{Some}
use Rattle.finite_sets.specs.Chain.Chain.{stay, go}
use Rattle.layout_gen.specs.CellLibrary.TechModel.declared.raw.RawTech.{RawTech}
use Rattle.ext_model.specs.declared.records.UseRec.{UseRec}
use Rattle.geo_core.specs.Images.{identity}
use Rattle.circuit_model.specs.Elements.{ext_of}
use Rattle.uniqueness.specs.LibraryTrees.TreeRecords.NamedTrees.{NamedElements}
use Rattle.uniqueness.specs.LibraryTrees.TreeRecords.NamedTrees.NamedTree.{named_tree}
use Rattle.uniqueness.specs.LibraryTrees.TreeRecords.NamedTrees.NamedElements.{element_then, no_more}
use Rattle.uniqueness.specs.LibraryTrees.TreeRecords.TreeRecords.{HasTreeRecords, HaveTreeRecords, use_records}
use Rattle.uniqueness.proofs.LibraryTrees.TreeNames.CleanTrees.{AreCleanTrees, clean_below, clean_first, clean_rest}
use Rattle.uniqueness.specs.RecordUniqueness.{IsFoundInBoth, RecordsOfTreesAreUnique}
use Rattle.uniqueness.specs.FlatCircuits.{AgreeBelow, UsesName}

-- the names of the cells that uses lead to
abbrev used_names : List UseRec → List (List ℕ)
used_names uses = map (λ used. used.cell) uses

module _ (raw : RawTech) (exts others : List CellExt) where
  -- The name is that of a clean tree, of which both lists have the records.
  pub record IsRecorded (name : List ℕ) : Type 0 where
    pub tree : NamedTree
    pub clean : IsCleanTree raw tree
    pub here : HasTreeRecords raw exts tree
    pub there : HasTreeRecords raw others tree
    pub named : (own_body tree).name ≡ name

  -- what elements are named in a record is recorded too
  elements_recorded : (elements : NamedElements) → AreCleanTrees raw elements → HaveTreeRecords raw exts elements
      → HaveTreeRecords raw others elements → (name : List ℕ) → In name (used_names (use_records elements)) → IsRecorded name
  elements_recorded no_more clean p q name none = absurd none
  elements_recorded (element_then id placed tree rest) clean p q name (inl same) =
      record { tree = tree; clean = clean_first raw id placed tree rest clean; here = p.0; there = q.0; named = same }
  elements_recorded (element_then id placed tree rest) clean p q name (inr later) =
      elements_recorded rest (clean_rest raw id placed tree rest clean) p.1 q.1 name later

  -- and so is what the record of a tree uses
  used_recorded : (tree : NamedTree) → IsCleanTree raw tree → HasTreeRecords raw exts tree → HasTreeRecords raw others tree
      → (ext : CellExt) (name : List ℕ) → ext_of exts (own_body tree).name ≡ Some ext → In name (used_names ext.uses) → IsRecorded name
  used_recorded (named_tree own elements) clean p q ext name found used =
      let top = p.0 in
      let same : ext ≡ top.ext = let first = found in let other = top.found in cc in
      let uses : ext.uses ≡ use_records elements = ap (λ (one : CellExt). one.uses) same ∙ top.is.uses in
      elements_recorded elements (clean_below raw own elements clean) p.1 q.1 name
      (subst (λ (all : List UseRec). In name (used_names all)) uses used)

  -- so a use leads from what is recorded to what is
  next_recorded : (cell name : List ℕ) → IsRecorded cell → UsesName exts cell name → IsRecorded name
  next_recorded cell name is (ext, found, used) =
      used_recorded is.tree is.clean is.here is.there ext name (ap (ext_of exts) is.named ∙ found) used

  module _ (one_each : RecordsOfTreesAreUnique) (well : IsWellFormed raw) (rules : KeepsRules raw) where
    -- both lists have one record of the cell at the top
    top_found : (tree : NamedTree) → IsCleanTree raw tree → HasTreeRecords raw exts tree → HasTreeRecords raw others tree
        → IsFoundInBoth exts others (own_body tree).name
    top_found (named_tree own elements) clean p q =
        one_each raw (named_tree own elements) exts others well rules clean p q (record { ids = []; placed = identity; own = own }) (inl refl)

    -- and of each that is reached from it
    pub agree_below : (root : List ℕ) → IsRecorded root → AgreeBelow exts others root
    agree_below root is cell stay =
        let both = subst (IsFoundInBoth exts others) is.named (top_found is.tree is.clean is.here is.there) in
        both.here ∙ sym both.there
    agree_below root is cell (go {b = next} step rest) = agree_below next (next_recorded root next is step) cell rest
