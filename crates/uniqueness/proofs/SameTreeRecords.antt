-- A clean cell has one record, and so has each cell below it.
use Rattle.uniqueness.proofs.Common.{◌≡◌, List, map, inl, inr, sym, ◌∙◌, ap, subst, Some, In, In-map_source, RawTech, KeepsRules, IsWellFormed}
use Rattle.uniqueness.proofs.Common.{CellExt, IsCleanTree, NamedTree, named_tree, element_then, no_more}
use Rattle.finite_sets.proofs.Members.{In-append_cases}
use Rattle.uniqueness.proofs.SameFets.{fet_records_are_one}
use Rattle.uniqueness.proofs.SameNodes.{same_nodes}
use Rattle.tree_circuits.specs.TreeNames.TreeRecords.NamedTrees.{NamedElements, NamedStanding, named_above, named_standings, named_standings_below}
use Rattle.tree_circuits.specs.TreeNames.TreeRecords.NamedTrees.{own_body}
use Rattle.tree_circuits.specs.TreeRecords.TreeRecords.{HasTreeRecord, HasTreeRecords, HaveTreeRecords}
use Rattle.tree_circuits.proofs.TreeNames.CleanTrees.{AreCleanTrees, clean_below, clean_first, clean_rest}
use Rattle.uniqueness.specs.RecordUniqueness.{IsFoundInBoth, RecordsOfTreesAreUnique, TreeRecordsAreUnique}
use Rattle.uniqueness.proofs.SameMerges.{same_merges}

pub tree_records_are_one : TreeRecordsAreUnique
tree_records_are_one raw tree ext other well rules clean p q =
    let own = own_body tree in
    let cell : ext.cell ≡ other.cell = p.cell ∙ sym q.cell in
    let tech : ext.tech ≡ other.tech = p.tech ∙ sym q.tech in
    let classes : ext.classes ≡ other.classes = p.classes ∙ sym q.classes in
    let uses : ext.uses ≡ other.uses = p.uses ∙ sym q.uses in
    let nodes : ext.nodes ≡ other.nodes = same_nodes raw own.layout own.labels ext.nodes other.nodes p.nodes q.nodes in
    let fets : ext.fets ≡ other.fets = (fet_records_are_one raw own.layout own.labels ext.fets other.fets well).0 p.fets q.fets in
    let merges : ext.merges ≡ other.merges = same_merges raw well rules tree clean ext.merges other.merges p.merges q.merges in
    (λ i. record {
      cell = cell i;
      tech = tech i;
      classes = classes i;
      uses = uses i;
      nodes = nodes i;
      fets = fets i;
      merges = merges i;
    })

module _ (raw : RawTech) (well : IsWellFormed raw) (rules : KeepsRules raw) (exts others : List CellExt) where
  -- both lists have the cell's record
  same_found : (tree : NamedTree) → IsCleanTree raw tree → HasTreeRecord raw exts tree → HasTreeRecord raw others tree
      → IsFoundInBoth exts others (own_body tree).name
  same_found tree clean p q =
      let same : p.ext ≡ q.ext = tree_records_are_one raw tree p.ext q.ext well rules clean p.is q.is in
      record { ext = p.ext; here = p.found; there = q.found ∙ ap (λ (ext : CellExt). Some ext) (sym same) }

  mutual
    -- and that of each cell that stands below it
    found_at : (tree : NamedTree) → IsCleanTree raw tree → HasTreeRecords raw exts tree → HasTreeRecords raw others tree
        → (standing : NamedStanding) → In standing (named_standings tree) → IsFoundInBoth exts others standing.own.name
    found_at (named_tree own elements) clean p q standing (inl same) =
        subst (λ (s : NamedStanding). IsFoundInBoth exts others s.own.name) same (same_found (named_tree own elements) clean p.0 q.0)
    found_at (named_tree own elements) clean p q standing (inr later) =
        found_below elements (clean_below raw own elements clean) p.1 q.1 standing later

    found_below : (elements : NamedElements) → AreCleanTrees raw elements → HaveTreeRecords raw exts elements → HaveTreeRecords raw others elements
        → (standing : NamedStanding) → In standing (named_standings_below elements) → IsFoundInBoth exts others standing.own.name
    found_below no_more clean p q standing none = absurd none
    found_below (element_then id placed tree rest) clean p q standing here =
        elim (In-append_cases standing (map (named_above id placed) (named_standings tree)) (named_standings_below rest) here) [
          | inl within ↦
              let source = In-map_source (named_above id placed) standing (named_standings tree) within in
              subst (λ (s : NamedStanding). IsFoundInBoth exts others s.own.name) source.1.1
              (found_at tree (clean_first raw id placed tree rest clean) p.0 q.0 source.0 source.1.0)
          | inr later ↦ found_below rest (clean_rest raw id placed tree rest clean) p.1 q.1 standing later
        ]

pub records_of_trees_are_one : RecordsOfTreesAreUnique
records_of_trees_are_one raw tree exts others well rules = found_at raw well rules exts others tree
