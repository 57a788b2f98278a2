-- The paths of the merges of a tree's records lead to nodes.
use Rattle.tree_circuits.proofs.Common.{◌≡◌, ℕ, Bool, true, false, cond, if◌then◌else◌, Option, None, List, ◌∷◌, ◌++◌, map, inl, inr, refl, sym, ◌∙◌}
use Rattle.tree_circuits.proofs.Common.{ap, subst, option_or, bytes_eq, cases_Bool, bytes_eq-Decides, In, Distinct, In-append_cases, In-map_source}
use Rattle.tree_circuits.proofs.Common.{In-flat_map, In-flat_map_source, first_some-none, list_any-of_In, Transform, RawTech, IsWellFormed, CellExt}
use Rattle.tree_circuits.proofs.Common.{MergeRec, slashes_in, names_of, Place, rules_of, place_back, FlatFault, ext_of}
use Rattle.std.proofs.Common.{Some, find}
use Rattle.geo_core.specs.Images.{six_of}
use Rattle.tree_names.specs.ExtModel.declared.names.TheConstants.{SLASH}
use Rattle.tree_names.specs.ExtModel.declared.records.UseRec.{UseRec}
use Rattle.tree_names.specs.ExtModel.RecordNames.{node_names}
use Rattle.tree_names.specs.CircuitModel.declared.faults.FlatFault.TheVariants.{NoPath}
use Rattle.tree_names.specs.CircuitModel.Refusals.{first_fault, leads, merge_fault, path_fault}
use Rattle.tree_circuits.proofs.NameClasses.PathLaws.{leads-name, leads-use}
use Rattle.tree_circuits.proofs.OwnRecordLaws.PreferredNames.{goes_by, in_some}
use Rattle.tree_circuits.specs.TreeRecords.MemberGroups.{IsGroupName, IsMemberAt, IsMemberBelow}
use Rattle.tree_circuits.specs.TreeRecords.NamedTrees.{NamedTree, NamedElements, NamedStanding, named_above, named_standings, named_standings_below, own_body}
use Rattle.tree_circuits.specs.TreeRecords.NamedTrees.NamedTree.{named_tree}
use Rattle.tree_circuits.specs.TreeRecords.NamedTrees.NamedElements.{no_more, element_then}
use Rattle.tree_circuits.specs.TreeRecords.Merges.{group_merges}
use Rattle.tree_circuits.specs.TreeRecords.TreeRecords.{HasTreeRecords, HaveTreeRecords, use_records}
use Rattle.tree_circuits.specs.TreeNames.CleanTrees.{IsCleanTree, ids_in}
use Rattle.tree_circuits.proofs.TreeNames.CleanTrees.{AreCleanTrees, clean_below, clean_first, clean_rest}
use Rattle.tree_circuits.proofs.TreeNames.GroupMerges.{merge_members}
use Rattle.tree_circuits.proofs.TreeNames.OwnNames.{goes_by_own, own_name_whole}
use Rattle.tree_circuits.proofs.TreeNames.TreeElements.{record_is, top_record}

-- a group has the member that it is named by
pub name_member : (raw : RawTech) (tree : NamedTree) (place : Place) (name : List ℕ) → IsGroupName raw tree place name
    → (other : Place) × IsMemberAt raw tree other name
name_member raw (named_tree own elements) place name is = (is.0.0, is.0.2)

-- the use of an element
abbrev use_for : List ℕ → Transform → NamedTree → UseRec
use_for id transform tree = record { cell = (own_body tree).name; id = id; six = six_of transform }

module _ (raw : RawTech) (formed : IsWellFormed raw) (exts : List CellExt) where
  -- The path begins with the name of an element, and what is behind it leads from that element's cell to a node.
  record LeadsOn (elements : NamedElements) (path : List ℕ) : Type 0 where
    id : List ℕ
    behind : List ℕ
    text : path ≡ id ++ SLASH ∷ behind
    whole : slashes_in id ≡ 0
    listed : In id (ids_in elements)
    used : UseRec
    found : find (λ used. bytes_eq used.id id) (use_records elements) ≡ Some used
    child : CellExt
    has : ext_of exts used.cell ≡ Some child
    on : leads (slashes_in behind) exts child behind ≡ true

  -- one more element
  on_later : (first : List ℕ) (transform : Transform) (tree : NamedTree) (rest : NamedElements) (path : List ℕ)
      → (In first (ids_in rest) → ⊥) → LeadsOn rest path → LeadsOn (element_then first transform tree rest) path
  on_later first transform tree rest path apart next =
      let differs : bytes_eq first next.id ≡ false = elim (cases_Bool (bytes_eq first next.id)) [
        | inl same ↦ absurd (apart (subst (λ (id : List ℕ). In id (ids_in rest))
            (sym ((bytes_eq-Decides first next.id).0 same)) next.listed))
        | inr differs ↦ differs
      ] in
      record {
        id = next.id;
        behind = next.behind;
        text = next.text;
        whole = next.whole;
        listed = inr next.listed;
        used = next.used;
        found =
            ap (λ (t : Bool). cond t (Some (use_for first transform tree))
            (find (λ used. bytes_eq used.id next.id) (use_records rest))) differs
            ∙ next.found;
        child = next.child;
        has = next.has;
        on = next.on;
      }

  mutual
    -- the name of a member leads to a node
    pub member_leads : (tree : NamedTree) (ext : CellExt) → HasTreeRecords raw exts tree → IsCleanTree raw tree
        → ext_of exts (own_body tree).name ≡ Some ext → (place : Place) (member : List ℕ) → IsMemberAt raw tree place member
        → leads (slashes_in member) exts ext member ≡ true
    member_leads (named_tree own elements) ext has is found place member (inl here) =
        let of = record_is raw exts (named_tree own elements) ext has.0 found in
        let whole = own_name_whole raw formed own is.typed.0 place member (goes_by_own raw own place member here) in
        let some = in_some raw own.layout own.labels ext.nodes of.nodes place here.material in
        let name = goes_by raw own.layout own.labels ext.nodes of.nodes member place here some in
        leads-name exts ext member whole
        ∙ list_any-of_In bytes_eq bytes_eq-Decides member (node_names ext) (In-flat_map names_of some.node member ext.nodes some.listed (inl name))
    member_leads (named_tree own elements) ext has is found place member (inr below) =
        let of = record_is raw exts (named_tree own elements) ext has.0 found in
        let next = member_leads_on elements has.1 (clean_below raw own elements is) is.names.0 place member below in
        let first = subst (λ (uses : List UseRec). find (λ used. bytes_eq used.id next.id) uses ≡ Some next.used)
        (sym of.uses) next.found in
        leads-use exts ext member next.id next.behind (record { text = next.text; whole = next.whole }) next.used next.child first next.has
        ∙ next.on

    -- and that of a member below
    member_leads_on : (elements : NamedElements) → HaveTreeRecords raw exts elements → AreCleanTrees raw elements
        → Distinct (ids_in elements)
        → (place : Place) (member : List ℕ) → IsMemberBelow raw elements place member → LeadsOn elements member
    member_leads_on no_more have are differ place member none = absurd none
    member_leads_on (element_then id placed tree rest) have are differ place member (inl here) =
        let top = top_record raw exts tree have.0 in
        let at = name_member raw tree (place_back placed place) here.0 here.1 in
        record {
          id = id;
          behind = here.0;
          text = here.2;
          whole = are.names.0;
          listed = inl refl;
          used = use_for id placed tree;
          found = ap (λ (t : Bool). cond t (Some (use_for id placed tree)) (find (λ used. bytes_eq used.id id) (use_records rest)))
              ((bytes_eq-Decides id id).1 refl);
          child = top.ext;
          has = top.found;
          on = member_leads tree top.ext have.0 (clean_first raw id placed tree rest are) top.found at.0 here.0 at.1;
        }
    member_leads_on (element_then id placed tree rest) have are differ place member (inr later) =
        on_later id placed tree rest member differ.0
        (member_leads_on rest have.1 (clean_rest raw id placed tree rest are) differ.1 place member later)

  -- a path that leads to a node has no fault
  no_path_fault : (ext : CellExt) (path : List ℕ) → leads (slashes_in path) exts ext path ≡ true → path_fault exts ext path ≡ None
  no_path_fault ext path on = ap (λ (t : Bool). if t then None else Some (NoPath ext.cell path)) on

  -- the merges of a cell's record have no fault
  no_merge_fault : (tree : NamedTree) (ext : CellExt) → HasTreeRecords raw exts tree → IsCleanTree raw tree
      → ext_of exts (own_body tree).name ≡ Some ext → (merge : MergeRec) → In merge ext.merges → merge_fault exts ext merge ≡ None
  no_merge_fault tree ext has is found merge listed =
      let merges = (record_is raw exts tree ext (top_record raw exts tree has) found).merges in
      let source = In-flat_map_source (group_merges (rules_of raw).classes) merge merges.groups (subst (In merge) merges.are listed) in
      let joins = merge_members (rules_of raw).classes source.0.adjustment source.0.members merge source.1.1 in
      let group = merges.sound source.0 source.1.0 in
      let first = (group.members merge.first).0 joins.first in
      let second = (group.members merge.second).0 joins.second in
      ap (λ (fault : Option FlatFault). option_or fault (path_fault exts ext merge.second))
      (no_path_fault ext merge.first (member_leads tree ext has is found first.0 merge.first first.2))
      ∙ no_path_fault ext merge.second (member_leads tree ext has is found second.0 merge.second second.2)

  mutual
    -- the merges of all records of the tree have no fault
    pub no_merges_fault : (tree : NamedTree) → HasTreeRecords raw exts tree → IsCleanTree raw tree
        → (standing : NamedStanding) (ext : CellExt) → In standing (named_standings tree) → ext_of exts standing.own.name ≡ Some ext
        → first_fault (merge_fault exts ext) ext.merges ≡ None
    no_merges_fault (named_tree own elements) has is standing ext (inl same) found =
        let P : NamedStanding → Type 0 = λ s. ext_of exts s.own.name ≡ Some ext in
        first_some-none (merge_fault exts ext) ext.merges (no_merge_fault (named_tree own elements) ext has is (subst P (sym same) found))
    no_merges_fault (named_tree own elements) has is standing ext (inr below) found =
        no_merges_fault_below elements has.1 (clean_below raw own elements is) standing ext below found

    no_merges_fault_below : (elements : NamedElements) → HaveTreeRecords raw exts elements → AreCleanTrees raw elements
        → (standing : NamedStanding) (ext : CellExt) → In standing (named_standings_below elements)
        → ext_of exts standing.own.name ≡ Some ext
        → first_fault (merge_fault exts ext) ext.merges ≡ None
    no_merges_fault_below no_more have are standing ext none found = absurd none
    no_merges_fault_below (element_then id placed tree rest) have are standing ext here found =
        elim (In-append_cases standing (map (named_above id placed) (named_standings tree)) (named_standings_below rest) here) [
          | inl mine ↦
              let source = In-map_source (named_above id placed) standing (named_standings tree) mine in
              let P : NamedStanding → Type 0 = λ s. ext_of exts s.own.name ≡ Some ext in
              no_merges_fault tree have.0 (clean_first raw id placed tree rest are) source.0 ext source.1.0 (subst P (sym source.1.1) found)
          | inr later ↦ no_merges_fault_below rest have.1 (clean_rest raw id placed tree rest are) standing ext later found
        ]
