-- The nodes and the transistors of a cell's own layout are lawful in the record of the cell.
use Rattle.lawful_trees.proofs.Common.{◌≡◌, ◌<◌, ◌≤◌, ℕ, ℤ, pos, IsTrue, List, [], map, length, inl, sym, ◌∙◌, ap, subst, arith, All, ints}
use Rattle.lawful_trees.proofs.Common.{length-map, In, Distinct, All-from_In, All-In, Covers, ClassRec, RawTech, IsWellFormed, IsClass, CellExt}
use Rattle.lawful_trees.proofs.Common.{is_word, is_node_name, HasTypesOf, Layout, IsMaterial, Place, class_of, material_along}
use Rattle.std.proofs.Common.{◌*◌, ◌^◌, get_or}
use Rattle.std.specs.Int.{w32}
use Rattle.std.specs.Int.RustNames.{FitsSigned}
use Rattle.finite_sets.proofs.Members.{In-get_or, In-index}
use Rattle.finite_sets.proofs.Images.{In-flat_map}
use Rattle.tech_model.specs.declared.raw.Label.{Label}
use Rattle.ext_model.specs.declared.limits.TheConstants.{MOST_CLASSES}
use Rattle.ext_model.specs.declared.records.NodeRec.{NodeRec}
use Rattle.ext_model.specs.declared.records.FetRec.{FetRec}
use Rattle.ext_model.specs.Lawful.{IsLawfulNode, IsLawfulFet}
use Rattle.ext_model.specs.RecordNames.{names_of, node_names}
use Rattle.group_meetings.specs.LayoutModel.Transistors.{Transistor}
use Rattle.group_meetings.specs.CellPaint.Painting.{paint_range}
use Rattle.library_trees.specs.Measures.Bounds.{IsSmallMeasure}
use Rattle.library_trees.proofs.Measures.BoundLaws.{measures_are_small}
use Rattle.library_trees.specs.Names.NamedNodes.{AreOneNamedNode}
use Rattle.library_trees.specs.CellNodes.NodeRecords.{AreNodeRecords, IsNodeRecord}
use Rattle.library_trees.specs.TreeRecords.FetRecords.{AreFetRecords, IsNodeBefore, IsOfNode}
use Rattle.library_trees.specs.TreeRecords.OwnRecords.{class_values}
use Rattle.library_trees.proofs.OwnRecordLaws.LawfulFets.{fet_is_lawful}
use Rattle.library_trees.proofs.OwnRecordLaws.NameForms.{type_word, name_form}
use Rattle.library_trees.proofs.OwnRecordLaws.NamesDiffer.{names_differ}
use Rattle.library_trees.proofs.OwnRecordLaws.NodeSizes.{measure_from, near_place, paint_x, paint_y, capacitance_small, record_measures}
use Rattle.library_trees.proofs.OwnRecordLaws.PreferredNames.{recorded, in_some, goes_by}

-- a record has no more values than a technology may have classes
pub class_limit : (raw : RawTech) → IsWellFormed raw → (values : List ℕ) → values ≡ class_values raw → length values ≤ MOST_CLASSES
class_limit raw well values are =
    let limit = well.classes_limit in
    omega (arith, ap length are ∙ length-map raw.classes (λ (class : ClassRec). class.value), limit)

module _ (raw : RawTech) (layout : Layout) (labels : List Label) (ext : CellExt) (well : IsWellFormed raw) (typed : HasTypesOf raw layout)
    (range : (place : Place) → IsMaterial layout place → Covers paint_range place.square) (values : ext.classes ≡ class_values raw)
    (nodes : AreNodeRecords raw layout labels ext.nodes)
    (fets : AreFetRecords raw layout labels (IsNodeBefore raw layout labels) ext.fets) where
  -- there is a value for each class
  pub class_count : length ext.classes ≡ length raw.classes
  class_count = ap length values ∙ length-map raw.classes (λ (class : ClassRec). class.value)

  -- what a node measures is small
  small_measures : (least : Place) (node : NodeRec) → IsNodeRecord raw layout labels least node → All IsSmallMeasure node.measures
  small_measures least node is =
      measures_are_small (map class_of raw.classes) layout (AreOneNamedNode raw layout labels least) node.measures
      (λ place joined. near_place raw layout well typed range place (material_along raw layout labels well joined is.material)) is.measures

  -- the record of a node is lawful
  lawful_node : (least : Place) (node : NodeRec) → IsNodeRecord raw layout labels least node → IsLawfulNode (length ext.classes) node
  lawful_node least node is =
      let type = (typed least is.material).0 in
      let covers = range least is.material in
      let small : (measure : ℤ × ℤ) → In measure node.measures → IsSmallMeasure measure = λ measure here.
      All-In IsSmallMeasure node.measures measure (small_measures least node is) here in
      let cap = capacitance_small raw raw.classes node.measures (λ class here. All-In (IsClass raw) raw.classes class well.classes here) small in
      let few = well.classes_limit in
      let most = cap.1 in
      let value = is.cap in
      record {
        names = All-from_In (λ (word : List ℕ). IsTrue (is_node_name word)) (names_of node)
            (λ word here. name_form raw well layout labels least word type (is.names.2 word here));
        kind = subst (λ (text : List ℕ). IsTrue (is_word text)) (sym is.kind) (type_word raw well (layout least) type);
        cap = measure_from node.cap (16 * 2 ^ 84) (omega (arith, ints, value, cap.0)) (omega (arith, ints, value, most, few)) (omega arith);
        x = subst (FitsSigned w32) (sym is.x) (paint_x least covers).fits;
        y = subst (FitsSigned w32) (sym is.y) (paint_y least covers).fits;
        measures = record_measures raw layout (AreOneNamedNode raw layout labels least) node.measures ext.classes class_count is.measures small;
      }

  -- what the node of a place goes by is a name of the record
  pub among : (by : List ℕ) (place : Place) → IsOfNode raw layout labels by place → In by (node_names ext)
  among by place is =
      let some = in_some raw layout labels ext.nodes nodes place is.material in
      let named = goes_by raw layout labels ext.nodes nodes by place is some in
      In-flat_map names_of some.node by ext.nodes some.listed (inl named)

  -- the record of a transistor is lawful
  lawful_fet : (made : FetRec) → In made ext.fets → IsLawfulFet ext made
  lawful_fet made here =
      let at = In-index made ext.fets here in
      let long = fets.one_each in
      let below = at.1.0 in
      let inside : at.0 < length fets.found = omega (arith, below, long) in
      let origin : Place = record { plane = 0; square = record { x = pos 0; y = pos 0 } } in
      let none : Transistor (List ℕ) = record { kind = 0; least = origin; area = pos 0; perimeter = pos 0; gate = []; terminals = [] } in
      let fet = get_or fets.found at.0 none in
      subst (IsLawfulFet ext) (at.1.1 made)
      (fet_is_lawful raw layout labels well typed range ext among fet (get_or ext.fets at.0 made)
      (fets.transistors.sound fet (In-get_or fets.found at.0 none inside)) (fets.each at.0 none made inside))

  -- the records of nodes are lawful
  pub lawful_nodes : All (IsLawfulNode (length ext.classes)) ext.nodes
  lawful_nodes =
      All-from_In (IsLawfulNode (length ext.classes)) ext.nodes
      (λ node here. (let at = recorded raw layout labels ext.nodes nodes node here in lawful_node at.least node at.is))

  -- and so are those of transistors
  pub lawful_fets : All (IsLawfulFet ext) ext.fets
  lawful_fets = All-from_In (IsLawfulFet ext) ext.fets lawful_fet

  -- no two nodes share a name
  pub node_names_apart : Distinct (node_names ext)
  node_names_apart = names_differ raw layout labels well typed ext.nodes nodes
