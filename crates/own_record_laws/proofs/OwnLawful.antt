-- The record of sound paint is lawful.
use Rattle.own_record_laws.proofs.Common.{◌≡◌, ◌<◌, ◌*◌, ◌^◌, ℕ, ℤ, pos, IsTrue, List, [], map, length, get_or, inl, sym, ◌∙◌, ap, subst, arith, w32}
use Rattle.own_record_laws.proofs.Common.{FitsSigned, ints, length-map, In, Distinct, In-get_or, In-index, All-from_In, All-In, In-flat_map, Covers}
use Rattle.own_record_laws.proofs.Common.{ClassRec, Label, RawTech, IsWellFormed, IsClass, UseRec, NodeRec, FetRec, CellExt, is_word, is_node_name}
use Rattle.own_record_laws.proofs.Common.{IsLawfulNode, IsLawful, names_of, node_names, HasTypesOf, Layout, IsMaterial, Place, Transistor}
use Rattle.own_record_laws.proofs.Common.{paint_range, IsSmallMeasure, AreOneNamedNode, IsNodeRecord, IsOfNode, IsOwnRecord}
use Rattle.std.specs.Prelude.{All}
use Rattle.full_names.specs.ExtModel.Lawful.{IsLawfulUse, IsLawfulFet, IsLawfulMerge}
use Rattle.tree_records.specs.LayoutModel.Technologies.{class_of}
use Rattle.tree_records.proofs.Measures.BoundLaws.{measures_are_small}
use Rattle.tree_records.proofs.CellNodes.NodePlaces.{material_along}
use Rattle.own_record_laws.specs.Laws.{OwnRecordsAreLawful}
use Rattle.own_record_laws.proofs.LawfulFets.{fet_is_lawful}
use Rattle.own_record_laws.proofs.NameForms.{plain_word, type_word, name_form}
use Rattle.own_record_laws.proofs.NamesDiffer.{names_differ}
use Rattle.own_record_laws.proofs.NodeSizes.{measure_from, near_place, paint_x, paint_y, capacitance_small, record_measures}
use Rattle.own_record_laws.proofs.PreferredNames.{recorded, in_some, goes_by}

-- what stands in no list has every fact
all_none : {X : Type 0} (P : X → Type 0) (xs : List X) → xs ≡ [] → All P xs
all_none {X} P xs none = All-from_In P xs (λ x here. let Q : List X → Type 0 = λ ys. In x ys in absurd (subst Q none here))

module _ (raw : RawTech) (layout : Layout) (labels : List Label) (name : List ℕ) (ext : CellExt) (well : IsWellFormed raw) (typed : HasTypesOf raw layout)
    (range : (place : Place) → IsMaterial layout place → Covers paint_range place.square) (own : IsOwnRecord raw layout labels name ext) where
  -- there is a value for each class
  class_count : length ext.classes ≡ length raw.classes
  class_count = ap length own.classes ∙ length-map raw.classes (λ (class : ClassRec). class.value)

  -- what a node measures is small
  small_measures : (least : Place) (node : NodeRec) → IsNodeRecord raw layout labels least node → All IsSmallMeasure node.measures
  small_measures least node is =
      measures_are_small (map class_of raw.classes) layout (AreOneNamedNode raw layout labels least) node.measures
      (λ place joined. near_place raw layout well typed range place (material_along raw layout labels well joined is.material)) is.measures

  -- the record of a node is lawful
  lawful_node : (least : Place) (node : NodeRec) → IsNodeRecord raw layout labels least node → IsLawfulNode (length ext.classes) node
  lawful_node least node is =
      let type = (typed least is.material).0 in
      let covers = range least is.material in
      let small : (measure : ℤ × ℤ) → In measure node.measures → IsSmallMeasure measure = λ measure here.
      All-In IsSmallMeasure node.measures measure (small_measures least node is) here in
      let cap = capacitance_small raw raw.classes node.measures (λ class here. All-In (IsClass raw) raw.classes class well.classes here) small in
      let few = well.classes_limit in
      let most = cap.1 in
      let value = is.cap in
      record {
        names = All-from_In (λ (word : List ℕ). IsTrue (is_node_name word)) (names_of node)
            (λ word here. name_form raw well layout labels least word type (is.names.2 word here));
        kind = subst (λ (text : List ℕ). IsTrue (is_word text)) (sym is.kind) (type_word raw well (layout least) type);
        cap = measure_from node.cap (16 * 2 ^ 84) (omega (arith, ints, value, cap.0)) (omega (arith, ints, value, most, few)) (omega arith);
        x = subst (FitsSigned w32) (sym is.x) (paint_x least covers).fits;
        y = subst (FitsSigned w32) (sym is.y) (paint_y least covers).fits;
        measures = record_measures raw layout (AreOneNamedNode raw layout labels least) node.measures ext.classes class_count is.measures small;
      }

  -- what the node of a place goes by is a name of the record
  among : (by : List ℕ) (place : Place) → IsOfNode raw layout labels by place → In by (node_names ext)
  among by place is =
      let some = in_some raw layout labels ext.nodes own.nodes place is.material in
      let named = goes_by raw layout labels ext.nodes own.nodes by place is some in
      In-flat_map names_of some.node by ext.nodes some.listed (inl named)

  -- the record of a transistor is lawful
  lawful_fet : (made : FetRec) → In made ext.fets → IsLawfulFet ext made
  lawful_fet made here =
      let at = In-index made ext.fets here in
      let long = own.fets.one_each in
      let below = at.1.0 in
      let inside : at.0 < length own.fets.found = omega (arith, below, long) in
      let origin : Place = record { plane = 0; square = record { x = pos 0; y = pos 0 } } in
      let none : Transistor (List ℕ) = record { kind = 0; least = origin; area = pos 0; perimeter = pos 0; gate = []; terminals = [] } in
      let fet = get_or own.fets.found at.0 none in
      subst (IsLawfulFet ext) (at.1.1 made)
      (fet_is_lawful raw layout labels well typed range ext among fet (get_or ext.fets at.0 made)
      (own.fets.transistors.sound fet (In-get_or own.fets.found at.0 none inside)) (own.fets.each at.0 none made inside))

  -- and so is the record of the cell
  own_is_lawful : IsLawful ext
  own_is_lawful = record {
    tech = subst (λ (text : List ℕ). IsTrue (is_word text)) (sym own.tech) (plain_word raw.name well.name);
    classes = (let count = class_count in let limit = well.classes_limit in omega (arith, count, limit));
    uses = all_none IsLawfulUse ext.uses own.uses;
    nodes = All-from_In (IsLawfulNode (length ext.classes)) ext.nodes
        (λ node here. (let at = recorded raw layout labels ext.nodes own.nodes node here in lawful_node at.least node at.is));
    fets = All-from_In (IsLawfulFet ext) ext.fets lawful_fet;
    merges = all_none (IsLawfulMerge ext) ext.merges own.merges;
    node_names_differ = names_differ raw layout labels well typed ext.nodes own.nodes;
    element_names_differ = subst (λ (uses : List UseRec). Distinct (map (λ (element : UseRec). element.id) uses)) (sym own.uses) tt;
  }

-- whatever the rules and the layers of labels are
pub own_lawful : OwnRecordsAreLawful
own_lawful raw layout labels name ext well rules sound typed labelled own = own_is_lawful raw layout labels name ext well typed sound.range own
