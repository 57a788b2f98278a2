-- The records of nodes that have their names and measures.
use Rattle.cell_nodes.proofs.Common.{◌≡◌, ◌+◌, ◌<◌, ℕ, ℤ, List, [], ◌∷◌, ◌++◌, length, get_or, map, Some, inl, inr, refl, sym, ◌∙◌, ap, subst, arith}
use Rattle.cell_nodes.proofs.Common.{IsTrue, pos, All, slice_index, cases_lt, get_or-map, length-map, slice_get-get_or, corner_of, corner_covers}
use Rattle.cell_nodes.proofs.Common.{Lists, Label, RawTech, is_type, connects, IsWellFormed, NodeRec, RegionTile, Place, IsBefore, Layout}
use Rattle.cell_nodes.proofs.Common.{IsMaterial, IsInRegion, AreLayoutTiles, AreRegions, class_of, capacitance, IsSoundTile, IsNearPlace, MeasureRow}
use Rattle.cell_nodes.proofs.Common.{NamedNode, AreOneNamedNode, least_of, AreNamedNodes, AreNodeNumbers, numbers_at, IsRecordOf, AreMade}
use Rattle.cell_nodes.proofs.Common.{AreRecordsOf, row_at}
use Rattle.std.specs.Prelude.{AllPairs, slice_get}
use Rattle.std.specs.declared.cmp.Ordering.TheVariants.{Less}
use Rattle.std.proofs.lemmas.List.{get_or_default, get_or_append_left, get_or_push}
use Rattle.tech_model.proofs.FiniteSets.Members.{In-get_or, In-map}
use Rattle.tech_model.proofs.FiniteSets.Totals.{Total-iff}
use Rattle.ext_model.specs.NameOrder.{name_cmp}
use Rattle.layout_model.specs.LayerTypes.{HasTypesOf}
use Rattle.layout_model.specs.Measures.{area_at, perimeter_at}
use Rattle.layout_model.specs.Nodes.{AreMeasures}
use Rattle.layout_model.specs.Technologies.{Class, rules_of}
use Rattle.measures.proofs.FloodNodes.Renumbering.{numbered_tiles}
use Rattle.measures.proofs.BoundLaws.{measures_are_small}
use Rattle.names.specs.NamedNodes.{IsNameOf, IsNamedNode}
use Rattle.cell_nodes.specs.steps.NodeNumbers.{AreNodeMeasures}
use Rattle.cell_nodes.specs.NodeRecords.{IsNodeRecord, AreNodeRecords}
use Rattle.cell_nodes.specs.RegionNodes.{AreNodesOfRegions}
use Rattle.cell_nodes.proofs.NodePlaces.{material_along, node_is_named}
use Rattle.cell_nodes.proofs.GroupLaws.{group_in_node, node_in_group}
use Rattle.cell_nodes.proofs.RegionLaws.{node_number, region_below, node_places}

-- one record more
pub records_more : (raw : RawTech) (nodes : List NamedNode) (rows : List MeasureRow) (k : ℕ) (old new : List NodeRec) (d : NamedNode) (made : NodeRec)
    → k < length nodes → length old ≡ k
    → ((j : ℕ) (node : NamedNode) (rec : NodeRec) → j < k → IsRecordOf raw (get_or nodes j node) (row_at rows j) (get_or old j rec))
    → IsRecordOf raw (get_or nodes k d) (row_at rows k) made → new ≡ old ++ made ∷ []
    → (j : ℕ) (node : NamedNode) (rec : NodeRec) → j < k + 1 → IsRecordOf raw (get_or nodes j node) (row_at rows j) (get_or new j rec)
records_more raw nodes rows k old new d made inside many before is e j node rec early =
    subst (λ (v : List NodeRec). IsRecordOf raw (get_or nodes j node) (row_at rows j) (get_or v j rec)) (sym e)
    (elim (cases_lt j k) [
      | inl less ↦ subst (λ (v : NodeRec). IsRecordOf raw (get_or nodes j node) (row_at rows j) v)
          (sym (get_or_append_left old (made ∷ []) rec j (omega (arith, less, many)))) (before j node rec less)
      | inr ge ↦
          (let same : k ≡ j = omega (arith, ge, early) in
          subst (λ (v : NodeRec). IsRecordOf raw (get_or nodes j node) (row_at rows j) v) (sym (get_or_push old made rec j (many ∙ same)))
          (subst (λ (n : ℕ). IsRecordOf raw (get_or nodes n node) (row_at rows n) made) same
          (subst (λ (v : NamedNode). IsRecordOf raw v (row_at rows k) made) (get_or_default nodes k d node inside) is)))
    ])

-- the tiles are of types of the technology
pub tiles_typed : (raw : RawTech) (layout : Layout) (tiles : List RegionTile) → AreLayoutTiles layout tiles → HasTypesOf raw layout
    → All (λ (tile : RegionTile). IsTrue (is_type raw tile.kind.0)) tiles
tiles_typed raw layout tiles are typed k d below =
    let tile = get_or tiles k d in
    let place : Place = record { plane = tile.plane; square = corner_of tile.area } in
    let is : layout place ≡ tile.kind.0 = are.kinds k place (record {
      tile = tile;
      there = slice_get-get_or tiles k d below;
      plane = refl;
      covers = corner_covers tile.area (corner_of tile.area) (are.proper k d below) refl refl;
    }) in
    subst (λ (n : ℕ). IsTrue (is_type raw n)) is (typed place (λ zero. are.material k d below (sym is ∙ zero))).0

-- the same measures of the same set under another fact
measures_over : (classes : List Class) (layout : Layout) (P Q : Place → Type 0) (measures : List (ℤ × ℤ)) → ((place : Place) → P place → Q place)
    → ((place : Place) → Q place → P place) → AreMeasures classes layout P measures → AreMeasures classes layout Q measures
measures_over [] layout P Q [] there back m = tt
measures_over [] layout P Q (x ∷ xs) there back m = absurd m
measures_over (class ∷ classes) layout P Q [] there back m = absurd m
measures_over (class ∷ classes) layout P Q (x ∷ xs) there back m = (
  Total-iff P Q (area_at class.contains layout) x.0 there back m.0,
  Total-iff P Q (perimeter_at class.contains layout) x.1 there back m.1,
  measures_over classes layout P Q xs there back m.2,
)

-- there is a pair for each class
measures_long : (classes : List Class) (layout : Layout) (P : Place → Type 0) (measures : List (ℤ × ℤ)) → AreMeasures classes layout P measures
    → length measures ≡ length classes
measures_long [] layout P [] m = refl
measures_long [] layout P (x ∷ xs) m = absurd m
measures_long (class ∷ classes) layout P [] m = absurd m
measures_long (class ∷ classes) layout P (x ∷ xs) m = let rest = measures_long classes layout P xs m.2 in omega (arith, rest)

abbrev no_node : NamedNode
no_node = record { regions = []; names = []; plane = 0; least = record { x = pos 0; y = pos 0 }; kind = record { 0 = 0 } }

module _ (raw : RawTech) (layout : Layout) (labels : List Label) (tiles : List RegionTile) (count : ℕ) (nodes : List NamedNode) (rows : List MeasureRow)
    (well : IsWellFormed raw) (whole : AreLayoutTiles layout tiles) (sound : All (IsSoundTile count) tiles)
    (named : AreNamedNodes raw layout labels tiles nodes) (measured : AreNodeMeasures raw tiles count nodes rows) where
  node_is : (k : ℕ) (d : NamedNode) → k < length nodes → IsNamedNode raw layout labels tiles (get_or nodes k d)
  node_is k d below = named.sound (get_or nodes k d) (In-get_or nodes k d below)

  enough : length rows ≡ length nodes + 1
  enough =
      let long = length-map tiles (λ (t : RegionTile). get_or measured.numbers t.region 0) in
      let are = measured.measured layout (numbered_tiles tiles (numbers_at measured.numbers tiles) measured.groups measured.are_groups long layout whole) in
      let one_each = are.one_each in
      omega (arith, one_each, length-map rows (λ (row : MeasureRow). row.pairs))

  -- the measures of a node's group are the node's
  node_measures : (k : ℕ) (d : NamedNode) → k < length nodes
      → AreMeasures (map class_of raw.classes) layout (AreOneNamedNode raw layout labels (least_of (get_or nodes k d))) (row_at rows k)
  node_measures k d below =
      let long = length-map tiles (λ (t : RegionTile). get_or measured.numbers t.region 0) in
      let are = measured.measured layout (numbered_tiles tiles (numbers_at measured.numbers tiles) measured.groups measured.are_groups long layout whole) in
      let many = enough in
      let pairs = map (λ (row : MeasureRow). row.pairs) rows in
      let row_there : slice_get pairs k ≡ Some (row_at rows k) = slice_get-get_or pairs k []
      (omega (arith, below, many, length-map rows (λ (row : MeasureRow). row.pairs)))
      ∙ ap (λ (v : List (ℤ × ℤ)). Some v) (get_or-map (λ (row : MeasureRow). row.pairs) rows k (record { pairs = [] }) [] (omega (arith, below, many))) in
      measures_over (map class_of raw.classes) layout (IsInRegion measured.groups k) (AreOneNamedNode raw layout labels (least_of (get_or nodes k d)))
      (row_at rows k)
      (λ place h. group_in_node raw layout labels tiles nodes named count measured.numbers measured.groups sound measured.are_numbers measured.are_groups
      k d place below h)
      (λ place h. node_in_group raw layout labels tiles nodes named count measured.numbers measured.groups sound measured.are_numbers measured.are_groups
      k d place whole below (material_along raw layout labels well h (node_is k d below).material) h)
      (are.each k (row_at rows k) row_there)

  -- a record can be made of each node
  pub are_made : HasTypesOf raw layout → ((place : Place) → IsMaterial layout place → IsNearPlace place) → AreMade raw nodes rows
  are_made typed near = record {
    enough = let many = enough in omega (arith, many);
    each = λ k d below.
        let is = node_is k d below in
        let least = least_of (get_or nodes k d) in
        let measures = node_measures k d below in
        record {
          kind = subst (λ (n : ℕ). IsTrue (is_type raw n)) (sym is.kind) (typed least is.material).0;
          named = node_is_named raw layout labels least (get_or nodes k d).names is.names;
          one_each = measures_long (map class_of raw.classes) layout (AreOneNamedNode raw layout labels least) (row_at rows k) measures
              ∙ length-map raw.classes class_of;
          small = measures_are_small (map class_of raw.classes) layout (AreOneNamedNode raw layout labels least) (row_at rows k)
              (λ place h. near place (material_along raw layout labels well h is.material)) measures;
        };
  }

  -- a record that is made of a node is the node's
  made_record : (k : ℕ) (d : NamedNode) (made : NodeRec) → k < length nodes → IsRecordOf raw (get_or nodes k d) (row_at rows k) made
      → IsNodeRecord raw layout labels (least_of (get_or nodes k d)) made
  made_record k d made below is =
      let node = node_is k d below in
      let least = least_of (get_or nodes k d) in record {
        material = node.material;
        is_least = node.least;
        names = subst (λ (v : List (List ℕ)). Lists (IsNameOf raw layout labels least) v) (sym is.names) node.names;
        names_in_order = subst (λ (v : List (List ℕ)). AllPairs (λ a b. name_cmp a b ≡ Less) v) (sym is.names) node.names_in_order;
        x = is.x;
        y = is.y;
        kind = is.kind ∙ ap (rules_of raw).word node.kind;
        measures = subst (λ (m : List (ℤ × ℤ)). AreMeasures (map class_of raw.classes) layout (AreOneNamedNode raw layout labels least) m) (sym is.measures)
            (node_measures k d below);
        cap = is.cap ∙ ap (capacitance (rules_of raw).classes) (sym is.measures);
      }

  -- the records of the nodes are those of the layout
  abbrev node_records : (made : List NodeRec) → AreRecordsOf raw nodes rows made → AreNodeRecords raw layout labels made
  node_records made are =
      let many = are.one_each in
      let leasts = map least_of nodes in
      let at : (k : ℕ) (least : Place) → k < length nodes → get_or leasts k least ≡ least_of (get_or nodes k no_node) = λ k least below.
      get_or-map least_of nodes k no_node least below in
      record {
        leasts = leasts;
        one_each = length-map nodes least_of ∙ sym many;
        sound = λ k least rec below.
            let inside : k < length nodes = omega (arith, below, many) in
            subst (λ (p : Place). IsNodeRecord raw layout labels p (get_or made k rec)) (sym (at k least inside))
            (made_record k no_node (get_or made k rec) inside (are.each k no_node rec inside));
        whole = λ place material. let h = named.whole place material in (least_of h.0, In-map least_of h.0 nodes h.1, h.2);
        in_order = λ i j d less below.
            let inside : j < length nodes = (let long = length-map nodes least_of in omega (arith, below, long)) in
            subst (λ (p : Place). IsBefore p (get_or leasts j d)) (sym (at i d (omega (arith, less, inside))))
            (subst (λ (p : Place). IsBefore (least_of (get_or nodes i no_node)) p) (sym (at j d inside)) (named.in_order i j no_node less inside));
      }

  -- and each region has the number of the record of its node
  pub region_records : (numbers : List ℕ) (made : List NodeRec) → AreRegions (connects raw) layout tiles count → AreNodeNumbers nodes count numbers
      → AreRecordsOf raw nodes rows made → AreNodesOfRegions raw layout labels tiles count made numbers
  region_records numbers made regions numbered are = record {
    records = node_records made are;
    one_each = numbered.one_each;
    numbered = λ k d below.
        let many = numbered.one_each in
        let long = are.one_each in
        let number = node_number raw layout labels tiles count nodes numbers regions named numbered k (omega (arith, below, many)) in
        subst (λ (n : ℕ). n < length made) (get_or_default numbers k 0 d below) (omega (arith, number, long));
    places = λ region place least inside.
        let number = slice_index numbers region in
        let below = region_below raw layout labels tiles count nodes numbers regions named numbered sound region place inside in
        let at = node_number raw layout labels tiles count nodes numbers regions named numbered region below in
        subst (λ (p : Place). AreOneNamedNode raw layout labels p place) (sym (get_or-map least_of nodes number no_node least at))
        (node_places raw layout labels tiles count nodes numbers regions named numbered sound region place no_node inside);
  }
