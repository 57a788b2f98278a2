-- The sums that are reported of a stack fit 128 bits: its circuit has no more nodes than its layout has places, and the areas and perimeters of
-- each node are small.
use Rattle.stack_nodes.proofs.Common.{◌≡◌, ◌<◌, ◌≤◌, ◌*◌, ◌∙◌, ℕ, zero, suc, ℤ, pos, ◌≤ℤ◌, ◌*ℤ◌, List, [], ◌∷◌, length, get_or, inl, inr, refl, sym}
use Rattle.stack_nodes.proofs.Common.{ap, subst, arith, IsTrue, Some, codes, true≢false, ints, length-map, Distinct, In, identity, RawTech, In-map}
use Rattle.stack_nodes.proofs.Common.{IsMaterial, Place, LibraryView, Circuit, NodeRec, is_global, names_of, row_grid, stack_grid, tile_labels}
use Rattle.stack_nodes.proofs.Common.{UseElement, use_elements, named_elements_at, flat_layout, NamedTree, no_more}
use Rattle.std.proofs.Common.{◌^◌, map}
use Rattle.std.specs.Int.RustNames.{unsigned_abs}
use Rattle.tech_model.specs.GeoCore.FiniteSets.Total.{sum_on}
use Rattle.tech_model.specs.GeoCore.declared.transforms.Transform.{Transform}
use Rattle.tech_model.proofs.GeoCore.FiniteSets.Chains.{Chain-carries}
use Rattle.library_trees.specs.CellLibrary.LayoutModel.Technologies.{class_of, rules_of}
use Rattle.layout_gen.specs.declared.limits.TheConstants.{MOST_TILES}
use Rattle.library_trees.specs.TreeRecords.FlatLayouts.{AreFlatLinked, AreOneFlatNode, HasTextBelow, HasTextSomewhere}
use Rattle.library_trees.specs.Names.Attachments.{label_at}
use Rattle.library_trees.specs.TreeRecords.TreeCircuits.{IsFlatNodeRecord}
use Rattle.library_trees.proofs.NameClasses.FullNames.ListOrders.{Distinct-names, pairwise_names, same_in_order}
use Rattle.stack_nodes.specs.StackNodes.{IsStackCircuit}
use Rattle.stack_nodes.specs.StackSums.{StackSumsFit, SumsFit}
use Rattle.stack_nodes.proofs.CircuitNodes.{diff_below, is_of_tree, poly_below}
use Rattle.stack_nodes.proofs.PlaceSums.{IsSmall, MOST_PLACES, MayBeMaterial, all_small, few_places, sum_at_most, sum_not_negative}
use Rattle.stack_nodes.proofs.StackSets.{material_in_stack}
use Rattle.stack_nodes.proofs.StackTrees.{row_tree, stack_tree, tile_tree}

-- ---- no global names

-- a text below is one of a child
text_below : (raw : RawTech) (tree : NamedTree) (placed : Transform) (elements : List UseElement) (text : List ℕ) (place : Place)
    → HasTextBelow raw (named_elements_at tree placed elements no_more) text place → (other : Place) × HasTextSomewhere raw tree text other
text_below raw tree placed [] text place none = absurd none
text_below raw tree placed (element ∷ elements) text place (inl here) = (_, here)
text_below raw tree placed (element ∷ elements) text place (inr later) = text_below raw tree placed elements text place later

-- no text of a tile is global
text_is_local : (poly diff index : ℕ) (text : List ℕ) → index < 2 → (label_at (tile_labels poly diff) index).text ≡ text
    → IsTrue (is_global text) → ⊥
text_is_local poly diff zero text below is global = true≢false (sym (subst (λ (t : List ℕ). IsTrue (is_global t)) (sym is) global) ∙ refl)
text_is_local poly diff (suc zero) text below is global = true≢false (sym (subst (λ (t : List ℕ). IsTrue (is_global t)) (sym is) global) ∙ refl)
text_is_local poly diff (suc (suc index)) text below is global = omega (arith, below)

module _ (raw : RawTech) (poly diff n count : ℕ) where
  -- so none of a stack is
  no_global : (text : List ℕ) (place : Place) → HasTextSomewhere raw (stack_tree raw poly diff n count) text place → IsTrue (is_global text) → ⊥
  no_global text place (inl own) global = omega (arith, own.names.in_list)
  no_global text place (inr below) global =
      in_row (text_below raw (row_tree raw poly diff n count) identity (use_elements (codes "r") (Some (stack_grid n))) text place below).1
    where
      in_tile : {place : Place} → HasTextSomewhere raw (tile_tree raw poly diff n count) text place → ⊥
      in_tile (inl own) = text_is_local poly diff own.index text own.names.in_list own.is global
      in_tile (inr none) = absurd none

      in_row : {place : Place} → HasTextSomewhere raw (row_tree raw poly diff n count) text place → ⊥
      in_row (inl own) = omega (arith, own.names.in_list)
      in_row {place = place} (inr below) =
          in_tile (text_below raw (tile_tree raw poly diff n count) identity (use_elements (codes "t") (Some (row_grid n))) text place below).1

  -- and the places of a node have material
  linked_material : (a b : Place) → AreFlatLinked raw (stack_tree raw poly diff n count) a b
      → IsMaterial (flat_layout raw (stack_tree raw poly diff n count)) a → IsMaterial (flat_layout raw (stack_tree raw poly diff n count)) b
  linked_material a b (inl link) material = link.there
  linked_material a b (inr share) material = absurd (no_global share.text a share.here share.global)

-- ---- the nodes of the circuit

-- two nodes of one place go by one name
one_name : (raw : RawTech) (tree : NamedTree) (place : Place) (a b : NodeRec) → IsFlatNodeRecord raw tree place a → IsFlatNodeRecord raw tree place b
    → a.name ≡ b.name
one_name raw tree place a b p q =
    let same : names_of a ≡ names_of b =
    same_in_order (names_of a) (names_of b) p.in_order q.in_order (λ name here. (q.names name).1 ((p.names name).0 here))
    (λ name here. (p.names name).1 ((q.names name).0 here)) in
    ap (λ (names : List (List ℕ)). get_or names 0 a.name) same

module _ (raw : RawTech) (tree : NamedTree) where
  -- a place of each node
  abbrev places_of : (nodes : List NodeRec) → ((node : NodeRec) → In node nodes → (place : Place) × IsFlatNodeRecord raw tree place node) → List Place
  places_of [] sound = []
  places_of (node ∷ nodes) sound = (sound node (inl refl)).0 ∷ places_of nodes (λ other later. sound other (inr later))

  length-places_of : (nodes : List NodeRec) (sound : (node : NodeRec) → In node nodes → (place : Place) × IsFlatNodeRecord raw tree place node)
      → length (places_of nodes sound) ≡ length nodes
  length-places_of [] sound = refl
  length-places_of (node ∷ nodes) sound = ap (λ (k : ℕ). suc k) (length-places_of nodes (λ other later. sound other (inr later)))

  -- is of one of the nodes
  place_source : (nodes : List NodeRec) (sound : (node : NodeRec) → In node nodes → (place : Place) × IsFlatNodeRecord raw tree place node)
      → (place : Place) → In place (places_of nodes sound) → (node : NodeRec) × In node nodes × IsFlatNodeRecord raw tree place node
  place_source [] sound place none = absurd none
  place_source (node ∷ nodes) sound place (inl same) =
      (node, inl refl, subst (λ (p : Place). IsFlatNodeRecord raw tree p node) same (sound node (inl refl)).1)
  place_source (node ∷ nodes) sound place (inr later) =
      let source = place_source nodes (λ other there. sound other (inr there)) place later in
      (source.0, inr source.1, source.2)

  -- nodes with names of their own have places of their own
  Distinct-places_of : (nodes : List NodeRec) (sound : (node : NodeRec) → In node nodes → (place : Place) × IsFlatNodeRecord raw tree place node)
      → Distinct (map (λ node. node.name) nodes) → Distinct (places_of nodes sound)
  Distinct-places_of [] sound once = tt
  Distinct-places_of (node ∷ nodes) sound once = (
    λ there.
        (let here = sound node (inl refl) in
        let source = place_source nodes (λ other later. sound other (inr later)) here.0 there in
        once.0 (subst (λ (name : List ℕ). In name (map (λ (one : NodeRec). one.name) nodes)) (sym (one_name raw tree here.0 node source.0 here.1 source.2))
        (In-map (λ (one : NodeRec). one.name) source.0 nodes source.1))),
    Distinct-places_of nodes (λ other later. sound other (inr later)) once.1,
  )

-- ---- the sums

-- a sum that has these bounds fits
fits : (sum : ℤ) (count : ℕ) → pos 0 ≤ℤ sum → sum ≤ℤ (pos (16 * (4 * MOST_PLACES)) *ℤ pos count) → count ≤ MOST_PLACES → unsigned_abs sum < 2 ^ 127
fits sum count from to few = omega (arith, ints, from, to, few)

-- of small numbers, one for each class
few_numbers : (sum most : ℤ) (count : ℕ) → most ≡ pos (4 * MOST_PLACES) → sum ≤ℤ (most *ℤ pos count) → count ≤ 16 → sum ≤ℤ pos (16 * (4 * MOST_PLACES))
few_numbers sum most count is to few = omega (arith, ints, is, subst (λ (z : ℤ). sum ≤ℤ (z *ℤ pos count)) is to, few)

module _ (before : LibraryView) (n : ℕ) (circuit : Circuit) (few : n ≤ MOST_TILES) (is : IsStackCircuit before n circuit) where
  abbrev tree : NamedTree
  tree = stack_tree before.tech is.made.poly is.made.diff n (length before.cells)

  -- material lies where the largest stack may have some
  material_may : (place : Place) → IsMaterial (flat_layout before.tech tree) place → MayBeMaterial place
  material_may place material =
      let there = material_in_stack before.tech is.made.poly is.made.diff n (length before.cells) is.well_formed is.rules.own_sets
      (poly_below before n circuit is) (diff_below before n circuit is) place material in
      record {
        area = record {
          right_of_xlo = there.0.right_of_xlo;
          left_of_xhi = omega (arith, ints, there.0.left_of_xhi, few);
          above_ylo = there.0.above_ylo;
          below_yhi = omega (arith, ints, there.0.below_yhi, few);
        };
        plane = there.1;
      }

  -- the measures of a node are small, and there is one for each class
  node_small : (node : NodeRec) → In node circuit.nodes
      → (length node.measures ≤ 16) × ((measure : ℤ × ℤ) → In measure node.measures → IsSmall measure)
  node_small node here =
      let sound = (is_of_tree before n circuit is).sound node here in
      let all = all_small (flat_layout before.tech tree) (AreOneFlatNode before.tech tree sound.0)
      (λ other together. material_may other (Chain-carries (IsMaterial (flat_layout before.tech tree))
      (linked_material before.tech is.made.poly is.made.diff n (length before.cells)) together sound.1.material))
      (rules_of before.tech).classes node.measures sound.1.measures in
      let classes = length-map before.tech.classes class_of in
      let limit = is.well_formed.classes_limit in
      (omega (arith, all.0, classes, limit), all.1)

  -- there are no more nodes than places
  few_nodes : length circuit.nodes ≤ MOST_PLACES
  few_nodes =
      let flat = is_of_tree before n circuit is in
      let names = map (λ (node : NodeRec). node.name) circuit.nodes in
      let once = Distinct-names names (pairwise_names names flat.in_order) in
      let places = places_of before.tech tree circuit.nodes flat.sound in
      let most = few_places places (Distinct-places_of before.tech tree circuit.nodes flat.sound once)
      (λ place there. material_may place (place_source before.tech tree circuit.nodes flat.sound place there).2.material) in
      let same = length-places_of before.tech tree circuit.nodes flat.sound in
      omega (arith, most, same)

  -- a sum over all nodes fits, of a measure that is small
  sum_fits : (part : ℤ × ℤ → ℤ) → ((measure : ℤ × ℤ) → IsSmall measure → (pos 0 ≤ℤ part measure) × (part measure ≤ℤ pos (4 * MOST_PLACES)))
      → unsigned_abs (sum_on (λ (node : NodeRec). sum_on part node.measures) circuit.nodes) < 2 ^ 127
  sum_fits part between =
      let of_node : NodeRec → ℤ = λ node. sum_on part node.measures in
      let from : pos 0 ≤ℤ sum_on of_node circuit.nodes =
      sum_not_negative of_node circuit.nodes (λ node here.
      sum_not_negative part node.measures (λ measure there. (between measure ((node_small node here).1 measure there)).0)) in
      let to : sum_on of_node circuit.nodes ≤ℤ (pos (16 * (4 * MOST_PLACES)) *ℤ pos (length circuit.nodes)) =
      sum_at_most of_node (pos (16 * (4 * MOST_PLACES))) circuit.nodes (λ node here.
      few_numbers (of_node node) (pos (4 * MOST_PLACES)) (length node.measures) refl
      (sum_at_most part (pos (4 * MOST_PLACES)) node.measures (λ measure there. (between measure ((node_small node here).1 measure there)).1))
      (node_small node here).0) in
      fits (sum_on of_node circuit.nodes) (length circuit.nodes) from to few_nodes

  sums_fit : SumsFit circuit
  sums_fit = record {
    areas = λ node here measure there. ((node_small node here).1 measure there).area_from;
    perimeters = λ node here measure there. ((node_small node here).1 measure there).perimeter_from;
    area = sum_fits (λ measure. measure.0) (λ measure small. (small.area_from, (let most = small.area_to in omega (arith, ints, most))));
    perimeter = sum_fits (λ measure. measure.1) (λ measure small. (small.perimeter_from, small.perimeter_to));
  }

-- the sums that are reported of a stack fit
pub stack_sums_fit : StackSumsFit
stack_sums_fit before n circuit few is = sums_fit before n circuit few is
