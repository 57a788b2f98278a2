-- What all elements add: few enough lawful amounts, whose sums are those of the flat nodes.
use Rattle.flatten.proofs.Common.{◌≡◌, ℕ, ◌+◌, ◌<◌, ◌≤◌, ℤ, pos, ◌+ℤ◌, Bool, cond, eqb, List, [], ◌∷◌, ◌++◌, length, take, get_or, refl, sym, ◌∙◌}
use Rattle.flatten.proofs.Common.{ap, subst, arith, inl, inr, length-append, flat_map, flat_map-append, All-take, get_or_from_slice_get, take_more}
use Rattle.flatten.proofs.Common.{length-map, append-nil, sum_by-cons, sum_by_more_le, In, sum_on, In-append_cases, In-map_source, In-get_or}
use Rattle.flatten.proofs.Common.{All-from_In, All-In, sum_on-map, sum_on-same, NodeRec, MergeRec, IsLawfulNode, Element, name_in, has_name}
use Rattle.flatten.proofs.Common.{node_count, merge_count, MOST_NODES, MOST_MERGES, FullNames, AreNames, elements_in, label_of, element_at}
use Rattle.flatten.proofs.Common.{no_element, NodeSum, Quantity, Addend, amount, counts_for, IsLawfulAmount, AreLawfulAmounts, node_addend}
use Rattle.flatten.proofs.Common.{node_addends, merge_addend, merge_addends, addends_in, HaveSums}
use Rattle.finite_sets.proofs.Sums.{sum_on-append}
use Rattle.ext_model.specs.Lawful.{IsLawful, IsLawfulMerge}
use Rattle.circuit_model.specs.FlatNodes.{share_of, sum_of}
use Rattle.flatten.proofs.FlatLimits.TreeLaws.{no_flat}
use Rattle.flatten.proofs.PlaceLaws.{place_of}
use Rattle.flatten.proofs.SpotLaws.{flat_here, lawful_cell}
use Rattle.flatten.specs.steps.Sums.{HaveRoomFor, HaveRoomForNodes, HaveRoomForMerges}

-- what one more element adds
pub addends_more : (list : List (List ℕ)) (labels : List ℕ) (elements : List Element) (n : ℕ) (d : Element) → n < length elements
    → flat_map (addends_in list labels) (take n elements) ++ addends_in list labels (get_or elements n d)
    ≡ flat_map (addends_in list labels) (take (n + 1) elements)
addends_more list labels elements n d inside =
    let f = addends_in list labels in
    sym (ap (flat_map f) (take_more elements n d inside) ∙ flat_map-append f (take n elements) (get_or elements n d ∷ [])
    ∙ ap (λ (l : List Addend). flat_map f (take n elements) ++ l) (append-nil (f (get_or elements n d))))

-- how many records are added
pub addends_count : (list : List (List ℕ)) (labels : List ℕ) (elements : List Element)
    → length (flat_map (addends_in list labels) elements) ≡ node_count elements + merge_count elements
addends_count list labels [] = refl
addends_count list labels (element ∷ elements) =
    let rest = addends_count list labels elements in
    let nodes = length-map element.ext.nodes (node_addend list labels element) in
    let merges = length-map element.ext.merges (merge_addend list labels element) in
    let whole = length-append (addends_in list labels element) (flat_map (addends_in list labels) elements) in
    let both = length-append (node_addends list labels element) (merge_addends list labels element) in
    let a = sum_by-cons (λ (e : Element). length e.ext.nodes) element elements in
    let b = sum_by-cons (λ (e : Element). length e.ext.merges) element elements in
    omega (arith, rest, nodes, merges, whole, both, a, b)

-- those of the elements so far and of the next one are no more than those of all
pub count_so_far : (list : List (List ℕ)) (labels : List ℕ) (elements : List Element) (n : ℕ) (d : Element) → n < length elements
    → length (flat_map (addends_in list labels) (take n elements)) + (length (get_or elements n d).ext.nodes + length (get_or elements n d).ext.merges)
    ≤ node_count elements + merge_count elements
count_so_far list labels elements n d inside =
    let count = addends_count list labels (take n elements) in
    let a = sum_by_more_le (λ (e : Element). length e.ext.nodes) elements n d inside in
    let b = sum_by_more_le (λ (e : Element). length e.ext.merges) elements n d inside in
    omega (arith, count, a, b)

-- an element with a lawful record of so many classes
pub record IsLawfulElement (classes : ℕ) (element : Element) : Type 0 where
  pub lawful : IsLawful element.ext
  pub measured : length element.ext.classes ≡ classes

pub lawful_nodes : (classes : ℕ) (element : Element) → IsLawfulElement classes element
    → AreLawfulAmounts classes (λ node. node.cap) (λ node. node.measures) element.ext.nodes
lawful_nodes classes element is =
    All-from_In (λ (node : NodeRec). IsLawfulAmount classes node.cap node.measures) element.ext.nodes
    (λ node here. (let lawful : IsLawfulNode (length element.ext.classes) node = All-In
    (IsLawfulNode (length element.ext.classes)) element.ext.nodes node is.lawful.nodes here in
    let P : ℕ → Type 0 = λ n. IsLawfulAmount n node.cap node.measures in
    subst P is.measured (record { small = lawful.cap; all_small = lawful.measures })))

pub lawful_merges : (classes : ℕ) (element : Element) → IsLawfulElement classes element
    → AreLawfulAmounts classes (λ merge. merge.cap) (λ merge. merge.measures) element.ext.merges
lawful_merges classes element is =
    All-from_In (λ (merge : MergeRec). IsLawfulAmount classes merge.cap merge.measures) element.ext.merges
    (λ merge here. (let lawful : IsLawfulMerge element.ext merge = All-In (IsLawfulMerge element.ext) element.ext.merges merge is.lawful.merges here in
    let P : ℕ → Type 0 = λ n. IsLawfulAmount n merge.cap merge.measures in
    subst P is.measured (record { small = lawful.cap; all_small = lawful.measures })))

-- what a lawful element adds is lawful
lawful_node_addend : (list : List (List ℕ)) (labels : List ℕ) (classes : ℕ) (element : Element) → IsLawfulElement classes element → (addend : Addend)
    → In addend (node_addends list labels element) → IsLawfulAmount classes addend.cap addend.measures
lawful_node_addend list labels classes element is addend here =
    let r = In-map_source (node_addend list labels element) addend element.ext.nodes here in
    let P : Addend → Type 0 = λ one. IsLawfulAmount classes one.cap one.measures in
    subst P r.1.1 (All-In (λ (node : NodeRec). IsLawfulAmount classes node.cap node.measures) element.ext.nodes r.0 (lawful_nodes classes element is) r.1.0)

lawful_merge_addend : (list : List (List ℕ)) (labels : List ℕ) (classes : ℕ) (element : Element) → IsLawfulElement classes element → (addend : Addend)
    → In addend (merge_addends list labels element) → IsLawfulAmount classes addend.cap addend.measures
lawful_merge_addend list labels classes element is addend here =
    let r = In-map_source (merge_addend list labels element) addend element.ext.merges here in
    let P : Addend → Type 0 = λ one. IsLawfulAmount classes one.cap one.measures in
    subst P r.1.1 (All-In (λ (merge : MergeRec). IsLawfulAmount classes merge.cap merge.measures) element.ext.merges r.0
    (lawful_merges classes element is) r.1.0)

pub lawful_addend : (list : List (List ℕ)) (labels : List ℕ) (classes : ℕ) (elements : List Element) → ((element : Element) → In element elements
    → IsLawfulElement classes element) → (addend : Addend) → In addend (flat_map (addends_in list labels) elements)
    → IsLawfulAmount classes addend.cap addend.measures
lawful_addend list labels classes [] are addend here = absurd here
lawful_addend list labels classes (element ∷ elements) are addend here =
    elim (In-append_cases addend (addends_in list labels element) (flat_map (addends_in list labels) elements) here) [
      | inr later ↦ lawful_addend list labels classes elements (λ e h. are e (inr h)) addend later
      | inl first ↦ (elim (In-append_cases addend (node_addends list labels element) (merge_addends list labels element) first) [
        | inl node ↦ lawful_node_addend list labels classes element (are element (inl refl)) addend node
        | inr merge ↦ lawful_merge_addend list labels classes element (are element (inl refl)) addend merge
      ])
    ]

-- what all elements add to a node is what they have of it, where the node has the names of its label
module _ (list : List (List ℕ)) (labels : List ℕ) (quantity : Quantity) (node : NodeRec) (number : ℕ)
    (tells : (name : List ℕ) → In name list → has_name node name ≡ eqb (label_of list labels name) number) where
  abbrev of_node : NodeRec → ℤ
  of_node part = amount quantity part.cap part.measures

  abbrev of_merge : MergeRec → ℤ
  of_merge merge = amount quantity merge.cap merge.measures

  share : (element : Element) → ((part : NodeRec) → In part element.ext.nodes → In (name_in element part.name) list)
      → ((merge : MergeRec) → In merge element.ext.merges → In (name_in element merge.first) list)
      → sum_on (counts_for quantity number) (addends_in list labels element) ≡ share_of node of_node of_merge element
  share element nodes merges =
      sum_on-append (counts_for quantity number) (node_addends list labels element) (merge_addends list labels element)
      ∙ ap (λ (z : ℤ). z +ℤ sum_on (counts_for quantity number) (merge_addends list labels element))
      (sum_on-map (node_addend list labels element) (counts_for quantity number) element.ext.nodes
      ∙ sum_on-same (λ part. counts_for quantity number (node_addend list labels element part))
      (λ part. cond (has_name node (name_in element part.name)) (of_node part) (pos 0)) element.ext.nodes
      (λ part here. ap (λ (t : Bool). cond t (of_node part) (pos 0)) (sym (tells (name_in element part.name) (nodes part here)))))
      ∙ ap (λ (z : ℤ). sum_on (λ part. cond (has_name node (name_in element part.name)) (of_node part) (pos 0)) element.ext.nodes +ℤ z)
      (sum_on-map (merge_addend list labels element) (counts_for quantity number) element.ext.merges
      ∙ sum_on-same (λ merge. counts_for quantity number (merge_addend list labels element merge))
      (λ merge. cond (has_name node (name_in element merge.first)) (of_merge merge) (pos 0)) element.ext.merges
      (λ merge here. ap (λ (t : Bool). cond t (of_merge merge) (pos 0)) (sym (tells (name_in element merge.first) (merges merge here)))))

  pub sum_is : (elements : List Element)
      → ((element : Element) → In element elements → (part : NodeRec) → In part element.ext.nodes → In (name_in element part.name) list)
      → ((element : Element) → In element elements → (merge : MergeRec) → In merge element.ext.merges → In (name_in element merge.first) list)
      → sum_on (counts_for quantity number) (flat_map (addends_in list labels) elements) ≡ sum_of node of_node of_merge elements
  sum_is [] nodes merges = refl
  sum_is (element ∷ elements) nodes merges =
      sum_on-append (counts_for quantity number) (addends_in list labels element) (flat_map (addends_in list labels) elements)
      ∙ ap (λ (z : ℤ). z +ℤ sum_on (counts_for quantity number) (flat_map (addends_in list labels) elements))
      (share element (nodes element (inl refl)) (merges element (inl refl)))
      ∙ ap (λ (z : ℤ). share_of node of_node of_merge element +ℤ z) (sum_is elements (λ e h. nodes e (inr h)) (λ e h. merges e (inr h)))

-- the elements of a tree are lawful
pub lawful_elements : {names : FullNames} → AreNames names → {classes : ℕ}
    → ((element : Element) → In element (elements_in names) → length element.ext.classes ≡ classes) → (element : Element) → In element (elements_in names)
    → IsLawfulElement classes element
lawful_elements {names} are measured element here =
    let r = place_of element (elements_in names) here in
    let flat = flat_here names are r.0 r.1.0 in
    let same : element_at names r.0 ≡ element = get_or_from_slice_get (elements_in names) r.0 element no_element r.1.1 in
    record {
      lawful = (let P : Element → Type 0 = λ e. IsLawful e.ext in
          subst P same (lawful_cell names (get_or names.tree.now.elements r.0 no_flat).cell (element_at names r.0).ext are flat.of));
      measured = measured element here;
    }

module _ (list : List (List ℕ)) (labels : List ℕ) (elements : List Element) (n : ℕ) (d : Element) (inside : n < length elements) (count classes : ℕ)
    (lawful : (element : Element) → In element elements → IsLawfulElement classes element) (few_nodes : node_count elements ≤ MOST_NODES)
    (few_merges : merge_count elements ≤ MOST_MERGES) where
  so_far : List Addend
  so_far = flat_map (addends_in list labels) (take n elements)

  this : Element
  this = get_or elements n d

  here : IsLawfulElement classes this
  unfolding this
  here = lawful (get_or elements n d) (In-get_or elements n d inside)

  lawful_so_far : (addend : Addend) → In addend so_far → IsLawfulAmount classes addend.cap addend.measures
  unfolding so_far
  lawful_so_far = lawful_addend list labels classes (take n elements)
      (λ element h. All-In (IsLawfulElement classes) (take n elements) element
      (All-take (IsLawfulElement classes) n elements (All-from_In (IsLawfulElement classes) elements lawful)) h)

  -- there is room for the nodes of the next element
  pub room_for_nodes : {sums : List NodeSum} → HaveSums count classes (flat_map (addends_in list labels) (take n elements)) sums → {nodes : List NodeRec}
      → nodes ≡ (get_or elements n d).ext.nodes → HaveRoomForNodes nodes sums
  unfolding so_far this
  room_for_nodes {sums} have {nodes} all =
      let P : List NodeRec → Type 0 = λ l. HaveRoomForNodes l sums in
      let Q : ℕ → Type 0 = λ k. HaveSums k classes (flat_map (addends_in list labels) (take n elements)) sums in
      let few = count_so_far list labels elements n d inside in
      let room : HaveRoomFor (length this.ext.nodes) classes sums = record {
        addends = flat_map (addends_in list labels) (take n elements);
        have = subst Q (sym have.long) have;
        lawful = All-from_In (λ (addend : Addend). IsLawfulAmount classes addend.cap addend.measures)
            (flat_map (addends_in list labels) (take n elements)) lawful_so_far;
        few = omega (arith, few, few_nodes, few_merges);
      } in
      subst P (sym all) (classes, (room, lawful_nodes classes this here))

  -- and then for its merges
  pub room_for_merges : {sums : List NodeSum}
      → HaveSums count classes (flat_map (addends_in list labels) (take n elements) ++ node_addends list labels (get_or elements n d)) sums
      → {merges : List MergeRec} → merges ≡ (get_or elements n d).ext.merges → HaveRoomForMerges merges sums
  unfolding so_far this
  room_for_merges {sums} have {merges} all =
      let P : List MergeRec → Type 0 = λ l. HaveRoomForMerges l sums in
      let before = flat_map (addends_in list labels) (take n elements) in
      let more = node_addends list labels this in
      let Q : ℕ → Type 0 = λ k. HaveSums k classes (before ++ more) sums in
      let few = count_so_far list labels elements n d inside in
      let long = length-append before more in
      let many = length-map this.ext.nodes (node_addend list labels this) in
      let room : HaveRoomFor (length this.ext.merges) classes sums = record {
        addends = before ++ more;
        have = subst Q (sym have.long) have;
        lawful = All-from_In (λ (addend : Addend). IsLawfulAmount classes addend.cap addend.measures) (before ++ more)
            (λ addend h. elim (In-append_cases addend before more h) [
              | inl old ↦ lawful_so_far addend old
              | inr new ↦ lawful_node_addend list labels classes this here addend new
            ]);
        few = omega (arith, few, few_nodes, few_merges, long, many);
      } in
      subst P (sym all) (classes, (room, lawful_merges classes this here))
